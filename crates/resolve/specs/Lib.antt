pub mod Places
pub mod Paths
pub mod Runs
pub mod Starts
pub mod Steps
pub mod Answers
