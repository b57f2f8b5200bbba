pub mod Answers
pub mod Services
