pub mod Sent
pub mod Starred
