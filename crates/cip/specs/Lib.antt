pub mod Statuses
pub mod Writes
