pub mod Lefts
pub mod Indexes
pub mod Rows
pub mod Looks
pub mod Starting
pub mod Stepping
pub mod Answering
