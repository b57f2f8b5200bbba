pub mod First
pub mod Paths
pub mod Nth
pub mod Reading
