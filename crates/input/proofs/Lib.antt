pub mod Rows
pub mod Text
pub mod Digits
pub mod Parsing
pub mod Worked
pub mod Words
pub mod Joining
