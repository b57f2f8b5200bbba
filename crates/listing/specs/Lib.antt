pub mod Numbers
pub mod Values
pub mod Objects
pub mod Templates
pub mod Entries
pub mod Pages
