pub mod Asked
pub mod Whole
pub mod Parts
pub mod Lists
pub mod Turns
pub mod Short
