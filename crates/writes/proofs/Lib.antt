pub mod Lengths
pub mod Masking
pub mod Storing
