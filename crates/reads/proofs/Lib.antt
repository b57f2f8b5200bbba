pub mod Aiming
pub mod Lengths
pub mod Reading
