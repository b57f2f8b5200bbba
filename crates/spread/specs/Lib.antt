pub mod Spread
pub mod Keys
