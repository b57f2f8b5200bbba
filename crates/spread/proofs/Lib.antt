pub mod Order
pub mod Keyed
