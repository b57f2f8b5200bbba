pub mod Lists
pub mod Looking
pub mod Packing
