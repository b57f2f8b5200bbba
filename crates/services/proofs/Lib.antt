pub mod Serving
pub mod Choosing
