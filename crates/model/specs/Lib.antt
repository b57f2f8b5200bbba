pub mod Least
pub mod Rows
pub mod Shapes
pub mod Tables
