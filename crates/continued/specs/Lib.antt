pub mod Reads
pub mod Pages
pub mod Point3
pub mod Program
pub mod Clicks
