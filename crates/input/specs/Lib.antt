pub mod Rows
pub mod Text
pub mod Lines
pub mod Options
pub mod Clicks
