pub mod Offsets
pub mod Turns
pub mod Going
pub mod Placing
pub mod Dispatching
pub mod Entered
