pub mod Answered
pub mod Counted
pub mod Entering
pub mod Marked
pub mod Placed
