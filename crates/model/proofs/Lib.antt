pub mod Due
pub mod Laws
pub mod Lent
