pub mod Laws
pub mod Regrouped
