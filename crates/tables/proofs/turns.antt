pub mod Laws
pub mod Lying
