pub mod Number
pub mod Product
