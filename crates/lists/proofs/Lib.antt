pub mod All
pub mod Order
pub mod Distinct
pub mod Each
