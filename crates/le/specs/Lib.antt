pub mod Number
pub mod Slice
