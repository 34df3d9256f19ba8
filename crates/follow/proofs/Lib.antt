pub mod Pass
pub mod Marks
pub mod Walks
