pub mod SameText
pub mod Listed
pub mod Numbers
pub mod Walk
pub mod Answers
pub mod Bounds
pub mod Walked
