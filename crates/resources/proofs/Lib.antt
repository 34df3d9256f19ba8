pub mod InBlock
pub mod Blocks
pub mod Walk
pub mod Answers
pub mod Bounds
