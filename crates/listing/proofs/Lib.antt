pub mod Writing
pub mod Digits
pub mod Slots
pub mod Passed
pub mod ByBundle
pub mod Walks
pub mod Bound
pub mod Examples
