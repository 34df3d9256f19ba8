pub mod Turns
pub mod Walks
pub mod Filled
pub mod Left
pub mod Passed
pub mod Sound
