pub mod Fields
pub mod Targets
pub mod Resolves
pub mod Agree
