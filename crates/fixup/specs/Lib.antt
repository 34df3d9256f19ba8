pub mod Record
pub mod Target
pub mod Resolves
pub mod Action
