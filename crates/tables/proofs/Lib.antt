pub mod Turns
pub mod Induction
pub mod Query
