pub mod Checks
pub mod Internal
pub mod Onward
