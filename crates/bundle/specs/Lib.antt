pub mod Bundle
pub mod Values
pub mod Internal
