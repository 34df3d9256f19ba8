pub mod Fields
pub mod Internal
