pub mod Internal
pub mod Fits
