pub mod Bounds
pub mod Numbered
pub mod Onward
pub mod Why
