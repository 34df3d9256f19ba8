pub mod Went
pub mod Entries
pub mod Widths
pub mod Why
pub mod Rest
pub mod Sized
