pub mod Table
pub mod Ordinal
pub mod Covered
pub mod Examples
pub mod Internal
