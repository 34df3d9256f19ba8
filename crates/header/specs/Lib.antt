pub mod Header
pub mod Inside
pub mod Values
