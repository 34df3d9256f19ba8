pub mod Table
pub mod Query
