pub mod Site
pub mod Walk
pub mod Prepared
pub mod Step
pub mod Sound
pub mod BadSite
pub mod Exact
