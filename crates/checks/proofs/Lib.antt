pub mod Impossible
pub mod Checks
pub mod Tests
