pub mod Resource
pub mod Values
pub mod InImage
pub mod Internal
