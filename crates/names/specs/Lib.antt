pub mod Text
pub mod Names
pub mod Values
pub mod InImage
pub mod Internal
