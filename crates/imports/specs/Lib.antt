pub mod Module
pub mod Values
pub mod InImage
