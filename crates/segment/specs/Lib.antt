pub mod Segment
pub mod Values
pub mod InImage
