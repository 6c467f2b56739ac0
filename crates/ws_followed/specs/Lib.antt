pub mod Segments
pub mod Followed
pub mod InnerReading
pub mod Gaps
pub mod Turns
pub mod Closes
pub mod Conversion
pub mod InnerConversion
