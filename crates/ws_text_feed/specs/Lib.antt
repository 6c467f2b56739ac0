pub mod Feeding
pub mod FeedingLines
pub mod Taking
