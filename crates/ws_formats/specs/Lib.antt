pub mod Words
pub mod Lines
pub mod QuotedText
pub mod Reading
pub mod Examples
