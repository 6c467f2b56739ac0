pub mod Text
pub mod Stream
pub mod Close
pub mod Words
pub mod Examples
pub mod InnerStep
