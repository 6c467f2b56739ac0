pub mod Resuming
pub mod Meetings
pub mod Connecting
pub mod Listening
pub mod Waiting
pub mod Examples
