pub mod Networks
pub mod Bounds
pub mod Connecting
pub mod NetworkLoops
pub mod Listening
pub mod Meetings
