pub mod Places
pub mod Targets
pub mod Reading
pub mod Advice
pub mod Examples
