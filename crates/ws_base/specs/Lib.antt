pub mod FaultWords
pub mod Bytes
pub mod Finding
pub mod InnerKept
