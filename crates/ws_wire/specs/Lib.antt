pub mod Header
pub mod Opcode
pub mod Reading
pub mod Masking
pub mod Frame
pub mod Stream
pub mod Examples
pub mod InnerParts
