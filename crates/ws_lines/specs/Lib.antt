pub mod TurnLines
pub mod Telling
pub mod Examples
