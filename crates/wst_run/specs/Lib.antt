pub mod Test
pub mod Send
pub mod SendNoted
pub mod Sweep
pub mod Tap
pub mod ClientRuns
pub mod ClientSweeps
pub mod Run
