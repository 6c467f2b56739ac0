pub mod Script
pub mod Calls
pub mod CallLines
pub mod Runs
pub mod Examples
pub mod InnerSteps
