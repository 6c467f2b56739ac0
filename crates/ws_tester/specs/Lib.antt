pub mod Standings
pub mod Outgoings
pub mod RunStates
pub mod Outcomes
pub mod Following
pub mod Records
