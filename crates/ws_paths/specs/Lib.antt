pub mod Paths
pub mod Texts
pub mod Standings
pub mod Telling
pub mod Examples
pub mod NamingCases
