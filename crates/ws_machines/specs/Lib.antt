pub mod Told
pub mod Machines
pub mod Eithers
pub mod Exchanges
