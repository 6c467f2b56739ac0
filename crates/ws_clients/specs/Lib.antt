pub mod Leaving
pub mod Talks
pub mod Clients
pub mod Numbers
pub mod Counting
