pub mod LostClients
pub mod Tokens
