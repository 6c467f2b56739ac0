pub mod Onces
pub mod Relayed
pub mod EndPlaces
pub mod Connections
pub mod Tappings
pub mod TappedEnds
pub mod InnerRelays
pub mod InnerTapping
