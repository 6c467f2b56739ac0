-- The lemmas behind sockets: what was written, the port of an address, and that waits are told once.
pub mod WrittenLemmas
mod WaitLemmas
mod PortLemmas
