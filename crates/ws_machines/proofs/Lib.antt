-- The lemmas behind a machine and its stream: what both were told, and an exchange.
pub mod RunLemmas
pub mod ExchangeLemmas
