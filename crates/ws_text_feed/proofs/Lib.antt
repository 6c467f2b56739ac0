-- The lemmas behind texts that are fed piece by piece.
pub mod Fed
pub mod FedLines
