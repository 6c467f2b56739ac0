-- The lemmas behind texts: characters and unfinished ones, texts in pieces, what a text wants, and close payloads.
pub mod Characters
pub mod UnfinishedCharacters
pub mod Texts
pub mod Pieces
pub mod Wanted
pub mod Closes
pub mod NoTexts
