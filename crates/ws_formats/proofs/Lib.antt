-- The lemmas behind words and lines: a word tells one value, a line is its words, and a text is damaged at one line.
pub mod PassedUp
pub mod HexWords
pub mod HexByBlocks
pub mod HexLanes
pub mod HexReads
pub mod DigitLanes
pub mod NumberWords
pub mod DamagedLines
pub mod PartialTexts
pub mod LineWords
pub mod LetterLines
pub mod QuotedTexts
