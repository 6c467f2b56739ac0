-- The lemmas behind the lines of a transcript: each call tells its turn, and a transcript has one text.
mod Directions
mod Texts
mod Tellings
mod Wholes
mod Alone
mod LineMarks
