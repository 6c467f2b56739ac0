-- The lemmas about pages: texts that are written one after the other, that what the input has on a page begins nothing,
-- and which line is in which cell.
mod Texts
mod Walks
mod Namings
mod Groups
mod Marked
mod SameMarks
mod PageLemmas
mod CellLaws
