-- The lemmas behind a title: each step of the search takes the next row, or the next part, from what is left.
mod Searches
