-- The lemmas behind targets: an authority is cut in one way, and a word names one target.
mod Cuts
mod Advising
mod Reading
