-- The lemmas behind two ends of a link: moves are answered in one way, and what is claimed of both ends follows.
mod KeptLemmas
mod PassedUp
mod MoveWords
mod OnePlay
mod Told
mod Bytes
mod Ends
mod Acting
mod Joined
mod Headlines
mod Parts
mod Stepping
mod Putting
