-- The lemmas behind a script of calls: it is read line by line, each call is made, and what came of it is told.
mod PassedUp
mod CallWords
mod TakeLines
mod Placed
mod Parts
mod PartByPart
mod Sending
mod Answering
pub mod Making
pub mod Ending
