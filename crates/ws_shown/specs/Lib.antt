pub mod MarkedLines
pub mod LineRooms
pub mod TurnsTold
pub mod ShownTesters
pub mod ShownRuns
pub mod ShownProbes
