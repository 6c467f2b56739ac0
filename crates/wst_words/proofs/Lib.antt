-- The lemmas behind the words of the command line: what clap finds in them asks for one task, or for nothing.
pub mod WordLemmas
pub mod OtherTasks
