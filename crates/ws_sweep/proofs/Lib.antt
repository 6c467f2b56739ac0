-- The lemmas behind a sweep: the numbers of short scripts follow their order, and each of these scripts can
-- be run, and its lines are those of its case.
pub mod Numbers
pub mod OrderLaws
pub mod Sending
pub mod Ends
pub mod Running
pub mod Lines
