-- The lemmas behind clients that are served: the numbers of those whose ends were told, what is told of them step by
-- step, and the echoes that are played to them.
pub mod EndLemmas
pub mod StepLemmas
pub mod GuestLemmas
