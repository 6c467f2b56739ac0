-- The lemmas behind followed streams: a line tells one segment, the lines are read one by one, and so are the segments
-- made turns; close frames among frames; what stands for missing bytes; and the heads of both ends.
pub mod SegmentLines
pub mod ReadingSteps
pub mod TurnSteps
pub mod ClosingFrames
pub mod GapPlaces
pub mod HeadsOfEnds
