-- The lemmas behind the lines of a stream that comes piece by piece or byte by byte, to the end of a run.
pub mod Written
pub mod TestDeviceLemmas
pub mod Fronts
pub mod LineLemmas
pub mod DecimalDigits
pub mod KindTable
pub mod Partials
pub mod Runs
pub mod RunEnds
pub mod Streams
pub mod OneByte
pub mod PutFrames
pub mod EitherWay
pub mod MarksAhead
