-- The lemmas behind frames on the wire: length fields, masking, headers, and that bytes split into frames in one way.
pub mod Numbers
pub mod Masks
pub mod HeaderLengths
pub mod Headers
pub mod HeaderSize
pub mod Splits
pub mod Frames
