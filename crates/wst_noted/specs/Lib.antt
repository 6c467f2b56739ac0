pub mod HeadWriting
pub mod TimedLines
