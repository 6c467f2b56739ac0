pub mod ServedLines
pub mod Serve
pub mod Head
pub mod Tapping
