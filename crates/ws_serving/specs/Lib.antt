pub mod News
pub mod ClientEnds
pub mod EndNumbers
pub mod Serving
pub mod InnerGuests
pub mod InnerServing
