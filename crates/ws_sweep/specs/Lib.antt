pub mod Alphabet
pub mod Order
pub mod ShortCases
pub mod Telling
pub mod Examples
pub mod InnerLaws
pub mod InnerFronts
