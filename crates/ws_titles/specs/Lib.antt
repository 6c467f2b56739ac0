pub mod TitleTable
pub mod Titles
pub mod GroupTitles
