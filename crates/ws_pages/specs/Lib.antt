pub mod PageText
pub mod NamedTexts
pub mod ShortNames
pub mod LastResults
pub mod Page
pub mod Examples
pub mod Views
