pub mod XmlTexts
pub mod Documents
