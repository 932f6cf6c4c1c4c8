pub mod GraphTexts
pub mod Reading
