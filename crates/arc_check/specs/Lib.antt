pub mod EventWords
pub mod Scopes
pub mod EventForms
pub mod EventTexts
pub mod Reading
pub mod WrittenHistory
pub mod Behind
pub mod Verdicts
