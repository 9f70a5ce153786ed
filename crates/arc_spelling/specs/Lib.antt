pub mod Spelling
pub mod SpellingGains
pub mod SpellingTies
pub mod SpellingInOrder
pub mod SpellingLaws
