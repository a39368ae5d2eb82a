pub mod Deck
pub mod Digits
pub mod Numbered
