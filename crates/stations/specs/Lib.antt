pub mod Held
pub mod Played
pub mod Together
