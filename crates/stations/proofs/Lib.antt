pub mod Playing
pub mod Together
