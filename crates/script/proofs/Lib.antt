mod Complete
mod Cutting
pub mod Digits
mod Meaning
pub mod Means
mod Numerals
