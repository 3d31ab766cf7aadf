-- What the contracts of this crate cite.
pub mod Appending
pub mod Records
