-- What the contracts of this crate cite.
pub mod Bytes
pub mod Cut
pub mod Rfc4180
