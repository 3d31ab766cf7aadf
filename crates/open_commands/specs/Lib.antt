pub mod Lists
pub mod Phases
pub mod Places
pub mod Views
