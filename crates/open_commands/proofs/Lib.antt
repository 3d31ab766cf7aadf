pub mod Best
pub mod Destinations
pub mod Keyed
pub mod Lists
