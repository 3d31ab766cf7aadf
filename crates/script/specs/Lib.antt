pub mod Faults
pub mod Fields
pub mod Numbers
pub mod Steps
pub mod Texts
