pub mod Cells
pub mod Following
pub mod Reports
pub mod Runs
pub mod Scripts
pub mod Told
pub mod Writing
