pub mod Holding
pub mod Neighbours
