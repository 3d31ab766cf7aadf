pub mod Differences
pub mod Printed
