pub mod Series
pub mod Runs
