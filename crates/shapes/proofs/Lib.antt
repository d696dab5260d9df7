pub mod Series
pub mod Dims
pub mod Runs
pub mod Laws
