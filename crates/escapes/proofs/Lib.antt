pub mod Apart
pub mod Writing
pub mod Words
