pub mod WalkLoop
pub mod Outcome
pub mod Places
pub mod Stop
pub mod Partition
pub mod FourBytes
