pub mod Extents
pub mod Apart
pub mod Partition
