pub mod Laws
pub mod Specs
pub mod Forms
pub mod Shapes
pub mod Levels
pub mod Methods
pub mod Bounds
