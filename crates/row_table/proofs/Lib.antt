mod Entry
mod Table
pub mod Rule
