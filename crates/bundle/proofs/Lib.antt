pub mod Input
pub mod Found
pub mod Made
