pub mod Attributes
pub mod Ids
pub mod Marks
pub mod Rows
pub mod States
pub mod Unsettled
