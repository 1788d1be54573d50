pub mod Words
pub mod Script
pub mod Line
pub mod Grammar
pub mod Answer
