pub mod Draft
pub mod Follows
pub mod Given
pub mod Held
pub mod Kept
pub mod PlainLines
pub mod Reach
