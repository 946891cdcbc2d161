pub mod Applied
pub mod Attached
pub mod Closed
pub mod Going
pub mod Opened
pub mod Refused
pub mod Swept
pub mod Totals
