pub mod Jobs
pub mod Ticks
pub mod Walk
pub mod Ends
pub mod Bounds
pub mod Examples
