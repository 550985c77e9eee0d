pub mod Placements
pub mod Placing
pub mod CoreLoads
pub mod Steps
pub mod Sound
pub mod Plans
pub mod Fits
pub mod Examples
