pub mod Loads
pub mod Timing
pub mod Rules
pub mod Laws
pub mod Examples
pub mod Walk
pub mod Bounds
pub mod Lemmas
