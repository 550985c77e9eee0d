pub mod Orderly
pub mod Small
pub mod Greatest
pub mod ResponseShare
pub mod HarmonicShare
pub mod Capped
pub mod Worked
