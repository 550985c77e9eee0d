-- The lemmas by which the rules show their laws. Nobody has to believe them.
pub mod Lowering
pub mod Lawful
pub mod Rounding
pub mod Asked
pub mod Tests
pub mod Sums
pub mod Moments
pub mod HarmonicTimely
pub mod Counts
pub mod Since
pub mod Track
pub mod Ticks
pub mod Spacing
pub mod Chain
pub mod ResponseTimely
pub mod Start
pub mod Passed
