pub mod Steps
pub mod Soundness
pub mod SoundPlans
pub mod Behind
pub mod HarmonicExact
pub mod WholeLoads
pub mod Worked
