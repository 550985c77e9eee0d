pub mod Plans
pub mod Lines
pub mod Lengths
pub mod Fronts
