pub mod Regions
pub mod Harts
pub mod Room
