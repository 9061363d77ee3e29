pub mod Named
pub mod Ready
pub mod Placeless
pub mod Bare
