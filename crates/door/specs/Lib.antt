pub mod Asked
pub mod Operations
pub mod Extents
pub mod Places
pub mod Ready
