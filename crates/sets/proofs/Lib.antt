pub mod BinaryDigits
pub mod Bools
pub mod Laws
pub mod Looks
pub mod OneOf
pub mod PageSets
