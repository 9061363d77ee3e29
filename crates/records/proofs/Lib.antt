pub mod Bytes
pub mod GuestLook
pub mod Meant
pub mod Parts
pub mod Tests
pub mod WritePass
