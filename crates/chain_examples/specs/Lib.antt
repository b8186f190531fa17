pub mod Owners
pub mod Places
