pub mod Lists
pub mod Sizes
pub mod Rows
