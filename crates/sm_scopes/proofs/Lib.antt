pub mod Wheels
pub mod Names
pub mod Binding
pub mod Copying
pub mod Within
