pub mod Wheels
pub mod Things
pub mod Binding
