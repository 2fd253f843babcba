pub mod Request
pub mod App
