pub mod Pushes
pub mod Unlike
