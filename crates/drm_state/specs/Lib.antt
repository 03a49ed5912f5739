pub mod Scene
pub mod Edit
