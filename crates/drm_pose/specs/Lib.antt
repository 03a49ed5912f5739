pub mod Moment
pub mod Chain
pub mod Reach
pub mod Boxes
pub mod Enclosure
pub mod Widths
pub mod Promises
pub mod Laws
