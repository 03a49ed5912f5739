pub mod Near
pub mod Swept
pub mod Taken
pub mod Runs
pub mod Piece
pub mod Laws
