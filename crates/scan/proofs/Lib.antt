pub mod Filling
pub mod States
pub mod Arms
pub mod Whiles
pub mod Turns
pub mod Comments
pub mod Hexes
pub mod Numbering
