pub mod Triangulations
pub mod CornerIndexes
pub mod Clippings
pub mod Polygons
