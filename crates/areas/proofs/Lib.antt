-- Laws of areas: a cursor walks an area, an area in a part of an image, how much its extents hold, and the rows of the worked table.
pub mod AreaLaws
pub mod PartLaws
pub mod TotalLaws
pub mod Table
pub mod FrontLaws
