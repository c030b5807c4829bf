pub mod Near
pub mod Sections
pub mod Parts
pub mod StageWords
pub mod BehindEnd
pub mod Kinds
pub mod Laws
