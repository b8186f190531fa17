pub mod LinePolygons
pub mod RingTexts
