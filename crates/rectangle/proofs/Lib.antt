pub mod RectangleLaws
pub mod RectangleExactly
pub mod CoordinatesCounted
