pub mod StringBounds
pub mod ComingTogether
