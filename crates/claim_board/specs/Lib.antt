pub mod Deal
pub mod Views
pub mod Rule
pub mod Board
