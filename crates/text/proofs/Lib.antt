-- Laws of the lines of a listing.
pub mod Fields
pub mod Spelled
pub mod DecimalDigits
pub mod HexDigits
pub mod StepLines
pub mod PlanLines
pub mod ValueLine
