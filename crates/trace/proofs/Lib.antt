-- Laws of the trace.
pub mod Entries
pub mod Blocks
pub mod StepBlocks
pub mod WalkBlocks
pub mod Tracing
pub mod PlanTrace
pub mod Kept
pub mod Unique
pub mod Promised
