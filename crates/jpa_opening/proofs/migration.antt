-- ---- the code
pub mod Attributes
pub mod OneChange
pub mod Adding
pub mod Placed
pub mod Roots
pub mod Sorting
pub mod Untouched
-- ---- the plan of a root
pub mod Planned
pub mod Columns
pub mod Apart
pub mod Hierarchies
pub mod RowColumns
pub mod Differing
pub mod RootRows
-- ---- laws
pub mod Laws
pub mod Written
-- ---- worked examples
mod Sample
mod Examples
