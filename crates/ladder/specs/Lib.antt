-- What a reader must believe: first the lists that it needs, then in the order of the rules: numbers, the state matrix and its
-- step, plans, encoding, trace, registers, the paused walk, the plan file, refusals, the listing.
--
-- Rows, columns, places, steps and bits of a step are counted from 0 in these files; the rules count them from 1, and so do
-- the bytes and words that a call gets and gives. Each comment gives the rules' number where the two differ.
pub mod Lists
pub mod Numbers
pub mod Matrix
pub mod Plan
pub mod Encoding
pub mod Trace
pub mod Registers
pub mod Walk
pub mod PlanFile
pub mod Refusals
pub mod Listing
-- Not to be believed: what only inner contracts need.
pub mod Inner
