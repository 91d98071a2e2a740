-- The claim about histories for PanakoIndex, what holds of refused calls, of other sets, and of replacements.
pub mod Demand3
pub mod Refusals
pub mod Sets
pub mod Replacement
