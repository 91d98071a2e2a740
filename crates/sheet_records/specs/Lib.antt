-- The step on one record of a card.
pub mod Step
