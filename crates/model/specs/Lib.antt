-- The model of WangIndex and PanakoIndex, in the order in which it is read:
-- what the words of a fingerprint say (Fingerprints), and what a recording's row holds (Rows); the index on plain lists, and what an
-- accepted call leaves of it (Index); what a query answers (Query); the six calls, with their refusals (Calls); the store's three
-- slices of words (Words), when an index is sound (Sound), and when words are (Soundness); the calls on words (Run); the calls seen
-- from outside (History); what holds of refused ones (Refusals); demand 3 (Claim), and worked examples of it (Changes); that other sets
-- alter no answer (Sets); what a replacement has to do with a removal and an insertion (Replacement). Loading is for request Eleven.
pub mod Fingerprints
pub mod Rows
pub mod Index
pub mod Query
pub mod Calls
pub mod Words
pub mod Sound
pub mod Soundness
pub mod Run
pub mod History
pub mod Refusals
pub mod Claim
pub mod Changes
pub mod Sets
pub mod Replacement
pub mod Loading
