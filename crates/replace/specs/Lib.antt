-- What is asked of a store in which a recording is replaced.
pub mod Replace
