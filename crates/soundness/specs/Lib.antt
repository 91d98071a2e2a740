-- The tests of soundness as they are made, pass by pass.
pub mod Scan
