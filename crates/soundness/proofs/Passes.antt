-- The laws of tests that a pass makes one by one. Assumes nothing.
use Rattle.lists.proofs.Every.{every-none, every_more, every-fail, count_none, count_yes, count_no, count-le}

pub ruleset passes = (every-none, every_more, every-fail, count_none, count_yes, count_no, count-le)
