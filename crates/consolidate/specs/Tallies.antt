-- The mode, one offset at a time. Definitions only. Assumes nothing.
use Rattle.std.specs.Prelude.{ℕ, ◌+◌, cond, Option, Some, None, ℤ, pos, ◌+ℤ◌, ltb, eqb}
use Rattle.consolidate.specs.Modes.{nearest_mean}
use Rattle.consolidate.specs.declared.Tally.{Tally}

-- the greatest count, how many offsets have it, and their sum, with the count v of the offset d; a count of 0 is none
abbrev pub tally_of : Tally → ℕ → ℤ → Tally
tally_of t v d =
    cond (eqb v 0) t
    (cond (ltb t.best v) (record { best = v; count = 1; sum = d })
    (cond (eqb v t.best) (record { best = t.best; count = t.count + 1; sum = t.sum +ℤ d }) t))

-- that of no offset
abbrev pub no_tally : Tally
no_tally = record { best = 0; count = 0; sum = pos 0 }

-- the mean of the offsets with the greatest count, if that is above 0
abbrev pub mode_of : Tally → Option ℤ
mode_of t = cond (eqb t.best 0) None (Some (nearest_mean t.sum t.count))
