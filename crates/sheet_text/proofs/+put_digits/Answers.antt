-- `sheet_text::put_digits` meets its contract. Assumes nothing.
use Rattle.std.proofs.Common.{sym, ap, arith, length, [], ◌∷◌, ℕ, List}
use Rattle.sheet_text.proofs.Decimals.{decimal-small, decimal-more, length_more}
use Rattle.sheet_text.proofs.Puts.{join, as-text}
use Rattle.sheet_text.proofs.+put_digits.Goals as goal

pub put_byte-requires : goal.put_byte-requires
put_byte-requires t c = omega (arith, ap (λ (l : List ℕ). length l) (decimal-small c.args.n c.if-n-lt10.true))

pub returns-then-n-lt10 : goal.returns-then-n-lt10
returns-then-n-lt10 t c =
    as-text (as-text c.put_byte.ensures (ap (λ (d : ℕ). d ∷ []) c.digit.ensures)) (sym (decimal-small c.args.n c.if-n-lt10.true))

pub put_digits-end-requires : goal.put_digits-end-requires
put_digits-end-requires t c = (omega arith, omega (arith, length_more c.args.n c.if-n-lt10.false))

pub put_byte-requires-2 : goal.put_byte-requires-2
put_byte-requires-2 t c = let k = c.put_digits-end.ensures in omega (arith, k.ends, k.kept, length_more c.args.n c.if-n-lt10.false)

pub returns : goal.returns
returns t c =
    as-text
    (join c.put_digits-end.ensures (as-text c.put_byte-2.ensures (ap (λ (d : ℕ). d ∷ []) c.digit-2.ensures)))
    (sym (decimal-more c.args.n c.if-n-lt10.false))
