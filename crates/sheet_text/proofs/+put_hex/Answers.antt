-- `sheet_text::put_hex` meets its contract. Assumes nothing.
use Rattle.std.proofs.Common.{sym, ap, ◌∙◌, arith, [], ◌∷◌, ◌-◌, ◌/◌, ℕ, rules}
use Rattle.sheet_text.specs.Bytes.{hex_digits}
use Rattle.sheet_text.proofs.Decimals.{hex-none, hex-more, length-hex}
use Rattle.sheet_text.proofs.Puts.{nothing, join, as-text}
use Rattle.sheet_text.proofs.+put_hex.Goals as goal

pub returns-then-k-eq0 : goal.returns-then-k-eq0
returns-then-k-eq0 t c =
    as-text (nothing c.args.line.now c.args.at) (sym (ap (λ (k : ℕ). hex_digits k c.args.n) c.if-k-eq0.true ∙ hex-none c.args.n))

pub put_byte-requires : goal.put_byte-requires
put_byte-requires t c =
    let k = c.put_hex-end.ensures in omega (arith, k.ends, k.kept, length-hex (c.args.k - 1) (c.args.n / 16))

pub returns : goal.returns
returns t c =
    as-text
    (join c.put_hex-end.ensures (as-text c.put_byte.ensures (ap (λ (d : ℕ). d ∷ []) c.hex_digit.ensures)))
    (sym (hex-more c.args.k c.args.n (search rules)))
