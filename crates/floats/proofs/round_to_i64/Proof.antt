-- `floats::round_to_i64` meets its contract: `proofs/Away.antt` has each of the five ways. Assumes nothing.
use Rattle.std.proofs.Common.{◌≡◌, ℕ, ◌^◌, ◌<◌, Bool, true, false, not, T, pos, neg_ℤ, sym, ap, ◌∙◌, subst, w64}
use lib.Ieee.{binary64, fits, of_bits, neg}
use mir.ValLaws.{to_z_pos}
use Rattle.floats.proofs.Away.{Within, at_top, at-bottom, above_zero, below-zero, value-above, value-below, no_sign, cast_fits, negated_fits, negated}
use Rattle.floats.proofs.round_to_i64.Statement.{statement}
use Rattle.floats.proofs.round_to_i64.Tie as tie

yes : {b : Bool} → b ≡ true → T b
yes h = subst T (sym h) tt

no : {b : Bool} → b ≡ false → T (not b)
no h = subst (λ (a : Bool). T (not a)) (sym h) tt

held : (c : tie.Start) → T (fits binary64 c.args.x)
held c = subst T (sym c.well_formed.0.1) tt

returns : tie.Need-returns-then-x
unfolding of_bits
returns c = at_top c.before.args.x (yes c.if-x.true)

returns-2 : tie.Need-returns-then-x-2
unfolding of_bits neg
returns-2 c = at-bottom c.before.before.args.x (yes c.if-x-2.true)

upper : (c : tie.Then-x-3) → Within c.before.before.before.args.x
unfolding of_bits
upper c = above_zero c.before.before.before.args.x (yes c.if-x-3.true) (no c.before.before.if-x.false)

lower : (c : tie.Then-x-4) → Within (neg c.before.before.before.before.args.x)
unfolding of_bits neg
lower c = below-zero c.before.before.before.before.args.x (yes c.if-x-4.true) (no c.before.before.if-x-2.false)

half-up-requires : tie.Need-half_up-requires
half-up-requires c κs = ((upper c).0, (upper c).1)

small : (c : tie.After-half_up) → c.half_up.result < 2 ^ 63
small c = let s = c.before.before.before.before in subst (λ (u : ℕ). u < 2 ^ 63) (sym c.half_up.ensures) (value-above s.args.x (held s) (upper c.before)).0

cast-result : tie.Need-overflow_cast-result
cast-result c = cast_fits c.half_up.result (small c)

returns-3 : tie.Need-returns-then-x-3
returns-3 c =
    let s = c.before.before.before.before in
    to_z_pos w64 c.half_up.result (small c) ∙ ap pos c.half_up.ensures ∙ (value-above s.args.x (held s) (upper c.before)).1

half-up-requires-2 : tie.Need-half_up-requires-then-x-4
half-up-requires-2 c κs = ((lower c).0, (lower c).1)

small2 : (c : tie.After-half_up-then-x-4) → c.half_up-then-x-4.result < 2 ^ 63
small2 c = let s = c.before.before.before.before.before in subst (λ (u : ℕ). u < 2 ^ 63) (sym c.half_up-then-x-4.ensures) (value-below s.args.x (held s) (lower c.before)).0

cast-result-2 : tie.Need-overflow_cast-result-then-x-4
cast-result-2 c = cast_fits c.half_up-then-x-4.result (small2 c)

sub-result : tie.Need-overflow_sub-result
sub-result c = negated_fits c.half_up-then-x-4.result (small2 c)

returns-4 : tie.Need-returns-then-x-4
returns-4 c =
    let s = c.before.before.before.before.before in
    negated c.half_up-then-x-4.result (small2 c) ∙ ap (λ (u : ℕ). neg_ℤ (pos u)) c.half_up-then-x-4.ensures ∙ (value-below s.args.x (held s) (lower c.before)).1

returns-5 : tie.Need-returns
unfolding of_bits
returns-5 c = no_sign c.before.before.before.before.args.x (no c.before.if-x-3.false) (no c.if-x-4.false)

pub round_to_i64_spec : {M : Type 1} → statement M
round_to_i64_spec = tie.close (tie.spec returns returns-2 half-up-requires cast-result returns-3 half-up-requires-2 cast-result-2 sub-result returns-4 returns-5)
