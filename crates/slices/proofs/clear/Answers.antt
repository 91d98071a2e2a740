-- `slices::clear` meets its contract. Assumes nothing.
use Rattle.std.proofs.Common.{◌≡◌, List, ℕ, ◌+◌, ◌-◌, ◌≤◌, length, take, drop, replicate, length-take, length-drop, arith}
use borrow.Rule.Slice.PartMut.{put_mid}
use lib.Seq.{drop-drop}
use Rattle.slices.specs.Parts.{cleared}
use Rattle.slices.proofs.clear.Goals as goal

-- a part that is filled with zeros
fill-part : (s : List ℕ) (a b : ℕ) (x : List ℕ) → a ≤ b → b ≤ length s → x ≡ replicate (length (take (b - a) (drop a s))) 0 → put_mid a (b - a) s x ≡ cleared s a b
unfolding cleared
fill-part s a b x h k e =
    let l : length (take (b - a) (drop a s)) ≡ b - a = simp (length-take, length-drop) (omega arith) in
    let f : a + (b - a) ≡ b = omega arith in
    rw (e, l, drop-drop (b - a) a s, f)

pub returns : goal.returns
returns c = fill-part c.args.s.now c.args.a c.args.b c.fill.new.self (omega arith) (omega arith) (c.fill.ensures.after (λ y h. h))
