-- `maps::part_at` meets its contract. Assumes nothing.
use Rattle.std.proofs.Common.{◌≡◌, List, ℕ, ◌+◌, ◌*◌, ◌≤◌, true, sym, mul-le-mul_left, arith}
use Rattle.lists.specs.Entries.{keys_ascend}
use Rattle.maps.specs.Entries.{first_at}
use Rattle.maps.proofs.Entries.{first-splits, first-le, under-part}
use Rattle.maps.proofs.part_at.Goals as goal

-- the part from entry a to entry e lies in the postings
inside : (ps : List ℕ) (w p key a e : ℕ) → keys_ascend ps w p ≡ true → a ≡ first_at ps w p key → e ≡ first_at ps w p (key + 1) → (w * a ≤ w * e) × (w * e ≤ w * p)
inside ps w p key a e t ea ee = (
  mul-le-mul_left w (omega (arith, first-le ps w p key t)),
  mul-le-mul_left w (omega (arith, (first-splits ps w p (key + 1) t).within)),
)

pub overflow_mul-result : goal.overflow_mul-result
overflow_mul-result c = let b = inside _ _ _ _ _ _ c.requires.2 c.requires.3 c.end_from-e.ensures in omega (arith, b.0, b.1)

pub overflow_mul-result-2 : goal.overflow_mul-result-2
overflow_mul-result-2 c = let b = inside _ _ _ _ _ _ c.requires.2 c.requires.3 c.end_from-e.ensures in omega (arith, b.0, b.1)

pub offset_bounds-posts-w : goal.offset_bounds-posts-w
offset_bounds-posts-w c = let b = inside _ _ _ _ _ _ c.requires.2 c.requires.3 c.end_from-e.ensures in omega (arith, b.0, b.1)

pub slice_bounds-result-count : goal.slice_bounds-result-count
slice_bounds-result-count c = let b = inside _ _ _ _ _ _ c.requires.2 c.requires.3 c.end_from-e.ensures in b.0

pub slice_bounds-result-start : goal.slice_bounds-result-start
slice_bounds-result-start c = let b = inside _ _ _ _ _ _ c.requires.2 c.requires.3 c.end_from-e.ensures in omega (arith, b.0, b.1)

pub slice_bounds-result-end : goal.slice_bounds-result-end
slice_bounds-result-end c = let b = inside _ _ _ _ _ _ c.requires.2 c.requires.3 c.end_from-e.ensures in omega (arith, b.0, b.1)

pub returns : goal.returns
returns c = sym (under-part _ _ _ _ _ _ c.requires.0 c.requires.2 c.requires.3 c.end_from-e.ensures)
