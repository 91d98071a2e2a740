-- `query_search::part_of`: the part lies in the postings. Assumes nothing.
use Rattle.std.proofs.Common.{◌≡◌, ℕ, ◌+◌, ◌-◌, ◌*◌, ◌≤◌, true, List, take, drop, sym, refl, mul-le-mul_left, arith}
use Rattle.lists.specs.Lists.{flat}
use Rattle.lists.specs.Keys.{under}
use Rattle.lists.specs.Entries.{entries, key_of, keys_ascend}
use Rattle.maps.specs.Entries.{first_at}
use Rattle.maps.proofs.Entries.{first-splits, first-le, under-part}
use Rattle.query_search.proofs.part_of.Goals as goal

module _ (ps : List ℕ) (w p a e key : ℕ) (t : keys_ascend ps w p ≡ true) (ea : a ≡ w * first_at ps w p key) (ee : e ≡ w * first_at ps w p (key + 1)) where
  inside : (n : ℕ) → w * p ≤ n → (a ≤ e) × (e ≤ n)
  inside n fits = (omega (arith, mul-le-mul_left w (first-le ps w p key t)), omega (arith, mul-le-mul_left w (first-splits ps w p (key + 1) t).within))

  part-is : 1 ≤ w → take (e - a) (drop a ps) ≡ flat (under key_of key (entries w p ps))
  part-is w1 = rw (ea, ee) (sym (under-part ps w p key (first_at ps w p key) (first_at ps w p (key + 1)) w1 t refl refl))

pub slice_bounds-result-count : goal.slice_bounds-result-count
slice_bounds-result-count c =
    let l = inside _ _ _ _ _ _ c.requires.2 c.requires.3 c.requires.4 _ c.requires.1 in omega (arith, l.0, l.1)

pub slice_bounds-result-end : goal.slice_bounds-result-end
slice_bounds-result-end c =
    let l = inside _ _ _ _ _ _ c.requires.2 c.requires.3 c.requires.4 _ c.requires.1 in omega (arith, l.0, l.1)

pub slice_bounds-result-start : goal.slice_bounds-result-start
slice_bounds-result-start c =
    let l = inside _ _ _ _ _ _ c.requires.2 c.requires.3 c.requires.4 _ c.requires.1 in omega (arith, l.0, l.1)

pub returns : goal.returns
returns c = part-is _ _ _ _ _ _ c.requires.2 c.requires.3 c.requires.4 c.requires.0
