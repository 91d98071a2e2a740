-- The vacant entries: marks of the ids that were named. Assumes nothing.
use mathlib.Core.Path.{◌≡◌, sym, ap, ◌∙◌}
use mathlib.Core.Bool.{Bool, true, false, not, and-true, and-false}
use mathlib.Core.List.{List}
use Prim.Native.Nat.{ℕ, ◌+◌, ◌≤◌, ◌<◌}
use native.Mathlib.Omega.{arith}
use native.Mathlib.Numerals.{add-one}
use native.Mathlib.Decide.{ℕ_discrete}
use lib.ListN.{length, get_or, set, length-set, replicate, length-replicate, get_or-replicate}
use lib.Seq.{get_or-set_same, get_or-set_other}
use borrow.Author.Tests.{lt-ltb, le-ltb, eq-eqb, ne_eqb}
use Rattle.lists.specs.Every.{every}
use Rattle.lists.proofs.Tests.{test}
use Rattle.lists.proofs.Every.{every-none, every-suc, every-same}
use Rattle.model.specs.Soundness.{row_word, other_entry, vacant_entry}
use Rattle.soundness.specs.Scan.{other_than, unnamed}
use Rattle.model.proofs.Facts.{is-dead, not_dead}
use Rattle.model.specs.Words.{at_live, at_vacant}

other-yes : (rs : List ℕ) (x i : ℕ) → (row_word rs i at_vacant ≡ x → ⊥) → other_than rs x i ≡ true
unfolding other_than
other-yes rs x i h = rw (ne_eqb (row_word rs i at_vacant) x h)

other-no : (rs : List ℕ) (x i : ℕ) → row_word rs i at_vacant ≡ x → other_than rs x i ≡ false
unfolding other_than
other-no rs x i h = rw (eq-eqb (row_word rs i at_vacant) x h)

-- the marks after j vacant entries: the ids that one of them names
pub record Marked (rs : List ℕ) (marks : List Bool) (j : ℕ) : Type 0 where
  pub len : length marks ≡ 4096
  pub mark : (x : ℕ) → x < 4096 → get_or marks x false ≡ not (unnamed rs j x)

pub marked-none : (rs : List ℕ) → Marked rs (replicate 4096 false) 0
unfolding unnamed
marked-none rs = record {
  len = length-replicate {A = Bool} 4096 false;
  mark = λ x h. get_or-replicate {A = Bool} 4096 x false false h ∙ rw (every-none (other_than rs x));
}

module _ (rs : List ℕ) (marks : List Bool) (j x : ℕ) (m : Marked rs marks j) (h : x < 4096) where
  pub marked-free : get_or marks x false ≡ false → unnamed rs j x ≡ true
  marked-free z = test (unnamed rs j x) (λ e. e) (λ e. let k = m.mark x h in cc)

  pub marked-taken : get_or marks x false ≡ true → unnamed rs j x ≡ false
  marked-taken z = test (unnamed rs j x) (λ e. let k = m.mark x h in cc) (λ e. e)

  pub marked_more : row_word rs j at_vacant ≡ x → Marked rs (set marks x true) (j + 1)
  unfolding unnamed
  marked_more e = record {
    len = simp length-set m.len;
    mark = λ y hy. go y hy (ℕ_discrete y x);
  }
    where
      go : (y : ℕ) → y < 4096 → Dec (y ≡ x) → get_or (set marks x true) y false ≡ not (unnamed rs (j + 1) y)
      go y hy (yes q) =
          ap (λ (k : ℕ). get_or (set marks x true) k false) q ∙ get_or-set_same marks x true false (omega (arith, m.len))
          ∙ rw (add-one j, every-suc (other_than rs y) j, other-no rs y j (e ∙ sym q), and-false)
      go y hy (no q) =
          get_or-set_other marks x y true false q ∙ m.mark y hy
          ∙ rw (add-one j, every-suc (other_than rs y) j, other-yes rs y j (λ z. q (sym z ∙ e)), and-true)

-- the test of entry j, x being what it says
module _ (rs : List ℕ) (n j : ℕ) {x : ℕ} (e : x ≡ row_word rs j at_vacant) where
  once : every j (other_entry rs j) ≡ unnamed rs j x
  unfolding unnamed other_entry other_than
  once = every-same (other_entry rs j) (other_than rs x) j (λ i l. same i)
    where
      same : (i : ℕ) → other_entry rs j i ≡ other_than rs x i
      same i = rw e

  pub vacant-out : n ≤ x → vacant_entry rs n j ≡ false
  unfolding vacant_entry
  vacant-out k = rw (← e, le-ltb x n k)

  pub vacant-live : x < n → (row_word rs x at_live ≡ 0 → ⊥) → vacant_entry rs n j ≡ false
  unfolding vacant_entry
  vacant-live k d = rw (← e, lt-ltb x n k, not_dead rs x d)

  pub vacant-named : (b : Bool) → x < n → row_word rs x at_live ≡ 0 → unnamed rs j x ≡ b → vacant_entry rs n j ≡ b
  unfolding vacant_entry
  vacant-named b k d u = rw (← e, lt-ltb x n k, is-dead rs x d) (once ∙ u)
