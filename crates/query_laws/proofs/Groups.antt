-- The votes of one recording among words in ascending order: a part of them. Assumes nothing.
use mathlib.Core.Path.{◌≡◌, sym, ap, ◌∙◌}
use mathlib.Core.Bool.{true, false}
use mathlib.Core.List.{List, [], ◌++◌, append-nil}
use Prim.Native.Nat.{ℕ, ◌+◌, ◌-◌, ◌≤◌, ◌<◌}
use native.Mathlib.Omega.{arith}
use lib.IntN.{ℤ, pos}
use lib.ListN.{length, get_or, take, drop, length-drop}
use lib.Seq.{take-add, get_or-take, get_or-drop, length-take-le}
use lib.Dec.{eqb}
use borrow.Author.Tests.{eq-eqb, ne_eqb}
use Rattle.lists.specs.Lists.{All}
use Rattle.lists.proofs.Keep.{keep_append, keep_all, keep-none, all-make}
use Rattle.query_laws.specs.Candidates.{Reading, of_recording, recording_at}

module _ {Vote : Type 0} (R : Reading Vote) (s : List ℤ) where
  -- a fact of the words from i to e
  all-part : (P : ℤ → Type 0) (i e : ℕ) → i ≤ e → e ≤ length s → ((t : ℕ) → i ≤ t → t < e → P (get_or s t (pos 0))) → All P (take (e - i) (drop i s))
  all-part P i e le fits h = all-make P (take (e - i) (drop i s)) (pos 0) (λ t lt.
      let l : t < e - i = omega (arith, length-take-le (e - i) (drop i s) (omega (arith, length-drop i s))) in
      rw (get_or-take (e - i) (drop i s) t (pos 0) l, get_or-drop i s t (pos 0)) (h (i + t) (omega arith) (omega arith)))

  -- the words before e are those before i and those of the part
  parts : (i e : ℕ) → i ≤ e → take e s ≡ take i s ++ take (e - i) (drop i s)
  parts i e le = let m : i + (e - i) ≡ e = omega arith in rw m at (take-add i (e - i) s)

  none_of : (j i e : ℕ) → i ≤ e → e ≤ length s → ((t : ℕ) → i ≤ t → t < e → recording_at R s t ≡ j → ⊥) → of_recording R j (take (e - i) (drop i s)) ≡ []
  none_of j i e le fits h = keep-none (λ z. eqb (R.recording_of z) j) (take (e - i) (drop i s))
      (all-part (λ z. eqb (R.recording_of z) j ≡ false) i e le fits (λ t a b. ne_eqb (recording_at R s t) j (h t a b)))

  module _ (i e x : ℕ) (le : i ≤ e) (fits : e ≤ length s) (before : (t : ℕ) → t < i → recording_at R s t < x) (same : (t : ℕ) → i ≤ t → t < e → recording_at R s t ≡ x) where
    -- recordings from x on have no vote before i
    pub later-none : (j : ℕ) → x ≤ j → of_recording R j (take i s) ≡ []
    later-none j h = let m : i - 0 ≡ i = omega arith in rw m at (none_of j 0 i (omega arith) (omega arith) (λ t a b eq. omega (arith, before t b)))

    -- x has those from i to e
    pub own-part : of_recording R x (take e s) ≡ take (e - i) (drop i s)
    own-part =
        ap (of_recording R x) (parts i e le)
        ∙ keep_append (λ z. eqb (R.recording_of z) x) (take i s) (take (e - i) (drop i s))
        ∙ rw (later-none x (omega arith))
        (keep_all (λ z. eqb (R.recording_of z) x) (take (e - i) (drop i s)) (all-part (λ z. eqb (R.recording_of z) x ≡ true) i e le fits (λ t a b. eq-eqb (recording_at R s t) x (same t a b))))

    -- and another recording has none there
    pub other-same : (j : ℕ) → (j ≡ x → ⊥) → of_recording R j (take e s) ≡ of_recording R j (take i s)
    other-same j ne =
        ap (of_recording R j) (parts i e le)
        ∙ keep_append (λ z. eqb (R.recording_of z) j) (take i s) (take (e - i) (drop i s))
        ∙ rw (none_of j i e le fits (λ t a b eq. ne (sym eq ∙ same t a b))) (append-nil (of_recording R j (take i s)))
