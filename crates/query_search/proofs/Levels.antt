-- The windows of the search on their way from `len` postings to `next`: those of the first i hashes are there. Assumes nothing.
use Rattle.std.proofs.Common.{◌≡◌, ℕ, ◌+◌, ◌*◌, ◌<◌, ◌≤◌, ◌⊎◌, List, length, get_or, set, replicate, sym, ap, ◌∙◌, subst, inl, inr, eq-or-lt_of_le, mul-zero, arith, length-set, get_or-set_other, get_or-set_same}
use lib.ListN.{length-replicate, get_or-replicate}
use Rattle.lists.specs.Entries.{key_at}
use Rattle.maps.specs.Entries.{first_at}
use Rattle.maps.proofs.Entries.{first-splits}
use Rattle.query_search.specs.Starts.{Starts, Zeros, Placed, Windows, Sought}

module _ (ps : List ℕ) (w p : ℕ) (hs : List ℕ) (h m len next : ℕ) where
  pub record Level (starts : List ℕ) (i : ℕ) : Type 0 where
    pub long : m ≤ length starts
    pub on : i ≤ m
    pub done : (j : ℕ) → j < i → Placed ps w p (key_at hs h j) next (get_or starts j 0)
    pub rest : (j : ℕ) → i ≤ j → j < m → Placed ps w p (key_at hs h j) len (get_or starts j 0)

  pub level-none : (starts : List ℕ) → Windows ps w p hs h m len starts → Level starts 0
  level-none starts W = record { long = W.long; on = omega arith; done = λ j l. absurd (omega arith); rest = λ j l k. W.each j k }

  pub level_all : (starts : List ℕ) (i : ℕ) → Level starts i → m ≤ i → Windows ps w p hs h m next starts
  level_all starts i L k = record { long = L.long; each = λ j l. L.done j (omega arith) }

  pub level-more : (starts : List ℕ) (i x : ℕ) → Level starts i → i < m → Placed ps w p (key_at hs h i) next x → Level (set starts i x) (i + 1)
  level-more starts i x L lt W = record {
    long = simp length-set L.long;
    on = omega arith;
    done = λ j l. at j (eq-or-lt_of_le (omega arith));
    rest = λ j l k. subst (Placed ps w p (key_at hs h j) len) (sym (get_or-set_other starts i j x 0 (λ e. omega arith))) (L.rest j (omega arith) k);
  }
    where
      at : (j : ℕ) → (j ≡ i) ⊎ (j < i) → Placed ps w p (key_at hs h j) next (get_or (set starts i x) j 0)
      at j (inl e) = rw e (subst (Placed ps w p (key_at hs h i) next) (sym (get_or-set_same starts i x 0 (omega (arith, L.long)))) W)
      at j (inr l) = subst (Placed ps w p (key_at hs h j) next) (sym (get_or-set_other starts i j x 0 (λ e. omega arith))) (L.done j l)

pub zeros : (n m : ℕ) → m ≤ n → Zeros m (replicate n 0)
zeros n m h = record { long = omega (arith, length-replicate {A = ℕ} n 0); zero = λ i l. get_or-replicate {A = ℕ} n i 0 0 (omega arith) }

-- at first all postings are looked at
pub windows-all : (ps : List ℕ) (w p : ℕ) (hs : List ℕ) (h m : ℕ) (starts : List ℕ) → Sought ps w p hs h m → Zeros m starts → Windows ps w p hs h m p starts
windows-all ps w p hs h m starts S Z = record {
  long = Z.long;
  each = λ i l. record {
    entry = 0;
    stands = Z.zero i l ∙ sym (mul-zero w);
    window = record { since = omega arith; upto = omega (arith, (first-splits ps w p (key_at hs h i) S.ascend).within); within = omega arith };
  };
}

-- a window of no postings is where the postings under the key begin
pub windows-none : (ps : List ℕ) (w p : ℕ) (hs : List ℕ) (h m len : ℕ) (starts : List ℕ) → Windows ps w p hs h m len starts → len ≡ 0 → Starts ps w p hs h m starts
windows-none ps w p hs h m len starts W e = record { begins = λ i l. at (W.each i l) }
  where
    at : {key word : ℕ} → Placed ps w p key len word → word ≡ w * first_at ps w p key
    at P = P.stands ∙ ap (λ (k : ℕ). w * k) (omega (arith, P.window.since, P.window.upto))
