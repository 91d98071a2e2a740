-- What a turn of `count_sorted` adds to the bins: those of the first votes are stored. Assumes nothing.
use mathlib.Core.Path.{◌≡◌, refl, sym, ap, ap₂, ◌∙◌, subst}
use mathlib.Core.Bool.{Bool, true, false, cond}
use mathlib.Core.List.{List, [], ◌∷◌, ◌++◌, map, map-append}
use Prim.Native.Nat.{ℕ, ◌+◌, ◌-◌, ◌*◌, ◌≤◌, ◌<◌}
use native.Mathlib.Omega.{arith}
use lib.IntN.{ℤ, pos}
use lib.ListN.{length, get_or, take, drop, length-drop, length-append}
use lib.Seq.{take-add, drop-drop, get_or-take, get_or-drop, length-take-le}
use Rattle.lists.specs.Lists.{flat, All}
use Rattle.lists.proofs.Keep.{all-imp, all_append, all-make, all_map}
use Rattle.maps.proofs.Words.{outside-none}
use Rattle.bins.specs.Votes.{lead_of, Run}
use Rattle.bins.specs.Codes.{code_in, codes_in, width, Group, occupied, bin_words, bins_of, stored}
use Rattle.bins.specs.declared.Form.{Form}
use Rattle.bins.proofs.Stored.{stored-length, stored_more, stored-outside}
use Rattle.bins.proofs.Codes.{run-cong, run-above, code_at, codes-ascend, codes-run}
use Rattle.bins.proofs.Occupied.{occupied-run, bins-length, bins-run}

pub codes-length : (f : Form) (s : List ℤ) (a g : ℕ) → a + g ≤ length s → length (codes_in f s a g) ≡ g
codes-length f s a g h = lib.ListN.length-map (take g (drop a s)) (code_in f) ∙ length-take-le g (drop a s) (omega (arith, length-drop a s))

-- what holds of every code
pub codes-each : (f : Form) (s : List ℤ) (a g : ℕ) → a + g ≤ length s → (P : ℕ → Type 0) → ((t : ℕ) → t < g → P (code_at f s a t)) → All P (codes_in f s a g)
codes-each f s a g fits P h =
    all_map (code_in f) P (take g (drop a s))
    (all-make (λ z. P (code_in f z)) (take g (drop a s)) (pos 0)
    (λ t k.
    let lt : t < g = omega (arith, codes-length f s a g fits, lib.ListN.length-map (take g (drop a s)) (code_in f)) in
    subst (λ (z : ℤ). P (code_in f z)) (sym (get_or-take g (drop a s) t (pos 0) lt ∙ get_or-drop a s t (pos 0))) (h t lt)))

-- ---- a run of votes behind the first i

module _ (f : Form) (s : List ℤ) (a g at : ℕ) (G : Group f s a g at) (i r : ℕ) (U : Run (code_at f s a) i g r) where
  abbrev run : List ℕ
  run = codes_in f s (a + i) (r - i)

  run_length : length run ≡ r - i
  run_length = codes-length f s (a + i) (r - i) (omega (arith, U.within, U.since, G.before, G.room))

  run-codes : All (λ k. k ≡ code_at f s a i) run
  run-codes =
      codes-each f s (a + i) (r - i) (omega (arith, U.within, U.since, G.before, G.room)) (λ k. k ≡ code_at f s a i)
      (λ t h. let e : a + i + t ≡ a + (i + t) = omega arith in ap (λ (k : ℕ). code_in f (get_or s k (pos 0))) e ∙ U.same (i + t) (omega arith) (omega arith))

  codes-more : codes_in f s a r ≡ codes_in f s a i ++ run
  codes-more =
      let e : r ≡ i + (r - i) = omega (arith, U.since) in
      ap (λ (k : ℕ). map (code_in f) (take k (drop a s))) e
      ∙ ap (map (code_in f)) (take-add i (r - i) (drop a s))
      ∙ map-append (code_in f) (take i (drop a s)) (take (r - i) (drop i (drop a s)))
      ∙ ap (λ (l : List ℤ). codes_in f s a i ++ map (code_in f) (take (r - i) l)) (drop-drop i a s)

-- ---- in the scratch: the n bins of the first i votes are stored, and the next one goes to word j
pub record Binning (f : Form) (middle : ℕ) (s₀ s : List ℤ) (a g at i n j : ℕ) : Type 0 where
  pub on : i ≤ g
  pub few : n ≤ i
  pub len : length s ≡ length s₀
  pub next : j ≡ at + width f * n
  pub number : n ≡ length (occupied (codes_in f s₀ a i))
  pub written : s ≡ stored s₀ at (bins_of f middle (codes_in f s₀ a i))
  below : (t : ℕ) → i ≤ t → t < g → All (λ k. k < code_at f s₀ a t) (codes_in f s₀ a i)

pub binning-none : (f : Form) (middle : ℕ) (s : List ℤ) (a g at : ℕ) → Binning f middle s s a g at 0 0 at
unfolding bins_of occupied flat
binning-none f middle s a g at = record {
  on = omega arith;
  few = omega arith;
  len = refl;
  next = omega arith;
  number = refl;
  written = refl;
  below = λ t h k. tt;
}

one_more : (b : Bool) (at n g j room : ℕ) → at + cond b 3 2 * g ≤ room → n < g → j ≡ at + cond b 3 2 * n → j + cond b 3 2 ≤ room
one_more true at n g j room h k e = omega arith
one_more false at n g j room h k e = omega arith

module _ (f : Form) (middle : ℕ) (s₀ s : List ℤ) (a g at i n j : ℕ) (G : Group f s₀ a g at) (B : Binning f middle s₀ s a g at i n j) where
  -- at the end they are all
  pub binning-all : g ≤ i → (n ≡ length (occupied (codes_in f s₀ a g))) × (s ≡ stored s₀ at (bins_of f middle (codes_in f s₀ a g)))
  binning-all h = let e : i ≡ g = omega (arith, B.on) in (rw e at B.number, rw e at B.written)

  -- before that there is room for one more
  pub binning-room : i < g → j + width f ≤ length s
  binning-room h = one_more f.scaled at n g j (length s) (omega (arith, G.room, B.len)) (omega (arith, B.few)) B.next

  -- the votes are as they were
  kept : (t : ℕ) → t < a + g → get_or s t (pos 0) ≡ get_or s₀ t (pos 0)
  kept t h =
      let bins = bins_of f middle (codes_in f s₀ a i) in
      ap (λ (l : List ℤ). get_or l t (pos 0)) B.written
      ∙ (stored-outside s₀ s₀ at (at + length bins) at bins (outside-none s₀ at (at + length bins)) (omega arith) (omega arith)).before t (omega (arith, G.before))

  module _ (h : i < g) (r : ℕ) (U : Run (λ t. lead_of f.low f.bits (get_or s t (pos 0))) (a + i) (a + g) r) where
    -- the run is one of codes
    pub binning-run : Run (code_at f s₀ a) i g (r - a)
    binning-run =
        codes-run f s₀ a g at G i r h
        (run-cong (λ t. lead_of f.low f.bits (get_or s t (pos 0))) (λ t. lead_of f.low f.bits (get_or s₀ t (pos 0))) (a + i) (a + g) r (omega arith) (λ t k. ap (lead_of f.low f.bits) (kept t k)) U)

    pub binning-more : (s' : List ℤ) (x j' : ℕ) → x ≡ code_in f (get_or s (a + i) (pos 0)) → j' ≡ j + width f → s' ≡ stored s j (bin_words f middle x (r - a - i)) → Binning f middle s₀ s' a g at (r - a) (n + 1) j'
    binning-more s' x j' ex ej w =
        record {
          on = R.within;
          few = omega (arith, B.few, R.since);
          len = ap length w ∙ stored-length s j (bin_words f middle x (r - a - i)) ∙ B.len;
          next = omega (arith, B.next);
          number = ap (λ (k : ℕ). k + 1) B.number ∙ sym (ap length (ap occupied more ∙ occupied-run c us one some ks low) ∙ length-append (occupied ks) (c ∷ []));
          written = w ∙ words;
          below = λ t p q. subst (All (λ k. k < code_at f s₀ a t)) (sym more)
              (all_append (λ k. k < code_at f s₀ a t) ks us (B.below t (omega (arith, R.since)) q)
              (all-imp (λ k. k ≡ c) (λ k. k < code_at f s₀ a t) (λ k e. omega (arith, run-above (code_at f s₀ a) i g (r - a) (codes-ascend f s₀ a g at G) R t p q)) us one));
        }
      where
        R : Run (code_at f s₀ a) i g (r - a)
        R = binning-run

        c : ℕ
        c = code_at f s₀ a i

        ks : List ℕ
        ks = codes_in f s₀ a i

        us : List ℕ
        us = run f s₀ a g at G i (r - a) R

        more : codes_in f s₀ a (r - a) ≡ ks ++ us
        more = codes-more f s₀ a g at G i (r - a) R

        one : All (λ k. k ≡ c) us
        one = run-codes f s₀ a g at G i (r - a) R

        many : length us ≡ r - a - i
        many = run_length f s₀ a g at G i (r - a) R

        some : 0 < length us
        some = omega (arith, many, R.since)

        low : All (λ k. k < c) ks
        low = B.below i (omega arith) h

        at_next : j ≡ at + length (bins_of f middle ks)
        at_next = B.next ∙ ap (λ (m : ℕ). at + width f * m) B.number ∙ ap (λ (m : ℕ). at + m) (sym (bins-length f middle ks))

        words : stored s j (bin_words f middle x (r - a - i)) ≡ stored s₀ at (bins_of f middle (codes_in f s₀ a (r - a)))
        words =
            ap₂ (λ (y m : ℕ). stored s j (bin_words f middle y m)) (ex ∙ ap (code_in f) (kept (a + i) (omega arith))) (sym many)
            ∙ ap₂ (λ (l : List ℤ) (k : ℕ). stored l k (bin_words f middle c (length us))) B.written at_next
            ∙ stored_more s₀ at (bins_of f middle ks) (bin_words f middle c (length us))
            ∙ ap (stored s₀ at) (sym (bins-run c us one some ks low f middle) ∙ ap (bins_of f middle) (sym more))
