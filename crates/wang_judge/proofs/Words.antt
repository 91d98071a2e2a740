-- The votes in the words of the scratch: their counts as sums over places and positions. Assumes nothing.
use mathlib.Core.Path.{◌≡◌, refl, sym, ap, ◌∙◌, fun_ext}
use mathlib.Core.Bool.{Bool}
use mathlib.Core.List.{List}
use Prim.Native.Nat.{ℕ, ◌+◌, ◌-◌, ◌*◌, ◌^◌, ◌≤◌, ◌<◌}
use native.Mathlib.Omega.{arith}
use lib.IntN.{ℤ, pos, neg_ℤ, ◌+ℤ◌, ◌-ℤ◌, +ℤ_comm, +ℤ_assoc, +ℤ-neg_ℤ_cancel, -ℤ-+ℤ_cancel}
use lib.ListN.{length, get_or, drop}
use Rattle.maps.specs.Sums.{sum_to, when}
use Rattle.maps.specs.Words.{SameOutside}
use Rattle.maps.proofs.Sums.{sum-cong, sum-flat, sum-zero, sum_kept}
use Rattle.maps.proofs.Words.{outside-none}
use Rattle.model.specs.Fingerprints.{Hash}
use Rattle.model.specs.Rows.{anchor}
use Rattle.bins.proofs.Votes.{packed-place, packed-position}
use Rattle.bins.proofs.Stored.{stored-length, stored-outside}
use Rattle.bins.proofs.Occupied.{occupied-few, bins-length}
use Rattle.bins.proofs.Binning.{codes-length}
use Rattle.bins.proofs.Binned.{count-words, stored-binned}
use Rattle.wang_judge.specs.Scheme.{vote_of}
use Rattle.bins.specs.Votes.{wang_form, packed, place_of, places, positions}
use Rattle.bins.specs.Codes.{codes_in, occupied, bins_of, stored}
use Rattle.bins.specs.Binned.{Binned}
use Rattle.wang_judge.specs.Judge.{Vote, Counts, any_vote}
use Rattle.wang_judge.specs.Candidates.{vote_in, counts_in, Limited, Candidate, Counted}
use Rattle.wang_judge.specs.declared.WangQuery.{WangQuery}

-- vote t, of places d and positions q that count from `low`
abbrev pub vote_at : ℤ → (ℕ → ℕ) → (ℕ → ℕ) → ℕ → Vote
vote_at low d q t = record { delta = low +ℤ pos (d t); position = q t }

-- n counts the g votes of places d and positions q
abbrev pub Tells : Counts → ℤ → (ℕ → ℕ) → (ℕ → ℕ) → ℕ → Type 0
Tells n low d q g = (p : Vote → Bool) → n p ≡ sum_to (λ t. when (p (vote_at low d q t)) 1) g

pub counts-tell : (top : ℕ) (s : List ℤ) (a g : ℕ) → a + g ≤ length s → Tells (counts_in top s a g) (neg_ℤ (pos top)) (places s a) (positions s a) g
unfolding counts_in places positions
counts-tell top s a g h p = count-words (vote_in top) p s a g h

pub ones : (g : ℕ) → sum_to (λ t. 1) g ≡ g
ones g = omega (arith, sum-flat (λ t. 1) 0 g 1 (omega arith) (λ x a b. refl), sum-zero (λ t. 1))

pub counts-few : (top : ℕ) (s : List ℤ) (a g : ℕ) → a + g ≤ length s → (p : Vote → Bool) → counts_in top s a g p ≤ g
counts-few top s a g h p = omega (arith, counts-tell top s a g h p, sum_kept (λ t. p (vote_at (neg_ℤ (pos top)) (places s a) (positions s a) t)) (λ t. 1) g, ones g)

pub votes-are : (top : ℕ) (s : List ℤ) (a g : ℕ) → a + g ≤ length s → counts_in top s a g any_vote ≡ g
votes-are top s a g h = counts-tell top s a g h any_vote ∙ ones g

-- ---- a vote that was packed, its place being t_anchor of the posting + (the largest query anchor − t_anchor of the query hash)

delta-back : (top a b : ℕ) → b ≤ top → neg_ℤ (pos top) +ℤ pos (a + (top - b)) ≡ pos a -ℤ pos b
delta-back top a b h =
    +ℤ_comm (neg_ℤ (pos top)) (pos (a + (top - b)))
    ∙ ap (λ (z : ℤ). z -ℤ pos top)
    (ap (λ (z : ℤ). z +ℤ pos (top - b)) (sym (-ℤ-+ℤ_cancel (pos a) (pos b))) ∙ +ℤ_assoc (pos a -ℤ pos b) (pos b) (pos (top - b)) ∙ ap (λ (n : ℕ). (pos a -ℤ pos b) +ℤ pos n) back)
    ∙ +ℤ-neg_ℤ_cancel (pos a -ℤ pos b) (pos top)
  where
    back : b + (top - b) ≡ top
    back = omega arith

pub packed-vote : (id top i : ℕ) (h g : Hash) → anchor h ≤ top → anchor g + (top - anchor h) < 2 ^ 33 → i < 2 ^ 11
    → vote_in top (pos (packed id (anchor g + (top - anchor h)) i)) ≡ vote_of i h g
packed-vote id top i h g l p k =
    rw (packed-place id (anchor g + (top - anchor h)) i p k, packed-position id (anchor g + (top - anchor h)) i p k, delta-back top (anchor g) (anchor h) l) refl

-- ---- words that are kept

module _ (s₀ s : List ℤ) (a g at e : ℕ) (S : SameOutside s₀ s at e) (h : a + g ≤ at) where
  word_kept : (t : ℕ) → t < g → get_or s (a + t) (pos 0) ≡ get_or s₀ (a + t) (pos 0)
  word_kept t l = S.before (a + t) (omega arith)

  place_kept : (t : ℕ) → t < g → places s a t ≡ places s₀ a t
  unfolding places
  place_kept t l = ap place_of (word_kept t l)

  pub counts-kept : (top : ℕ) → length s ≡ length s₀ → at ≤ length s₀ → counts_in top s a g ≡ counts_in top s₀ a g
  unfolding places positions
  counts-kept top len room =
      fun_ext (λ p.
      counts-tell top s a g (omega arith) p
      ∙ sum-cong (λ t. when (p (vote_at (neg_ℤ (pos top)) (places s a) (positions s a) t)) 1) (λ t. when (p (vote_at (neg_ℤ (pos top)) (places s₀ a) (positions s₀ a) t)) 1) g
      (λ t l. ap (λ (z : ℤ). when (p (vote_in top z)) 1) (word_kept t l))
      ∙ sym (counts-tell top s₀ a g (omega arith) p))

  bins-kept : (low : ℤ) (l : List ℤ) (n : ℕ) → Binned (places s₀ a) g low l n → Binned (places s a) g low l n
  bins-kept low l n B = record {
    few = B.few;
    some = B.some;
    offsets = B.offsets;
    counts = B.counts;
    occupied = B.occupied;
    ascend = B.ascend;
    spanned = λ most m. B.spanned most (λ t k. omega (arith, place_kept t k, m t k));
    held = λ p. B.held p ∙ sum-cong (λ t. when (p (places s₀ a t)) 1) (λ t. when (p (places s a t)) 1) g (λ t k. ap (λ (y : ℕ). when (p y) 1) (sym (place_kept t k)));
  }

  limited-kept : (q : WangQuery) (rmax : ℕ) → Limited s₀ a g q rmax → Limited s a g q rmax
  limited-kept q rmax L = record {
    some = L.some;
    few = L.few;
    spanned = λ t k. omega (arith, place_kept t k, L.spanned t k);
    tolerance = L.tolerance;
    short = L.short;
  }

-- a candidate whose bins were written
pub candidate-counted : (s₀ s : List ℤ) (a g at n : ℕ) (q : WangQuery) (rmax low : ℕ) → low ≡ q.q_max → Candidate s₀ a g at q rmax
    → n ≡ length (occupied (codes_in wang_form s₀ a g)) → s ≡ stored s₀ at (bins_of wang_form low (codes_in wang_form s₀ a g)) → Counted s a g at n q rmax × SameOutside s₀ s at (at + 2 * g)
candidate-counted s₀ s a g at n q rmax low le C number written = (
  record {
    limited = limited-kept s₀ s a g at (at + 2 * g) same C.group.before q rmax C.limited;
    before = C.group.before;
    room = omega (arith, C.group.room, long);
    bins = rw (← le, number) (bins-kept s₀ s a g at (at + 2 * g) same C.group.before (neg_ℤ (pos low)) (drop at s) (length (occupied ks))
        (rw written (stored-binned s₀ a g at low C.group.before C.group.room)));
  },
  same,
)
  where
    ks : List ℕ
    ks = codes_in wang_form s₀ a g

    long : length s ≡ length s₀
    long = ap length written ∙ stored-length s₀ at (bins_of wang_form low ks)

    same : SameOutside s₀ s at (at + 2 * g)
    same =
        let few : length (occupied ks) ≤ g = omega (arith, occupied-few ks, codes-length wang_form s₀ a g (omega (arith, C.group.before, C.group.room))) in
        rw written (stored-outside s₀ s₀ at (at + 2 * g) at (bins_of wang_form low ks) (outside-none s₀ at (at + 2 * g)) (omega arith) (omega (arith, bins-length wang_form low ks)))
