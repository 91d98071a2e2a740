-- Laws of the loops over a line's words. Assumes nothing.
use Rattle.std.proofs.Common.{◌≡◌, refl, sym, Bool, true, false, ◌&&◌, List, ℕ, ◌+◌, ◌*◌, ◌%◌, ◌^◌, ◌<◌, ◌≢◌, eqb, leb, length, get_or, take, set, add-one}
use lib.Seq.{take-suc-set}
use borrow.Author.Tests.{ne_eqb}
use Rattle.lists.specs.Every.{every}
use Rattle.lists.proofs.Every.{every-fail}
use Rattle.replay_text.specs.Words.{padded_to, same_at, holds, pair_of, holds_pairs}
use Rattle.replay_text.specs.Digits.{word_at, first_words}

module _ (s ws : List ℕ) where
  pub differs : (i : ℕ) → i < length s → get_or s i 0 ≢ get_or ws i 0 → false ≡ holds s ws
  unfolding holds
  differs i l e = rw (every-fail (same_at s ws) (length s) i l (ne_eqb (get_or s i 0) (get_or ws i 0) e))

  pub pairs-differ : (i : ℕ) → i < 8 → get_or s i 0 ≢ pair_of ws i → false ≡ holds_pairs s ws
  unfolding holds_pairs
  pairs-differ i l e = rw (every-fail (λ i. eqb (get_or s i 0) (pair_of ws i)) 8 i l (ne_eqb (get_or s i 0) (pair_of ws i) e))

  pub pairs-end : every 8 (λ i. eqb (get_or s i 0) (pair_of ws i)) ≡ true → leb (length ws) 16 ≡ holds_pairs s ws
  unfolding holds_pairs
  pairs-end e = rw e

module _ (s ws : List ℕ) (i : ℕ) where
  pub holds-end : {b : Bool} → i ≡ length s → b ≡ every i (same_at s ws) → b && leb (length ws) (length s) ≡ holds s ws
  unfolding holds
  holds-end l e = rw (e, l)

-- where each word is the same
pub holds-all : (s ws : List ℕ) → every (length s) (same_at s ws) ≡ true → leb (length ws) (length s) ≡ holds s ws
holds-all s ws e = holds-end s ws (length s) refl (sym e)

module _ (s ws : List ℕ) (i : ℕ) where
  pub put-turn : (x : ℕ) → i < length s → take i s ≡ padded_to i ws → x ≡ get_or ws i 0 → take (i + 1) (set s i x) ≡ padded_to (i + 1) ws
  unfolding padded_to
  put-turn x l e h = rw (add-one i, take-suc-set s i x, e, h)

  -- one more word of a line
  pub word-turn : (x : ℕ) → i < length ws → take i ws ≡ first_words i s → x ≡ word_at s (9 * i + 1) % 2 ^ 32 → take (i + 1) (set ws i x) ≡ first_words (i + 1) s
  unfolding first_words
  word-turn x l e h = rw (add-one i, take-suc-set ws i x, e, h)
