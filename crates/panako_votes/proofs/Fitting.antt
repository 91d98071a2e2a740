-- Whether the votes fit: each posting met gives none or one. Assumes nothing.
use Rattle.std.specs.Prelude.{Option, Some, None}
use mathlib.Core.Path.{◌≡◌, sym, ◌∙◌}
use mathlib.Core.Bool.{true, false}
use mathlib.Core.List.{List, [], ◌∷◌, map}
use Prim.Native.Nat.{ℕ, suc, ◌+◌, ◌≤◌, min}
use native.Mathlib.Omega.{arith}
use lib.IntN.{ℤ}
use lib.ListN.{length, get_or, length-append}
use lib.Dec.{leb}
use borrow.Author.Tests.{leb-true, leb-false, le-leb, lt-leb}
use Rattle.lists.specs.Lists.{flat, sum}
use Rattle.lists.specs.Keys.{under}
use Rattle.lists.specs.Entries.{key_of}
use Rattle.lists.proofs.Tests.{test}
use Rattle.query_search.specs.Starts.{met}
use Rattle.panako_vote.specs.Votes.{vote_on}
use Rattle.panako_vote.specs.declared.ScaleGrid.{ScaleGrid}
use Rattle.panako_vote.specs.declared.Vote.{Vote}
use Rattle.query_search.specs.Gathered.{words_by, words_of, words_from}
use Rattle.panako_vote.specs.Words.{as_list, word_of}
use Rattle.panako_votes.specs.Gathered.{pair_words, vote_count}

one_at_most : (id : ℕ) (v : Option Vote) → length (map (word_of id) (as_list v)) ≤ 1
one_at_most id None = omega arith
one_at_most id (Some v) = omega arith

each-one : (f : List ℕ → List ℤ) → ((e : List ℕ) → length (f e) ≤ 1) → (es : List (List ℕ)) → length (words_by f es) ≤ length es
unfolding words_by flat
each-one f h [] = omega arith
each-one f h (e ∷ es) =
    let ih = each-one f h es in
    omega (arith, h e, length-append (f e) (words_by f es))

module _ (g : ScaleGrid) (es : List (List ℕ)) where
  from-met : (i : ℕ) (hs : List (List ℕ)) → length (words_from (pair_words g) i es hs) ≤ met es hs
  unfolding words_from met sum
  from-met i [] = omega arith
  from-met i (h ∷ hs) =
      let ih = from-met (suc i) hs in
      let one = each-one (pair_words g i h) (λ e. one_at_most (get_or e 1 0) (vote_on g (get_or h 1 0) (get_or h 3 0) (get_or e 2 0) (get_or e 4 0))) (under key_of (key_of h) es) in
      omega (arith, ih, one, length-append (words_of (pair_words g) i es h) (words_from (pair_words g) (suc i) es hs))

  pub votes-met : (hs : List (List ℕ)) → vote_count g es hs ≤ met es hs
  votes-met hs = from-met 0 hs

  -- postings that fit have votes that do
  pub met-fit : (hs : List (List ℕ)) (room n : ℕ) → n ≡ min (room + 1) (met es hs) → n ≤ room → true ≡ leb (vote_count g es hs) room
  met-fit hs room n e h = sym (le-leb (vote_count g es hs) room (omega (arith, votes-met hs)))

-- a number and the same held at one more than the room
pub held_fits : (room v n : ℕ) → n ≡ min (room + 1) v → leb n room ≡ leb v room
held_fits room v n e = test (leb v room) fits over
  where
    fits : leb v room ≡ true → leb n room ≡ leb v room
    fits t = le-leb n room (omega (arith, leb-true v room t)) ∙ sym t

    over : leb v room ≡ false → leb n room ≡ leb v room
    over t = lt-leb n room (omega (arith, leb-false v room t)) ∙ sym t
