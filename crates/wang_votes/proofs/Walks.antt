-- The votes of the first query hashes, how many they are, and the word of a vote put behind others. Assumes nothing.
use mathlib.Core.Path.{◌≡◌, refl, sym, subst, ap, ap₂, ◌∙◌}
use mathlib.Core.Logic.{◌⊎◌, inl, inr}
use mathlib.Core.Bool.{Bool, true, false, cond, ◌&&◌}
use mathlib.Core.List.{List, [], ◌∷◌, ◌++◌, append-nil}
use Prim.Native.Nat.{ℕ, suc, ◌+◌, ◌*◌, ◌/◌, ◌-◌, ◌^◌, ◌≤◌, ◌<◌}
use native.Mathlib.Nat.{eq-or-lt_of_le}
use native.Mathlib.Omega.{arith}
use lib.IntN.{ℤ, pos}
use lib.Dec.{ltb, eqb}
use lib.ListN.{length, get_or, take, drop, set, length-append, length-drop}
use lib.Seq.{set_out, take-suc-set, take-set-le, length-take-le, get_or-take, get_or-drop}
use borrow.Author.Tests.{lt-ltb, le-ltb, ltb-true, ltb-false}
use Rattle.std.specs.Simd.{first_chunks}
use Rattle.std.proofs.Common.{take_all}
use Rattle.lists.specs.Lists.{keep, flat, sum, All}
use Rattle.lists.proofs.Keep.{all_keep}
use Rattle.query_search.proofs.Parts.{chunks-are, rowed-all}
use Rattle.lists.specs.Keys.{under}
use Rattle.lists.specs.Entries.{entries, entry_at, key_of, keys_ascend}
use Rattle.lists.proofs.Tests.{test, and_left, yes_and}
use Rattle.lists.proofs.Entries.{entry_key, entry-word}
use Rattle.maps.specs.Entries.{first_at}
use Rattle.maps.proofs.Entries.{first-splits, first-le, part-entries}
use Rattle.bins.specs.Votes.{packed}
use Rattle.query_search.specs.Starts.{met}
use Rattle.query_search.proofs.Meeting.{under-many, under-entries}
use Rattle.query_search.specs.Voting.{may_vote, voting, HasRow, Rowed}
use Rattle.query_search.proofs.Voting.{under-voting, rowed-word}
use Rattle.query_search.proofs.Counting.{few-votes, votes-all}
use Rattle.maps.specs.Sums.{when}
use Rattle.maps.proofs.Sums.{keep-le}
use Rattle.query_search.specs.Gathered.{found, words_by, words_of, words_from, Ids}
use Rattle.query_search.proofs.Walks.{none_of, firsts, id_below, part-many, part-ids}
use Rattle.query_search.proofs.Walks as walks
use Rattle.wang_votes.specs.Gathered.{vote_word, pair_word, words_on}

-- ---- the words of a part, written one after the other

module _ (part : List ℕ) (shift q : ℕ) where
  pub word-is : (j : ℕ) → vote_word shift q (entry_at 3 j part) ≡ packed (get_or part (3 * j + 1) 0) (get_or part (3 * j + 2) 0 + shift) q
  word-is j = rw (entry-word 3 j part 1 (omega arith), entry-word 3 j part 2 (omega arith)) refl

-- ---- the postings from number a on, of p

module _ (ps part : List ℕ) (p a : ℕ) (fits : 3 * p ≤ length ps) (within : a ≤ p) (h : part ≡ take (3 * p - 3 * a) (drop (3 * a) ps)) where
  rest-long : length part ≡ 3 * p - 3 * a
  rest-long = ap (λ (l : List ℕ). length l) h ∙ length-take-le (3 * p - 3 * a) (drop (3 * a) ps) (omega (arith, length-drop (3 * a) ps))

  rest-word : (i : ℕ) → i < 3 * p - 3 * a → get_or part i 0 ≡ get_or ps (3 * a + i) 0
  rest-word i lt = ap (λ (l : List ℕ). get_or l i 0) h ∙ get_or-take (3 * p - 3 * a) (drop (3 * a) ps) i 0 lt ∙ get_or-drop (3 * a) ps i 0

  -- the first of them is whole, and its id has its bits
  pub first-whole : Ids (entries 3 p ps) → 0 < length part → (2 < length part) × (get_or part 1 0 < 2 ^ 12)
  first-whole ids lt = (
    omega (arith, rest-long),
    subst (λ (n : ℕ). n < 2 ^ 12) (sym (rest-word 1 (omega (arith, rest-long)))) (id_below 3 (omega arith) ps p a ids (omega (arith, rest-long))),
  )

  -- its vote, put where there is one
  pub first-vote : (s : List ℤ) (at shift q : ℕ) → cond (ltb 0 (length part)) (set s at (pos (packed (get_or part 1 0) (get_or part 2 0 + shift) q))) s
      ≡ cond (ltb (3 * a) (3 * p)) (set s at (pos (vote_word shift q (entry_at 3 a ps)))) s
  first-vote s at shift q = go (eq-or-lt_of_le within)
    where
      go : (a ≡ p) ⊎ (a < p) → cond (ltb 0 (length part)) (set s at (pos (packed (get_or part 1 0) (get_or part 2 0 + shift) q))) s
          ≡ cond (ltb (3 * a) (3 * p)) (set s at (pos (vote_word shift q (entry_at 3 a ps)))) s
      go (inl e) = rw (le-ltb 0 (length part) (omega (arith, rest-long)), le-ltb (3 * a) (3 * p) (omega arith))
      go (inr l) =
          rw (lt-ltb 0 (length part) (omega (arith, rest-long)), lt-ltb (3 * a) (3 * p) (omega arith), rest-word 1 (omega (arith, rest-long)), rest-word 2 (omega (arith, rest-long)), word-is ps shift q a)

-- ---- a word written where a test passes; behind the last one nothing is written

module _ (s : List ℤ) (at : ℕ) (x : ℤ) (b : Bool) where
  pub written : b && ltb at (length s) ≡ true → set s at x ≡ cond b (set s at x) s
  written e = rw (and_left b (ltb at (length s)) e)

  pub unwritten : b && ltb at (length s) ≡ false → s ≡ cond b (set s at x) s
  unwritten e = test b (λ y. rw y (sym (set_out s at x (ltb-false at (length s) (sym (yes_and b (ltb at (length s)) y) ∙ e))))) (λ n. rw n)

-- ---- each posting gives one vote

pub one-with-each : (shift q : ℕ) (l : List (List ℕ)) → length (words_on shift q l) ≡ length l
unfolding words_by flat
one-with-each shift q [] = refl
one-with-each shift q (e ∷ l) = ap suc (one-with-each shift q l)

pub votes-many : (top q : ℕ) (es hs : List (List ℕ)) → length (words_from (pair_word top) q es hs) ≡ met es hs
unfolding words_from met sum
votes-many top q es [] = refl
votes-many top q es (h ∷ hs) =
    let ih = votes-many top (suc q) es hs in
    length-append (words_of (pair_word top) q es h) (words_from (pair_word top) (suc q) es hs) ∙ omega (arith, one-with-each (top - get_or h 1 0) q (found es h))

-- ---- the postings under a key, from a to before e

module _ (ps : List ℕ) (p key : ℕ) (fits : 3 * p ≤ length ps) (t : keys_ascend ps 3 p ≡ true) where
  abbrev a : ℕ
  a = first_at ps 3 p key

  abbrev e : ℕ
  e = first_at ps 3 p (key + 1)

  -- the part's words hold them
  pub part-is : entries 3 (e - a) (flat (under key_of key (entries 3 p ps))) ≡ under key_of key (entries 3 p ps)
  part-is = ap (λ (n : ℕ). entries 3 n (flat (under key_of key (entries 3 p ps)))) (sym (under-many ps 3 p key t (omega arith) fits)) ∙ part-entries ps 3 p key fits

  -- where there is one at most, its word is written in any case, and counted where it votes
  module _ (v : ℕ) (rs : List ℕ) (c : ℕ) (ec : c ≡ when (may_vote v rs (get_or ps (3 * a + 1) 0)) (e - a)) (few : e - a ≤ 1) where
    pub first_counted : c ≡ length (under key_of key (voting v rs (entries 3 p ps)))
    first_counted = ec ∙ sym (few-votes v rs ps 3 p key (omega arith) (3 * a) (e - a) refl few) ∙ sym (votes-all v rs ps 3 p key (omega arith) t fits)

    -- the one that is counted
    one-held : e - a ≡ 1 → may_vote v rs (get_or (entry_at 3 a ps) 1 0) ≡ true → under key_of key (voting v rs (entries 3 p ps)) ≡ entry_at 3 a ps ∷ []
    unfolding entries voting keep
    one-held k may = under-voting v rs key (entries 3 p ps) ∙ ap (voting v rs) (under-entries ps 3 p key t (omega arith) fits) ∙ rw (k, may) refl

    pub put_first : (shift q : ℕ) (s s' : List ℤ) (at : ℕ) → at + c ≤ length s
        → s' ≡ cond (ltb (3 * a) (3 * p)) (set s at (pos (vote_word shift q (entry_at 3 a ps)))) s
        → take (at + c) s' ≡ take at s ++ words_on shift q (under key_of key (voting v rs (entries 3 p ps)))
    unfolding words_by flat
    put_first shift q s s' at room es = test (ltb 0 c) (λ y. counted (ltb-true 0 c y)) (λ n. passed_over (ltb-false 0 c n))
      where
        word : ℤ
        word = pos (vote_word shift q (entry_at 3 a ps))

        before : (b : Bool) → take at (cond b (set s at word) s) ≡ take at s
        before true = take-set-le at s at word (omega arith)
        before false = refl

        counted : 0 < c → take (at + c) s' ≡ take at s ++ words_on shift q (under key_of key (voting v rs (entries 3 p ps)))
        counted l =
            let le = keep-le (may_vote v rs (get_or ps (3 * a + 1) 0)) (e - a) in
            let k : e - a ≡ 1 = omega arith in
            let m : at + c ≡ suc at = omega arith in
            let may = test (may_vote v rs (get_or ps (3 * a + 1) 0)) (λ y. y) (λ n. absurd (let z : c ≡ 0 = ec ∙ ap (λ (b : Bool). when b (e - a)) n in omega arith)) in
            let lt = lt-ltb (3 * a) (3 * p) (omega (arith, (first-splits ps 3 p (key + 1) t).within)) in
            rw (es, lt, m, one-held k (ap (may_vote v rs) (entry-word 3 a ps 1 (omega arith)) ∙ may)) (take-suc-set s at word (omega arith))

        passed_over : c ≤ 0 → take (at + c) s' ≡ take at s ++ words_on shift q (under key_of key (voting v rs (entries 3 p ps)))
        passed_over l =
            let m : at + c ≡ at = omega arith in
            rw (m, none_of (under key_of key (voting v rs (entries 3 p ps))) (omega (arith, first_counted)), es) (before (ltb (3 * a) (3 * p)) ∙ sym (append-nil (take at s)))

-- ---- the part under a key, from word `start` to before word `end`

module _ (v : ℕ) (rs ps : List ℕ) (p key : ℕ) (fits : 3 * p ≤ length ps) (t : keys_ascend ps 3 p ≡ true) (start end : ℕ) (es : start ≡ 3 * first_at ps 3 p key) (ee : end ≡ 3 * first_at ps 3 p (key + 1)) where
  between : (end - start) / 3 ≡ first_at ps 3 p (key + 1) - first_at ps 3 p key
  between = omega (arith, es, ee)

  starts-in : first_at ps 3 p key ≤ p
  starts-in = (first-splits ps 3 p key t).within

  pub key-forward : start ≤ end
  key-forward = omega (arith, es, ee, first-le ps 3 p key t)

  pub key-within : start ≤ 3 * p
  key-within = omega (arith, es, starts-in)

  -- what is handed on where there is one at most
  module _ (part : List ℕ) (k : part ≡ take (3 * p - start) (drop start ps)) where
    handed : part ≡ take (3 * p - 3 * first_at ps 3 p key) (drop (3 * first_at ps 3 p key) ps)
    handed = k ∙ ap (λ (n : ℕ). take (3 * p - n) (drop n ps)) es

    pub first-ready : Ids (entries 3 p ps) → 0 < length part → (2 < length part) × (get_or part 1 0 < 2 ^ 12)
    first-ready ids = first-whole ps part p (first_at ps 3 p key) fits starts-in handed ids

    module _ (few : (end - start) / 3 ≤ 1) (c : ℕ) (ec : c ≡ when (may_vote v rs (get_or ps (start + 1) 0)) ((end - start) / 3)) where
      counted : c ≡ when (may_vote v rs (get_or ps (3 * first_at ps 3 p key + 1) 0)) (first_at ps 3 p (key + 1) - first_at ps 3 p key)
      counted = ec ∙ ap₂ (λ (i n : ℕ). when (may_vote v rs (get_or ps (i + 1) 0)) n) es between

      pub first-number : c ≡ length (under key_of key (voting v rs (entries 3 p ps)))
      first-number = first_counted ps p key fits t v rs c counted (omega (arith, between))

      pub first-put : (shift q : ℕ) (s s' : List ℤ) (at : ℕ) → at + length (under key_of key (voting v rs (entries 3 p ps))) ≤ length s
          → s' ≡ cond (ltb 0 (length part)) (set s at (pos (packed (get_or part 1 0) (get_or part 2 0 + shift) q))) s
          → take (at + c) s' ≡ take at s ++ words_on shift q (under key_of key (voting v rs (entries 3 p ps)))
      first-put shift q s s' at room e =
          put_first ps p key fits t v rs c counted (omega (arith, between)) shift q s s' at (omega (arith, first-number))
          (e ∙ first-vote ps part p (first_at ps 3 p key) fits starts-in handed s at shift q)

  pub first-rows : Rowed rs ps 3 p → (end - start) / 3 ≤ 1
      → (start < 3 * p → (start + 1 < length ps) × HasRow rs (get_or ps (start + 1) 0)) × (3 * p ≤ start → (end - start) / 3 ≡ 0) × ((end - start) / 3 ≤ 1)
  first-rows R few = (
    λ lt. rowed-word rs ps 3 p R fits start (first_at ps 3 p key) es (omega (arith, es)),
    λ le. omega (arith, es, between, (first-splits ps 3 p (key + 1) t).within),
    few,
  )

  -- what is handed on where there are more
  module _ (part : List ℕ) (k : part ≡ flat (under key_of key (entries 3 p ps))) (l : List (List ℕ)) (kl : l ≡ first_chunks 3 (length part / 3) part) where
    chunks : l ≡ under key_of key (entries 3 p ps)
    chunks = kl ∙ chunks-are 3 (length part / 3) part ∙ rw (k, part-many 3 ps p key (omega arith) fits) (part-entries ps 3 p key fits)

    pub part-long : length l ≡ (end - start) / 3
    part-long = ap length chunks ∙ under-many ps 3 p key t (omega arith) fits ∙ sym between

    held : take ((end - start) / 3) l ≡ under key_of key (entries 3 p ps)
    held = take_all ((end - start) / 3) l (omega (arith, part-long)) ∙ chunks

    votes : voting v rs (take ((end - start) / 3) l) ≡ under key_of key (voting v rs (entries 3 p ps))
    votes = ap (voting v rs) held ∙ sym (under-voting v rs key (entries 3 p ps))

    pub part-number : (shift q : ℕ) → length (words_on shift q (voting v rs (take ((end - start) / 3) l))) ≡ length (under key_of key (voting v rs (entries 3 p ps)))
    part-number shift q = ap (λ (x : List (List ℕ)). length (words_on shift q x)) votes ∙ one-with-each shift q (under key_of key (voting v rs (entries 3 p ps)))

    pub part-words : (shift q : ℕ) → words_on shift q (voting v rs (take ((end - start) / 3) l)) ≡ words_on shift q (under key_of key (voting v rs (entries 3 p ps)))
    part-words shift q = ap (λ (x : List (List ℕ)). words_on shift q x) votes

    pub part-rows : Rowed rs ps 3 p → All (λ e. HasRow rs (get_or e 1 0)) (take ((end - start) / 3) l)
    part-rows R = rw held (all_keep (λ e. HasRow rs (get_or e 1 0)) (λ e. eqb (key_of e) key) (entries 3 p ps) (rowed-all rs ps 3 p R))

    pub part-bits : Ids (entries 3 p ps) → Ids (take ((end - start) / 3) l)
    part-bits ids = rw held (part-ids 3 ps p key ids)

-- ---- those of hash i, written behind those before it

pub put-hash : (es : List (List ℕ)) (hs : List ℕ) (top i : ℕ) (l x : List ℤ) → l ≡ firsts (pair_word top) es 2 hs i
    → x ≡ l ++ words_on (top - get_or hs (2 * i + 1) 0) i (under key_of (get_or hs (2 * i) 0) es) → x ≡ firsts (pair_word top) es 2 hs (i + 1)
put-hash es hs top i l x e k = walks.put-hash (pair_word top) es 2 hs i l (words_on (top - get_or hs (2 * i + 1) 0) i (under key_of (get_or hs (2 * i) 0) es)) x e
    (ap₂ (λ (a n : ℕ). words_on (top - a) i (under key_of n es)) (entry-word 2 i hs 1 (omega arith)) (entry_key 2 i hs (omega arith))) k
