-- The votes of the first query hashes, and their counting. Assumes nothing.
use mathlib.Core.Path.{◌≡◌, sym, ap, ap₂, ◌∙◌}
use mathlib.Core.Bool.{true}
use mathlib.Core.List.{List, [], ◌++◌}
use Prim.Native.Nat.{ℕ, ◌+◌, ◌*◌, ◌/◌, ◌≤◌, ◌<◌}
use native.Mathlib.Omega.{arith}
use lib.IntN.{ℤ}
use lib.ListN.{length, get_or, length-append}
use lib.Dec.{eqb}
use Rattle.std.specs.Simd.{first_chunks}
use Rattle.lists.specs.Lists.{flat, All}
use Rattle.lists.proofs.Keep.{all_keep}
use Rattle.query_search.proofs.Parts.{chunks-are, rowed-all}
use Rattle.lists.specs.Keys.{under}
use Rattle.lists.specs.Entries.{entries, entry_at, key_of, key_at, keys_ascend}
use Rattle.lists.proofs.Entries.{entry_key, entry-word}
use Rattle.maps.specs.Entries.{first_at}
use Rattle.maps.proofs.Entries.{first-le, part_length, part-entries}
use Rattle.query_search.proofs.Meeting.{under-many}
use Rattle.panako_vote.specs.declared.ScaleGrid.{ScaleGrid}
use Rattle.query_search.specs.Gathered.{words_by, words_of, Ids}
use Rattle.query_search.specs.Voting.{voting, if_voting, HasRow, Rowed}
use Rattle.query_search.proofs.Voting.{under-voting, words-voting, rowed-at, rowed-part}
use Rattle.query_search.proofs.Walks.{part-many, part-ids, given-none, given-count, given-longer, firsts, firsts-all, firsts-none, firsts_more, firsts-longer}
use Rattle.panako_votes.specs.Gathered.{words_with, pair_words, words, words_on}

-- ---- the first query hashes

module _ (g : ScaleGrid) (vs : ℕ) (rs ps : List ℕ) (p : ℕ) (hs : List ℕ) where
  -- the postings that vote
  abbrev pub es : List (List ℕ)
  es = voting vs rs (entries 5 p ps)

  unfoldable pub before : ℕ → List ℤ
  before i = firsts (pair_words g) es 4 hs i

  -- those of query hash i
  abbrev pub at : ℕ → List ℤ
  at i = words_on g (get_or hs (4 * i + 1) 0) (get_or hs (4 * i + 3) 0) (under key_of (get_or hs (4 * i) 0) es)

  pub before-all : (i : ℕ) → before i ≡ words g es (entries 4 i hs)
  unfolding before
  before-all i = firsts-all (pair_words g) es 4 hs i

  pub before-none : before 0 ≡ []
  unfolding before
  before-none = firsts-none (pair_words g) es 4 hs

  at-is : (i : ℕ) → words_of (pair_words g) i es (entry_at 4 i hs) ≡ at i
  at-is i =
      let h : List ℕ = entry_at 4 i hs in
      ap (λ (a : ℕ). words_on g a (get_or h 3 0) (under key_of (key_of h) es)) (entry-word 4 i hs 1 (omega arith))
      ∙ ap (λ (b : ℕ). words_on g (get_or hs (4 * i + 1) 0) b (under key_of (key_of h) es)) (entry-word 4 i hs 3 (omega arith))
      ∙ ap (λ (k : ℕ). words_on g (get_or hs (4 * i + 1) 0) (get_or hs (4 * i + 3) 0) (under key_of k es)) (entry_key 4 i hs (omega arith))

  pub before_more : (i : ℕ) → before (i + 1) ≡ before i ++ at i
  unfolding before
  before_more i = firsts_more (pair_words g) es 4 hs i ∙ ap (λ (l : List ℤ). firsts (pair_words g) es 4 hs i ++ l) (at-is i)

  pub longer : (i : ℕ) → length (before (i + 1)) ≡ length (before i) + length (at i)
  longer i = ap length (before_more i) ∙ length-append (before i) (at i)

  pub before-longer : (i m : ℕ) → i ≤ m → length (before i) ≤ length (before m)
  unfolding before
  before-longer i m h = firsts-longer (pair_words g) es 4 hs i m h

  pub put-hash : (i : ℕ) (l x : List ℤ) → l ≡ before i → x ≡ l ++ at i → x ≡ before (i + 1)
  put-hash i l x e k = k ∙ ap (λ (y : List ℤ). y ++ at i) e ∙ sym (before_more i)

  -- ---- the counting: v votes by the first i query hashes, and by hash i with the first j postings of its part

  pub record Counting (room i qa qc : ℕ) (part : List ℕ) (n v j : ℕ) : Type 0 where
    pub anchor : qa ≡ get_or hs (4 * i + 1) 0
    pub last : qc ≡ get_or hs (4 * i + 3) 0
    pub part-is : part ≡ flat (under key_of (get_or hs (4 * i) 0) (entries 5 p ps))
    pub many : n ≡ length (under key_of (get_or hs (4 * i) 0) (entries 5 p ps))
    pub counted : v ≡ length (before i) + length (words_by (if_voting vs rs (words_with g qa qc)) (entries 5 j part))
    pub fits : v ≤ room
    pub on : j ≤ n

  module _ (fit : 5 * p ≤ length ps) (room i qa qc : ℕ) (part : List ℕ) (n : ℕ) where
    pub counting-none : (v : ℕ) → qa ≡ get_or hs (4 * i + 1) 0 → qc ≡ get_or hs (4 * i + 3) 0 → part ≡ flat (under key_of (get_or hs (4 * i) 0) (entries 5 p ps)) → n ≡ length part / 5
        → v ≡ length (before i) → v ≤ room → Counting room i qa qc part n v 0
    counting-none v ea ec ep en ev le = record {
      anchor = ea;
      last = ec;
      part-is = ep;
      many = en ∙ ap (λ (l : List ℕ). length l / 5) ep ∙ part-many 5 ps p (get_or hs (4 * i) 0) (omega arith) fit;
      counted = ev ∙ sym (ap (λ (l : List ℤ). length (before i) + length l) (given-none (if_voting vs rs (words_with g qa qc)) 5 part) ∙ omega arith);
      fits = le;
      on = omega arith;
    }

    module _ (v j : ℕ) (C : Counting room i qa qc part n v j) where
      -- all of the part
      held : entries 5 n part ≡ under key_of (get_or hs (4 * i) 0) (entries 5 p ps)
      held = rw (C.many, C.part-is) (part-entries ps 5 p (get_or hs (4 * i) 0) fit)

      whole_part : words_by (if_voting vs rs (words_with g qa qc)) (entries 5 n part) ≡ at i
      whole_part =
          sym (words-voting vs rs (words_with g qa qc) (entries 5 n part))
          ∙ ap (λ (l : List (List ℕ)). words_on g qa qc l) (ap (voting vs rs) held ∙ sym (under-voting vs rs (get_or hs (4 * i) 0) (entries 5 p ps)))
          ∙ ap₂ (λ (a b : ℕ). words_on g a b (under key_of (get_or hs (4 * i) 0) es)) C.anchor C.last

      pub counting-row : Rowed rs ps 5 p → j < n → (e : List ℕ) → e ≡ entry_at 5 j part → HasRow rs (get_or e 1 0)
      counting-row R lt e k = rw (k, entry-word 5 j part 1 (omega arith)) (rowed-at rs part 5 n (rowed-part rs ps 5 p R part n (get_or hs (4 * i) 0) held) j lt)

      pub counting-all : j ≡ n → v ≡ length (before (i + 1))
      counting-all k = C.counted ∙ ap (λ (t : ℕ). length (before i) + length (words_by (if_voting vs rs (words_with g qa qc)) (entries 5 t part))) k ∙ ap (λ (l : List ℤ). length (before i) + length l) whole_part ∙ sym (longer i)

      -- where the part ends
      pub counting-end : keys_ascend ps 5 p ≡ true → (start : ℕ) → start ≡ 5 * first_at ps 5 p (key_at hs 4 i) → start + length part ≡ 5 * first_at ps 5 p (key_at hs 4 i + 1)
      counting-end t start k = omega (arith, ap length C.part-is, part_length ps 5 p (get_or hs (4 * i) 0) fit, under-many ps 5 p (key_at hs 4 i) t (omega arith) fit, first-le ps 5 p (key_at hs 4 i) t)

      module _ (c : ℕ) (e : c ≡ length (if_voting vs rs (words_with g qa qc) (entry_at 5 j part))) (lt : j < n) where
        pub counting_more : v + c ≤ room → Counting room i qa qc part n (v + c) (j + 1)
        counting_more le = record {
          anchor = C.anchor;
          last = C.last;
          part-is = C.part-is;
          many = C.many;
          counted = omega (arith, C.counted, given-count (if_voting vs rs (words_with g qa qc)) 5 part j);
          fits = le;
          on = omega arith;
        }

        -- no more than all query hashes have
        pub counting-over : (m : ℕ) → i < m → v + c ≤ length (before m)
        counting-over m k =
            let a = given-count (if_voting vs rs (words_with g qa qc)) 5 part j in
            let b = given-longer (if_voting vs rs (words_with g qa qc)) 5 part (j + 1) n (omega arith) in
            let d = before-longer (i + 1) m (omega arith) in
            omega (arith, C.counted, a, b, d, longer i, ap length whole_part)

  -- ---- the postings under the key of hash i, as chunks of their part

  module _ (fit : 5 * p ≤ length ps) (i qa qc : ℕ) (part : List ℕ) (k : part ≡ flat (under key_of (get_or hs (4 * i) 0) (entries 5 p ps))) (l : List (List ℕ)) (kl : l ≡ first_chunks 5 (length part / 5) part) where
    chunks : l ≡ under key_of (get_or hs (4 * i) 0) (entries 5 p ps)
    chunks = kl ∙ chunks-are 5 (length part / 5) part ∙ rw (k, part-many 5 ps p (get_or hs (4 * i) 0) (omega arith) fit) (part-entries ps 5 p (get_or hs (4 * i) 0) fit)

    pub part-rows : Rowed rs ps 5 p → All (λ e. HasRow rs (get_or e 1 0)) l
    part-rows R = rw chunks (all_keep (λ e. HasRow rs (get_or e 1 0)) (λ e. eqb (key_of e) (get_or hs (4 * i) 0)) (entries 5 p ps) (rowed-all rs ps 5 p R))

    pub part-bits : Ids (entries 5 p ps) → Ids l
    part-bits ids = rw chunks (part-ids 5 ps p (get_or hs (4 * i) 0) ids)

    -- their votes
    pub part-words : qa ≡ get_or hs (4 * i + 1) 0 → qc ≡ get_or hs (4 * i + 3) 0 → words_on g qa qc (voting vs rs l) ≡ at i
    part-words ea ec =
        ap (λ (x : List (List ℕ)). words_on g qa qc x) (ap (voting vs rs) chunks ∙ sym (under-voting vs rs (get_or hs (4 * i) 0) (entries 5 p ps)))
        ∙ ap₂ (λ (a b : ℕ). words_on g a b (under key_of (get_or hs (4 * i) 0) es)) ea ec
