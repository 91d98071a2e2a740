-- A build's postings by their ranks. Assumes nothing.
use mathlib.Core.Path.{◌≡◌, refl, sym, ap, ◌∙◌}
use mathlib.Core.Logic.{◌⊎◌, inl, inr}
use mathlib.Core.List.{List, [], ◌∷◌, ◌++◌, map, map-append}
use Prim.Native.Nat.{ℕ, zero, suc, ◌+◌, ◌*◌, ◌-◌, ◌/◌, ◌≤◌, ◌<◌}
use native.Mathlib.Numerals.{add-one}
use native.Mathlib.Omega.{arith}
use lib.ListN.{length, get_or, take, drop, length-drop}
use lib.Seq.{ext_get_or, get_or-drop, get_or-take, drop-drop, drop-cons, length-take-le}
use Rattle.lists.specs.Lists.{All, sum}
use Rattle.lists.specs.Entries.{entries, entry_at, key_at}
use Rattle.lists.proofs.Entries.{read_at, entry_key}
use Rattle.build_ranges.specs.Codes.{tabulate, ranks_from, hash_place}
use Rattle.build_ranges.proofs.Ranks.{listed_same, map-listed, length-listed, place_is, sum_more}
use Rattle.model.specs.Fingerprints.{Hash, hash_of, hashes_of, hash_count, divided}
use Rattle.model.specs.Index.{Posting, posted, numbered}
use Rattle.model.proofs.Fingerprints.{length-hashes}

-- the hash at place i, and the posting of a rank
abbrev pub hash_at : List ℕ → ℕ → ℕ → Hash
hash_at words w i = record { key = key_at words (w - 1) i; times = drop 1 (entry_at (w - 1) i words) }

hash-is : (words : List ℕ) (w i : ℕ) → 2 ≤ w → hash_of (entry_at (w - 1) i words) ≡ hash_at words w i
hash-is words w i h =
    let k : get_or (entry_at (w - 1) i words) 0 0 ≡ key_at words (w - 1) i = entry_key (w - 1) i words (omega arith) in
    λ j. record { key = k j; times = drop 1 (entry_at (w - 1) i words) }

abbrev pub post_of : List ℕ → ℕ → List ℕ → ℕ → Posting
post_of words w lengths r = record { id = r / 8192; hash = hash_at words w (hash_place lengths r) }

abbrev no_hash : Hash
no_hash = record { key = 0; times = [] }

get_or-listed : {A : Type 0} (f : ℕ → A) (n i : ℕ) (d : A) → i < n → get_or (tabulate f n) i d ≡ f i
unfolding tabulate
get_or-listed f zero i d h = absurd (omega arith)
get_or-listed f (suc n) i d h = go (Rattle.lists.proofs.Tests.le-or-lt n i) (get_or-listed f n i d)
  where
    go : (n ≤ i) ⊎ (i < n) → (i < n → get_or (tabulate f n) i d ≡ f i) → get_or (tabulate f n ++ f n ∷ []) i d ≡ f i
    go (inl a) ih = let e : i ≡ n = omega arith in rw e (lib.Seq.get_or_at (tabulate f n) (f n) [] d n (length-listed f n))
    go (inr b) ih = lib.ListN.get_or-append (tabulate f n) (f n ∷ []) d i (omega (arith, length-listed f n)) ∙ ih b

-- a part of the hashes
pub part-is : (words : List ℕ) (w start n : ℕ) → 2 ≤ w → start + n ≤ hash_count w words → take n (drop start (hashes_of w words)) ≡ tabulate (λ j. hash_at words w (start + j)) n
unfolding hashes_of
part-is words w start n w2 h =
    let H = map hash_of (entries (w - 1) (hash_count w words) words) in
    let long : length H ≡ hash_count w words = length-hashes w words in
    let l : length (take n (drop start H)) ≡ n = length-take-le n (drop start H) (rw length-drop (omega (arith, long))) in
    ext_get_or no_hash (take n (drop start H)) (tabulate (λ j. hash_at words w (start + j)) n) (l ∙ sym (length-listed (λ j. hash_at words w (start + j)) n))
    (λ i lt. let b : i < n = omega (arith, l) in
    get_or-take n (drop start H) i no_hash b ∙ get_or-drop start H i no_hash
    ∙ read_at hash_of (w - 1) (hash_count w words) words no_hash (start + i) (omega arith)
    ∙ hash-is words w (start + i) w2
    ∙ sym (get_or-listed (λ j. hash_at words w (start + j)) n i no_hash b))

module _ (words : List ℕ) (w : ℕ) (lengths : List ℕ) (w2 : 2 ≤ w) (short : All (λ n. n ≤ 8192) lengths) (whole : sum lengths ≤ hash_count w words) where
  -- of recordings id, id + 1, ..
  from : (id : ℕ) (ls rates sets : List ℕ) → ls ≡ drop id lengths → All (λ n. n ≤ 8192) ls → length rates ≡ length ls → length sets ≡ length ls → sum (take id lengths) + sum ls ≤ hash_count w words
      → numbered id (divided (drop (sum (take id lengths)) (hashes_of w words)) ls rates sets) ≡ map (post_of words w lengths) (ranks_from id ls)
  unfolding numbered divided ranks_from sum
  from id [] rates sets e s r g h = refl
  from id (n ∷ ls) [] sets e s r g h = absurd (omega arith)
  from id (n ∷ ls) (q ∷ rates) [] e s r g h = absurd (omega arith)
  from id (n ∷ ls) (q ∷ rates) (x ∷ sets) e s r g h =
      let start : ℕ = sum (take id lengths) in
      let n8 = s.0 in
      let lt : id < length lengths = omega (arith, ap length e ∙ length-drop id lengths) in
      let here : drop id lengths ≡ get_or lengths id 0 ∷ drop (suc id) lengths = drop-cons lengths id 0 lt in
      let both : n ∷ ls ≡ get_or lengths id 0 ∷ drop (suc id) lengths = e ∙ here in
      let en : n ≡ get_or lengths id 0 = ap (λ l. get_or l 0 0) both in
      let el : ls ≡ drop (suc id) lengths = ap (drop 1) both in
      let next : start + n ≡ sum (take (suc id) lengths) = rw en (sym (rw add-one at (sum_more lengths id lt))) in
      let mine : posted id (take n (drop start (hashes_of w words))) ≡ map (post_of words w lengths) (tabulate (λ j. 8192 * id + j) n) =
      ap (posted id) (part-is words w start n w2 (omega arith))
      ∙ map-listed (λ h. record { id = id; hash = h }) (λ j. hash_at words w (start + j)) n
      ∙ listed_same (λ j. record { id = id; hash = hash_at words w (start + j) }) (λ j. post_of words w lengths (8192 * id + j)) n
      (λ j l. let d : (8192 * id + j) / 8192 ≡ id = omega arith in rw (place_is lengths id j (omega arith), d))
      ∙ sym (map-listed (post_of words w lengths) (λ j. 8192 * id + j) n) in
      let ih = from (suc id) ls rates sets el s.1 (omega arith) (omega arith) (omega (arith, next)) in
      let rest : numbered (suc id) (divided (drop n (drop start (hashes_of w words))) ls rates sets) ≡ map (post_of words w lengths) (ranks_from (suc id) ls) =
      rw (drop-drop n start (hashes_of w words), next) ih in
      rw (mine, rest) (sym (map-append (post_of words w lengths) (tabulate (λ j. 8192 * id + j) n) (ranks_from (suc id) ls)))

  pub numbered_is : (rates sets : List ℕ) → length rates ≡ length lengths → length sets ≡ length lengths → numbered 0 (divided (hashes_of w words) lengths rates sets) ≡ map (post_of words w lengths) (ranks_from 0 lengths)
  unfolding sum
  numbered_is rates sets r g = from 0 lengths rates sets refl short r g (omega arith)
