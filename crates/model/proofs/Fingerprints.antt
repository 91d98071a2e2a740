-- What the words of fingerprints say: a fingerprint's row is sound and may hold its hashes, every hash has its times, and a build's
-- numbering gives each fingerprint's hashes its own id, in order. Assumes nothing.
use mathlib.Core.Path.{◌≡◌, refl, sym, ap, ◌∙◌}
use mathlib.Core.Bool.{Bool, true, false, cond, not, ◌||◌}
use mathlib.Core.List.{List, [], ◌∷◌, ◌++◌, map, map-append, append-nil}
use Prim.Native.Nat.{ℕ, suc, ◌+◌, ◌-◌, ◌≤◌, max, zero, ◌<◌}
use native.Mathlib.Nat.{mul-div-le, add-zero}
use native.Mathlib.Omega.{arith}
use lib.ListN.{length, take, drop, length-map, length-drop, get_or}
use lib.Seq.{take-add, take-length}
use lib.Dec.{eqb, leb}
use lib.Ieee.{binary32, nan_bits}
use borrow.Author.Tests.{le-leb, eq-eqb, ne_eqb}
use Rattle.lists.specs.Lists.{All, flat, sum}
use Rattle.lists.specs.Entries.{entries}
use Rattle.lists.proofs.Tests.{test}
use Rattle.lists.proofs.Keep.{all-imp, all_map, all_append, all_take, all_drop, all_of, map-map, map-id, keep_all, keep-none, keep-nil, keep_append}
use Rattle.lists.proofs.Entries.{wide-entries, length-read}
use Rattle.model.specs.Fingerprints.{Hash, Fingerprint, hash_of, hash_count, hashes_of, divided, fingerprints_of}
use Rattle.model.specs.Rows.{has_rmax, anchor, largest_anchor, no_rate, canonical, is_canonical, is_set, row_of, row_sound, hash_sound}
use Rattle.model.specs.Index.{Posting, posted, numbered, of_id}

-- ---- rows

canonical-is : (rate : ℕ) → is_canonical (canonical rate) ≡ true
unfolding canonical is_canonical
canonical-is rate = test (nan_bits binary32 rate) (λ e. rw e (either (nan_bits binary32 no_rate))) (λ e. rw (e, e))
  where
    either : (b : Bool) → (not b || true) ≡ true
    either true = refl
    either false = refl

pub anchor-largest : (hs : List Hash) → All (λ h. anchor h ≤ largest_anchor hs) hs
unfolding largest_anchor
anchor-largest [] = tt
anchor-largest (h ∷ hs) = (omega arith, all-imp (λ g. anchor g ≤ largest_anchor hs) (λ g. anchor g ≤ max (anchor h) (largest_anchor hs)) (λ g le. omega arith) hs (anchor-largest hs))

pub row-sound : (w : ℕ) (f : Fingerprint) → is_set f.set ≡ true → row_sound w (row_of w f) ≡ true
unfolding row_sound row_of
row-sound w f h = rw (canonical-is f.rate, h) (test (has_rmax w) (λ e. rw e) (λ e. rw e))

pub hashes-sound : (w : ℕ) (f : Fingerprint) → All (λ h. hash_sound w (row_of w f) h ≡ true) f.hashes
unfolding hash_sound row_of
hashes-sound w f = test (has_rmax w)
    (λ e. all-imp (λ h. anchor h ≤ largest_anchor f.hashes) (λ h. (not (has_rmax w) || leb (anchor h) (cond (has_rmax w) (largest_anchor f.hashes) 0)) ≡ true)
    (λ h le. rw e (le-leb (anchor h) (largest_anchor f.hashes) le)) f.hashes (anchor-largest f.hashes))
    (λ e. all_of (λ h. (not (has_rmax w) || leb (anchor h) (cond (has_rmax w) (largest_anchor f.hashes) 0)) ≡ true) (λ h. rw e) f.hashes)

-- ---- widths

-- with its id a hash has w words
abbrev pub WideHashes : ℕ → List Hash → Type 0
WideHashes w hs = All (λ h. 2 + length h.times ≡ w) hs

module _ (w : ℕ) (w2 : 2 ≤ w) where
  pub wide-hashes : (words : List ℕ) → WideHashes w (hashes_of w words)
  unfolding hashes_of
  wide-hashes words =
      all_map hash_of (λ h. 2 + length h.times ≡ w) (entries (w - 1) (hash_count w words) words)
      (all-imp (λ e. length e ≡ w - 1) (λ e. 2 + length (drop 1 e) ≡ w) (λ e h. rw length-drop (omega arith)) (entries (w - 1) (hash_count w words) words)
      (wide-entries (w - 1) (hash_count w words) words (mul-div-le (length words) (w - 1))))

  pub wide-divided : (hs : List Hash) (lengths rates sets : List ℕ) → WideHashes w hs → All (λ f. WideHashes w f.hashes) (divided hs lengths rates sets)
  unfolding divided
  wide-divided hs [] rates sets h = tt
  wide-divided hs (n ∷ lengths) [] sets h = tt
  wide-divided hs (n ∷ lengths) (r ∷ rates) [] h = tt
  wide-divided hs (n ∷ lengths) (r ∷ rates) (s ∷ sets) h =
      (all_take (λ g. 2 + length g.times ≡ w) n hs h, wide-divided (drop n hs) lengths rates sets (all_drop (λ g. 2 + length g.times ≡ w) n hs h))

  pub wide-fingerprints : (words lengths rates sets : List ℕ) → All (λ f. WideHashes w f.hashes) (fingerprints_of w words lengths rates sets)
  wide-fingerprints words lengths rates sets = wide-divided (hashes_of w words) lengths rates sets (wide-hashes words)

  pub wide-posted : (id : ℕ) (hs : List Hash) → WideHashes w hs → All (λ p. 2 + length p.hash.times ≡ w) (posted id hs)
  wide-posted id hs h = all_map (λ g. record { id = id; hash = g }) (λ (p : Posting). 2 + length p.hash.times ≡ w) hs h

  pub wide-numbered : (i : ℕ) (fs : List Fingerprint) → All (λ f. WideHashes w f.hashes) fs → All (λ p. 2 + length p.hash.times ≡ w) (numbered i fs)
  unfolding numbered
  wide-numbered i [] h = tt
  wide-numbered i (f ∷ fs) h =
      all_append (λ p. 2 + length p.hash.times ≡ w) (posted i f.hashes) (numbered (suc i) fs) (wide-posted i f.hashes h.0) (wide-numbered (suc i) fs h.1)

-- ---- how many

pub length-hashes : (w : ℕ) (words : List ℕ) → length (hashes_of w words) ≡ hash_count w words
unfolding hashes_of
length-hashes w words = length-read hash_of (w - 1) (hash_count w words) words

-- as many fingerprints as lengths, where there are as many rates and sets
pub length-divided : (hs : List Hash) (lengths rates sets : List ℕ) → length rates ≡ length lengths → length sets ≡ length lengths → length (divided hs lengths rates sets) ≡ length lengths
unfolding divided
length-divided hs [] rates sets h k = refl
length-divided hs (n ∷ lengths) [] sets h k = absurd (omega arith)
length-divided hs (n ∷ lengths) (r ∷ rates) [] h k = absurd (omega arith)
length-divided hs (n ∷ lengths) (r ∷ rates) (s ∷ sets) h k = ap suc (length-divided (drop n hs) lengths rates sets (omega arith) (omega arith))

-- ---- a build's numbering: all hashes in order, each fingerprint's under its own id

pub hashes-numbered : (i : ℕ) (fs : List Fingerprint) → map (λ p. p.hash) (numbered i fs) ≡ flat (map (λ f. f.hashes) fs)
unfolding numbered flat
hashes-numbered i [] = refl
hashes-numbered i (f ∷ fs) =
    map-append (λ p. p.hash) (posted i f.hashes) (numbered (suc i) fs)
    ∙ ap (λ (l : List Hash). l ++ map (λ p. p.hash) (numbered (suc i) fs)) (map-map (λ (p : Posting). p.hash) (λ h. record { id = i; hash = h }) f.hashes ∙ map-id f.hashes)
    ∙ ap (λ (l : List Hash). f.hashes ++ l) (hashes-numbered (suc i) fs)

-- the fingerprints have the hashes that the lengths name
pub flat-divided : (hs : List Hash) (lengths rates sets : List ℕ) → length rates ≡ length lengths → length sets ≡ length lengths → flat (map (λ f. f.hashes) (divided hs lengths rates sets)) ≡ take (sum lengths) hs
unfolding divided flat sum
flat-divided hs [] rates sets h k = refl
flat-divided hs (n ∷ lengths) [] sets h k = absurd (omega arith)
flat-divided hs (n ∷ lengths) (r ∷ rates) [] h k = absurd (omega arith)
flat-divided hs (n ∷ lengths) (r ∷ rates) (s ∷ sets) h k = ap (λ (l : List Hash). take n hs ++ l) (flat-divided (drop n hs) lengths rates sets (omega arith) (omega arith)) ∙ sym (take-add n (sum lengths) hs)

-- so an accepted build's postings are its hashes, in order
pub numbered-all : (w : ℕ) (words lengths rates sets : List ℕ) → length rates ≡ length lengths → length sets ≡ length lengths → sum lengths ≡ hash_count w words
    → map (λ p. p.hash) (numbered 0 (fingerprints_of w words lengths rates sets)) ≡ hashes_of w words
numbered-all w words lengths rates sets e k s =
    hashes-numbered 0 (fingerprints_of w words lengths rates sets) ∙ flat-divided (hashes_of w words) lengths rates sets e k
    ∙ rw (s, ← length-hashes w words) (take-length (hashes_of w words))

pub length-numbered : (w : ℕ) (words lengths rates sets : List ℕ) → length rates ≡ length lengths → length sets ≡ length lengths → sum lengths ≡ hash_count w words
    → length (numbered 0 (fingerprints_of w words lengths rates sets)) ≡ hash_count w words
length-numbered w words lengths rates sets e k s =
    sym (length-map (numbered 0 (fingerprints_of w words lengths rates sets)) (λ p. p.hash)) ∙ ap length (numbered-all w words lengths rates sets e k s) ∙ length-hashes w words

-- ---- "Ids follow order"

posted-own : (id : ℕ) (hs : List Hash) → of_id id (posted id hs) ≡ posted id hs
posted-own id hs = keep_all (λ p. eqb p.id id) (posted id hs) (all_map (λ h. record { id = id; hash = h }) (λ (p : Posting). eqb p.id id ≡ true) hs (all_of (λ h. eqb id id ≡ true) (λ h. eq-eqb id id refl) hs))

pub posted-other : (id j : ℕ) (hs : List Hash) → (j ≡ id → ⊥) → All (λ p. eqb p.id j ≡ false) (posted id hs)
posted-other id j hs ne = all_map (λ h. record { id = id; hash = h }) (λ (p : Posting). eqb p.id j ≡ false) hs (all_of (λ h. eqb id j ≡ false) (λ h. ne_eqb id j (λ e. ne (sym e))) hs)

later : (i j : ℕ) (fs : List Fingerprint) → j < i → of_id j (numbered i fs) ≡ []
unfolding numbered
later i j [] h = keep-nil (λ p. eqb p.id j)
later i j (f ∷ fs) h =
    keep_append (λ p. eqb p.id j) (posted i f.hashes) (numbered (suc i) fs)
    ∙ rw (keep-none (λ p. eqb p.id j) (posted i f.hashes) (posted-other i j f.hashes (λ e. omega arith)), later (suc i) j fs (omega arith))

-- recording i + j has the hashes of fingerprint j, and none where there is no such fingerprint
pub numbered_of : (i j : ℕ) (fs : List Fingerprint) → of_id (i + j) (numbered i fs) ≡ posted (i + j) (get_or (map (λ f. f.hashes) fs) j [])
unfolding numbered
numbered_of i j [] = keep-nil (λ p. eqb p.id (i + j))
numbered_of i zero (f ∷ fs) =
    rw add-zero (keep_append (λ p. eqb p.id i) (posted i f.hashes) (numbered (suc i) fs)
    ∙ rw (posted-own i f.hashes, later (suc i) i fs (omega arith)) (append-nil (posted i f.hashes)))
numbered_of i (suc j) (f ∷ fs) =
    let e : i + suc j ≡ suc i + j = omega arith in
    rw e (keep_append (λ p. eqb p.id (suc i + j)) (posted i f.hashes) (numbered (suc i) fs)
    ∙ rw (keep-none (λ p. eqb p.id (suc i + j)) (posted i f.hashes) (posted-other i (suc i + j) f.hashes (λ d. omega arith)), numbered_of (suc i) j fs))
