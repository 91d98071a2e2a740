-- The votes of recording j among the words are those that the model gathers for it, in the same order. Assumes nothing.
use mathlib.Core.Path.{◌≡◌, refl, sym, ap, ap₂, ◌∙◌}
use mathlib.Core.Bool.{Bool, true, false}
use mathlib.Core.List.{List, [], ◌∷◌, ◌++◌, map, map-append}
use Prim.Native.Nat.{ℕ, suc, ◌+◌, ◌≤◌, ◌<◌}
use native.Mathlib.Omega.{arith}
use lib.IntN.{ℤ}
use lib.ListN.{length, get_or, length-map}
use lib.Dec.{eqb}
use Rattle.lists.specs.Lists.{keep, All, flat}
use Rattle.lists.specs.Keys.{under}
use Rattle.lists.specs.Entries.{key_of}
use Rattle.lists.proofs.Tests.{test}
use Rattle.lists.proofs.Keep.{keep_append, keep-comm, keep-map, keep_all, keep-none, all_keep, all-imp, all_append, map-map}
use Rattle.model.specs.Fingerprints.{Hash, hash_of}
use Rattle.model.specs.Index.{Posting, of_id}
use Rattle.model.specs.Index as index
use Rattle.model.specs.Words.{read_posting}
use Rattle.model.specs.Query.{Scheme, gather}
use Rattle.query_search.specs.Gathered.{found, words_by, Pairing, words_from}
use Rattle.query_search.specs.Voting.{may_vote, voting}
use Rattle.query_laws.specs.Candidates.{Reading, of_recording, votes_of}

module _ (S : Scheme) (R : Reading S.Vote) (a : S.Ask) (pair : Pairing) where
  -- the words of a pair are its votes
  pub record Right (i : ℕ) (h e : List ℕ) : Type 0 where
    pub own : All (λ z. R.recording_of z ≡ get_or e 1 0) (pair i h e)
    pub votes : map R.vote_in (pair i h e) ≡ S.vote a i (hash_of h) (read_posting e).hash

  -- and so with each posting
  abbrev pub RightAll : List (List ℕ) → ℕ → List (List ℕ) → Type 0
  RightAll es i [] = Unit {0}
  RightAll es i (h ∷ hs) = All (Right i h) es × RightAll es (suc i) hs

  pub right-all : (k : ℕ) (Q E : List ℕ → Type 0) → ((i : ℕ) (h e : List ℕ) → i < k → Q h → E e → Right i h e)
      → (es : List (List ℕ)) → All E es → (hs : List (List ℕ)) → All Q hs → (i : ℕ) → i + length hs ≤ k → RightAll es i hs
  right-all k Q E f es F [] G i le = tt
  right-all k Q E f es F (h ∷ hs) G i le = (all-imp E (Right i h) (λ e x. f i h e (omega arith) G.0 x) es F, right-all k Q E f es F hs G.1 (suc i) (omega arith))

  abbrev voted : ℕ → List ℕ → List ℕ → List S.Vote
  voted i h e = S.vote a i (hash_of h) (read_posting e).hash

  -- ---- those of one query hash with the postings l

  pub all-of-hash : (i : ℕ) (h : List ℕ) (l : List (List ℕ)) → All (Right i h) l → map R.vote_in (flat (map (pair i h) l)) ≡ flat (map (voted i h) l)
  unfolding flat
  all-of-hash i h [] H = refl
  all-of-hash i h (e ∷ l) H =
      map-append R.vote_in (pair i h e) (flat (map (pair i h) l))
      ∙ ap₂ (λ (x y : List S.Vote). x ++ y) H.0.votes (all-of-hash i h l H.1)

  module _ (j : ℕ) where
    abbrev of_j : List ℕ → Bool
    of_j e = eqb (get_or e 1 0) j

    votes-append : (x y : List ℤ) → votes_of R j (x ++ y) ≡ votes_of R j x ++ votes_of R j y
    votes-append x y =
        ap (map R.vote_in) (keep_append (λ z. eqb (R.recording_of z) j) x y)
        ∙ map-append R.vote_in (of_recording R j x) (of_recording R j y)

    pair-own : (i : ℕ) (h e : List ℕ) → Right i h e → of_j e ≡ true → votes_of R j (pair i h e) ≡ voted i h e
    pair-own i h e H t =
        ap (map R.vote_in) (keep_all (λ z. eqb (R.recording_of z) j) (pair i h e) (all-imp (λ z. R.recording_of z ≡ get_or e 1 0) (λ z. eqb (R.recording_of z) j ≡ true) (λ z m. ap (λ (n : ℕ). eqb n j) m ∙ t) (pair i h e) H.own))
        ∙ H.votes

    pair-other : (i : ℕ) (h e : List ℕ) → Right i h e → of_j e ≡ false → votes_of R j (pair i h e) ≡ []
    pair-other i h e H t =
        ap (map R.vote_in) (keep-none (λ z. eqb (R.recording_of z) j) (pair i h e) (all-imp (λ z. R.recording_of z ≡ get_or e 1 0) (λ z. eqb (R.recording_of z) j ≡ false) (λ z m. ap (λ (n : ℕ). eqb n j) m ∙ t) (pair i h e) H.own))

    of-hash : (i : ℕ) (h : List ℕ) (l : List (List ℕ)) → All (Right i h) l → votes_of R j (flat (map (pair i h) l)) ≡ flat (map (voted i h) (keep of_j l))
    unfolding flat keep
    of-hash i h [] H = refl
    of-hash i h (e ∷ l) H =
        let ih = of-hash i h l H.1 in
        votes-append (pair i h e) (flat (map (pair i h) l)) ∙ test (of_j e)
        (λ t. rw t (ap₂ (λ (x y : List S.Vote). x ++ y) (pair-own i h e H.0 t) ih))
        (λ t. rw t (ap₂ (λ (x y : List S.Vote). x ++ y) (pair-other i h e H.0 t) ih))

    -- ---- as the model has it

    model-of-hash : (i : ℕ) (h : List ℕ) (es : List (List ℕ))
        → flat (map (λ p. S.vote a i (hash_of h) p.hash) (under index.key_of (key_of h) (of_id j (map read_posting es)))) ≡ flat (map (voted i h) (keep of_j (found es h)))
    model-of-hash i h es =
        let f : Posting → List S.Vote = λ p. S.vote a i (hash_of h) p.hash in
        ap (λ (l : List Posting). flat (map f (under index.key_of (key_of h) l))) (keep-map read_posting (λ p. eqb p.id j) es)
        ∙ ap (λ (l : List Posting). flat (map f l)) (keep-map read_posting (λ p. eqb (index.key_of p) (key_of h)) (keep of_j es))
        ∙ ap flat (map-map f read_posting (found (keep of_j es) h))
        ∙ ap (λ (l : List (List ℕ)). flat (map (voted i h) l)) (sym (keep-comm of_j (λ e. eqb (key_of e) (key_of h)) es))

    pub votes-are : (es hs : List (List ℕ)) (i : ℕ) → RightAll es i hs
        → votes_of R j (words_from pair i es hs) ≡ gather S a i (map hash_of hs) (of_id j (map read_posting es))
    unfolding words_from words_by gather keep
    votes-are es [] i H = refl
    votes-are es (h ∷ hs) i H =
        votes-append (flat (map (pair i h) (found es h))) (words_from pair (suc i) es hs)
        ∙ ap₂ (λ (x y : List S.Vote). x ++ y)
        (of-hash i h (found es h) (all_keep (Right i h) (λ e. eqb (key_of e) (key_of h)) es H.0) ∙ sym (model-of-hash i h es))
        (votes-are es hs (suc i) H.1)

  -- ---- all of them

  all-model : (i : ℕ) (h : List ℕ) (es : List (List ℕ)) → flat (map (λ p. S.vote a i (hash_of h) p.hash) (under index.key_of (key_of h) (map read_posting es))) ≡ flat (map (voted i h) (found es h))
  all-model i h es =
      let f : Posting → List S.Vote = λ p. S.vote a i (hash_of h) p.hash in
      ap (λ (l : List Posting). flat (map f l)) (keep-map read_posting (λ p. eqb (index.key_of p) (key_of h)) es)
      ∙ ap flat (map-map f read_posting (found es h))

  all-votes : (es hs : List (List ℕ)) (i : ℕ) → RightAll es i hs → map R.vote_in (words_from pair i es hs) ≡ gather S a i (map hash_of hs) (map read_posting es)
  unfolding words_from words_by gather
  all-votes es [] i H = refl
  all-votes es (h ∷ hs) i H =
      map-append R.vote_in (flat (map (pair i h) (found es h))) (words_from pair (suc i) es hs)
      ∙ ap₂ (λ (x y : List S.Vote). x ++ y)
      (all-of-hash i h (found es h) (all_keep (Right i h) (λ e. eqb (key_of e) (key_of h)) es H.0) ∙ sym (all-model i h es))
      (all-votes es hs (suc i) H.1)

  -- as many words as votes
  pub votes-many : (es hs : List (List ℕ)) (i : ℕ) → RightAll es i hs → length (words_from pair i es hs) ≡ length (gather S a i (map hash_of hs) (map read_posting es))
  votes-many es hs i H = sym (length-map (words_from pair i es hs) R.vote_in) ∙ ap length (all-votes es hs i H)

-- what holds of the words of each pair holds of all
module _ (pair : Pairing) (P : ℤ → Type 0) where
  all-flat : (f : List ℕ → List ℤ) (l : List (List ℕ)) → All (λ e. All P (f e)) l → All P (flat (map f l))
  unfolding flat
  all-flat f [] h = tt
  all-flat f (e ∷ l) h = all_append P (f e) (flat (map f l)) h.0 (all-flat f l h.1)

  pub words-all : (k : ℕ) (Q E : List ℕ → Type 0) → ((i : ℕ) (h e : List ℕ) → i < k → Q h → E e → All P (pair i h e))
      → (es : List (List ℕ)) → All E es → (hs : List (List ℕ)) → All Q hs → (i : ℕ) → i + length hs ≤ k → All P (words_from pair i es hs)
  unfolding words_from words_by
  words-all k Q E f es F [] G i le = tt
  words-all k Q E f es F (h ∷ hs) G i le =
      all_append P (flat (map (pair i h) (found es h))) (words_from pair (suc i) es hs)
      (all-flat (pair i h) (found es h) (all-imp E (λ e. All P (pair i h e)) (λ e x. f i h e (omega arith) G.0 x) (found es h) (all_keep E (λ e. eqb (key_of e) (key_of h)) es F)))
      (words-all k Q E f es F hs G.1 (suc i) (omega arith))

-- what holds of each posting holds of those that vote
pub all-voting : (P : List ℕ → Type 0) (set : ℕ) (rs : List ℕ) (es : List (List ℕ)) → All P es → All P (voting set rs es)
unfolding voting
all-voting P set rs es h = all_keep P (λ e. may_vote set rs (get_or e 1 0)) es h

-- no postings, no votes
pub gather_none : (S : Scheme) (a : S.Ask) (i : ℕ) (hs : List Hash) → gather S a i hs [] ≡ []
unfolding gather keep flat
gather_none S a i [] = refl
gather_none S a i (h ∷ hs) = gather_none S a (suc i) hs
