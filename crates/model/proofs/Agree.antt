-- Two catalogs that agree answer alike, and go on agreeing when the same hashes arrive. Assumes nothing.
use mathlib.Core.Path.{◌≡◌, refl, sym, ap, ◌∙◌}
use mathlib.Core.Bool.{Bool, true, false, not, ◌||◌}
use mathlib.Core.List.{List, [], ◌∷◌}
use mathlib.Core.Option.{Option}
use Prim.Native.Nat.{ℕ, suc, ◌≤◌}
use native.Mathlib.Omega.{arith}
use lib.ListN.{length, length-append}
use lib.Dec.{eqb}
use borrow.Author.Tests.{not-true}
use Rattle.lists.specs.Lists.{keep, member, All}
use Rattle.lists.specs.Keys.{under, has_key, Sorted}
use Rattle.lists.proofs.Tests.{test}
use Rattle.lists.proofs.Keep.{keep-comm, keep-ext, keep_append, all-kept, all-imp, all_append, length-flat-keep}
use Rattle.lists.proofs.Place.{under-keep, under-place_all, sorted-keep, sorted-place_all, all-place_all}
use Rattle.model.specs.Fingerprints.{Hash}
use Rattle.model.specs.Rows.{Row}
use Rattle.model.specs.Index.{Posting, Index, key_of, of_id, is_live, exceeds, unskipped, is_stopped, placed, postings_after, stopped_after}
use Rattle.model.specs.Query.{Scheme, Query, Catalog, catalog, asked, voting, hashes, gather, candidate, best_below, best_of, too_many_votes}
use Rattle.model.specs.History.{arrived, held_after, stops_after}
use Rattle.model.proofs.Best.{best-ext}
use Rattle.model.proofs.Parts.{member-stop_keys, clean-without}

-- the same ids, rows and stopped keys, and under each key the same postings in the same order
pub record Agrees (c d : Catalog) : Type 0 where
  pub size : c.size ≡ d.size
  pub live : (j : ℕ) → c.live j ≡ d.live j
  pub vacant : c.vacant ≡ d.vacant
  pub held : (k : ℕ) → under key_of k c.held ≡ under key_of k d.held
  pub stopped : (k : ℕ) → c.stopped k ≡ d.stopped k

pub agrees-self : (c : Catalog) → Agrees c c
agrees-self c = record { size = refl; live = λ j. refl; vacant = refl; held = λ k. refl; stopped = λ k. refl }

-- nothing that is held is on a stopped key
unfoldable pub Clean : Catalog → Type 0
Clean c = All (λ p. c.stopped (key_of p) ≡ false) c.held

-- ---- queries

-- under each key the same postings vote
voting-same : (set : ℕ) (c d : Catalog) → Agrees c d → (k : ℕ) → under key_of k (voting set c) ≡ under key_of k (voting set d)
voting-same set c d A k =
    under-keep key_of (λ p. is_live (asked set (c.live p.id))) c.held d.held A.held k
    ∙ ap (under key_of k) (keep-ext (λ p. is_live (asked set (c.live p.id))) (λ p. is_live (asked set (d.live p.id))) (λ p. ap (λ (o : Option Row). is_live (asked set o)) (A.live p.id)) d.held)

module _ (S : Scheme) where
  pub gather-same : (a : S.Ask) (i : ℕ) (hs : List Hash) (l m : List Posting) → ((k : ℕ) → under key_of k l ≡ under key_of k m) → gather S a i hs l ≡ gather S a i hs m
  unfolding gather
  gather-same a i [] l m h = refl
  gather-same a i (g ∷ gs) l m h = rw (h g.key, gather-same a (suc i) gs l m h)

  -- leaving postings out never raises the number of votes
  pub gather-fewer : (a : S.Ask) (i : ℕ) (hs : List Hash) (t : Posting → Bool) (l : List Posting) → length (gather S a i hs (keep t l)) ≤ length (gather S a i hs l)
  unfolding gather
  gather-fewer a i [] t l = omega arith
  gather-fewer a i (g ∷ gs) t l =
      let ih = gather-fewer a (suc i) gs t l in
      let here = length-flat-keep (λ p. S.vote a i g p.hash) t (under key_of g.key l) in
      rw (keep-comm (λ p. eqb (key_of p) g.key) t l) (simp length-append (omega arith))

  module _ {c d : Catalog} (A : Agrees c d) (q : Query S) where
    pub candidate-same : (j : ℕ) → candidate S q c j ≡ candidate S q d j
    unfolding candidate
    candidate-same j =
        rw (A.live j, gather-same q.ask 0 (hashes S q) (of_id j c.held) (of_id j d.held) (under-keep key_of (λ p. eqb p.id j) c.held d.held A.held))

    pub best-same : best_of S q c ≡ best_of S q d
    best-same = ap (λ (n : ℕ). best_below n (candidate S q c)) A.size ∙ best-ext (candidate S q c) (candidate S q d) d.size (λ j h. candidate-same j)

    pub many-same : too_many_votes S q c ≡ too_many_votes S q d
    unfolding too_many_votes
    many-same = rw (gather-same q.ask 0 (hashes S q) (voting q.set c) (voting q.set d) (voting-same q.set c d A))

-- ---- arrivals

-- what is not skipped is on no stopped key
all-unskipped : (stopped : ℕ → Bool) (new : List Posting) → All (λ p. stopped (key_of p) ≡ false) (unskipped stopped new)
all-unskipped stopped new =
    all-imp (λ (p : Posting). not (stopped (key_of p)) ≡ true) (λ p. stopped (key_of p) ≡ false) (λ p e. not-true (stopped (key_of p)) e) (unskipped stopped new)
    (all-kept (λ p. not (stopped (key_of p))) new)

module _ (limit : ℕ) (x : Index) (new : List Posting) where
  pub stopped_after-is : (k : ℕ) → member k (stopped_after limit x new) ≡ is_stopped x k || exceeds limit new (placed x new) k
  unfolding exceeds
  stopped_after-is k = member-stop_keys (exceeds limit new (placed x new)) new x.stopped k ∙ test (has_key key_of k new) (λ e. rw e) (λ e. rw e)

  pub kept-clean : All (λ p. is_stopped x (key_of p) ≡ false) x.postings → All (λ p. member (key_of p) (stopped_after limit x new) ≡ false) (postings_after limit x new)
  kept-clean h =
      all-imp
      (λ p. is_stopped x (key_of p) || exceeds limit new (placed x new) (key_of p) ≡ false) (λ p. member (key_of p) (stopped_after limit x new) ≡ false)
      (λ p e. stopped_after-is (key_of p) ∙ e)
      (postings_after limit x new)
      (clean-without (is_stopped x) (exceeds limit new (placed x new)) (placed x new)
      (all-place_all key_of (λ p. is_stopped x (key_of p) ≡ false) (unskipped (is_stopped x) new) x.postings (all-unskipped (is_stopped x) new) h))

  pub kept-sorted : Sorted key_of x.postings → Sorted key_of (postings_after limit x new)
  kept-sorted h = sorted-keep key_of (λ p. not (exceeds limit new (placed x new) (key_of p))) (placed x new) (sorted-place_all key_of (unskipped (is_stopped x) new) x.postings h)

module _ (limit : ℕ) (x : Index) (c : Catalog) (A : Agrees (catalog x) c) (sorted : Sorted key_of x.postings) (new : List Posting) where
  skip-same : unskipped (is_stopped x) new ≡ unskipped c.stopped new
  skip-same = keep-ext (λ p. not (is_stopped x (key_of p))) (λ p. not (c.stopped (key_of p))) (λ p. ap not (A.stopped (key_of p))) new

  placed_same : (k : ℕ) → under key_of k (placed x new) ≡ under key_of k (arrived c new)
  placed_same k =
      under-place_all key_of k (unskipped (is_stopped x) new) x.postings sorted
      ∙ rw (skip-same, A.held k) (sym (keep_append (λ p. eqb (key_of p) k) c.held (unskipped c.stopped new)))

  exceeds-same : (k : ℕ) → exceeds limit new (placed x new) k ≡ exceeds limit new (arrived c new) k
  unfolding exceeds
  exceeds-same k = rw (placed_same k)

  pub kept_same : (k : ℕ) → under key_of k (postings_after limit x new) ≡ under key_of k (held_after limit c new)
  kept_same k =
      under-keep key_of (λ p. not (exceeds limit new (placed x new) (key_of p))) (placed x new) (arrived c new) placed_same k
      ∙ ap (under key_of k) (keep-ext (λ p. not (exceeds limit new (placed x new) (key_of p))) (λ p. not (exceeds limit new (arrived c new) (key_of p))) (λ p. ap not (exceeds-same (key_of p))) (arrived c new))

  pub stops_same : (k : ℕ) → member k (stopped_after limit x new) ≡ stops_after limit c new k
  stops_same k = stopped_after-is limit x new k ∙ rw (A.stopped k, exceeds-same k)

pub held-clean : (limit : ℕ) (c : Catalog) (new : List Posting) → Clean c → All (λ p. stops_after limit c new (key_of p) ≡ false) (held_after limit c new)
unfolding Clean
held-clean limit c new h =
    clean-without c.stopped (exceeds limit new (arrived c new)) (arrived c new)
    (all_append (λ p. c.stopped (key_of p) ≡ false) c.held (unskipped c.stopped new) h (all-unskipped c.stopped new))
