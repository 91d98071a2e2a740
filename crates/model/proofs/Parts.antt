-- Laws of the index's parts: stopped keys, postings without keys, rows. Assumes nothing.
use mathlib.Core.Path.{◌≡◌, refl, sym, ap, ◌∙◌}
use mathlib.Core.Bool.{Bool, true, false, cond, ◌&&◌, ◌||◌}
use mathlib.Core.List.{List, [], ◌∷◌, ◌++◌}
use mathlib.Core.Option.{Option, none, some}
use Prim.Native.Nat.{ℕ, zero, suc, ◌+◌, ◌-◌, ◌≤◌, ◌<◌, max}
use native.Mathlib.Omega.{arith}
use lib.ListN.{length, get_or, set, length-append, length-set, get_or-append, get_or-eq_default}
use lib.Seq.{get_or-append_seam, get_or-set_same, get_or-set_other}
use lib.Dec.{eqb, ltb}
use borrow.Author.Tests.{ltb-true, ltb-false, eqb-true, eqb-false, eq-eqb, ne_eqb}
use Rattle.lists.specs.Lists.{keep, some?, member, insert_key, All}
use Rattle.lists.specs.Keys.{under, has_key, Ascending}
use Rattle.lists.proofs.Tests.{test, not-both}
use Rattle.lists.proofs.Ascending.{member-insert_key, ascending-insert_key}
use Rattle.model.specs.Rows.{Row}
use Rattle.model.specs.Index.{Posting, Index, key_of, without_keys, stop_keys, new_id, put_row, is_live, erased}
use Rattle.model.specs.Sound.{is_dead}

-- ---- stopped keys

pub member-stop_keys : (over : ℕ → Bool) (new : List Posting) (st : List ℕ) (k : ℕ) → member k (stop_keys over new st) ≡ member k st || (has_key key_of k new && over k)
unfolding stop_keys some?
member-stop_keys over [] st k = test (member k st) (λ e. rw e) (λ e. rw e)
member-stop_keys over (p ∷ new) st k =
    member-stop_keys over new (cond (over (key_of p)) (insert_key (key_of p) st) st) k
    ∙ test (over (key_of p))
    (λ e. rw (e, member-insert_key (key_of p) k st) (test (eqb (key_of p) k)
    (λ d. let h : over k ≡ true = (rw (eqb-true (key_of p) k d) at e) in rw (d, h) (test (member k st) (λ m. rw m) (λ m. rw m)))
    (λ d. rw d)))
    (λ e. rw e (test (eqb (key_of p) k)
    (λ d. let h : over k ≡ false = (rw (eqb-true (key_of p) k d) at e) in rw (d, h) (test (has_key key_of k new) (λ m. rw m) (λ m. rw m)))
    (λ d. rw d)))

pub ascending-stop_keys : (over : ℕ → Bool) (new : List Posting) (st : List ℕ) → Ascending (λ k. k) st → Ascending (λ k. k) (stop_keys over new st)
unfolding stop_keys
ascending-stop_keys over [] st h = h
ascending-stop_keys over (p ∷ new) st h =
    test (over (key_of p))
    (λ e. rw e (ascending-stop_keys over new (insert_key (key_of p) st) (ascending-insert_key (key_of p) st h)))
    (λ e. rw e (ascending-stop_keys over new st h))

-- ---- postings without keys

-- none is on a key that was stopped before or now
pub clean-without : (stopped over : ℕ → Bool) (l : List Posting) → All (λ p. stopped (key_of p) ≡ false) l → All (λ p. stopped (key_of p) || over (key_of p) ≡ false) (without_keys over l)
unfolding keep
clean-without stopped over [] h = tt
clean-without stopped over (x ∷ xs) h =
    test (over (key_of x))
    (λ e. rw e (clean-without stopped over xs h.1))
    (λ e. rw e (rw (h.0, e), clean-without stopped over xs h.1))

pub under-without : (over : ℕ → Bool) (k : ℕ) (l : List Posting) → under key_of k (without_keys over l) ≡ cond (over k) [] (under key_of k l)
unfolding keep
under-without over k [] = test (over k) (λ e. rw e) (λ e. rw e)
under-without over k (x ∷ xs) =
    let ih = under-without over k xs in
    test (eqb (key_of x) k)
    (λ e. let same = eqb-true (key_of x) k e in rw same (test (over k) (λ d. rw d (ih ∙ rw d)) (λ d. rw (d, eq-eqb k k refl, ih, d))))
    (λ e. test (over (key_of x)) (λ d. rw (d, e) ih) (λ d. rw (d, e) ih))

-- ---- rows

pub get_or-put_row : (rows : List (Option Row)) (id : ℕ) (r : Row) → id ≤ length rows → (j : ℕ) → get_or (put_row rows id r) j none ≡ cond (eqb j id) (some r) (get_or rows j none)
get_or-put_row rows id r h j =
    test (eqb id (length rows))
    (λ e. let eq = eqb-true id (length rows) e in rw e (test (eqb j id)
    (λ d. let j-is = eqb-true j id d in rw (d, j-is, eq) (get_or-append_seam rows (some r) [] none))
    (λ d. let ne = eqb-false j id d in rw d (test (ltb j (length rows))
    (λ m. get_or-append rows (some r ∷ []) none j (ltb-true j (length rows) m))
    (λ m. let le = ltb-false j (length rows) m in
    get_or-eq_default (rows ++ some r ∷ []) none (rw length-append (omega (arith, far ne eq le))) ∙ sym (get_or-eq_default rows none le))))))
    (λ e. let ne = eqb-false id (length rows) e in rw e (test (eqb j id)
    (λ d. rw (d, eqb-true j id d) (get_or-set_same rows id (some r) none (omega (arith, ne))))
    (λ d. rw d (get_or-set_other rows id j (some r) none (eqb-false j id d)))))
  where
    far : (j ≡ id → ⊥) → id ≡ length rows → length rows ≤ j → length rows + 1 ≤ j
    far a b c = omega arith

pub length-put_row : (rows : List (Option Row)) (id : ℕ) (r : Row) → id ≤ length rows → length (put_row rows id r) ≡ max (length rows) (suc id)
length-put_row rows id r h =
    test (eqb id (length rows))
    (λ e. let eq = eqb-true id (length rows) e in rw (e, length-append) (omega arith))
    (λ e. let ne = eqb-false id (length rows) e in rw (e, length-set) (omega arith))

-- a row set to none: the place, if there is one, is empty
pub get_or-set_none : (rows : List (Option Row)) (id j : ℕ) → get_or (set rows id none) j none ≡ cond (eqb j id) none (get_or rows j none)
get_or-set_none rows id j =
    test (eqb j id)
    (λ d. rw (d, eqb-true j id d) (test (ltb id (length rows))
    (λ e. get_or-set_same rows id none none (ltb-true id (length rows) e))
    (λ e. get_or-eq_default (set rows id none) none (rw length-set (ltb-false id (length rows) e)))))
    (λ d. rw d (get_or-set_other rows id j none none (eqb-false j id d)))

-- a dead row that is filled, a live row that is emptied
pub dead-fewer : (rows : List (Option Row)) (i : ℕ) (r : Row) → i < length rows → get_or rows i none ≡ none → length (keep is_dead rows) ≡ suc (length (keep is_dead (set rows i (some r))))
unfolding keep
dead-fewer [] i r h e = absurd (omega arith)
dead-fewer (x ∷ xs) zero r h e = rw e
dead-fewer (x ∷ xs) (suc i) r h e =
    let ih = dead-fewer xs i r (omega arith) e in
    test (is_live x) (λ d. rw d ih) (λ d. rw d (ap suc ih))

pub dead-more : (rows : List (Option Row)) (i : ℕ) → is_live (get_or rows i none) ≡ true → length (keep is_dead (set rows i none)) ≡ suc (length (keep is_dead rows))
unfolding keep
dead-more [] i e = absurd (not-both e refl)
dead-more (x ∷ xs) zero e = rw e
dead-more (x ∷ xs) (suc i) e =
    let ih = dead-more xs i e in
    test (is_live x) (λ d. rw d ih) (λ d. rw d (ap suc ih))

-- the id that was vacated last is the next
pub new_id-erased : (id : ℕ) (x : Index) → new_id (erased id x) ≡ id
unfolding erased
new_id-erased id x =
    let v : length (x.vacant ++ id ∷ []) ≡ suc (length x.vacant) = length-append x.vacant (id ∷ []) ∙ omega arith in
    let l : suc (length x.vacant) - 1 ≡ length x.vacant = omega arith in
    rw (v, ne_eqb (suc (length x.vacant)) 0 (λ e. omega arith), l) (get_or-append_seam x.vacant id [] 0)
