-- What the tests of soundness say, place by place; and the tests from that. Assumes nothing.
use mathlib.Core.Path.{◌≡◌, ap}
use mathlib.Core.Bool.{true, false, not, ◌&&◌, and-false}
use mathlib.Core.List.{List}
use Prim.Native.Nat.{ℕ, ◌+◌, ◌*◌, ◌-◌, ◌≤◌, ◌<◌}
use native.Mathlib.Omega.{arith}
use lib.ListN.{get_or}
use lib.Dec.{eqb, leb, ltb}
use borrow.Author.Tests.{leb-true, le-leb, ltb-true, lt-ltb, le-ltb, eqb-true, eqb-false, eq-eqb, ne_eqb, not-true}
use Rattle.lists.specs.Every.{every, count, all_true}
use Rattle.lists.specs.Entries.{key_at, keys_ascend, zero_from}
use Rattle.lists.proofs.Tests.{test, and_left, and_right, no-and, both_true, or_else, or_left, or_right, all-true-at, all_more, all_none}
use Rattle.lists.proofs.Every.{every-at, every-make}
use Rattle.model.specs.Rows.{has_rmax, no_rate, is_canonical, is_set}
use Rattle.model.specs.Calls.{Sizes}
use Rattle.model.specs.Soundness.{row_word, posting_word, counts_fit, live_word, stopped_step, dead_row, other_entry, vacant_entry, dead_fine, rate_fine, live_id, posting_live, anchor_fine, rmax_fine, other_key, key_unstopped, entry_unused, set_fine, sound_tests}
use Rattle.model.specs.Words.{head_width, row_width, at_rate, at_rmax, at_live, at_vacant, at_set}

-- ---- one test

module _ (rs : List ℕ) (j : ℕ) where
  pub dead-true : dead_row rs j ≡ true → row_word rs j at_live ≡ 0
  unfolding dead_row
  dead-true e = eqb-true (row_word rs j at_live) 0 e

  pub dead-false : dead_row rs j ≡ false → row_word rs j at_live ≡ 0 → ⊥
  unfolding dead_row
  dead-false e = eqb-false (row_word rs j at_live) 0 e

  pub is-dead : row_word rs j at_live ≡ 0 → dead_row rs j ≡ true
  unfolding dead_row
  is-dead e = eq-eqb (row_word rs j at_live) 0 e

  pub not_dead : (row_word rs j at_live ≡ 0 → ⊥) → dead_row rs j ≡ false
  unfolding dead_row
  not_dead e = ne_eqb (row_word rs j at_live) 0 e

pub live-id : (rs : List ℕ) (n id : ℕ) → live_id rs n id ≡ true → (id < n) × (row_word rs id at_live ≡ 1)
unfolding live_id
live-id rs n id e = (ltb-true id n (and_left (ltb id n) _ e), eqb-true (row_word rs id at_live) 1 (and_right (ltb id n) (eqb (row_word rs id at_live) 1) e))

pub id-live : (rs : List ℕ) (n id : ℕ) → id < n → row_word rs id at_live ≡ 1 → live_id rs n id ≡ true
unfolding live_id
id-live rs n id h e = both_true (ltb id n) (eqb (row_word rs id at_live) 1) (lt-ltb id n h) (eq-eqb (row_word rs id at_live) 1 e)

pub id-out : (rs : List ℕ) (n id : ℕ) → n ≤ id → live_id rs n id ≡ false
unfolding live_id
id-out rs n id h = no-and (ltb id n) (eqb (row_word rs id at_live) 1) (le-ltb id n h)

pub id-dead : (rs : List ℕ) (n id : ℕ) → row_word rs id at_live ≡ 0 → live_id rs n id ≡ false
unfolding live_id
id-dead rs n id e = rw (ne_eqb (row_word rs id at_live) 1 (λ d. omega arith), and-false)

-- ---- all of them

module _ (w : ℕ) (z : Sizes) (rs ps ss : List ℕ) (n v p k : ℕ) where
  pub record Facts : Type 0 where
    pub rows_fit : n ≤ z.R
    pub vacant-fit : v ≤ n
    pub postings-fit : p ≤ z.P
    pub stopped-fit : k ≤ z.K
    pub live : (j : ℕ) → j < n → row_word rs j at_live ≤ 1
    pub keys : keys_ascend ps w p ≡ true
    pub stops : (i : ℕ) → i + 1 < k → get_or ss i 0 < get_or ss (i + 1) 0
    pub deads : count n (dead_row rs) ≡ v
    pub vacant-within : (i : ℕ) → i < v → row_word rs i at_vacant < n
    pub vacant-dead : (i : ℕ) → i < v → row_word rs (row_word rs i at_vacant) at_live ≡ 0
    pub vacant-once : (i j : ℕ) → i < v → j < i → row_word rs j at_vacant ≡ row_word rs i at_vacant → ⊥
    pub dead-rate : (j : ℕ) → j < n → row_word rs j at_live ≡ 0 → row_word rs j at_rate ≡ no_rate
    pub dead-rmax : (j : ℕ) → j < n → row_word rs j at_live ≡ 0 → row_word rs j at_rmax ≡ 0
    pub rate : (j : ℕ) → j < n → (row_word rs j at_live ≡ 0 → ⊥) → is_canonical (row_word rs j at_rate) ≡ true
    pub id-within : (i : ℕ) → i < p → posting_word ps w i 1 < n
    pub id-live : (i : ℕ) → i < p → row_word rs (posting_word ps w i 1) at_live ≡ 1
    pub anchors : (i : ℕ) → i < p → has_rmax w ≡ true → posting_word ps w i 2 ≤ row_word rs (posting_word ps w i 1) at_rmax
    pub rmax : (j : ℕ) → j < n → has_rmax w ≡ false → row_word rs j at_rmax ≡ 0
    pub unstopped : (i j : ℕ) → i < p → j < k → get_or ss j 0 ≡ key_at ps w i → ⊥
    pub rows-unused : zero_from rs (head_width + row_width * n) ≡ true
    pub entries-unused : (i : ℕ) → v ≤ i → i < n → row_word rs i at_vacant ≡ 0
    pub postings-unused : zero_from ps (w * p) ≡ true
    pub stopped-unused : zero_from ss k ≡ true
    pub dead-set : (j : ℕ) → j < n → row_word rs j at_live ≡ 0 → row_word rs j at_set ≡ 0
    pub set : (j : ℕ) → j < n → (row_word rs j at_live ≡ 0 → ⊥) → is_set (row_word rs j at_set) ≡ true

  pub facts : all_true (sound_tests w z rs ps ss n v p k) ≡ true → Facts
  unfolding sound_tests counts_fit live_word stopped_step other_entry vacant_entry dead_fine rate_fine posting_live anchor_fine rmax_fine other_key key_unstopped entry_unused set_fine
  facts all = record {
    rows_fit = leb-true n z.R (and_left (leb n z.R) _ fit);
    vacant-fit = leb-true v n (and_left (leb v n) _ fit1);
    postings-fit = leb-true p z.P (and_left (leb p z.P) _ fit2);
    stopped-fit = leb-true k z.K (and_right (leb p z.P) (leb k z.K) fit2);
    live = λ j h. leb-true (row_word rs j at_live) 1 (every-at (live_word rs) n j (t 1) h);
    keys = t 2;
    stops = λ i h. ltb-true (get_or ss i 0) (get_or ss (i + 1) 0) (every-at (stopped_step ss) (k - 1) i (t 3) (omega arith));
    deads = eqb-true (count n (dead_row rs)) v (t 4);
    vacant-within = λ i h. ltb-true (row_word rs i at_vacant) n (and_left (ltb (row_word rs i at_vacant) n) _ (vacant i h));
    vacant-dead = λ i h. dead-true rs (row_word rs i at_vacant) (and_left (dead_row rs (row_word rs i at_vacant)) _ (and_right (ltb (row_word rs i at_vacant) n) _ (vacant i h)));
    vacant-once = λ i j h l e. eqb-false (row_word rs j at_vacant) (row_word rs i at_vacant) (not-true (eqb (row_word rs j at_vacant) (row_word rs i at_vacant))
        (every-at (other_entry rs i) i j (and_right (dead_row rs (row_word rs i at_vacant)) (every i (other_entry rs i)) (and_right (ltb (row_word rs i at_vacant) n) _ (vacant i h))) l)) e;
    dead-rate = λ j h e. eqb-true (row_word rs j at_rate) no_rate (and_left (eqb (row_word rs j at_rate) no_rate) _ (dead j h e));
    dead-rmax = λ j h e. eqb-true (row_word rs j at_rmax) 0 (and_right (eqb (row_word rs j at_rate) no_rate) (eqb (row_word rs j at_rmax) 0) (dead j h e));
    rate = λ j h e. or_else (dead_row rs j) (is_canonical (row_word rs j at_rate)) (every-at (rate_fine rs) n j (t 7) h) (not_dead rs j e);
    id-within = λ i h. (live-id rs n (posting_word ps w i 1) (every-at (posting_live w rs n ps) p i (t 8) h)).0;
    id-live = λ i h. (live-id rs n (posting_word ps w i 1) (every-at (posting_live w rs n ps) p i (t 8) h)).1;
    anchors = λ i h e. leb-true (posting_word ps w i 2) (row_word rs (posting_word ps w i 1) at_rmax)
        (or_else (not (has_rmax w)) (leb (posting_word ps w i 2) (row_word rs (posting_word ps w i 1) at_rmax)) (every-at (anchor_fine w rs ps) p i (t 9) h) (ap not e));
    rmax = λ j h e. eqb-true (row_word rs j at_rmax) 0 (or_else (has_rmax w) (eqb (row_word rs j at_rmax) 0) (every-at (rmax_fine w rs) n j (t 10) h) e);
    unstopped = λ i j h l e. eqb-false (get_or ss j 0) (key_at ps w i) (not-true (eqb (get_or ss j 0) (key_at ps w i))
        (every-at (other_key ss (key_at ps w i)) k j (every-at (key_unstopped w ss k ps) p i (t 11) h) l)) e;
    rows-unused = t 12;
    entries-unused = λ i h l. let e : v + (i - v) ≡ i = omega arith in
        eqb-true (row_word rs i at_vacant) 0 (rw e at (every-at (entry_unused rs v) (n - v) (i - v) (t 13) (omega arith)));
    postings-unused = t 14;
    stopped-unused = t 15;
    dead-set = λ j h e. eqb-true (row_word rs j at_set) 0 (rw (is-dead rs j e) at (every-at (set_fine rs) n j (t 16) h));
    set = λ j h e. rw (not_dead rs j e) at (every-at (set_fine rs) n j (t 16) h);
  }
    where
      t : (i : ℕ) → get_or (sound_tests w z rs ps ss n v p k) i true ≡ true
      t = all-true-at (sound_tests w z rs ps ss n v p k) all

      fit : leb n z.R && (leb v n && (leb p z.P && leb k z.K)) ≡ true
      fit = t 0

      fit1 : leb v n && (leb p z.P && leb k z.K) ≡ true
      fit1 = and_right (leb n z.R) _ fit

      fit2 : leb p z.P && leb k z.K ≡ true
      fit2 = and_right (leb v n) _ fit1

      vacant : (i : ℕ) → i < v → ltb (row_word rs i at_vacant) n && (dead_row rs (row_word rs i at_vacant) && every i (other_entry rs i)) ≡ true
      vacant i h = every-at (vacant_entry rs n) v i (t 5) h

      dead : (j : ℕ) → j < n → row_word rs j at_live ≡ 0 → eqb (row_word rs j at_rate) no_rate && eqb (row_word rs j at_rmax) 0 ≡ true
      dead j h e = or_else (not (dead_row rs j)) _ (every-at (dead_fine rs) n j (t 6) h) (ap not (is-dead rs j e))

  pub tests : Facts → all_true (sound_tests w z rs ps ss n v p k) ≡ true
  unfolding sound_tests counts_fit live_word stopped_step other_entry vacant_entry dead_fine rate_fine posting_live anchor_fine rmax_fine other_key key_unstopped entry_unused set_fine
  tests F =
      all_more _ _ (both_true (leb n z.R) _ (le-leb n z.R F.rows_fit) (both_true (leb v n) _ (le-leb v n F.vacant-fit) (both_true (leb p z.P) (leb k z.K) (le-leb p z.P F.postings-fit) (le-leb k z.K F.stopped-fit))))
      (all_more _ _ (every-make (live_word rs) n (λ j h. le-leb (row_word rs j at_live) 1 (F.live j h)))
      (all_more _ _ F.keys
      (all_more _ _ (every-make (stopped_step ss) (k - 1) (λ i h. lt-ltb (get_or ss i 0) (get_or ss (i + 1) 0) (F.stops i (omega arith))))
      (all_more _ _ (eq-eqb (count n (dead_row rs)) v F.deads)
      (all_more _ _ (every-make (vacant_entry rs n) v vacant)
      (all_more _ _ (every-make (dead_fine rs) n dead)
      (all_more _ _ (every-make (rate_fine rs) n (λ j h. test (dead_row rs j) (λ e. or_left (dead_row rs j) _ e) (λ e. or_right (dead_row rs j) _ (F.rate j h (dead-false rs j e)))))
      (all_more _ _ (every-make (posting_live w rs n ps) p (λ i h. id-live rs n (posting_word ps w i 1) (F.id-within i h) (F.id-live i h)))
      (all_more _ _ (every-make (anchor_fine w rs ps) p anchor)
      (all_more _ _ (every-make (rmax_fine w rs) n (λ j h. test (has_rmax w) (λ e. or_left (has_rmax w) _ e) (λ e. or_right (has_rmax w) _ (eq-eqb (row_word rs j at_rmax) 0 (F.rmax j h e)))))
      (all_more _ _ (every-make (key_unstopped w ss k ps) p (λ i h. every-make (other_key ss (key_at ps w i)) k (λ j l. ap not (ne_eqb (get_or ss j 0) (key_at ps w i) (F.unstopped i j h l)))))
      (all_more _ _ F.rows-unused
      (all_more _ _ (every-make (entry_unused rs v) (n - v) (λ i h. eq-eqb (row_word rs (v + i) at_vacant) 0 (F.entries-unused (v + i) (omega arith) (omega arith))))
      (all_more _ _ F.postings-unused
      (all_more _ _ F.stopped-unused
      (all_more _ _ (every-make (set_fine rs) n sets) all_none))))))))))))))))
    where
      vacant : (i : ℕ) → i < v → vacant_entry rs n i ≡ true
      vacant i h =
          both_true (ltb (row_word rs i at_vacant) n) _ (lt-ltb (row_word rs i at_vacant) n (F.vacant-within i h))
          (both_true (dead_row rs (row_word rs i at_vacant)) _ (is-dead rs (row_word rs i at_vacant) (F.vacant-dead i h))
          (every-make (other_entry rs i) i (λ j l. ap not (ne_eqb (row_word rs j at_vacant) (row_word rs i at_vacant) (F.vacant-once i j h l)))))

      dead : (j : ℕ) → j < n → dead_fine rs j ≡ true
      dead j h = test (dead_row rs j)
          (λ e. or_right (not (dead_row rs j)) _ (both_true (eqb (row_word rs j at_rate) no_rate) (eqb (row_word rs j at_rmax) 0)
          (eq-eqb (row_word rs j at_rate) no_rate (F.dead-rate j h (dead-true rs j e))) (eq-eqb (row_word rs j at_rmax) 0 (F.dead-rmax j h (dead-true rs j e)))))
          (λ e. or_left (not (dead_row rs j)) _ (ap not e))

      sets : (j : ℕ) → j < n → set_fine rs j ≡ true
      sets j h = test (dead_row rs j)
          (λ e. rw e (eq-eqb (row_word rs j at_set) 0 (F.dead-set j h (dead-true rs j e))))
          (λ e. rw e (F.set j h (dead-false rs j e)))

      anchor : (i : ℕ) → i < p → anchor_fine w rs ps i ≡ true
      anchor i h = test (has_rmax w)
          (λ e. or_right (not (has_rmax w)) _ (le-leb (posting_word ps w i 2) (row_word rs (posting_word ps w i 1) at_rmax) (F.anchors i h e)))
          (λ e. or_left (not (has_rmax w)) _ (ap not e))
