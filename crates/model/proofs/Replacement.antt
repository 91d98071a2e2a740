-- Request Two: a replacement is a removal and then an insertion, on any words; and what follows of it from the claim. Assumes nothing.
use mathlib.Core.Path.{◌≡◌, refl, sym, ap, ◌∙◌, subst}
use mathlib.Core.Bool.{Bool, true, false, not, ◌&&◌}
use mathlib.Core.List.{List, [], ◌∷◌, ◌++◌}
use mathlib.Core.Option.{Option, none, some}
use Prim.Native.Nat.{ℕ, ◌+◌, ◌-◌, ◌≤◌, ◌<◌}
use native.Mathlib.Omega.{arith}
use lib.ListN.{length, get_or, set as set_at, length-append, length-set}
use lib.Seq.{take-append_seam}
use lib.Dec.{eqb, ltb}
use borrow.Author.Tests.{eqb-false, eq-eqb, ne_eqb, not-false}
use Rattle.lists.proofs.Tests.{test, maybe, not-both}
use Rattle.model.specs.Fingerprints.{Fingerprint, fingerprint_of, malformed, reference_most}
use Rattle.model.specs.Rows.{is_set, row_of}
use Rattle.model.specs.Index.{Index, posted, unskipped, exceeds, is_stopped, placed, stopped_after, new_id, is_live, inserted, erased}
use Rattle.model.specs.Query.{Scheme, catalog}
use Rattle.model.specs.Calls.{Sizes, Store, holds, content, is_unlisted, is_unsound, Answer, stored, removed, refused, insert, remove, replace, refusal, room_tests, insert_tests, replace_tests, plain_tests, set_of, insert_step, remove_step, replace_step, step}
use Rattle.model.specs.Words.{Words, sizes_of, slices_listed, write}
use Rattle.model.specs.Sound.{Sound}
use Rattle.model.specs.Soundness.{sound_words}
use Rattle.model.specs.Run.{store_of, on_words, run_insert, run_remove, run_replace, run}
use Rattle.model.specs.Claim.{Accepted, OldOrNew, moment_after, at_first, Claim}
use Rattle.model.specs.Replacement.{is_room, replacement, removal, insertion, AsTwoCalls, Swaps, Corrected}
use Rattle.model.proofs.Parts.{member-stop_keys, get_or-put_row, new_id-erased}
use Rattle.model.proofs.Stores.{store-sound}
use Rattle.model.proofs.Preserved.{inside, Inv, start-inv, as-insertion, replaced-live, then-accepted}
use Rattle.model.proofs.Demand3.{removal-done, removal-is, replaced-is}
use Rattle.model.proofs.Run.{step-refused, run_is, run-answers, run-sizes, run-leaves, run-refused}

-- ---- tables: a row before the one that applies doesn't

before-it : (k n : ℕ) (b : Bool) (es : List (ℕ × Bool)) → refusal ((k, b) ∷ es) ≡ some n → eqb k n ≡ false → (b ≡ false) × (refusal es ≡ some n)
before-it k n true es e h = let i : k ≡ n = cc in absurd (eqb-false k n h i)
before-it k n false es e h = (refl, e)

no_number : (n : ℕ) → ◌≡◌ {A = Option ℕ} none (some n) → ⊥
no_number n e = let o : ◌≡◌ {A = ℕ} 0 1 = cc in omega arith

-- the numbers that are about room
room-number : (n : ℕ) → is_room n ≡ true → (k : ℕ) → is_room k ≡ false → eqb k n ≡ false
room-number n e k h = ne_eqb k n (λ i. not-both e (rw i at h))

-- four rows before those about room, the last with number k
pub record FourPass (a b c d : Bool) (es : List (ℕ × Bool)) (n : ℕ) : Type 0 where
  pub first : a ≡ false
  pub second : b ≡ false
  pub third : c ≡ false
  pub fourth : d ≡ false
  pub rest : refusal es ≡ some n

four-pass : (k : ℕ) (a b c d : Bool) (es : List (ℕ × Bool)) (n : ℕ) → is_room k ≡ false → is_room n ≡ true → refusal ((1, a) ∷ (2, b) ∷ (3, c) ∷ (k, d) ∷ es) ≡ some n → FourPass a b c d es n
four-pass k a b c d es n i r e =
    let p = before-it 1 n a ((2, b) ∷ (3, c) ∷ (k, d) ∷ es) e (room-number n r 1 refl) in
    let q = before-it 2 n b ((3, c) ∷ (k, d) ∷ es) p.1 (room-number n r 2 refl) in
    let u = before-it 3 n c ((k, d) ∷ es) q.1 (room-number n r 3 refl) in
    let v = before-it k n d es u.1 (room-number n r k i) in
    record { first = p.0; second = q.0; third = u.0; fourth = v.0; rest = v.1 }

-- rows with other numbers
not_five : (f a b : Bool) → f ≡ false → refusal ((5, f) ∷ (6, a) ∷ (7, b) ∷ []) ≡ some 5 → ⊥
not_five true a b h e = not-both refl h
not_five false a b h e =
    let p = before-it 6 5 a ((7, b) ∷ []) e refl in
    no_number 5 (before-it 7 5 b [] p.1 refl).1

one_more : (l : List ℕ) (x : ℕ) → eqb (length (l ++ x ∷ [])) 0 ≡ false
one_more l x = ne_eqb (length (l ++ x ∷ [])) 0 (λ e. omega (arith, length-append l (x ∷ [])))

-- ---- what the insertion into an index without recording id leaves of it

module _ (w limit : ℕ) (f : Fingerprint) (id : ℕ) (x : Index) where
  vacant-kept : (inserted w limit f (erased id x)).vacant ≡ x.vacant
  unfolding inserted erased
  vacant-kept =
      let n : length (x.vacant ++ id ∷ []) - 1 ≡ length x.vacant = omega (arith, length-append x.vacant (id ∷ [])) in
      rw n (take-append_seam x.vacant (id ∷ []))

  stopped-kept : (k : ℕ) → is_stopped x k ≡ true → is_stopped (inserted w limit f (erased id x)) k ≡ true
  unfolding inserted erased
  stopped-kept k e =
      let y = erased id x in
      let new = posted (new_id y) f.hashes in
      member-stop_keys (exceeds limit new (placed y new)) new x.stopped k ∙ rw e

  set-kept : id < length x.rows → set_of (get_or (inserted w limit f (erased id x)).rows id none) ≡ f.set
  unfolding inserted erased row_of
  set-kept lt =
      let le : id ≤ length (set_at x.rows id none) = rw (length-set x.rows id none) (omega arith) in
      let next : new_id (erased id x) ≡ id = new_id-erased id x in
      rw (next, get_or-put_row (set_at x.rows id none) id (row_of w f) le id, eq-eqb id id refl)

-- ---- on a store

module _ (S : Scheme) (z : Sizes) (w2 : 2 ≤ S.width) (s : Store) (id limit rate : ℕ) (words : List ℕ) where
  abbrev w : ℕ
  w = S.width

  abbrev set : ℕ
  set = set_of (get_or (content s).rows id none)

  pub record Removes : Type 0 where
    pub listed : is_unlisted s ≡ false
    pub read : is_unsound s ≡ false
    pub live : is_live (get_or (content s).rows id none) ≡ true

  -- what a removal that says yes shows
  pub removes : (step S z s (remove id)).0 ≡ removed true → Removes
  unfolding remove_step plain_tests
  removes e = test (is_unlisted s)
      (λ l. let r = rw l at e in let o : ◌≡◌ {A = ℕ} 0 1 = cc in absurd (omega arith))
      (λ l. test (is_unsound s)
      (λ u. let r = rw (l, u) at e in let o : ◌≡◌ {A = ℕ} 0 1 = cc in absurd (omega arith))
      (λ u. let r : removed (is_live (get_or (content s).rows id none)) ≡ removed true = rw (l, u) at e in record { listed = l; read = u; live = cc }))

  removal-yes : Removes → step S z s (remove id) ≡ (removed true, holds (erased id (content s)))
  removal-yes R = removal-done S z w2 s id R.listed R.read R.live

  -- refused for room: the rows before don't apply
  pub for-room : (n : ℕ) → is_room n ≡ true → refusal (replace_step w z s id limit rate words).tests ≡ some n → Removes
  unfolding replace_step replace_tests
  for-room n r e =
      let t = four-pass 10 (is_unlisted s) (is_unsound s) (malformed w reference_most words) (not (is_live (get_or (content s).rows id none)))
      (room_tests z (content (remove_step s id).left) limit (fingerprint_of w rate set words)) n refl r e in
      record { listed = t.first; read = t.second; live = not-false (is_live (get_or (content s).rows id none)) t.fourth }

  -- and an id is free
  pub free : Sound w z (content s) → Removes → refusal (replace_step w z s id limit rate words).tests ≡ some 5 → ⊥
  unfolding insert_tests erased
  free h R e =
      let y = erased id (content s) in
      let f = fingerprint_of w rate set words in
      let t = four-pass 9 false false (malformed w reference_most words) (not (is_set set)) (room_tests z y limit f) 5 refl refl
      (sym (as-insertion w z w2 s id limit rate words h R.listed R.read R.live) ∙ e) in
      not_five (eqb (length y.vacant) 0 && eqb (length y.rows) z.R) (ltb z.P (length y.postings + length (unskipped (is_stopped y) (posted (new_id y) f.hashes)))) (ltb z.K (length (stopped_after limit y (posted (new_id y) f.hashes))))
      (rw (one_more (content s).vacant id)) t.rest

-- ---- on words

stored-not : (j n : ℕ) → stored j ≡ refused n → ⊥
stored-not j n e = let o : ◌≡◌ {A = ℕ} 0 1 = cc in omega arith

store-read : (w : ℕ) (m : Words) (x : Index) → store_of w m ≡ holds x → (slices_listed w m ≡ true) × (sound_words w m ≡ true)
unfolding store_of
store-read w m x e = test (slices_listed w m)
    (λ l. test (sound_words w m) (λ s. (l, s)) (λ s. let d = rw (l, s) at e in let o : ◌≡◌ {A = ℕ} 0 1 = cc in absurd (omega arith)))
    (λ l. let d = rw l at e in let o : ◌≡◌ {A = ℕ} 0 1 = cc in absurd (omega arith))

module _ (S : Scheme) (w2 : 2 ≤ S.width) (m : Words) (id limit rate : ℕ) (words : List ℕ) where
  abbrev z : Sizes
  z = sizes_of S.width m

  abbrev s : Store
  s = store_of S.width m

  abbrev new : Fingerprint
  new = fingerprint_of S.width rate (set_of (get_or (content (store_of S.width m)).rows id none)) words

  inv : Inv S.width (sizes_of S.width m) (store_of S.width m) (catalog (content (store_of S.width m)))
  inv = start-inv S.width z w2 s (store-sound S.width m w2)

  abbrev table : List (ℕ × Bool)
  table = (replace_step S.width z s id limit rate words).tests

  unrefused : Accepted (replacement S m id limit rate words).0 → refusal (replace_step S.width (sizes_of S.width m) (store_of S.width m) id limit rate words).tests ≡ none
  unrefused h = maybe (refusal table) (λ e. e) (λ n e. absurd (h n (run-answers S w2 m (replace id limit rate words) ∙ rw e)))

  -- the insertion, on what the removal leaves
  insertion-is : (step S (sizes_of S.width m) (store_of S.width m) (remove id)).1 ≡ holds (erased id (content (store_of S.width m)))
      → insertion S m id limit rate words ≡ on_words S.width (removal S m id limit rate words).1
      (step S (sizes_of S.width m) (holds (erased id (content (store_of S.width m)))) (insert limit rate (set_of (get_or (content (store_of S.width m)).rows id none)) words))
  insertion-is e =
      run_is S (removal S m id limit rate words).1 (insert limit rate (set_of (get_or (content s).rows id none)) words)
      ∙ rw (run-sizes S w2 m (remove id), run-leaves S w2 m (remove id), e)

  module _ (R : Removes S (sizes_of S.width m) w2 (store_of S.width m) id limit rate words) where
    left : (step S (sizes_of S.width m) (store_of S.width m) (remove id)).1 ≡ holds (erased id (content (store_of S.width m)))
    left = ap (λ (o : Answer × Store). o.1) (removal-yes S z w2 s id limit rate words R)

    same-table : refusal (replace_step S.width (sizes_of S.width m) (store_of S.width m) id limit rate words).tests
        ≡ refusal (insert_tests (sizes_of S.width m) (holds (erased id (content (store_of S.width m)))) (malformed S.width reference_most words) limit new)
    same-table = as-insertion S.width z w2 s id limit rate words inv.sound R.listed R.read R.live

    yes : (removal S m id limit rate words).0 ≡ removed true
    yes = run-answers S w2 m (remove id) ∙ ap (λ (o : Answer × Store). o.0) (removal-yes S z w2 s id limit rate words R)

    inserts : (insertion S m id limit rate words).0 ≡ (step S (sizes_of S.width m) (holds (erased id (content (store_of S.width m)))) (insert limit rate (set_of (get_or (content (store_of S.width m)).rows id none)) words)).0
    inserts = ap (λ (o : Answer × Words). o.0) (insertion-is left)

    refused-both : (n : ℕ) → refusal (replace_step S.width (sizes_of S.width m) (store_of S.width m) id limit rate words).tests ≡ some n → (insertion S m id limit rate words).0 ≡ refused n
    unfolding insert_step
    refused-both n e = inserts ∙ rw (sym same-table ∙ e)

  replaced : refusal (replace_step S.width (sizes_of S.width m) (store_of S.width m) id limit rate words).tests ≡ none
      → replacement S m id limit rate words ≡ (stored id, write S.width (sizes_of S.width m) (inserted S.width limit new (erased id (content (store_of S.width m)))))
  replaced e = run_is S m (replace id limit rate words) ∙ rw (replaced-is S z w2 s (catalog (content s)) inv id limit rate words e)

  inserted-so : refusal (replace_step S.width (sizes_of S.width m) (store_of S.width m) id limit rate words).tests ≡ none
      → insertion S m id limit rate words ≡ (stored id, write S.width (sizes_of S.width m) (inserted S.width limit new (erased id (content (store_of S.width m)))))
  unfolding insert_step
  inserted-so e =
      insertion-is (ap (λ (o : Answer × Store). o.1) (removal-is S z w2 s (catalog (content s)) inv id limit rate words e))
      ∙ rw (then-accepted S.width z w2 s id limit rate words e inv.sound, new_id-erased id (content s), run-sizes S w2 m (remove id))

  -- where the removal says yes, the answer is that of the insertion after it, refused or not
  pub same_answer : (removal S m id limit rate words).0 ≡ removed true → (replacement S m id limit rate words).0 ≡ (insertion S m id limit rate words).0
  same_answer y = maybe (refusal table)
      (λ e. ap (λ (o : Answer × Words). o.0) (replaced e ∙ sym (inserted-so e)))
      (λ n e. run-answers S w2 m (replace id limit rate words) ∙ rw e (sym (refused-both (removes S z w2 s id limit rate words (sym (run-answers S w2 m (remove id)) ∙ y)) n e)))

  -- what is then held
  held_after : refusal (replace_step S.width (sizes_of S.width m) (store_of S.width m) id limit rate words).tests ≡ none
      → content (store_of S.width (replacement S m id limit rate words).1) ≡ inserted S.width limit new (erased id (content (store_of S.width m)))
  held_after e =
      ap content (run-leaves S w2 m (replace id limit rate words) ∙ ap (λ (o : Answer × Store). o.1) (replaced-is S z w2 s (catalog (content s)) inv id limit rate words e))

  pub as-two-calls : AsTwoCalls S m id limit rate words
  as-two-calls = record {
    removes = λ h. run-answers S w2 m (remove id) ∙ ap (λ (o : Answer × Store). o.0) (removal-is S z w2 s (catalog (content s)) inv id limit rate words (unrefused h));
    keeps-id = λ h. ap (λ (o : Answer × Words). o.0) (replaced (unrefused h));
    two-calls = λ h. replaced (unrefused h) ∙ sym (inserted-so (unrefused h));
    keeps-set = λ h. ap (λ (x : Index). set_of (get_or x.rows id none)) (held_after (unrefused h)) ∙ set-kept S.width limit new id (content s)
        (inside S.width z w2 id (content s) inv.sound (replaced-live S.width z w2 s id limit rate words (unrefused h)));
    keeps-vacant = λ h. ap (λ (x : Index). x.vacant) (held_after (unrefused h)) ∙ vacant-kept S.width limit new id (content s);
    keeps-stopped = λ h k e. ap (λ (x : Index). is_stopped x k) (held_after (unrefused h)) ∙ stopped-kept S.width limit new id (content s) k e;
    refused-for-room = λ n r e. let t = in_table n e in let R = for-room S z w2 s id limit rate words n r t in (yes R, refused-both R n t);
    room-refused = λ n r y e. same_answer y ∙ e;
    never-full = λ e. let t = in_table 5 e in free S z w2 s id limit rate words inv.sound (for-room S z w2 s id limit rate words 5 refl t) t;
  }
    where
      in_table : (n : ℕ) → (replacement S m id limit rate words).0 ≡ refused n → refusal table ≡ some n
      in_table n e = (step-refused S z s (replace id limit rate words) n (sym (run-answers S w2 m (replace id limit rate words)) ∙ e)).0

pub swaps : (S : Scheme) → 2 ≤ S.width → Swaps S
swaps S w2 = as-two-calls S w2

-- ---- of a width alone, for the code: neither call looks at anything else of a scheme

abbrev storing : ℕ → Scheme
storing w = record { width = w; vote_words = 1; Ask = Unit {0}; Vote = Unit {0}; beyond = λ a. false; vote = λ a i h g. []; judge = λ a hs r vs. none }

module _ (w : ℕ) (w2 : 2 ≤ w) (m m' : Words) (id limit rate : ℕ) (words : List ℕ) (y : run_remove w m id ≡ (removed true, m')) where
  abbrev row_set : ℕ
  row_set = set_of (get_or (content (store_of w m)).rows id none)

  yes-said : (run_remove w m id).0 ≡ removed true
  yes-said = ap (λ (o : Answer × Words). o.0) y

  same : (a : Answer) → (run_insert w m' limit rate (set_of (get_or (content (store_of w m)).rows id none)) words).0 ≡ a → (run_replace w m id limit rate words).0 ≡ a
  same a e = same_answer (storing w) w2 m id limit rate words yes-said ∙ ap (λ (o : Answer × Words). (run_insert w o.1 limit rate row_set words).0) y ∙ e

  pub replace-refused : (n : ℕ) → (run_insert w m' limit rate (set_of (get_or (content (store_of w m)).rows id none)) words).0 ≡ refused n → run_replace w m id limit rate words ≡ (refused n, m)
  replace-refused n e = λ i. (same (refused n) e i, run-refused (storing w) w2 m (replace id limit rate words) n (same (refused n) e) i)

  pub replace-stored : (j : ℕ) → (run_insert w m' limit rate (set_of (get_or (content (store_of w m)).rows id none)) words).0 ≡ stored j
      → run_replace w m id limit rate words ≡ run_insert w m' limit rate (set_of (get_or (content (store_of w m)).rows id none)) words
  replace-stored j e =
      (as-two-calls (storing w) w2 m id limit rate words).two-calls (λ n d. stored-not j n (sym (same (stored j) e) ∙ d))
      ∙ ap (λ (o : Answer × Words). run_insert w o.1 limit rate row_set words) y

  -- what the removal leaves is sound
  pub left-sound : (slices_listed w m' ≡ true) × (sound_words w m' ≡ true)
  left-sound =
      let R = removes (storing w) (sizes_of w m) w2 (store_of w m) id limit rate words (sym (run-answers (storing w) w2 m (remove id)) ∙ yes-said) in
      store-read w m' (erased id (content (store_of w m))) (ap (λ (o : Answer × Words). store_of w o.1) (sym y) ∙ run-leaves (storing w) w2 m (remove id) ∙ ap (λ (o : Answer × Store). o.1) (removal-yes (storing w) (sizes_of w m) w2 (store_of w m) id limit rate words R))

-- ---- a corrected take

pub corrected : (S : Scheme) → Claim S → Corrected S
corrected S C m before id limit rate words e q kept a other b =
    let two = C.changes m (before ++ replace id limit rate words ∷ []) before (replace id limit rate words) [] refl e in
    let same = two.0 q a other in
    let after = moment_after S (run S) (at_first S m) m (before ++ replace id limit rate words ∷ []) in
    subst (λ (old : Answer). OldOrNew S q after.known id old (after.reply q)) same.1 (two.1 q kept same.0 b)
