-- Demand 3 of the model's calls: the claim about every list of calls on one store. Assumes nothing.
use mathlib.Core.Path.{◌≡◌, refl, sym, ap, ◌∙◌, subst}
use mathlib.Core.Bool.{Bool, true, false, cond, not}
use mathlib.Core.List.{List, [], ◌∷◌, ◌++◌}
use mathlib.Core.Option.{Option, none, some}
use Prim.Native.Nat.{ℕ, ◌-◌, ◌≤◌}
use native.Mathlib.Omega.{arith}
use lib.ListN.{length, get_or}
use Rattle.lists.proofs.Tests.{maybe, or-false-right}
use Rattle.model.specs.Fingerprints.{Fingerprint, fingerprint_of, malformed, reference_most}
use Rattle.model.specs.Rows.{Row}
use Rattle.model.specs.Index.{next_id, new_id, is_live, inserted, erased}
use Rattle.model.specs.Query.{Scheme, Query, Catalog, catalog, too_many_votes}
use Rattle.model.specs.Calls.{Sizes, Store, holds, content, is_unlisted, is_unsound, Answer, stored, removed, count, Call, build, insert, remove, replace, live_count, query, refusal, insert_tests, plain_tests, scratch_listed, early_tests, query_tests, outcome, set_of, build_step, insert_step, remove_step, replace_step, count_step, query_step, answer_of, step_of, step}
use Rattle.model.specs.Sound.{SoundStore}
use Rattle.model.specs.History.{with_recording, without_recording, stored_id, with_recording_if, after, leaves, answers, replay, history, answer_from}
use Rattle.model.specs.Claim.{Accepted, KeysKept, OldOrNew, Moment, AfterInsert, AfterRemove, ClaimedAt, moment_after, Demand3, FromHistory}
use Rattle.model.proofs.Agree.{best-same, many-same}
use Rattle.model.proofs.Parts.{new_id-erased}
use Rattle.model.proofs.Fingerprints.{WideHashes, wide-hashes}
use Rattle.model.proofs.Preserved.{sound-store, none-applies, not-refused, new_id-le, new_id-dead, Inv, inv-inserted, inv-erased, replaced-listed, replaced-read, replaced-live, inv-replaced, start-inv, calls-inv}
use Rattle.model.proofs.Change.{candidate-others, candidate-vacant, best-further, found, old-or-new, found-without, many-without}

-- ---- lists of calls, one call more

module _ (S : Scheme) {T : Type 0} (run : T → Call S → Answer × T) where
  pub leaves-snoc : (t : T) (xs : List (Call S)) (x : Call S) → leaves S run t (xs ++ x ∷ []) ≡ (run (leaves S run t xs) x).1
  unfolding leaves
  leaves-snoc t [] x = refl
  leaves-snoc t (y ∷ ys) x = leaves-snoc (run t y).1 ys x

  pub history-snoc : (c : Catalog) (t : T) (xs : List (Call S)) (x : Call S)
      → history S run c t (xs ++ x ∷ []) ≡ after S (history S run c t xs) x (run (leaves S run t xs) x).0
  unfolding leaves answers replay
  history-snoc c t [] x = refl
  history-snoc c t (y ∷ ys) x = history-snoc (after S c y (run t y).0) (run t y).1 ys x

module _ (S : Scheme) (z : Sizes) (w2 : 2 ≤ S.width) where
  abbrev w : ℕ
  w = S.width

  -- ---- an accepted query

  -- what a query answers
  abbrev reply : Store → Query S → Answer
  reply s q = (step S z s (query q)).0

  abbrev moment : Store → Catalog → Moment S
  moment s c = record { reply = reply s; known = c }

  accepted : (s : Store) (q : Query S) → Accepted (step S z s (query q)).0 → refusal (query_tests S s q) ≡ none
  unfolding query_step
  accepted s q h = maybe (refusal (query_tests S s q)) (λ e. e) (λ n e. absurd (h n (rw e)))

  -- the store's answer is the catalog's
  answered : (s : Store) (c : Catalog) → Inv w z s c → (q : Query S) → refusal (query_tests S s q) ≡ none → (step S z s (query q)).0 ≡ found S q c
  unfolding query_step
  answered s c I q e = rw e (ap answer_of (best-same S I.agrees q))

  -- ---- insert

  insert-core : (s : Store) (c : Catalog) → Inv w z s c → (limit : ℕ) (f : Fingerprint) (q : Query S) → KeysKept q.set c (with_recording w limit f (new_id (content s)) c) (new_id (content s))
      → OldOrNew S q (with_recording w limit f (new_id (content s)) c) (new_id (content s)) (found S q c) (found S q (with_recording w limit f (new_id (content s)) c))
  unfolding with_recording
  insert-core s c I limit f q kept =
      old-or-new S q c (with_recording w limit f (new_id (content s)) c) (new_id (content s))
      (candidate-vacant S q c (new_id (content s)) vacant)
      (candidate-others S q c limit f (new_id (content s)) I.clean kept)
      (omega arith)
      (best-further S q c (new_id (content s)) vacant c.size fits)
    where
      vacant : c.live (new_id (content s)) ≡ none
      vacant = sym (I.agrees.live (new_id (content s))) ∙ new_id-dead w z (content s) I.sound

      fits : new_id (content s) ≤ c.size
      fits = omega (arith, new_id-le w z (content s) I.sound, I.agrees.size)

  after-insert : (s : Store) (c : Catalog) → Inv w z s c → (limit : ℕ) (f : Fingerprint)
      → Inv w z (holds (inserted w limit f (content s))) (with_recording w limit f (new_id (content s)) c)
      → AfterInsert S (moment s c) (moment (holds (inserted w limit f (content s))) (with_recording w limit f (new_id (content s)) c)) (new_id (content s))
  after-insert s c I limit f J q kept h k =
      let t : Store = holds (inserted w limit f (content s)) in
      rw (answered s c I q (accepted s q h), answered t (with_recording w limit f (new_id (content s)) c) J q (accepted t q k))
      (insert-core s c I limit f q kept)

  at-insert : (s : Store) (c : Catalog) → Inv w z s c → (bad : Bool) (limit : ℕ) (f : Fingerprint) → WideHashes w f.hashes → (o : Option ℕ) → refusal (insert_tests z s bad limit f) ≡ o → (id : ℕ)
      → (outcome o s (stored (new_id (content s))) (holds (inserted w limit f (content s)))).0 ≡ stored id
      → AfterInsert S (moment s c) (moment (outcome o s (stored (new_id (content s))) (holds (inserted w limit f (content s)))).1
      (with_recording_if w limit f (stored_id (outcome o s (stored (new_id (content s))) (holds (inserted w limit f (content s)))).0) c)) id
  at-insert s c I bad limit f wide (some n) g id e = let m : ◌≡◌ {A = ℕ} 0 1 = cc in absurd (omega arith)
  at-insert s c I bad limit f wide none g id e =
      let i : id ≡ new_id (content s) = cc in
      rw i (after-insert s c I limit f (inv-inserted w z w2 s c I bad limit f wide g))

  -- ---- remove

  tests-again : (s : Store) (id : ℕ) (q : Query S) → (too_many_votes S q (catalog (content s)) ≡ false → too_many_votes S q (catalog (erased id (content s))) ≡ false)
      → refusal (query_tests S s q) ≡ none → refusal (query_tests S (holds (erased id (content s))) q) ≡ none
  unfolding early_tests query_tests
  tests-again s id q many h =
      let t = none-applies (query_tests S s q) h in
      not-refused (query_tests S (holds (erased id (content s))) q) (or-false-right (is_unlisted s) (not (scratch_listed S.vote_words q.scratch)) (t 1), (refl, (t 3, (t 4, (t 9, (many (t 8), tt))))))

  after-remove : (s : Store) (c : Catalog) → Inv w z s c → (id : ℕ) → is_live (get_or (content s).rows id none) ≡ true
      → AfterRemove S (moment s c) (moment (holds (erased id (content s))) (without_recording id c)) id
  after-remove s c I id p q h k = (λ n g. h n (sym same ∙ g), same)
    where
      J : Inv w z (holds (erased id (content s))) (without_recording id c)
      J = inv-erased w z w2 s c I id p

      old : reply s q ≡ found S q c
      old = answered s c I q (accepted s q h)

      many : too_many_votes S q (catalog (content s)) ≡ false → too_many_votes S q (catalog (erased id (content s))) ≡ false
      many g = many-same S J.agrees q ∙ many-without S q c id (sym (many-same S I.agrees q) ∙ g)

      again : refusal (query_tests S (holds (erased id (content s))) q) ≡ none
      again = tests-again s id q many (accepted s q h)

      same : reply (holds (erased id (content s))) q ≡ reply s q
      same = answered (holds (erased id (content s))) (without_recording id c) J q again ∙ found-without S q c id (λ r g. k r (old ∙ g)) ∙ sym old

  at-remove : (s : Store) (c d : Catalog) → Inv w z s c → (id : ℕ) (o : Option ℕ) (live : Bool) → is_live (get_or (content s).rows id none) ≡ live
      → (outcome o s (removed live) (cond live (holds (erased id (content s))) s)).0 ≡ removed true
      → AfterRemove S (moment s c) (moment (outcome o s (removed live) (cond live (holds (erased id (content s))) s)).1 d) id
  at-remove s c d I id (some n) live p e = let m : ◌≡◌ {A = ℕ} 0 1 = cc in absurd (omega arith)
  at-remove s c d I id none false p e = let m : ◌≡◌ {A = ℕ} 0 1 = cc in absurd (omega arith)
  at-remove s c d I id none true p e = after-remove s c I id p

  -- ---- replace: from before it to what the removal leaves, and from there to after it

  -- a removal that answers yes
  pub removal-done : (s : Store) (id : ℕ) → is_unlisted s ≡ false → is_unsound s ≡ false → is_live (get_or (content s).rows id none) ≡ true → step S z s (remove id) ≡ (removed true, holds (erased id (content s)))
  unfolding remove_step plain_tests
  removal-done s id l u a = rw (l, u, a)

  module _ (s : Store) (c : Catalog) (I : Inv w z s c) (id limit rate : ℕ) (words : List ℕ) where
    abbrev new : Fingerprint
    new = fingerprint_of w rate (set_of (get_or (content s).rows id none)) words

    module _ (e : refusal (replace_step w z s id limit rate words).tests ≡ none) where
      pub removal-is : step S z s (remove id) ≡ (removed true, holds (erased id (content s)))
      removal-is = removal-done s id (replaced-listed w z w2 s id limit rate words e) (replaced-read w z w2 s id limit rate words e) (replaced-live w z w2 s id limit rate words e)

      pub replaced-is : step S z s (replace id limit rate words) ≡ (stored id, holds (inserted w limit new (erased id (content s))))
      unfolding replace_step insert_step remove_step
      replaced-is = rw (e, replaced-live w z w2 s id limit rate words e, new_id-erased id (content s))

      after-replace : AfterRemove S (moment s c) (moment (holds (erased id (content s))) (without_recording id c)) id
          × AfterInsert S (moment (holds (erased id (content s))) (without_recording id c))
          (moment (holds (inserted w limit new (erased id (content s)))) (with_recording w limit new id (without_recording id c))) id
      after-replace =
          let live = replaced-live w z w2 s id limit rate words e in (
            after-remove s c I id live,
            subst (λ (j : ℕ). AfterInsert S (moment (holds (erased id (content s))) (without_recording id c))
                (moment (holds (inserted w limit new (erased id (content s)))) (with_recording w limit new j (without_recording id c))) j)
                (new_id-erased id (content s))
                (after-insert (holds (erased id (content s))) (without_recording id c) (inv-erased w z w2 s c I id live) limit new (inv-replaced w z w2 s c I id limit rate words e)),
          )

    at-replace : (step S z s (replace id limit rate words)).0 ≡ stored id
        → AfterRemove S (moment s c) (moment (step S z s (remove id)).1 (after S c (remove id) (step S z s (remove id)).0)) id
        × AfterInsert S (moment (step S z s (remove id)).1 (after S c (remove id) (step S z s (remove id)).0))
        (moment (step S z s (replace id limit rate words)).1 (after S c (replace id limit rate words) (step S z s (replace id limit rate words)).0)) id
    unfolding after
    at-replace g = maybe (refusal (replace_step w z s id limit rate words).tests)
        (λ e. rw (removal-is e, replaced-is e, ← (I.agrees.live id)) (after-replace e))
        (λ n e. let r = rw e at g in let m : ◌≡◌ {A = ℕ} 0 1 = cc in absurd (omega arith))

  -- ---- wherever in the list

  module _ (s : Store) (h : SoundStore w z s) (before : List (Call S)) where
    abbrev t : Store
    t = leaves S (step S z) s before

    abbrev d : Catalog
    d = history S (step S z) (catalog (content s)) s before

    inv : Inv w z (leaves S (step S z) s before) (history S (step S z) (catalog (content s)) s before)
    inv = calls-inv S z w2 s (catalog (content s)) (start-inv w z w2 s h) before

    abbrev at : List (Call S) → Moment S
    at = moment_after S (step S z) (catalog (content s)) s

    -- one call more
    abbrev more : Call S → Moment S
    more x = moment (step S z t x).1 (after S d x (step S z t x).0)

    at_more : (x : Call S) → more x ≡ at (before ++ x ∷ [])
    at_more x = λ i. moment (sym (leaves-snoc S (step S z) s before x) i) (sym (history-snoc S (step S z) (catalog (content s)) s before x) i)

    claimed : (x : Call S) → ClaimedAt S at before (step S z t x).0 x
    unfolding insert_step remove_step after
    claimed (insert limit rate set words) = λ id e.
        subst (λ (m : Moment S). AfterInsert S (at before) m id) (at_more (insert limit rate set words))
        (at-insert t d inv (malformed w reference_most words) limit (fingerprint_of w rate set words) (wide-hashes w w2 words)
        (refusal (insert_tests z t (malformed w reference_most words) limit (fingerprint_of w rate set words))) refl id e)
    claimed (remove id) = λ e.
        subst (λ (m : Moment S). AfterRemove S (at before) m id) (at_more (remove id))
        (at-remove t d (more (remove id)).known inv id (refusal (plain_tests t)) (is_live (get_or (content t).rows id none)) refl e)
    claimed (replace id limit rate words) = λ e.
        subst (λ (m : Moment S). AfterRemove S (at before) m id × AfterInsert S m (at (before ++ replace id limit rate words ∷ [])) id) (at_more (remove id))
        (subst (λ (m : Moment S). AfterRemove S (at before) (more (remove id)) id × AfterInsert S (more (remove id)) m id) (at_more (replace id limit rate words)) (at-replace t d inv id limit rate words e))
    claimed (build limit words lengths rates sets) = tt
    claimed live_count = tt
    claimed (query q) = tt

  pub demand3 : (s : Store) → SoundStore w z s → (calls : List (Call S)) → Demand3 S (step S z) (catalog (content s)) s calls
  demand3 s h calls before x rest e = claimed s h before x

  -- ---- what else the history says

  -- a sound store stays sound
  pub stays-sound : (s : Store) → SoundStore w z s → (calls : List (Call S)) → SoundStore w z (leaves S (step S z) s calls)
  stays-sound s h calls = sound-store w z (leaves S (step S z) s calls) (calls-inv S z w2 s (catalog (content s)) (start-inv w z w2 s h) calls).sound

  -- an accepted call answers what the catalog says
  told : (s : Store) (c : Catalog) → Inv w z s c → (x : Call S) → refusal (step_of S z s x).tests ≡ none → (step_of S z s x).answer ≡ answer_from S c x
  unfolding build_step insert_step remove_step replace_step count_step query_step
  told s c I (build limit words lengths rates sets) e = refl
  told s c I (insert limit rate set words) e = ap stored (ap (λ (v : List ℕ). next_id v (length (content s).rows)) I.agrees.vacant ∙ ap (next_id c.vacant) I.agrees.size)
  told s c I (remove id) e = ap (λ (o : Option Row). removed (is_live o)) (I.agrees.live id)
  told s c I (replace id limit rate words) e = rw (replaced-live w z w2 s id limit rate words e) (ap stored (new_id-erased id (content s)))
  told s c I live_count e = ap (λ (n : ℕ). count (n - length (content s).vacant)) I.agrees.size ∙ ap (λ (v : List ℕ). count (c.size - length v)) I.agrees.vacant
  told s c I (query q) e = ap answer_of (best-same S I.agrees q)

  from-catalog : (s : Store) (c : Catalog) → Inv w z s c → (x : Call S) → Accepted (step S z s x).0 → (step S z s x).0 ≡ answer_from S c x
  from-catalog s c I x h = maybe (refusal (step_of S z s x).tests) (λ e. rw e (told s c I x e)) (λ n e. absurd (h n (rw e)))

  pub from-history : (s : Store) → SoundStore w z s → FromHistory S (step S z) (catalog (content s)) s
  from-history s h before x k =
      from-catalog (leaves S (step S z) s before) (history S (step S z) (catalog (content s)) s before) (calls-inv S z w2 s (catalog (content s)) (start-inv w z w2 s h) before) x k
