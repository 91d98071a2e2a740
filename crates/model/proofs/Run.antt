-- The calls on words do what the model's calls do on what the words say. Assumes nothing.
use mathlib.Core.Path.{◌≡◌, refl, sym, ap, ◌∙◌, subst}
use mathlib.Core.Logic.{◌⊎◌, inl, inr, ⊎_elim}
use mathlib.Core.Bool.{true, false}
use mathlib.Core.Option.{Option, none, some}
use Prim.Native.Nat.{ℕ, ◌≤◌}
use native.Mathlib.Omega.{arith}
use lib.ListN.{get_or}
use Rattle.lists.proofs.Tests.{test, maybe, not-both}
use Rattle.matching.specs.declared.MatchResult.{MatchResult}
use Rattle.model.specs.Fingerprints.{fingerprint_of, fingerprints_of, malformed, malformed_build, reference_most}
use Rattle.model.specs.Index.{Index, is_live, inserted, built_from, erased}
use Rattle.model.specs.Query.{Scheme, Query, catalog, best_of}
use Rattle.model.specs.Calls.{Sizes, Store, holds, content, is_unlisted, Answer, removed, refused, Call, build, insert, remove, replace, live_count, query, refusal, build_tests, insert_tests, replace_tests, plain_tests, query_tests, set_of, Outcome, outcome, build_step, insert_step, remove_step, replace_step, count_step, query_step, answer_of, step_of, taken, step}
use Rattle.model.specs.Words.{Words, sizes_of, slices_listed}
use Rattle.model.specs.Sound.{Sound, SoundStore}
use Rattle.model.specs.Claim.{Accepted}
use Rattle.model.specs.Run.{store_of, laid_out, on_words, run_build, run_insert, run_remove, run_replace, run_count, run_query, run}
use Rattle.model.proofs.Stores.{written-sizes, store-sound, store-again, store-written, store-unlisted}
use Rattle.model.proofs.Preserved.{sound-store, none-applies, start-inv, step-inv}

-- ---- what a call leaves: the store as it was, or a store that holds an index

abbrev pub Left : Store → Store → Type 0
Left s t = (t ≡ s) ⊎ ((x : Index) × (t ≡ holds x) × (is_unlisted s ≡ false))

-- what an accepted call leaves
accepted-left : (S : Scheme) (z : Sizes) (s : Store) (x : Call S) → refusal (step_of S z s x).tests ≡ none → Left s (step_of S z s x).left
unfolding build_step insert_step remove_step replace_step count_step query_step build_tests insert_tests replace_tests plain_tests
accepted-left S z s (build limit words lengths rates sets) e =
    let fs = fingerprints_of S.width words lengths rates sets in
    inr (built_from S.width limit fs, refl, none-applies (build_tests z s (malformed_build S.width words lengths rates sets) limit fs) e 1)
accepted-left S z s (insert limit rate set words) e =
    let f = fingerprint_of S.width rate set words in
    inr (inserted S.width limit f (content s), refl, none-applies (insert_tests z s (malformed S.width reference_most words) limit f) e 1)
accepted-left S z s (remove id) e = test (is_live (get_or (content s).rows id none))
    (λ d. rw d (inr (erased id (content s), refl, none-applies (plain_tests s) e 1)))
    (λ d. rw d (inl refl))
accepted-left S z s (replace id limit rate words) e =
    let f = fingerprint_of S.width rate (set_of (get_or (content s).rows id none)) words in
    inr (inserted S.width limit f (content (remove_step s id).left), refl, none-applies (replace_step S.width z s id limit rate words).tests e 1)
accepted-left S z s live_count e = inl refl
accepted-left S z s (query q) e = inl refl

step_left : (S : Scheme) (z : Sizes) (s : Store) (x : Call S) → Left s (step S z s x).1
step_left S z s x = maybe (refusal (step_of S z s x).tests) (λ e. rw e (accepted-left S z s x e)) (λ n e. rw e (inl refl))

-- a count and a query leave the store as it was, and so does a removal of an id that is not live
outcome-same : (o : Option ℕ) (s : Store) (a : Answer) → (outcome o s a s).1 ≡ s
outcome-same none s a = refl
outcome-same (some n) s a = refl

pub count_same : (s : Store) → (taken s (count_step s)).1 ≡ s
unfolding count_step
count_same s = outcome-same (refusal (plain_tests s)) s _

pub query-same : (S : Scheme) (s : Store) (q : Query S) → (taken s (query_step S s q)).1 ≡ s
unfolding query_step
query-same S s q = outcome-same (refusal (query_tests S s q)) s _

pub remove-no : (s : Store) (id : ℕ) → is_live (get_or (content s).rows id none) ≡ false → (taken s (remove_step s id)).1 ≡ s
unfolding remove_step
remove-no s id e = rw e (outcome-same (refusal (plain_tests s)) s (removed false))

-- ---- a refused call: its table has the number, and the store is as it was

-- an accepted call answers no refusal
no-refusal : (S : Scheme) (z : Sizes) (s : Store) (x : Call S) → Accepted (step_of S z s x).answer
unfolding build_step insert_step remove_step replace_step count_step query_step
no-refusal S z s (build limit words lengths rates sets) n e = let o : ◌≡◌ {A = ℕ} 0 1 = cc in omega arith
no-refusal S z s (insert limit rate set words) n e = let o : ◌≡◌ {A = ℕ} 0 1 = cc in omega arith
no-refusal S z s (remove id) n e = let o : ◌≡◌ {A = ℕ} 0 1 = cc in omega arith
no-refusal S z s (replace id limit rate words) n e = let o : ◌≡◌ {A = ℕ} 0 1 = cc in omega arith
no-refusal S z s live_count n e = let o : ◌≡◌ {A = ℕ} 0 1 = cc in omega arith
no-refusal S z s (query q) n e = answered (best_of S q (catalog (content s))) e
  where
    answered : (o : Option (ℕ × MatchResult)) → answer_of o ≡ refused n → ⊥
    answered none e = let o : ◌≡◌ {A = ℕ} 0 1 = cc in omega arith
    answered (some b) e = let o : ◌≡◌ {A = ℕ} 0 1 = cc in omega arith

pub step-refused : (S : Scheme) (z : Sizes) (s : Store) (x : Call S) (n : ℕ) → (step S z s x).0 ≡ refused n → (refusal (step_of S z s x).tests ≡ some n) × ((step S z s x).1 ≡ s)
step-refused S z s x n e = maybe (refusal (step_of S z s x).tests)
    (λ d. absurd (no-refusal S z s x n (rw d at e)))
    (λ k d. let f : refused k ≡ refused n = (rw d at e) in let g : k ≡ n = cc in (d ∙ ap some g, rw d))

-- ---- on words

module _ (w : ℕ) (m : Words) (w2 : 2 ≤ w) where
  pub is-listed : is_unlisted (store_of w m) ≡ false → slices_listed w m ≡ true
  is-listed u = test (slices_listed w m) (λ d. d) (λ d. absurd (not-both (rw (store-unlisted w m d)) u))

  -- what leaves the store as it was leaves the words as they were
  pub words_same : (o : Outcome) → o.1 ≡ store_of w m → (on_words w m o).1 ≡ m
  words_same o e = rw e (store-again w m w2)

  -- sizes stay, and the words say what is left
  pub words-say : (t : Store) → SoundStore w (sizes_of w m) t → Left (store_of w m) t → (sizes_of w (laid_out w m t) ≡ sizes_of w m) × (store_of w (laid_out w m t) ≡ t)
  words-say t h l = ⊎_elim
      (λ (e : t ≡ store_of w m). let same = ap (laid_out w m) e ∙ store-again w m w2 in (ap (sizes_of w) same, ap (store_of w) same ∙ sym e))
      (λ (r : (x : Index) × (t ≡ holds x) × (is_unlisted (store_of w m) ≡ false)).
      let s : Sound w (sizes_of w m) r.0 = subst (SoundStore w (sizes_of w m)) r.1 h in
      rw r.1 (written-sizes w (sizes_of w m) r.0 w2 s, store-written w m w2 (is-listed r.2) r.0 s))
      l

pub run_is : (S : Scheme) (m : Words) (x : Call S) → run S m x ≡ on_words S.width m (step S (sizes_of S.width m) (store_of S.width m) x)
unfolding run_build run_insert run_remove run_replace run_count run_query
run_is S m (build limit words lengths rates sets) = refl
run_is S m (insert limit rate set words) = refl
run_is S m (remove id) = refl
run_is S m (replace id limit rate words) = refl
run_is S m live_count = refl
run_is S m (query q) = refl

module _ (S : Scheme) (w2 : 2 ≤ S.width) (m : Words) (x : Call S) where
  abbrev w : ℕ
  w = S.width

  sound-left : SoundStore w (sizes_of w m) (step S (sizes_of w m) (store_of w m) x).1
  sound-left =
      sound-store w (sizes_of w m) (step S (sizes_of w m) (store_of w m) x).1
      (step-inv S (sizes_of w m) w2 (store_of w m) (catalog (content (store_of w m))) (start-inv w (sizes_of w m) w2 (store_of w m) (store-sound w m w2)) x).sound

  pub run-answers : (run S m x).0 ≡ (step S (sizes_of S.width m) (store_of S.width m) x).0
  run-answers = ap (λ (o : Answer × Words). o.0) (run_is S m x)

  pub run-sizes : sizes_of S.width (run S m x).1 ≡ sizes_of S.width m
  run-sizes =
      ap (λ (o : Answer × Words). sizes_of w o.1) (run_is S m x)
      ∙ (words-say w m w2 (step S (sizes_of w m) (store_of w m) x).1 sound-left (step_left S (sizes_of w m) (store_of w m) x)).0

  pub run-leaves : store_of S.width (run S m x).1 ≡ (step S (sizes_of S.width m) (store_of S.width m) x).1
  run-leaves =
      ap (λ (o : Answer × Words). store_of w o.1) (run_is S m x)
      ∙ (words-say w m w2 (step S (sizes_of w m) (store_of w m) x).1 sound-left (step_left S (sizes_of w m) (store_of w m) x)).1

  -- "all lent memory unchanged"
  pub run-refused : (n : ℕ) → (run S m x).0 ≡ refused n → (run S m x).1 ≡ m
  run-refused n e =
      ap (λ (o : Answer × Words). o.1) (run_is S m x)
      ∙ words_same w m w2 (step S (sizes_of w m) (store_of w m) x) (step-refused S (sizes_of w m) (store_of w m) x n (sym run-answers ∙ e)).1

-- "A query doesn't change the store"
pub query-unchanged : (S : Scheme) → 2 ≤ S.width → (m : Words) (q : Query S) → (run_query S m q).1 ≡ m
unfolding run_query
query-unchanged S w2 m q = words_same S.width m w2 (taken (store_of S.width m) (query_step S (store_of S.width m) q)) (query-same S (store_of S.width m) q)

pub count-unchanged : (w : ℕ) → 2 ≤ w → (m : Words) → (run_count w m).1 ≡ m
unfolding run_count
count-unchanged w w2 m = words_same w m w2 (taken (store_of w m) (count_step (store_of w m))) (count_same (store_of w m))
