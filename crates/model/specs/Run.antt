-- The calls on a store's words: what each answers, and what words it leaves. Definitions only. Assumes nothing.
use Rattle.std.specs.Prelude.{cond, List, ℕ}
use Rattle.model.specs.Query.{Scheme, Query}
use Rattle.model.specs.Calls.{Store, unlisted, unsound, holds, Answer, Call, build, insert, remove, replace, live_count, query, Outcome, build_step, insert_step, remove_step, replace_step, count_step, query_step, taken}
use Rattle.model.specs.Words.{Words, sizes_of, slices_listed, write, read_index}
use Rattle.model.specs.Soundness.{sound_words}

-- what the words say
unfoldable pub store_of : ℕ → Words → Store
store_of w m = cond (slices_listed w m) (cond (sound_words w m) (holds (read_index w m)) unsound) unlisted

-- what a call leaves, as words: a sound store's content is laid out, and any other store is as it was
abbrev pub laid_out : ℕ → Words → Store → Words
laid_out w m unlisted = m
laid_out w m unsound = m
laid_out w m (holds x) = write w (sizes_of w m) x

abbrev pub on_words : ℕ → Words → Outcome → Answer × Words
on_words w m o = (o.0, laid_out w m o.1)

-- Each call: what the words say decides its answer and what it leaves. These are what the contracts of the entries equal.
unfoldable pub run_build : ℕ → Words → ℕ → List ℕ → List ℕ → List ℕ → List ℕ → Answer × Words
run_build w m limit words lengths rates sets = on_words w m (taken (store_of w m) (build_step w (sizes_of w m) (store_of w m) limit words lengths rates sets))

unfoldable pub run_insert : ℕ → Words → ℕ → ℕ → ℕ → List ℕ → Answer × Words
run_insert w m limit rate set words = on_words w m (taken (store_of w m) (insert_step w (sizes_of w m) (store_of w m) limit rate set words))

unfoldable pub run_remove : ℕ → Words → ℕ → Answer × Words
run_remove w m id = on_words w m (taken (store_of w m) (remove_step (store_of w m) id))

unfoldable pub run_replace : ℕ → Words → ℕ → ℕ → ℕ → List ℕ → Answer × Words
run_replace w m id limit rate words = on_words w m (taken (store_of w m) (replace_step w (sizes_of w m) (store_of w m) id limit rate words))

unfoldable pub run_count : ℕ → Words → Answer × Words
run_count w m = on_words w m (taken (store_of w m) (count_step (store_of w m)))

unfoldable pub run_query : (S : Scheme) → Words → Query S → Answer × Words
run_query S m q = on_words S.width m (taken (store_of S.width m) (query_step S (store_of S.width m) q))

abbrev pub run : (S : Scheme) → Words → Call S → Answer × Words
run S m (build limit words lengths rates sets) = run_build S.width m limit words lengths rates sets
run S m (insert limit rate set words) = run_insert S.width m limit rate set words
run S m (remove id) = run_remove S.width m id
run S m (replace id limit rate words) = run_replace S.width m id limit rate words
run S m live_count = run_count S.width m
run S m (query q) = run_query S m q
