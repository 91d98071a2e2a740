-- The worked examples of demand 3 (crate `model`, specs/Changes.antt) for this index. Each is computed from the definitions, soundness and layout
-- of the words included. Assumes nothing.
use Rattle.std.specs.Prelude.{[], ◌∷◌, ℕ, T}
use Rattle.std.specs.Float.{binary32}
use Rattle.std.specs.Float.Ieee.{of_bits, nan_bits, add, sub, mul, div, le, lt, of_int, is_nan, round}
use Rattle.lists.specs.Lists.{keep, some?, flat, sum, insert_key}
use Rattle.lists.specs.Every.{every, count, all_true}
use Rattle.lists.specs.Keys.{place, place_all}
use Rattle.lists.specs.Entries.{entries, keys_ascend, zero_word, zero_from, padded}
use Rattle.maps.specs.Sums.{sum_to, sum_to_ℤ, greatest, first}
use Rattle.maps.specs.Lists as counting
use Rattle.floats.specs.Rounding.{round_to_i64}
use Rattle.floats.specs.Selection.{abs, maximum}
use Rattle.matching.specs.Offsets.{millis}
use Rattle.matching.specs.Rates.{rates_agree}
use Rattle.matching.specs.Scores.{clamp_score, wang_prominence, score_of}
use Rattle.matching.specs.Results.{better}
use Rattle.consolidate.specs.Runs.{first_greatest, run_end}
use Rattle.consolidate.specs.Modes.{mode}
use Rattle.consolidate.specs.Box.{peak_over}
use Rattle.model.specs.Fingerprints.{hashes_of, divided, malformed, malformed_build}
use Rattle.model.specs.Rows.{canonical, is_canonical, is_set, in_set, row_of, largest_anchor}
use Rattle.model.specs.Index.{numbered, exceeds, stop_keys, inserted, built_from, erased}
use Rattle.model.specs.Query.{Query, gather, too_many_votes, candidate, best_below}
use Rattle.model.specs.Calls.{build_tests, insert_tests, replace_tests, plain_tests, early_tests, query_tests, scratch_listed, build_step, insert_step, remove_step, replace_step, query_step}
use Rattle.model.specs.Words.{sizes_of, sizes_listed, slices_listed, row_entries, write, read_index}
use Rattle.model.specs.Soundness.{counts_fit, live_word, stopped_step, dead_row, other_entry, vacant_entry, dead_fine, rate_fine, live_id, posting_live, anchor_fine, rmax_fine, other_key, key_unstopped, entry_unused, set_fine, sound_tests, sound_words}
use Rattle.model.specs.Run.{store_of, run_build, run_insert, run_remove, run_replace, run_query}
use Rattle.model.specs.History.{leaves}
use Rattle.model.specs.Changes.{rate, Material, all_right}
use Rattle.gates.specs.Gates.{peak_gates, gates, result_at}
use Rattle.wang_judge.specs.Judge.{mode_within, peak_of, distinct, seen_of, judge_by}
use Rattle.wang_judge.specs.Scheme.{beyond, judge, wang}

-- tolerance 0, min_votes 1, min_score 0.25, min_prominence 0.5, and scratch for 6 votes
abbrev probe : ℕ → Query wang
probe set = record {
  ask = record {
    cfg = record { offset_tolerance_frames = 0; min_votes = 1; min_score = of_bits binary32 0x3E80_0000; min_prominence = of_bits binary32 0x3F00_0000 };
    rate = of_bits binary32 rate;
  };
  set = set;
  words = 7 ∷ 1 ∷ 9 ∷ 3 ∷ [];
  scratch = 36;
}

-- the query meets the first at δ = 3 by both of its hashes, the second by one, the third by none
abbrev material : Material wang
material = record { both = 7 ∷ 4 ∷ 9 ∷ 6 ∷ []; one = 7 ∷ 4 ∷ []; other = 5 ∷ 4 ∷ []; probe = probe }

pub examples : T (all_right wang material)
unfolding leaves run_build run_insert run_remove run_replace run_query store_of slices_listed sizes_listed sizes_of sound_words sound_tests counts_fit live_word stopped_step dead_row other_entry vacant_entry dead_fine rate_fine live_id posting_live anchor_fine rmax_fine other_key key_unstopped entry_unused set_fine read_index write row_entries every count all_true entries keys_ascend zero_word zero_from padded keep some? flat sum insert_key place place_all build_step insert_step remove_step replace_step query_step build_tests insert_tests replace_tests plain_tests early_tests query_tests scratch_listed numbered inserted built_from erased exceeds stop_keys hashes_of divided malformed malformed_build row_of canonical is_canonical is_set in_set largest_anchor gather too_many_votes candidate best_below better mode_within peak_of distinct seen_of peak_gates gates result_at judge_by beyond judge counting.count_if sum_to sum_to_ℤ greatest first first_greatest run_end mode peak_over millis rates_agree clamp_score wang_prominence score_of round_to_i64 abs maximum nan_bits of_bits add sub mul div le lt of_int is_nan round
examples = tt
