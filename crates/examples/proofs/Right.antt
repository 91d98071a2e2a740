-- Every row of the table is right: antt computes each. Assumes nothing.
use lib.Dec.{T}
use lib.Ieee.{nan_bits, add, sub, mul, div, le, lt, of_int, of_bits, to_bits, is_nan, round}
use Rattle.floats.specs.Rounding.{round_to_i64, narrow}
use Rattle.floats.specs.Selection.{abs, maximum}
use Rattle.maps.specs.Sums.{sum_to, sum_to_ℤ, greatest, first}
use Rattle.consolidate.specs.Runs.{first_greatest, run_end}
use Rattle.consolidate.specs.Modes.{mode}
use Rattle.consolidate.specs.Box.{window, mode_near, peak_over, box_peak}
use Rattle.hough.specs.Hough.{hough_sum, hough_peak, merged, peak_offset, far_sum, far_count, prominence}
use Rattle.matching.specs.Offsets.{millis, in_i64, try_from_frames}
use Rattle.matching.specs.Rates.{rates_agree}
use Rattle.matching.specs.Scores.{clamp_score, wang_prominence, score_of}
use Rattle.matching.specs.Scales.{per_bin, bin_centre, time_scale}
use Rattle.lists.specs.Lists.{keep, some?, flat, insert_key}
use Rattle.lists.specs.Every.{every, count, all_true}
use Rattle.lists.specs.Keys.{place_all}
use Rattle.lists.specs.Entries.{entries, keys_ascend, zero_word, zero_from, padded}
use Rattle.model.specs.Fingerprints.{hashes_of, malformed}
use Rattle.model.specs.Rows.{canonical, is_canonical, is_set, row_of, largest_anchor}
use Rattle.model.specs.Index.{exceeds, stop_keys, inserted, erased}
use Rattle.model.specs.Calls.{insert_step, remove_step, insert_tests, plain_tests}
use Rattle.model.specs.Words.{sizes_of, sizes_listed, slices_listed, row_entries, write, read_index}
use Rattle.model.specs.Soundness.{counts_fit, live_word, stopped_step, dead_row, other_entry, vacant_entry, dead_fine, rate_fine, live_id, posting_live, anchor_fine, rmax_fine, other_key, key_unstopped, entry_unused, set_fine, sound_tests, sound_words}
use Rattle.model.specs.Run.{store_of, run_insert, run_remove}
use Rattle.examples.specs.Table.{ids_given, right, all, table}

pub all_right : T (all right table)
unfolding right ids_given run_insert run_remove store_of slices_listed sizes_listed sizes_of sound_words sound_tests counts_fit live_word stopped_step dead_row other_entry vacant_entry dead_fine rate_fine live_id posting_live anchor_fine rmax_fine other_key key_unstopped entry_unused set_fine read_index write row_entries every count all_true entries keys_ascend zero_word zero_from padded keep some? flat insert_key place_all insert_step remove_step insert_tests plain_tests inserted erased exceeds stop_keys hashes_of malformed row_of canonical is_canonical is_set largest_anchor nan_bits sum_to sum_to_ℤ greatest first first_greatest run_end mode window mode_near peak_over box_peak hough_sum hough_peak merged peak_offset far_sum far_count prominence rates_agree millis in_i64 try_from_frames round_to_i64 narrow abs maximum clamp_score wang_prominence score_of per_bin bin_centre time_scale add sub mul div le lt of_int of_bits to_bits is_nan round
all_right = tt
