-- Cards and their sheets, computed from the definitions. Document 01's case and faulty cards. The store here has R 3, P 6 and K 2, since a
-- store of the sheet's size takes long to compute; the program's own stored case has the full one. Assumes nothing.
use Rattle.std.specs.Prelude.{Bool, true, false, ◌&&◌, List, [], ◌∷◌, ◌++◌, ℕ, ◌+◌, T, eqb, replicate}
use Rattle.std.specs.Float.Ieee.{of_bits, to_bits, nan_bits, add, sub, mul, div, le, lt, of_int, is_nan, round}
use Rattle.lists.specs.Lists.{keep, some?, flat, sum, insert_key}
use Rattle.lists.specs.Every.{every, count, all_true}
use Rattle.lists.specs.Keys.{place, place_all}
use Rattle.lists.specs.Entries.{entries, keys_ascend, zero_word, zero_from, padded}
use Rattle.maps.specs.Sums.{sum_to, sum_to_ℤ, greatest, first}
use Rattle.maps.specs.Lists as counting
use Rattle.floats.specs.Rounding.{round_to_i64}
use Rattle.floats.specs.Selection.{abs, maximum}
use Rattle.matching.specs.Offsets.{millis}
use Rattle.matching.specs.Rates.{rates_agree}
use Rattle.matching.specs.Scores.{clamp_score, wang_prominence, score_of}
use Rattle.matching.specs.Results.{better}
use Rattle.consolidate.specs.Runs.{first_greatest, run_end}
use Rattle.consolidate.specs.Modes.{mode}
use Rattle.consolidate.specs.Box.{peak_over}
use Rattle.model.specs.Fingerprints.{hashes_of, divided, malformed}
use Rattle.model.specs.Rows.{canonical, is_canonical, is_set, in_set, row_of, largest_anchor}
use Rattle.model.specs.Index.{inserted, erased, exceeds, stop_keys}
use Rattle.model.specs.Query.{gather, too_many_votes, candidate, best_below}
use Rattle.model.specs.Calls.{insert_tests, replace_tests, plain_tests, early_tests, query_tests, scratch_listed, insert_step, remove_step, replace_step, query_step}
use Rattle.model.specs.Words.{sizes_of, sizes_listed, slices_listed, row_entries, write, read_index}
use Rattle.model.specs.Soundness.{counts_fit, live_word, stopped_step, dead_row, other_entry, vacant_entry, dead_fine, rate_fine, live_id, posting_live, anchor_fine, rmax_fine, other_key, key_unstopped, entry_unused, set_fine, sound_tests, sound_words}
use Rattle.model.specs.Run.{store_of, run_insert, run_remove, run_replace, run_query}
use Rattle.gates.specs.Gates.{peak_gates, gates, result_at}
use Rattle.wang_judge.specs.Judge.{mode_within, peak_of, distinct, seen_of, judge_by}
use Rattle.wang_judge.specs.Scheme.{beyond, judge}
use Rattle.sheet_text.specs.Bytes.{words_of, decimal_in, decimal, hex_digits}
use Rattle.sheet_lines.specs.Lines.{offset_text, match_text}
use Rattle.sheet_kinds.specs.Kinds.{good_length}
use Rattle.sheet_records.specs.Step.{step_of}
use Rattle.sheet_card.specs.Ends.{header}
use Rattle.sheet_card.specs.Sheet.{whole, records_from, lines_of, sheet_on, zeroed}

-- ---- the bytes of cards

abbrev word : ℕ → ℕ → ℕ → ℕ → List ℕ
word a b c d = a ∷ b ∷ c ∷ d ∷ []

-- a number below 256
abbrev small : ℕ → List ℕ
small n = word 0 0 0 n

-- 62.5 frames a second
abbrev rate : List ℕ
rate = word 0x42 0x7A 0 0

abbrev insertion : List ℕ
insertion = small 0x19 ++ 1 ∷ small 100 ++ rate ++ small 7 ++ small 4 ++ small 9 ++ small 6

abbrev question : List ℕ
question =
    small 0x25 ++ 3 ∷ small 0 ++ small 2 ++ word 0x3F 0 0 0 ++ word 0x40 0 0 0 ++ rate ++ small 7 ++ small 1 ++ small 9 ++ small 3

abbrev removal : List ℕ
removal = small 5 ++ 2 ∷ small 0

-- list 0 as another list, and its corrected take: document 02's kind 04
abbrev misheard : List ℕ
misheard = small 0x11 ++ 1 ∷ small 100 ++ rate ++ small 5 ++ small 4

abbrev correction : List ℕ
correction = small 0x1D ++ 4 ∷ small 0 ++ small 100 ++ rate ++ small 7 ++ small 4 ++ small 9 ++ small 6

-- document 01's card
abbrev card : List ℕ
card = 1 ∷ insertion ++ question ++ removal ++ question

-- ---- the sheets

-- A 0
abbrev stored0 : List ℕ
stored0 = 65 ∷ 32 ∷ 48 ∷ 10 ∷ []

-- M 0 2 3F800000 40000000 3 48 I
abbrev matched : List ℕ
matched =
    77 ∷ 32 ∷ 48 ∷ 32 ∷ 50 ∷ 32 ∷ 51 ∷ 70 ∷ 56 ∷ 48 ∷ 48 ∷ 48 ∷ 48 ∷ 48 ∷ 32 ∷ 52 ∷ 48 ∷ 48 ∷ 48 ∷ 48 ∷ 48 ∷ 48 ∷ 48 ∷ 32 ∷ 51 ∷ 32
    ∷ 52 ∷ 56 ∷ 32 ∷ 73 ∷ 10 ∷ []

-- D 0 1
abbrev removed0 : List ℕ
removed0 = 68 ∷ 32 ∷ 48 ∷ 32 ∷ 49 ∷ 10 ∷ []

-- N
abbrev none : List ℕ
none = 78 ∷ 10 ∷ []

-- R 3
abbrev refused3 : List ℕ
refused3 = 82 ∷ 32 ∷ 51 ∷ 10 ∷ []

-- R 10
abbrev refused10 : List ℕ
refused10 = 82 ∷ 32 ∷ 49 ∷ 48 ∷ 10 ∷ []

-- end and a digit
abbrev end : ℕ → List ℕ
end n = 101 ∷ 110 ∷ 100 ∷ 32 ∷ (48 + n) ∷ 10 ∷ []

-- X and an offset of one digit, or of two
abbrev fault : ℕ → List ℕ
fault n = 88 ∷ 32 ∷ (48 + n) ∷ 10 ∷ []

abbrev fault2 : ℕ → ℕ → List ℕ
fault2 m n = 88 ∷ 32 ∷ (48 + m) ∷ (48 + n) ∷ 10 ∷ []

abbrev same : List ℕ → List ℕ → Bool
same [] [] = true
same [] (y ∷ ys) = false
same (x ∷ xs) [] = false
same (x ∷ xs) (y ∷ ys) = eqb x y && same xs ys

-- a card, and what is printed for it below the header
abbrev pub all : List (List ℕ × List ℕ) → Bool
all [] = true
all (e ∷ es) = same (sheet_on (zeroed 3 6 2) e.0) (header ++ e.1) && all es

abbrev pub table : List (List ℕ × List ℕ)
table =
    (card, stored0 ++ matched ++ removed0 ++ none ++ end 4)
    -- no record
    ∷ (1 ∷ [], end 0)
    -- empty input, and a wrong version
    ∷ ([], fault 0)
    ∷ (2 ∷ removal, fault 0)
    -- an unknown kind, behind a whole record
    ∷ (1 ∷ insertion ++ small 5 ++ 5 ∷ small 0, stored0 ++ fault2 3 0)
    -- a record that is cut short, and a length that is
    ∷ (1 ∷ insertion ++ small 5 ++ 2 ∷ 0 ∷ 0 ∷ [], stored0 ++ fault2 3 0)
    ∷ (1 ∷ 0 ∷ 0 ∷ [], fault 1)
    -- bad lengths: 0; above 8,192; not one more than a multiple of 4; without the rate (kinds 01 and 04); 9 for kind 02
    ∷ (1 ∷ small 0 ++ removal, fault 1)
    ∷ (1 ∷ word 0 0 0x20 1 ++ 1 ∷ replicate 8192 0, fault 1)
    ∷ (1 ∷ small 6 ++ 2 ∷ replicate 5 0, fault 1)
    ∷ (1 ∷ small 5 ++ 1 ∷ small 100, fault 1)
    ∷ (1 ∷ small 9 ++ 4 ∷ small 0 ++ small 100, fault 1)
    ∷ (1 ∷ small 9 ++ 2 ∷ replicate 8 0, fault 1)
    -- "half a hash left over is refused 3"
    ∷ (1 ∷ small 13 ++ 1 ∷ small 100 ++ rate ++ small 7, refused3 ++ end 1)
    ∷ (1 ∷ small 17 ++ 4 ∷ small 0 ++ small 100 ++ rate ++ small 7, refused3 ++ end 1)
    -- a corrected take keeps its number, and is what is then heard; of an id that isn't live it is refused
    ∷ (1 ∷ misheard ++ question ++ correction ++ question, stored0 ++ none ++ stored0 ++ matched ++ end 4)
    ∷ (1 ∷ correction ++ insertion ++ removal ++ correction, refused10 ++ stored0 ++ removed0 ++ refused10 ++ end 4)
    ∷ []

pub examples : T (all table)
unfolding zeroed words_of decimal_in decimal hex_digits offset_text match_text good_length step_of whole records_from lines_of run_insert run_remove run_replace run_query store_of slices_listed sizes_listed sizes_of sound_words sound_tests counts_fit live_word stopped_step dead_row other_entry vacant_entry dead_fine rate_fine live_id posting_live anchor_fine rmax_fine other_key key_unstopped entry_unused set_fine read_index write row_entries every count all_true entries keys_ascend zero_word zero_from padded keep some? flat sum insert_key place place_all insert_step remove_step replace_step query_step insert_tests replace_tests plain_tests early_tests query_tests scratch_listed inserted erased exceeds stop_keys hashes_of divided malformed row_of canonical is_canonical is_set in_set largest_anchor gather too_many_votes candidate best_below better mode_within peak_of distinct seen_of peak_gates gates result_at judge_by beyond judge counting.count_if sum_to sum_to_ℤ greatest first first_greatest run_end mode peak_over millis rates_agree clamp_score wang_prominence score_of round_to_i64 abs maximum nan_bits of_bits to_bits add sub mul div le lt of_int is_nan round
examples = tt
