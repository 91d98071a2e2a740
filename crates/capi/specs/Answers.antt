-- How the C interface writes the answers of the calls: the case first, then its values, unused words 0. Definitions only. Assumes nothing.
use Rattle.std.specs.Prelude.{ℕ, List, [], ◌∷◌, ℤ, to_bits}
use Rattle.std.specs.Float.{binary32}
use Rattle.matching.specs.declared.MatchResult.{MatchResult}
use Rattle.model.specs.Calls.{Answer, built, stored, removed, count, best, nothing, refused}
use Rattle.model.specs.Query.{Query}
use Rattle.model.specs.Words.{Words}
use Rattle.query_rank.specs.Answers.{scratch_after}
use Rattle.wang_judge.specs.Scheme.{config_of, wang, query_with}
use Rattle.panako_vote.specs.declared.PanakoMatchConfig.{PanakoMatchConfig}
use Rattle.panako_judge.specs.Scheme.{panako}
use Rattle.panako_judge.specs.Scheme as of-panako
use Rattle.capi.specs.Codes.{single, flag, twos_complement}

abbrev pub case_words : ℕ → ℕ → List ℕ
case_words c value = c ∷ value ∷ 0 ∷ 0 ∷ 0 ∷ 0 ∷ 0 ∷ 0 ∷ []

-- best: id, votes, score bits, prominence bits, frames, ms, time scale bits
abbrev pub best_words : ℕ → MatchResult → List ℕ
best_words id r =
    4 ∷ id ∷ r.votes ∷ to_bits binary32 r.score ∷ to_bits binary32 r.prominence
    ∷ twos_complement r.offset.frames ∷ twos_complement r.offset.ms ∷ to_bits binary32 r.time_scale ∷ []

abbrev pub answer_words : Answer → List ℕ
answer_words built = case_words 0 0
answer_words (stored id) = case_words 1 id
answer_words (removed b) = case_words 2 (flag b)
answer_words (count n) = case_words 3 n
answer_words (best id r) = best_words id r
answer_words nothing = case_words 5 0
answer_words (refused n) = case_words 6 n

-- what a call answers, as words, and leaves; of a query also the scratch, from what it was
abbrev pub in_words : Answer × Words → List ℕ × Words
in_words o = (answer_words o.0, o.1)

abbrev pub in_words_with : List ℤ → Answer × Words → List ℕ × (Words × List ℤ)
in_words_with s o = (answer_words o.0, (o.1, scratch_after o.0 s))

-- ---- a Wang query's settings, as words

abbrev pub wang_asked : List ℕ → ℕ → ℕ → ℕ → ℕ → ℕ → ℕ → ℕ → Query wang
wang_asked hashes rate tolerance votes score prominence set scratch = query_with (config_of tolerance votes score prominence) (single rate) set hashes scratch

-- ---- and a Panako query's

abbrev pub panako_config : ℕ → ℕ → ℕ → ℕ → ℕ → ℕ → ℕ → PanakoMatchConfig
panako_config min max bins tolerance votes score prominence = record {
  scale_min = single min;
  scale_max = single max;
  scale_bins = bins;
  offset_tolerance_frames = tolerance;
  min_votes = votes;
  min_score = single score;
  min_prominence = single prominence;
}

abbrev pub panako_asked : List ℕ → ℕ → ℕ → ℕ → ℕ → ℕ → ℕ → ℕ → ℕ → ℕ → ℕ → Query panako
panako_asked hashes rate min max bins tolerance votes score prominence set scratch =
    of-panako.query_with (panako_config min max bins tolerance votes score prominence) (single rate) set hashes scratch
