-- A Wang query on a store's words that none of refusals 1 to 4 and 9 applies to: answered by its votes. Assumes nothing.
use mathlib.Core.Path.{◌≡◌, refl, sym}
use mathlib.Core.List.{List}
use Prim.Native.Nat.{ℕ, ◌/◌, ◌^◌, ◌≤◌, ◌<◌}
use native.Mathlib.Omega.{arith}
use lib.IntN.{ℤ}
use lib.ListN.{length, get_or}
use borrow.Author.Tests.{ltb-false}
use Rattle.lists.specs.Lists.{All}
use Rattle.lists.proofs.Keep.{all-imp}
use Rattle.lists.proofs.Entries.{all-entries, entry-word, length-entries}
use Rattle.model.specs.Fingerprints.{hashes_of}
use Rattle.model.specs.Rows.{largest_anchor}
use Rattle.model.specs.Calls.{Answer}
use Rattle.model.specs.Words.{Words}
use Rattle.model.specs.Run.{run_query}
use Rattle.query_refusals.specs.Early.{early_refusal}
use Rattle.query_refusals.proofs.Early.{Passed}
use Rattle.query_laws.proofs.Gathering.{RightAll, right-all, all-voting}
use Rattle.query_laws.proofs.Sound as sound
use Rattle.query_laws.proofs.Queries as queries
use Rattle.wang_judge.specs.declared.WangQuery.{WangQuery}
use Rattle.wang_judge.specs.Scheme.{Ask, beyond, query_of, judge, wang, query_with}
use Rattle.wang_votes.specs.Gathered.{pair_word}
use Rattle.wang_query.specs.Candidates.{reading, held_in, postings_in, hashes_in, answer_in, Held, Posted}
use Rattle.wang_query.proofs.Anchors.{top-high, top_above}
use Rattle.wang_query.proofs.Pairs.{Low, Small, low-hashes, small-postings, right}

-- what every candidate is judged with, by its parts
pub query-parts : (a : Ask) (hs : List ℕ) (top : ℕ) → top ≡ largest_anchor (hashes_of 3 hs)
    → ◌≡◌ {A = WangQuery} (record { cfg = a.cfg; frames_per_sec = a.rate; q_max = top; q_len = length hs / 2 }) (query_of a (hashes_of 3 hs))
query-parts a hs top e = λ i. record { cfg = a.cfg; frames_per_sec = a.rate; q_max = e i; q_len = sym (sound.hashes-long 3 hs) i }

module _ (m : Words) (a : Ask) (set : ℕ) (hs : List ℕ) (s : List ℤ) (r : ℕ) (e : r ≡ early_refusal 3 6 m (length s) hs (beyond a.cfg) set) where
  abbrev run : Answer × Words
  run = run_query wang m (query_with a.cfg a.rate set hs (length s))

  -- none of refusals 1 to 4 and 9
  module _ (z : r ≡ 0) (hash-bits : (i : ℕ) → get_or hs i 0 < 2 ^ 32) where
    P : Passed 3 6 m (length s) hs (beyond a.cfg) set
    P = queries.none_before wang (omega arith) m a set hs s r e z

    near : a.cfg.offset_tolerance_frames ≤ 65535
    unfolding beyond
    near = ltb-false 65535 a.cfg.offset_tolerance_frames P.within

    pub searchable : Posted m.references m.postings hs (query_of a (hashes_of 3 hs))
    searchable = record {
      limits = record { rows = sound.rows-there 3 (omega arith) m P.is-listed P.is-sound; many = many; tolerance = near; short = rw (sound.hashes-long 3 hs) (sound.few-hashes 3 hs P.formed) };
      packable = record {
        walk = sound.sought 3 (omega arith) m P.is-listed P.is-sound (omega arith) hs P.formed;
        ids = all-imp (Held m.references) (λ x. get_or x 1 0 < 2 ^ 12) (λ x h. omega (arith, h.0, many)) (held_in m.references m.postings) held;
        rowed = record {
          wide = omega arith;
          ids = all-imp (Held m.references) (λ x. get_or x 1 0 < get_or m.references 0 0) (λ x h. h.0) (held_in m.references m.postings) held;
          rows = sound.rows-there 3 (omega arith) m P.is-listed P.is-sound;
        };
        high = top-high hs hash-bits;
        below = λ i lt. top_above hs i (rw (sound.hashes-long 3 hs) at lt);
      };
      held = held;
    }
      where
        many : get_or m.references 0 0 ≤ 4096
        many = sound.rows_few 3 (omega arith) m P.is-listed P.is-sound

        held : All (Held m.references) (held_in m.references m.postings)
        held = all-entries (Held m.references) 3 (get_or m.references 2 0) m.postings (λ i lt.
            let F = sound.F 3 (omega arith) m P.is-listed P.is-sound in
            rw (entry-word 3 i m.postings 1 (omega arith), entry-word 3 i m.postings 2 (omega arith)) (F.id-within i lt, F.anchors i lt refl))

    pub few-votes : length s / 6 ≤ 1000000
    few-votes = queries.few-votes 6 (length s) P.whole

    judge-is : (x : _) (vs : _) → (reading (query_of a (hashes_of 3 hs))).judge x vs ≡ judge a (hashes_of 3 hs) x vs
    unfolding judge
    judge-is x vs = refl

    pub found-is : ((i : ℕ) → get_or m.postings i 0 < 2 ^ 32) → (x : Answer)
        → x ≡ answer_in set (query_of a (hashes_of 3 hs)) (length s / 6) m.references m.postings hs
        → (x, m) ≡ run
    found-is post-bits x ex =
        queries.found-is wang (omega arith) m a set hs s r e z (reading (query_of a (hashes_of 3 hs))) judge-is (pair_word (largest_anchor (hashes_of 3 hs))) rights x ex
      where
        rights : RightAll wang (reading (query_of a (hashes_of 3 hs))) a (pair_word (largest_anchor (hashes_of 3 hs))) (postings_in set m.references m.postings) 0 (hashes_in (query_of a (hashes_of 3 hs)) hs)
        rights = right-all wang (reading (query_of a (hashes_of 3 hs))) a (pair_word (largest_anchor (hashes_of 3 hs))) (2 ^ 11) (Low (largest_anchor (hashes_of 3 hs))) Small
            (right a (query_of a (hashes_of 3 hs)) searchable.packable.high)
            (postings_in set m.references m.postings) (all-voting Small set m.references (held_in m.references m.postings) (small-postings (get_or m.references 2 0) m.postings post-bits))
            (hashes_in (query_of a (hashes_of 3 hs)) hs) (low-hashes (length (hashes_of 3 hs)) hs (largest_anchor (hashes_of 3 hs)) searchable.packable.below) 0 (omega (arith, length-entries 2 (length (hashes_of 3 hs)) hs, searchable.packable.walk.few))
