-- A Panako query on a store's words that none of refusals 1 to 4 and 9 applies to: answered by its votes. Assumes nothing.
use mathlib.Core.Path.{◌≡◌, refl, sym}
use mathlib.Core.List.{List}
use Prim.Native.Nat.{ℕ, ◌+◌, ◌/◌, ◌^◌, ◌≤◌, ◌<◌}
use native.Mathlib.Omega.{arith}
use lib.IntN.{ℤ}
use lib.ListN.{length, get_or}
use Rattle.lists.specs.Lists.{All}
use Rattle.lists.specs.Entries.{entries}
use Rattle.lists.proofs.Keep.{all-imp}
use Rattle.model.specs.Fingerprints.{hashes_of}
use Rattle.model.specs.Calls.{Answer}
use Rattle.model.specs.Soundness.{row_word}
use Rattle.model.specs.Words.{Words, at_live}
use Rattle.model.specs.Run.{run_query}
use Rattle.panako_vote.specs.Settings.{Accepted}
use Rattle.panako_vote.specs.Grids.{grid_of, Limited}
use Rattle.panako_vote.proofs.Limits.{limited}
use Rattle.query_refusals.specs.Early.{early_refusal}
use Rattle.query_refusals.proofs.Early.{Passed}
use Rattle.query_laws.proofs.Gathering.{RightAll, right-all, all-voting}
use Rattle.query_laws.proofs.Sound as sound
use Rattle.query_laws.proofs.Queries as queries
use Rattle.panako_judge.specs.declared.PanakoQuery.{PanakoQuery}
use Rattle.panako_judge.specs.Scheme.{Ask, settings, beyond, query_of, judge, panako, query_with}
use Rattle.panako_judge.proofs.Votes.{within}
use Rattle.panako_votes.specs.Gathered.{pair_words}
use Rattle.panako_query.specs.Candidates.{reading, held_in, postings_in, hashes_in, answer_in, Posted}
use Rattle.panako_query.proofs.Pairs.{SmallHash, SmallPosting, small-hashes, small-postings, right}

-- what every candidate is judged with, by its parts
pub query-parts : (a : Ask) (hs : List ℕ) (c : _) → c ≡ settings a
    → ◌≡◌ {A = PanakoQuery} (record { cfg = c; frames_per_sec = a.rate; q_len = length hs / 4 }) (query_of a (hashes_of 5 hs))
query-parts a hs c e = λ i. record { cfg = e i; frames_per_sec = a.rate; q_len = sym (sound.hashes-long 5 hs) i }

module _ (m : Words) (a : Ask) (set : ℕ) (hs : List ℕ) (s : List ℤ) (r : ℕ) (e : r ≡ early_refusal 5 12 m (length s) hs (beyond a) set) where
  abbrev run : Answer × Words
  run = run_query panako m (query_with a.cfg a.rate set hs (length s))

  -- none of refusals 1 to 4 and 9
  module _ (z : r ≡ 0) where
    P : Passed 5 12 m (length s) hs (beyond a) set
    P = queries.none_before panako (omega arith) m a set hs s r e z

    A : Accepted (settings a)
    A = within a P.within

    grid : Limited (grid_of (settings a))
    grid = limited (settings a) A

    pub searchable : Posted m.references m.postings hs (query_of a (hashes_of 5 hs))
    searchable = record {
      limits = record { rows = sound.rows-there 5 (omega arith) m P.is-listed P.is-sound; many = many; tolerance = A.tolerance };
      packable = record {
        walk = sound.sought 5 (omega arith) m P.is-listed P.is-sound (omega arith) hs P.formed;
        ids = all-imp Live (λ x. get_or x 1 0 < 2 ^ 12) (λ x h. omega (arith, h.0, many)) es live;
        rowed = record { wide = omega arith; ids = all-imp Live (λ x. get_or x 1 0 < get_or m.references 0 0) (λ x h. h.0) es live; rows = sound.rows-there 5 (omega arith) m P.is-listed P.is-sound };
        grid = grid;
      };
    }
      where
        es : List (List ℕ)
        es = entries 5 (get_or m.references 2 0) m.postings

        Live : List ℕ → Type 0
        Live x = (get_or x 1 0 < get_or m.references 0 0) × (row_word m.references (get_or x 1 0) at_live ≡ 1)

        live : All Live es
        live = sound.live-entries 5 (omega arith) m P.is-listed P.is-sound

        many : get_or m.references 0 0 ≤ 4096
        many = sound.rows_few 5 (omega arith) m P.is-listed P.is-sound

    pub few-votes : length s / 12 ≤ 1000000
    few-votes = queries.few-votes 12 (length s) P.whole

    judge-is : (x : _) (vs : _) → (reading (query_of a (hashes_of 5 hs))).judge x vs ≡ judge a (hashes_of 5 hs) x vs
    unfolding judge
    judge-is x vs = refl

    pub found-is : ((i : ℕ) → get_or hs i 0 < 2 ^ 32) → ((i : ℕ) → get_or m.postings i 0 < 2 ^ 32) → (x : Answer)
        → x ≡ answer_in set (query_of a (hashes_of 5 hs)) (length s / 12) m.references m.postings hs
        → (x, m) ≡ run
    found-is hash-bits post-bits x ex =
        queries.found-is panako (omega arith) m a set hs s r e z (reading (query_of a (hashes_of 5 hs))) judge-is (pair_words (grid_of (settings a))) rights x ex
      where
        rights : RightAll panako (reading (query_of a (hashes_of 5 hs))) a (pair_words (grid_of (settings a))) (postings_in set m.references m.postings) 0 (hashes_in (query_of a (hashes_of 5 hs)) hs)
        rights = right-all panako (reading (query_of a (hashes_of 5 hs))) a (pair_words (grid_of (settings a))) (0 + length (hashes_in (query_of a (hashes_of 5 hs)) hs)) SmallHash SmallPosting
            (λ i h g k H E. right a grid (query_of a (hashes_of 5 hs)) i h g H E)
            (postings_in set m.references m.postings) (all-voting SmallPosting set m.references (held_in m.references m.postings) (small-postings (get_or m.references 2 0) m.postings post-bits))
            (hashes_in (query_of a (hashes_of 5 hs)) hs) (small-hashes (length (hashes_of 5 hs)) hs hash-bits) 0 (omega arith)
