-- Request Eleven: recordings loaded all at once, or one by one. Definitions only. Assumes nothing.
use Rattle.std.specs.Prelude.{◌≡◌, List, map, ℕ, length, replicate}
use Rattle.lists.specs.Lists.{All, flat}
use Rattle.model.specs.Fingerprints.{hash_count}
use Rattle.model.specs.Query.{Scheme}
use Rattle.model.specs.Calls.{Call, build, insert}
use Rattle.model.specs.Words.{Words}
use Rattle.model.specs.Run.{run}
use Rattle.model.specs.History.{leaves, answers}
use Rattle.model.specs.Claim.{Accepted}

-- what is to be stored: the word of its rate's bits, its set, and the words of its hashes
pub record Recording : Type 0 where
  pub rate : ℕ
  pub set : ℕ
  pub words : List ℕ

-- one insert for each recording, in order, under one limit
abbrev pub inserts : (S : Scheme) → ℕ → List Recording → List (Call S)
inserts S limit rs = map (λ r. insert limit r.rate r.set r.words) rs

-- one build for all
abbrev pub one_build : (S : Scheme) → ℕ → List Recording → Call S
one_build S limit rs = build limit (flat (map (λ r. r.words) rs)) (map (λ r. hash_count S.width r.words) rs) (map (λ r. r.rate) rs) (map (λ r. r.set) rs)

-- "a store of the same sizes with every word zero"
abbrev pub blank : Words → Words
blank m = record {
  references = replicate (length m.references) 0;
  postings = replicate (length m.postings) 0;
  stopped = replicate (length m.stopped) 0;
}

-- the two ways "leave the same three slices word by word, provided that neither way is refused"
abbrev pub LoadsAlike : Scheme → Type 0
LoadsAlike S =
    (m : Words) (limit : ℕ) (rs : List Recording)
    → All Accepted (answers S (run S) (blank m) (inserts S limit rs)) → Accepted (run S m (one_build S limit rs)).0
    → leaves S (run S) (blank m) (inserts S limit rs) ≡ (run S m (one_build S limit rs)).1
