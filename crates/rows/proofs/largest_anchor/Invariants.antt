-- `rows::largest_anchor` meets its contract. Assumes nothing.
use Rattle.std.proofs.Common.{◌≡◌, map}
use Rattle.lists.specs.Entries.{entries}
use Rattle.model.specs.Fingerprints.{hash_of}
use Rattle.model.specs.Rows.{largest_anchor}
use Rattle.rows.proofs.largest_anchor.Given as goal

abbrev pub invariant-loop-j : goal.invariant-loop-j
invariant-loop-j l = l.top ≡ largest_anchor (map hash_of (entries 2 l.j l.hashes))
