-- `build_entries::lay_entry` meets its contract. Assumes nothing.
use Rattle.std.proofs.Common.{◌*◌, ◌-◌, arith, ◌∙◌}
use Rattle.maps.specs.Puts.{entry_of}
use Rattle.maps.proofs.Puts.{length-entry_of}
use Rattle.build_entries.proofs.Prefix.{entry_done}
use Rattle.build_entries.proofs.lay_entry.Goals as goal

pub returns : goal.returns
returns c =
    let a = c.args in
    entry_done a.posts.now _ a.w (a.w * a.e) (entry_of (a.w - 1) a.hashes.now a.id a.i)
    (length-entry_of (a.w - 1) a.hashes.now a.id a.i (omega arith) c.requires.2 ∙ omega arith) c.requires.1 c.put_entry.ensures
