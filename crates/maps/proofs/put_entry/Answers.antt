-- `maps::put_entry` meets its contract. Assumes nothing.
use mathlib.Core.Path.{◌∙◌}
use Rattle.maps.proofs.Puts.{entry-put}
use Rattle.maps.proofs.put_entry.Goals as goal

pub returns : goal.returns
returns c = c.copy_words.ensures ∙ entry-put c.args.posts.now c.args.to c.args.hashes.now c.args.v c.args.j c.args.id c.requires.0 c.requires.1 c.requires.2
