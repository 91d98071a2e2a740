-- Assumes nothing.
use Rattle.std.proofs.Common.{◌/◌, refl, arith}
use Rattle.query_search.proofs.Levels.{windows-all}
use Rattle.query_search.proofs.Eighths.{windows-spread, sevenfold-few}
use Rattle.query_search.proofs.Search.first_windows.Goals as goal

pub returns-then-self-lt8 : goal.returns-then-self-lt8
returns-then-self-lt8 g c = (windows-all _ _ _ _ _ _ _ c.args.self.sought c.requires, omega arith)

pub spread-requires : goal.spread-requires
spread-requires g c =
    (omega (arith, c.requires.long, c.copy_keys.auto.starts), sevenfold-few _ _ _ _ _ _ c.args.self.sought (c.args.self.count / 8) (omega arith))

pub returns : goal.returns
returns g c =
    let s = c.args.self in (
      windows-spread s.posts.now g.row.W s.count s.hashes.now g.row.H s.hash_count (s.count / 8) _ _ _ _ _ _ _ _ _ c.copy_keys.new.starts _
          s.sought (omega (arith, c.if-self-lt8.false)) (omega arith) (omega arith)
          (omega (arith, c.requires.long, c.copy_keys.auto.starts, c.spread.auto.starts)) refl
          c.pivot.ensures
          c.pivot-2.ensures
          c.pivot-3.ensures
          c.pivot-4.ensures
          c.pivot-5.ensures
          c.pivot-6.ensures
          c.pivot-7.ensures
          c.copy_keys.ensures
          c.spread.ensures,
      omega arith,
    )
