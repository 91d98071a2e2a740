-- `postings::Entries::kept_until` meets its contract. Assumes nothing.
use Rattle.std.proofs.Common.{◌+◌, ◌*◌, arith, get_or}
use Rattle.postings.proofs.Names.{member-zero, member-one}
use Rattle.postings.proofs.Search.{until-same}
use Rattle.postings.proofs.Entries.kept_until.Goals as goal

pub returns-in-empty : goal.returns-in-empty
returns-in-empty c =
    let s = c.args.self in
    record {
      since = c.requires.0;
      within = omega arith;
      before = λ i a l. member-zero (get_or s.words.now (s.width * i + s.field) 0) c.args.xs.now c.in-empty.len_below;
      stop = λ l. absurd (omega arith);
    }

pub returns-in-len1 : goal.returns-in-len1
returns-in-len1 c =
    until-same _ _ _ _ _ _ _ _ (λ x. member-one x c.args.xs.now c.in-len1.len_at_least c.in-len1.len_below) c.until_word.ensures
