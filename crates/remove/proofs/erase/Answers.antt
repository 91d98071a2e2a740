-- `remove::erase` meets its contract. Assumes nothing.
use mathlib.Core.Path.{◌∙◌}
use native.Mathlib.Omega.{arith}
use mathlib.Core.List.{[], ◌∷◌}
use lib.ListN.{length, get_or}
use lib.Dec.{eqb}
use Rattle.lists.specs.Lists.{member}
use Rattle.postings.proofs.Names.{member-one}
use Rattle.postings.proofs.Listing.{listed_same}
use Rattle.postings.proofs.Compact.{staying-few}
use Rattle.remove.proofs.erase.Goals as goal

pub retain-q-requires : goal.retain-q-requires
retain-q-requires c =
    let s = c.args in
    record {
      within = record { field = omega arith; room = c.requires.erasable.held; start = omega arith };
      ascending = (tt, tt);
      listed = listed_same (λ x. member x (s.id ∷ [])) (eqb s.id) s.w (get_or s.refs.now 2 0) 1 s.posts.now s.list.now (length s.list.now) (λ x. member-one x (s.id ∷ []) (omega arith) (omega arith)) c.requires.listed;
    }

pub overflow_cast-q : goal.overflow_cast-q
overflow_cast-q c =
    omega (arith, c.retain-q.ensures.value, staying-few c.args.w (get_or c.args.refs.now 2 0) 1 (c.args.id ∷ []) c.args.posts.now, c.requires.erasable.few)

pub returns : goal.returns
returns c = record {
  refs_after = c.vacate.ensures ∙ rw c.retain-q.ensures.value;
  posts_after = c.retain-q.ensures.posts_after;
}
