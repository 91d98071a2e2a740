-- A fact that holds of every element has one proof at most, where the fact of each has. Assumes nothing.
use Rattle.std.specs.Prelude.{List, [], ◌∷◌}
use denote.Struct.Props as logic
use Rattle.lists.specs.Lists.{All}

pub all_prop : {A : Type 0} (P : A → Type 0) → ((x : A) → IsProp (P x)) → (l : List A) → IsProp (All P l)
all_prop P h [] = Prim.hlevel logic.props
all_prop P h (x ∷ l) = Prim.hlevel (h x, all_prop P h l)
