-- A hash put into a list as an entry. Definitions only. Assumes nothing.
use Rattle.std.specs.Prelude.{List, ◌∷◌, ◌++◌, ℕ, ◌+◌, length, take, drop}
use Rattle.lists.specs.Entries.{entry_at, key_at}

-- the hash at place j, of v words, as an entry of recording id: "(key, id, t_anchor)", "(key, id, t_anchor, t_b, t_c)"
abbrev pub entry_of : ℕ → List ℕ → ℕ → ℕ → List ℕ
entry_of v words id j = key_at words v j ∷ id ∷ drop 1 (entry_at v j words)

-- d with the words of e at `at`
unfoldable pub put : List ℕ → ℕ → List ℕ → List ℕ
put d at e = take at d ++ (e ++ drop (at + length e) d)
