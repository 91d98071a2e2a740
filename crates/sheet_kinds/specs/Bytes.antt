-- The kinds of the code: each has its row of the table, and a byte stands for the kind whose row it finds. Definitions only. Assumes nothing.
use Rattle.std.specs.Prelude.{◌≡◌, ℕ, Result, MatchResult}
use Rattle.std.proofs.Math.Option.{none, some}
use Rattle.sheet_kinds.specs.declared.Kind as code
use Rattle.sheet_kinds.specs.declared.Kind.TheVariants.{Insert, Remove, Query, Replace}
use Rattle.sheet_kinds.specs.declared.UnknownKind.{UnknownKind}
use Rattle.sheet_kinds.specs.Kinds.{Kind, insert_kind, remove_kind, query_kind, replace_kind, kind_of}

abbrev pub row_of : code.Kind → Kind
row_of Insert = insert_kind
row_of Remove = remove_kind
row_of Query = query_kind
row_of Replace = replace_kind

-- the result is the kind of this byte, or the byte, which no row has
abbrev pub Decodes : ℕ → Result code.Kind UnknownKind → Type 0
Decodes b r = MatchResult r (λ kind. kind_of b ≡ some (row_of kind)) (λ e. (e.0 ≡ b) × (kind_of b ≡ none))
