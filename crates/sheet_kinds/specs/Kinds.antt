-- The kinds of records: one table. Definitions only. Assumes nothing.
use Rattle.std.specs.Prelude.{Bool, true, false, cond, ◌&&◌, ◌||◌, List, [], ◌∷◌, ℕ, ◌+◌, ◌*◌, ◌%◌, ℤ, pos, get_or, drop, replicate, eqb, leb}
use Rattle.std.proofs.Math.Option.{Option, none, some}
use Rattle.std.specs.Float.{binary32}
use Rattle.std.specs.Float.Ieee.{of_bits}
use Rattle.model.specs.Query.{Query}
use Rattle.model.specs.Calls.{Call, insert, remove, replace, query}
use Rattle.wang_judge.specs.Scheme.{config_of, wang, query_with}

-- "scratch for 512 votes", 6 words each
abbrev pub scratch_words : ℕ
scratch_words = 3072

unfoldable pub zero_scratch : List ℤ
zero_scratch = replicate scratch_words (pos 0)

-- a kind of record: its byte, how many fixed fields it has, whether hashes follow them, and the call that its words make
pub record Kind : Type 0 where
  pub byte : ℕ
  pub fields : ℕ
  pub hashes : Bool
  pub call : List ℕ → Call wang

-- "The sheet stores under set 1 and asks for 0."
abbrev pub stored_set : ℕ
stored_set = 1

abbrev pub asked_set : ℕ
asked_set = 0

-- "01 insert: limit, rate bits, hashes (key, t_anchor)."
abbrev pub insert_call : List ℕ → Call wang
insert_call ws = insert (get_or ws 0 0) (get_or ws 1 0) stored_set (drop 2 ws)

-- "02 remove: id."
abbrev pub remove_call : List ℕ → Call wang
remove_call ws = remove (get_or ws 0 0)

-- "03 query: tolerance, min_votes, min_score bits, min_prominence bits, rate bits, hashes."
abbrev pub query_of : List ℕ → Query wang
query_of ws = query_with (config_of (get_or ws 0 0) (get_or ws 1 0) (get_or ws 2 0) (get_or ws 3 0)) (of_bits binary32 (get_or ws 4 0)) asked_set (drop 5 ws) scratch_words

abbrev pub query_call : List ℕ → Call wang
query_call ws = query (query_of ws)

-- document 02: "kind 04 (id, limit, rate bits, hashes)"
abbrev pub replace_call : List ℕ → Call wang
replace_call ws = replace (get_or ws 0 0) (get_or ws 1 0) (get_or ws 2 0) (drop 3 ws)

abbrev pub insert_kind : Kind
insert_kind = record { byte = 1; fields = 2; hashes = true; call = insert_call }

abbrev pub remove_kind : Kind
remove_kind = record { byte = 2; fields = 1; hashes = false; call = remove_call }

abbrev pub query_kind : Kind
query_kind = record { byte = 3; fields = 5; hashes = true; call = query_call }

abbrev pub replace_kind : Kind
replace_kind = record { byte = 4; fields = 3; hashes = true; call = replace_call }

abbrev pub kinds : List Kind
kinds = insert_kind ∷ remove_kind ∷ query_kind ∷ replace_kind ∷ []

-- the row of a kind byte
abbrev pub look_up : ℕ → List Kind → Option Kind
look_up b [] = none
look_up b (k ∷ ks) = cond (eqb k.byte b) (some k) (look_up b ks)

abbrev pub kind_of : ℕ → Option Kind
kind_of b = look_up b kinds

-- the length of a record with its fixed fields alone
abbrev pub least : Kind → ℕ
least k = 1 + 4 * k.fields

-- "A length is bad if it is outside 1 to 8,192, isn't one more than a multiple of 4, lacks a fixed field of its kind, or for 02 isn't 5"
abbrev pub fits_by : ℕ → ℕ → Bool → Bool
fits_by len fixed hashes = leb 1 len && (leb len 8192 && (eqb (len % 4) 1 && (leb fixed len && (hashes || eqb len fixed))))

abbrev pub fits_kind : ℕ → Kind → Bool
fits_kind len k = fits_by len (least k) k.hashes

-- an unknown kind has no length
abbrev pub fits : ℕ → Option Kind → Bool
fits len none = false
fits len (some k) = fits_kind len k

-- is this the length of a record of this kind byte?
unfoldable pub good_length : ℕ → ℕ → Bool
good_length len b = fits len (kind_of b)
