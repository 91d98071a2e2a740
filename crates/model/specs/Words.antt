-- The store's three slices of words: how an index is laid out in them, and read back. w is the width of a posting.
-- Definitions only. Assumes nothing.
use Rattle.std.specs.Prelude.{Bool, cond, ◌&&◌, List, [], ◌∷◌, map, ℕ, ◌+◌, ◌*◌, ◌-◌, ◌/◌, length, get_or, take, drop, eqb, leb}
use Rattle.std.proofs.Math.Option.{Option, none, some}
use Rattle.lists.specs.Lists.{flat}
use Rattle.lists.specs.Entries.{entries, padded}
use Rattle.model.specs.Rows.{Row, no_rate}
use Rattle.model.specs.Index.{Posting, Index}
use Rattle.model.specs.Calls.{Sizes}

-- "A store is three u32 slices."
pub record Words : Type 0 where
  pub references : List ℕ
  pub postings : List ℕ
  pub stopped : List ℕ

-- "4 words (rows n, vacant v, postings p, stopped k)", then R rows, of which "A reference row gains a fifth word"
abbrev pub head_width : ℕ
head_width = 4

abbrev pub row_width : ℕ
row_width = 5

-- the words of a row: "rate bits, r_max, live (1 or 0), vacant entry", "its set"
abbrev pub at_rate : ℕ
at_rate = 0

abbrev pub at_rmax : ℕ
at_rmax = 1

abbrev pub at_live : ℕ
at_live = 2

abbrev pub at_vacant : ℕ
at_vacant = 3

abbrev pub at_set : ℕ
at_set = 4

-- where word f of row j stands
abbrev pub row_place : ℕ → ℕ → ℕ
row_place j f = row_width * j + (head_width + f)

-- ── sizes ──

-- "the reference slice is 4 + 5 × R words"; "P .. (3 × P or 5 × P words); K .. words": the room in slices of a, b and c words
abbrev pub room_in : ℕ → ℕ → ℕ → ℕ → Sizes
room_in w a b c = record { R = (a - head_width) / row_width; P = b / w; K = c }

unfoldable pub sizes_of : ℕ → Words → Sizes
sizes_of w m = room_in w (length m.references) (length m.postings) (length m.stopped)

-- from a to b
abbrev pub between : ℕ → ℕ → ℕ → Bool
between a b x = leb a x && leb x b

-- "R 1 to 4,096", "P 1 to 1,048,576", "K 1 to 65,536"
unfoldable pub sizes_listed : Sizes → Bool
sizes_listed z = between 1 4096 z.R && (between 1 1048576 z.P && between 1 65536 z.K)

-- the slices' lengths are of those listed
abbrev pub lengths_listed : ℕ → ℕ → ℕ → ℕ → Bool
lengths_listed w a b c =
    let z = room_in w a b c in
    sizes_listed z && (eqb a (head_width + row_width * z.R) && eqb b (w * z.P))

unfoldable pub slices_listed : ℕ → Words → Bool
slices_listed w m = lengths_listed w (length m.references) (length m.postings) (length m.stopped)

-- ── writing ──

-- "rate bits, r_max, live (1 or 0), vacant entry", "its set"; "a dead row has rate 7FC00000 (hexadecimal) and r_max 0"; "a sound store's
-- dead rows have set 0"
abbrev pub row_words : Option Row → ℕ → List ℕ
row_words none e = no_rate ∷ 0 ∷ 0 ∷ e ∷ 0 ∷ []
row_words (some r) e = r.rate ∷ r.rmax ∷ 1 ∷ e ∷ r.set ∷ []

-- vacant entry i stands in row i; a row behind the vacant entries has none
unfoldable pub row_entries : List (Option Row) → List ℕ → List (List ℕ)
row_entries [] es = []
row_entries (o ∷ os) [] = row_words o 0 ∷ row_entries os []
row_entries (o ∷ os) (e ∷ es) = row_words o e ∷ row_entries os es

-- "(key, id, t_anchor)", "(key, id, t_anchor, t_b, t_c)"
abbrev pub posting_words : Posting → List ℕ
posting_words p = p.hash.key ∷ p.id ∷ p.hash.times

-- n, v, p and k, then the rows; "every unused word is zero". So with R = 2, P = 3 and K = 1 a Wang index of one recording, at rate
-- 427A0000 with r_max 6, in set 2, with two postings, is laid out as
--     references  1 0 2 0   427A0000 6 1 0 2   0 0 0 0 0
--     postings    7 0 4   9 0 6   0 0 0
--     stopped     0
-- and after the removal of that recording as
--     references  1 1 0 0   7FC00000 0 0 0 0   0 0 0 0 0
--     postings    0 0 0   0 0 0   0 0 0
unfoldable pub write : ℕ → Sizes → Index → Words
write w z x = record {
  references = padded (head_width + row_width * z.R)
      (length x.rows ∷ length x.vacant ∷ length x.postings ∷ length x.stopped ∷ flat (row_entries x.rows x.vacant));
  postings = padded (w * z.P) (flat (map posting_words x.postings));
  stopped = padded z.K x.stopped;
}

-- ── reading ──

abbrev pub read_row : List ℕ → Option Row
read_row e = cond (eqb (get_or e at_live 0) 1) (some (record { rate = get_or e at_rate 0; rmax = get_or e at_rmax 0; set = get_or e at_set 0 })) none

abbrev pub read_vacant : List ℕ → ℕ
read_vacant e = get_or e at_vacant 0

abbrev pub read_posting : List ℕ → Posting
read_posting e = record { id = get_or e 1 0; hash = record { key = get_or e 0 0; times = drop 2 e } }

unfoldable pub read_index : ℕ → Words → Index
read_index w m =
    let rs = m.references in
    record {
      rows = map read_row (entries row_width (get_or rs 0 0) (drop head_width rs));
      vacant = map read_vacant (entries row_width (get_or rs 1 0) (drop head_width rs));
      postings = map read_posting (entries w (get_or rs 2 0) m.postings);
      stopped = take (get_or rs 3 0) m.stopped;
    }
