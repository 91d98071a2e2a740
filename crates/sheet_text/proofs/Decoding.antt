-- Laws of the words that are read from bytes. Assumes nothing.
use mathlib.Core.Path.{◌≡◌, sym, ap, ◌∙◌}
use mathlib.Core.List.{List, [], ◌∷◌, ◌++◌, map, map-append}
use Prim.Native.Nat.{ℕ, ◌+◌, ◌*◌, ◌-◌, ◌/◌, ◌<◌}
use native.Mathlib.Numerals.{add-one}
use native.Mathlib.Omega.{arith}
use lib.ListN.{length, take, drop, set, length-drop}
use lib.Seq.{drop-drop, take-suc-set}
use Rattle.lists.specs.Entries.{entries, entry_at}
use Rattle.lists.proofs.Entries.{entries_none, entries-suc}
use Rattle.sheet_text.specs.Bytes.{big_endian, words_of, fields_of}

pub fields-none : (bytes words : List ℕ) → take 0 words ≡ map big_endian (entries 4 0 (drop 1 bytes))
fields-none bytes words = rw (entries_none 4 (drop 1 bytes))

-- one word more
pub fields-more : (bytes words : List ℕ) (i w : ℕ) → i < length words → w ≡ big_endian (take 4 (drop (4 * i + 1) bytes))
    → take i words ≡ map big_endian (entries 4 i (drop 1 bytes)) → take (i + 1) (set words i w) ≡ map big_endian (entries 4 (i + 1) (drop 1 bytes))
fields-more bytes words i w h e inv =
    let at : 1 + 4 * i ≡ 4 * i + 1 = omega arith in
    let d : drop (4 * i) (drop 1 bytes) ≡ drop (4 * i + 1) bytes = drop-drop (4 * i) 1 bytes ∙ ap (λ (k : ℕ). drop k bytes) at in
    let last : w ≡ big_endian (entry_at 4 i (drop 1 bytes)) = e ∙ ap (λ (l : List ℕ). big_endian (take 4 l)) (sym d) in
    rw (add-one i)
    (take-suc-set words i w h ∙ ap (λ (l : List ℕ). l ++ w ∷ []) inv ∙ ap (λ (x : ℕ). map big_endian (entries 4 i (drop 1 bytes)) ++ x ∷ []) last
    ∙ sym (ap (λ (l : List (List ℕ)). map big_endian l) (entries-suc 4 i (drop 1 bytes)) ∙ map-append big_endian (entries 4 i (drop 1 bytes)) (entry_at 4 i (drop 1 bytes) ∷ [])))

pub fields-all : (bytes words : List ℕ) (i : ℕ) → i ≡ (length bytes - 1) / 4 → take i words ≡ map big_endian (entries 4 i (drop 1 bytes))
    → take ((length bytes - 1) / 4) words ≡ fields_of bytes
unfolding words_of
fields-all bytes words i e inv =
    ap (λ (k : ℕ). take k words) (sym e) ∙ inv ∙ ap (λ (k : ℕ). map big_endian (entries 4 k (drop 1 bytes))) (e ∙ sym (ap (λ (k : ℕ). k / 4) (length-drop 1 bytes)))
