-- Laws of the step on a record. Assumes nothing.
use mathlib.Core.Path.{◌≡◌, refl, sym, ap, ◌∙◌, subst}
use mathlib.Core.List.{List}
use Prim.Native.Nat.{ℕ, ◌+◌, ◌≤◌}
use lib.IntN.{ℤ, pos}
use lib.Ieee.{Float}
use lib.ListN.{length, get_or, replicate, length-replicate}
use Rattle.model.specs.Calls.{Answer, built, stored, removed, count, best, nothing, refused}
use Rattle.model.specs.Words.{Words}
use Rattle.query_rank.specs.Answers.{scratch_after}
use Rattle.wang_judge.specs.declared.WangMatchConfig.{WangMatchConfig}
use Rattle.wang_judge.specs.Scheme.{wang, query_with}
use Rattle.sheet_lines.specs.Lines.{answer_line}
use Rattle.sheet_text.specs.Bytes.{fields_of}
use Rattle.sheet_text.specs.Put.{line_most, Put}
use Rattle.sheet_records.specs.Step.{line_and_store, step_by, step_of, Stepped}
use Rattle.sheet_kinds.specs.Kinds.{Kind, scratch_words, zero_scratch, kind_of}
use Rattle.sheet_text.proofs.Puts as puts
use Rattle.model.specs.Run.{run}
use native.Mathlib.Omega.{arith}
use mathlib.Core.Option.{none, some}

-- ---- what a call leaves

-- a step that is another
pub stepped-as : {l l' : List ℕ} {at end : ℕ} {m : Words} {o o' : List ℕ × Words} → Stepped l l' at end m o → o ≡ o' → Stepped l l' at end m o'
stepped-as {l} {l'} {at} {end} {m} h e = subst (λ (x : List ℕ × Words). Stepped l l' at end m x) e h

-- the line of an answer, and the store with it
pub stepped_by : {l l' : List ℕ} {at end : ℕ} {m : Words} {o : Answer × Words} (ws : List ℕ) (a : Answer) → Put l l' at end (answer_line (get_or ws 0 0) a) → end ≤ at + line_most
    → (a, m) ≡ o → Stepped l l' at end m (line_and_store ws o)
stepped_by ws a p h e = stepped-as (record { line = p; short = h; store = refl }) (ap (λ (y : Answer × Words). line_and_store ws y) e)

-- a query by its parts
pub same_asked : {c c' : WangMatchConfig} {r r' : Float} {set : ℕ} {hs hs' : List ℕ} {n n' : ℕ} → c ≡ c' → r ≡ r' → hs ≡ hs' → n ≡ n' → query_with c r set hs n ≡ query_with c' r' set hs' n'
same_asked {set = set} e f g h i = query_with (e i) (f i) set (g i) (h i)

pub zeros-length : (s : List ℤ) → s ≡ zero_scratch → length s ≡ scratch_words
unfolding zero_scratch
zeros-length s e = ap (λ (l : List ℤ). length l) e ∙ length-replicate scratch_words (pos 0)

same-zeros : (s : List ℤ) → s ≡ zero_scratch → replicate (length s) (pos 0) ≡ zero_scratch
unfolding zero_scratch
same-zeros s e = ap (λ (k : ℕ). replicate k (pos 0)) (zeros-length s e)

-- zeroed scratch is zeros after a query
pub still-zeros : (a : Answer) (s : List ℤ) → s ≡ zero_scratch → scratch_after a s ≡ zero_scratch
still-zeros built s e = same-zeros s e
still-zeros (stored id) s e = same-zeros s e
still-zeros (removed b) s e = same-zeros s e
still-zeros (count k) s e = same-zeros s e
still-zeros (best id r) s e = same-zeros s e
still-zeros nothing s e = same-zeros s e
still-zeros (refused k) s e = e

-- ---- the step

-- by the kind byte
pub step-at : (m : Words) (ws : List ℕ) (b c : ℕ) → b ≡ c → step_by m ws (kind_of c) ≡ step_by m ws (kind_of b)
step-at m ws b c e = ap (λ (x : ℕ). step_by m ws (kind_of x)) (sym e)

-- by the record's bytes
pub step-of : (m : Words) (bytes ws : List ℕ) → ws ≡ fields_of bytes → step_by m ws (kind_of (get_or bytes 0 0)) ≡ step_of m bytes
unfolding step_of
step-of m bytes ws e = ap (λ (l : List ℕ). step_by m l (kind_of (get_or bytes 0 0))) e

-- of a record of a kind
pub step-by-kind : (m : Words) (bytes ws : List ℕ) (k : Kind) → ws ≡ fields_of bytes → kind_of (get_or bytes 0 0) ≡ some k
    → line_and_store ws (run wang m (k.call ws)) ≡ step_of m bytes
step-by-kind m bytes ws k e f = sym (ap (step_by m ws) f) ∙ step-of m bytes ws e

-- of a byte that no kind has
pub no_step : (l bytes : List ℕ) (at : ℕ) (m : Words) → kind_of (get_or bytes 0 0) ≡ none → Stepped l l at at m (step_of m bytes)
unfolding step_of
no_step l bytes at m e =
    stepped-as (record { line = puts.nothing l at; short = omega arith; store = refl }) (sym (ap (step_by m (fields_of bytes)) e))
