-- Laws of an offset's text. Assumes nothing.
use mathlib.Core.Path.{◌≡◌}
use mathlib.Core.List.{[], ◌∷◌, ◌++◌}
use Prim.Native.Nat.{ℕ, ◌^◌, ◌<◌}
use lib.Signed.{mag}
use Rattle.maps.proofs.Words.{word, read_is}
use Rattle.matching.specs.declared.TimeOffset.{TimeOffset}
use Rattle.sheet_text.specs.Bytes.{signed, field}
use Rattle.sheet_lines.specs.Lines.{place, offset_text}

pub offset-is : (t : TimeOffset) (p : ℕ) → mag t.frames < 2 ^ 63 → mag t.ms < 2 ^ 63 → p ≡ place (word t.frames)
    → field (signed (word t.frames)) ++ field (signed (word t.ms)) ++ field (p ∷ []) ≡ offset_text t
unfolding offset_text
offset-is t p h k e = rw (e, read_is t.frames h, read_is t.ms k)
