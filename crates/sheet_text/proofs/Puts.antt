-- Laws of texts that are put one behind the other. Assumes nothing.
use mathlib.Core.Path.{◌≡◌, refl, sym, ap, ◌∙◌, subst}
use mathlib.Core.List.{List, [], ◌++◌, append_assoc, append-nil}
use Prim.Native.Nat.{ℕ}
use native.Mathlib.Omega.{arith}
use lib.ListN.{take, length-append}
use Rattle.sheet_text.specs.Put.{Put}

pub nothing : (l : List ℕ) (at : ℕ) → Put l l at at []
nothing l at = record { ends = omega arith; put = sym (append-nil (take at l)); kept = refl }

-- two texts
pub join : {l m n : List ℕ} {a b c : ℕ} {t u : List ℕ} → Put l m a b t → Put m n b c u → Put l n a c (t ++ u)
join {l} {m} {n} {a} {b} {c} {t} {u} p q = record {
  ends = omega (arith, p.ends, q.ends, length-append t u);
  put = q.put ∙ ap (λ (x : List ℕ). x ++ u) p.put ∙ append_assoc (take a l) t u;
  kept = q.kept ∙ p.kept;
}

pub as-text : {l m : List ℕ} {a b : ℕ} {t u : List ℕ} → Put l m a b t → t ≡ u → Put l m a b u
as-text {l} {m} {a} {b} p e = subst (λ (x : List ℕ). Put l m a b x) e p
