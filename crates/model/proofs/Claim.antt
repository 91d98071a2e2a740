-- The claim, of either index: of the calls on words. Assumes nothing.
use mathlib.Core.Path.{◌≡◌, refl, sym, ap, ◌∙◌, subst, transport}
use mathlib.Core.List.{List, [], ◌∷◌}
use Prim.Native.Nat.{◌≤◌}
use Rattle.model.specs.Query.{Scheme, Catalog}
use Rattle.model.specs.Calls.{Sizes, Answer, Call, query, step}
use Rattle.model.specs.Words.{Words, sizes_of}
use Rattle.model.specs.Run.{store_of, run}
use Rattle.model.specs.History.{leaves, answers, replay, history, answer_from}
use Rattle.model.specs.Claim.{Accepted, ClaimedAt, Demand3, FromHistory, at_first, Claim}
use Rattle.model.proofs.Stores.{store-sound}
use Rattle.model.proofs.Demand3.{demand3, from-history}
use Rattle.model.proofs.Run.{run-answers, run-sizes, run-leaves}

-- ---- one way of running calls does what another does on what is read from its states

module _ (S : Scheme) {T U : Type 0} (run : T → Call S → Answer × T) (model : U → Call S → Answer × U) (read : T → U) (Good : T → Type 0) where
  pub record Simulates : Type 0 where
    pub same-answers : (t : T) (x : Call S) → Good t → (run t x).0 ≡ (model (read t) x).0
    pub same-leaves : (t : T) (x : Call S) → Good t → read (run t x).1 ≡ (model (read t) x).1
    pub stays-good : (t : T) (x : Call S) → Good t → Good (run t x).1

  module _ (M : Simulates) where
    all-good : (t : T) → Good t → (xs : List (Call S)) → Good (leaves S run t xs)
    unfolding leaves
    all-good t g [] = g
    all-good t g (x ∷ xs) = all-good (run t x).1 (M.stays-good t x g) xs

    leaves-same : (t : T) → Good t → (xs : List (Call S)) → read (leaves S run t xs) ≡ leaves S model (read t) xs
    unfolding leaves
    leaves-same t g [] = refl
    leaves-same t g (x ∷ xs) = leaves-same (run t x).1 (M.stays-good t x g) xs ∙ ap (λ (s : U). leaves S model s xs) (M.same-leaves t x g)

    answers-same : (t : T) → Good t → (xs : List (Call S)) → answers S run t xs ≡ answers S model (read t) xs
    unfolding answers
    answers-same t g [] = refl
    answers-same t g (x ∷ xs) = λ i. M.same-answers t x g i ∷ (answers-same (run t x).1 (M.stays-good t x g) xs ∙ ap (λ (s : U). answers S model s xs) (M.same-leaves t x g)) i

    history-same : (c : Catalog) (t : T) → Good t → (xs : List (Call S)) → history S run c t xs ≡ history S model c (read t) xs
    history-same c t g xs = ap (replay S c xs) (answers-same t g xs)

    answer-same : (t : T) → Good t → (xs : List (Call S)) (x : Call S) → (run (leaves S run t xs) x).0 ≡ (model (leaves S model (read t) xs) x).0
    answer-same t g xs x = M.same-answers (leaves S run t xs) x (all-good t g xs) ∙ ap (λ (s : U). (model s x).0) (leaves-same t g xs)

    pub demand3-of : (c : Catalog) (t : T) → Good t → (calls : List (Call S)) → Demand3 S model c (read t) calls → Demand3 S run c t calls
    demand3-of c t g calls D before x rest e = transport
        (λ i. ClaimedAt S (λ xs. record { reply = λ q. sym (answer-same t g xs (query q)) i; known = sym (history-same c t g xs) i }) before (sym (answer-same t g before x) i) x)
        (D before x rest e)

    pub from-history-of : (c : Catalog) (t : T) → Good t → FromHistory S model c (read t) → FromHistory S run c t
    from-history-of c t g H before x a =
        answer-same t g before x ∙ H before x (subst Accepted (answer-same t g before x) a) ∙ ap (λ (d : Catalog). answer_from S d x) (sym (history-same c t g before))

-- ---- the calls on words

module _ (S : Scheme) (w2 : 2 ≤ S.width) (m : Words) where
  simulates : Simulates S (run S) (step S (sizes_of S.width m)) (store_of S.width) (λ t. sizes_of S.width t ≡ sizes_of S.width m)
  simulates = record {
    same-answers = λ t x e. run-answers S w2 t x ∙ ap (λ (z : Sizes). (step S z (store_of S.width t) x).0) e;
    same-leaves = λ t x e. run-leaves S w2 t x ∙ ap (λ (z : Sizes). (step S z (store_of S.width t) x).1) e;
    stays-good = λ t x e. run-sizes S w2 t x ∙ e;
  }

  pub words-demand3 : (calls : List (Call S)) → Demand3 S (run S) (at_first S m) m calls
  words-demand3 calls =
      demand3-of S (run S) (step S (sizes_of S.width m)) (store_of S.width) (λ t. sizes_of S.width t ≡ sizes_of S.width m) simulates (at_first S m) m refl calls
      (demand3 S (sizes_of S.width m) w2 (store_of S.width m) (store-sound S.width m w2) calls)

  pub words-from-history : FromHistory S (run S) (at_first S m) m
  words-from-history =
      from-history-of S (run S) (step S (sizes_of S.width m)) (store_of S.width) (λ t. sizes_of S.width t ≡ sizes_of S.width m) simulates (at_first S m) m refl
      (from-history S (sizes_of S.width m) w2 (store_of S.width m) (store-sound S.width m w2))

-- a posting has a key and an id at least
pub claim : (S : Scheme) → 2 ≤ S.width → Claim S
claim S w2 = record { changes = words-demand3 S w2; told = words-from-history S w2 }
