-- The answer of a call of either index as words, with what the call leaves. Assumes nothing.
use Rattle.std.proofs.Common.{◌≡◌, ℕ, List, ℤ, ap, ◌∙◌}
use Rattle.model.specs.Words.{Words}
use Rattle.model.specs.Query.{Scheme, Query}
use Rattle.model.specs.Calls.{Answer, query}
use Rattle.model.specs.Run.{run}
use Rattle.query_rank.specs.Answers.{scratch_after}
use Rattle.capi.specs.Answers.{answer_words, in_words, in_words_with}

-- the words ws of an answer
pub answered : {ws : List ℕ} {a : Answer} {m : Words} {o : Answer × Words} → (a, m) ≡ o → ws ≡ answer_words a → (ws, m) ≡ in_words o
answered {ws} {a} {m} f e = ap (λ (l : List ℕ). (l, m)) e ∙ ap (λ (y : Answer × Words). in_words y) f

-- of a query q, which is q', with settings that were made of words; it leaves s' of the scratch s
pub query-answered : (S : Scheme) (m : Words) (q q' : Query S) → q ≡ q' → (s s' : List ℤ) (ws : List ℕ) (a : Answer)
    → ws ≡ answer_words a → (a, m) ≡ run S m (query q) → s' ≡ scratch_after a s → (ws, (m, s')) ≡ in_words_with s (run S m (query q'))
query-answered S m q q' e s s' ws a w r t =
    (λ i. (w i, (m, t i))) ∙ ap (λ (y : Answer × Words). in_words_with s y) (r ∙ ap (λ (x : Query S). run S m (query x)) e)
