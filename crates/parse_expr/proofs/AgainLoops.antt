-- Loops that group to the left: a part, and then all that a step finds behind it.
use Rattle.std.proofs.Common.{◌≡◌, ℕ, zero, suc, ◌-◌, ◌<◌, ◌≤◌, List, [], ◌∷◌, length, Some, None, refl, ap, ◌∙◌, arith}
use Rattle.c_nodes.specs.Words.{Symbols}
use Rattle.c_nodes.specs.Trees.{Tree}
use Rattle.parse_expr.specs.Reader.{◌>>=◌, Reader, Step, collect, all_that}

abbrev pub chain_by : {A : Type 0} → (Tree → List A → Tree) → Reader Tree → Step A → Reader Tree
chain_by build next step toks = do
  a ← next toks
  l ← all_that step a.1
  Some (build a.0 l.0, l.1)

-- the loop has come to t, with enough turns left
pub record Chained {A : Type 0} (build : Tree → List A → Tree) (next : Reader Tree) (step : Step A) (toks : Symbols) (t : Tree) (rest : Symbols) : Type 0 where
  pub turns : ℕ
  pub enough : length rest ≤ turns
  pub goes : (l : List A) (end : Symbols) → collect step turns rest ≡ Some (l, end) → chain_by build next step toks ≡ Some (build t l, end)

pub collect_stops : {A : Type 0} (step : Step A) (n : ℕ) (rest : Symbols) → step rest ≡ Some None → collect step n rest ≡ Some ([], rest)
unfolding collect
collect_stops step zero rest h = refl
collect_stops step (suc n) rest h = rw h refl

pub collect_more : {A : Type 0} (step : Step A) (n : ℕ) (toks : Symbols) (x : A) (more : Symbols) (l : List A) (end : Symbols) → step toks ≡ Some (Some (x, more)) → collect step n more ≡ Some (l, end) → collect step (suc n) toks ≡ Some (x ∷ l, end)
unfolding collect
collect_more step n toks x more l end h e = rw (h, e) refl

pub first : {A : Type 0} (build : Tree → List A → Tree) (next : Reader Tree) (step : Step A) (toks : Symbols) (t : Tree) (rest : Symbols) → next toks ≡ Some (t, rest) → Chained build next step toks t rest
first build next step toks t rest h = record { turns = length rest; enough = omega arith; goes = λ l end e. rw (h, e) refl }

-- one part more
pub further : {A : Type 0} (build : Tree → List A → Tree) (next : Reader Tree) (step : Step A) (toks : Symbols) (a t : Tree) (x : A) (more rest : Symbols) → ((l : List A) → build a (x ∷ l) ≡ build t l) → Chained build next step toks a more → step more ≡ Some (Some (x, rest)) → length rest < length more → Chained build next step toks t rest
further build next step toks a t x more rest builds c h lt =
    let enough : length more ≤ c.turns = c.enough in
    let turns : c.turns ≡ suc (c.turns - 1) = omega arith in
    record {
      turns = c.turns - 1;
      enough = omega arith;
      goes = λ l end e. c.goes (x ∷ l) end (ap (λ (m : ℕ). collect step m more) turns ∙ collect_more step (c.turns - 1) more x rest l end h e) ∙ ap (λ (u : Tree). Some (u, end)) (builds l);
    }

pub ends : {A : Type 0} (build : Tree → List A → Tree) (next : Reader Tree) (step : Step A) (toks : Symbols) (t : Tree) (rest : Symbols) → build t [] ≡ t → Chained build next step toks t rest → step rest ≡ Some None → chain_by build next step toks ≡ Some (t, rest)
ends build next step toks t rest e c h = c.goes [] rest (collect_stops step c.turns rest h) ∙ ap (λ (u : Tree). Some (u, rest)) e
