-- Loops that look for an element of a list that passes a test.
use Rattle.std.proofs.Common.{◌≡◌, ℕ, ◌+◌, ◌<◌, ◌≤◌, Bool, true, false, if◌then◌else◌, List, Option, Some, None, length, get_or, map, drop, sym, ap, ◌∙◌}
use Rattle.std.proofs.lemmas.List.{at_drop_more, drop_all}
use Rattle.c_typed.specs.Roots.{first_from}
use Rattle.c_typed.specs.Trees.{FunctionTree}
use Rattle.c_typed.specs.Views.{function_of}
use Rattle.c_typed.specs.declared.program.Function.{Function}

-- the first function that passes a test
abbrev pub first_in : (FunctionTree → Bool) → List Function → ℕ → Option ℕ
first_in test fs number = first_from test (map function_of fs) number

first_of : (test : FunctionTree → Bool) (fs : List Function) (i : ℕ) (f : Function) → i < length fs → f ≡ get_or fs i f → first_in test (drop i fs) i ≡ (if test (function_of f) then Some i else first_in test (drop (i + 1) fs) (i + 1))
first_of test fs i f lt is = at_drop_more (λ gs. first_in test gs i) fs i f lt ∙ ap (λ g. if test (function_of g) then Some i else first_in test (drop (i + 1) fs) (i + 1)) (sym is)

pub first_found : (test : FunctionTree → Bool) (fs : List Function) (i : ℕ) (f : Function) (whole : Option ℕ) → i < length fs → f ≡ get_or fs i f → test (function_of f) ≡ true → first_in test (drop i fs) i ≡ whole → Some i ≡ whole
first_found test fs i f whole lt is passes so_far = sym (first_of test fs i f lt is ∙ ap (λ (b : Bool). if b then Some i else first_in test (drop (i + 1) fs) (i + 1)) passes) ∙ so_far

pub first_on : (test : FunctionTree → Bool) (fs : List Function) (i : ℕ) (f : Function) (whole : Option ℕ) → i < length fs → f ≡ get_or fs i f → test (function_of f) ≡ false → first_in test (drop i fs) i ≡ whole → first_in test (drop (i + 1) fs) (i + 1) ≡ whole
first_on test fs i f whole lt is fails so_far = sym (first_of test fs i f lt is ∙ ap (λ (b : Bool). if b then Some i else first_in test (drop (i + 1) fs) (i + 1)) fails) ∙ so_far

pub first_nowhere : (test : FunctionTree → Bool) (fs : List Function) (i : ℕ) (whole : Option ℕ) → length fs ≤ i → first_in test (drop i fs) i ≡ whole → None ≡ whole
first_nowhere test fs i whole past so_far = sym (ap (λ gs. first_in test gs i) (drop_all i fs past)) ∙ so_far
