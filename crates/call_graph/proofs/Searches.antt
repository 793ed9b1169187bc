-- Loops that look for an element of a list that passes a test.
use Rattle.std.proofs.Common.{◌≡◌, ℕ, ◌+◌, ◌<◌, ◌≤◌, Bool, true, false, ◌||◌, if◌then◌else◌, List, [], ◌∷◌, Option, Some, None, length, get_or, map, drop, sym, ap, ◌∙◌, arith, ◌&&◌}
use Rattle.call_graph.specs.Rows.{rows_of}
use Rattle.std.specs.Global.{Global}
use Rattle.std.specs.declared.vec.Vec.{Vec}
use Rattle.std.proofs.lemmas.List.{at_drop_more, drop_all}
use Rattle.c_typed.specs.declared.program.Function.{Function}
use Rattle.c_typed.specs.Roots.{first_from, has, how_many, holds, is_called, is_root, is_root_called}
use Rattle.c_typed.specs.Trees.{FunctionTree}
use Rattle.c_typed.specs.Views.{function_of}

abbrev pub has_in : (FunctionTree → Bool) → List Function → Bool
has_in test fs = has test (map function_of fs)

next_of : (test : FunctionTree → Bool) (fs : List Function) (i : ℕ) (f : Function) → i < length fs → f ≡ get_or fs i f → has_in test (drop i fs) ≡ (test (function_of f) || has_in test (drop (i + 1) fs))
next_of test fs i f lt is = at_drop_more (has_in test) fs i f lt ∙ ap (λ g. test (function_of g) || has_in test (drop (i + 1) fs)) (sym is)

pub goes_on : (test : FunctionTree → Bool) (fs : List Function) (i : ℕ) (f : Function) (whole : Bool) → i < length fs → f ≡ get_or fs i f → test (function_of f) ≡ false → has_in test (drop i fs) ≡ whole → has_in test (drop (i + 1) fs) ≡ whole
goes_on test fs i f whole lt is fails so_far = sym (next_of test fs i f lt is ∙ ap (λ b. b || has_in test (drop (i + 1) fs)) fails) ∙ so_far

pub found : (test : FunctionTree → Bool) (fs : List Function) (i : ℕ) (f : Function) (whole : Bool) → i < length fs → f ≡ get_or fs i f → test (function_of f) ≡ true → has_in test (drop i fs) ≡ whole → true ≡ whole
found test fs i f whole lt is passes so_far = sym (next_of test fs i f lt is ∙ ap (λ b. b || has_in test (drop (i + 1) fs)) passes) ∙ so_far

pub nowhere : (test : FunctionTree → Bool) (fs : List Function) (i : ℕ) (whole : Bool) → length fs ≤ i → has_in test (drop i fs) ≡ whole → false ≡ whole
nowhere test fs i whole past so_far = sym (ap (has_in test) (drop_all i fs past)) ∙ so_far

abbrev pub count_in : (FunctionTree → Bool) → List Function → ℕ
count_in test fs = how_many test (map function_of fs)

pub count_more : (test : FunctionTree → Bool) (fs : List Function) (i : ℕ) (f : Function) → i < length fs → f ≡ get_or fs i f → count_in test (drop i fs) ≡ (if test (function_of f) then 1 else 0) + count_in test (drop (i + 1) fs)
count_more test fs i f lt is = at_drop_more (count_in test) fs i f lt ∙ ap (λ g. (if test (function_of g) then 1 else 0) + count_in test (drop (i + 1) fs)) (sym is)

pub none_left : (test : FunctionTree → Bool) (fs : List Function) (i : ℕ) → length fs ≤ i → count_in test (drop i fs) ≡ 0
none_left test fs i past = ap (count_in test) (drop_all i fs past)

pub counted_one : (count now i left rest whole : ℕ) (b : Bool) → b ≡ true → left ≡ (if b then 1 else 0) + rest → now ≡ count + 1 → (count ≤ i) × (count + left ≡ whole) → (now ≤ i + 1) × (now + rest ≡ whole)
counted_one count now i left rest whole b holds is put so_far =
    let one : left ≡ 1 + rest = is ∙ ap (λ v. (if v then 1 else 0) + rest) holds in (omega (arith, put, so_far.0), omega (arith, one, put, so_far.1))

pub counted_none : (count now i left rest whole : ℕ) (b : Bool) → b ≡ false → left ≡ (if b then 1 else 0) + rest → now ≡ count → (count ≤ i) × (count + left ≡ whole) → (now ≤ i + 1) × (now + rest ≡ whole)
counted_none count now i left rest whole b fails is put so_far =
    let one : left ≡ 0 + rest = is ∙ ap (λ v. (if v then 1 else 0) + rest) fails in (omega (arith, put, so_far.0), omega (arith, one, put, so_far.1))

-- rows of a graph that name a number
pub row_of : (number : ℕ) (rows : List (Vec ℕ Global)) (i : ℕ) (row : Vec ℕ Global) → i < length rows → row ≡ get_or rows i row → is_called (rows_of (drop i rows)) number ≡ (holds row.items number || is_called (rows_of (drop (i + 1) rows)) number)
row_of number rows i row lt is = at_drop_more (λ rs. is_called (rows_of rs) number) rows i row lt ∙ ap (λ r. holds r.items number || is_called (rows_of (drop (i + 1) rows)) number) (sym is)

-- roots among the functions from a number on that are called
abbrev pub roots_in : List (List ℕ) → List Function → ℕ → Bool
roots_in graph fs number = is_root_called graph (map function_of fs) number

pub root_of : (graph : List (List ℕ)) (fs : List Function) (i : ℕ) (f : Function) → i < length fs → f ≡ get_or fs i f → roots_in graph (drop i fs) i ≡ ((is_root (function_of f) && is_called graph i) || roots_in graph (drop (i + 1) fs) (i + 1))
root_of graph fs i f lt is = at_drop_more (λ gs. roots_in graph gs i) fs i f lt ∙ ap (λ g. (is_root (function_of g) && is_called graph i) || roots_in graph (drop (i + 1) fs) (i + 1)) (sym is)

pub either : (b r left whole : Bool) → left ≡ (b || r) → b ≡ true → left ≡ whole → true ≡ whole
either b r left whole is holds so_far = sym (is ∙ ap (λ v. v || r) holds) ∙ so_far

pub other : (b r left whole : Bool) → left ≡ (b || r) → b ≡ false → left ≡ whole → r ≡ whole
other b r left whole is fails so_far = sym (is ∙ ap (λ v. v || r) fails) ∙ so_far

-- the first function that passes a test
abbrev pub first_in : (FunctionTree → Bool) → List Function → ℕ → Option ℕ
first_in test fs number = first_from test (map function_of fs) number

first_of : (test : FunctionTree → Bool) (fs : List Function) (i : ℕ) (f : Function) → i < length fs → f ≡ get_or fs i f → first_in test (drop i fs) i ≡ (if test (function_of f) then Some i else first_in test (drop (i + 1) fs) (i + 1))
first_of test fs i f lt is = at_drop_more (λ gs. first_in test gs i) fs i f lt ∙ ap (λ g. if test (function_of g) then Some i else first_in test (drop (i + 1) fs) (i + 1)) (sym is)

pub first_found : (test : FunctionTree → Bool) (fs : List Function) (i : ℕ) (f : Function) (whole : Option ℕ) → i < length fs → f ≡ get_or fs i f → test (function_of f) ≡ true → first_in test (drop i fs) i ≡ whole → Some i ≡ whole
first_found test fs i f whole lt is passes so_far = sym (first_of test fs i f lt is ∙ ap (λ (b : Bool). if b then Some i else first_in test (drop (i + 1) fs) (i + 1)) passes) ∙ so_far

pub first_on : (test : FunctionTree → Bool) (fs : List Function) (i : ℕ) (f : Function) (whole : Option ℕ) → i < length fs → f ≡ get_or fs i f → test (function_of f) ≡ false → first_in test (drop i fs) i ≡ whole → first_in test (drop (i + 1) fs) (i + 1) ≡ whole
first_on test fs i f whole lt is fails so_far = sym (first_of test fs i f lt is ∙ ap (λ (b : Bool). if b then Some i else first_in test (drop (i + 1) fs) (i + 1)) fails) ∙ so_far

pub first_nowhere : (test : FunctionTree → Bool) (fs : List Function) (i : ℕ) (whole : Option ℕ) → length fs ≤ i → first_in test (drop i fs) i ≡ whole → None ≡ whole
first_nowhere test fs i whole past so_far = sym (ap (λ gs. first_in test gs i) (drop_all i fs past)) ∙ so_far

first_cases : (f : FunctionTree) (fs : List FunctionTree) (i m : ℕ) (rest : Option ℕ) (b : Bool) → (rest ≡ Some m → m < i + 1 + length fs) → (if b then Some i else rest) ≡ Some m → m < i + length (f ∷ fs)
first_cases f fs i m rest true later e = let same : i ≡ m = cc in omega arith
first_cases f fs i m rest false later e = let lt = later e in omega (arith, lt)

-- the first that passes is one of them
pub first_within : (test : FunctionTree → Bool) (fs : List FunctionTree) (i m : ℕ) → first_from test fs i ≡ Some m → m < i + length fs
first_within test [] i m is = absurd cc
first_within test (f ∷ fs) i m is = first_cases f fs i m (first_from test fs (i + 1)) (test f) (λ e. first_within test fs (i + 1) m e) is
