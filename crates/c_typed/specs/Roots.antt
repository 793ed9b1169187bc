-- The rules on the roots, main and the interrupt handler (HI-TECH PICC manual, interrupt functions; the rules are the
-- project's own), and the first of them that a program breaks.
use Rattle.std.specs.Prelude.{ℕ, ◌+◌, nat_eq, nat_lt, Bool, true, false, not, ◌&&◌, ◌||◌, if◌then◌else◌, List, [], ◌∷◌, Option, Some, None}
use Rattle.c_typed.specs.Chains.{graph_of}
use Rattle.c_typed.specs.Sameness.{is_void}
use Rattle.c_typed.specs.Trees.{FunctionTree, Program}
use Rattle.c_typed.specs.declared.program.RootKind.{RootKind}
use Rattle.c_typed.specs.declared.program.RootKind.TheVariants as kinds

abbrev pub is_empty : {A : Type 0} → List A → Bool
is_empty [] = true
is_empty (x ∷ xs) = false

-- neither a result nor parameters
abbrev pub is_plain : FunctionTree → Bool
is_plain f = is_void f.result && is_empty f.params

abbrev pub same_bytes : List ℕ → List ℕ → Bool
same_bytes [] [] = true
same_bytes [] (y ∷ ys) = false
same_bytes (x ∷ xs) [] = false
same_bytes (x ∷ xs) (y ∷ ys) = nat_eq x y && same_bytes xs ys

-- main, by its name
abbrev pub is_main : FunctionTree → Bool
is_main f = same_bytes f.name (109 ∷ 97 ∷ 105 ∷ 110 ∷ [])

-- how many functions of a list pass a test
abbrev pub how_many : (FunctionTree → Bool) → List FunctionTree → ℕ
how_many test [] = 0
how_many test (f ∷ fs) = (if test f then 1 else 0) + how_many test fs

-- some function passes it
abbrev pub has : (FunctionTree → Bool) → List FunctionTree → Bool
has test [] = false
has test (f ∷ fs) = test f || has test fs

-- the number of the first function from this number on that passes a test
abbrev pub first_from : (FunctionTree → Bool) → List FunctionTree → ℕ → Option ℕ
first_from test [] number = None
first_from test (f ∷ fs) number = if test f then Some number else first_from test fs (number + 1)

abbrev pub is_handler : FunctionTree → Bool
is_handler f = f.interrupt

abbrev pub is_root : FunctionTree → Bool
is_root f = is_main f || f.interrupt

-- main with a result or parameters, or marked as a handler
abbrev pub is_bad_main : FunctionTree → Bool
is_bad_main f = is_main f && (f.interrupt || not (is_plain f))

-- a handler with a result or parameters
abbrev pub is_bad_handler : FunctionTree → Bool
is_bad_handler f = f.interrupt && not (is_plain f)

abbrev pub holds : List ℕ → ℕ → Bool
holds [] g = false
holds (f ∷ fs) g = nat_eq f g || holds fs g

-- some row of a call graph names the number
abbrev pub is_called : List (List ℕ) → ℕ → Bool
is_called [] g = false
is_called (row ∷ rows) g = holds row g || is_called rows g

-- a root among the functions from this number on is called
abbrev pub is_root_called : List (List ℕ) → List FunctionTree → ℕ → Bool
is_root_called graph [] number = false
is_root_called graph (f ∷ fs) number = (is_root f && is_called graph number) || is_root_called graph fs (number + 1)

-- The first rule that a program breaks.
abbrev pub broken_root : Program → Option RootKind
broken_root p =
    if not (has is_main p.functions) then Some kinds.None else
    if has is_bad_main p.functions then Some kinds.Main else
    if has is_bad_handler p.functions then Some kinds.Shape else
    if nat_lt 1 (how_many is_handler p.functions) then Some kinds.Second else
    if is_root_called (graph_of p) p.functions 0 then Some kinds.Called else None
