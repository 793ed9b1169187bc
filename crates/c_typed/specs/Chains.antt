-- The call graph of a program, and chains of calls in it. Each function stands under its number, and the helpers follow
-- behind the functions in their order.
use Rattle.std.specs.Prelude.{◌≡◌, ℕ, ◌+◌, ◌≤◌, List, [], ◌∷◌, ◌++◌, length, map, replicate, get_or}
use Rattle.std.specs.List.{Contains}
use Rattle.c_typed.specs.Calls.{statements_calls}
use Rattle.c_typed.specs.Trees.{FunctionTree, Program}
use Rattle.c_typed.specs.declared.calls.FnId.{FnId}
use Rattle.c_typed.specs.declared.calls.FnId.TheVariants as callee
use Rattle.c_typed.specs.declared.calls.Helper.{Helper}
use Rattle.c_typed.specs.declared.calls.Helper.TheVariants.{Mul2, Mul4, Divu2, Divs2, Remu2, Rems2, Divu4, Divs4, Remu4, Rems4, Shl2, Shru2, Shrs2, Shl4, Shru4, Shrs4}

abbrev pub helper_number : Helper → ℕ
helper_number Mul2 = 0
helper_number Mul4 = 1
helper_number Divu2 = 2
helper_number Divs2 = 3
helper_number Remu2 = 4
helper_number Rems2 = 5
helper_number Divu4 = 6
helper_number Divs4 = 7
helper_number Remu4 = 8
helper_number Rems4 = 9
helper_number Shl2 = 10
helper_number Shru2 = 11
helper_number Shrs2 = 12
helper_number Shl4 = 13
helper_number Shru4 = 14
helper_number Shrs4 = 15

-- the number of a function or helper in a program of so many functions
abbrev pub number_of : ℕ → FnId → ℕ
number_of functions (callee.User number) = number
number_of functions (callee.Helper helper) = functions + helper_number helper

-- the numbers that a function calls
abbrev pub row_of : ℕ → FunctionTree → List ℕ
row_of functions f = map (number_of functions) (statements_calls f.body)

-- What each function calls, and what each helper calls: nothing.
abbrev pub graph_of : Program → List (List ℕ)
graph_of p = map (row_of (length p.functions)) p.functions ++ replicate 16 []

-- f calls g
abbrev pub Calls : List (List ℕ) → ℕ → ℕ → Type 0
Calls graph f g = Contains (get_or graph f []) g

-- A chain of calls from f to g: f calls the first of the list, each calls the next, and the last is g.
abbrev pub IsChain : List (List ℕ) → ℕ → List ℕ → ℕ → Type 0
IsChain graph f [] g = f ≡ g
IsChain graph f (h ∷ hs) g = Calls graph f h × IsChain graph h hs g

-- some chain leads from f to g
abbrev pub Reaches : List (List ℕ) → ℕ → ℕ → Type 0
Reaches graph f g = (hs : List ℕ) × IsChain graph f hs g

-- a chain of one call or more leads from f to itself
abbrev pub ReachesItself : List (List ℕ) → ℕ → Type 0
ReachesItself graph f = (h : ℕ) × (hs : List ℕ) × IsChain graph f (h ∷ hs) f

-- The level of g under a root: the length of the longest chain from the root to it.
abbrev pub IsLevel : List (List ℕ) → ℕ → ℕ → ℕ → Type 0
IsLevel graph root g level = ((hs : List ℕ) × IsChain graph root hs g × (length hs ≡ level)) × ((hs : List ℕ) → IsChain graph root hs g → length hs ≤ level)
