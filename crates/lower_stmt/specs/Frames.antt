-- Where the variables of a function copy stand in its frame, and which copies its calls call.
use Rattle.std.specs.Prelude.{ℕ, ◌+◌, List, [], ◌∷◌, Option, Some, None, map, length, replicate, slice_set}
use Rattle.c_typed.specs.Trees.{VariableTree, FunctionTree, Program}
use Rattle.c_typed.specs.Types.{type_bytes}
use Rattle.c_typed.specs.Words.{variable_bytes}
use Rattle.c_typed.specs.declared.calls.FnId.{FnId}
use Rattle.c_typed.specs.declared.calls.FnId.TheVariants.{User, Helper}
use Rattle.call_graph.specs.declared.types.FnCopy.{FnCopy}
use Rattle.core_puts.specs.Bytes.{beyond}
use Rattle.lower_expr.specs.Layout.{Layout}
use Rattle.lower_stmt.specs.Ground.{Ground}
use Rattle.pic_world.specs.declared.Root.{Root}
use Rattle.pic_world.specs.declared.Root.TheVariants.{Main, Isr}

-- the offsets of variables that stand one behind the other, and the offset behind them
abbrev pub offsets_from : List ℕ → ℕ → List VariableTree → List ℕ
offsets_from sizes at [] = []
offsets_from sizes at (v ∷ vs) = at ∷ offsets_from sizes (beyond at (type_bytes sizes v.ty.ty)) vs

abbrev pub end_from : List ℕ → ℕ → List VariableTree → ℕ
end_from sizes at [] = at
end_from sizes at (v ∷ vs) = end_from sizes (beyond at (type_bytes sizes v.ty.ty)) vs

-- The locals stand behind the parameters, and the temporary bytes behind both.
abbrev pub base_of : List ℕ → FunctionTree → ℕ
base_of sizes f = end_from sizes (end_from sizes 0 f.params) f.locals

abbrev pub user_number : FnId → Option ℕ
user_number (User number) = Some number
user_number (Helper helper) = None

-- the function that a copy under this root is one of
abbrev pub under_root : Root → Root → Option ℕ → Option ℕ
under_root Main Main number = number
under_root Main Isr number = None
under_root Isr Main number = None
under_root Isr Isr number = number

abbrev pub function_under : Root → FnCopy → Option ℕ
function_under root copy = under_root copy.root root (user_number copy.function)

abbrev pub marked_at : Option ℕ → ℕ → List (Option ℕ) → List (Option ℕ)
marked_at None number numbers = numbers
marked_at (Some f) number numbers = slice_set numbers f (Some number)

-- Of each function the number of its copy under the root: `numbers`, and what these copies from that number on give.
abbrev pub marked : Root → ℕ → List FnCopy → List (Option ℕ) → List (Option ℕ)
marked root number [] numbers = numbers
marked root number (copy ∷ copies) numbers = marked root (number + 1) copies (marked_at (function_under root copy) number numbers)

abbrev pub layout_for : Program → List FnCopy → Root → FunctionTree → Layout
layout_for p copies root f = record { root = root; params = offsets_from p.sizes 0 f.params; locals = offsets_from p.sizes (end_from p.sizes 0 f.params) f.locals; copies = marked root 0 copies (replicate (length p.functions) None); sizes = p.sizes }

-- what the code of a copy of a function stands on
abbrev pub ground_on : Layout → List VariableTree → ℕ → ℕ → Ground
ground_on layout locals number base = record { layout = layout; bytes = map (variable_bytes layout.sizes) locals; copy = number; base = base }

abbrev pub ground_for : Program → List FnCopy → ℕ → Root → FunctionTree → Ground
ground_for p copies number root f = ground_on (layout_for p copies root f) f.locals number (base_of p.sizes f)
