-- The program of byte code that a typed program with its copies becomes: what its machine runs.
use Rattle.std.specs.Prelude.{ℕ, ◌+◌, Bool, true, false, not, ◌&&◌, nat_eq, List, [], Option, Some, None, is_some, map, slice_get}
use Rattle.std.specs.List.{list_any}
use Rattle.c_typed.specs.Calls.{int_helper, statements_calls}
use Rattle.c_typed.specs.Room.{frame_size, variables_bytes}
use Rattle.c_typed.specs.Trees.{StaticTree, FunctionTree}
use Rattle.c_typed.specs.Trees as typed
use Rattle.c_typed.specs.declared.calls.FnId.{FnId}
use Rattle.c_typed.specs.declared.calls.FnId.TheVariants as callees
use Rattle.c_typed.specs.declared.calls.Helper.{Helper}
use Rattle.call_graph.specs.Numbers.{handler_at, is_helper, copy_of}
use Rattle.call_graph.specs.declared.types.FnCopy.{FnCopy}
use Rattle.core_code.specs.Bytes.{Held}
use Rattle.pic_world.specs.Roots.{same_root}
use Rattle.core_code.specs.FirstBytes.{first_held}
use Rattle.core_code.specs.Machine.{Program}
use Rattle.core_code.specs.Tree.{Tree}
use Rattle.lower_stmt.specs.Bodies.{code_of, first_bytes}
use Rattle.pic_world.specs.declared.Root.{Root}
use Rattle.pic_world.specs.declared.Root.TheVariants.{Main}

-- the function with this number, and that of a copy; a helper is none
abbrev pub function_at : typed.Program → FnId → Option FunctionTree
function_at p (callees.User function) = slice_get p.functions function
function_at p (callees.Helper helper) = None

abbrev pub function_in : typed.Program → Option FnCopy → Option FunctionTree
function_in p None = None
function_in p (Some copy) = function_at p copy.function

-- ---- what the machine asks of each copy
abbrev pub body_for : typed.Program → List FnCopy → ℕ → Root → FnId → List Tree
body_for p copies number root (callees.User function) = code_of p copies number root (slice_get p.functions function)
body_for p copies number root (callees.Helper helper) = []

abbrev pub body_in : typed.Program → List FnCopy → ℕ → Option FnCopy → List Tree
body_in p copies number None = []
body_in p copies number (Some copy) = body_for p copies number copy.root copy.function

abbrev pub root_in : Option FnCopy → Root
root_in None = Main
root_in (Some copy) = copy.root

-- The first function calls the one of the other copy. No operation of byte code calls a helper.
abbrev pub is_function : FnId → FnId → Bool
is_function (callees.User f) (callees.User g) = nat_eq f g
is_function _ _ = false

abbrev pub calls_function : Option FunctionTree → FnId → Bool
calls_function None callee = false
calls_function (Some f) callee = list_any (is_function callee) (statements_calls f.body)

abbrev pub may_call : typed.Program → Option FnCopy → Option FnCopy → Bool
may_call p None callee = false
may_call p (Some copy) None = false
may_call p (Some copy) (Some callee) = same_root copy.root callee.root && calls_function (function_at p copy.function) callee.function

-- The function has an operator with this helper, of which there is a copy under the root.
abbrev pub calls_helper : Option FunctionTree → Helper → Bool
calls_helper None h = false
calls_helper (Some f) h = list_any (is_helper h) (statements_calls f.body)

abbrev pub may_use : typed.Program → List FnCopy → Option FnCopy → Option Helper → Bool
may_use p copies None h = false
may_use p copies (Some copy) None = false
may_use p copies (Some copy) (Some h) = calls_helper (function_at p copy.function) h && is_some (copy_of copies copy.root h)

abbrev pub size_or_none : (FunctionTree → ℕ) → Option FunctionTree → ℕ
size_or_none size None = 0
size_or_none size (Some f) = size f

-- ---- what it asks of each static object
abbrev pub isnt_const : Option StaticTree → Bool
isnt_const None = false
isnt_const (Some s) = not s.ty.constant

abbrev pub statics_held : typed.Program → List (List Held)
statics_held p = map (map first_held) (first_bytes p)

unfoldable pub core_of : typed.Program → List FnCopy → Program
core_of p copies = record {
  body = λ c. body_in p copies c (slice_get copies c);
  root = λ c. root_in (slice_get copies c);
  reads = λ c. None;
  calls = λ c d. may_call p (slice_get copies c) (slice_get copies d);
  helped = λ c op ty. may_use p copies (slice_get copies c) (int_helper op false ty);
  handler = handler_at copies;
  first = statics_held p;
  is_watched = λ n. isnt_const (slice_get p.statics n);
  frame_bytes = λ c. size_or_none (frame_size p.sizes) (function_in p (slice_get copies c));
  parameter_bytes = λ c. size_or_none (λ f. variables_bytes p.sizes f.params) (function_in p (slice_get copies c));
  variable_bytes = λ c. size_or_none (λ f. variables_bytes p.sizes f.params + variables_bytes p.sizes f.locals) (function_in p (slice_get copies c));
}
