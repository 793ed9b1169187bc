-- What the link of selection is given of each copy: its body and its block, or its routine, its root, and what it calls.
use Rattle.std.proofs.Common.{◌≡◌, ℕ, true, false, List, [], ◌∷◌, Option, Some, None, is_some, refl, sym, ap, ◌∙◌}
use Rattle.std.specs.Prelude.{slice_get}
use Rattle.std.specs.List.{list_any}
use Rattle.std.proofs.lemmas.Bool.{and_parts}
use Rattle.c_ints.specs.declared.operators.BinOp.{BinOp}
use Rattle.c_ints.specs.declared.types.IntTy.{IntTy}
use Rattle.c_typed.specs.Calls.{int_helper, statements_calls}
use Rattle.c_typed.specs.Trees.{FunctionTree, Program}
use Rattle.c_typed.specs.declared.calls.FnId.{FnId}
use Rattle.c_typed.specs.declared.calls.FnId.TheVariants as callees
use Rattle.c_typed.specs.declared.calls.Helper.{Helper}
use Rattle.call_graph.specs.Numbers.{handler_at, copy_of}
use Rattle.call_graph.specs.declared.types.FnCopy.{FnCopy}
use Rattle.core_code.specs.declared.code.Body.{Body}
use Rattle.core_code.specs.declared.code.CoreProgram.{CoreProgram}
use Rattle.lower_stmt.specs.Programs.{function_at, root_in, is_function, calls_function, calls_helper, may_call, may_use, core_of}
use Rattle.math_helpers.specs.Routines.{helper_code}
use Rattle.pic_world.specs.Roots.{same_root}
use Rattle.pic_world.specs.declared.Root.{Root}
use Rattle.program_code.specs.Joined.{IsJoined}
use Rattle.select_wide.specs.Blocks.{is_user, body_at, code_by}
use Rattle.sym_code.specs.Programs.{block_in}
use Rattle.sym_code.specs.declared.code.BlockName.TheVariants.{Copy}
use Rattle.sym_code.specs.declared.code.SymBlock.{SymBlock}
use Rattle.headline_trace.specs.Passed.{code_of}
use Rattle.headline_trace.proofs.Blocks.{copy_is}

-- ---- blocks
of_user : (bodies : List Body) (copies : List FnCopy) (c : ℕ) (root : Root) (f : FnId) → is_user f ≡ true → code_of bodies copies c root f ≡ code_by copies c (body_at bodies c)
of_user bodies copies c root (callees.User f) user = refl
of_user bodies copies c root (callees.Helper h) user = absurd (cc)

module _ (core : CoreProgram) (copies : List FnCopy) (given : List SymBlock) (joined : IsJoined core copies given) where
  -- each body has its block
  pub block_there : (c : ℕ) (copy : FnCopy) → slice_get copies c ≡ Some copy → is_user copy.function ≡ true → block_in given (Copy c) ≡ code_by copies c (body_at core.bodies.items c)
  block_there c copy is user = copy_is core copies given joined c copy is ∙ of_user core.bodies.items copies c copy.root copy.function user

  -- .. and each helper its routine
  pub routine_block : (c : ℕ) (copy : FnCopy) (h : Helper) → slice_get copies c ≡ Some copy → copy.function ≡ callees.Helper h → block_in given (Copy c) ≡ helper_code h copy.root c
  routine_block c copy h is routine = copy_is core copies given joined c copy is ∙ ap (code_of core.bodies.items copies c copy.root) routine

-- ---- roots
pub root_is : (p : Program) (copies : List FnCopy) (c : ℕ) (copy : FnCopy) → slice_get copies c ≡ Some copy → (core_of p copies).root c ≡ copy.root
unfolding core_of
root_is p copies c copy is = ap root_in is

pub handler_is : (p : Program) (copies : List FnCopy) → (core_of p copies).handler ≡ handler_at copies
unfolding core_of
handler_is p copies = refl

-- no copy reads a table
pub reads_none : (p : Program) (copies : List FnCopy) (c : ℕ) → (core_of p copies).reads c ≡ None
unfolding core_of
reads_none p copies c = refl

-- ---- calls
no_function : (h : Helper) (calls : List FnId) → list_any (is_function (callees.Helper h)) calls ≡ false
no_function h [] = refl
no_function h (call ∷ calls) = no_function h calls

called_user : (o : Option FunctionTree) (f : FnId) → calls_function o f ≡ true → is_user f ≡ true
called_user None f e = absurd (cc)
called_user (Some function) (callees.User f) e = refl
called_user (Some function) (callees.Helper h) e = let n = no_function h (statements_calls function.body) in absurd (cc)

record IsCalled (o : Option FnCopy) : Type 0 where
  copy : FnCopy
  there : o ≡ Some copy
  user : is_user copy.function ≡ true

called_by : (p : Program) (a b : Option FnCopy) → may_call p a b ≡ true → IsCalled b
called_by p None b e = absurd (cc)
called_by p (Some caller) None e = absurd (cc)
called_by p (Some caller) (Some copy) e =
    record { copy = copy; there = refl; user = called_user (function_at p caller.function) copy.function (and_parts (same_root caller.root copy.root) (calls_function (function_at p caller.function) copy.function) e).1 }

-- what is called is a function's copy
pub called_is : (p : Program) (copies : List FnCopy) (c d : ℕ) → (core_of p copies).calls c d ≡ true → (copy : FnCopy) × (slice_get copies d ≡ Some copy) × (is_user copy.function ≡ true)
unfolding core_of
called_is p copies c d e = let is = called_by p (slice_get copies c) (slice_get copies d) e in (is.copy, is.there, is.user)

found_number : (o : Option ℕ) → is_some o ≡ true → (d : ℕ) × (o ≡ Some d)
found_number None e = absurd (cc)
found_number (Some d) e = (d, refl)

used_by : (p : Program) (copies : List FnCopy) (a : Option FnCopy) (h : Helper) → may_use p copies a (Some h) ≡ true → (d : ℕ) × (copy_of copies (root_in a) h ≡ Some d)
used_by p copies None h e = absurd (cc)
used_by p copies (Some copy) h e =
    found_number (copy_of copies copy.root h) (and_parts (calls_helper (function_at p copy.function) h) (is_some (copy_of copies copy.root h)) e).1

-- each helper that is used has a copy
pub routine_is : (p : Program) (copies : List FnCopy) (c : ℕ) (op : BinOp) (ty : IntTy) (h : Helper) → (core_of p copies).helped c op ty ≡ true → int_helper op false ty ≡ Some h
    → (d : ℕ) × (copy_of copies ((core_of p copies).root c) h ≡ Some d)
unfolding core_of
routine_is p copies c op ty h e is = used_by p copies (slice_get copies c) h (sym (ap (may_use p copies (slice_get copies c)) is) ∙ e)
