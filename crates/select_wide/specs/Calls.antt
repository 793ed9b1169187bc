-- Calls of helpers.
use Rattle.std.specs.Prelude.{ℕ, false, List, [], ◌∷◌, ◌++◌, Option, Some, None}
use Rattle.pic_world.specs.declared.Root.{Root}
use Rattle.c_ints.specs.declared.operators.BinOp.{BinOp}
use Rattle.c_ints.specs.declared.types.IntTy.{IntTy}
use Rattle.c_typed.specs.Calls.{int_helper}
use Rattle.c_typed.specs.declared.calls.Helper.{Helper}
use Rattle.call_graph.specs.Numbers.{copy_of}
use Rattle.call_graph.specs.declared.types.FnCopy.{FnCopy}
use Rattle.core_code.specs.declared.code.Byte.{Byte}
use Rattle.core_code.specs.declared.code.Byte.TheVariants.{Frame, Result}
use Rattle.sym_code.specs.declared.code.BlockName.TheVariants.{Copy}
use Rattle.sym_code.specs.declared.code.Sym.{Sym}
use Rattle.sym_code.specs.declared.code.Sym.TheVariants as sym
use Rattle.sym_code.specs.declared.code.Target.TheVariants.{Block}
use Rattle.select_code.specs.Pieces.{byte_behind}
use Rattle.select_wide.specs.Moves.{copies_code}

abbrev pub enter_code : ℕ → List Sym
enter_code copy = sym.Call (Block (Copy copy)) ∷ []

-- The frame of a helper begins with the left operand and, behind it, so many bytes of the right one.
abbrev pub helper_call_code : ℕ → Root → Byte → Byte → Byte → ℕ → ℕ → List Sym
helper_call_code copy root to left right width count = copies_code (Frame copy 0) left width ++ copies_code (byte_behind (Frame copy 0) width) right count ++ enter_code copy ++ copies_code to (Result root 0) width

-- the call of a copy, and nothing where there is none
abbrev pub copy_call_code : Option ℕ → Root → Byte → Byte → Byte → ℕ → ℕ → List Sym
copy_call_code None root to left right width count = []
copy_call_code (Some copy) root to left right width count = helper_call_code copy root to left right width count

abbrev pub any_call_code : Option Helper → List FnCopy → Root → Byte → Byte → Byte → ℕ → ℕ → List Sym
any_call_code None list root to left right width count = []
any_call_code (Some helper) list root to left right width count = copy_call_code (copy_of list root helper) root to left right width count

-- an operator on values of a type by its helper
abbrev pub helped_code : List FnCopy → Root → BinOp → IntTy → Byte → Byte → Byte → ℕ → ℕ → List Sym
helped_code list root op ty to left right width count = any_call_code (int_helper op false ty) list root to left right width count
