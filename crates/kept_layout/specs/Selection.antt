-- That selection names static objects where byte code does, and never reads and writes one by one instruction.
use Rattle.std.specs.Prelude.{◌≡◌, ℕ, Bool, true, false, ◌&&◌, List}
use Rattle.std.specs.List.{list_all}
use Rattle.call_graph.specs.declared.types.FnCopy.{FnCopy}
use Rattle.core_code.specs.Tree as code
use Rattle.core_code.specs.Tree.{Tree, Trees}
use Rattle.pic_world.specs.declared.Root.{Root}
use Rattle.kept_code.specs.Naming.{byte_keeps, code_keeps}
use Rattle.select_code.specs.Selected.{body_code}
use Rattle.select_code.specs.declared.control.Ending.{Ending}
use Rattle.select_wide.specs.Selection.{wide_code}
use Rattle.sym_code.specs.declared.code.BitOperation.TheVariants.{Btfsc, Btfss}
use Rattle.sym_code.specs.declared.code.Into.TheVariants as into
use Rattle.sym_code.specs.declared.code.Operand.{Operand}
use Rattle.sym_code.specs.declared.code.Operand.TheVariants as operands
use Rattle.sym_code.specs.declared.code.Sym.{Sym}
use Rattle.sym_code.specs.declared.code.Sym.TheVariants as syms

abbrev pub no_object : ℕ → Bool
no_object n = false

-- the static object of an operand passes the test
abbrev pub operand_keeps : (ℕ → Bool) → Operand → Bool
operand_keeps named (operands.Byte byte) = byte_keeps named byte
operand_keeps named operand = true

-- the static objects that an instruction names pass the test, and it reads and writes none of them
abbrev pub sym_keeps : (ℕ → Bool) → Sym → Bool
sym_keeps named (syms.File op operand into.W) = operand_keeps named operand
sym_keeps named (syms.File op operand into.File) = operand_keeps no_object operand
sym_keeps named (syms.Movwf operand) = operand_keeps named operand
sym_keeps named (syms.Clrf operand) = operand_keeps named operand
sym_keeps named (syms.Bit Btfsc operand b) = operand_keeps named operand
sym_keeps named (syms.Bit Btfss operand b) = operand_keeps named operand
sym_keeps named (syms.Bit op operand b) = operand_keeps no_object operand
sym_keeps named s = true

-- the results of operators are no static objects
abbrev mutual
  pub tree_spares : Tree → Bool
  tree_spares (code.Unary op ty at) = byte_keeps no_object at
  tree_spares (code.Binary op ty to left right) = byte_keeps no_object to
  tree_spares (code.Many parts) = trees_spare parts
  tree_spares (code.If test count holds fails) = tree_spares holds && tree_spares fails
  tree_spares (code.Loop body) = tree_spares body
  tree_spares t = true

  pub trees_spare : Trees → Bool
  trees_spare code.NoTree = true
  trees_spare (code.AndTree part parts) = tree_spares part && trees_spare parts

abbrev pub SelectionKeepsNames : Type 0
SelectionKeepsNames =
    (named lent : ℕ → Bool) (copies : List FnCopy) (root : Root) (end : Ending) (parts : List Tree) → code_keeps named lent parts ≡ true → list_all tree_spares parts ≡ true
    → list_all (sym_keeps named) (body_code (λ at before tree. wide_code copies root before tree) end 0 parts) ≡ true
