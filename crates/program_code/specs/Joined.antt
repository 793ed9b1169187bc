-- The blocks of a program's symbolic code.
use Rattle.std.specs.Prelude.{ℕ, ◌+◌, ◌≡◌, List, [], ◌∷◌, ◌++◌}
use Rattle.std.specs.List.Sorted.{IsNonDecreasingBy, IsPermutation}
use Rattle.call_graph.specs.Numbers.{handler_at}
use Rattle.call_graph.specs.declared.types.FnCopy.{FnCopy}
use Rattle.c_typed.specs.declared.calls.FnId.{FnId}
use Rattle.c_typed.specs.declared.calls.FnId.TheVariants as callees
use Rattle.core_code.specs.declared.code.CoreProgram.{CoreProgram}
use Rattle.isr_save.specs.Start.{start_code}
use Rattle.math_helpers.specs.Routines.{helper_code}
use Rattle.pic_world.specs.declared.Root.{Root}
use Rattle.select_wide.specs.Blocks.{blocks_from, views_of}
use Rattle.sym_code.specs.declared.code.BlockName.{BlockName}
use Rattle.sym_code.specs.declared.code.BlockName.TheVariants.{Start, Copy}
use Rattle.sym_code.specs.declared.code.Sym.{Sym}
use Rattle.sym_code.specs.declared.code.SymBlock.{SymBlock}
use Rattle.program_code.specs.Order.{block_rank}

-- the block of a helper's copy: its name and its instructions
abbrev pub helper_for : ℕ → Root → FnId → List (BlockName × List Sym)
helper_for number root (callees.User function) = []
helper_for number root (callees.Helper routine) = (Copy number, helper_code routine root number) ∷ []

abbrev pub helper_at : ℕ → FnCopy → List (BlockName × List Sym)
helper_at number copy = helper_for number copy.root copy.function

-- those of copies whose numbers begin with this one
abbrev pub helpers_from : ℕ → List FnCopy → List (BlockName × List Sym)
helpers_from number [] = []
helpers_from number (copy ∷ copies) = helper_at number copy ++ helpers_from (number + 1) copies

-- The start block, and behind it in the order of code the blocks of all copies: for each function the code of its body, for each helper
-- its routine.
pub record IsJoined (core : CoreProgram) (copies : List FnCopy) (blocks : List SymBlock) : Type 0 where
  pub start : SymBlock
  pub made : List SymBlock
  pub order : List SymBlock
  pub whole : blocks ≡ start ∷ order
  pub same : IsPermutation made order
  pub sorted : IsNonDecreasingBy (block_rank copies) order
  pub views : views_of made ≡ blocks_from core.bodies.items copies 0 copies ++ helpers_from 0 copies
  pub name : start.name ≡ Start
  pub exact : start.list.items ≡ start_code (handler_at copies) core.statics.items
