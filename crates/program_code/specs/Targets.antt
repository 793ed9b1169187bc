-- What instructions name is there: the targets of jumps, calls and selects of a page, and the bytes of the others.
use Rattle.std.specs.Prelude.{◌≡◌, ℕ, List, [], ◌∷◌, Option, Some, IsSome, slice_get}
use Rattle.c_typed.specs.Trees.{Program}
use Rattle.call_graph.specs.Numbers.{handler_at}
use Rattle.call_graph.specs.declared.types.FnCopy.{FnCopy}
use Rattle.core_code.specs.declared.code.CoreProgram.{CoreProgram}
use Rattle.pic_map.specs.declared.Placed.{Placed}
use Rattle.sym_code.specs.declared.code.Sym.{Sym}
use Rattle.sym_code.specs.declared.code.Sym.TheVariants as syms
use Rattle.sym_code.specs.declared.code.SymBlock.{SymBlock}
use Rattle.sym_code.specs.declared.code.Target.{Target}
use Rattle.code_place.specs.Places.{target_for, HasEnds, BlocksHaveAddresses}
use Rattle.code_place.specs.Sizes.{Fit}
use Rattle.flow_facts.specs.Thin.{IsThinned}
use Rattle.program_code.specs.Passed.{AreBlocks}
use Rattle.program_code.specs.Translated.{HasCalls}
use Rattle.program_code.specs.There.{HaveOperands}

-- ---- targets
-- the target that an instruction names has an address; a table has none
abbrev pub HasTarget : (Target → Option ℕ) → Sym → Type 0
HasTarget target (syms.SelectPage bit to) = IsSome (target to)
HasTarget target (syms.Call to) = IsSome (target to)
HasTarget target (syms.Goto to) = IsSome (target to)
HasTarget target (syms.Table table root) = ⊥
HasTarget target _ = Unit {0}

abbrev pub HaveTargets : (Target → Option ℕ) → List Sym → Type 0
HaveTargets target [] = Unit {0}
HaveTargets target (s ∷ list) = HasTarget target s × HaveTargets target list

-- so do those of the instructions of blocks that stand at these addresses
abbrev pub BlocksHaveTargets : List SymBlock → List ℕ → Type 0
BlocksHaveTargets blocks at = (k : ℕ) (block : SymBlock) (start : ℕ) → slice_get blocks k ≡ Some block → slice_get at k ≡ Some start → HaveTargets (target_for blocks at block start) block.list.items

-- ---- bytes
abbrev pub BlocksHaveOperands : Placed → List SymBlock → Type 0
BlocksHaveOperands placed blocks = (k : ℕ) (block : SymBlock) → slice_get blocks k ≡ Some block → HaveOperands placed block.list.items

-- ---- what is promised
-- In the blocks that the passes make of a program, each at an address at which it has room, each target is there,
abbrev pub TargetsAreThere : Type 0
TargetsAreThere =
    (p : Program) (copies : List FnCopy) (core : CoreProgram) (given lean whole made : List SymBlock) (placed : Placed) (at : List ℕ)
    → AreBlocks p copies core given lean whole placed → IsThinned (handler_at copies) at whole made → HasCalls p copies → Fit made at → BlocksHaveTargets made at

-- and main's block and the label at which it halts.
abbrev pub EndsAreThere : Type 0
EndsAreThere =
    (p : Program) (copies : List FnCopy) (core : CoreProgram) (given lean whole made : List SymBlock) (placed : Placed) (at : List ℕ)
    → AreBlocks p copies core given lean whole placed → IsThinned (handler_at copies) at whole made → HasCalls p copies → Fit made at → HasEnds made at

-- Where both targets and bytes have addresses, all that is named has one.
abbrev pub AllIsThere : Type 0
AllIsThere = (placed : Placed) (blocks : List SymBlock) (at : List ℕ) → BlocksHaveTargets blocks at → BlocksHaveOperands placed blocks → BlocksHaveAddresses placed blocks at
