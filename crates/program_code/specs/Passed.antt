-- What the passes answer for one program, one behind the other, from its typed tree on to the blocks and their addresses.
use Rattle.std.specs.Prelude.{ℕ, ◌≡◌, Bool, true, List, map, None, slice_get}
use Rattle.std.specs.List.{All, AllZip}
use Rattle.c_typed.specs.Roots.{broken_root}
use Rattle.c_typed.specs.Sound.{is_sound}
use Rattle.c_typed.specs.Trees.{Program}
use Rattle.call_graph.specs.Numbers.{handler_at}
use Rattle.call_graph.specs.declared.types.FnCopy.{FnCopy}
use Rattle.core_code.specs.Bytes.{Object, Fixed}
use Rattle.core_code.specs.Machine.{static_byte}
use Rattle.core_code.specs.declared.code.CoreProgram.{CoreProgram}
use Rattle.lower_stmt.specs.Bodies.{body_of, bodies_of}
use Rattle.lower_stmt.specs.Programs.{core_of}
use Rattle.pic_map.specs.declared.Placed.{Placed}
use Rattle.src_rules.specs.Numbers.{ProgramHasNumbers}
use Rattle.sym_code.specs.declared.code.SymBlock.{SymBlock}
use Rattle.bank_page.specs.Selected as selected
use Rattle.bank_page.specs.Selected.{names_of, bare_lists, IsApart, IsWithin, IsExact}
use Rattle.flow_facts.specs.Thin.{IsThinned}
use Rattle.code_place.specs.Layouts.{layout_of}
use Rattle.code_place.specs.Places.{BlocksHaveAddresses}
use Rattle.code_place.specs.Sizes.{Fit}
use Rattle.lean_pass.specs.Made.{IsLean}
use Rattle.narrow_code.specs.Lending.{leads_lent}
use Rattle.narrow_pass.specs.Lent.{LendsOnly}
use Rattle.narrow_pass.specs.Narrowed.{IsNarrowed}
use Rattle.program_code.specs.Joined.{IsJoined}
use Rattle.program_code.specs.Stated.{AreStated}

-- Byte code of which blocks are made: as it was lowered, then with operators that are done on low bytes alone, and then with comparisons
-- and conditions by low bytes. Each step may leave all as it was.
pub record IsByteCode (lowered core : CoreProgram) : Type 0 where
  pub between : CoreProgram
  pub narrowed : IsNarrowed lowered between
  pub tested : IsNarrowed between core

-- The blocks of a program as they were selected, leaner, and with their selects: what each pass promises, from a typed program on.
pub record AreBlocks (p : Program) (copies : List FnCopy) (core : CoreProgram) (given lean made : List SymBlock) (placed : Placed) : Type 0 where
  -- the program is sound
  pub sound : is_sound p ≡ true
  pub roots : broken_root p ≡ None
  pub numbers : ProgramHasNumbers p
  -- byte code as it is lowered, what is made of it, and the blocks of that
  pub lowered : CoreProgram
  pub bodies : map body_of lowered.bodies.items ≡ bodies_of p copies
  pub code : IsByteCode lowered core
  pub joined : IsJoined core copies given
  -- the objects to which pointers may lead: that takes addresses of no others, and static objects begin with no address of another one
  pub lent : Object → Bool
  -- all static objects are, whichever frames are
  pub statics : (n : ℕ) → lent (Fixed n) ≡ true
  pub lends : All (LendsOnly lent) core.bodies.items
  pub first : (n offset : ℕ) → leads_lent lent (static_byte (slice_get (core_of p copies).first n) offset) ≡ true
  -- what is left of them where instructions on temporary bytes are left out that nothing needs
  pub leaner : IsLean (layout_of placed) (handler_at copies) (core_of p copies).variable_bytes lent given lean
  -- the blocks with selects
  pub names : names_of made ≡ names_of lean
  pub bare : bare_lists made ≡ bare_lists lean
  pub apart : All IsApart made
  pub reaches : All (selected.Reaches placed) made
  pub few : AllZip IsWithin lean made
  pub exact : AllZip (IsExact placed) lean made

-- .. and of these what is left without the selects that flow facts make needless: no block has more words than are stated of it, and
-- each has room at its address
pub record IsPassed (p : Program) (copies : List FnCopy) (core : CoreProgram) (given made : List SymBlock) (placed : Placed) (at : List ℕ) : Type 0 where
  pub lean : List SymBlock
  pub whole : List SymBlock
  pub blocks : AreBlocks p copies core given lean whole placed
  pub thinned : IsThinned (handler_at copies) at whole made
  pub stated : AreStated p copies made
  pub fit : Fit made at
  pub named : BlocksHaveAddresses placed made at
