-- Code without the selects that set what is known by flow facts to be so.
use Rattle.std.specs.Prelude.{◌≡◌, ℕ, Bool, true, false, List, [], ◌∷◌, Option, Some, None, if◌then◌else◌}
use Rattle.std.specs.List.{AllZip}
use Rattle.code_place.specs.Layouts.{page_of}
use Rattle.sym_code.specs.Programs.{same_name}
use Rattle.sym_code.specs.Selects.{is_select}
use Rattle.sym_code.specs.declared.code.BlockName.{BlockName}
use Rattle.sym_code.specs.declared.code.BlockName.TheVariants.{Start}
use Rattle.sym_code.specs.declared.code.Sym.{Sym}
use Rattle.sym_code.specs.declared.code.SymBlock.{SymBlock}
use Rattle.bank_page.specs.Known.{knows}
use Rattle.flow_facts.specs.Facts.{Fact, Facts, AreMates}
use Rattle.flow_facts.specs.Walk.{mated, fact_after, behind_after, is_consistent}

-- a select that sets what is known, or to which nothing comes
abbrev pub is_known : Facts → BlockName → Fact → Sym → Bool
is_known f own None s = is_select s
is_known f own (Some known) s = knows own known (mated f own s)

abbrev pub thin_from : Facts → BlockName → Fact → Bool → List Sym → List Sym
thin_from f own fact behind [] = []
thin_from f own fact behind (s ∷ list) =
    if is_known f own fact s then thin_from f own fact behind list else s ∷ thin_from f own (fact_after f own fact behind s) (behind_after behind s) list

-- what is left of a block, where it doesn't stay whole
abbrev pub thin : Facts → Bool → SymBlock → List Sym
thin f whole block = if whole then block.list.items else thin_from f block.name (f.front block.name) false block.list.items

-- The start block stays whole: its vector stands at fixed addresses.
abbrev pub without_known : Facts → SymBlock → List Sym
without_known f block = thin f (same_name block.name Start) block

pub record IsWithoutKnown (f : Facts) (given made : SymBlock) : Type 0 where
  pub name : made.name ≡ given.name
  pub code : made.list.items ≡ without_known f given

-- A block that stays whole, or is without these selects.
pub record IsThin (f : Facts) (given made : SymBlock) : Type 0 where
  pub whole : Bool
  pub name : made.name ≡ given.name
  pub code : made.list.items ≡ thin f whole given
  pub start : same_name given.name Start ≡ true → whole ≡ true

-- Blocks at some addresses, and what is left of them by facts that are consistent.
pub record IsThinned (handler : Option ℕ) (at : List ℕ) (given made : List SymBlock) : Type 0 where
  pub facts : Facts
  pub mates : AreMates (page_of given at) facts.mate
  pub consistent : is_consistent facts handler given ≡ true
  pub each : AllZip (IsThin facts) given made
