-- One list of blocks, with its selects and without them, as two settings of one machine.
use Rattle.std.proofs.Common.{◌≡◌, ℕ, ◌<◌, Bool, true, false, List, Option, Some, None, IsSome, slice_get}
use Rattle.pic_map.specs.declared.Placed.{Placed}
use Rattle.sym_code.specs.Effect.{Setting}
use Rattle.sym_code.specs.Layout.{all_near}
use Rattle.sym_code.specs.Programs.{Program}
use Rattle.sym_code.specs.Registers.{Spoiled}
use Rattle.sym_code.specs.Selects.{bare}
use Rattle.sym_code.specs.Touching.{touches}
use Rattle.sym_code.specs.declared.code.BlockName.{BlockName}
use Rattle.sym_code.specs.declared.code.Operand.{Operand}
use Rattle.sym_code.specs.declared.code.Sym.{Sym}
use Rattle.code_place.specs.Addresses.{file_address}
use Rattle.code_place.specs.Layouts.{layout_of}
use Rattle.bank_page.specs.Near.{none_sets_rp1}
use Rattle.bank_page.specs.Selected.{NoSelectBehindSkip}
use Rattle.flow_facts.specs.Facts.{Facts, AreMates}
use Rattle.flow_facts.specs.Walk.{is_right, all_hold, leads, is_open, is_open_at}

pub record Site : Type 0 where
  -- the code with its selects
  pub made : BlockName → List Sym
  pub handler : Option ℕ
  pub placed : Placed
  -- the pages of the code with its selects; without them none counts
  pub pages : BlockName → ℕ
  pub other : BlockName → ℕ
  pub limit : Bool → ℕ
  -- the tables, and what a read of a byte of one leaves
  pub tables : ℕ → Option (List ℕ)
  pub leaves : ℕ → ℕ → Spoiled
  -- what is known of the bits that selects set
  pub facts : Facts

abbrev pub without : Site → Program
without x = record { block = λ name. bare (x.made name); handler = x.handler; layout = layout_of x.placed; tables = x.tables }

abbrev pub with : Site → Program
with x = record { block = x.made; handler = x.handler; layout = layout_of x.placed; tables = x.tables }

abbrev pub plain_setting : Site → Setting
plain_setting x = record { program = without x; banked = false; page_of = x.other; limit = x.limit; leaves = x.leaves }

abbrev pub banked_setting : Site → Setting
banked_setting x = record { program = with x; banked = true; page_of = x.pages; limit = x.limit; leaves = x.leaves }

-- the file operand of an instruction has an address
abbrev pub IsNamed : Placed → Option (Operand × Bool) → Type 0
IsNamed placed None = Unit {0}
IsNamed placed (Some touched) = IsSome (file_address placed touched.0)

pub record IsSound (x : Site) : Type 0 where
  pub pages : (name : BlockName) → x.pages name < 4
  pub apart : (name : BlockName) → NoSelectBehindSkip (x.made name)
  -- by the facts each access, jump and call finds what it needs, and the facts are consistent; each block has the page of the one that stands for it
  pub mates : AreMates x.pages x.facts.mate
  pub reaches : (name : BlockName) → all_hold (is_right x.placed x.facts name) x.facts name (x.facts.front name) false (x.made name) ≡ true
  pub lead : (name : BlockName) → all_hold (leads x.facts name) x.facts name (x.facts.front name) false (x.made name) ≡ true
  pub main : is_open x.facts 0 ≡ true
  pub entry : is_open_at x.facts x.handler ≡ true
  pub named : (name : BlockName) (j : ℕ) (s : Sym) → slice_get (x.made name) j ≡ Some s → IsNamed x.placed (touches s)
  -- where objects and frames end below 100h, no select sets RP1
  pub near : all_near (layout_of x.placed) ≡ true → (name : BlockName) → none_sets_rp1 (x.made name) ≡ true
