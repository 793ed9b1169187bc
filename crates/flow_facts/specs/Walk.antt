-- What is known along a block by flow facts, and when these are consistent: nothing is expected anywhere that isn't known on each way there.
use Rattle.std.specs.Prelude.{◌≡◌, ℕ, Bool, true, false, not, ◌&&◌, List, [], ◌∷◌, Option, Some, None, if◌then◌else◌}
use Rattle.pic_map.specs.declared.Placed.{Placed}
use Rattle.sym_code.specs.Programs.{block_of}
use Rattle.sym_code.specs.Selects.{is_select}
use Rattle.sym_code.specs.declared.code.BlockName.{BlockName}
use Rattle.sym_code.specs.declared.code.BlockName.TheVariants.{Copy}
use Rattle.sym_code.specs.declared.code.PageBit.TheVariants.{Low, High}
use Rattle.sym_code.specs.declared.code.Sym.{Sym}
use Rattle.sym_code.specs.declared.code.Sym.TheVariants as syms
use Rattle.sym_code.specs.declared.code.SymBlock.{SymBlock}
use Rattle.sym_code.specs.declared.code.Target.{Target}
use Rattle.sym_code.specs.declared.code.Target.TheVariants as targets
use Rattle.bank_page.specs.Kinds.{is_label, is_skip, byte_of, target_of}
use Rattle.bank_page.specs.Known.{nothing, is_page, ends, is_return, is_retlw, left, learned, writes_status, writes_pclath}
use Rattle.bank_page.specs.Selected.{reaches_byte}
use Rattle.bank_page.specs.declared.known.Known.{Known}
use Rattle.flow_facts.specs.Facts.{Fact, Facts, gives, shared, at_label, at_target}

-- ---- pages by their mates
-- A select of a page with the block that stands for those of this page: what is known of pages names such blocks alone.
abbrev pub mated : Facts → BlockName → Sym → Sym
mated f own (syms.SelectPage bit target) = syms.SelectPage bit (targets.Block (f.mate bit (block_of own target)))
mated f own s = s

-- a jump's or call's target is in a block whose page is known to be selected
abbrev pub finds_target : Facts → BlockName → Known → Option Target → Bool
finds_target f own known None = true
finds_target f own known (Some target) = is_page known.high (f.mate High (block_of own target)) && is_page known.low (f.mate Low (block_of own target))

-- what an instruction needs is known to be selected
abbrev pub is_right : Placed → Facts → BlockName → Known → Sym → Bool
is_right placed f own known s = reaches_byte placed known (byte_of s) && finds_target f own known (target_of s)

-- ---- behind an instruction
-- one that is neither a label nor a call: behind a jump or return that isn't skipped nothing comes
abbrev pub known_after : Facts → BlockName → Known → Sym → Known
known_after f own known s = if is_select s then learned own known (mated f own s) else left known s (writes_status s) (writes_pclath s)

abbrev pub passed : Facts → BlockName → Known → Bool → Sym → Fact
passed f own known behind s = if ends s && not behind then None else Some (known_after f own known s)

-- a call comes back with what the block that it calls leaves, and may be skipped
abbrev pub called : Fact → Known → Bool → Fact
called back known behind = if behind then shared (Some known) back else back

abbrev pub live_after : Facts → BlockName → Known → Bool → Sym → Fact
live_after f own known behind (syms.Label label) = at_label f own label
live_after f own known behind (syms.Call target) = called (f.back (block_of own target)) known behind
live_after f own known behind s = passed f own known behind s

abbrev pub dead_after : Facts → BlockName → Sym → Fact
dead_after f own (syms.Label label) = at_label f own label
dead_after f own s = None

-- `behind` says that the instruction stands behind a skip
abbrev pub fact_after : Facts → BlockName → Fact → Bool → Sym → Fact
fact_after f own None behind s = dead_after f own s
fact_after f own (Some known) behind s = live_after f own known behind s

-- what stands behind a label behind a skip is skipped
abbrev pub behind_after : Bool → Sym → Bool
behind_after behind s = if is_label s then behind else is_skip s

-- ---- a test of each instruction, by what is known before it
abbrev pub holds_of : (Known → Sym → Bool) → Fact → Sym → Bool
holds_of test None s = true
holds_of test (Some known) s = test known s

abbrev pub all_hold : (Known → Sym → Bool) → Facts → BlockName → Fact → Bool → List Sym → Bool
all_hold test f own fact behind [] = true
all_hold test f own fact behind (s ∷ list) = holds_of test fact s && all_hold test f own (fact_after f own fact behind s) (behind_after behind s) list

-- of a whole block
abbrev pub holds_in : (BlockName → Known → Sym → Bool) → Facts → SymBlock → Bool
holds_in test f block = all_hold (test block.name) f block.name (f.front block.name) false block.list.items

-- ---- consistent facts
-- A block that goes on in another one leaves what that leaves.
abbrev pub leaves : Facts → BlockName → Target → Bool
leaves f own (targets.Block name) = gives (f.back name) (f.back own)
leaves f own (targets.Label label) = true

abbrev pub returns : Facts → BlockName → Known → Bool → Bool
returns f own known does = if does then gives (Some known) (f.back own) else true

abbrev pub goes : Facts → BlockName → Known → Target → Bool
goes f own known target = gives (Some known) (at_target f own target) && leaves f own target

-- What is known gives what is expected where the instruction leads to.
abbrev pub leads : Facts → BlockName → Known → Sym → Bool
leads f own known (syms.Label label) = gives (Some known) (at_label f own label)
leads f own known (syms.Call target) = gives (Some known) (at_target f own target)
leads f own known (syms.Goto target) = goes f own known target
leads f own known (syms.Plain op) = returns f own known (is_return op)
leads f own known (syms.Literal op value) = returns f own known (is_retlw op)
leads f own known s = true

abbrev pub all_lead : Facts → List SymBlock → Bool
all_lead f [] = true
all_lead f (block ∷ blocks) = holds_in (leads f) f block && all_lead f blocks

-- nothing is expected at the front of a copy
abbrev pub is_open : Facts → ℕ → Bool
is_open f copy = gives (Some nothing) (f.front (Copy copy))

abbrev pub is_open_at : Facts → Option ℕ → Bool
is_open_at f None = true
is_open_at f (Some copy) = is_open f copy

-- Main and the handler begin with anything selected.
abbrev pub is_consistent : Facts → Option ℕ → List SymBlock → Bool
is_consistent f handler blocks = is_open f 0 && (is_open_at f handler && all_lead f blocks)

-- By the facts each access finds its bank selected, and each jump, call and read of a table its page.
abbrev pub Reaches : Placed → Facts → SymBlock → Type 0
Reaches placed f block = holds_in (is_right placed f) f block ≡ true
