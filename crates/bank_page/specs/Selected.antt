-- What the answer of `selects` keeps.
use Rattle.std.specs.Prelude.{◌≡◌, ◌≤◌, ℕ, ◌/◌, Bool, true, false, not, ◌&&◌, ◌||◌, List, [], ◌∷◌, ◌++◌, map, Option, Some, None, option_map, is_none, if◌then◌else◌}
use Rattle.core_code.specs.declared.code.Byte.{Byte}
use Rattle.pic_map.specs.declared.Placed.{Placed}
use Rattle.sym_code.specs.declared.code.BlockName.{BlockName}
use Rattle.sym_code.specs.declared.code.Sym.{Sym}
use Rattle.sym_code.specs.declared.code.Sym.TheVariants as syms
use Rattle.sym_code.specs.declared.code.SymBlock.{SymBlock}
use Rattle.sym_code.specs.declared.code.Target.{Target}
use Rattle.sym_code.specs.Programs.{block_of}
use Rattle.code_place.specs.Addresses.{address_of}
use Rattle.sym_code.specs.Words.{words_in, most_words}
use Rattle.sym_code.specs.Selects.{is_select, bare}
use Rattle.bank_page.specs.Kinds.{is_label, is_skip, byte_of, target_of}
use Rattle.bank_page.specs.Known.{nothing, is_bit, is_page, knows, seen_after}
use Rattle.bank_page.specs.Step.{rp0_of, rp1_of, page_selects, selected_from}
use Rattle.bank_page.specs.declared.known.Known.{Known}
use Rattle.bank_page.specs.declared.selecting.State.{State}

-- Where the next instruction of a list stands: behind a skip, or not; or a select already stood behind a skip.
pub data Place : Type 0 where
  Free : Place
  Behind : Place
  Broken : Place

abbrev pub place_after : Place → Sym → Place
place_after Broken s = Broken
place_after Free s = if is_skip s then Behind else Free
place_after Behind s = if is_select s then Broken else (if is_label s then Behind else (if is_skip s then Behind else Free))

abbrev pub walk : Place → List Sym → Place
walk place [] = place
walk place (s ∷ list) = walk (place_after place s) list

-- Between a skip and the instruction behind it stands no select.
abbrev pub NoSelectBehindSkip : List Sym → Type 0
NoSelectBehindSkip list = walk Free list ≡ Broken → ⊥

-- the bank in which a byte stands: bits 8 and 7 of its address
abbrev pub bank_number : Placed → Byte → Option ℕ
bank_number placed byte = option_map (λ at. at / 128) (address_of placed byte)

-- RP1 and RP0 are known to be those of the bank
abbrev pub has_bank : Known → Option ℕ → Bool
has_bank known None = false
has_bank known (Some bank) = is_bit known.rp1 (rp1_of bank) && is_bit known.rp0 (rp0_of bank)

-- an instruction's byte is in the bank that is known to be selected
abbrev pub reaches_byte : Placed → Known → Option Byte → Bool
reaches_byte placed known None = true
reaches_byte placed known (Some byte) = has_bank known (bank_number placed byte)

-- its target is in the block whose page is known to be selected
abbrev pub reaches_target : BlockName → Known → Option Target → Bool
reaches_target own known None = true
reaches_target own known (Some target) = is_page known.high (block_of own target) && is_page known.low (block_of own target)

abbrev pub is_right : Placed → BlockName → Known → Sym → Bool
is_right placed own known s = reaches_byte placed known (byte_of s) && reaches_target own known (target_of s)

-- it sets something that isn't known to be so already, or is no select
abbrev pub is_lean : BlockName → Known → Sym → Bool
is_lean own known s = not (knows own known s)

abbrev pub front : State
front = record { known = nothing; behind = false }

abbrev pub seen : BlockName → State → Sym → State
seen own state s = record { known = seen_after own state.known s state.behind; behind = is_skip s }

-- each instruction of a list passes a test, by what is known before it
abbrev pub all_pass : (Known → Sym → Bool) → BlockName → State → List Sym → Bool
all_pass test own state [] = true
all_pass test own state (s ∷ list) = test state.known s && all_pass test own (seen own state s) list

-- Each access to a byte that isn't in every bank, and each jump, call and read of a table, finds its bank or page selected; of a block, from its
-- front, where nothing is known.
abbrev pub reaches_all : Placed → SymBlock → Bool
reaches_all placed block = all_pass (is_right placed block.name) block.name front block.list.items

-- No select sets what is known to be so already.
abbrev pub is_lean_all : SymBlock → Bool
is_lean_all block = all_pass (is_lean block.name) block.name front block.list.items

-- the names of the blocks, and their lists without selects
abbrev pub names_of : List SymBlock → List BlockName
names_of blocks = map (λ (b : SymBlock). b.name) blocks

abbrev pub bare_lists : List SymBlock → List (List Sym)
bare_lists blocks = map (λ (b : SymBlock). bare b.list.items) blocks

abbrev pub IsApart : SymBlock → Type 0
IsApart block = NoSelectBehindSkip block.list.items

abbrev pub Reaches : Placed → SymBlock → Type 0
Reaches placed block = reaches_all placed block ≡ true

abbrev pub IsLean : SymBlock → Type 0
IsLean block = is_lean_all block ≡ true

-- an instruction that needs no select and ends nothing: no select stands before it
abbrev pub is_quiet : Sym → Bool
is_quiet s = not (is_select s || is_label s || is_skip s) && is_none (byte_of s) && is_none (target_of s)

abbrev pub are_quiet : List Sym → Bool
are_quiet [] = true
are_quiet (s ∷ list) = is_quiet s && are_quiet list

-- A block that begins with a jump begins with four words and what needs no select behind them: the two selects of its page, the
-- jump, and the next instruction.
pub record KeepsFront (given made : List Sym) : Type 0 where
  pub words : (target : Target) (quiet rest : List Sym) → are_quiet quiet ≡ true → given ≡ syms.Goto target ∷ quiet ++ rest → (more : List Sym) × (made ≡ page_selects (Some target) ++ syms.Goto target ∷ quiet ++ more)

abbrev pub KeepsFrontOf : SymBlock → SymBlock → Type 0
KeepsFrontOf given made = KeepsFront given.list.items made.list.items

-- The real words of the block that is made are at most those that the given one may become.
abbrev pub IsWithin : SymBlock → SymBlock → Type 0
IsWithin given made = words_in made.list.items ≤ most_words given.list.items

-- What a block becomes, and no more: before each instruction that isn't behind a skip stand the selects for what it and the skips
-- up to it need, as far as that isn't known already.
pub record IsExact (placed : Placed) (given made : SymBlock) : Type 0 where
  pub name : made.name ≡ given.name
  pub code : made.list.items ≡ selected_from placed given.name front given.list.items
