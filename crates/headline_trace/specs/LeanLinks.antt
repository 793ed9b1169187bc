-- What blocks keep that the pass over symbolic code makes: they follow the given ones, and the given ones' prices are within bounds.
use Rattle.std.specs.Prelude.{◌≡◌, ℕ, ◌<◌, ◌≤◌, Bool, true, false, List, length, slice_get, Option, Some}
use Rattle.c_typed.specs.declared.calls.Helper.{Helper}
use Rattle.pic_map.specs.declared.Placed.{Placed}
use Rattle.pic_world.specs.World.{Outside, is_due}
use Rattle.pic_world.specs.declared.Root.{Root}
use Rattle.run_links.specs.Runs.{Goes, Follows, IsSlow}
use Rattle.core_code.specs.Bytes.{Object}
use Rattle.sym_code.specs.Effect.{Setting, Memory}
use Rattle.sym_code.specs.Layout.{DataLayout, frame, is_whole}
use Rattle.sym_code.specs.Machine.{Entry, running, settled, sym_run, sym_start}
use Rattle.sym_code.specs.Marks.{is_marked}
use Rattle.sym_code.specs.Programs.{Program, block_in, no_tables}
use Rattle.sym_code.specs.Registers.{Registers, no_leaves}
use Rattle.sym_code.specs.Runs.{run_of, weighed_of}
use Rattle.sym_code.specs.declared.code.BlockName.{BlockName}
use Rattle.sym_code.specs.declared.code.BlockName.TheVariants.{Copy}
use Rattle.sym_code.specs.declared.code.Sym.{Sym}
use Rattle.sym_code.specs.declared.code.SymBlock.{SymBlock}
use Rattle.code_place.specs.Layouts.{layout_of}
use Rattle.math_helpers.specs.Routines.{helper_code}
use Rattle.math_helpers.specs.Shape.{frame_size, ArePriced}
use Rattle.select_wide.specs.Links.{AreDear}
use Rattle.bank_page.specs.Links.{price_in}
use Rattle.bank_trace.specs.SelectPrices.{AreSelected}
use Rattle.lean_code.specs.Clear.{IsClear}
use Rattle.lean_code.specs.Links.{is_open}
use Rattle.lean_pass.specs.Made.{IsLean}

-- ---- programs
-- by the code of each name
abbrev pub program_by : DataLayout → Option ℕ → (BlockName → List Sym) → Program
program_by l handler block = record { block = block; handler = handler; layout = l; tables = no_tables }

-- banks and pages don't count: selects come later
abbrev pub setting_by : DataLayout → Option ℕ → (BlockName → List Sym) → (BlockName → ℕ) → (Bool → ℕ) → Setting
setting_by l handler block page limit = record { program = program_by l handler block; banked = false; page_of = page; limit = limit; leaves = no_leaves }

-- ---- accesses through FSR
-- At each of its first n steps that carries out an instruction the code accesses no hidden byte through FSR.
abbrev pub IsOpen : (ℕ → Bool) → DataLayout → Option ℕ → (BlockName → List Sym) → (BlockName → ℕ) → (Bool → ℕ) → Outside → Entry → Registers → Memory → ℕ → Type 0
IsOpen hidden l handler code page limit o e r m n =
    (i : ℕ) → i < n → is_due (settled o (sym_run (setting_by l handler code page limit) e o i (sym_start (program_by l handler code) r m))).world ≡ false
    → is_open hidden (program_by l handler code) (running (settled o (sym_run (setting_by l handler code page limit) e o i (sym_start (program_by l handler code) r m)))) ≡ true

-- ---- what is kept
-- From the same registers and the same memory, under every schedule and whatever the handler finds at its entries, as long as the given
-- code isn't stuck and accesses no hidden byte through FSR: the code that is made makes its events, at no more than it costs, and at no
-- less than what surely stays.
abbrev pub CodeFollows : (ℕ → Bool) → DataLayout → Option ℕ → (BlockName → List Sym) → (BlockName → List Sym) → (BlockName → ℕ → ℕ) → (BlockName → ℕ → ℕ) → (BlockName → ℕ → ℕ) → Type 0
CodeFollows hidden l handler given lean price sure new =
    (page : BlockName → ℕ) (limit : Bool → ℕ) (o : Outside) (e : Entry) (r : Registers) (m : Memory) (n : ℕ)
    → Goes (weighed_of (setting_by l handler given page limit) price sure e o (sym_start (program_by l handler given) r m)) n
    → IsOpen hidden l handler given page limit o e r m n
    → (link : Follows (λ event. event) (weighed_of (setting_by l handler given page limit) price sure e o (sym_start (program_by l handler given) r m)) (run_of (setting_by l handler lean page limit) new e o (sym_start (program_by l handler lean) r m)) n)
    × IsSlow (λ event. event) (weighed_of (setting_by l handler given page limit) price sure e o (sym_start (program_by l handler given) r m)) (run_of (setting_by l handler lean page limit) new e o (sym_start (program_by l handler lean) r m)) n link

-- Blocks that are made of given ones, whose instructions cost what `new` says. Given is of each copy how many bytes its variables have, and
-- which objects are lent.
pub record AreFollowed (l : DataLayout) (handler : Option ℕ) (variables : ℕ → ℕ) (lent : Object → Bool) (given lean : List SymBlock) (new : BlockName → ℕ → ℕ) : Type 0 where
  -- what the instructions of the given blocks cost, at most and at least
  pub price : BlockName → ℕ → ℕ
  pub sure : BlockName → ℕ → ℕ
  -- each that counts is one at least
  pub sures : (name : BlockName) (j : ℕ) (s : Sym) → slice_get (block_in given name) j ≡ Some s → is_marked variables s ≡ true → 1 ≤ sure name j
  -- the bytes that no access through FSR may reach: none of an object that is lent
  pub hidden : ℕ → Bool
  pub clear : IsClear hidden l lent
  pub keeps : CodeFollows hidden l handler (block_in given) (block_in lean) price sure new
  -- the bounds, where selects come behind
  pub dear : (placed : Placed) (made : List SymBlock) → new ≡ price_in (block_in made) → AreSelected placed lean made
      → ((c : ℕ) → c < length (layout_of placed).frames → is_whole (frame (layout_of placed) c).address (frame (layout_of placed) c).size ≡ true)
      → (name : BlockName) → AreDear (layout_of placed) (price name) (block_in given name)
  pub priced : (placed : Placed) (made : List SymBlock) → new ≡ price_in (block_in made) → AreSelected placed lean made → (h : Helper) (root : Root) (c : ℕ) → block_in given (Copy c) ≡ helper_code h root c
      → is_whole (frame (layout_of placed) c).address (frame (layout_of placed) c).size ≡ true → frame_size h ≤ (frame (layout_of placed) c).size
      → ArePriced (price (Copy c)) (helper_code h root c)

-- So it is of whatever the pass makes.
abbrev pub LeanBlocksFollow : Type 0
LeanBlocksFollow =
    (l : DataLayout) (handler : Option ℕ) (variables : ℕ → ℕ) (lent : Object → Bool) (given lean : List SymBlock) → IsLean l handler variables lent given lean
    → (new : BlockName → ℕ → ℕ) → AreFollowed l handler variables lent given lean new
