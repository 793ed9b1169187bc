-- Prices of code that a certificate makes, carried back to the given code: within the bounds that hold of them over the code that is made.
use Rattle.std.specs.Prelude.{◌≡◌, ℕ, ◌<◌, ◌≤◌, Bool, true, List, length, slice_get}
use Rattle.c_typed.specs.declared.calls.Helper.{Helper}
use Rattle.pic_map.specs.declared.Placed.{Placed}
use Rattle.pic_world.specs.declared.Root.{Root}
use Rattle.sym_code.specs.Layout.{DataLayout, frame, is_whole}
use Rattle.sym_code.specs.Programs.{block_in}
use Rattle.sym_code.specs.declared.code.BlockName.{BlockName}
use Rattle.sym_code.specs.declared.code.BlockName.TheVariants.{Copy}
use Rattle.sym_code.specs.declared.code.SymBlock.{SymBlock}
use Rattle.code_place.specs.Layouts.{layout_of}
use Rattle.math_helpers.specs.Routines.{helper_code}
use Rattle.math_helpers.specs.Shape.{frame_size, ArePriced}
use Rattle.select_wide.specs.Links.{AreDear}
use Rattle.bank_page.specs.Links.{price_in}
use Rattle.bank_trace.specs.SelectPrices.{AreSelected}
use Rattle.lean_code.specs.Checked.{Sketch, lean_of}
use Rattle.lean_code.specs.Rows.{Lean, Row, olds, puts, place_in}
use Rattle.lean_code.specs.Links.{price_at, carried}
use Rattle.lean_code.specs.Steady.{is_steady, are_steady}

-- the prices of one block's code at the rows that they are of; what is left out costs nothing
abbrev pub carried_by : List Row → (ℕ → ℕ) → ℕ → ℕ
carried_by rows price j = price_at (slice_get rows j) (price (place_in rows j))

-- ---- skips
-- Each block of a certificate that passes the test of skips is steady.
abbrev pub BlocksAreSteady : Type 0
BlocksAreSteady = (k : Sketch) (limit : Bool → ℕ) (old_page new_page : BlockName → ℕ) → are_steady k.blocks ≡ true → (name : BlockName) → is_steady ((lean_of k limit old_page new_page).rows name) ≡ true

-- ---- bounds
-- What holds of the code that is made holds of the given code.
abbrev pub LeanIsDear : Type 0
LeanIsDear = (l : DataLayout) (price : ℕ → ℕ) (rows : List Row) → is_steady rows ≡ true → AreDear l price (puts rows) → AreDear l (carried_by rows price) (olds rows)

abbrev pub LeanIsPriced : Type 0
LeanIsPriced = (price : ℕ → ℕ) (rows : List Row) → is_steady rows ≡ true → ArePriced price (puts rows) → ArePriced (carried_by rows price) (olds rows)

-- ---- blocks
-- Of a program that a certificate makes, with selects behind it: the prices of a block that were carried back are within the bounds that
-- selection was counted with,
abbrev pub LeanBlocksAreDear : Type 0
LeanBlocksAreDear =
    (x : Lean) (placed : Placed) (lean made : List SymBlock) → AreSelected placed lean made
    → ((c : ℕ) → c < length (layout_of placed).frames → is_whole (frame (layout_of placed) c).address (frame (layout_of placed) c).size ≡ true)
    → (name : BlockName) → block_in lean name ≡ puts (x.rows name) → is_steady (x.rows name) ≡ true
    → AreDear (layout_of placed) (carried x (price_in (block_in made)) name) (olds (x.rows name))

-- and those of a helper's routine within those of routines, whatever was left out of it.
abbrev pub LeanRoutinesArePriced : Type 0
LeanRoutinesArePriced =
    (x : Lean) (placed : Placed) (lean made : List SymBlock) → AreSelected placed lean made → (h : Helper) (root : Root) (c : ℕ)
    → olds (x.rows (Copy c)) ≡ helper_code h root c → block_in lean (Copy c) ≡ puts (x.rows (Copy c)) → is_steady (x.rows (Copy c)) ≡ true
    → is_whole (frame (layout_of placed) c).address (frame (layout_of placed) c).size ≡ true → frame_size h ≤ (frame (layout_of placed) c).size
    → ArePriced (carried x (price_in (block_in made)) (Copy c)) (helper_code h root c)
