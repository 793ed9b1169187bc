-- What the link of selection is given of a program whose passes all answered: which copies chains of calls lead to, how deep they go,
-- and what instructions cost.
use Rattle.std.specs.Prelude.{ℕ, suc, zero, ◌≡◌, ◌≤◌, Bool, true, false, not, ◌&&◌, ◌||◌, nat_eq, nat_lt, if◌then◌else◌, List, [], ◌∷◌, map, Option, Some, None, get_or, slice_get, length}
use Rattle.std.specs.List.{list_any}
use Rattle.c_ints.specs.declared.operators.BinOp.{BinOp}
use Rattle.c_ints.specs.declared.types.IntTy.{IntTy}
use Rattle.c_typed.specs.Calls.{int_helper}
use Rattle.c_typed.specs.Chains.{graph_of, number_of}
use Rattle.c_typed.specs.Trees.{Program}
use Rattle.c_typed.specs.declared.calls.FnId.TheVariants as callees
use Rattle.c_typed.specs.declared.calls.Helper.{Helper}
use Rattle.call_graph.specs.Numbers.{handler_at, copy_of}
use Rattle.call_graph.specs.declared.types.FnCopy.{FnCopy}
use Rattle.core_code.specs.Bytes.{Object}
use Rattle.core_code.specs.declared.code.CoreProgram.{CoreProgram}
use Rattle.lower_stmt.specs.Programs.{core_of}
use Rattle.math_helpers.specs.Routines.{helper_code}
use Rattle.math_helpers.specs.Shape.{ArePriced}
use Rattle.pic_map.specs.MapView.{object_of, frame_of}
use Rattle.pic_map.specs.declared.Placed.{Placed}
use Rattle.pic_world.specs.declared.Root.{Root}
use Rattle.ram_place.specs.Placement.{IsPlacing}
use Rattle.select_wide.specs.Blocks.{is_user}
use Rattle.select_wide.specs.Links.{AreDear, HasLevels, IsSelected, is_inside}
use Rattle.sym_code.specs.Marks.{is_marked}
use Rattle.sym_code.specs.Programs.{block_in}
use Rattle.sym_code.specs.declared.code.BlockName.{BlockName}
use Rattle.sym_code.specs.declared.code.BlockName.TheVariants.{Copy}
use Rattle.sym_code.specs.declared.code.Sym.{Sym}
use Rattle.sym_code.specs.declared.code.SymBlock.{SymBlock}
use Rattle.bank_page.specs.Links.{price_in}
use Rattle.lean_code.specs.Clear.{IsClear}
use Rattle.chip_trace.specs.Arriving.{depth_for}
use Rattle.code_place.specs.Layouts.{layout_of}
use Rattle.program_code.specs.Passed.{IsPassed}
use Rattle.program_code.specs.Translated.{HasCalls, IsSpread}
use Rattle.headline_trace.specs.Linked.{LeanFollows, program_with, bare_setting}

-- ---- chains of calls
-- a chain of at most so many calls leads from one number of a graph to another
unfoldable pub leads : List (List ℕ) → ℕ → ℕ → ℕ → Bool
leads graph zero f g = nat_eq f g
leads graph (suc n) f g = nat_eq f g || list_any (λ h. leads graph n h g) (get_or graph f [])

-- one of no more calls than the return stack has words leads from one copy to the other
abbrev pub reach_of : Program → Option FnCopy → Option FnCopy → Bool
reach_of p None b = false
reach_of p (Some a) None = false
reach_of p (Some a) (Some b) = leads (graph_of p) 8 (number_of (length p.functions) a.function) (number_of (length p.functions) b.function)

unfoldable pub reaches_in : Program → List FnCopy → ℕ → ℕ → Bool
reaches_in p copies c d = reach_of p (slice_get copies c) (slice_get copies d)

-- ---- levels
-- the level of the copy of a number
abbrev pub level_of : Option FnCopy → ℕ
level_of None = 0
level_of (Some copy) = copy.level

abbrev pub level_in : List FnCopy → ℕ → ℕ
level_in copies c = level_of (slice_get copies c)

-- the copy runs inside the handler, or outside
abbrev pub is_under : Bool → Root → Bool
is_under true root = is_inside root
is_under false root = not (is_inside root)

-- the highest level of a copy inside the handler, or outside
unfoldable pub highest : Bool → List FnCopy → ℕ
highest inside [] = 0
highest inside (copy ∷ list) = if is_under inside copy.root && nat_lt (highest inside list) copy.level then copy.level else highest inside list

abbrev pub limit_of : List FnCopy → Bool → ℕ
limit_of copies inside = highest inside copies

-- ---- what follows
-- The leaner code follows the code that was selected, whose instructions cost what the link of selection allows for those of functions
-- and of helpers' routines, and of which those that no pass leaves out surely stay.
pub record IsLeanLink (p : Program) (copies : List FnCopy) (lent : Object → Bool) (given lean made : List SymBlock) (placed : Placed) (at : List ℕ) : Type 0 where
  pub price : BlockName → ℕ → ℕ
  pub sure : BlockName → ℕ → ℕ
  -- the bytes that no access through FSR may reach: none of an object that is lent
  pub hidden : ℕ → Bool
  pub clear : IsClear hidden (layout_of placed) lent
  pub keeps : LeanFollows hidden (bare_setting given made (handler_at copies) placed at (limit_of copies)) (bare_setting lean made (handler_at copies) placed at (limit_of copies)) price sure (price_in (block_in made))
  pub prices : (c : ℕ) (copy : FnCopy) → slice_get copies c ≡ Some copy → is_user copy.function ≡ true → AreDear (layout_of placed) (price (Copy c)) (block_in given (Copy c))
  pub routine_prices : (c : ℕ) (copy : FnCopy) (h : Helper) → slice_get copies c ≡ Some copy → copy.function ≡ callees.Helper h → ArePriced (price (Copy c)) (helper_code h copy.root c)
  pub sures : (c : ℕ) (copy : FnCopy) → slice_get copies c ≡ Some copy → is_user copy.function ≡ true → (n : ℕ) (s : Sym) → slice_get (block_in given (Copy c)) n ≡ Some s
      → is_marked (core_of p copies).variable_bytes s ≡ true → 1 ≤ sure (Copy c) n

abbrev pub LeanIsHad : Type 0
LeanIsHad =
    (p : Program) (copies : List FnCopy) (core : CoreProgram) (given made : List SymBlock) (placed : Placed) (at : List ℕ) (passed : IsPassed p copies core given made placed at)
    → IsPlacing p copies (map object_of placed.objects.items) (map frame_of placed.frames.items) → IsLeanLink p copies passed.blocks.lent given passed.lean made placed at

-- Chains of calls between copies go on, and each call of a function or of a helper's routine is one.
pub record IsReaching (p : Program) (copies : List FnCopy) : Type 0 where
  pub on : (c d e : ℕ) → reaches_in p copies c d ≡ true → reaches_in p copies d e ≡ true → reaches_in p copies c e ≡ true
  pub called : (c d : ℕ) → (core_of p copies).calls c d ≡ true → reaches_in p copies c d ≡ true
  pub routine : (c d : ℕ) (op : BinOp) (ty : IntTy) (h : Helper) → (core_of p copies).helped c op ty ≡ true → int_helper op false ty ≡ Some h → copy_of copies ((core_of p copies).root c) h ≡ Some d
      → reaches_in p copies c d ≡ true

abbrev pub ReachIsHad : Type 0
ReachIsHad = (p : Program) (copies : List FnCopy) → HasCalls p copies → IsReaching p copies

-- Calls go up by the levels of copies, and their highest levels fit the return stack.
abbrev pub LevelsAreHad : Type 0
LevelsAreHad = (p : Program) (copies : List FnCopy) → HasCalls p copies → HasLevels (core_of p copies) copies (limit_of copies) (level_in copies)

abbrev pub DepthIsHad : Type 0
DepthIsHad = (p : Program) (copies : List FnCopy) → HasCalls p copies → depth_for (handler_at copies) (limit_of copies) ≤ 8

-- All that the link of selection is given.
abbrev pub SelectionIsHad : Type 0
SelectionIsHad =
    (p : Program) (copies : List FnCopy) (core : CoreProgram) (given made : List SymBlock) (placed : Placed) (at : List ℕ)
    (passed : IsPassed p copies core given made placed at) → HasCalls p copies → IsSpread p copies placed → (link : IsLeanLink p copies passed.blocks.lent given passed.lean made placed at)
    → IsSelected (program_with p copies core.bodies.items) copies core.bodies.items (reaches_in p copies) (bare_setting given made (handler_at copies) placed at (limit_of copies)) link.price link.sure
