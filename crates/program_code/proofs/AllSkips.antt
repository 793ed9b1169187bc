-- Selects can be put into each block of a program.
use Rattle.std.proofs.Common.{◌≡◌, ℕ, ◌+◌, ◌∷◌, inl, inr, Bool, true, List, [], length, map, Option, Some, None, refl, sym, ap, ◌∙◌, subst}
use Rattle.std.specs.List.{All}
use Rattle.c_typed.specs.Trees.{FunctionTree, Program}
use Rattle.c_typed.specs.declared.calls.FnId.{FnId}
use Rattle.c_typed.specs.declared.calls.FnId.TheVariants as callees
use Rattle.call_graph.specs.Numbers.{handler_at}
use Rattle.call_graph.specs.declared.types.FnCopy.{FnCopy}
use Rattle.core_code.specs.Tree.{Tree, trees_of}
use Rattle.core_code.specs.View.{trees_in}
use Rattle.core_code.specs.declared.code.Body.{Body}
use Rattle.core_code.specs.declared.code.CoreProgram.{CoreProgram}
use Rattle.lower_stmt.specs.Bodies.{body_of, code_of, bodies_of}
use Rattle.math_helpers.specs.Routines.{helper_code}
use Rattle.math_helpers.specs.Shape.{frame_size}
use Rattle.math_helpers.proofs.Shapes.{code_is_own}
use Rattle.pic_map.specs.declared.Placed.{Placed}
use Rattle.pic_world.specs.declared.Root.{Root}
use Rattle.program_code.specs.Joined.{IsJoined}
use Rattle.isr_save.specs.Start.{start_code}
use Rattle.select_wide.specs.Blocks.{body_at, block_code, code_by, ending_at}
use Rattle.select_wide.specs.Selection.{wide_code}
use Rattle.sym_code.specs.declared.code.Sym.{Sym}
use Rattle.sym_code.specs.declared.code.SymBlock.{SymBlock}
use Rattle.bank_page.specs.Ready.{are_ready, CanSelect}
use Rattle.program_code.specs.Close.{is_own, is_frames, all_close}
use Rattle.program_code.specs.Skips.{BodiesArePaired, RoutinesArePaired, StartIsPaired, PairedIsReady, AreThere, NamesBytes, FramesAreWhole, BlocksCanSelect}
use Rattle.program_code.specs.Paired.{are_paired}
use Rattle.program_code.proofs.StartSkips.{start_paired}
use Rattle.program_code.proofs.BlockSkips.{code_for, is_of, of_body}
use Rattle.program_code.proofs.BodySkips.{body_fine, helper_paired}
use Rattle.program_code.proofs.SkipMembers.{Has, each}
use Rattle.program_code.proofs.PlacedSkips.{bank, own_places, routine_places, no_home, any_places}
use Rattle.program_code.proofs.ReadySkips.{all_ready}
use Rattle.program_code.proofs.RowSkips.{wide_fine}
use Rattle.program_code.proofs.StatementSkips.{function_close}

-- ---- bodies
close_paired : (copies : List FnCopy) (n block : ℕ) (body : Body) → all_close n (trees_of (trees_in body.code.items)) ≡ true → are_paired (is_own n) (block_code copies block body) ≡ true
close_paired copies n block body close =
    body_fine n (λ at before tree. wide_code copies body.root before tree) (λ at before t h. wide_fine n copies body.root before t h) (ending_at (handler_at copies) block) 0 (trees_in body.code.items) close

pub bodies_are_paired : BodiesArePaired
bodies_are_paired p copies number block f body lowered = close_paired copies number block body (ap (λ (list : List Tree). all_close number (trees_of list)) lowered ∙ function_close p copies number body.root f)

pub routines_are_paired : RoutinesArePaired
routines_are_paired h root copy = helper_paired h root copy

pub start_is_paired : StartIsPaired
start_is_paired home handler statics = start_paired home handler statics

pub paired_is_ready : PairedIsReady
paired_is_ready placed home number list places paired = all_ready placed home number list places paired

-- ---- a whole program
code_close : (p : Program) (copies : List FnCopy) (n : ℕ) (root : Root) (found : Option FunctionTree) → all_close n (trees_of (code_of p copies n root found)) ≡ true
code_close p copies n root None = refl
code_close p copies n root (Some f) = function_close p copies n root f

module _ (p : Program) (copies : List FnCopy) (core : CoreProgram) (given : List SymBlock) (placed : Placed) (lowered : map body_of core.bodies.items ≡ bodies_of p copies)
    (joined : IsJoined core copies given) (whole : FramesAreWhole placed) where
  start_ready : (b : SymBlock) → joined.start ≡ b → AreThere placed b.list.items → are_ready placed b.list.items ≡ true
  start_ready b same there =
      let code : b.list.items ≡ start_code (handler_at copies) core.statics.items = ap (λ (x : SymBlock). x.list.items) (sym same) ∙ joined.exact in
      all_ready placed no_home 0 b.list.items (any_places placed b.list.items there) (ap (are_paired no_home) code ∙ start_paired no_home (handler_at copies) core.statics.items)

  body_ready : (number : ℕ) (o : Option Body) → body_at core.bodies.items number ≡ o → (list : List Sym) → list ≡ code_by copies number o → AreThere placed list → are_ready placed list ≡ true
  body_ready number None at list is there = ap (are_ready placed) is
  body_ready number (Some body) at list is there =
      let o = of_body p copies core.bodies.items lowered number body at in
      let close = ap (λ (l : List Tree). all_close o.number (trees_of l)) o.is ∙ code_close p copies o.number body.root o.found in
      all_ready placed (is_own o.number) (bank placed whole o.number) list (own_places placed whole o.number list there) (ap (are_paired (is_own o.number)) is ∙ close_paired copies o.number number body close)

  copy_ready : (number : ℕ) (root : Root) (f : FnId) (list : List Sym) → list ≡ code_for core.bodies.items copies number root f → AreThere placed list → are_ready placed list ≡ true
  copy_ready number root (callees.User f) list is there = body_ready number (body_at core.bodies.items number) refl list is there
  copy_ready number root (callees.Helper h) list is there =
      let there_code = subst (AreThere placed) is there in
      ap (are_ready placed) is
      ∙ all_ready placed is_frames (bank placed whole number) (helper_code h root number) (routine_places placed whole root number (frame_size h) (helper_code h root number) (code_is_own h root number) there_code) (helper_paired h root number)

  block_ready : (b : SymBlock) → Has (joined.start ∷ joined.order) b → NamesBytes placed b → CanSelect placed b
  block_ready b (inl same) there = start_ready b same there
  block_ready b (inr h) there = let o = is_of core copies given joined b h in copy_ready o.number o.root o.function b.list.items o.is there

pub blocks_can_select : BlocksCanSelect
blocks_can_select p copies core given placed lowered joined whole there =
    each (NamesBytes placed) (CanSelect placed) given there (λ b h names. block_ready p copies core given placed lowered joined whole b (subst (λ bs. Has bs b) joined.whole h) names)
