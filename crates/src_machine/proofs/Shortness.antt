-- Lists of the trees that the code has are those of vectors, so they are short.
use Rattle.std.proofs.Common.{◌≡◌, ◌<◌, List, [], ◌∷◌, Option, Some, None, map, drop, length, refl, sym, subst, arith, length-drop}
use Rattle.std.proofs.lemmas.List.{length-map}
use Rattle.c_typed.specs.Trees as tree
use Rattle.c_typed.specs.Trees.{Statement, Arm}
use Rattle.c_typed.specs.Views as views
use Rattle.c_typed.specs.Views.{item_of, statement_of, arm_of, statements_of}
use Rattle.c_typed.specs.declared.statement.TArm.{TArm}
use Rattle.c_typed.specs.declared.statement.TStmt.{TStmt}
use Rattle.c_typed.specs.declared.statement.TStmt.TheOpen as OpenStmt
use Rattle.c_typed.specs.declared.statement.TStmt.TheFolds.{map-TStmt, ind-TStmt, fold-roll-TStmt}
use Rattle.src_machine.proofs.Light.{HasShortList, AreShort, count_in, IsShort, FewAreLeft}
use Rattle.src_values.specs.Seen.{items_in, found_at, or_empty, statement_in, lost, at_item_of, items_of, picks_of, arms_from, arms_in, stage_in}
use Rattle.src_values.specs.declared.control.Code.{Code}
use Rattle.src_values.specs.declared.control.Stage.{Stage}
use Rattle.src_values.specs.declared.control.Stage.TheVariants as stages

list_layer : (x : OpenStmt.TStmt-F TStmt TArm) → HasShortList (views.statement_step (map-TStmt TStmt TArm Statement Arm statement_of arm_of x))
list_layer (OpenStmt.InitList local list line) = let d = length-map list.items item_of in let o = list.ok in let s = list.small in omega arith
list_layer (OpenStmt.Block statements line) = omega arith
list_layer _ = omega arith

pub has_short_list : (t : TStmt) → HasShortList (statement_of t)
unfolding statement_of arm_of
has_short_list = ind-TStmt (λ t. HasShortList (statement_of t)) (λ a. Unit {0})
    (λ x y is. subst HasShortList (sym (fold-roll-TStmt Statement Arm views.statement_step views.arm_step x)) (list_layer x))
    (λ x y is. tt)

pub are_short : (ts : List TStmt) → AreShort (statements_of (map statement_of ts))
are_short [] = tt
are_short (t ∷ ts) = (has_short_list t, are_short ts)

pub counted : (ts : List TStmt) → count_in (statements_of (map statement_of ts)) ≡ length ts
counted [] = refl
counted (t ∷ ts) = let i = counted ts in omega arith

short_layer : (x : OpenStmt.TStmt-F TStmt TArm) → IsShort (views.statement_step (map-TStmt TStmt TArm Statement Arm statement_of arm_of x))
short_layer (OpenStmt.Switch value cases default statements line) =
    (are_short statements.items, let d = counted statements.items in let o = statements.ok in let s = statements.small in omega arith)
short_layer _ = tt

pub is_short : (t : TStmt) → IsShort (statement_of t)
unfolding statement_of arm_of
is_short = ind-TStmt (λ t. IsShort (statement_of t)) (λ a. Unit {0})
    (λ x y is. subst IsShort (sym (fold-roll-TStmt Statement Arm views.statement_step views.arm_step x)) (short_layer x))
    (λ x y is. tt)

-- ---- a statement at a place of the code
found_short : (o : Option TStmt) → HasShortList (or_empty o) × IsShort (or_empty o)
found_short None = (omega arith, tt)
found_short (Some t) = (has_short_list t, is_short t)

pub code_short : (code : Code) → HasShortList (statement_in code) × IsShort (statement_in code)
code_short code = found_short (found_at code)

-- ---- the items that are left
lost_left : (t : Statement) → FewAreLeft (lost t)
lost_left (tree.InitScalar local e line) = tt
lost_left _ = tt

item_left : (t : Statement) (items : List tree.Item) → length items < 9223372036854775808 → FewAreLeft (at_item_of t items) × FewAreLeft (items_of t items)
item_left t [] h = (lost_left t, lost_left t)
item_left t (item ∷ items) h = (omega arith, omega arith)

picks_left : (t : Statement) (more : tree.Arms) → FewAreLeft (picks_of t more)
picks_left t tree.NoArm = lost_left t
picks_left t (tree.AndArm arm more) = tt

pub stage_left : (t : Statement) (stage : Stage) → HasShortList t → FewAreLeft (stage_in t stage)
stage_left t stages.Tests h = tt
stage_left t stages.Begins h = tt
stage_left t stages.Steps h = tt
stage_left t stages.Turns h = tt
stage_left t (stages.Picks at) h = picks_left t (arms_from at (arms_in t))
stage_left t (stages.InArm at) h = tt
stage_left t stages.Chooses h = tt
stage_left t stages.Fills h = tt
stage_left t (stages.AtItem at) h = (item_left t (drop at (items_in t)) (let d = length-drop at (items_in t) in omega arith)).0
stage_left t (stages.Items at) h = (item_left t (drop at (items_in t)) (let d = length-drop at (items_in t) in omega arith)).1
stage_left t stages.Blanks h = tt
