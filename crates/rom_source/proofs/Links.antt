-- Where the outlined program stands for a state of the given one: what is under way with its trees outlined, and calls in place of the reads
-- of tables whose index is under way.
use Rattle.std.proofs.Common.{◌≡◌, ℕ, ◌+◌, ◌<◌, ◌⊎◌, Bool, true, false, List, [], ◌∷◌, length, Some}
use Rattle.std.specs.Prelude.{slice_get, map}
use Rattle.c_ints.specs.Range.{bytes_of}
use Rattle.c_ints.specs.declared.operators.BinOp.TheVariants as ops
use Rattle.c_ints.specs.declared.types.IntTy.{IntTy}
use Rattle.c_ints.specs.declared.types.IntTy.TheVariants as ints
use Rattle.c_typed.specs.Sameness.{same_type}
use Rattle.c_typed.specs.Trees as tree
use Rattle.c_typed.specs.Trees.{Expression, Expressions, Place, Item, Statement, Program, StaticTree, FunctionTree}
use Rattle.c_typed.specs.Types.{type_of}
use Rattle.c_typed.specs.declared.expression.Object.TheVariants as names
use Rattle.c_typed.specs.declared.types.Qualified.{Qualified}
use Rattle.c_typed.specs.declared.types.Ty.{Ty}
use Rattle.c_typed.specs.declared.types.Ty.TheVariants as types
use Rattle.rom_source.proofs.Adding.{added_expression, added_arguments, added_place, added_item, added_statement, added_statements, added_arm, added_arms, added_function}
use Rattle.rom_tables.specs.Outlined.{unsigned_int, to_unsigned, index_argument, element_type, element_qualified, row_of, reader_for, with_targets}
use Rattle.rom_tables.specs.Tables.{place_in, tables_of, is_table}
use Rattle.src_values.specs.Control as control
use Rattle.src_values.specs.Control.{Focus, Got, Nothing, Chosen, One, At, AtWith, Stores, Copies, Args, Passed, Called, Stage, Tests, Begins, Steps, Turns, Picks, InArm, Chooses, Fills, AtItem, Items, Blanks, Pending, In, To, Doing, Before, Returns, Resumes}
use Rattle.src_values.specs.Counting.{is_operator}
use Rattle.src_values.specs.Data as datum
use Rattle.src_values.specs.Data.{Datum}
use Rattle.src_values.specs.Memory.{Memory}
use Rattle.src_values.specs.Objects.{function_at, main_of, handler_in}
use Rattle.src_values.specs.declared.objects.Object.{Object}
use Rattle.src_values.specs.declared.objects.Object.TheVariants.{Fixed, Variable}
use Rattle.src_values.specs.declared.objects.Pointer.TheVariants.{Into}

-- ---- a read of a table
pub data Side : Type 0 where
  Left : Side
  Right : Side

-- the table by its place among all and by its number among the static objects, and the nodes of the read
pub record TableRead : Type 0 where
  pub table : ℕ
  pub object : ℕ
  pub object_ty : Qualified
  pub object_line : ℕ
  pub start_ty : Ty
  pub start_line : ℕ
  pub index : Expression
  pub size : ℕ
  pub sum_ty : Ty
  pub sum_line : ℕ
  pub place_ty : Qualified
  pub place_line : ℕ
  pub ty : Ty
  pub line : ℕ

abbrev pub name_of : TableRead → Place
name_of r = tree.Name (names.Static r.object) r.object_ty r.object_line

abbrev pub start_of : TableRead → Expression
start_of r = tree.Address (name_of r) r.start_ty r.start_line

abbrev pub sum_of : Side → TableRead → Expression
sum_of Left r = tree.Offset ops.Add (start_of r) r.index r.size r.sum_ty r.sum_line
sum_of Right r = tree.Offset ops.Add r.index (start_of r) r.size r.sum_ty r.sum_line

abbrev pub place_of : Side → TableRead → Place
place_of side r = tree.Deref (sum_of side r) r.place_ty r.place_line

abbrev pub read_at : Side → TableRead → Expression
read_at side r = tree.Read (place_of side r) r.ty r.line

-- a pointer to a byte of the table
abbrev pub pointer_at : TableRead → ℕ → Datum
pointer_at r offset = datum.Pointer (Into (Fixed r.object) offset)

-- what a sum has got where its index is under way
abbrev pub index_got : Side → TableRead → Got
index_got Left r = One (pointer_at r 0)
index_got Right r = Nothing

-- ---- what waits
-- a frame; or those of a sum whose index is under way, which may stand below the index's own conversion
pub data Link : Type 0 where
  Plain : Pending → Link
  Index : Side → TableRead → Link
  Converted : Side → TableRead → Expression → Ty → ℕ → Link

abbrev pub sum_frames : Side → TableRead → Got → List Pending → List Pending
sum_frames side r got k = In (sum_of side r) got ∷ To (place_of side r) ∷ In (read_at side r) Nothing ∷ k

unfoldable pub given : List Link → List Pending
given [] = []
given (Plain f ∷ ls) = f ∷ given ls
given (Index side r ∷ ls) = sum_frames side r (index_got side r) (given ls)
given (Converted side r e ty at ∷ ls) = In (tree.Convert e ty at) Nothing ∷ sum_frames side r (index_got side r) (given ls)

-- the outlined program, with this list of tables, and the number of its first reader
module _ (ts : List ℕ) (first : ℕ) where
  -- a node that waits keeps its kind
  abbrev pub opened : Expression → Expression
  opened (tree.Read place ty line) = tree.Read (added_place ts first place) ty line
  opened e = added_expression ts first e

  abbrev pub added_got : Got → Got
  added_got (Args before more) = Args before (added_arguments ts first more)
  added_got got = got

  abbrev pub added_stage : Stage → Stage
  added_stage (Picks arm more) = Picks (added_arm ts first arm) (added_arms ts first more)
  added_stage (InArm more) = InArm (added_arms ts first more)
  added_stage (AtItem item rest) = AtItem (added_item ts first item) (map (added_item ts first) rest)
  added_stage (Items item rest) = Items (added_item ts first item) (map (added_item ts first) rest)
  added_stage stage = stage

  abbrev pub added_focus : Focus → Focus
  added_focus (control.Eval e) = control.Eval (added_expression ts first e)
  added_focus (control.Find place) = control.Find (added_place ts first place)
  added_focus (control.Run t) = control.Run (added_statement ts first t)
  added_focus x = x

  abbrev pub added_frame : Pending → Pending
  added_frame (In e got) = In (opened e) (added_got got)
  added_frame (To place) = To (added_place ts first place)
  added_frame (Doing t stage) = Doing (added_statement ts first t) (added_stage stage)
  added_frame (Before ss) = Before (added_statements ts first ss)
  added_frame (Returns c) = Returns c
  added_frame (Resumes c x) = Resumes c (added_focus x)

  -- the call of the reader, with this index
  abbrev pub call_of : TableRead → Expression
  call_of r = tree.Call (first + r.table) (tree.AndExpression (index_argument (added_expression ts first r.index) r.line) tree.NoExpression) r.ty r.line

  -- its argument waits, converted or not
  abbrev pub asking : Bool → Expression → ℕ → Expression → List Pending → List Pending
  asking true e line call k = In call (Args [] tree.NoExpression) ∷ k
  asking false e line call k = In (tree.Convert e unsigned_int line) Nothing ∷ In call (Args [] tree.NoExpression) ∷ k

  unfoldable pub made : List Link → List Pending
  made [] = []
  made (Plain f ∷ ls) = added_frame f ∷ made ls
  made (Index side r ∷ ls) = asking (same_type (type_of (added_expression ts first r.index)) unsigned_int) (added_expression ts first r.index) r.line (call_of r) (made ls)
  made (Converted side r e ty at ∷ ls) = asking (same_type (type_of (added_expression ts first e)) unsigned_int) (added_expression ts first e) at (call_of r) (made ls)

-- ---- the two programs
-- a program with these types that are pointed to and these functions in place of its own
abbrev pub with_parts : Program → List Qualified → List FunctionTree → Program
with_parts p rows fs = record { targets = rows; structures = p.structures; sizes = p.sizes; statics = p.statics; functions = fs }

-- What is used of the outlined program: types that are pointed to stay, functions are outlined, and behind them stand the readers.
pub record IsMade (p : Program) (rows : List Qualified) (fs : List FunctionTree) : Type 0 where
  pub rows_stay : (n : ℕ) (q : Qualified) → slice_get p.targets n ≡ Some q → slice_get rows n ≡ Some q
  pub functions : (f : ℕ) → f < length p.functions → function_at (with_parts p rows fs) f ≡ added_function (tables_of p) (length p.functions) (function_at p f)
  pub handler : handler_in (with_parts p rows fs) ≡ handler_in p
  pub main : main_of (with_parts p rows fs) ≡ main_of p
  pub readers : (n t : ℕ) (s : StaticTree) → place_in n 0 (tables_of p) ≡ Some t → slice_get p.statics n ≡ Some s
      → function_at (with_parts p rows fs) (length p.functions + t) ≡ reader_for (with_targets p (tables_of p)) n s
  -- a reader reads elements of the table's type, and in it the table's start takes no step
  pub elements : (n t : ℕ) (s : StaticTree) → place_in n 0 (tables_of p) ≡ Some t → slice_get p.statics n ≡ Some s → element_type (with_targets p (tables_of p)) s ≡ element_type p s
  pub starts : (n t : ℕ) (s : StaticTree) → place_in n 0 (tables_of p) ≡ Some t → slice_get p.statics n ≡ Some s
      → is_operator (with_parts p rows fs) s.ty.ty (types.Pointer (row_of (with_targets p (tables_of p)) (element_qualified (with_targets p (tables_of p)) s))) ≡ false

-- ---- what is known of a read of a table
pub record IsTableRead (p : Program) (r : TableRead) : Type 0 where
  pub static : StaticTree
  pub there : slice_get p.statics r.object ≡ Some static
  pub table : is_table p static ≡ true
  pub place : place_in r.object 0 (tables_of p) ≡ Some r.table
  pub element : IntTy
  pub ty : r.ty ≡ types.Int element
  pub element_is : element_type p static ≡ types.Int element
  pub one : bytes_of element ≡ 1
  pub size : r.size ≡ 1
  pub index : (type_of r.index ≡ types.Int ints.Int) ⊎ (type_of r.index ≡ types.Int ints.UInt)
  -- its start takes no step
  pub plain : is_operator p r.object_ty.ty r.start_ty ≡ false

-- each copy that waits is one of a function of the given program
abbrev pub IsFrame : Program → Pending → Type 0
IsFrame p (Returns c) = c.function < length p.functions
IsFrame p (Resumes c x) = c.function < length p.functions
IsFrame p _ = Unit {0}

abbrev pub IsLink : Program → Link → Type 0
IsLink p (Plain f) = IsFrame p f
IsLink p (Index side r) =
    IsTableRead p r × (index_argument (added_expression (tables_of p) (length p.functions) r.index) r.line ≡ to_unsigned (added_expression (tables_of p) (length p.functions) r.index) r.line)
IsLink p (Converted side r e ty at) = IsTableRead p r × (r.index ≡ tree.Convert e ty at)

unfoldable pub AreLinks : Program → List Link → Type 0
AreLinks p [] = Unit {0}
AreLinks p (l ∷ ls) = IsLink p l × AreLinks p ls

-- the same bytes in all objects but the variables of readers
abbrev pub IsOwn : Program → Object → Type 0
IsOwn p (Fixed n) = Unit {0}
IsOwn p (Variable c n) = c.function < length p.functions

abbrev pub Agree : Program → Memory → Memory → Type 0
Agree p m n = (object : Object) (at : ℕ) → IsOwn p object → n object at ≡ m object at

-- no index of a table is under way
abbrev pub IsPlain : List Link → Type 0
IsPlain (Index side r ∷ ls) = ⊥
IsPlain (Converted side r e ty at ∷ ls) = ⊥
IsPlain _ = Unit {0}

-- what is left when the function is left
abbrev pub unwound_links : List Link → List Link
unwound_links (Plain (Before ss) ∷ ls) = unwound_links ls
unwound_links (Plain (Doing t Turns) ∷ ls) = unwound_links ls
unwound_links (Plain (Doing t (InArm more)) ∷ ls) = unwound_links ls
unwound_links ls = ls
