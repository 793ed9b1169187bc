-- Each micro-step keeps that no pointer leads to a const static object: expressions and places.
use Rattle.std.proofs.Common.{◌≡◌, ℕ, Bool, true, false, ◌||◌, if◌then◌else◌, List, [], ◌∷◌, ◌++◌, Option, Some, None, pos, refl, sym, subst, ⊎_elim}
use Rattle.std.proofs.lemmas.Bool.{false≢true}
use Rattle.std.specs.Prelude.{ℤ, int_div, nat_eq, not, ◌-ℤ◌}
use Rattle.c_ints.specs.Operators.{comparison, cut_to}
use Rattle.c_ints.specs.declared.operators.BinOp.{BinOp}
use Rattle.c_ints.specs.declared.operators.BinOp.TheVariants as ops
use Rattle.c_ints.specs.declared.operators.UnOp.{UnOp}
use Rattle.c_ints.specs.declared.types.IntTy.TheVariants as int
use Rattle.c_typed.specs.Fits.{is_local_name}
use Rattle.c_typed.specs.Trees as tree
use Rattle.c_typed.specs.Trees.{Expression, Expressions, Place, Program, Statement}
use Rattle.c_typed.specs.declared.expression.LogicalOp.{LogicalOp}
use Rattle.c_typed.specs.declared.expression.Object.TheVariants as names
use Rattle.c_typed.specs.declared.types.Ty.{Ty}
use Rattle.c_typed.specs.declared.types.Ty.TheVariants as types
use Rattle.pic_world.specs.World.{World}
use Rattle.src_rules.specs.Accesses.{fetching}
use Rattle.src_rules.specs.Expressions.{arguments, eval, find, address, takes, found_in, at_member, member_of, found_to, found_for, found}
use Rattle.src_rules.specs.Giving.{answered, used, branch, logical, truth_given, changes, take_in, deref, take_to}
use Rattle.src_rules.specs.Parts.{IsPlaceOf}
use Rattle.src_rules.specs.Standing.{IsSpotOf, WaitsForPlace}
use Rattle.src_rules.specs.State.{Outcome}
use Rattle.src_values.specs.Control.{Eval, Find, Found, Holds, Got, Nothing, Chosen, One, At, AtWith, Args, Stage, AtItem, Pending, In, To, Doing, Before, Returns, Resumes}
use Rattle.src_values.specs.Data.{Datum, Number, Pointer, Missing}
use Rattle.src_values.specs.Memory.{Memory}
use Rattle.src_values.specs.Objects.{moved, same_object, spot_of}
use Rattle.src_values.specs.Values as answers
use Rattle.src_values.specs.Values.{Answer, apart, as_integer, as_pointer, bad_right, binary_answer, change_answer, changed_by, converted, decides, difference_answer, equality, offset_answer, on_pointers, on_values, number_or_overflow, operated, order, pointer_or_outside, then_converted, truth_of, unary_answer, unless_bad, unless_undefined}
use Rattle.src_values.specs.declared.objects.Byte.{Byte}
use Rattle.src_values.specs.declared.objects.CopyOf.{CopyOf}
use Rattle.src_values.specs.declared.objects.Pointer as pointer
use Rattle.src_values.specs.declared.objects.Pointer.TheVariants.{Null, Into}
use Rattle.src_values.specs.declared.objects.Spot.{Spot}
use Rattle.src_values.specs.declared.objects.Spot.TheVariants as spots
use Rattle.src_values.specs.declared.objects.Undef.TheVariants.{Order}
use Rattle.lower_trace.proofs.CodeLeft.{Scene, source_in}
use Rattle.lower_trace.proofs.OpenTrees.{AllOpen, AreOpen, IsTarget, closed_place, is_closed}
use Rattle.lower_trace.proofs.Opens.{AreOpenData, FocusOpen, IsOpenDatum, IsOpenPointer, IsOpenSpot, KeepsOpen, MemoryOpen, Only, SpotIf, StackOpen, closed_for, closed_sought, data_appended, datum_any, datum_of, datum_when, moved_open, name_open, only_none, only_not, only_same, or_none, spot_any, spot_of_if, spot_when}

-- ---- what operators give
abbrev pub AnswerOpen : Program → Answer → Type 0
AnswerOpen p (answers.Gives v) = IsOpenDatum p v
AnswerOpen p (answers.Fails kind) = Unit {0}
AnswerOpen p answers.Strays = Unit {0}

integer_open : (p : Program) (ty : _) (v : Datum) → AnswerOpen p (as_integer ty v)
integer_open p ty (Number q) = tt
integer_open p ty (Pointer x) = tt
integer_open p ty Missing = tt

pointer_open : (p : Program) (v : Datum) → IsOpenDatum p v → AnswerOpen p (as_pointer v)
pointer_open p (Number q) h = tt
pointer_open p (Pointer x) h = h
pointer_open p Missing h = tt

converted_open : (p : Program) (ty : Ty) (v : Datum) → IsOpenDatum p v → AnswerOpen p (converted ty v)
unfolding converted
converted_open p types.Void v h = tt
converted_open p (types.Int ty) v h = integer_open p ty v
converted_open p (types.Pointer row) v h = pointer_open p v h
converted_open p (types.Array element length size) v h = tt
converted_open p (types.Struct number) v h = tt

unary_open : (p : Program) (op : UnOp) (v : Datum) → AnswerOpen p (unary_answer op v)
unfolding unary_answer
unary_open p op (Number q) = tt
unary_open p op (Pointer x) = tt
unary_open p op Missing = tt

either_answer : (p : Program) (b : Bool) (x y : Answer) → AnswerOpen p x → AnswerOpen p y → AnswerOpen p (if b then x else y)
either_answer p true x y h g = h
either_answer p false x y h g = g

quotient_open : (p : Program) (o : _) → AnswerOpen p (number_or_overflow o)
quotient_open p (Some q) = tt
quotient_open p None = tt

unless_open : (p : Program) (o : _) (holds : Bool) → AnswerOpen p (unless_undefined o holds)
unless_open p (Some kind) holds = tt
unless_open p None holds = tt

equality_open : (p : Program) (live : List CopyOf) (turned : Bool) (x y : pointer.Pointer) → AnswerOpen p (equality p live turned x y)
equality_open p live turned Null Null = tt
equality_open p live turned Null (Into b g) = tt
equality_open p live turned (Into a f) Null = tt
equality_open p live turned (Into a f) (Into b g) = either_answer p (same_object a b) (answers.Gives (answers.truth_value (if nat_eq f g then not turned else turned))) (unless_undefined (apart p live a f b g) turned) tt (unless_open p (apart p live a f b g) turned)

order_open : (p : Program) (op : BinOp) (x y : pointer.Pointer) → AnswerOpen p (order op x y)
order_open p op (Into a f) (Into b g) = either_answer p (same_object a b) (answers.Gives (answers.truth_value (comparison op (pos f) (pos g)))) (answers.Fails Order) tt tt
order_open p op (Into a f) Null = tt
order_open p op Null y = tt

pointers_open : (p : Program) (live : List CopyOf) (op : BinOp) (x y : pointer.Pointer) → AnswerOpen p (on_pointers p live op x y)
pointers_open p live ops.Eq x y = equality_open p live false x y
pointers_open p live ops.Ne x y = equality_open p live true x y
pointers_open p live op x y = order_open p op x y

values_open : (p : Program) (live : List CopyOf) (op : BinOp) (u v : Datum) → AnswerOpen p (on_values p live op u v)
values_open p live op (Number a) (Number b) = quotient_open p _
values_open p live op (Pointer x) (Pointer y) = pointers_open p live op x y
values_open p live op (Number a) (Pointer y) = tt
values_open p live op (Number a) Missing = tt
values_open p live op (Pointer x) (Number b) = tt
values_open p live op (Pointer x) Missing = tt
values_open p live op Missing (Number b) = tt
values_open p live op Missing (Pointer y) = tt
values_open p live op Missing Missing = tt

bad_open : (p : Program) (o : _) (a : Answer) → AnswerOpen p a → AnswerOpen p (unless_bad o a)
bad_open p (Some kind) a h = tt
bad_open p None a h = h

binary_open : (p : Program) (live : List CopyOf) (op : BinOp) (ty : Ty) (u v : Datum) → AnswerOpen p (binary_answer p live op ty u v)
unfolding binary_answer
binary_open p live op ty u v = bad_open p (bad_right op ty v) (on_values p live op u v) (values_open p live op u v)

-- a pointer that is moved
outside_open : (p : Program) (x : pointer.Pointer) (by : ℤ) (o : Option pointer.Pointer) → moved p x by ≡ o → IsOpenPointer p x → AnswerOpen p (pointer_or_outside o)
outside_open p x by (Some y) e h = moved_open p x y by e h
outside_open p x by None e h = tt

offset_open : (p : Program) (op : BinOp) (size : ℕ) (u v : Datum) → IsOpenDatum p u → IsOpenDatum p v → AnswerOpen p (offset_answer p op size u v)
unfolding offset_answer
offset_open p op size (Pointer x) (Number q) h g = outside_open p x _ (moved p x _) refl h
offset_open p op size (Number q) (Pointer x) h g = outside_open p x _ (moved p x _) refl g
offset_open p op size (Number q) (Number r) h g = tt
offset_open p op size (Number q) Missing h g = tt
offset_open p op size (Pointer x) (Pointer y) h g = tt
offset_open p op size (Pointer x) Missing h g = tt
offset_open p op size Missing (Number r) h g = tt
offset_open p op size Missing (Pointer y) h g = tt
offset_open p op size Missing Missing h g = tt

difference_open : (p : Program) (size : ℕ) (u v : Datum) → AnswerOpen p (difference_answer size u v)
unfolding difference_answer
difference_open p size (Pointer (Into a f)) (Pointer (Into b g)) = either_answer p (same_object a b) (answers.Gives (Number (cut_to int.Int (int_div (pos f -ℤ pos g) (pos size))))) (answers.Fails Order) tt tt
difference_open p size (Pointer (Into a f)) (Pointer Null) = tt
difference_open p size (Pointer Null) (Pointer y) = tt
difference_open p size (Pointer (Into a f)) (Number r) = tt
difference_open p size (Pointer Null) (Number r) = tt
difference_open p size (Pointer (Into a f)) Missing = tt
difference_open p size (Pointer Null) Missing = tt
difference_open p size (Number q) (Number r) = tt
difference_open p size (Number q) (Pointer y) = tt
difference_open p size (Number q) Missing = tt
difference_open p size Missing (Number r) = tt
difference_open p size Missing (Pointer y) = tt
difference_open p size Missing Missing = tt

-- the new value of a place
then_open : (p : Program) (ty : Ty) (a : Answer) → AnswerOpen p a → AnswerOpen p (then_converted ty a)
then_open p ty (answers.Gives v) h = converted_open p ty v h
then_open p ty (answers.Fails kind) h = tt
then_open p ty answers.Strays h = tt

operated_open : (p : Program) (live : List CopyOf) (op : BinOp) (ty : Ty) (a : Answer) (u : Datum) → AnswerOpen p (operated p live op ty a u)
operated_open p live op ty (answers.Gives v) u = binary_open p live op ty v u
operated_open p live op ty (answers.Fails kind) u = tt
operated_open p live op ty answers.Strays u = tt

changed_open : (p : Program) (live : List CopyOf) (op : BinOp) (size : ℕ) (operation : Ty) (old u : Datum) → IsOpenDatum p old → IsOpenDatum p u → AnswerOpen p (changed_by p live op size operation old u)
changed_open p live op size (types.Pointer row) old u h g = offset_open p op size old u h g
changed_open p live op size types.Void old u h g = operated_open p live op types.Void (converted types.Void old) u
changed_open p live op size (types.Int t) old u h g = operated_open p live op (types.Int t) (converted (types.Int t) old) u
changed_open p live op size (types.Array element length bytes) old u h g = operated_open p live op (types.Array element length bytes) (converted (types.Array element length bytes) old) u
changed_open p live op size (types.Struct number) old u h g = operated_open p live op (types.Struct number) (converted (types.Struct number) old) u

change_open : (p : Program) (live : List CopyOf) (op : BinOp) (operation : Ty) (size : ℕ) (ty : Ty) (old u : Datum) → IsOpenDatum p old → IsOpenDatum p u → AnswerOpen p (change_answer p live op operation size ty old u)
unfolding change_answer
change_open p live op operation size ty old u h g = then_open p ty (changed_by p live op size operation old u) (changed_open p live op size operation old u h g)

-- what `++` and `--` count by is a number
one_open : (p : Program) (ty : Ty) → IsOpenDatum p (answers.one_in ty)
one_open p types.Void = tt
one_open p (types.Int t) = tt
one_open p (types.Pointer row) = tt
one_open p (types.Array element length bytes) = tt
one_open p (types.Struct number) = tt

-- ---- outcomes
pub used_opens : (p : Program) (v : Datum) (line : ℕ) (next : Outcome) → KeepsOpen p next → KeepsOpen p (used v line next)
used_opens p Missing line next h = tt
used_opens p (Number q) line next h = h
used_opens p (Pointer x) line next h = h

pub branch_opens : (p : Program) (holds : Option Bool) (line : ℕ) (first second : Outcome) → KeepsOpen p first → KeepsOpen p second → KeepsOpen p (branch holds line first second)
branch_opens p None line first second a b = tt
branch_opens p (Some true) line first second a b = a
branch_opens p (Some false) line first second a b = b

pub either_opens : (p : Program) (b : Bool) (x y : Outcome) → KeepsOpen p x → KeepsOpen p y → KeepsOpen p (if b then x else y)
either_opens p true x y h g = h
either_opens p false x y h g = g

module _ (z : Scene) where
  abbrev p : Program
  p = z.program

  -- ---- an expression begins
  arguments_open : (function : ℕ) (all : Expressions) (ty : Ty) (line : ℕ) (values : List Datum) (more : Expressions) (k : List Pending) (c : CopyOf) (m : Memory) (w : World Byte) → AreOpenData p values → AreOpen more → AllOpen (tree.Call function all ty line) × Only false (closed_for k) → MemoryOpen p m → StackOpen p k
      → KeepsOpen p (arguments (tree.Call function all ty line) values more k c m w)
  arguments_open function all ty line values tree.NoExpression k c m w vs es h mem st = (mem, tt, (h, vs, st))
  arguments_open function all ty line values (tree.AndExpression argument more) k c m w vs es h mem st = (mem, (es.0.1, only_none (is_closed argument) false es.0.0), (h, (vs, es.1), st))

  pub eval_opens : (e : Expression) (k : List Pending) (c : CopyOf) (m : Memory) (w : World Byte) → FocusOpen p (Eval e) k → MemoryOpen p m → StackOpen p k → KeepsOpen p (eval e k c m w)
  eval_opens (tree.Constant value line) k c m w h mem st = (mem, datum_any p (closed_for k) (Number value) tt, st)
  eval_opens (tree.Read place ty line) k c m w h mem st = (mem, (h.0, only_same (closed_place place)), (h, tt, st))
  eval_opens (tree.Address place ty line) k c m w h mem st = (mem, (h.0, only_same (closed_place place)), (h, tt, st))
  eval_opens (tree.Convert operand ty line) k c m w h mem st = (mem, (h.0.1, only_none (is_closed operand) false h.0.0), (h, tt, st))
  eval_opens (tree.Cast operand ty line) k c m w h mem st = (mem, (h.0.1, only_none (is_closed operand) false h.0.0), (h, tt, st))
  eval_opens (tree.Unary op operand ty line) k c m w h mem st = (mem, (h.0.1, only_none (is_closed operand) false h.0.0), (h, tt, st))
  eval_opens (tree.Binary op left right ty line) k c m w h mem st = (mem, (h.0.0.1, only_none (is_closed left) false h.0.0.0), (h, tt, st))
  eval_opens (tree.Offset op left right size ty line) k c m w h mem st = (mem, (h.0.0, only_same (is_closed left)), (h, tt, st))
  eval_opens (tree.Difference left right size line) k c m w h mem st = (mem, (h.0.0.1, only_none (is_closed left) false h.0.0.0), (h, tt, st))
  eval_opens (tree.Logical op left right line) k c m w h mem st = (mem, (h.0.0.1, only_none (is_closed left) false h.0.0.0), (h, tt, st))
  eval_opens (tree.Conditional condition chosen otherwise ty line) k c m w h mem st = (mem, (h.0.0.1, only_none (is_closed condition) false h.0.0.0), (h, tt, st))
  eval_opens (tree.Comma left right ty line) k c m w h mem st = (mem, (h.0.0.1, only_none (is_closed left) false h.0.0.0), (h, tt, st))
  eval_opens (tree.Assign place value ty line) k c m w h mem st = (mem, (h.0.1, only_same (closed_place place)), (h, tt, st))
  eval_opens (tree.StructAssign place from size line) k c m w h mem st = (mem, (h.0.1, only_same (closed_place place)), (h, tt, st))
  eval_opens (tree.Update op place value operation size ty line) k c m w h mem st = (mem, (h.0.1, only_same (closed_place place)), (h, tt, st))
  eval_opens (tree.Step op place operation size ty line) k c m w h mem st = (mem, (h.0.1, only_same (closed_place place)), (h, tt, st))
  eval_opens (tree.Call function all ty line) k c m w h mem st = arguments_open function all ty line [] all k c m w tt h.0 h mem st

  -- ---- places
  pub find_opens : (place : Place) (k : List Pending) (c : CopyOf) (m : Memory) (w : World Byte) → IsPlaceOf p c.function place → FocusOpen p (Find place) k → MemoryOpen p m → StackOpen p k → KeepsOpen p (find (source_in z) place k c m w)
  find_opens (tree.Name object ty line) k c m w is h mem st = (mem, spot_when p (closed_sought k) (spot_of p c object) (λ none. name_open p c object ty line is (only_not ty.constant (closed_sought k) h.1 none)), st)
  find_opens (tree.Bit register number line) k c m w is h mem st = (mem, spot_any p (closed_sought k) (spots.Bit register number) tt, st)
  find_opens (tree.Member whole member offset ty line) k c m w is h mem st = (mem, (h.0, only_same (closed_place whole)), (h, st))
  find_opens (tree.Deref pointer ty line) k c m w is h mem st = (mem, (h.0, only_same (is_closed pointer)), (h, st))

  -- a place is read: no byte of it yet
  fetching_opens : (spot : Spot) (ty : Ty) (k : List Pending) → FocusOpen p (fetching spot ty z.program.sizes) k
  fetching_opens spot types.Void k = tt
  fetching_opens spot (types.Int ty) k = tt
  fetching_opens spot (types.Pointer row) k = tt
  fetching_opens spot (types.Array element length size) k = tt
  fetching_opens spot (types.Struct number) k = tt

  takes_opens : (spot : Spot) (k : List Pending) (c : CopyOf) (m : Memory) (w : World Byte) → (closed_for k ≡ false → IsOpenSpot p spot) → MemoryOpen p m → StackOpen p k → KeepsOpen p (takes (address spot) k c m w)
  takes_opens (spots.Memory x) k c m w h mem st = (mem, datum_when p (closed_for k) (Pointer x) h, st)
  takes_opens (spots.Device a) k c m w h mem st = tt
  takes_opens (spots.Bit register number) k c m w h mem st = tt

  -- where a structure is copied to: a local, or a place that is open
  local_open : (c : CopyOf) (place : Place) (spot : Spot) → is_local_name place ≡ true → IsSpotOf p c place spot → IsOpenSpot p spot
  local_open c (tree.Name (names.Local n) ty line) spot e is = subst (IsOpenSpot p) (sym is) tt
  local_open c (tree.Name (names.Static n) ty line) spot e is = absurd (false≢true e)
  local_open c (tree.Name (names.Param n) ty line) spot e is = absurd (false≢true e)
  local_open c (tree.Name (names.Register n) ty line) spot e is = absurd (false≢true e)
  local_open c (tree.Bit register number line) spot e is = absurd (false≢true e)
  local_open c (tree.Member whole member offset ty line) spot e is = absurd (false≢true e)
  local_open c (tree.Deref pointer ty line) spot e is = absurd (false≢true e)

  target_open : (c : CopyOf) (place : Place) (spot : Spot) → IsTarget place → SpotIf (closed_place place) p spot → IsSpotOf p c place spot → IsOpenSpot p spot
  target_open c place spot target h is = ⊎_elim (λ none. spot_of_if p (closed_place place) spot none h) (λ local. local_open c place spot local is) target

  found_in_opens : (e : Expression) (got : Got) (spot : Spot) (k : List Pending) (c : CopyOf) (m : Memory) (w : World Byte) → (place : Place) × WaitsForPlace (In e got ∷ k) place × IsSpotOf p c place spot → FocusOpen p (Found spot) (In e got ∷ k) → MemoryOpen p m → StackOpen p (In e got ∷ k) → KeepsOpen p (found_in (source_in z) e got spot k c m w)
  found_in_opens (tree.Read place ty line) Nothing spot k c m w is h mem st = (mem, fetching_opens spot ty (In (tree.Read place ty line) (At spot) ∷ k), (st.0, tt, st.2))
  found_in_opens (tree.Address place ty line) Nothing spot k c m w is h mem st = takes_opens spot k c m w (λ none. spot_of_if p (closed_place place) spot (only_not (closed_place place) (closed_for k) st.0.1 none) h) mem st.2
  found_in_opens (tree.Assign place value ty line) Nothing spot k c m w is h mem st = (mem, (st.0.0.2.1, only_none (is_closed value) false st.0.0.2.0), (st.0, spot_of_if p (closed_place place) spot st.0.0.0 h, st.2))
  found_in_opens (tree.StructAssign place from size line) Nothing spot k c m w is h mem st =
      (mem, (st.0.0.2, only_same (closed_place from)), (st.0, target_open c place spot st.0.0.0 h (subst (λ y. IsSpotOf p c y spot) is.1 is.2), st.2))
  found_in_opens (tree.StructAssign place from size line) (At to) spot k c m w is h mem st = (mem, st.1, (st.0, tt, st.2))
  found_in_opens (tree.Update op place value operation size ty line) Nothing spot k c m w is h mem st = (mem, (st.0.0.2.1, only_none (is_closed value) false st.0.0.2.0), (st.0, spot_of_if p (closed_place place) spot st.0.0.0 h, st.2))
  found_in_opens (tree.Step op place operation size ty line) Nothing spot k c m w is h mem st = (mem, fetching_opens spot ty (In (tree.Step op place operation size ty line) (At spot) ∷ k), (st.0, spot_of_if p (closed_place place) spot st.0.0.0 h, st.2))
  found_in_opens _ _ spot k c m w is h mem st = tt

  member_at_opens : (o : Option pointer.Pointer) (x : pointer.Pointer) (by : ℤ) (line : ℕ) (k : List Pending) (c : CopyOf) (m : Memory) (w : World Byte) → moved p x by ≡ o → (closed_sought k ≡ false → IsOpenPointer p x) → MemoryOpen p m → StackOpen p k → KeepsOpen p (at_member o line k c m w)
  member_at_opens (Some y) x by line k c m w is h mem st = (mem, spot_when p (closed_sought k) (spots.Memory y) (λ none. moved_open p x y by is (h none)), st)
  member_at_opens None x by line k c m w is h mem st = tt

  member_opens : (spot : Spot) (offset line : ℕ) (k : List Pending) (c : CopyOf) (m : Memory) (w : World Byte) → (closed_sought k ≡ false → IsOpenSpot p spot) → MemoryOpen p m → StackOpen p k → KeepsOpen p (member_of (source_in z) (address spot) offset line k c m w)
  member_opens (spots.Memory x) offset line k c m w h mem st = member_at_opens (moved p x (pos offset)) x (pos offset) line k c m w refl h mem st
  member_opens (spots.Device a) offset line k c m w h mem st = tt
  member_opens (spots.Bit register number) offset line k c m w h mem st = tt

  found_to_opens : (place : Place) (spot : Spot) (k : List Pending) (c : CopyOf) (m : Memory) (w : World Byte) → FocusOpen p (Found spot) (To place ∷ k) → MemoryOpen p m → StackOpen p (To place ∷ k) → KeepsOpen p (found_to (source_in z) place spot k c m w)
  found_to_opens (tree.Member whole member offset ty line) spot k c m w h mem st = member_opens spot offset line k c m w (λ none. spot_of_if p (closed_place whole) spot (only_not (closed_place whole) (closed_sought k) st.0.1 none) h) mem st.1
  found_to_opens _ spot k c m w h mem st = tt

  found_for_opens : (t : Statement) (stage : Stage) (spot : Spot) (k : List Pending) (c : CopyOf) (m : Memory) (w : World Byte) → MemoryOpen p m → StackOpen p (Doing t stage ∷ k) → KeepsOpen p (found_for (source_in z) t stage spot k c m w)
  found_for_opens (tree.InitList local all line) (AtItem (tree.Struct offset from size) rest) spot k c m w mem st = (mem, tt, st)
  found_for_opens _ _ spot k c m w mem st = tt

  pub found_opens : (spot : Spot) (k : List Pending) (c : CopyOf) (m : Memory) (w : World Byte) → (place : Place) × WaitsForPlace k place × IsSpotOf p c place spot → FocusOpen p (Found spot) k → MemoryOpen p m → StackOpen p k → KeepsOpen p (found (source_in z) spot k c m w)
  found_opens spot [] c m w is h mem st = tt
  found_opens spot (In e got ∷ k) c m w is h mem st = found_in_opens e got spot k c m w is h mem st
  found_opens spot (To place ∷ k) c m w is h mem st = found_to_opens place spot k c m w h mem st
  found_opens spot (Doing t stage ∷ k) c m w is h mem st = found_for_opens t stage spot k c m w mem st
  found_opens spot (Before ss ∷ k) c m w is h mem st = tt
  found_opens spot (Returns d ∷ k) c m w is h mem st = tt
  found_opens spot (Resumes d x ∷ k) c m w is h mem st = tt

  -- ---- values
  answered_opens : (a : Answer) (line : ℕ) (k : List Pending) (c : CopyOf) (m : Memory) (w : World Byte) → AnswerOpen p a → MemoryOpen p m → StackOpen p k → KeepsOpen p (answered a line k c m w)
  answered_opens (answers.Gives v) line k c m w h mem st = (mem, datum_any p (closed_for k) v h, st)
  answered_opens (answers.Fails kind) line k c m w h mem st = tt
  answered_opens answers.Strays line k c m w h mem st = tt

  -- the same of a pointer that is moved, which may be one that leads to a const object
  offset_opens : (a : Answer) (line : ℕ) (k : List Pending) (c : CopyOf) (m : Memory) (w : World Byte) → (closed_for k ≡ false → AnswerOpen p a) → MemoryOpen p m → StackOpen p k → KeepsOpen p (answered a line k c m w)
  offset_opens (answers.Gives v) line k c m w h mem st = (mem, datum_when p (closed_for k) v h, st)
  offset_opens (answers.Fails kind) line k c m w h mem st = tt
  offset_opens answers.Strays line k c m w h mem st = tt

  logical_opens : (op : LogicalOp) (v : Datum) (holds : Option Bool) (left right : Expression) (line : ℕ) (k : List Pending) (c : CopyOf) (m : Memory) (w : World Byte) → AllOpen (tree.Logical op left right line) × Only false (closed_for k) → MemoryOpen p m → StackOpen p k → KeepsOpen p (logical (tree.Logical op left right line) op v holds right line k c m w)
  logical_opens op v None left right line k c m w h mem st = tt
  logical_opens op v (Some holds) left right line k c m w h mem st =
      either_opens p (decides op holds) _ _ (mem, datum_any p (closed_for k) (answers.truth_value holds) tt, st) (mem, (h.0.1.1, only_none (is_closed right) false h.0.1.0), (h, tt, st))

  truth_opens : (holds : Option Bool) (line : ℕ) (k : List Pending) (c : CopyOf) (m : Memory) (w : World Byte) → MemoryOpen p m → StackOpen p k → KeepsOpen p (truth_given holds line k c m w)
  truth_opens None line k c m w mem st = tt
  truth_opens (Some holds) line k c m w mem st = (mem, datum_any p (closed_for k) (answers.truth_value holds) tt, st)

  -- the value that stays with a node is the old one, or the new one
  kept_open : (b : Bool) (old new : Datum) → IsOpenDatum p old → IsOpenDatum p new → IsOpenDatum p (if b then old else new)
  kept_open true old new h g = h
  kept_open false old new h g = g

  changes_opens : (a : Answer) (e : Expression) (spot : Spot) (keeps : Bool) (old : Datum) (line : ℕ) (k : List Pending) (c : CopyOf) (m : Memory) (w : World Byte) → AnswerOpen p a → IsOpenDatum p old → IsOpenSpot p spot → AllOpen e × Only (is_closed e) (closed_for k) → MemoryOpen p m → StackOpen p k → KeepsOpen p (changes a e spot keeps old line k c m w)
  changes_opens (answers.Gives v) e spot keeps old line k c m w h g at begun mem st = (mem, h, (begun, (at, kept_open keeps old v g h), st))
  changes_opens (answers.Fails kind) e spot keeps old line k c m w h g at begun mem st = tt
  changes_opens answers.Strays e spot keeps old line k c m w h g at begun mem st = tt

  pub take_in_opens : (e : Expression) (got : Got) (v : Datum) (k : List Pending) (c : CopyOf) (m : Memory) (w : World Byte) → FocusOpen p (Holds v) (In e got ∷ k) → MemoryOpen p m → StackOpen p (In e got ∷ k) → KeepsOpen p (take_in (source_in z) e got v k c m w)
  take_in_opens (tree.Convert operand ty line) Nothing v k c m w h mem st = answered_opens (converted ty v) line k c m w (converted_open p ty v h) mem st.2
  take_in_opens (tree.Cast operand ty line) Nothing v k c m w h mem st = answered_opens (converted ty v) line k c m w (converted_open p ty v h) mem st.2
  take_in_opens (tree.Unary op operand ty line) Nothing v k c m w h mem st = answered_opens (unary_answer op v) line k c m w (unary_open p op v) mem st.2
  take_in_opens (tree.Binary op left right ty line) Nothing v k c m w h mem st = (mem, (st.0.0.1.1, only_none (is_closed right) false st.0.0.1.0), (st.0, tt, st.2))
  take_in_opens (tree.Binary op left right ty line) (One u) v k c m w h mem st = answered_opens _ line k c m w (binary_open p _ op ty u v) mem st.2
  take_in_opens (tree.Offset op left right size ty line) Nothing v k c m w h mem st = (mem, (st.0.0.1, only_same (is_closed right)), (st.0, h, st.2))
  take_in_opens (tree.Offset op left right size ty line) (One u) v k c m w h mem st =
      offset_opens (offset_answer p op size u v) line k c m w
      (λ none.
      let both = or_none (is_closed left) (is_closed right) (only_not (is_closed left || is_closed right) (closed_for k) st.0.1 none) in
      offset_open p op size u v (datum_of p (is_closed left) u both.0 st.1) (datum_of p (is_closed right) v both.1 h))
      mem st.2
  take_in_opens (tree.Difference left right size line) Nothing v k c m w h mem st = (mem, (st.0.0.1.1, only_none (is_closed right) false st.0.0.1.0), (st.0, tt, st.2))
  take_in_opens (tree.Difference left right size line) (One u) v k c m w h mem st = answered_opens (difference_answer size u v) line k c m w (difference_open p size u v) mem st.2
  take_in_opens (tree.Logical op left right line) Nothing v k c m w h mem st = logical_opens op v (truth_of v) left right line k c m w st.0 mem st.2
  take_in_opens (tree.Logical op left right line) (One u) v k c m w h mem st = truth_opens (truth_of v) line k c m w mem st.2
  take_in_opens (tree.Conditional condition chosen otherwise ty line) Nothing v k c m w h mem st =
      branch_opens p (truth_of v) line _ _ (mem, (st.0.0.1.1, only_none (is_closed chosen) false st.0.0.1.0), (st.0, tt, st.2)) (mem, (st.0.0.2.1, only_none (is_closed otherwise) false st.0.0.2.0), (st.0, tt, st.2))
  take_in_opens (tree.Conditional condition chosen otherwise ty line) Chosen v k c m w h mem st = (mem, datum_any p (closed_for k) v h, st.2)
  take_in_opens (tree.Comma left right ty line) Nothing v k c m w h mem st = (mem, (st.0.0.1.1, only_none (is_closed right) (closed_for k) st.0.0.1.0), st.2)
  take_in_opens (tree.Assign place value ty line) (At spot) v k c m w h mem st = used_opens p v line _ (mem, h, (st.0, (st.1, h), st.2))
  take_in_opens (tree.Update op place value operation size ty line) (At spot) v k c m w h mem st = (mem, fetching_opens spot ty (In (tree.Update op place value operation size ty line) (AtWith spot v) ∷ k), (st.0, (st.1, h), st.2))
  take_in_opens (tree.Update op place value operation size ty line) (AtWith spot u) v k c m w h mem st =
      changes_opens _ (tree.Update op place value operation size ty line) spot false v line k c m w (change_open p _ op operation size ty v u h st.1.1) h st.1.0 st.0 mem st.2
  take_in_opens (tree.Step op place operation size ty line) (At spot) v k c m w h mem st =
      changes_opens _ (tree.Step op place operation size ty line) spot _ v line k c m w (change_open p _ _ operation size ty v (answers.one_in operation) h (one_open p operation)) h st.1 st.0 mem st.2
  take_in_opens (tree.Call function all ty line) (Args before more) v k c m w h mem st = arguments_open function all ty line (before ++ v ∷ []) more k c m w (data_appended p before v st.1.0 h) st.1.1 st.0 mem st.2
  take_in_opens _ _ v k c m w h mem st = tt

  deref_opens : (v : Datum) (line : ℕ) (k : List Pending) (c : CopyOf) (m : Memory) (w : World Byte) → (closed_sought k ≡ false → IsOpenDatum p v) → MemoryOpen p m → StackOpen p k → KeepsOpen p (deref v line k c m w)
  deref_opens (Pointer x) line k c m w h mem st = (mem, spot_when p (closed_sought k) (spots.Memory x) h, st)
  deref_opens (Number q) line k c m w h mem st = tt
  deref_opens Missing line k c m w h mem st = tt

  pub take_to_opens : (place : Place) (v : Datum) (k : List Pending) (c : CopyOf) (m : Memory) (w : World Byte) → FocusOpen p (Holds v) (To place ∷ k) → MemoryOpen p m → StackOpen p (To place ∷ k) → KeepsOpen p (take_to place v k c m w)
  take_to_opens (tree.Deref pointer ty line) v k c m w h mem st = deref_opens v line k c m w (λ none. datum_of p (is_closed pointer) v (only_not (is_closed pointer) (closed_sought k) st.0.1 none) h) mem st.1
  take_to_opens _ v k c m w h mem st = tt
