-- Places that were found, and values that a node takes, keep what stands.
use Rattle.std.proofs.Common.{◌≡◌, ℕ, zero, suc, ◌≤◌, Bool, true, false, List, [], ◌∷◌, ◌++◌, Option, Some, None, refl, sym, ap, ◌∙◌, subst, arith, pos, ⊎_elim, append_assoc}
use Rattle.std.proofs.lemmas.Bool.{false≢true}
use Rattle.std.specs.Prelude.{if◌then◌else◌}
use Rattle.c_ints.specs.Range.{bytes_of}
use Rattle.c_ints.specs.declared.operators.BinOp.{BinOp}
use Rattle.c_ints.specs.declared.types.IntTy.{IntTy}
use Rattle.c_ints.specs.declared.types.IntTy.TheVariants as int
use Rattle.c_typed.specs.Rules.{integer_update_fits, integer_step_fits}
use Rattle.c_typed.specs.Sameness.{is_array, is_pointer}
use Rattle.c_typed.specs.Trees as tree
use Rattle.c_typed.specs.Trees.{Expression, Expressions, Place, Item, Statement, Statements, Arm, Arms, Program}
use Rattle.c_typed.specs.Types.{type_bytes, type_of, place_type}
use Rattle.c_typed.specs.declared.expression.LogicalOp.{LogicalOp}
use Rattle.c_typed.specs.declared.statement.TCase.{TCase}
use Rattle.c_typed.specs.declared.types.Ty.{Ty}
use Rattle.c_typed.specs.declared.types.Ty.TheVariants as types
use Rattle.pic_world.specs.World.{World}
use Rattle.src_rules.proofs.Answers.{AnswerStands, truth_stands, converted_stands, unary_stands, binary_stands, offset_stands, difference_stands, update_stands, step_stands}
use Rattle.src_rules.proofs.Keeping.{Keeps, Around, on, split_behind, arguments_keep}
use Rattle.src_rules.proofs.Places.{stepped_zero, spot_placed, in_memory, addressed, array_no_int, whole_in_memory, deref_pointer}
use Rattle.src_rules.proofs.Rules.{IsUpdate, IsStep, moves_rule, read_rule, address_rule, convert_rule, cast_rule, unary_rule, binary_rule, offset_rule, difference_rule, choice_rule, comma_rule, assign_rule, update_rule, step_rule}
use Rattle.src_rules.proofs.Statements.{StandsOn, turn_keeps, all_listed, unwound_stands, arms_keep, test_keeps, gives_to_call}
use Rattle.src_rules.proofs.Writing.{item_within, list_there, local_placed}
use Rattle.src_rules.specs.Accesses.{goes, fetching}
use Rattle.src_rules.specs.Expressions.{address, takes, found_in, at_member, member_of, found_to, found_for, found}
use Rattle.src_rules.specs.Giving.{answered, used, branch, logical, truth_given, changes, take_in, deref, take_to, statements_behind, jump, jump_if_any, compares_in, compares_for, compares, take_for, give}
use Rattle.src_rules.specs.Parts.{IsExpressionOf, IsPlaceOf, AreStatementsOf, IsRunnable, local_bytes}
use Rattle.src_rules.specs.Standing.{IsPointer, HasType, IsPlaced, IsSpotOf, WaitsForValue, WaitsForPlace, SeeksIn, WaitsIn, WaitsTo, WaitsDoing, repeats, IsWritten, ComparesOf, Fetches, StackStands}
use Rattle.src_rules.specs.Statements.{unwound}
use Rattle.src_rules.specs.State.{Outcome}
use Rattle.src_values.specs.Control.{Eval, Holds, Fetch, Compares, Got, Nothing, Chosen, One, At, AtWith, Args, Stage, Tests, Begins, Steps, Picks, Chooses, AtItem, Pending, In, To, Doing, Before, Returns, Resumes, active}
use Rattle.src_values.specs.Data.{Datum, Number, Pointer, Missing}
use Rattle.src_values.specs.Memory.{Setting, Memory}
use Rattle.src_values.specs.Objects.{local_of, behind, moved}
use Rattle.src_values.specs.Values.{Answer, Gives, Fails, Strays, truth_value, truth_of, decides, is_case, is_postfix, converted, unary_answer}
use Rattle.src_values.specs.declared.objects.Byte.{Byte}
use Rattle.src_values.specs.declared.objects.CopyOf.{CopyOf}
use Rattle.src_values.specs.declared.objects.Pointer.{Pointer as Reference}
use Rattle.src_values.specs.declared.objects.Spot.{Spot}
use Rattle.src_values.specs.declared.objects.Spot.TheVariants as spots

-- ---- a read begins
-- the frame waits for the read of a place at this spot
abbrev Begun : Program → CopyOf → Expression → Got → List Pending → Spot → Type 0
Begun p c e got k spot = Fetches (In e got ∷ k) spot × StackStands p c (In e got ∷ k)

pub int_few : (ty : IntTy) → bytes_of ty ≤ 4
int_few int.Char = omega arith
int_few int.SChar = omega arith
int_few int.UChar = omega arith
int_few int.Short = omega arith
int_few int.UShort = omega arith
int_few int.Int = omega arith
int_few int.UInt = omega arith
int_few int.Long = omega arith
int_few int.ULong = omega arith

fetch_begins : (p : Program) (c : CopyOf) (e : Expression) (got : Got) (k : List Pending) (m : Memory) (w : World Byte) (spot : Spot) → Around p c m w → Begun p c e got k spot → type_bytes p.sizes (type_of e) ≤ 4 → Keeps p (goes c (Fetch spot []) (In e got ∷ k) m w)
fetch_begins p c e got k m w spot a b l = on a (record { start = spot; node = b.0; at = stepped_zero spot; part = omega arith; few = l; bytes = tt }) b.1

read_begins : (p : Program) (c : CopyOf) (place : Place) (ty : Ty) (line : ℕ) (k : List Pending) (m : Memory) (w : World Byte) (spot : Spot) → Around p c m w → StackStands p c (In (tree.Read place ty line) (At spot) ∷ k) → IsPlaced p spot → is_array ty ≡ false → Keeps p (goes c (fetching spot ty p.sizes) (In (tree.Read place ty line) (At spot) ∷ k) m w)
read_begins p c place types.Void line k m w spot a st t e = on a (record { start = spot; done = 0; node = refl; at = stepped_zero spot; near = t; all = refl }) st
read_begins p c place (types.Int ty) line k m w spot a st t e = fetch_begins p c (tree.Read place (types.Int ty) line) (At spot) k m w spot a (refl, st) (int_few ty)
read_begins p c place (types.Pointer row) line k m w spot a st t e = fetch_begins p c (tree.Read place (types.Pointer row) line) (At spot) k m w spot a (refl, st) (omega arith)
read_begins p c place (types.Array x n y) line k m w spot a st t e = absurd (false≢true (sym e))
read_begins p c place (types.Struct n) line k m w spot a st t e = on a (record { start = spot; done = 0; node = refl; at = stepped_zero spot; near = t; all = omega arith }) st

-- an integer or a pointer is read byte by byte
abbrev IsNumberOrPointer : Ty → Type 0
IsNumberOrPointer types.Void = ⊥
IsNumberOrPointer (types.Int ty) = Unit {0}
IsNumberOrPointer (types.Pointer row) = Unit {0}
IsNumberOrPointer (types.Array x n y) = ⊥
IsNumberOrPointer (types.Struct n) = ⊥

change_begins : (p : Program) (c : CopyOf) (e : Expression) (got : Got) (ty : Ty) (k : List Pending) (m : Memory) (w : World Byte) (spot : Spot) → Around p c m w → Begun p c e got k spot → type_of e ≡ ty → IsNumberOrPointer ty → Keeps p (goes c (fetching spot ty p.sizes) (In e got ∷ k) m w)
change_begins p c e got types.Void k m w spot a b is h = absurd h
change_begins p c e got (types.Int ty) k m w spot a b is h = fetch_begins p c e got k m w spot a b (rw is (int_few ty))
change_begins p c e got (types.Pointer row) k m w spot a b is h = fetch_begins p c e got k m w spot a b (rw is (omega arith))
change_begins p c e got (types.Array x n y) k m w spot a b is h = absurd h
change_begins p c e got (types.Struct n) k m w spot a b is h = absurd h

int_update_scalar : (op : BinOp) (value operation ty : Ty) → integer_update_fits op ty value operation ≡ true → IsNumberOrPointer ty
int_update_scalar op value operation types.Void e = false≢true e
int_update_scalar op value operation (types.Int ty) e = tt
int_update_scalar op value operation (types.Pointer row) e = tt
int_update_scalar op value operation (types.Array x n y) e = false≢true e
int_update_scalar op value operation (types.Struct n) e = false≢true e

int_step_scalar : (operation ty : Ty) → integer_step_fits ty operation ≡ true → IsNumberOrPointer ty
int_step_scalar operation types.Void e = false≢true e
int_step_scalar operation (types.Int ty) e = tt
int_step_scalar operation (types.Pointer row) e = tt
int_step_scalar operation (types.Array x n y) e = false≢true e
int_step_scalar operation (types.Struct n) e = false≢true e

pointer_scalar : (ty : Ty) → is_pointer ty ≡ true → IsNumberOrPointer ty
pointer_scalar types.Void e = false≢true e
pointer_scalar (types.Int ty) e = tt
pointer_scalar (types.Pointer row) e = tt
pointer_scalar (types.Array x n y) e = false≢true e
pointer_scalar (types.Struct n) e = false≢true e

update_scalar : (p : Program) (op : BinOp) (value operation : Ty) (size : ℕ) (ty : Ty) → IsUpdate p op value operation size ty → IsNumberOrPointer ty
update_scalar p op value operation size ty e = ⊎_elim (int_update_scalar op value operation ty) (λ g. pointer_scalar ty (moves_rule p ty value size ty g.1).0) e

step_scalar : (p : Program) (operation ty : Ty) → IsStep p operation ty → IsNumberOrPointer ty
step_scalar p operation ty e = ⊎_elim (int_step_scalar operation ty) (λ g. pointer_scalar ty g.1) e

-- ---- a place was found
found_address : (p : Program) (c : CopyOf) (ty : Ty) (k : List Pending) (m : Memory) (w : World Byte) (x : Reference) → Around p c m w → WaitsForValue k ty → StackStands p c k → is_pointer ty ≡ true → IsPointer p x → Keeps p (takes (address (spots.Memory x)) k c m w)
found_address p c ty k m w x a h st e t = on a (ty, h, (e, t)) st

address_keeps : (p : Program) (c : CopyOf) (place : Place) (ty : Ty) (line : ℕ) (k : List Pending) (m : Memory) (w : World Byte) (spot : Spot) → Around p c m w → IsExpressionOf p c.function (tree.Address place ty line) → WaitsForValue k ty → StackStands p c k → IsSpotOf p c place spot → Keeps p (takes (address spot) k c m w)
address_keeps p c place ty line k m w spot a e h st s =
    let r = address_rule p place ty line e.0 in
    let x : (y : Reference) × (spot ≡ spots.Memory y) = ⊎_elim (λ i. addressed p c place spot i s) (λ i. in_memory p c.function c place spot e.1 (array_no_int (place_type place).ty i) s) r.1 in
    let t : IsPlaced p spot = spot_placed p c place spot a.reached e.1 s in
    rw x.1 (found_address p c ty k m w x.0 a h st r.0 (subst (IsPlaced p) x.1 t))

found_in_keeps : (s : Setting) (e : Expression) (got : Got) (spot : Spot) (k : List Pending) (c : CopyOf) (m : Memory) (w : World Byte) (sought : Place) → Around s.program c m w → SeeksIn e got sought → IsSpotOf s.program c sought spot → StackStands s.program c (In e got ∷ k) → Keeps s.program (found_in s e got spot k c m w)
found_in_keeps s (tree.Read place ty line) Nothing spot k c m w sought a n h st =
    read_begins s.program c place ty line k m w spot a (st.0, st.1, subst (λ q. IsSpotOf s.program c q spot) n h, st.3) (spot_placed s.program c place spot a.reached st.0.1 (subst (λ q. IsSpotOf s.program c q spot) n h)) (read_rule s.program place ty line st.0.0).1
found_in_keeps s (tree.Address place ty line) Nothing spot k c m w sought a n h st = address_keeps s.program c place ty line k m w spot a st.0 st.1 st.3 (subst (λ q. IsSpotOf s.program c q spot) n h)
found_in_keeps s (tree.Assign place value ty line) Nothing spot k c m w sought a n h st = on a (st.0.2, refl) (st.0, st.1, subst (λ q. IsSpotOf s.program c q spot) n h, st.3)
found_in_keeps s (tree.StructAssign place from size line) Nothing spot k c m w sought a n h st = on a (st.0.2, refl) (st.0, st.1, subst (λ q. IsSpotOf s.program c q spot) n h, st.3)
found_in_keeps s (tree.StructAssign place from size line) (At to) spot k c m w sought a n h st =
    on a (record { first = to; other = spot; size = size; done = 0; node = (st.2, subst (λ q. IsSpotOf s.program c q spot) n h, refl); all = omega arith; written = stepped_zero to; read = stepped_zero spot; target = spot_placed s.program c place to a.reached st.0.1 st.2; source = spot_placed s.program c from spot a.reached st.0.2 (subst (λ q. IsSpotOf s.program c q spot) n h) }) (st.0, st.1, tt, st.3)
found_in_keeps s (tree.Update op place value operation size ty line) Nothing spot k c m w sought a n h st = on a (st.0.2, refl) (st.0, st.1, subst (λ q. IsSpotOf s.program c q spot) n h, st.3)
found_in_keeps s (tree.Step op place operation size ty line) Nothing spot k c m w sought a n h st =
    change_begins s.program c (tree.Step op place operation size ty line) (At spot) ty k m w spot a (refl, (st.0, st.1, subst (λ q. IsSpotOf s.program c q spot) n h, st.3)) refl (step_scalar s.program operation ty (step_rule s.program op place operation size ty line st.0.0).1)
found_in_keeps s _ _ spot k c m w sought a n h st = absurd n

member_case : (s : Setting) (whole : Place) (member offset : ℕ) (ty : _) (line : ℕ) (x : Reference) (o : Option Reference) (k : List Pending) (c : CopyOf) (m : Memory) (w : World Byte) → moved s.program x (pos offset) ≡ o → Around s.program c m w → IsSpotOf s.program c whole (spots.Memory x) → WaitsForPlace k (tree.Member whole member offset ty line) → StackStands s.program c k → Keeps s.program (at_member o line k c m w)
member_case s whole member offset ty line x (Some y) k c m w e a h n st = on a (tree.Member whole member offset ty line, n, (x, y, h, e, refl)) st
member_case s whole member offset ty line x None k c m w e a h n st = tt

member_keeps : (s : Setting) (whole : Place) (member offset : ℕ) (ty : _) (line : ℕ) (spot : Spot) (x : Reference) (k : List Pending) (c : CopyOf) (m : Memory) (w : World Byte) → spot ≡ spots.Memory x → Around s.program c m w → IsSpotOf s.program c whole spot → WaitsForPlace k (tree.Member whole member offset ty line) → StackStands s.program c k → Keeps s.program (member_of s (address spot) offset line k c m w)
member_keeps s whole member offset ty line spot x k c m w e a h n st =
    rw e (member_case s whole member offset ty line x (moved s.program x (pos offset)) k c m w refl a (subst (IsSpotOf s.program c whole) e h) n st)

found_to_keeps : (s : Setting) (place : Place) (spot : Spot) (k : List Pending) (c : CopyOf) (m : Memory) (w : World Byte) (sought : Place) → Around s.program c m w → WaitsForPlace (To place ∷ k) sought → IsSpotOf s.program c sought spot → StackStands s.program c (To place ∷ k) → Keeps s.program (found_to s place spot k c m w)
found_to_keeps s (tree.Member whole member offset ty line) spot k c m w sought a n h st =
    let g : IsSpotOf s.program c whole spot = subst (λ q. IsSpotOf s.program c q spot) n h in
    let x = whole_in_memory s.program c whole member offset ty line spot st.0 g in
    member_keeps s whole member offset ty line spot x.0 k c m w x.1 a g st.1 st.2
found_to_keeps s _ spot k c m w sought a n h st = absurd n

found_for_keeps : (s : Setting) (t : Statement) (stage : Stage) (spot : Spot) (k : List Pending) (c : CopyOf) (m : Memory) (w : World Byte) (sought : Place) → Around s.program c m w → WaitsForPlace (Doing t stage ∷ k) sought → IsSpotOf s.program c sought spot → StackStands s.program c (Doing t stage ∷ k) → Keeps s.program (found_for s t stage spot k c m w)
found_for_keeps s (tree.InitList local all line) (AtItem (tree.Struct offset from size) rest) spot k c m w sought a n h st =
    on a (record { first = behind (local_of s.program c local) offset; other = spot; size = size; done = 0; node = (refl, subst (λ q. IsSpotOf s.program c q spot) n h, refl); all = omega arith; written = stepped_zero _; read = stepped_zero spot; target = local_placed s.program c local offset a.reached (list_there s.program c local all st.0.1) (let l = item_within s.program c.function (local_bytes s.program c.function local) st.2.0 (tree.Struct offset from size) rest st.2.1 in omega arith); source = spot_placed s.program c from spot a.reached st.2.1.1.2 (subst (λ q. IsSpotOf s.program c q spot) n h) }) st
found_for_keeps s _ _ spot k c m w sought a n h st = absurd n

pub found_keeps : (s : Setting) (spot : Spot) (k : List Pending) (c : CopyOf) (m : Memory) (w : World Byte) (sought : Place) → Around s.program c m w → WaitsForPlace k sought → IsSpotOf s.program c sought spot → StackStands s.program c k → Keeps s.program (found s spot k c m w)
found_keeps s spot [] c m w sought a n h st = absurd n
found_keeps s spot (In e got ∷ k) c m w sought a n h st = found_in_keeps s e got spot k c m w sought a n h st
found_keeps s spot (To place ∷ k) c m w sought a n h st = found_to_keeps s place spot k c m w sought a n h st
found_keeps s spot (Doing t stage ∷ k) c m w sought a n h st = found_for_keeps s t stage spot k c m w sought a n h st
found_keeps s spot (Before ss ∷ k) c m w sought a n h st = absurd n
found_keeps s spot (Returns d ∷ k) c m w sought a n h st = absurd n
found_keeps s spot (Resumes d x ∷ k) c m w sought a n h st = absurd n

-- ---- a node takes a value
module _ (p : Program) where
  answered_keeps : (ty : Ty) (answer : Answer) (line : ℕ) (k : List Pending) (c : CopyOf) (m : Memory) (w : World Byte) → Around p c m w → WaitsForValue k ty → StackStands p c k → AnswerStands p ty answer → Keeps p (answered answer line k c m w)
  answered_keeps ty (Gives v) line k c m w a n st h = on a (ty, n, h) st
  answered_keeps ty (Fails kind) line k c m w a n st h = tt
  answered_keeps ty Strays line k c m w a n st h = absurd h

  used_keeps : (v : Datum) (line : ℕ) (next : Outcome) → Keeps p next → Keeps p (used v line next)
  used_keeps (Number q) line next h = h
  used_keeps (Pointer x) line next h = h
  used_keeps Missing line next h = tt

  branch_keeps : (o : Option Bool) (line : ℕ) (first second : Outcome) → Keeps p first → Keeps p second → Keeps p (branch o line first second)
  branch_keeps None line first second h g = tt
  branch_keeps (Some true) line first second h g = h
  branch_keeps (Some false) line first second h g = g

  truth_keeps : (o : Option Bool) (line : ℕ) (k : List Pending) (c : CopyOf) (m : Memory) (w : World Byte) → Around p c m w → WaitsForValue k (types.Int int.Int) → StackStands p c k → Keeps p (truth_given o line k c m w)
  truth_keeps None line k c m w a n st = tt
  truth_keeps (Some holds) line k c m w a n st = on a (types.Int int.Int, n, truth_stands p holds) st

  logical_case : (b : Bool) (op : LogicalOp) (left right : Expression) (line : ℕ) (v : Datum) (holds : Bool) (k : List Pending) (c : CopyOf) (m : Memory) (w : World Byte) → Around p c m w → StackStands p c (In (tree.Logical op left right line) Nothing ∷ k) → HasType p (type_of left) v → Keeps p (if b then goes c (Holds (truth_value holds)) k m w else goes c (Eval right) (In (tree.Logical op left right line) (One v) ∷ k) m w)
  logical_case true op left right line v holds k c m w a st h = on a (types.Int int.Int, st.1, truth_stands p holds) st.3
  logical_case false op left right line v holds k c m w a st h = on a (st.0.2, refl) (st.0, st.1, h, st.3)

  logical_keeps : (op : LogicalOp) (left right : Expression) (line : ℕ) (v : Datum) (o : Option Bool) (k : List Pending) (c : CopyOf) (m : Memory) (w : World Byte) → Around p c m w → StackStands p c (In (tree.Logical op left right line) Nothing ∷ k) → HasType p (type_of left) v → Keeps p (logical (tree.Logical op left right line) op v o right line k c m w)
  logical_keeps op left right line v None k c m w a st h = tt
  logical_keeps op left right line v (Some holds) k c m w a st h = logical_case (decides op holds) op left right line v holds k c m w a st h

  kept_value : (b : Bool) (ty : Ty) (old v : Datum) → HasType p ty old → HasType p ty v → HasType p ty (if b then old else v)
  kept_value true ty old v h g = h
  kept_value false ty old v h g = g

  changes_keep : (answer : Answer) (e : Expression) (spot : Spot) (keeps : Bool) (old : Datum) (line : ℕ) (k : List Pending) (c : CopyOf) (m : Memory) (w : World Byte) → Around p c m w → IsExpressionOf p c.function e → WaitsForValue k (type_of e) → StackStands p c k → IsWritten p c e spot → AnswerStands p (type_of e) answer → (keeps ≡ true → HasType p (type_of e) old) → Keeps p (changes answer e spot keeps old line k c m w)
  changes_keep (Gives v) e spot true old line k c m w a x n st s h o = on a (record { start = spot; type = type_of e; node = (refl, refl); there = stepped_zero spot; typed = h; part = omega arith }) (x, n, (s, o refl), st)
  changes_keep (Gives v) e spot false old line k c m w a x n st s h o = on a (record { start = spot; type = type_of e; node = (refl, refl); there = stepped_zero spot; typed = h; part = omega arith }) (x, n, (s, h), st)
  changes_keep (Fails kind) e spot keeps old line k c m w a x n st s h o = tt
  changes_keep Strays e spot keeps old line k c m w a x n st s h o = absurd h

take_in_keeps : (s : Setting) (e : Expression) (got : Got) (v : Datum) (k : List Pending) (c : CopyOf) (m : Memory) (w : World Byte) (ty : Ty) → Around s.program c m w → WaitsIn e got ty → HasType s.program ty v → StackStands s.program c (In e got ∷ k) → Keeps s.program (take_in s e got v k c m w)
take_in_keeps s (tree.Convert operand t line) Nothing v k c m w ty a n h st =
    answered_keeps s.program t (converted t v) line k c m w a st.1 st.3 (converted_stands s.program ty t v h (rw n (convert_rule s.program operand t line st.0.0)))
take_in_keeps s (tree.Cast operand t line) Nothing v k c m w ty a n h st =
    answered_keeps s.program t (converted t v) line k c m w a st.1 st.3 (converted_stands s.program ty t v h (rw n (cast_rule s.program operand t line st.0.0)))
take_in_keeps s (tree.Unary op operand t line) Nothing v k c m w ty a n h st =
    answered_keeps s.program t (unary_answer op v) line k c m w a st.1 st.3 (unary_stands s.program op ty t v h (rw n (unary_rule s.program op operand t line st.0.0)))
take_in_keeps s (tree.Binary op left right t line) Nothing v k c m w ty a n h st = on a (st.0.2, refl) (st.0, st.1, subst (λ q. HasType s.program q v) n h, st.3)
take_in_keeps s (tree.Binary op left right t line) (One u) v k c m w ty a n h st =
    answered_keeps s.program t _ line k c m w a st.1 st.3
    (binary_stands s.program (active c (Holds v) k) op (type_of left) (type_of right) t u v st.2 (subst (λ q. HasType s.program q v) n h) (binary_rule s.program op left right t line st.0.0))
take_in_keeps s (tree.Offset op left right size t line) Nothing v k c m w ty a n h st = on a (st.0.2, refl) (st.0, st.1, subst (λ q. HasType s.program q v) n h, st.3)
take_in_keeps s (tree.Offset op left right size t line) (One u) v k c m w ty a n h st =
    answered_keeps s.program t _ line k c m w a st.1 st.3
    (offset_stands s.program op (type_of left) (type_of right) size t u v st.2 (subst (λ q. HasType s.program q v) n h) (offset_rule s.program op left right size t line st.0.0))
take_in_keeps s (tree.Difference left right size line) Nothing v k c m w ty a n h st = on a (st.0.2, refl) (st.0, st.1, subst (λ q. HasType s.program q v) n h, st.3)
take_in_keeps s (tree.Difference left right size line) (One u) v k c m w ty a n h st =
    answered_keeps s.program (types.Int int.Int) _ line k c m w a st.1 st.3
    (difference_stands s.program size (type_of left) (type_of right) u v st.2 (subst (λ q. HasType s.program q v) n h) (difference_rule s.program left right size line st.0.0))
take_in_keeps s (tree.Logical op left right line) Nothing v k c m w ty a n h st = logical_keeps s.program op left right line v (truth_of v) k c m w a st (subst (λ q. HasType s.program q v) n h)
take_in_keeps s (tree.Logical op left right line) (One u) v k c m w ty a n h st = truth_keeps s.program (truth_of v) line k c m w a st.1 st.3
take_in_keeps s (tree.Conditional condition chosen otherwise t line) Nothing v k c m w ty a n h st =
    let r = choice_rule s.program condition chosen otherwise t line st.0.0 in
    branch_keeps s.program (truth_of v) line _ _ (on a (st.0.2, r.0) (st.0, st.1, tt, st.3)) (on a (st.0.3, r.1) (st.0, st.1, tt, st.3))
take_in_keeps s (tree.Conditional condition chosen otherwise t line) Chosen v k c m w ty a n h st = on a (t, st.1, subst (λ q. HasType s.program q v) n h) st.3
take_in_keeps s (tree.Comma left right t line) Nothing v k c m w ty a n h st = on a (st.0.2, rw (comma_rule s.program left right t line st.0.0) st.1) st.3
take_in_keeps s (tree.Assign place value t line) (At spot) v k c m w ty a n h st =
    let r = assign_rule s.program place value t line st.0.0 in
    let g : HasType s.program t v = subst (λ q. HasType s.program q v) (n ∙ r.1) h in
    used_keeps s.program v line _ (on a (record { start = spot; type = t; node = (refl, refl); there = stepped_zero spot; typed = g; part = omega arith }) (st.0, st.1, (st.2, g), st.3))
take_in_keeps s (tree.Update op place value operation size t line) (At spot) v k c m w ty a n h st =
    change_begins s.program c (tree.Update op place value operation size t line) (AtWith spot v) t k m w spot a (refl, (st.0, st.1, (st.2, subst (λ q. HasType s.program q v) n h), st.3)) refl
    (update_scalar s.program op (type_of value) operation size t (update_rule s.program op place value operation size t line st.0.0).1)
take_in_keeps s (tree.Update op place value operation size t line) (AtWith spot u) v k c m w ty a n h st =
    changes_keep s.program _ (tree.Update op place value operation size t line) spot false v line k c m w a st.0 st.1 st.3 st.2.0
    (update_stands s.program (active c (Holds v) k) op (type_of value) operation size t v u (subst (λ q. HasType s.program q v) n h) st.2.1 (update_rule s.program op place value operation size t line st.0.0).1)
    (λ e. absurd (false≢true e))
take_in_keeps s (tree.Step op place operation size t line) (At spot) v k c m w ty a n h st =
    changes_keep s.program _ (tree.Step op place operation size t line) spot (is_postfix op) v line k c m w a st.0 st.1 st.3 st.2
    (step_stands s.program (active c (Holds v) k) op operation size t v (subst (λ q. HasType s.program q v) n h) (step_rule s.program op place operation size t line st.0.0).1)
    (λ e. subst (λ q. HasType s.program q v) n h)
take_in_keeps s (tree.Call g arguments t line) (Args before more) v k c m w ty a n h st =
    arguments_keep s.program g arguments t line (before ++ v ∷ []) more k c m w a st.0 st.1 st.3 (split_behind s.program arguments before v ty more st.2 n h)
take_in_keeps s _ _ v k c m w ty a n h st = absurd n

-- ---- a place takes a value
deref_keeps : (p : Program) (pointer : Expression) (ty : _) (line : ℕ) (v : Datum) (k : List Pending) (c : CopyOf) (m : Memory) (w : World Byte) → Around p c m w → IsPlaceOf p c.function (tree.Deref pointer ty line) → WaitsForPlace k (tree.Deref pointer ty line) → StackStands p c k → HasType p (type_of pointer) v → Keeps p (deref v line k c m w)
deref_keeps p pointer ty line (Pointer x) k c m w a e n st h = on a (tree.Deref pointer ty line, n, (x, h.1, refl)) st
deref_keeps p pointer ty line (Number q) k c m w a e n st h = false≢true (sym (ap is_pointer h.0) ∙ deref_pointer p c.function pointer ty line e)
deref_keeps p pointer ty line Missing k c m w a e n st h = tt

take_to_keeps : (p : Program) (place : Place) (v : Datum) (k : List Pending) (c : CopyOf) (m : Memory) (w : World Byte) (ty : Ty) → Around p c m w → WaitsTo place ty → HasType p ty v → StackStands p c (To place ∷ k) → Keeps p (take_to place v k c m w)
take_to_keeps p (tree.Deref pointer t line) v k c m w ty a n h st = deref_keeps p pointer t line v k c m w a st.0 st.1 st.2 (subst (λ q. HasType p q v) n h)
take_to_keeps p _ v k c m w ty a n h st = absurd n

-- ---- a switch
behind_stands : (p : Program) (f : ℕ) (d l r : Bool) (n : ℕ) (ss : Statements) → AreStatementsOf p f d l r ss → AreStatementsOf p f d l r (statements_behind n ss)
behind_stands p f d l r zero ss h = h
behind_stands p f d l r (suc n) tree.NoStatement h = tt
behind_stands p f d l r (suc n) (tree.AndStatement t ts) h = behind_stands p f d l r n ts h.1

module _ (p : Program) (e : Expression) (cases : List TCase) (default : Option ℕ) (ss : Statements) (line : ℕ) (k : List Pending) (c : CopyOf) (m : Memory) (w : World Byte) (a : Around p c m w) (h : StandsOn p c k (tree.Switch e cases default ss line)) where
  jump_keeps : (target : ℕ) → Keeps p (jump (tree.Switch e cases default ss line) target ss k c m w)
  jump_keeps target = on a tt (behind_stands p c.function true true (repeats k) target ss (all_listed p c.function true (repeats k) ss h.0.4), tt, (h.0, h.1, tt, h.2))

  any_keeps : (o : Option ℕ) → Keeps p (jump_if_any (tree.Switch e cases default ss line) o ss k c m w)
  any_keeps None = on a h.1 h.2
  any_keeps (Some target) = jump_keeps target

  case_keeps : (b : Bool) (v : Datum) (label : TCase) (labels : List TCase) (ty : Ty) → ty ≡ type_of e → HasType p ty v → (before : List TCase) → before ++ label ∷ labels ≡ cases
      → Keeps p (if b then jump (tree.Switch e cases default ss line) label.target ss k c m w else goes c (Compares v labels) (Doing (tree.Switch e cases default ss line) Chooses ∷ k) m w)
  case_keeps true v label labels ty n t before i = jump_keeps label.target
  case_keeps false v label labels ty n t before i = on a (ty, (n, (before ++ label ∷ [], append_assoc before (label ∷ []) labels ∙ i)), t) (h.0, h.1, tt, h.2)

  compares_in_keeps : (v : Datum) (labels : List TCase) (ty : Ty) → ty ≡ type_of e → HasType p ty v → (before : List TCase) → before ++ labels ≡ cases → Keeps p (compares_in (tree.Switch e cases default ss line) ss default v labels k c m w)
  compares_in_keeps v [] ty n t before i = any_keeps default
  compares_in_keeps v (label ∷ labels) ty n t before i = case_keeps (is_case v label) v label labels ty n t before i

compares_for_keeps : (p : Program) (t : Statement) (stage : Stage) (v : Datum) (labels : List TCase) (k : List Pending) (c : CopyOf) (m : Memory) (w : World Byte) (ty : Ty) → Around p c m w → ComparesOf (Doing t stage ∷ k) ty labels → HasType p ty v → StackStands p c (Doing t stage ∷ k) → Keeps p (compares_for t stage v labels k c m w)
compares_for_keeps p (tree.Switch e cases default ss line) Chooses v labels k c m w ty a n h st = compares_in_keeps p e cases default ss line k c m w a (st.0, st.1, st.3) v labels ty n.0 h n.1.0 n.1.1
compares_for_keeps p _ _ v labels k c m w ty a n h st = absurd n

pub compares_keep : (p : Program) (v : Datum) (labels : List TCase) (k : List Pending) (c : CopyOf) (m : Memory) (w : World Byte) (ty : Ty) → Around p c m w → ComparesOf k ty labels → HasType p ty v → StackStands p c k → Keeps p (compares v labels k c m w)
compares_keep p v labels [] c m w ty a n h st = absurd n
compares_keep p v labels (In e got ∷ k) c m w ty a n h st = absurd n
compares_keep p v labels (To place ∷ k) c m w ty a n h st = absurd n
compares_keep p v labels (Doing t stage ∷ k) c m w ty a n h st = compares_for_keeps p t stage v labels k c m w ty a n h st
compares_keep p v labels (Before ss ∷ k) c m w ty a n h st = absurd n
compares_keep p v labels (Returns d ∷ k) c m w ty a n h st = absurd n
compares_keep p v labels (Resumes d x ∷ k) c m w ty a n h st = absurd n

-- ---- a statement takes a value
take_for_keeps : (s : Setting) (ok : IsRunnable s.program) (t : Statement) (stage : Stage) (v : Datum) (k : List Pending) (c : CopyOf) (m : Memory) (w : World Byte) (ty : Ty) → Around s.program c m w → WaitsDoing t stage ty → HasType s.program ty v → StackStands s.program c (Doing t stage ∷ k) → Keeps s.program (take_for s t stage v k c m w)
take_for_keeps s ok (tree.Expr e line) Tests v k c m w ty a n h st = on a st.1 st.3
take_for_keeps s ok (tree.InitScalar local e line) Tests v k c m w ty a n h st =
    used_keeps s.program v line _ (on a (record { start = behind (local_of s.program c local) 0; type = type_of e; node = (refl, refl); there = stepped_zero _; typed = subst (λ q. HasType s.program q v) n h; part = omega arith }) st)
take_for_keeps s ok (tree.InitList local all line) (AtItem (tree.Scalar offset e) rest) v k c m w ty a n h st =
    used_keeps s.program v line _ (on a (record { start = behind (local_of s.program c local) offset; type = type_of e; node = (refl, refl); there = stepped_zero _; typed = subst (λ q. HasType s.program q v) n h; part = omega arith }) st)
take_for_keeps s ok (tree.If chain otherwise line) (Picks (tree.OneArm condition chosen at) more) v k c m w ty a n h st =
    branch_keeps s.program (truth_of v) at _ _ (on a (st.2.0.1, tt) (st.0, st.1, st.2.1, st.3)) (arms_keep s.program chain more otherwise line k c m w a (st.0, st.1, st.3) st.2.1)
take_for_keeps s ok (tree.Loop shape first condition step body line) Begins v k c m w ty a n h st = test_keeps s.program shape first condition step body line k c m w a (st.0, st.1, st.3)
take_for_keeps s ok (tree.Loop shape first condition step body line) Steps v k c m w ty a n h st = test_keeps s.program shape first condition step body line k c m w a (st.0, st.1, st.3)
take_for_keeps s ok (tree.Loop shape first condition step body line) Tests v k c m w ty a n h st =
    branch_keeps s.program (truth_of v) line _ _ (turn_keeps s.program shape first condition step body line k c m w a (st.0, st.1, st.3)) (on a st.1 st.3)
take_for_keeps s ok (tree.Switch e cases default ss line) Tests v k c m w ty a n h st =
    used_keeps s.program v line _ (on a (ty, (n, ([], refl)), h) st)
take_for_keeps s ok (tree.Return None line) Tests v k c m w ty a n h st = absurd n
take_for_keeps s ok (tree.Return (Some e) line) Tests v k c m w ty a n h st =
    let u = unwound_stands s.program k c st.1 st.3 in
    used_keeps s.program v line _ (on a (gives_to_call s.program ok e (unwound k) c u.0 u.1 st.0.0, subst (λ q. HasType s.program q v) (n ∙ st.0.0.0) h) u.1)
take_for_keeps s ok _ _ v k c m w ty a n h st = absurd n

pub give_keeps : (s : Setting) (ok : IsRunnable s.program) (v : Datum) (k : List Pending) (c : CopyOf) (m : Memory) (w : World Byte) (ty : Ty) → Around s.program c m w → WaitsForValue k ty → HasType s.program ty v → StackStands s.program c k → Keeps s.program (give s v k c m w)
give_keeps s ok v [] c m w ty a n h st = absurd n
give_keeps s ok v (In e got ∷ k) c m w ty a n h st = take_in_keeps s e got v k c m w ty a n h st
give_keeps s ok v (To place ∷ k) c m w ty a n h st = take_to_keeps s.program place v k c m w ty a n h st
give_keeps s ok v (Doing t stage ∷ k) c m w ty a n h st = take_for_keeps s ok t stage v k c m w ty a n h st
give_keeps s ok v (Before ss ∷ k) c m w ty a n h st = absurd n
give_keeps s ok v (Returns d ∷ k) c m w ty a n h st = absurd n
give_keeps s ok v (Resumes d x ∷ k) c m w ty a n h st = absurd n
