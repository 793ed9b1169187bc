-- The frames of a switch's body: directly above it only statements wait that are the last ones of the body. Each micro-step keeps it.
use Rattle.std.proofs.Common.{◌≡◌, ℕ, zero, suc, ◌≤◌, ◌<◌, ⊎_elim, Bool, true, false, if◌then◌else◌, nat_lt, List, [], ◌∷◌, ◌++◌, length, Option, Some, None, refl, sym, ap, subst, arith}
use Rattle.std.proofs.lemmas.Bool.{cases_lt}
use Rattle.c_typed.specs.Sound.{count_of}
use Rattle.c_typed.specs.Trees as tree
use Rattle.c_typed.specs.Trees.{Expression, Expressions, Place, Item, Statement, Statements, Arm, Arms, LastArm, Program}
use Rattle.c_typed.specs.declared.expression.LogicalOp.{LogicalOp}
use Rattle.c_typed.specs.declared.statement.LoopForm.{LoopForm}
use Rattle.c_typed.specs.declared.statement.LoopForm.TheVariants.{While, Do, For}
use Rattle.c_typed.specs.declared.statement.TCase.{TCase}
use Rattle.c_typed.specs.declared.types.Ty.{Ty}
use Rattle.c_typed.specs.declared.types.Ty.TheVariants as types
use Rattle.c_typed.specs.Types.{type_bytes}
use Rattle.pic_world.specs.World.{World, arrived, is_due, device_value}
use Rattle.src_rules.specs.Accesses.{goes, fetching, after_taking, after_putting, fetched, fetch, skim, items, stored_in, stored_for, stored, write_at, write, copy_read, spell, blank_at, blank_for, blank}
use Rattle.src_rules.specs.Expressions.{arguments, eval, find, takes, found_in, at_member, member_of, found_to, found_for, found}
use Rattle.src_rules.specs.Giving.{answered, used, branch, logical, truth_given, changes, take_in, deref, take_to, statements_behind, jump, jump_if_any, compares_in, compares_for, compares, take_for, give}
use Rattle.src_rules.specs.Standing.{WaitsForEnd, StackStands, leaves, repeats}
use Rattle.src_rules.specs.State.{State, Outcome, Went, Undefined, Idle, Lost}
use Rattle.src_rules.specs.Statements.{turn, test, first_of, next_of, loops, last, arms, break_at, continue_at, unwound, turned, proceed, handed, leave, begin}
use Rattle.src_rules.specs.Step.{copy_of, has_missing, with_values, body_of, call_in, call, act, refused_at, refused, interrupted, step, start}
use Rattle.src_values.specs.Accesses.{Taking, Takes, Breaks, Putting, Puts, Refuses, take_byte, device_taken}
use Rattle.src_values.specs.Control as control
use Rattle.src_values.specs.Control.{Focus, Past, read_type, line_at, active, Got, Nothing, Chosen, One, At, AtWith, Stores, Copies, Args, Passed, Called, Stage, Tests, Begins, Steps, Turns, Picks, InArm, Chooses, Fills, AtItem, Items, Blanks, Pending, In, To, Doing, Before, Returns, Resumes}
use Rattle.src_values.specs.Data.{Datum, Number, Pointer, Missing}
use Rattle.src_values.specs.Memory.{Setting, Memory, fresh}
use Rattle.src_values.specs.Objects.{handler_in, local_of, next_byte, behind}
use Rattle.src_values.specs.Values as answers
use Rattle.src_values.specs.Values.{Answer, number_in, value_from, fits_behind, truth_of, truth_value, decides, is_case, written_bytes}
use Rattle.src_values.specs.declared.objects.Byte.{Byte}
use Rattle.src_values.specs.declared.objects.CopyOf.{CopyOf}
use Rattle.src_values.specs.declared.objects.Object.{Object}
use Rattle.src_values.specs.declared.objects.Pointer.{Pointer as Reference}
use Rattle.src_values.specs.declared.objects.Spot.{Spot}
use Rattle.src_values.specs.declared.objects.Spot.TheVariants as spots
use Rattle.src_values.specs.declared.objects.Undef.TheVariants.{Unset}
use Rattle.lower_trace.proofs.CodeLeft.{Switched, switch_on}
use Rattle.lower_trace.proofs.Ends.{InnerBody, InnerLoop}
use Rattle.lower_trace.proofs.Falling.{IsPart, IsPartOf}

-- the body of a switch comes on top only where a statement has ended
abbrev pub AtFocus : Focus → List Pending → Type 0
AtFocus Past k = Unit {0}
AtFocus _ k = switch_on k ≡ None

abbrev pub InSegments : List Pending → Type 0
InSegments [] = Unit {0}
InSegments (In e got ∷ k) = (switch_on k ≡ None) × InSegments k
InSegments (To place ∷ k) = (switch_on k ≡ None) × InSegments k
InSegments (Doing t stage ∷ k) = (switch_on k ≡ None) × InSegments k
InSegments (Before ss ∷ k) = IsPartOf (switch_on k) ss × InSegments k
InSegments (Returns d ∷ k) = (switch_on k ≡ None) × InSegments k
InSegments (Resumes d x ∷ k) = AtFocus x k × InSegments k

abbrev pub StaysIn : Outcome → Type 0
StaysIn (Went u event) = AtFocus u.focus u.stack × InSegments u.stack
StaysIn _ = Unit {0}

-- no body of a switch is on top
abbrev pub Plain : List Pending → Type 0
Plain k = (switch_on k ≡ None) × InSegments k

-- ---- the last statements of a body
none_behind : (ss : Statements) (n : ℕ) → count_of ss ≤ n → statements_behind n ss ≡ statements_behind (count_of ss) ss
none_behind tree.NoStatement zero le = refl
none_behind tree.NoStatement (suc n) le = refl
none_behind (tree.AndStatement s ss) zero le = absurd (omega arith)
none_behind (tree.AndStatement s ss) (suc n) le = none_behind ss n (omega arith)

part_behind : (x : Switched) (n : ℕ) → IsPart x (statements_behind n x.body)
part_behind x n =
    ⊎_elim
    (λ lt. record { index = n; few = omega arith; is = refl })
    (λ ge. record { index = count_of x.body; few = omega arith; is = sym (none_behind x.body n ge) })
    (cases_lt n (count_of x.body))

behind_next : (m : ℕ) (ss : Statements) (t : Statement) (ts : Statements) → statements_behind m ss ≡ tree.AndStatement t ts → (m < count_of ss) × (statements_behind (suc m) ss ≡ ts)
behind_next zero ss t ts e = (let q = ap count_of e in omega arith, ap (statements_behind 1) e)
behind_next (suc m) tree.NoStatement t ts e = let q = ap count_of e in absurd (omega arith)
behind_next (suc m) (tree.AndStatement s ss) t ts e = let r = behind_next m ss t ts e in let q = r.0 in (omega arith, r.1)

part_next : (o : Option Switched) (t : Statement) (ts : Statements) → IsPartOf o (tree.AndStatement t ts) → IsPartOf o ts
part_next None t ts h = tt
part_next (Some x) t ts h = let r = behind_next h.index x.body t ts h.is in let q = r.0 in record { index = suc h.index; few = omega arith; is = r.1 }

-- ---- accesses
taking_in : (t : Taking) (next : Byte → Focus) (c : CopyOf) (k : List Pending) (m : Memory) (line : ℕ) → ((byte : Byte) → AtFocus (next byte) k) → InSegments k → StaysIn (after_taking t next c k m line)
taking_in (Takes byte w event) next c k m line f h = (f byte, h)
taking_in (Breaks kind) next c k m line f h = tt

putting_in : (t : Putting) (next : Focus) (c : CopyOf) (k : List Pending) (line : ℕ) → AtFocus next k → InSegments k → StaysIn (after_putting t next c k line)
putting_in (Puts m w event) next c k line f h = (f, h)
putting_in (Refuses kind) next c k line f h = tt

either_in : (b : Bool) (x y : Outcome) → StaysIn x → StaysIn y → StaysIn (if b then x else y)
either_in true x y f g = f
either_in false x y f g = g

fetched_in : (v : Datum) (k : List Pending) (c : CopyOf) (m : Memory) (w : World Byte) → Plain k → StaysIn (fetched v k c m w)
fetched_in v (In (tree.Read place ty line) (At spot) ∷ k) c m w h = h.1
fetched_in v _ c m w h = h

fetch_in : (s : Setting) (spot : Spot) (read : List Byte) (k : List Pending) (c : CopyOf) (m : Memory) (w : World Byte) → Plain k → StaysIn (fetch s spot read k c m w)
fetch_in s spot read k c m w h =
    let ty = read_type k in
    let taken = take_byte s (active c (control.Fetch spot read) k) c.root (fits_behind ty read) spot m w in
    let next : Byte → Focus = λ byte. control.Fetch (next_byte spot) (read ++ byte ∷ []) in
    either_in (nat_lt (length read) (type_bytes s.program.sizes ty)) (after_taking taken next c k m (line_at k)) (fetched (value_from ty read) k c m w) (taking_in taken next c k m (line_at k) (λ byte. h.0) h.1) (fetched_in (value_from ty read) k c m w h)

skim_in : (s : Setting) (spot : Spot) (left : ℕ) (byte : Option Byte) (k : List Pending) (c : CopyOf) (m : Memory) (w : World Byte) → Plain k → StaysIn (skim s spot left byte k c m w)
skim_in s spot zero byte k c m w h = fetched_in Missing k c m w h
skim_in s spot (suc left) byte k c m w h = taking_in _ _ c k m _ (λ next. h.0) h.1

items_in : (s : Setting) (local : ℕ) (all : List Item) (line : ℕ) (object : Object) (rest : List Item) (k : List Pending) (c : CopyOf) (m : Memory) (w : World Byte) → Plain k → StaysIn (items s (tree.InitList local all line) object rest k c m w)
items_in s local all line object [] k c m w h = (refl, h)
items_in s local all line object (tree.Scalar offset value ∷ rest) k c m w h = (refl, h)
items_in s local all line object (tree.Struct offset from size ∷ rest) k c m w h = (refl, h)
items_in s local all line object (tree.Text offset text size ∷ rest) k c m w h = (refl, h)

stored_frame_in : (s : Setting) (e : Expression) (got : Got) (k : List Pending) (c : CopyOf) (m : Memory) (w : World Byte) → Plain k → StaysIn (stored_in e got k c m w)
stored_frame_in s e (Stores spot v) k c m w h = h
stored_frame_in s e Copies k c m w h = h
stored_frame_in s e _ k c m w h = tt

stored_statement_in : (s : Setting) (t : Statement) (stage : Stage) (k : List Pending) (c : CopyOf) (m : Memory) (w : World Byte) → Plain k → StaysIn (stored_for s t stage k c m w)
stored_statement_in s (tree.InitScalar local e line) Fills k c m w h = (tt, h.1)
stored_statement_in s (tree.InitList local all line) (Items item rest) k c m w h = items_in s local all line _ rest k c m w h
stored_statement_in s (tree.InitList local all line) Blanks k c m w h = (tt, h.1)
stored_statement_in s _ _ k c m w h = tt

stored_stays : (s : Setting) (k : List Pending) (c : CopyOf) (m : Memory) (w : World Byte) → InSegments k → StaysIn (stored s k c m w)
stored_stays s (In e got ∷ k) c m w h = stored_frame_in s e got k c m w h
stored_stays s (Doing t stage ∷ k) c m w h = stored_statement_in s t stage k c m w h
stored_stays s _ c m w h = tt

write_place_in : (s : Setting) (spot : Spot) (v : Datum) (at : ℕ) (k : List Pending) (c : CopyOf) (m : Memory) (w : World Byte) → Plain k → StaysIn (write_at s spot v at k c m w)
write_place_in s (spots.Bit register number) v at k c m w h = taking_in (device_taken s register (device_value s.outside register w) w) (λ byte. control.PutBit register number v (number_in byte)) c k m (line_at k) (λ byte. h.0) h.1
write_place_in s (spots.Device address) v at k c m w h = putting_in _ _ c k _ h.0 h.1
write_place_in s (spots.Memory x) v at k c m w h = putting_in _ _ c k _ h.0 h.1

write_in : (s : Setting) (spot : Spot) (v : Datum) (at : ℕ) (k : List Pending) (c : CopyOf) (m : Memory) (w : World Byte) → Plain k → StaysIn (write s spot v at k c m w)
write_in s spot v at k c m w h = either_in (nat_lt at (written_bytes spot v)) (write_at s spot v at k c m w) (stored s k c m w) (write_place_in s spot v at k c m w h) (stored_stays s k c m w h.1)

copy_read_in : (s : Setting) (to from : Spot) (left : ℕ) (k : List Pending) (c : CopyOf) (m : Memory) (w : World Byte) → Plain k → StaysIn (copy_read s to from left k c m w)
copy_read_in s to from zero k c m w h = stored_stays s k c m w h.1
copy_read_in s to from (suc left) k c m w h = taking_in _ _ c k m _ (λ byte. h.0) h.1

spell_in : (s : Setting) (spot : Spot) (text : List ℕ) (left : ℕ) (k : List Pending) (c : CopyOf) (m : Memory) (w : World Byte) → Plain k → StaysIn (spell s spot text left k c m w)
spell_in s spot text zero k c m w h = stored_stays s k c m w h.1
spell_in s spot text (suc left) k c m w h = putting_in _ _ c k _ h.0 h.1

blank_byte_in : (s : Setting) (object : Object) (at left : ℕ) (k : List Pending) (c : CopyOf) (m : Memory) (w : World Byte) → Plain k → StaysIn (blank_at s object at left k c m w)
blank_byte_in s object at zero k c m w h = stored_stays s k c m w h.1
blank_byte_in s object at (suc left) k c m w h = putting_in _ _ c k _ h.0 h.1

blank_for_in : (s : Setting) (t : Statement) (at left : ℕ) (k : List Pending) (c : CopyOf) (m : Memory) (w : World Byte) → Plain k → StaysIn (blank_for s t at left k c m w)
blank_for_in s (tree.InitList local all line) at left k c m w h = blank_byte_in s _ _ _ k c m w h
blank_for_in s _ at left k c m w h = tt

blank_in : (s : Setting) (at left : ℕ) (k : List Pending) (c : CopyOf) (m : Memory) (w : World Byte) → Plain k → StaysIn (blank s at left k c m w)
blank_in s at left (Doing t stage ∷ k) c m w h = blank_for_in s t at left (Doing t stage ∷ k) c m w h
blank_in s at left _ c m w h = tt

-- ---- expressions and places
arguments_in : (e : Expression) (values : List Datum) (more : Expressions) (k : List Pending) (c : CopyOf) (m : Memory) (w : World Byte) → Plain k → StaysIn (arguments e values more k c m w)
arguments_in e values tree.NoExpression k c m w h = (refl, h)
arguments_in e values (tree.AndExpression argument more) k c m w h = (refl, h)

eval_in : (e : Expression) (k : List Pending) (c : CopyOf) (m : Memory) (w : World Byte) → Plain k → StaysIn (eval e k c m w)
eval_in (tree.Constant value line) k c m w h = h
eval_in (tree.Call function values ty line) k c m w h = arguments_in (tree.Call function values ty line) [] values k c m w h
eval_in _ k c m w h = (refl, h)

find_in : (s : Setting) (place : Place) (k : List Pending) (c : CopyOf) (m : Memory) (w : World Byte) → Plain k → StaysIn (find s place k c m w)
find_in s (tree.Name object ty line) k c m w h = h
find_in s (tree.Bit register number line) k c m w h = h
find_in s (tree.Member whole member offset ty line) k c m w h = (refl, h)
find_in s (tree.Deref pointer ty line) k c m w h = (refl, h)

takes_in : (o : Option Reference) (k : List Pending) (c : CopyOf) (m : Memory) (w : World Byte) → Plain k → StaysIn (takes o k c m w)
takes_in (Some x) k c m w h = h
takes_in None k c m w h = tt

fetching_at : (spot : Spot) (ty : Ty) (sizes : List ℕ) (e : Expression) (got : Got) (k : List Pending) → AtFocus (fetching spot ty sizes) (In e got ∷ k)
fetching_at spot (types.Int ty) sizes e got k = refl
fetching_at spot (types.Pointer target) sizes e got k = refl
fetching_at spot types.Void sizes e got k = refl
fetching_at spot (types.Array element length size) sizes e got k = refl
fetching_at spot (types.Struct number) sizes e got k = refl

found_node_in : (s : Setting) (e : Expression) (got : Got) (spot : Spot) (k : List Pending) (c : CopyOf) (m : Memory) (w : World Byte) → Plain k → StaysIn (found_in s e got spot k c m w)
found_node_in s (tree.Read place ty line) Nothing spot k c m w h = (fetching_at spot ty s.program.sizes (tree.Read place ty line) (At spot) k, h)
found_node_in s (tree.Address place ty line) Nothing spot k c m w h = takes_in _ k c m w h
found_node_in s (tree.Assign place value ty line) Nothing spot k c m w h = (refl, h)
found_node_in s (tree.StructAssign place from size line) Nothing spot k c m w h = (refl, h)
found_node_in s (tree.StructAssign place from size line) (At to) spot k c m w h = (refl, h)
found_node_in s (tree.Update op place value operation size ty line) Nothing spot k c m w h = (refl, h)
found_node_in s (tree.Step op place operation size ty line) Nothing spot k c m w h = (fetching_at spot ty s.program.sizes (tree.Step op place operation size ty line) (At spot) k, h)
found_node_in s _ _ spot k c m w h = tt

member_place_in : (o : Option Reference) (line : ℕ) (k : List Pending) (c : CopyOf) (m : Memory) (w : World Byte) → Plain k → StaysIn (at_member o line k c m w)
member_place_in (Some x) line k c m w h = h
member_place_in None line k c m w h = tt

member_in : (s : Setting) (o : Option Reference) (offset line : ℕ) (k : List Pending) (c : CopyOf) (m : Memory) (w : World Byte) → Plain k → StaysIn (member_of s o offset line k c m w)
member_in s (Some x) offset line k c m w h = member_place_in _ line k c m w h
member_in s None offset line k c m w h = tt

found_place_in : (s : Setting) (place : Place) (spot : Spot) (k : List Pending) (c : CopyOf) (m : Memory) (w : World Byte) → Plain k → StaysIn (found_to s place spot k c m w)
found_place_in s (tree.Member whole member offset ty line) spot k c m w h = member_in s _ offset line k c m w h
found_place_in s _ spot k c m w h = tt

found_item_in : (s : Setting) (t : Statement) (stage : Stage) (spot : Spot) (k : List Pending) (c : CopyOf) (m : Memory) (w : World Byte) → Plain k → StaysIn (found_for s t stage spot k c m w)
found_item_in s (tree.InitList local all line) (AtItem (tree.Struct offset from size) rest) spot k c m w h = (refl, h)
found_item_in s _ _ spot k c m w h = tt

found_stays : (s : Setting) (spot : Spot) (k : List Pending) (c : CopyOf) (m : Memory) (w : World Byte) → InSegments k → StaysIn (found s spot k c m w)
found_stays s spot (In e got ∷ k) c m w h = found_node_in s e got spot k c m w h
found_stays s spot (To place ∷ k) c m w h = found_place_in s place spot k c m w h
found_stays s spot (Doing t stage ∷ k) c m w h = found_item_in s t stage spot k c m w h
found_stays s spot _ c m w h = tt

-- ---- statements
test_in : (shape : LoopForm) (begins condition step : Option Expression) (body : Statement) (line : ℕ) (now : Option Expression) (k : List Pending) (c : CopyOf) (m : Memory) (w : World Byte) → Plain k → StaysIn (test (tree.Loop shape begins condition step body line) now body k c m w)
test_in shape begins condition step body line None k c m w h = (refl, h)
test_in shape begins condition step body line (Some e) k c m w h = (refl, h)

first_in : (shape : LoopForm) (begins condition step : Option Expression) (body : Statement) (line : ℕ) (now : Option Expression) (k : List Pending) (c : CopyOf) (m : Memory) (w : World Byte) → Plain k → StaysIn (first_of (tree.Loop shape begins condition step body line) now condition body k c m w)
first_in shape begins condition step body line None k c m w h = test_in shape begins condition step body line condition k c m w h
first_in shape begins condition step body line (Some e) k c m w h = (refl, h)

next_in : (shape : LoopForm) (begins condition step : Option Expression) (body : Statement) (line : ℕ) (now : Option Expression) (k : List Pending) (c : CopyOf) (m : Memory) (w : World Byte) → Plain k → StaysIn (next_of (tree.Loop shape begins condition step body line) now condition body k c m w)
next_in shape begins condition step body line None k c m w h = test_in shape begins condition step body line condition k c m w h
next_in shape begins condition step body line (Some e) k c m w h = (refl, h)

loops_in : (form shape : LoopForm) (begins condition step : Option Expression) (body : Statement) (line : ℕ) (k : List Pending) (c : CopyOf) (m : Memory) (w : World Byte) → Plain k → StaysIn (loops form (tree.Loop shape begins condition step body line) begins condition body k c m w)
loops_in While shape begins condition step body line k c m w h = first_in shape begins condition step body line begins k c m w h
loops_in For shape begins condition step body line k c m w h = first_in shape begins condition step body line begins k c m w h
loops_in Do shape begins condition step body line k c m w h = (refl, h)

last_in : (chain : Arms) (otherwise : LastArm) (line : ℕ) (now : LastArm) (k : List Pending) (c : CopyOf) (m : Memory) (w : World Byte) → Plain k → StaysIn (last (tree.If chain otherwise line) now k c m w)
last_in chain otherwise line tree.NoLast k c m w h = (tt, h.1)
last_in chain otherwise line (tree.Last t) k c m w h = (refl, h)

arms_in : (chain : Arms) (otherwise : LastArm) (line : ℕ) (more : Arms) (now : LastArm) (k : List Pending) (c : CopyOf) (m : Memory) (w : World Byte) → Plain k → StaysIn (arms (tree.If chain otherwise line) more now k c m w)
arms_in chain otherwise line tree.NoArm now k c m w h = last_in chain otherwise line now k c m w h
arms_in chain otherwise line (tree.AndArm (tree.OneArm condition chosen at) more) now k c m w h = (refl, h)

break_in : (k : List Pending) (c : CopyOf) (m : Memory) (w : World Byte) → InSegments k → StaysIn (break_at k c m w)
break_in (Doing t Turns ∷ k) c m w h = (tt, h.1)
break_in (Doing t (InArm more) ∷ k) c m w h = break_in k c m w h.1
break_in (Before ss ∷ k) c m w h = break_in k c m w h.1
break_in _ c m w h = tt

continue_in : (k : List Pending) (c : CopyOf) (m : Memory) (w : World Byte) → InSegments k → StaysIn (continue_at k c m w)
continue_in (Doing (tree.Loop shape first condition step body line) Turns ∷ k) c m w h = (tt, h)
continue_in (Doing (tree.Switch e cases default ss line) Turns ∷ k) c m w h = continue_in k c m w h.1
continue_in (Doing t (InArm more) ∷ k) c m w h = continue_in k c m w h.1
continue_in (Before ss ∷ k) c m w h = continue_in k c m w h.1
continue_in _ c m w h = tt

turned_in : (t : Statement) (stage : Stage) (k : List Pending) (c : CopyOf) (m : Memory) (w : World Byte) → Plain k → StaysIn (turned t stage k c m w)
turned_in (tree.Loop shape first condition step body line) Turns k c m w h = next_in shape first condition step body line step k c m w h
turned_in (tree.Switch e cases default ss line) Turns k c m w h = (tt, h.1)
turned_in (tree.If chain otherwise line) (InArm more) k c m w h = (tt, h.1)
turned_in _ _ k c m w h = tt

proceed_in : (k : List Pending) (c : CopyOf) (m : Memory) (w : World Byte) → InSegments k → StaysIn (proceed k c m w)
proceed_in [] c m w h = (refl, tt)
proceed_in (Before tree.NoStatement ∷ k) c m w h = (tt, h.1)
proceed_in (Before (tree.AndStatement t ts) ∷ k) c m w h = (refl, (part_next (switch_on k) t ts h.0, h.1))
proceed_in (Doing t stage ∷ k) c m w h = turned_in t stage k c m w h
proceed_in (Returns d ∷ k) c m w h = (refl, h)
proceed_in (Resumes d x ∷ k) c m w h = h
proceed_in (In e got ∷ k) c m w h = tt
proceed_in (To place ∷ k) c m w h = tt

unwound_in : (k : List Pending) → InSegments k → InSegments (unwound k)
unwound_in (Before ss ∷ k) h = unwound_in k h.1
unwound_in (Doing t Turns ∷ k) h = unwound_in k h.1
unwound_in (Doing t (InArm more) ∷ k) h = unwound_in k h.1
unwound_in [] h = h
unwound_in (In e got ∷ k) h = h
unwound_in (To place ∷ k) h = h
unwound_in (Doing t _ ∷ k) h = h
unwound_in (Returns d ∷ k) h = h
unwound_in (Resumes d x ∷ k) h = h

-- below the statements of a body no switch is on top
abbrev NotTurns : Stage → Type 0
NotTurns Turns = ⊥
NotTurns _ = Unit {0}

off_stage : (t : Statement) (stage : Stage) (k : List Pending) → NotTurns stage → switch_on (Doing t stage ∷ k) ≡ None
off_stage (tree.Switch e cases default ss line) Turns k h = absurd h
off_stage (tree.Switch e cases default ss line) _ k h = refl
off_stage _ stage k h = refl

unwound_off : (k : List Pending) → switch_on (unwound k) ≡ None
unwound_off (Before ss ∷ k) = unwound_off k
unwound_off (Doing t Turns ∷ k) = unwound_off k
unwound_off (Doing t (InArm more) ∷ k) = unwound_off k
unwound_off (Doing t stage ∷ k) = off_stage t stage k tt
unwound_off [] = refl
unwound_off (In e got ∷ k) = refl
unwound_off (To place ∷ k) = refl
unwound_off (Returns d ∷ k) = refl
unwound_off (Resumes d x ∷ k) = refl

handed_in : (v : Datum) (d : CopyOf) (k : List Pending) (m : Memory) (w : World Byte) → InSegments k → StaysIn (handed v d k m w)
handed_in v d (In (tree.Call function arguments ty line) Called ∷ k) m w h = h
handed_in v d _ m w h = tt

leave_in : (v : Datum) (k : List Pending) (m : Memory) (w : World Byte) → InSegments k → StaysIn (leave v k m w)
leave_in v (Returns d ∷ k) m w h = handed_in v d k m w h.1
leave_in v _ m w h = tt

begin_in : (s : Setting) (t : Statement) (k : List Pending) (c : CopyOf) (m : Memory) (w : World Byte) → Plain k → StaysIn (begin s t k c m w)
begin_in s (tree.Block ss line) k c m w h = (tt, (subst (λ o. IsPartOf o ss) (sym h.0) tt, h.1))
begin_in s (tree.Empty line) k c m w h = (tt, h.1)
begin_in s (tree.Expr e line) k c m w h = (refl, h)
begin_in s (tree.Declare local line) k c m w h = (tt, h.1)
begin_in s (tree.InitScalar local e line) k c m w h = (refl, h)
begin_in s (tree.InitList local all line) k c m w h = items_in s local all line _ all k c _ w h
begin_in s (tree.If chain otherwise line) k c m w h = arms_in chain otherwise line chain otherwise k c m w h
begin_in s (tree.Loop shape first condition step body line) k c m w h = loops_in shape shape first condition step body line k c m w h
begin_in s (tree.Switch e cases default ss line) k c m w h = (refl, h)
begin_in s (tree.Break line) k c m w h = break_in k c m w h.1
begin_in s (tree.Continue line) k c m w h = continue_in k c m w h.1
begin_in s (tree.Return None line) k c m w h = proceed_in (unwound k) c m w (unwound_in k h.1)
begin_in s (tree.Return (Some e) line) k c m w h = (refl, h)

-- ---- values
answered_in : (a : Answer) (line : ℕ) (k : List Pending) (c : CopyOf) (m : Memory) (w : World Byte) → Plain k → StaysIn (answered a line k c m w)
answered_in (answers.Gives v) line k c m w h = h
answered_in (answers.Fails kind) line k c m w h = tt
answered_in answers.Strays line k c m w h = tt

used_in : (v : Datum) (line : ℕ) (next : Outcome) → StaysIn next → StaysIn (used v line next)
used_in Missing line next h = tt
used_in (Number q) line next h = h
used_in (Pointer x) line next h = h

branch_in : (o : Option Bool) (line : ℕ) (x y : Outcome) → StaysIn x → StaysIn y → StaysIn (branch o line x y)
branch_in None line x y f g = tt
branch_in (Some true) line x y f g = f
branch_in (Some false) line x y f g = g

logical_in : (e : Expression) (op : LogicalOp) (v : Datum) (o : Option Bool) (right : Expression) (line : ℕ) (k : List Pending) (c : CopyOf) (m : Memory) (w : World Byte) → Plain k → StaysIn (logical e op v o right line k c m w)
logical_in e op v None right line k c m w h = tt
logical_in e op v (Some held) right line k c m w h = either_in (decides op held) (goes c (control.Holds (truth_value held)) k m w) (goes c (control.Eval right) (In e (One v) ∷ k) m w) h (refl, h)

truth_in : (o : Option Bool) (line : ℕ) (k : List Pending) (c : CopyOf) (m : Memory) (w : World Byte) → Plain k → StaysIn (truth_given o line k c m w)
truth_in None line k c m w h = tt
truth_in (Some held) line k c m w h = h

changes_in : (a : Answer) (e : Expression) (spot : Spot) (keeps : Bool) (old : Datum) (line : ℕ) (k : List Pending) (c : CopyOf) (m : Memory) (w : World Byte) → Plain k → StaysIn (changes a e spot keeps old line k c m w)
changes_in (answers.Gives v) e spot keeps old line k c m w h = (refl, h)
changes_in (answers.Fails kind) e spot keeps old line k c m w h = tt
changes_in answers.Strays e spot keeps old line k c m w h = tt

taken_in : (s : Setting) (e : Expression) (got : Got) (v : Datum) (k : List Pending) (c : CopyOf) (m : Memory) (w : World Byte) → Plain k → StaysIn (take_in s e got v k c m w)
taken_in s (tree.Convert operand ty line) Nothing v k c m w h = answered_in _ line k c m w h
taken_in s (tree.Cast operand ty line) Nothing v k c m w h = answered_in _ line k c m w h
taken_in s (tree.Unary op operand ty line) Nothing v k c m w h = answered_in _ line k c m w h
taken_in s (tree.Binary op left right ty line) Nothing v k c m w h = (refl, h)
taken_in s (tree.Binary op left right ty line) (One u) v k c m w h = answered_in _ line k c m w h
taken_in s (tree.Offset op left right size ty line) Nothing v k c m w h = (refl, h)
taken_in s (tree.Offset op left right size ty line) (One u) v k c m w h = answered_in _ line k c m w h
taken_in s (tree.Difference left right size line) Nothing v k c m w h = (refl, h)
taken_in s (tree.Difference left right size line) (One u) v k c m w h = answered_in _ line k c m w h
taken_in s (tree.Logical op left right line) Nothing v k c m w h = logical_in _ op v _ right line k c m w h
taken_in s (tree.Logical op left right line) (One u) v k c m w h = truth_in _ line k c m w h
taken_in s (tree.Conditional condition chosen otherwise ty line) Nothing v k c m w h =
    let e = tree.Conditional condition chosen otherwise ty line in
    branch_in (truth_of v) line (goes c (control.Eval chosen) (In e Chosen ∷ k) m w) (goes c (control.Eval otherwise) (In e Chosen ∷ k) m w) (refl, h) (refl, h)
taken_in s (tree.Conditional condition chosen otherwise ty line) Chosen v k c m w h = h
taken_in s (tree.Comma left right ty line) Nothing v k c m w h = h
taken_in s (tree.Assign place value ty line) (At spot) v k c m w h = used_in v line (goes c (control.Write spot v 0) (In (tree.Assign place value ty line) (Stores spot v) ∷ k) m w) (refl, h)
taken_in s (tree.Update op place value operation size ty line) (At spot) v k c m w h = (fetching_at spot ty s.program.sizes (tree.Update op place value operation size ty line) (AtWith spot v) k, h)
taken_in s (tree.Update op place value operation size ty line) (AtWith spot u) v k c m w h = changes_in _ _ spot false v line k c m w h
taken_in s (tree.Step op place operation size ty line) (At spot) v k c m w h = changes_in _ _ spot _ v line k c m w h
taken_in s (tree.Call function values ty line) (Args before more) v k c m w h = arguments_in _ _ more k c m w h
taken_in s _ _ v k c m w h = tt

deref_in : (v : Datum) (line : ℕ) (k : List Pending) (c : CopyOf) (m : Memory) (w : World Byte) → Plain k → StaysIn (deref v line k c m w)
deref_in (Pointer x) line k c m w h = h
deref_in (Number q) line k c m w h = tt
deref_in Missing line k c m w h = tt

placed_in : (place : Place) (v : Datum) (k : List Pending) (c : CopyOf) (m : Memory) (w : World Byte) → Plain k → StaysIn (take_to place v k c m w)
placed_in (tree.Deref pointer ty line) v k c m w h = deref_in v line k c m w h
placed_in _ v k c m w h = tt

-- a switch leads to the last statements of its body
jump_in : (e : Expression) (cases : List TCase) (default : Option ℕ) (ss : Statements) (line target : ℕ) (k : List Pending) (c : CopyOf) (m : Memory) (w : World Byte) → Plain k → StaysIn (jump (tree.Switch e cases default ss line) target ss k c m w)
jump_in e cases default ss line target k c m w h = (tt, (part_behind (record { value = e; cases = cases; default = default; body = ss }) target, h))

default_in : (e : Expression) (cases : List TCase) (default : Option ℕ) (ss : Statements) (line : ℕ) (o : Option ℕ) (k : List Pending) (c : CopyOf) (m : Memory) (w : World Byte) → Plain k → StaysIn (jump_if_any (tree.Switch e cases default ss line) o ss k c m w)
default_in e cases default ss line None k c m w h = (tt, h.1)
default_in e cases default ss line (Some target) k c m w h = jump_in e cases default ss line target k c m w h

labels_in : (e : Expression) (cases : List TCase) (default : Option ℕ) (ss : Statements) (line : ℕ) (v : Datum) (labels : List TCase) (k : List Pending) (c : CopyOf) (m : Memory) (w : World Byte) → Plain k → StaysIn (compares_in (tree.Switch e cases default ss line) ss default v labels k c m w)
labels_in e cases default ss line v [] k c m w h = default_in e cases default ss line default k c m w h
labels_in e cases default ss line v (label ∷ labels) k c m w h =
    let t = tree.Switch e cases default ss line in
    either_in (is_case v label) (jump t label.target ss k c m w) (goes c (control.Compares v labels) (Doing t Chooses ∷ k) m w) (jump_in e cases default ss line label.target k c m w h) (refl, h)

comparing_in : (t : Statement) (stage : Stage) (v : Datum) (labels : List TCase) (k : List Pending) (c : CopyOf) (m : Memory) (w : World Byte) → Plain k → StaysIn (compares_for t stage v labels k c m w)
comparing_in (tree.Switch e cases default ss line) Chooses v labels k c m w h = labels_in e cases default ss line v labels k c m w h
comparing_in _ _ v labels k c m w h = tt

compared_in : (v : Datum) (labels : List TCase) (k : List Pending) (c : CopyOf) (m : Memory) (w : World Byte) → InSegments k → StaysIn (compares v labels k c m w)
compared_in v labels (Doing t stage ∷ k) c m w h = comparing_in t stage v labels k c m w h
compared_in v labels _ c m w h = tt

statement_in : (s : Setting) (t : Statement) (stage : Stage) (v : Datum) (k : List Pending) (c : CopyOf) (m : Memory) (w : World Byte) → Plain k → StaysIn (take_for s t stage v k c m w)
statement_in s (tree.Expr e line) Tests v k c m w h = (tt, h.1)
statement_in s (tree.InitScalar local e line) Tests v k c m w h = used_in v line (goes c (control.Write (behind (local_of s.program c local) 0) v 0) (Doing (tree.InitScalar local e line) Fills ∷ k) m w) (refl, h)
statement_in s (tree.InitList local all line) (AtItem (tree.Scalar offset e) rest) v k c m w h = used_in v line (goes c (control.Write (behind (local_of s.program c local) offset) v 0) (Doing (tree.InitList local all line) (Items (tree.Scalar offset e) rest) ∷ k) m w) (refl, h)
statement_in s (tree.If chain otherwise line) (Picks (tree.OneArm condition chosen at) more) v k c m w h =
    let t = tree.If chain otherwise line in
    branch_in (truth_of v) at (goes c (control.Run chosen) (Doing t (InArm more) ∷ k) m w) (arms t more otherwise k c m w) (refl, h) (arms_in chain otherwise line more otherwise k c m w h)
statement_in s (tree.Loop shape first condition step body line) Begins v k c m w h = test_in shape first condition step body line condition k c m w h
statement_in s (tree.Loop shape first condition step body line) Steps v k c m w h = test_in shape first condition step body line condition k c m w h
statement_in s (tree.Loop shape first condition step body line) Tests v k c m w h =
    let t = tree.Loop shape first condition step body line in
    branch_in (truth_of v) line (turn t body k c m w) (goes c Past k m w) (refl, h) (tt, h.1)
statement_in s (tree.Switch e cases default ss line) Tests v k c m w h = used_in v line (goes c (control.Compares v cases) (Doing (tree.Switch e cases default ss line) Chooses ∷ k) m w) (refl, h)
statement_in s (tree.Return e line) Tests v k c m w h = used_in v line (goes c (control.Leaves v) (unwound k) m w) (unwound_off k, unwound_in k h.1)
statement_in s _ _ v k c m w h = tt

given_in : (s : Setting) (v : Datum) (k : List Pending) (c : CopyOf) (m : Memory) (w : World Byte) → InSegments k → StaysIn (give s v k c m w)
given_in s v (In e got ∷ k) c m w h = taken_in s e got v k c m w h
given_in s v (To place ∷ k) c m w h = placed_in place v k c m w h
given_in s v (Doing t stage ∷ k) c m w h = statement_in s t stage v k c m w h
given_in s v _ c m w h = tt

-- ---- calls, and the handler
called_in : (p : Program) (e : Expression) (got : Got) (k : List Pending) (c : CopyOf) (m : Memory) (w : World Byte) → Plain k → StaysIn (call_in p e got k c m w)
called_in p (tree.Call f arguments ty line) (Passed values) k c m w h =
    let e = tree.Call f arguments ty line in
    let d = copy_of c.root f in
    either_in (has_missing values) (Undefined Unset line) (goes d Past (body_of p f (Returns c ∷ In e Called ∷ k)) (with_values (fresh m d) d 0 values) w) tt (tt, (tt, (refl, h)))
called_in p _ _ k c m w h = tt

call_stays : (p : Program) (k : List Pending) (c : CopyOf) (m : Memory) (w : World Byte) → InSegments k → StaysIn (call p k c m w)
call_stays p (In e got ∷ k) c m w h = called_in p e got k c m w h
call_stays p _ c m w h = tt

act_in : (s : Setting) (x : Focus) (k : List Pending) (c : CopyOf) (m : Memory) (w : World Byte) → AtFocus x k → InSegments k → StaysIn (act s x k c m w)
unfolding act
act_in s (control.Eval e) k c m w f h = eval_in e k c m w (f, h)
act_in s (control.Find place) k c m w f h = find_in s place k c m w (f, h)
act_in s (control.Holds v) k c m w f h = given_in s v k c m w h
act_in s (control.Found spot) k c m w f h = found_stays s spot k c m w h
act_in s (control.Run t) k c m w f h = begin_in s t k c m w (f, h)
act_in s Past k c m w f h = proceed_in k c m w h
act_in s (control.Fetch spot read) k c m w f h = fetch_in s spot read k c m w (f, h)
act_in s (control.Skim spot left byte) k c m w f h = skim_in s spot left byte k c m w (f, h)
act_in s (control.Write spot v at) k c m w f h = write_in s spot v at k c m w (f, h)
act_in s (control.PutBit register number v old) k c m w f h = putting_in _ _ c k _ f h
act_in s (control.CopyRead to from left) k c m w f h = copy_read_in s to from left k c m w (f, h)
act_in s (control.CopyWrite to from byte left) k c m w f h = putting_in _ _ c k _ f h
act_in s (control.Spell spot text left) k c m w f h = spell_in s spot text left k c m w (f, h)
act_in s (control.Blank at left) k c m w f h = blank_in s at left k c m w (f, h)
act_in s control.Calls k c m w f h = call_stays s.program k c m w h
act_in s (control.Leaves v) k c m w f h = leave_in v k m w h
act_in s (control.Compares v labels) k c m w f h = compared_in v labels k c m w h
act_in s control.Over k c m w f h = tt

line_in : (o : Option ℕ) (next : Outcome) → StaysIn next → StaysIn (refused_at o next)
line_in (Some line) next h = tt
line_in None next h = h

refused_in : (o : Option ℕ) (next : Outcome) → StaysIn next → StaysIn (refused o next)
refused_in o (Undefined kind at) h = tt
refused_in o (Went t event) h = line_in o (Went t event) h
refused_in o Idle h = line_in o Idle h
refused_in o Lost h = tt

interrupted_in : (s : Setting) (o : Option ℕ) (x : Focus) (k : List Pending) (c : CopyOf) (m : Memory) (w : World Byte) → AtFocus x k → InSegments k → StaysIn (interrupted s o x k c m w)
interrupted_in s (Some n) x k c m w f h = (tt, (tt, (f, h)))
interrupted_in s None x k c m w f h = refused_in _ (act s x k c m w) (act_in s x k c m w f h)

-- Each micro-step keeps it.
pub stays_in : (s : Setting) (t : State) → AtFocus t.focus t.stack → InSegments t.stack → StaysIn (step s t)
unfolding step
stays_in s t f h = either_in (is_due (arrived s.outside t.world)) (interrupted s (handler_in s.program) t.focus t.stack t.copy t.memory (arrived s.outside t.world)) (act s t.focus t.stack t.copy t.memory (arrived s.outside t.world)) (interrupted_in s (handler_in s.program) t.focus t.stack t.copy t.memory (arrived s.outside t.world) f h) (act_in s t.focus t.stack t.copy t.memory (arrived s.outside t.world) f h)

pub starts_in : (s : Setting) → AtFocus (start s).focus (start s).stack × InSegments (start s).stack
unfolding start
starts_in s = (tt, (tt, tt))

-- ---- where `break` and `continue` stand
pub break_inside : (p : Program) (c : CopyOf) (k : List Pending) → leaves k ≡ true → WaitsForEnd k → StackStands p c k → InSegments k → InnerBody k
break_inside p c (Doing (tree.Loop shape first condition step body line) Turns ∷ k) e b st h = tt
break_inside p c (Doing (tree.Switch value cases default ss line) Turns ∷ k) e b st h = tt
break_inside p c (Doing (tree.If chain otherwise line) (InArm more) ∷ k) e b st h = (h.0, break_inside p c k e st.1 st.3 h.1)
break_inside p c (Before ss ∷ k) e b st h = break_inside p c k e st.1 st.2 h.1
break_inside p c (Doing t Turns ∷ k) e b st h = absurd b
break_inside p c (Doing t (InArm more) ∷ k) e b st h = absurd b
break_inside p c _ e b st h = absurd (cc)

pub continue_inside : (p : Program) (c : CopyOf) (k : List Pending) → repeats k ≡ true → WaitsForEnd k → StackStands p c k → InSegments k → InnerLoop k
continue_inside p c (Doing (tree.Loop shape first condition step body line) Turns ∷ k) e b st h = tt
continue_inside p c (Doing (tree.Switch value cases default ss line) Turns ∷ k) e b st h = (h.0, continue_inside p c k e st.1 st.3 h.1)
continue_inside p c (Doing (tree.If chain otherwise line) (InArm more) ∷ k) e b st h = (h.0, continue_inside p c k e st.1 st.3 h.1)
continue_inside p c (Before ss ∷ k) e b st h = continue_inside p c k e st.1 st.2 h.1
continue_inside p c (Doing t (InArm more) ∷ k) e b st h = absurd b
continue_inside p c _ e b st h = absurd (cc)
