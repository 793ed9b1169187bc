-- Each micro-step keeps that no pointer leads to a const static object: statements, accesses, calls and the handler.
use Rattle.std.proofs.Common.{ℕ, zero, suc, Bool, true, false, nat_lt, if◌then◌else◌, List, [], ◌∷◌, length, Option, Some, None}
use Rattle.c_typed.specs.Trees as tree
use Rattle.c_typed.specs.Trees.{Expression, Item, Statement, Statements, Arms, LastArm, Program}
use Rattle.c_typed.specs.Types.{type_bytes}
use Rattle.c_typed.specs.declared.statement.LoopForm.{LoopForm}
use Rattle.c_typed.specs.declared.statement.LoopForm.TheVariants.{While, Do, For}
use Rattle.c_typed.specs.declared.statement.TCase.{TCase}
use Rattle.c_typed.specs.declared.types.Ty.{Ty}
use Rattle.c_typed.specs.declared.types.Ty.TheVariants as types
use Rattle.pic_world.specs.World.{World, WriteOf, after_device_write, sets_gie}
use Rattle.pic_world.specs.declared.Cell.TheVariants.{Device}
use Rattle.pic_world.specs.declared.Root.{Root}
use Rattle.src_rules.specs.Accesses.{after_taking, after_putting, fetched, fetch, skim, items, put_bit, stored_in, stored_for, stored, write_at, write, copy_read, copy_write, spell, blank_at, blank_for, blank}
use Rattle.src_rules.specs.Giving.{take_for, jump, jump_if_any, compares_in, compares_for, compares, give}
use Rattle.src_rules.specs.Statements.{turn, test, first_of, next_of, loops, last, arms, break_at, continue_at, unwound, turned, proceed, begin}
use Rattle.src_rules.specs.Step.{step}
use Rattle.src_values.specs.Accesses.{Taking, Takes, Breaks, Putting, Puts, Refuses, device_put, put_byte, put_unless, take_byte, taken_unless}
use Rattle.src_values.specs.Control.{Focus, Holds, Got, Nothing, Chosen, One, At, AtWith, Stores, Copies, Args, Passed, Called, Stage, Tests, Begins, Steps, Turns, Picks, InArm, Chooses, Fills, AtItem, Items, Blanks, Pending, In, To, Doing, Before, Returns, Resumes, read_type}
use Rattle.src_values.specs.Data.{Datum, Missing}
use Rattle.src_values.specs.Memory.{Memory, Setting, cleared}
use Rattle.src_values.specs.Objects.{behind, local_of, next_byte}
use Rattle.src_values.specs.Values.{answer_of, byte_of, is_case, is_postfix, joined, kept_in, null_if, pointer_from, pointer_held, truth_of, value_from}
use Rattle.src_values.specs.declared.objects.Byte.{Byte}
use Rattle.src_values.specs.declared.objects.Byte.TheVariants as bytes
use Rattle.src_values.specs.declared.objects.CopyOf.{CopyOf}
use Rattle.src_values.specs.declared.objects.Object.{Object}
use Rattle.src_values.specs.declared.objects.Pointer.TheVariants.{Null, Into}
use Rattle.src_values.specs.declared.objects.Spot.{Spot}
use Rattle.src_values.specs.declared.objects.Spot.TheVariants as spots
use Rattle.src_values.specs.declared.objects.Undef.TheVariants.{Gie}
use Rattle.lower_trace.proofs.CodeLeft.{Scene, source_in}
use Rattle.lower_trace.proofs.OpenBodies.{behind_open}
use Rattle.lower_trace.proofs.OpenTrees.{AnyOpen, ArmsOpen, ItemsOpen, LastOpen, StatementOpen, closed_place, is_closed}
use Rattle.lower_trace.proofs.Opens.{AreOpenBytes, FocusOpen, GotOpen, IsOpenByte, IsOpenDatum, IsOpenSpot, KeepsOpen, MemoryOpen, StageOpen, StackOpen, appended, bytes_open, cleared_open, closed_for, datum_any, only_none, only_same, written_open}
use Rattle.lower_trace.proofs.OpensKept.{branch_opens, either_opens, take_in_opens, take_to_opens, used_opens}

-- ---- values that bytes make
null_opens : (p : Program) (b : Bool) → IsOpenDatum p (pointer_held (null_if b))
null_opens p true = tt
null_opens p false = tt

part_opens : (p : Program) (b : Bool) (o : Object) (f : ℕ) → IsOpenByte p (bytes.Part o f false) → IsOpenDatum p (pointer_held (if b then Some (Into o f) else None))
part_opens p true o f h = h
part_opens p false o f h = tt

joined_opens : (p : Program) (low high : Byte) → IsOpenByte p low → IsOpenDatum p (pointer_held (joined low high))
joined_opens p (bytes.Number a) (bytes.Number b) h = null_opens p _
joined_opens p (bytes.Part a f false) (bytes.Part b g true) h = part_opens p _ a f h
joined_opens p (bytes.Part a f false) (bytes.Part b g false) h = tt
joined_opens p (bytes.Part a f false) (bytes.Number n) h = tt
joined_opens p (bytes.Part a f false) bytes.Unset h = tt
joined_opens p (bytes.Part a f true) high h = tt
joined_opens p (bytes.Number a) (bytes.Part b g high) h = tt
joined_opens p (bytes.Number a) bytes.Unset h = tt
joined_opens p bytes.Unset high h = tt

pointer_opens : (p : Program) (read : List Byte) → AreOpenBytes p read → IsOpenDatum p (pointer_from read)
pointer_opens p [] h = tt
pointer_opens p (low ∷ []) h = tt
pointer_opens p (low ∷ high ∷ []) h = joined_opens p low high h.0
pointer_opens p (low ∷ high ∷ more ∷ rest) h = tt

value_opens : (p : Program) (ty : Ty) (read : List Byte) → AreOpenBytes p read → IsOpenDatum p (value_from ty read)
unfolding value_from
value_opens p (types.Int t) read h = tt
value_opens p (types.Pointer row) read h = pointer_opens p read h
value_opens p types.Void read h = tt
value_opens p (types.Array element length bytes) read h = tt
value_opens p (types.Struct number) read h = tt

-- the value that a node has behind its write
kept_opens : (p : Program) (spot : Spot) (v : Datum) → IsOpenDatum p v → IsOpenDatum p (kept_in spot v)
unfolding kept_in
kept_opens p (spots.Memory x) v h = h
kept_opens p (spots.Device a) v h = h
kept_opens p (spots.Bit register number) v h = tt

either_datum : (p : Program) (b : Bool) (u v : Datum) → IsOpenDatum p u → IsOpenDatum p v → IsOpenDatum p (if b then u else v)
either_datum p true u v h g = h
either_datum p false u v h g = g

answer_opens : (p : Program) (e : Expression) (spot : Spot) (v : Datum) → IsOpenDatum p v → IsOpenDatum p (answer_of e spot v)
answer_opens p (tree.Step op place operation size ty line) spot v h = either_datum p (is_postfix op) v (kept_in spot v) h (kept_opens p spot v h)
answer_opens p (tree.Constant value line) spot v h = kept_opens p spot v h
answer_opens p (tree.Read place ty line) spot v h = kept_opens p spot v h
answer_opens p (tree.Address place ty line) spot v h = kept_opens p spot v h
answer_opens p (tree.Convert operand ty line) spot v h = kept_opens p spot v h
answer_opens p (tree.Cast operand ty line) spot v h = kept_opens p spot v h
answer_opens p (tree.Unary op operand ty line) spot v h = kept_opens p spot v h
answer_opens p (tree.Binary op left right ty line) spot v h = kept_opens p spot v h
answer_opens p (tree.Offset op left right size ty line) spot v h = kept_opens p spot v h
answer_opens p (tree.Difference left right size line) spot v h = kept_opens p spot v h
answer_opens p (tree.Logical op left right line) spot v h = kept_opens p spot v h
answer_opens p (tree.Conditional condition chosen otherwise ty line) spot v h = kept_opens p spot v h
answer_opens p (tree.Comma left right ty line) spot v h = kept_opens p spot v h
answer_opens p (tree.Assign place value ty line) spot v h = kept_opens p spot v h
answer_opens p (tree.StructAssign place from size line) spot v h = kept_opens p spot v h
answer_opens p (tree.Update op place value operation size ty line) spot v h = kept_opens p spot v h
answer_opens p (tree.Call function arguments ty line) spot v h = kept_opens p spot v h

next_opens : (p : Program) (spot : Spot) → IsOpenSpot p spot → IsOpenSpot p (next_byte spot)
next_opens p (spots.Memory (Into object offset)) h = h
next_opens p (spots.Memory Null) h = tt
next_opens p (spots.Device a) h = tt
next_opens p (spots.Bit register number) h = tt

-- ---- bytes that are read and written
abbrev TakingOpen : Program → Taking → Type 0
TakingOpen p (Takes byte w event) = IsOpenByte p byte
TakingOpen p (Breaks kind) = Unit {0}

abbrev PuttingOpen : Program → Putting → Type 0
PuttingOpen p (Puts m w event) = MemoryOpen p m
PuttingOpen p (Refuses kind) = Unit {0}

taken_open : (p : Program) (fault : _) (byte : Byte) (w : World Byte) (event : _) → IsOpenByte p byte → TakingOpen p (taken_unless fault byte w event)
taken_open p (Some kind) byte w event h = tt
taken_open p None byte w event h = h

take_open : (p : Program) (s : Setting) (live : List CopyOf) (root : Root) (fits : Byte → Bool) (spot : Spot) (m : Memory) (w : World Byte) → MemoryOpen p m → TakingOpen p (take_byte s live root fits spot m w)
unfolding take_byte
take_open p s live root fits (spots.Device a) m w h = tt
take_open p s live root fits (spots.Bit register number) m w h = tt
take_open p s live root fits (spots.Memory Null) m w h = tt
take_open p s live root fits (spots.Memory (Into object offset)) m w h = taken_open p _ (m object offset) w _ (h object offset)

either_putting : (p : Program) (b : Bool) (x y : Putting) → PuttingOpen p x → PuttingOpen p y → PuttingOpen p (if b then x else y)
either_putting p true x y h g = h
either_putting p false x y h g = g

device_open : (p : Program) (a value : ℕ) (m : Memory) (w : World Byte) → MemoryOpen p m → PuttingOpen p (device_put a value m w)
device_open p a value m w h = either_putting p (sets_gie a value w) (Refuses Gie) (Puts m (after_device_write bytes.Number a value w) (Some (WriteOf (Device a) (bytes.Number value)))) tt h

unless_put : (p : Program) (fault : _) (object : Object) (offset : ℕ) (byte : Byte) (event : _) (m : Memory) (w : World Byte) → MemoryOpen p m → IsOpenByte p byte → PuttingOpen p (put_unless fault object offset byte event m w)
unless_put p (Some kind) object offset byte event m w h g = tt
unless_put p None object offset byte event m w h g = written_open p m object offset byte h g

put_open : (p : Program) (s : Setting) (live : List CopyOf) (root : Root) (spot : Spot) (byte : Byte) (m : Memory) (w : World Byte) → MemoryOpen p m → IsOpenByte p byte → PuttingOpen p (put_byte s live root spot byte m w)
unfolding put_byte
put_open p s live root (spots.Device a) byte m w h g = device_open p a _ m w h
put_open p s live root (spots.Bit register number) byte m w h g = tt
put_open p s live root (spots.Memory Null) byte m w h g = tt
put_open p s live root (spots.Memory (Into object offset)) byte m w h g = unless_put p _ object offset byte _ m w h g

module _ (z : Scene) where
  abbrev p : Program
  p = z.program

  -- ---- lists of first values
  items_opens : (local : ℕ) (whole : List Item) (line : ℕ) (object : Object) (all : List Item) (k : List Pending) (c : CopyOf) (m : Memory) (w : World Byte) → ItemsOpen whole → ItemsOpen all → MemoryOpen p m → StackOpen p k → KeepsOpen p (items (source_in z) (tree.InitList local whole line) object all k c m w)
  items_opens local whole line object [] k c m w has h mem st = (mem, tt, (has, tt, st))
  items_opens local whole line object (tree.Scalar offset value ∷ rest) k c m w has h mem st = (mem, (h.0.1, only_none (is_closed value) false h.0.0), (has, h.1, st))
  items_opens local whole line object (tree.Struct offset from size ∷ rest) k c m w has h mem st = (mem, (h.0, only_same (closed_place from)), (has, h.1, st))
  items_opens local whole line object (tree.Text offset text size ∷ rest) k c m w has h mem st = (mem, tt, (has, h, st))

  -- ---- loops
  turn_opens : (t body : Statement) (k : List Pending) (c : CopyOf) (m : Memory) (w : World Byte) → StatementOpen t → StatementOpen body → MemoryOpen p m → StackOpen p k → KeepsOpen p (turn t body k c m w)
  turn_opens t body k c m w has h mem st = (mem, h, (has, tt, st))

  test_opens : (t : Statement) (condition : Option Expression) (body : Statement) (k : List Pending) (c : CopyOf) (m : Memory) (w : World Byte) → StatementOpen t → AnyOpen condition → StatementOpen body → MemoryOpen p m → StackOpen p k → KeepsOpen p (test t condition body k c m w)
  test_opens t None body k c m w has e h mem st = turn_opens t body k c m w has h mem st
  test_opens t (Some x) body k c m w has e h mem st = (mem, (e.1, only_none (is_closed x) false e.0), (has, tt, st))

  first_opens : (t : Statement) (begins condition : Option Expression) (body : Statement) (k : List Pending) (c : CopyOf) (m : Memory) (w : World Byte) → StatementOpen t → AnyOpen begins → AnyOpen condition → StatementOpen body → MemoryOpen p m → StackOpen p k → KeepsOpen p (first_of t begins condition body k c m w)
  first_opens t None condition body k c m w has b e h mem st = test_opens t condition body k c m w has e h mem st
  first_opens t (Some x) condition body k c m w has b e h mem st = (mem, (b.1, only_none (is_closed x) false b.0), (has, tt, st))

  next_opens_of : (t : Statement) (step condition : Option Expression) (body : Statement) (k : List Pending) (c : CopyOf) (m : Memory) (w : World Byte) → StatementOpen t → AnyOpen step → AnyOpen condition → StatementOpen body → MemoryOpen p m → StackOpen p k → KeepsOpen p (next_of t step condition body k c m w)
  next_opens_of t None condition body k c m w has b e h mem st = test_opens t condition body k c m w has e h mem st
  next_opens_of t (Some x) condition body k c m w has b e h mem st = (mem, (b.1, only_none (is_closed x) false b.0), (has, tt, st))

  loops_opens : (shape : LoopForm) (t : Statement) (begins condition : Option Expression) (body : Statement) (k : List Pending) (c : CopyOf) (m : Memory) (w : World Byte) → StatementOpen t → AnyOpen begins → AnyOpen condition → StatementOpen body → MemoryOpen p m → StackOpen p k → KeepsOpen p (loops shape t begins condition body k c m w)
  loops_opens While t begins condition body k c m w has b e h mem st = first_opens t begins condition body k c m w has b e h mem st
  loops_opens For t begins condition body k c m w has b e h mem st = first_opens t begins condition body k c m w has b e h mem st
  loops_opens Do t begins condition body k c m w has b e h mem st = turn_opens t body k c m w has h mem st

  -- ---- chains of arms
  last_opens : (t : Statement) (chosen : LastArm) (k : List Pending) (c : CopyOf) (m : Memory) (w : World Byte) → StatementOpen t → LastOpen chosen → MemoryOpen p m → StackOpen p k → KeepsOpen p (last t chosen k c m w)
  last_opens t tree.NoLast k c m w has h mem st = (mem, tt, st)
  last_opens t (tree.Last chosen) k c m w has h mem st = (mem, h, (has, tt, st))

  arms_opens : (t : Statement) (more : Arms) (otherwise : LastArm) (k : List Pending) (c : CopyOf) (m : Memory) (w : World Byte) → StatementOpen t → ArmsOpen more → LastOpen otherwise → MemoryOpen p m → StackOpen p k → KeepsOpen p (arms t more otherwise k c m w)
  arms_opens t tree.NoArm otherwise k c m w has h l mem st = last_opens t otherwise k c m w has l mem st
  arms_opens t (tree.AndArm (tree.OneArm condition chosen at) more) otherwise k c m w has h l mem st = (mem, (h.0.0.1, only_none (is_closed condition) false h.0.0.0), (has, h, st))

  -- ---- jumps
  unwound_opens : (k : List Pending) → StackOpen p k → StackOpen p (unwound k)
  unwound_opens [] st = st
  unwound_opens (In e got ∷ k) st = st
  unwound_opens (To place ∷ k) st = st
  unwound_opens (Doing t Turns ∷ k) st = unwound_opens k st.2
  unwound_opens (Doing t (InArm more) ∷ k) st = unwound_opens k st.2
  unwound_opens (Doing t _ ∷ k) st = st
  unwound_opens (Before ss ∷ k) st = unwound_opens k st.1
  unwound_opens (Returns d ∷ k) st = st
  unwound_opens (Resumes d x ∷ k) st = st

  break_opens : (k : List Pending) (c : CopyOf) (m : Memory) (w : World Byte) → MemoryOpen p m → StackOpen p k → KeepsOpen p (break_at k c m w)
  break_opens [] c m w mem st = tt
  break_opens (In e got ∷ k) c m w mem st = tt
  break_opens (To place ∷ k) c m w mem st = tt
  break_opens (Doing t Turns ∷ k) c m w mem st = (mem, tt, st.2)
  break_opens (Doing t (InArm more) ∷ k) c m w mem st = break_opens k c m w mem st.2
  break_opens (Doing t _ ∷ k) c m w mem st = tt
  break_opens (Before ss ∷ k) c m w mem st = break_opens k c m w mem st.1
  break_opens (Returns d ∷ k) c m w mem st = tt
  break_opens (Resumes d x ∷ k) c m w mem st = tt

  continue_opens : (k : List Pending) (c : CopyOf) (m : Memory) (w : World Byte) → MemoryOpen p m → StackOpen p k → KeepsOpen p (continue_at k c m w)
  continue_opens [] c m w mem st = tt
  continue_opens (In e got ∷ k) c m w mem st = tt
  continue_opens (To place ∷ k) c m w mem st = tt
  continue_opens (Doing (tree.Loop shape begins condition step body line) Turns ∷ k) c m w mem st = (mem, tt, st)
  continue_opens (Doing (tree.Switch e cases default ss line) Turns ∷ k) c m w mem st = continue_opens k c m w mem st.2
  continue_opens (Doing t (InArm more) ∷ k) c m w mem st = continue_opens k c m w mem st.2
  continue_opens (Doing _ _ ∷ k) c m w mem st = tt
  continue_opens (Before ss ∷ k) c m w mem st = continue_opens k c m w mem st.1
  continue_opens (Returns d ∷ k) c m w mem st = tt
  continue_opens (Resumes d x ∷ k) c m w mem st = tt

  -- ---- what follows a statement
  turned_opens : (t : Statement) (stage : Stage) (k : List Pending) (c : CopyOf) (m : Memory) (w : World Byte) → StatementOpen t → MemoryOpen p m → StackOpen p k → KeepsOpen p (turned t stage k c m w)
  turned_opens (tree.Loop shape begins condition step body line) Turns k c m w has mem st = next_opens_of (tree.Loop shape begins condition step body line) step condition body k c m w has has.2 has.1 has.3 mem st
  turned_opens (tree.Switch e cases default ss line) Turns k c m w has mem st = (mem, tt, st)
  turned_opens (tree.If chain otherwise line) (InArm more) k c m w has mem st = (mem, tt, st)
  turned_opens _ _ k c m w has mem st = tt

  pub proceed_opens : (k : List Pending) (c : CopyOf) (m : Memory) (w : World Byte) → MemoryOpen p m → StackOpen p k → KeepsOpen p (proceed k c m w)
  proceed_opens [] c m w mem st = (mem, tt, tt)
  proceed_opens (In e got ∷ k) c m w mem st = tt
  proceed_opens (To place ∷ k) c m w mem st = tt
  proceed_opens (Doing t stage ∷ k) c m w mem st = turned_opens t stage k c m w st.0 mem st.2
  proceed_opens (Before tree.NoStatement ∷ k) c m w mem st = (mem, tt, st.1)
  proceed_opens (Before (tree.AndStatement t ts) ∷ k) c m w mem st = (mem, st.0.0, (st.0.1, st.1))
  proceed_opens (Returns d ∷ k) c m w mem st = (mem, tt, st)
  proceed_opens (Resumes d x ∷ k) c m w mem st = (mem, st.0, st.1)

  -- ---- statements begin
  pub begin_opens : (t : Statement) (k : List Pending) (c : CopyOf) (m : Memory) (w : World Byte) → StatementOpen t → MemoryOpen p m → StackOpen p k → KeepsOpen p (begin (source_in z) t k c m w)
  begin_opens (tree.Block ss line) k c m w h mem st = (mem, tt, (h, st))
  begin_opens (tree.Empty line) k c m w h mem st = (mem, tt, st)
  begin_opens (tree.Expr e line) k c m w h mem st = (mem, (h.1, only_none (is_closed e) false h.0), (h, tt, st))
  begin_opens (tree.Declare local line) k c m w h mem st = (cleared_open p m (local_of p c local) mem, tt, st)
  begin_opens (tree.InitScalar local e line) k c m w h mem st = (cleared_open p m (local_of p c local) mem, (h.1, only_none (is_closed e) false h.0), (h, tt, st))
  begin_opens (tree.InitList local all line) k c m w h mem st = items_opens local all line (local_of p c local) all k c (cleared m (local_of p c local)) w h h (cleared_open p m (local_of p c local) mem) st
  begin_opens (tree.If chain otherwise line) k c m w h mem st = arms_opens (tree.If chain otherwise line) chain otherwise k c m w h h.0 h.1 mem st
  begin_opens (tree.Loop shape begins condition step body line) k c m w h mem st = loops_opens shape (tree.Loop shape begins condition step body line) begins condition body k c m w h h.0 h.1 h.3 mem st
  begin_opens (tree.Switch e cases default ss line) k c m w h mem st = (mem, (h.0.1, only_none (is_closed e) false h.0.0), (h, tt, st))
  begin_opens (tree.Break line) k c m w h mem st = break_opens k c m w mem st
  begin_opens (tree.Continue line) k c m w h mem st = continue_opens k c m w mem st
  begin_opens (tree.Return None line) k c m w h mem st = proceed_opens (unwound k) c m w mem (unwound_opens k st)
  begin_opens (tree.Return (Some e) line) k c m w h mem st = (mem, (h.1, only_none (is_closed e) false h.0), (h, tt, st))

  -- ---- switches
  jump_opens : (e : Expression) (cases : List TCase) (default : Option ℕ) (ss : Statements) (line target : ℕ) (k : List Pending) (c : CopyOf) (m : Memory) (w : World Byte) → StatementOpen (tree.Switch e cases default ss line) → MemoryOpen p m → StackOpen p k → KeepsOpen p (jump (tree.Switch e cases default ss line) target ss k c m w)
  jump_opens e cases default ss line target k c m w h mem st = (mem, tt, (behind_open target ss h.1, (h, tt, st)))

  any_jump_opens : (e : Expression) (cases : List TCase) (default any : Option ℕ) (ss : Statements) (line : ℕ) (k : List Pending) (c : CopyOf) (m : Memory) (w : World Byte) → StatementOpen (tree.Switch e cases default ss line) → MemoryOpen p m → StackOpen p k → KeepsOpen p (jump_if_any (tree.Switch e cases default ss line) any ss k c m w)
  any_jump_opens e cases default None ss line k c m w h mem st = (mem, tt, st)
  any_jump_opens e cases default (Some target) ss line k c m w h mem st = jump_opens e cases default ss line target k c m w h mem st

  compares_in_opens : (e : Expression) (cases : List TCase) (default : Option ℕ) (ss : Statements) (line : ℕ) (v : Datum) (labels : List TCase) (k : List Pending) (c : CopyOf) (m : Memory) (w : World Byte) → StatementOpen (tree.Switch e cases default ss line) → MemoryOpen p m → StackOpen p k
      → KeepsOpen p (compares_in (tree.Switch e cases default ss line) ss default v labels k c m w)
  compares_in_opens e cases default ss line v [] k c m w h mem st = any_jump_opens e cases default default ss line k c m w h mem st
  compares_in_opens e cases default ss line v (label ∷ labels) k c m w h mem st = either_opens p (is_case v label) _ _ (jump_opens e cases default ss line label.target k c m w h mem st) (mem, tt, (h, tt, st))

  compares_for_opens : (t : Statement) (stage : Stage) (v : Datum) (labels : List TCase) (k : List Pending) (c : CopyOf) (m : Memory) (w : World Byte) → StatementOpen t → MemoryOpen p m → StackOpen p k → KeepsOpen p (compares_for t stage v labels k c m w)
  compares_for_opens (tree.Switch e cases default ss line) Chooses v labels k c m w h mem st = compares_in_opens e cases default ss line v labels k c m w h mem st
  compares_for_opens _ _ v labels k c m w h mem st = tt

  pub compares_opens : (v : Datum) (labels : List TCase) (k : List Pending) (c : CopyOf) (m : Memory) (w : World Byte) → MemoryOpen p m → StackOpen p k → KeepsOpen p (compares v labels k c m w)
  compares_opens v labels [] c m w mem st = tt
  compares_opens v labels (In e got ∷ k) c m w mem st = tt
  compares_opens v labels (To place ∷ k) c m w mem st = tt
  compares_opens v labels (Doing t stage ∷ k) c m w mem st = compares_for_opens t stage v labels k c m w st.0 mem st.2
  compares_opens v labels (Before ss ∷ k) c m w mem st = tt
  compares_opens v labels (Returns d ∷ k) c m w mem st = tt
  compares_opens v labels (Resumes d x ∷ k) c m w mem st = tt

  -- ---- statements take values
  take_for_opens : (t : Statement) (stage : Stage) (v : Datum) (k : List Pending) (c : CopyOf) (m : Memory) (w : World Byte) → IsOpenDatum p v → StatementOpen t → StageOpen stage → MemoryOpen p m → StackOpen p k → KeepsOpen p (take_for (source_in z) t stage v k c m w)
  take_for_opens (tree.Expr e line) Tests v k c m w h t s mem st = (mem, tt, st)
  take_for_opens (tree.InitScalar local e line) Tests v k c m w h t s mem st = used_opens p v line _ (mem, h, (t, tt, st))
  take_for_opens (tree.InitList local all line) (AtItem (tree.Scalar offset e) rest) v k c m w h t s mem st = used_opens p v line _ (mem, h, (t, s, st))
  take_for_opens (tree.If chain otherwise line) (Picks (tree.OneArm condition chosen at) more) v k c m w h t s mem st =
      branch_opens p (truth_of v) at _ _ (mem, s.0.1, (t, tt, st)) (arms_opens (tree.If chain otherwise line) more otherwise k c m w t s.1 t.1 mem st)
  take_for_opens (tree.Loop shape begins condition step body line) Begins v k c m w h t s mem st = test_opens (tree.Loop shape begins condition step body line) condition body k c m w t t.1 t.3 mem st
  take_for_opens (tree.Loop shape begins condition step body line) Steps v k c m w h t s mem st = test_opens (tree.Loop shape begins condition step body line) condition body k c m w t t.1 t.3 mem st
  take_for_opens (tree.Loop shape begins condition step body line) Tests v k c m w h t s mem st = branch_opens p (truth_of v) line _ _ (turn_opens (tree.Loop shape begins condition step body line) body k c m w t t.3 mem st) (mem, tt, st)
  take_for_opens (tree.Switch e cases default ss line) Tests v k c m w h t s mem st = used_opens p v line _ (mem, tt, (t, tt, st))
  take_for_opens (tree.Return e line) Tests v k c m w h t s mem st = used_opens p v line _ (mem, h, unwound_opens k st)
  take_for_opens _ _ v k c m w h t s mem st = tt

  pub give_opens : (v : Datum) (k : List Pending) (c : CopyOf) (m : Memory) (w : World Byte) → FocusOpen p (Holds v) k → MemoryOpen p m → StackOpen p k → KeepsOpen p (give (source_in z) v k c m w)
  give_opens v [] c m w h mem st = tt
  give_opens v (In e got ∷ k) c m w h mem st = take_in_opens z e got v k c m w h mem st
  give_opens v (To place ∷ k) c m w h mem st = take_to_opens z place v k c m w h mem st
  give_opens v (Doing t stage ∷ k) c m w h mem st = take_for_opens t stage v k c m w h st.0 st.1 mem st.2
  give_opens v (Before ss ∷ k) c m w h mem st = tt
  give_opens v (Returns d ∷ k) c m w h mem st = tt
  give_opens v (Resumes d x ∷ k) c m w h mem st = tt

  -- ---- accesses
  taking_opens : (t : Taking) (next : Byte → Focus) (k : List Pending) (c : CopyOf) (m : Memory) (line : ℕ) → TakingOpen p t → ((byte : Byte) → IsOpenByte p byte → FocusOpen p (next byte) k) → MemoryOpen p m → StackOpen p k → KeepsOpen p (after_taking t next c k m line)
  taking_opens (Takes byte w event) next k c m line t h mem st = (mem, h byte t, st)
  taking_opens (Breaks kind) next k c m line t h mem st = tt

  putting_opens : (t : Putting) (next : Focus) (k : List Pending) (c : CopyOf) (line : ℕ) → PuttingOpen p t → FocusOpen p next k → StackOpen p k → KeepsOpen p (after_putting t next c k line)
  putting_opens (Puts m w event) next k c line t h st = (t, h, st)
  putting_opens (Refuses kind) next k c line t h st = tt

  fetched_opens : (v : Datum) (k : List Pending) (c : CopyOf) (m : Memory) (w : World Byte) → IsOpenDatum p v → MemoryOpen p m → StackOpen p k → KeepsOpen p (fetched v k c m w)
  fetched_opens v [] c m w h mem st = (mem, h, st)
  fetched_opens v (In (tree.Read place ty line) (At spot) ∷ k) c m w h mem st = (mem, datum_any p (closed_for k) v h, st.2)
  fetched_opens v (In e got ∷ k) c m w h mem st = (mem, datum_any p (closed_for (In e got ∷ k)) v h, st)
  fetched_opens v (To place ∷ k) c m w h mem st = (mem, datum_any p (closed_for (To place ∷ k)) v h, st)
  fetched_opens v (Doing t stage ∷ k) c m w h mem st = (mem, h, st)
  fetched_opens v (Before ss ∷ k) c m w h mem st = (mem, h, st)
  fetched_opens v (Returns d ∷ k) c m w h mem st = (mem, h, st)
  fetched_opens v (Resumes d x ∷ k) c m w h mem st = (mem, h, st)

  pub fetch_opens : (spot : Spot) (read : List Byte) (k : List Pending) (c : CopyOf) (m : Memory) (w : World Byte) → AreOpenBytes p read → MemoryOpen p m → StackOpen p k → KeepsOpen p (fetch (source_in z) spot read k c m w)
  fetch_opens spot read k c m w h mem st =
      either_opens p (nat_lt (length read) (type_bytes z.program.sizes (read_type k))) _ _
      (taking_opens _ _ k c m _ (take_open p (source_in z) _ c.root _ spot m w mem) (λ byte g. appended p read byte h g) mem st)
      (fetched_opens (value_from (read_type k) read) k c m w (value_opens p (read_type k) read h) mem st)

  pub skim_opens : (spot : Spot) (left : ℕ) (byte : Option Byte) (k : List Pending) (c : CopyOf) (m : Memory) (w : World Byte) → MemoryOpen p m → StackOpen p k → KeepsOpen p (skim (source_in z) spot left byte k c m w)
  skim_opens spot zero byte k c m w mem st = fetched_opens Missing k c m w tt mem st
  skim_opens spot (suc left) byte k c m w mem st = taking_opens _ _ k c m _ (take_open p (source_in z) _ c.root _ spot m w mem) (λ next g. tt) mem st

  stored_in_opens : (e : Expression) (got : Got) (k : List Pending) (c : CopyOf) (m : Memory) (w : World Byte) → GotOpen p e got → MemoryOpen p m → StackOpen p k → KeepsOpen p (stored_in e got k c m w)
  stored_in_opens e (Stores spot v) k c m w h mem st = (mem, datum_any p (closed_for k) (answer_of e spot v) (answer_opens p e spot v h.1), st)
  stored_in_opens e Copies k c m w h mem st = (mem, datum_any p (closed_for k) Missing tt, st)
  stored_in_opens e Nothing k c m w h mem st = tt
  stored_in_opens e Chosen k c m w h mem st = tt
  stored_in_opens e (One v) k c m w h mem st = tt
  stored_in_opens e (At spot) k c m w h mem st = tt
  stored_in_opens e (AtWith spot v) k c m w h mem st = tt
  stored_in_opens e (Args before more) k c m w h mem st = tt
  stored_in_opens e (Passed values) k c m w h mem st = tt
  stored_in_opens e Called k c m w h mem st = tt

  stored_for_opens : (t : Statement) (stage : Stage) (k : List Pending) (c : CopyOf) (m : Memory) (w : World Byte) → StatementOpen t → StageOpen stage → MemoryOpen p m → StackOpen p k → KeepsOpen p (stored_for (source_in z) t stage k c m w)
  stored_for_opens (tree.InitScalar local e line) Fills k c m w t s mem st = (mem, tt, st)
  stored_for_opens (tree.InitList local all line) (Items item rest) k c m w t s mem st = items_opens local all line (local_of p c local) rest k c m w t s mem st
  stored_for_opens (tree.InitList local all line) Blanks k c m w t s mem st = (mem, tt, st)
  stored_for_opens _ _ k c m w t s mem st = tt

  stored_opens : (k : List Pending) (c : CopyOf) (m : Memory) (w : World Byte) → MemoryOpen p m → StackOpen p k → KeepsOpen p (stored (source_in z) k c m w)
  stored_opens [] c m w mem st = tt
  stored_opens (In e got ∷ k) c m w mem st = stored_in_opens e got k c m w st.1 mem st.2
  stored_opens (To place ∷ k) c m w mem st = tt
  stored_opens (Doing t stage ∷ k) c m w mem st = stored_for_opens t stage k c m w st.0 st.1 mem st.2
  stored_opens (Before ss ∷ k) c m w mem st = tt
  stored_opens (Returns d ∷ k) c m w mem st = tt
  stored_opens (Resumes d x ∷ k) c m w mem st = tt

  write_at_opens : (spot : Spot) (v : Datum) (at : ℕ) (k : List Pending) (c : CopyOf) (m : Memory) (w : World Byte) → IsOpenDatum p v → MemoryOpen p m → StackOpen p k → KeepsOpen p (write_at (source_in z) spot v at k c m w)
  write_at_opens (spots.Bit register number) v at k c m w h mem st = (mem, h, st)
  write_at_opens (spots.Device address) v at k c m w h mem st = putting_opens _ _ k c _ (put_open p (source_in z) _ c.root (spots.Device address) (byte_of v at) m w mem (bytes_open p v at h)) h st
  write_at_opens (spots.Memory x) v at k c m w h mem st = putting_opens _ _ k c _ (put_open p (source_in z) _ c.root (spots.Memory x) (byte_of v at) m w mem (bytes_open p v at h)) h st

  pub write_opens : (spot : Spot) (v : Datum) (at : ℕ) (k : List Pending) (c : CopyOf) (m : Memory) (w : World Byte) → IsOpenDatum p v → MemoryOpen p m → StackOpen p k → KeepsOpen p (write (source_in z) spot v at k c m w)
  write_opens spot v at k c m w h mem st = either_opens p _ _ _ (write_at_opens spot v at k c m w h mem st) (stored_opens k c m w mem st)

  -- the register's bit is written
  pub bit_opens : (register number : ℕ) (v : Datum) (old : ℕ) (k : List Pending) (c : CopyOf) (m : Memory) (w : World Byte) → IsOpenDatum p v → MemoryOpen p m → StackOpen p k → KeepsOpen p (put_bit (source_in z) register number v old k c m w)
  bit_opens register number v old k c m w h mem st = putting_opens _ _ k c _ (device_open p register _ m w mem) h st

  pub copy_read_opens : (to from : Spot) (left : ℕ) (k : List Pending) (c : CopyOf) (m : Memory) (w : World Byte) → IsOpenSpot p to → MemoryOpen p m → StackOpen p k → KeepsOpen p (copy_read (source_in z) to from left k c m w)
  copy_read_opens to from zero k c m w h mem st = stored_opens k c m w mem st
  copy_read_opens to from (suc left) k c m w h mem st = taking_opens _ _ k c m _ (take_open p (source_in z) _ c.root _ from m w mem) (λ byte g. (h, g)) mem st

  pub copy_write_opens : (to from : Spot) (byte : Byte) (left : ℕ) (k : List Pending) (c : CopyOf) (m : Memory) (w : World Byte) → IsOpenSpot p to × IsOpenByte p byte → MemoryOpen p m → StackOpen p k → KeepsOpen p (copy_write (source_in z) to from byte left k c m w)
  copy_write_opens to from byte left k c m w h mem st = putting_opens _ _ k c _ (put_open p (source_in z) _ c.root to byte m w mem h.1) (next_opens p to h.0) st

  pub spell_opens : (spot : Spot) (text : List ℕ) (left : ℕ) (k : List Pending) (c : CopyOf) (m : Memory) (w : World Byte) → MemoryOpen p m → StackOpen p k → KeepsOpen p (spell (source_in z) spot text left k c m w)
  spell_opens spot text zero k c m w mem st = stored_opens k c m w mem st
  spell_opens spot text (suc left) k c m w mem st = putting_opens _ _ k c _ (put_open p (source_in z) _ c.root spot _ m w mem tt) tt st

  blank_at_opens : (object : Object) (at left : ℕ) (k : List Pending) (c : CopyOf) (m : Memory) (w : World Byte) → MemoryOpen p m → StackOpen p k → KeepsOpen p (blank_at (source_in z) object at left k c m w)
  blank_at_opens object at zero k c m w mem st = stored_opens k c m w mem st
  blank_at_opens object at (suc left) k c m w mem st = putting_opens _ _ k c _ (put_open p (source_in z) _ c.root (behind object at) (bytes.Number 0) m w mem tt) tt st

  blank_for_opens : (t : Statement) (at left : ℕ) (k : List Pending) (c : CopyOf) (m : Memory) (w : World Byte) → MemoryOpen p m → StackOpen p k → KeepsOpen p (blank_for (source_in z) t at left k c m w)
  blank_for_opens (tree.InitList local all line) at left k c m w mem st = blank_at_opens _ _ _ k c m w mem st
  blank_for_opens _ at left k c m w mem st = tt

  pub blank_opens : (at left : ℕ) (k : List Pending) (c : CopyOf) (m : Memory) (w : World Byte) → MemoryOpen p m → StackOpen p k → KeepsOpen p (blank (source_in z) at left k c m w)
  blank_opens at left [] c m w mem st = tt
  blank_opens at left (In e got ∷ k) c m w mem st = tt
  blank_opens at left (To place ∷ k) c m w mem st = tt
  blank_opens at left (Doing t stage ∷ k) c m w mem st = blank_for_opens t at left (Doing t stage ∷ k) c m w mem st
  blank_opens at left (Before ss ∷ k) c m w mem st = tt
  blank_opens at left (Returns d ∷ k) c m w mem st = tt
  blank_opens at left (Resumes d x ∷ k) c m w mem st = tt
