-- A micro-step asks of the outside its input, and its schedule at the length of the trace alone.
use Rattle.std.proofs.Common.{◌≡◌, ℕ, zero, suc, ◌+◌, ◌-◌, Bool, true, false, ◌&&◌, List, [], ◌∷◌, ◌++◌, length, Option, Some, None, refl, ap, ◌∙◌}
use Rattle.std.specs.Prelude.{if◌then◌else◌, nat_lt}
use Rattle.c_typed.specs.Trees as tree
use Rattle.c_typed.specs.Trees.{Expression, Expressions, Place, Item, Statement, Statements, Program}
use Rattle.c_typed.specs.Types.{type_bytes}
use Rattle.c_typed.specs.declared.types.Ty.{Ty}
use Rattle.pic_world.specs.Control.{raised_by}
use Rattle.pic_world.specs.World.{World, Schedule, arrived, is_due, device_value, after_device_read}
use Rattle.pic_world.specs.declared.Root.{Root}
use Rattle.src_rules.specs.Accesses.{after_taking, fetched, fetch_as, skim, items, stored_for, stored, read_bit, write_at, write, copy_read, copy_write, spell, blank_at, blank_for, blank, is_any}
use Rattle.src_rules.specs.Expressions.{address, find, found_in, member_of, found_to, found_for, found}
use Rattle.src_rules.specs.Giving.{take_in, take_for, give}
use Rattle.src_rules.specs.State.{State, Outcome}
use Rattle.src_rules.specs.Statements.{begin}
use Rattle.src_rules.specs.Step.{act, interrupted, step_at, step, enters, counts, refused, is_some_line}
use Rattle.src_values.specs.Accesses.{Taking, take_byte, put_byte, device_taken}
use Rattle.src_values.specs.Control.{Focus, Eval, Find, Holds, Found, Run, Past, Fetch, Skim, Write, PutBit, CopyRead, CopyWrite, Spell, Blank, Calls, Leaves, Compares, Over, Got, Nothing, Chosen, One, At, AtWith, Args, Stage, Tests, Begins, Steps, Picks, Fills, AtItem, Items, Blanks, Pending, In, To, Doing, Before, Returns, Resumes, read_type, active, line_at}
use Rattle.src_values.specs.Counting.{counted_line}
use Rattle.src_values.specs.Data.{Datum}
use Rattle.src_values.specs.Lists.{covered_from}
use Rattle.src_values.specs.Memory.{Setting, Memory}
use Rattle.src_values.specs.Objects.{local_of, handler_in, next_byte}
use Rattle.src_values.specs.Values.{value_from, written_bytes, fits_behind}
use Rattle.src_values.specs.declared.objects.Byte.{Byte}
use Rattle.src_values.specs.declared.objects.CopyOf.{CopyOf}
use Rattle.src_values.specs.declared.objects.Object.{Object}
use Rattle.src_values.specs.declared.objects.Pointer.{Pointer as Reference}
use Rattle.src_values.specs.declared.objects.Pointer.TheVariants.{Null, Into}
use Rattle.src_values.specs.declared.objects.Spot.{Spot}
use Rattle.src_values.specs.declared.objects.Spot.TheVariants as spots

module _ (p : Program) (input : List ℕ) (f g : Schedule) where
  -- one program and one input, under two schedules
  abbrev one : Setting
  one = record { program = p; outside = record { input = input; schedule = f } }

  abbrev other : Setting
  other = record { program = p; outside = record { input = input; schedule = g } }

  -- ---- bytes
  device_same : (register value : ℕ) (w : World Byte) → device_taken one register value w ≡ device_taken other register value w
  unfolding device_value after_device_read
  device_same register value w = refl

  value_same : (register : ℕ) (w : World Byte) → device_value one.outside register w ≡ device_value other.outside register w
  unfolding device_value
  value_same register w = refl

  take_same : (live : List CopyOf) (root : Root) (fits : Byte → Bool) (spot : Spot) (m : Memory) (w : World Byte) → take_byte one live root fits spot m w ≡ take_byte other live root fits spot m w
  unfolding take_byte device_value after_device_read
  take_same live root fits (spots.Device register) m w = refl
  take_same live root fits (spots.Bit register number) m w = refl
  take_same live root fits (spots.Memory Null) m w = refl
  take_same live root fits (spots.Memory (Into object offset)) m w = refl

  put_same : (live : List CopyOf) (root : Root) (spot : Spot) (byte : Byte) (m : Memory) (w : World Byte) → put_byte one live root spot byte m w ≡ put_byte other live root spot byte m w
  unfolding put_byte
  put_same live root (spots.Device register) byte m w = refl
  put_same live root (spots.Bit register number) byte m w = refl
  put_same live root (spots.Memory Null) byte m w = refl
  put_same live root (spots.Memory (Into object offset)) byte m w = refl

  module _ (k : List Pending) (c : CopyOf) (m : Memory) (w : World Byte) where
    -- ---- places
    find_same : (place : Place) → find one place k c m w ≡ find other place k c m w
    find_same (tree.Name object ty line) = refl
    find_same (tree.Bit register number line) = refl
    find_same (tree.Member whole member offset ty line) = refl
    find_same (tree.Deref pointer ty line) = refl

    found_in_same : (e : Expression) (got : Got) (spot : Spot) → found_in one e got spot k c m w ≡ found_in other e got spot k c m w
    found_in_same (tree.Read place ty line) Nothing spot = refl
    found_in_same (tree.Address place ty line) Nothing spot = refl
    found_in_same (tree.Assign place value ty line) Nothing spot = refl
    found_in_same (tree.StructAssign place from size line) Nothing spot = refl
    found_in_same (tree.StructAssign place from size line) (At to) spot = refl
    found_in_same (tree.Update op place value operation size ty line) Nothing spot = refl
    found_in_same (tree.Step op place operation size ty line) Nothing spot = refl
    found_in_same _ _ spot = refl

    member_same : (x : Option Reference) (offset line : ℕ) → member_of one x offset line k c m w ≡ member_of other x offset line k c m w
    member_same (Some x) offset line = refl
    member_same None offset line = refl

    found_to_same : (place : Place) (spot : Spot) → found_to one place spot k c m w ≡ found_to other place spot k c m w
    found_to_same (tree.Member whole member offset ty line) spot = member_same (address spot) offset line
    found_to_same _ spot = refl

    found_for_same : (t : Statement) (stage : Stage) (spot : Spot) → found_for one t stage spot k c m w ≡ found_for other t stage spot k c m w
    found_for_same (tree.InitList local all line) (AtItem (tree.Struct offset from size) rest) spot = refl
    found_for_same _ _ spot = refl

    -- ---- values
    take_in_same : (e : Expression) (got : Got) (v : Datum) → take_in one e got v k c m w ≡ take_in other e got v k c m w
    take_in_same (tree.Convert operand ty line) Nothing v = refl
    take_in_same (tree.Cast operand ty line) Nothing v = refl
    take_in_same (tree.Unary op operand ty line) Nothing v = refl
    take_in_same (tree.Binary op left right ty line) Nothing v = refl
    take_in_same (tree.Binary op left right ty line) (One u) v = refl
    take_in_same (tree.Offset op left right size ty line) Nothing v = refl
    take_in_same (tree.Offset op left right size ty line) (One u) v = refl
    take_in_same (tree.Difference left right size line) Nothing v = refl
    take_in_same (tree.Difference left right size line) (One u) v = refl
    take_in_same (tree.Logical op left right line) Nothing v = refl
    take_in_same (tree.Logical op left right line) (One u) v = refl
    take_in_same (tree.Conditional condition chosen otherwise ty line) Nothing v = refl
    take_in_same (tree.Conditional condition chosen otherwise ty line) Chosen v = refl
    take_in_same (tree.Comma left right ty line) Nothing v = refl
    take_in_same (tree.Assign place value ty line) (At spot) v = refl
    take_in_same (tree.Update op place value operation size ty line) (At spot) v = refl
    take_in_same (tree.Update op place value operation size ty line) (AtWith spot u) v = refl
    take_in_same (tree.Step op place operation size ty line) (At spot) v = refl
    take_in_same (tree.Call function values ty line) (Args before more) v = refl
    take_in_same _ _ v = refl

    take_for_same : (t : Statement) (stage : Stage) (v : Datum) → take_for one t stage v k c m w ≡ take_for other t stage v k c m w
    take_for_same (tree.Expr e line) Tests v = refl
    take_for_same (tree.InitScalar local e line) Tests v = refl
    take_for_same (tree.InitList local all line) (AtItem (tree.Scalar offset e) rest) v = refl
    take_for_same (tree.If chain otherwise line) (Picks (tree.OneArm condition chosen at) more) v = refl
    take_for_same (tree.Loop shape first condition step body line) Begins v = refl
    take_for_same (tree.Loop shape first condition step body line) Steps v = refl
    take_for_same (tree.Loop shape first condition step body line) Tests v = refl
    take_for_same (tree.Switch e cases default ss line) Tests v = refl
    take_for_same (tree.Return e line) Tests v = refl
    take_for_same _ _ v = refl

    -- ---- statements
    items_same : (t : Statement) (object : Object) (all : List Item) (n : Memory) → items one t object all k c n w ≡ items other t object all k c n w
    items_same t object [] n = refl
    items_same t object (tree.Scalar offset value ∷ rest) n = refl
    items_same t object (tree.Struct offset from size ∷ rest) n = refl
    items_same t object (tree.Text offset text size ∷ rest) n = refl

    begin_same : (t : Statement) → begin one t k c m w ≡ begin other t k c m w
    begin_same (tree.Block ss line) = refl
    begin_same (tree.Empty line) = refl
    begin_same (tree.Expr e line) = refl
    begin_same (tree.Declare local line) = refl
    begin_same (tree.InitScalar local e line) = refl
    begin_same (tree.InitList local all line) = items_same (tree.InitList local all line) (local_of p c local) all _
    begin_same (tree.If chain otherwise line) = refl
    begin_same (tree.Loop shape first condition step body line) = refl
    begin_same (tree.Switch e cases default ss line) = refl
    begin_same (tree.Break line) = refl
    begin_same (tree.Continue line) = refl
    begin_same (tree.Return None line) = refl
    begin_same (tree.Return (Some e) line) = refl

    stored_for_same : (t : Statement) (stage : Stage) → stored_for one t stage k c m w ≡ stored_for other t stage k c m w
    stored_for_same (tree.InitScalar local e line) Fills = refl
    stored_for_same (tree.InitList local all line) (Items item rest) = items_same (tree.InitList local all line) (local_of p c local) rest m
    stored_for_same (tree.InitList local all line) Blanks = refl
    stored_for_same _ _ = refl

  module _ (c : CopyOf) (m : Memory) (w : World Byte) where
    -- ---- what waits on top
    found_same : (spot : Spot) (k : List Pending) → found one spot k c m w ≡ found other spot k c m w
    found_same spot [] = refl
    found_same spot (In e got ∷ k) = found_in_same k c m w e got spot
    found_same spot (To place ∷ k) = found_to_same k c m w place spot
    found_same spot (Doing t stage ∷ k) = found_for_same k c m w t stage spot
    found_same spot (Before ss ∷ k) = refl
    found_same spot (Returns d ∷ k) = refl
    found_same spot (Resumes d x ∷ k) = refl

    give_same : (v : Datum) (k : List Pending) → give one v k c m w ≡ give other v k c m w
    give_same v [] = refl
    give_same v (In e got ∷ k) = take_in_same k c m w e got v
    give_same v (To place ∷ k) = refl
    give_same v (Doing t stage ∷ k) = take_for_same k c m w t stage v
    give_same v (Before ss ∷ k) = refl
    give_same v (Returns d ∷ k) = refl
    give_same v (Resumes d x ∷ k) = refl

    stored_same : (k : List Pending) → stored one k c m w ≡ stored other k c m w
    stored_same [] = refl
    stored_same (In e got ∷ k) = refl
    stored_same (To place ∷ k) = refl
    stored_same (Doing t stage ∷ k) = stored_for_same k c m w t stage
    stored_same (Before ss ∷ k) = refl
    stored_same (Returns d ∷ k) = refl
    stored_same (Resumes d x ∷ k) = refl

  module _ (k : List Pending) (c : CopyOf) (m : Memory) (w : World Byte) where
    -- ---- accesses
    taking_same : (live : List CopyOf) (root : Root) (fits : Byte → Bool) (spot : Spot) (next : Byte → Focus) (line : ℕ)
        → after_taking (take_byte one live root fits spot m w) next c k m line ≡ after_taking (take_byte other live root fits spot m w) next c k m line
    taking_same live root fits spot next line = ap (λ (t : Taking). after_taking t next c k m line) (take_same live root fits spot m w)

    fetch_same : (ty : Ty) (spot : Spot) (read : List Byte) → fetch_as ty one spot read k c m w ≡ fetch_as ty other spot read k c m w
    fetch_same ty spot read =
        ap (λ (o : Outcome). if nat_lt (length read) (type_bytes p.sizes ty) then o else fetched (value_from ty read) k c m w)
        (taking_same (active c (Fetch spot read) k) c.root (fits_behind ty read) spot (λ byte. Fetch (next_byte spot) (read ++ byte ∷ [])) (line_at k))

    skim_same : (spot : Spot) (left : ℕ) (byte : Option Byte) → skim one spot left byte k c m w ≡ skim other spot left byte k c m w
    skim_same spot zero byte = refl
    skim_same spot (suc left) byte = taking_same (active c (Skim spot (suc left) byte) k) c.root is_any spot (λ next. Skim (next_byte spot) left (Some next)) (line_at k)

    bit_same : (register number : ℕ) (v : Datum) → read_bit one register number v k c m w ≡ read_bit other register number v k c m w
    unfolding device_value after_device_read
    bit_same register number v = refl

    write_at_same : (spot : Spot) (v : Datum) (at : ℕ) → write_at one spot v at k c m w ≡ write_at other spot v at k c m w
    unfolding put_byte
    write_at_same (spots.Bit register number) v at = bit_same register number v
    write_at_same (spots.Device register) v at = refl
    write_at_same (spots.Memory Null) v at = refl
    write_at_same (spots.Memory (Into object offset)) v at = refl

    write_same : (spot : Spot) (v : Datum) (at : ℕ) → write one spot v at k c m w ≡ write other spot v at k c m w
    write_same spot v at = by (nat_lt at (written_bytes spot v))
      where
        by : (b : Bool) → (if b then write_at one spot v at k c m w else stored one k c m w) ≡ (if b then write_at other spot v at k c m w else stored other k c m w)
        by true = write_at_same spot v at
        by false = stored_same c m w k

    copy_read_same : (to from : Spot) (left : ℕ) → copy_read one to from left k c m w ≡ copy_read other to from left k c m w
    copy_read_same to from zero = stored_same c m w k
    copy_read_same to from (suc left) = taking_same (active c (CopyRead to from (suc left)) k) c.root is_any from (λ byte. CopyWrite to from byte left) (line_at k)

    copy_write_same : (to from : Spot) (byte : Byte) (left : ℕ) → copy_write one to from byte left k c m w ≡ copy_write other to from byte left k c m w
    unfolding put_byte
    copy_write_same (spots.Bit register number) from byte left = refl
    copy_write_same (spots.Device register) from byte left = refl
    copy_write_same (spots.Memory Null) from byte left = refl
    copy_write_same (spots.Memory (Into object offset)) from byte left = refl

    spell_same : (spot : Spot) (text : List ℕ) (left : ℕ) → spell one spot text left k c m w ≡ spell other spot text left k c m w
    unfolding put_byte
    spell_same spot text zero = stored_same c m w k
    spell_same (spots.Bit register number) text (suc left) = refl
    spell_same (spots.Device register) text (suc left) = refl
    spell_same (spots.Memory Null) text (suc left) = refl
    spell_same (spots.Memory (Into object offset)) text (suc left) = refl

    blank_at_same : (object : Object) (at left : ℕ) → blank_at one object at left k c m w ≡ blank_at other object at left k c m w
    unfolding put_byte
    blank_at_same object at zero = stored_same c m w k
    blank_at_same object at (suc left) = refl

    blank_for_same : (t : Statement) (at left : ℕ) → blank_for one t at left k c m w ≡ blank_for other t at left k c m w
    blank_for_same (tree.InitList local all line) at left = let covered = covered_from p.sizes all at left in blank_at_same (local_of p c local) (at + covered) (left - covered)
    blank_for_same _ at left = refl

  module _ (c : CopyOf) (m : Memory) (w : World Byte) where
    blank_same : (at left : ℕ) (k : List Pending) → blank one at left k c m w ≡ blank other at left k c m w
    blank_same at left [] = refl
    blank_same at left (In e got ∷ k) = refl
    blank_same at left (To place ∷ k) = refl
    blank_same at left (Doing t stage ∷ k) = blank_for_same (Doing t stage ∷ k) c m w t at left
    blank_same at left (Before ss ∷ k) = refl
    blank_same at left (Returns d ∷ k) = refl
    blank_same at left (Resumes d x ∷ k) = refl

    act_same : (x : Focus) (k : List Pending) → act one x k c m w ≡ act other x k c m w
    unfolding act
    act_same (Eval e) k = refl
    act_same (Find place) k = find_same k c m w place
    act_same (Holds v) k = give_same c m w v k
    act_same (Found spot) k = found_same c m w spot k
    act_same (Run t) k = begin_same k c m w t
    act_same Past k = refl
    act_same (Fetch spot read) k = fetch_same k c m w (read_type k) spot read
    act_same (Skim spot left byte) k = skim_same k c m w spot left byte
    act_same (Write spot v at) k = write_same k c m w spot v at
    act_same (PutBit register number v old) k = refl
    act_same (CopyRead to from left) k = copy_read_same k c m w to from left
    act_same (CopyWrite to from byte left) k = copy_write_same k c m w to from byte left
    act_same (Spell spot text left) k = spell_same k c m w spot text left
    act_same (Blank at left) k = blank_same at left k
    act_same Calls k = refl
    act_same (Leaves v) k = refl
    act_same (Compares v labels) k = refl
    act_same Over k = refl

    interrupted_same : (h : Option ℕ) (x : Focus) (k : List Pending) → interrupted one h x k c m w ≡ interrupted other h x k c m w
    interrupted_same (Some h) x k = refl
    interrupted_same None x k = ap (refused (counted_line p c x k)) (act_same x k)

    step_at_same : (x : Focus) (k : List Pending) → step_at one x k c m w ≡ step_at other x k c m w
    step_at_same x k = by (is_due w)
      where
        by : (b : Bool) → (if b then interrupted one (handler_in p) x k c m w else act one x k c m w) ≡ (if b then interrupted other (handler_in p) x k c m w else act other x k c m w)
        by true = interrupted_same (handler_in p) x k
        by false = act_same x k

  -- ---- micro-steps
  module _ (t : State) (same : f (length t.world.trace) ≡ g (length t.world.trace)) where
    pub arrived_same : arrived one.outside t.world ≡ arrived other.outside t.world
    unfolding arrived
    arrived_same = ap (λ (mask : ℕ). record t.world { control = raised_by mask t.world.control }) same

    pub step_same : step one t ≡ step other t
    unfolding step
    step_same = ap (λ (w : World Byte). step_at one t.focus t.stack t.copy t.memory w) arrived_same ∙ step_at_same t.copy t.memory (arrived other.outside t.world) t.focus t.stack

    enters_same : enters one t ≡ enters other t
    unfolding enters
    enters_same = ap (λ (w : World Byte). is_due w && is_some_line (handler_in p)) arrived_same

    pub counts_same : counts one t ≡ counts other t
    unfolding counts
    counts_same = ap (λ (b : Bool). if b then true else is_some_line (counted_line p t.copy t.focus t.stack)) enters_same
