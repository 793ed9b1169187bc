-- Where the bytes of the source's events come from: a byte that is read stood in memory, and one that is written does. So each is a
-- byte that memory may hold.
use Rattle.std.proofs.Common.{◌≡◌, ℕ, zero, suc, ◌+◌, ◌-◌, Bool, true, false, ◌&&◌, List, [], ◌∷◌, ◌++◌, length, Option, Some, None, refl, sym, ap, ◌∙◌, subst}
use Rattle.std.specs.Prelude.{if◌then◌else◌, nat_lt, nat_eq}
use Rattle.std.proofs.lemmas.Bool.{eq-eqb}
use Rattle.c_typed.specs.Trees as tree
use Rattle.c_typed.specs.Trees.{Statement, Program}
use Rattle.c_typed.specs.Types.{type_bytes}
use Rattle.pic_world.specs.World.{Happening, ReadOf, WriteOf, Ended, World, arrived, is_due, after_device_write, sets_gie}
use Rattle.pic_world.specs.declared.Cell.TheVariants as cells
use Rattle.pic_world.specs.declared.Root.{Root}
use Rattle.src_rules.proofs.Changes.{trace_grows}
use Rattle.src_rules.proofs.Moments.{moments}
use Rattle.src_rules.proofs.Quieting.{Quiet, eval_quiet, find_quiet, found_quiet, give_quiet, compares_quiet, turned_quiet, leave_quiet, fetched_quiet, items_quiet, stored_quiet, call_quiet, break_quiet, continue_quiet, arms_quiet, loops_quiet}
use Rattle.src_rules.specs.Accesses.{after_taking, after_putting, fetch, skim, write_at, copy_read, spell, blank_at, blank_for, blank, is_any, first_or_zero}
use Rattle.src_rules.specs.Laws.{Adds, IsProper, IsOfBytes, below}
use Rattle.src_rules.specs.Runs.{run, moment, gone}
use Rattle.src_rules.specs.Standing.{IsThere, IsByteAt, MemoryStands, Keeps, Stands}
use Rattle.src_rules.specs.State.{State, Outcome, Went, Undefined, Idle, Lost}
use Rattle.src_rules.specs.Statements.{unwound, proceed, begin}
use Rattle.src_rules.specs.Step.{act, step, interrupted, refused, start}
use Rattle.src_values.specs.Accesses.{Taking, Takes, Breaks, Putting, Puts, Refuses, read_fault, write_fault, event_at, taken_unless, take_byte, put_unless, device_put, put_byte, with_bit}
use Rattle.src_values.specs.Control as control
use Rattle.src_values.specs.Control.{Focus, Fetch, Skim, Write, PutBit, CopyRead, CopyWrite, Spell, Blank, Stage, Pending, In, To, Doing, Before, Returns, Resumes, line_at, active, read_type}
use Rattle.src_values.specs.Counting.{counted_line}
use Rattle.src_values.specs.Data as datum
use Rattle.src_values.specs.Data.{Datum}
use Rattle.src_values.specs.Lists.{covered_from}
use Rattle.src_values.specs.Memory.{Setting, Memory, with_byte}
use Rattle.src_values.specs.Objects.{local_of, behind, handler_in, is_watched}
use Rattle.src_values.specs.Values.{byte_of, number_in, lowest_bit, fits_behind, value_from, written_bytes}
use Rattle.src_values.specs.declared.objects.Byte.{Byte}
use Rattle.src_values.specs.declared.objects.Byte.TheVariants as bytes
use Rattle.src_values.specs.declared.objects.CopyOf.{CopyOf}
use Rattle.src_values.specs.declared.objects.Object.{Object}
use Rattle.src_values.specs.declared.objects.Object.TheVariants.{Fixed, Variable}
use Rattle.src_values.specs.declared.objects.Pointer.TheVariants.{Null, Into}
use Rattle.src_values.specs.declared.objects.Spot.{Spot}
use Rattle.src_values.specs.declared.objects.Spot.TheVariants as spots
use Rattle.src_values.specs.declared.objects.Undef.{Undef}
use Rattle.src_values.specs.declared.objects.Undef.TheVariants.{Gie}

-- ---- where a byte comes from
abbrev IsNumber : Byte → Type 0
IsNumber (bytes.Number n) = Unit {0}
IsNumber _ = ⊥

-- m is the memory before, n the one after
abbrev IsFrom : Memory → Memory → Option (Happening Byte) → Type 0
IsFrom m n None = Unit {0}
IsFrom m n (Some (ReadOf (cells.Device address) byte)) = IsNumber byte
IsFrom m n (Some (ReadOf (cells.Static i offset) byte)) = m (Fixed i) offset ≡ byte
IsFrom m n (Some (WriteOf (cells.Device address) byte)) = IsNumber byte
IsFrom m n (Some (WriteOf (cells.Static i offset) byte)) = n (Fixed i) offset ≡ byte
IsFrom m n (Some Ended) = Unit {0}

abbrev Comes : Memory → Outcome → Type 0
Comes m (Went u event) = IsFrom m u.memory event
Comes m (Undefined kind line) = Unit {0}
Comes m Idle = Unit {0}
Comes m Lost = Unit {0}

none_comes : (m n : Memory) (event : Option (Happening Byte)) → event ≡ None → IsFrom m n event
none_comes m n event e = subst (IsFrom m n) (sym e) tt

quiet_comes : (w : World Byte) (b : List Pending) (m : Memory) (out : Outcome) → Quiet w b out → Comes m out
quiet_comes w b m (Went u event) h = none_comes m u.memory event h.0
quiet_comes w b m (Undefined kind line) h = tt
quiet_comes w b m Idle h = tt
quiet_comes w b m Lost h = tt

either_comes : (m : Memory) (t : Bool) (x y : Outcome) → Comes m x → Comes m y → Comes m (if t then x else y)
either_comes m true x y h g = h
either_comes m false x y h g = g

-- ---- bytes
abbrev TakingComes : Memory → Taking → Type 0
TakingComes m (Takes byte u event) = IsFrom m m event
TakingComes m (Breaks kind) = Unit {0}

abbrev PuttingComes : Memory → Putting → Type 0
PuttingComes m (Puts n u event) = IsFrom m n event
PuttingComes m (Refuses kind) = Unit {0}

read_event : (p : Program) (m : Memory) (object : Object) (offset : ℕ) → IsFrom m m (event_at p ReadOf object offset (m object offset))
read_event p m (Fixed n) offset = by (is_watched p (Fixed n)) where
  by : (b : Bool) → IsFrom m m (if b then Some (ReadOf (cells.Static n offset) (m (Fixed n) offset)) else None)
  by true = refl
  by false = tt
read_event p m (Variable c n) offset = tt

taken_comes : (p : Program) (o : Option Undef) (object : Object) (offset : ℕ) (m : Memory) (w : World Byte) → TakingComes m (taken_unless o (m object offset) w (event_at p ReadOf object offset (m object offset)))
taken_comes p None object offset m w = read_event p m object offset
taken_comes p (Some kind) object offset m w = tt

take_comes : (s : Setting) (live : List CopyOf) (root : Root) (fits : Byte → Bool) (spot : Spot) (m : Memory) (w : World Byte) → TakingComes m (take_byte s live root fits spot m w)
unfolding take_byte
take_comes s live root fits (spots.Device address) m w = tt
take_comes s live root fits (spots.Bit register number) m w = tt
take_comes s live root fits (spots.Memory Null) m w = tt
take_comes s live root fits (spots.Memory (Into object offset)) m w = taken_comes s.program (read_fault s.program live root fits object offset (m object offset)) object offset m w

write_event : (p : Program) (m : Memory) (object : Object) (offset : ℕ) (byte : Byte) → IsFrom m (with_byte m object offset byte) (event_at p WriteOf object offset byte)
write_event p m (Fixed n) offset byte = by (is_watched p (Fixed n)) where
  by : (b : Bool) → IsFrom m (with_byte m (Fixed n) offset byte) (if b then Some (WriteOf (cells.Static n offset) byte) else None)
  by true = ap (λ b. if b && nat_eq offset offset then byte else m (Fixed n) offset) (eq-eqb n n refl) ∙ ap (λ b. if b then byte else m (Fixed n) offset) (eq-eqb offset offset refl)
  by false = tt
write_event p m (Variable c n) offset byte = tt

put_comes : (p : Program) (o : Option Undef) (object : Object) (offset : ℕ) (byte : Byte) (m : Memory) (w : World Byte) → PuttingComes m (put_unless o object offset byte (event_at p WriteOf object offset byte) m w)
put_comes p None object offset byte m w = write_event p m object offset byte
put_comes p (Some kind) object offset byte m w = tt

device_comes : (address value : ℕ) (m : Memory) (w : World Byte) → PuttingComes m (device_put address value m w)
device_comes address value m w = by (sets_gie address value w) where
  by : (b : Bool) → PuttingComes m (if b then Refuses Gie else Puts m (after_device_write bytes.Number address value w) (Some (WriteOf (cells.Device address) (bytes.Number value))))
  by true = tt
  by false = tt

put_byte_comes : (s : Setting) (live : List CopyOf) (root : Root) (spot : Spot) (byte : Byte) (m : Memory) (w : World Byte) → PuttingComes m (put_byte s live root spot byte m w)
unfolding put_byte
put_byte_comes s live root (spots.Device address) byte m w = device_comes address (number_in byte) m w
put_byte_comes s live root (spots.Bit register number) byte m w = tt
put_byte_comes s live root (spots.Memory Null) byte m w = tt
put_byte_comes s live root (spots.Memory (Into object offset)) byte m w = put_comes s.program (write_fault s.program live root object offset) object offset byte m w

after_taking_comes : (taking : Taking) (next : Byte → Focus) (c : CopyOf) (k : List Pending) (m : Memory) (line : ℕ) → TakingComes m taking → Comes m (after_taking taking next c k m line)
after_taking_comes (Takes byte u event) next c k m line h = h
after_taking_comes (Breaks kind) next c k m line h = tt

after_putting_comes : (m : Memory) (putting : Putting) (next : Focus) (c : CopyOf) (k : List Pending) (line : ℕ) → PuttingComes m putting → Comes m (after_putting putting next c k line)
after_putting_comes m (Puts n u event) next c k line h = h
after_putting_comes m (Refuses kind) next c k line h = tt

-- ---- one micro-step
module _ (s : Setting) (w : World Byte) where
  quiet : (k : List Pending) (m : Memory) (out : Outcome) → Quiet w (below k) out → Comes m out
  quiet k m out h = quiet_comes w (below k) m out h

  skim_comes : (spot : Spot) (left : ℕ) (byte : Option Byte) (k : List Pending) (c : CopyOf) (m : Memory) → Comes m (skim s spot left byte k c m w)
  skim_comes spot zero byte k c m = quiet k m _ (fetched_quiet w datum.Missing k c m)
  skim_comes spot (suc left) byte k c m = after_taking_comes _ _ c k m (line_at k) (take_comes s (active c (Skim spot (suc left) byte) k) c.root is_any spot m w)

  write_at_comes : (spot : Spot) (v : Datum) (at : ℕ) (k : List Pending) (c : CopyOf) (m : Memory) → Comes m (write_at s spot v at k c m w)
  write_at_comes (spots.Bit register number) v at k c m = tt
  write_at_comes (spots.Device address) v at k c m = after_putting_comes m _ _ c k (line_at k) (put_byte_comes s (active c (Write (spots.Device address) v at) k) c.root (spots.Device address) (byte_of v at) m w)
  write_at_comes (spots.Memory x) v at k c m = after_putting_comes m _ _ c k (line_at k) (put_byte_comes s (active c (Write (spots.Memory x) v at) k) c.root (spots.Memory x) (byte_of v at) m w)

  copy_comes : (to from : Spot) (left : ℕ) (k : List Pending) (c : CopyOf) (m : Memory) → Comes m (copy_read s to from left k c m w)
  copy_comes to from zero k c m = quiet k m _ (stored_quiet w s k c m)
  copy_comes to from (suc left) k c m = after_taking_comes _ _ c k m (line_at k) (take_comes s (active c (CopyRead to from (suc left)) k) c.root is_any from m w)

  spell_comes : (spot : Spot) (text : List ℕ) (left : ℕ) (k : List Pending) (c : CopyOf) (m : Memory) → Comes m (spell s spot text left k c m w)
  spell_comes spot text zero k c m = quiet k m _ (stored_quiet w s k c m)
  spell_comes spot text (suc left) k c m = after_putting_comes m _ _ c k (line_at k) (put_byte_comes s (active c (Spell spot text (suc left)) k) c.root spot (bytes.Number (first_or_zero text)) m w)

  blank_at_comes : (object : Object) (at left : ℕ) (k : List Pending) (c : CopyOf) (m : Memory) → Comes m (blank_at s object at left k c m w)
  blank_at_comes object at zero k c m = quiet k m _ (stored_quiet w s k c m)
  blank_at_comes object at (suc left) k c m = after_putting_comes m _ _ c k (line_at k) (put_byte_comes s (active c (Blank at (suc left)) k) c.root (behind object at) (bytes.Number 0) m w)

  blank_for_comes : (t : Statement) (at left : ℕ) (k : List Pending) (c : CopyOf) (m : Memory) → Comes m (blank_for s t at left k c m w)
  blank_for_comes (tree.InitList local all line) at left k c m = blank_at_comes (local_of s.program c local) (at + covered_from s.program.sizes all at left) (left - covered_from s.program.sizes all at left) k c m
  blank_for_comes _ at left k c m = tt

  blank_comes : (at left : ℕ) (k : List Pending) (c : CopyOf) (m : Memory) → Comes m (blank s at left k c m w)
  blank_comes at left [] c m = tt
  blank_comes at left (In e got ∷ k) c m = tt
  blank_comes at left (To place ∷ k) c m = tt
  blank_comes at left (Doing t stage ∷ k) c m = blank_for_comes t at left (Doing t stage ∷ k) c m
  blank_comes at left (Before ss ∷ k) c m = tt
  blank_comes at left (Returns d ∷ k) c m = tt
  blank_comes at left (Resumes d x ∷ k) c m = tt

  proceed_comes : (k : List Pending) (c : CopyOf) (m : Memory) → Comes m (proceed k c m w)
  proceed_comes [] c m = tt
  proceed_comes (In x got ∷ k) c m = tt
  proceed_comes (To place ∷ k) c m = tt
  proceed_comes (Doing t stage ∷ k) c m = quiet k m _ (turned_quiet w t stage k c m)
  proceed_comes (Before tree.NoStatement ∷ k) c m = tt
  proceed_comes (Before (tree.AndStatement t ts) ∷ k) c m = tt
  proceed_comes (Returns d ∷ k) c m = tt
  proceed_comes (Resumes d x ∷ k) c m = tt

  begin_comes : (t : Statement) (k : List Pending) (c : CopyOf) (m : Memory) → Comes m (begin s t k c m w)
  begin_comes (tree.Block ss line) k c m = tt
  begin_comes (tree.Empty line) k c m = tt
  begin_comes (tree.Expr x line) k c m = tt
  begin_comes (tree.Declare local line) k c m = tt
  begin_comes (tree.InitScalar local x line) k c m = tt
  begin_comes (tree.InitList local all line) k c m = quiet k m _ (items_quiet w s (tree.InitList local all line) (local_of s.program c local) all k c _)
  begin_comes (tree.If chain otherwise line) k c m = quiet k m _ (arms_quiet w (tree.If chain otherwise line) chain otherwise k c m)
  begin_comes (tree.Loop shape first condition step body line) k c m = quiet k m _ (loops_quiet w shape (tree.Loop shape first condition step body line) first condition body k c m)
  begin_comes (tree.Switch x cases default ss line) k c m = tt
  begin_comes (tree.Break line) k c m = quiet k m _ (break_quiet w k c m)
  begin_comes (tree.Continue line) k c m = quiet k m _ (continue_quiet w k c m)
  begin_comes (tree.Return None line) k c m = proceed_comes (unwound k) c m
  begin_comes (tree.Return (Some x) line) k c m = tt

  fetch_comes : (spot : Spot) (read : List Byte) (k : List Pending) (c : CopyOf) (m : Memory) → Comes m (fetch s spot read k c m w)
  fetch_comes spot read k c m =
      either_comes m (nat_lt (length read) (type_bytes s.program.sizes (read_type k))) _ _
      (after_taking_comes _ _ c k m (line_at k) (take_comes s (active c (Fetch spot read) k) c.root (fits_behind (read_type k) read) spot m w))
      (quiet k m _ (fetched_quiet w (value_from (read_type k) read) k c m))

  act_comes : (x : Focus) (k : List Pending) (c : CopyOf) (m : Memory) → Comes m (act s x k c m w)
  unfolding act
  act_comes (control.Eval e) k c m = quiet k m _ (eval_quiet w e k c m)
  act_comes (control.Find place) k c m = quiet k m _ (find_quiet w s place k c m)
  act_comes (control.Holds v) k c m = quiet k m _ (give_quiet w s v k c m)
  act_comes (control.Found spot) k c m = quiet k m _ (found_quiet w s spot k c m)
  act_comes (control.Run t) k c m = begin_comes t k c m
  act_comes control.Past k c m = proceed_comes k c m
  act_comes (control.Fetch spot read) k c m = fetch_comes spot read k c m
  act_comes (control.Skim spot left byte) k c m = skim_comes spot left byte k c m
  act_comes (control.Write spot v at) k c m = either_comes m (nat_lt at (written_bytes spot v)) _ _ (write_at_comes spot v at k c m) (quiet k m _ (stored_quiet w s k c m))
  act_comes (control.PutBit register number v old) k c m = after_putting_comes m _ _ c k (line_at k) (device_comes register (with_bit number (lowest_bit v) old) m w)
  act_comes (control.CopyRead to from left) k c m = copy_comes to from left k c m
  act_comes (control.CopyWrite to from byte left) k c m = after_putting_comes m _ _ c k (line_at k) (put_byte_comes s (active c (CopyWrite to from byte left) k) c.root to byte m w)
  act_comes (control.Spell spot text left) k c m = spell_comes spot text left k c m
  act_comes (control.Blank at left) k c m = blank_comes at left k c m
  act_comes control.Calls k c m = quiet k m _ (call_quiet w s.program k c m)
  act_comes (control.Leaves v) k c m = quiet k m _ (leave_quiet w v k m)
  act_comes (control.Compares v labels) k c m = quiet k m _ (compares_quiet w v labels k c m)
  act_comes control.Over k c m = tt

refused_comes : (m : Memory) (line : Option ℕ) (out : Outcome) → Comes m out → Comes m (refused line out)
refused_comes m line (Undefined kind at) h = tt
refused_comes m None (Went t event) h = h
refused_comes m (Some line) (Went t event) h = tt
refused_comes m None Idle h = tt
refused_comes m (Some line) Idle h = tt
refused_comes m line Lost h = tt

step_comes : (s : Setting) (t : State) → Comes t.memory (step s t)
unfolding step
step_comes s t = by (is_due (arrived s.outside t.world)) (handler_in s.program) where
  due : (h : Option ℕ) → Comes t.memory (interrupted s h t.focus t.stack t.copy t.memory (arrived s.outside t.world))
  due (Some h) = tt
  due None = refused_comes t.memory (counted_line s.program t.copy t.focus t.stack) _ (act_comes s (arrived s.outside t.world) t.focus t.stack t.copy t.memory)

  by : (b : Bool) (h : Option ℕ) → Comes t.memory (if b then interrupted s h t.focus t.stack t.copy t.memory (arrived s.outside t.world) else act s t.focus t.stack t.copy t.memory (arrived s.outside t.world))
  by true h = due h
  by false h = act_comes s (arrived s.outside t.world) t.focus t.stack t.copy t.memory

-- ---- all events
-- the object that a byte is of is there
abbrev pub IsKnown : Program → Byte → Type 0
IsKnown p bytes.Unset = Unit {0}
IsKnown p (bytes.Number n) = Unit {0}
IsKnown p (bytes.Part object offset high) = IsThere p object

abbrev pub IsKnownEvent : Program → Happening Byte → Type 0
IsKnownEvent p (ReadOf cell byte) = IsKnown p byte
IsKnownEvent p (WriteOf cell byte) = IsKnown p byte
IsKnownEvent p Ended = Unit {0}

stands_known : (p : Program) (object : Object) (at : ℕ) (byte : Byte) → IsByteAt p object at byte → IsKnown p byte
stands_known p object at bytes.Unset h = tt
stands_known p object at (bytes.Number n) h = tt
stands_known p object at (bytes.Part other offset high) h = h.2.0

number_known : (p : Program) (byte : Byte) → IsNumber byte → IsKnown p byte
number_known p bytes.Unset h = tt
number_known p (bytes.Number n) h = tt
number_known p (bytes.Part object offset high) h = absurd h

event_known : (p : Program) (m n : Memory) (e : Happening Byte) → MemoryStands p m → MemoryStands p n → IsFrom m n (Some e) → IsKnownEvent p e
event_known p m n (ReadOf (cells.Device a) byte) before after h = number_known p byte h
event_known p m n (ReadOf (cells.Static i offset) byte) before after h = subst (IsKnown p) h (stands_known p (Fixed i) offset (m (Fixed i) offset) (before (Fixed i) offset))
event_known p m n (WriteOf (cells.Device a) byte) before after h = number_known p byte h
event_known p m n (WriteOf (cells.Static i offset) byte) before after h = subst (IsKnown p) h (stands_known p (Fixed i) offset (n (Fixed i) offset) (after (Fixed i) offset))
event_known p m n Ended before after h = tt

abbrev pub AllKnown : Program → List (Happening Byte) → Type 0
AllKnown p [] = Unit {0}
AllKnown p (e ∷ es) = IsKnownEvent p e × AllKnown p es

one_more : (p : Program) (xs : List (Happening Byte)) (e : Happening Byte) → AllKnown p xs → IsKnownEvent p e → AllKnown p (xs ++ e ∷ [])
one_more p [] e all one = (one, tt)
one_more p (x ∷ xs) e all one = (all.0, one_more p xs e all.1 one)

added_known : (p : Program) (m n : Memory) (before after : List (Happening Byte)) (event : Option (Happening Byte)) → MemoryStands p m → MemoryStands p n → IsFrom m n event → Adds before event after
    → AllKnown p before → AllKnown p after
added_known p m n before after None sm sn h a all = subst (AllKnown p) (sym a) all
added_known p m n before after (Some e) sm sn h a all = subst (AllKnown p) (sym a) (one_more p before e all (event_known p m n e sm sn h))

module _ (s : Setting) (proper : IsProper s.program) (bytes' : IsOfBytes s.outside) where
  known_on : (t : State) (x : Outcome) → step s t ≡ x → Comes t.memory x → Stands s.program t → Keeps s.program x → AllKnown s.program t.world.trace → AllKnown s.program (gone t x).world.trace
  known_on t (Went u event) is h st k all = added_known s.program t.memory u.memory t.world.trace u.world.trace event st.memory k.memory h (trace_grows s t u event is) all
  known_on t (Undefined kind line) is h st k all = all
  known_on t Idle is h st k all = all
  known_on t Lost is h st k all = all

  -- in each event of a run of a proper program the object that its byte is of is there
  pub known_events : (n : ℕ) → AllKnown s.program (moment s n).world.trace
  unfolding run start
  known_events zero = tt
  known_events (suc n) =
      let m = moments s proper bytes' n in
      known_on (moment s n) (step s (moment s n)) refl (step_comes s (moment s n)) m.0 m.1 (known_events n)
