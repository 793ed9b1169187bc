-- What each micro-step adds to the trace, and what it leaves of the world and below the handler.
use Rattle.std.proofs.Common.{◌≡◌, ℕ, zero, suc, ◌+◌, ◌-◌, Bool, true, false, List, [], ◌∷◌, ◌++◌, length, Option, Some, None, refl, sym, ap, subst}
use Rattle.std.proofs.lemmas.Bool.{false≢true}
use Rattle.std.specs.Prelude.{if◌then◌else◌, nat_lt, is_some}
use Rattle.c_typed.specs.Trees as tree
use Rattle.c_typed.specs.Trees.{Expression, Item, Statement, Statements, Program}
use Rattle.c_typed.specs.Types.{type_bytes}
use Rattle.pic_world.specs.World.{Happening, ReadOf, WriteOf, World, left, device_value, after_device_read, after_device_write, sets_gie}
use Rattle.pic_world.specs.Bits.{bit}
use Rattle.pic_world.specs.Control.{is_stored, with_stored}
use Rattle.pic_world.specs.declared.Cell.TheVariants.{Device}
use Rattle.pic_world.specs.declared.Root.{Root}
use Rattle.src_rules.proofs.Quieting.{Quiet, eval_quiet, find_quiet, found_quiet, give_quiet, compares_quiet, turned_quiet, leave_quiet, fetched_quiet, items_quiet, stored_quiet, call_quiet, break_quiet, continue_quiet, arms_quiet, loops_quiet, unwound_below}
use Rattle.src_rules.specs.Accesses.{after_taking, after_putting, fetch, skim, write_at, copy_read, spell, blank_at, blank_for, blank, is_any, first_or_zero}
use Rattle.src_rules.specs.Laws.{below, ending, resumes}
use Rattle.src_rules.specs.State.{state, Outcome, Went, Undefined, Idle, Lost}
use Rattle.src_rules.specs.Statements.{unwound, proceed, begin}
use Rattle.src_rules.specs.Step.{act}
use Rattle.src_values.specs.Accesses.{Taking, Takes, Breaks, Putting, Puts, Refuses, noting, read_fault, write_fault, taken_unless, device_taken, take_byte, put_unless, device_put, put_byte, with_bit}
use Rattle.src_values.specs.Control as control
use Rattle.src_values.specs.Control.{Focus, Run, Past, Fetch, Skim, Write, PutBit, CopyRead, CopyWrite, Spell, Blank, Stage, Pending, In, To, Doing, Before, Returns, Resumes, line_at, active, read_type}
use Rattle.src_values.specs.Data as datum
use Rattle.src_values.specs.Data.{Datum}
use Rattle.src_values.specs.Lists.{covered_from}
use Rattle.src_values.specs.Memory.{Setting, Memory}
use Rattle.src_values.specs.Objects.{local_of, behind}
use Rattle.src_values.specs.Values.{byte_of, number_in, lowest_bit, fits_behind, value_from, written_bytes}
use Rattle.src_values.specs.declared.objects.Byte.{Byte}
use Rattle.src_values.specs.declared.objects.Byte.TheVariants as bytes
use Rattle.src_values.specs.declared.objects.CopyOf.{CopyOf}
use Rattle.src_values.specs.declared.objects.Object.{Object}
use Rattle.src_values.specs.declared.objects.Pointer.TheVariants.{Null, Into}
use Rattle.src_values.specs.declared.objects.Spot.{Spot}
use Rattle.src_values.specs.declared.objects.Spot.TheVariants as spots
use Rattle.src_values.specs.declared.objects.Undef.{Undef}

-- what is told of the world by an event, or by none
abbrev pub Told : World Byte → Option (Happening Byte) → World Byte → Type 0
Told w None u = u ≡ w
Told w (Some e) u = u.trace ≡ w.trace ++ e ∷ []

abbrev pub Tells : World Byte → List Pending → Outcome → Type 0
Tells w b (Went u event) = Told w event u.world × (below u.stack ≡ b)
Tells w b (Undefined kind line) = Unit {0}
Tells w b Idle = Unit {0}
Tells w b Lost = Unit {0}

told_none : (w u : World Byte) (event : Option (Happening Byte)) → event ≡ None → u ≡ w → Told w event u
told_none w u None e h = h
told_none w u (Some x) e h = absurd (false≢true (sym (ap is_some e)))

pub quiet_tells : (w : World Byte) (b : List Pending) (out : Outcome) → Quiet w b out → Tells w b out
quiet_tells w b (Went u event) h = (told_none w u.world event h.0 h.1, h.2)
quiet_tells w b (Undefined kind line) h = tt
quiet_tells w b Idle h = tt
quiet_tells w b Lost h = tt

either_tells : (w : World Byte) (b : List Pending) (t : Bool) (x y : Outcome) → Tells w b x → Tells w b y → Tells w b (if t then x else y)
either_tells w b true x y h g = h
either_tells w b false x y h g = g

-- ---- bytes
abbrev TakingTells : World Byte → Taking → Type 0
TakingTells w (Takes byte u event) = Told w event u
TakingTells w (Breaks kind) = Unit {0}

abbrev PuttingTells : World Byte → Putting → Type 0
PuttingTells w (Puts m u event) = Told w event u
PuttingTells w (Refuses kind) = Unit {0}

noting_told : (e : Option (Happening Byte)) (w : World Byte) → Told w e (noting e w)
noting_told None w = refl
noting_told (Some e) w = refl

taken_tells : (o : Option Undef) (byte : Byte) (w : World Byte) (event : Option (Happening Byte)) → TakingTells w (taken_unless o byte w event)
taken_tells None byte w event = noting_told event w
taken_tells (Some kind) byte w event = tt

used_trace : (b : Bool) (w : World Byte) → (if b then w else record w { taken = w.taken + 1 }).trace ≡ w.trace
used_trace true w = refl
used_trace false w = refl

device_taken_tells : (s : Setting) (address value : ℕ) (w : World Byte) → TakingTells w (device_taken s address value w)
unfolding after_device_read
device_taken_tells s address value w = ap (λ t. t ++ ReadOf (Device address) (bytes.Number (device_value s.outside address w)) ∷ []) (used_trace (is_stored address) w)

take_tells : (s : Setting) (live : List CopyOf) (root : Root) (fits : Byte → Bool) (spot : Spot) (m : Memory) (w : World Byte) → TakingTells w (take_byte s live root fits spot m w)
unfolding take_byte
take_tells s live root fits (spots.Device address) m w = device_taken_tells s address (device_value s.outside address w) w
take_tells s live root fits (spots.Bit register number) m w = device_taken_tells s register (bit (device_value s.outside register w) number) w
take_tells s live root fits (spots.Memory Null) m w = tt
take_tells s live root fits (spots.Memory (Into object offset)) m w = taken_tells (read_fault s.program live root fits object offset (m object offset)) (m object offset) w _

put_tells : (o : Option Undef) (object : Object) (offset : ℕ) (byte : Byte) (event : Option (Happening Byte)) (m : Memory) (w : World Byte) → PuttingTells w (put_unless o object offset byte event m w)
put_tells None object offset byte event m w = noting_told event w
put_tells (Some kind) object offset byte event m w = tt

kept_trace : (b : Bool) (w : World Byte) (r : _) → (if b then record w { control = r } else w).trace ≡ w.trace
kept_trace true w r = refl
kept_trace false w r = refl

device_by : (b : Bool) (kind : Undef) (address value : ℕ) (m : Memory) (w : World Byte) → PuttingTells w (if b then Refuses kind else Puts m (after_device_write bytes.Number address value w) (Some (WriteOf (Device address) (bytes.Number value))))
unfolding after_device_write
device_by true kind address value m w = tt
device_by false kind address value m w = ap (λ t. t ++ WriteOf (Device address) (bytes.Number value) ∷ []) (kept_trace (is_stored address) w (with_stored address value w.control))

device_put_tells : (address value : ℕ) (m : Memory) (w : World Byte) → PuttingTells w (device_put address value m w)
device_put_tells address value m w = device_by (sets_gie address value w) _ address value m w

put_byte_tells : (s : Setting) (live : List CopyOf) (root : Root) (spot : Spot) (byte : Byte) (m : Memory) (w : World Byte) → PuttingTells w (put_byte s live root spot byte m w)
unfolding put_byte
put_byte_tells s live root (spots.Device address) byte m w = device_put_tells address (number_in byte) m w
put_byte_tells s live root (spots.Bit register number) byte m w = tt
put_byte_tells s live root (spots.Memory Null) byte m w = tt
put_byte_tells s live root (spots.Memory (Into object offset)) byte m w = put_tells (write_fault s.program live root object offset) object offset byte _ m w

after_taking_tells : (taking : Taking) (next : Byte → Focus) (c : CopyOf) (k : List Pending) (m : Memory) (w : World Byte) (line : ℕ) → TakingTells w taking → Tells w (below k) (after_taking taking next c k m line)
after_taking_tells (Takes byte u event) next c k m w line h = (h, refl)
after_taking_tells (Breaks kind) next c k m w line h = tt

after_putting_tells : (putting : Putting) (next : Focus) (c : CopyOf) (k : List Pending) (w : World Byte) (line : ℕ) → PuttingTells w putting → Tells w (below k) (after_putting putting next c k line)
after_putting_tells (Puts n u event) next c k w line h = (h, refl)
after_putting_tells (Refuses kind) next c k w line h = tt

-- ---- one micro-step
module _ (s : Setting) (w : World Byte) where
  quiet : (k : List Pending) (out : Outcome) → Quiet w (below k) out → Tells w (below k) out
  quiet k out h = quiet_tells w (below k) out h

  skim_tells : (spot : Spot) (left : ℕ) (byte : Option Byte) (k : List Pending) (c : CopyOf) (m : Memory) → Tells w (below k) (skim s spot left byte k c m w)
  skim_tells spot zero byte k c m = quiet k _ (fetched_quiet w datum.Missing k c m)
  skim_tells spot (suc left) byte k c m = after_taking_tells _ _ c k m w (line_at k) (take_tells s (active c (Skim spot (suc left) byte) k) c.root is_any spot m w)

  write_at_tells : (spot : Spot) (v : Datum) (at : ℕ) (k : List Pending) (c : CopyOf) (m : Memory) → Tells w (below k) (write_at s spot v at k c m w)
  write_at_tells (spots.Bit register number) v at k c m = after_taking_tells (device_taken s register (device_value s.outside register w) w) (λ byte. PutBit register number v (number_in byte)) c k m w (line_at k) (device_taken_tells s register (device_value s.outside register w) w)
  write_at_tells (spots.Device address) v at k c m = after_putting_tells _ _ c k w (line_at k) (put_byte_tells s (active c (Write (spots.Device address) v at) k) c.root (spots.Device address) (byte_of v at) m w)
  write_at_tells (spots.Memory x) v at k c m = after_putting_tells _ _ c k w (line_at k) (put_byte_tells s (active c (Write (spots.Memory x) v at) k) c.root (spots.Memory x) (byte_of v at) m w)

  copy_tells : (to from : Spot) (left : ℕ) (k : List Pending) (c : CopyOf) (m : Memory) → Tells w (below k) (copy_read s to from left k c m w)
  copy_tells to from zero k c m = quiet k _ (stored_quiet w s k c m)
  copy_tells to from (suc left) k c m = after_taking_tells _ _ c k m w (line_at k) (take_tells s (active c (CopyRead to from (suc left)) k) c.root is_any from m w)

  spell_tells : (spot : Spot) (text : List ℕ) (left : ℕ) (k : List Pending) (c : CopyOf) (m : Memory) → Tells w (below k) (spell s spot text left k c m w)
  spell_tells spot text zero k c m = quiet k _ (stored_quiet w s k c m)
  spell_tells spot text (suc left) k c m = after_putting_tells _ _ c k w (line_at k) (put_byte_tells s (active c (Spell spot text (suc left)) k) c.root spot (bytes.Number (first_or_zero text)) m w)

  blank_at_tells : (object : Object) (at left : ℕ) (k : List Pending) (c : CopyOf) (m : Memory) → Tells w (below k) (blank_at s object at left k c m w)
  blank_at_tells object at zero k c m = quiet k _ (stored_quiet w s k c m)
  blank_at_tells object at (suc left) k c m = after_putting_tells _ _ c k w (line_at k) (put_byte_tells s (active c (Blank at (suc left)) k) c.root (behind object at) (bytes.Number 0) m w)

  blank_for_tells : (t : Statement) (at left : ℕ) (k : List Pending) (c : CopyOf) (m : Memory) → Tells w (below k) (blank_for s t at left k c m w)
  blank_for_tells (tree.InitList local all line) at left k c m = blank_at_tells (local_of s.program c local) (at + covered_from s.program.sizes all at left) (left - covered_from s.program.sizes all at left) k c m
  blank_for_tells _ at left k c m = tt

  blank_tells : (at left : ℕ) (k : List Pending) (c : CopyOf) (m : Memory) → Tells w (below k) (blank s at left k c m w)
  blank_tells at left [] c m = tt
  blank_tells at left (In e got ∷ k) c m = tt
  blank_tells at left (To place ∷ k) c m = tt
  blank_tells at left (Doing t stage ∷ k) c m = blank_for_tells t at left (Doing t stage ∷ k) c m
  blank_tells at left (Before ss ∷ k) c m = tt
  blank_tells at left (Returns d ∷ k) c m = tt
  blank_tells at left (Resumes d x ∷ k) c m = tt

  -- but for the end of the handler
  proceed_tells : (k : List Pending) (c : CopyOf) (m : Memory) → resumes k ≡ false → Tells w (below k) (proceed k c m w)
  proceed_tells [] c m e = (refl, refl)
  proceed_tells (In x got ∷ k) c m e = tt
  proceed_tells (To place ∷ k) c m e = tt
  proceed_tells (Doing t stage ∷ k) c m e = quiet k _ (turned_quiet w t stage k c m)
  proceed_tells (Before tree.NoStatement ∷ k) c m e = (refl, refl)
  proceed_tells (Before (tree.AndStatement t ts) ∷ k) c m e = (refl, refl)
  proceed_tells (Returns d ∷ k) c m e = (refl, refl)
  proceed_tells (Resumes d x ∷ k) c m e = absurd (false≢true (sym e))

  begin_tells : (t : Statement) (k : List Pending) (c : CopyOf) (m : Memory) → resumes (ending (Run t) k) ≡ false → Tells w (below k) (begin s t k c m w)
  begin_tells (tree.Block ss line) k c m e = (refl, refl)
  begin_tells (tree.Empty line) k c m e = (refl, refl)
  begin_tells (tree.Expr x line) k c m e = (refl, refl)
  begin_tells (tree.Declare local line) k c m e = (refl, refl)
  begin_tells (tree.InitScalar local x line) k c m e = (refl, refl)
  begin_tells (tree.InitList local all line) k c m e = quiet k _ (items_quiet w s (tree.InitList local all line) (local_of s.program c local) all k c _)
  begin_tells (tree.If chain otherwise line) k c m e = quiet k _ (arms_quiet w (tree.If chain otherwise line) chain otherwise k c m)
  begin_tells (tree.Loop shape first condition step body line) k c m e = quiet k _ (loops_quiet w shape (tree.Loop shape first condition step body line) first condition body k c m)
  begin_tells (tree.Switch x cases default ss line) k c m e = (refl, refl)
  begin_tells (tree.Break line) k c m e = quiet k _ (break_quiet w k c m)
  begin_tells (tree.Continue line) k c m e = quiet k _ (continue_quiet w k c m)
  begin_tells (tree.Return None line) k c m e = subst (λ b. Tells w b (proceed (unwound k) c m w)) (unwound_below w k) (proceed_tells (unwound k) c m e)
  begin_tells (tree.Return (Some x) line) k c m e = (refl, refl)

  fetch_tells : (spot : Spot) (read : List Byte) (k : List Pending) (c : CopyOf) (m : Memory) → Tells w (below k) (fetch s spot read k c m w)
  fetch_tells spot read k c m =
      either_tells w (below k) (nat_lt (length read) (type_bytes s.program.sizes (read_type k))) _ _
      (after_taking_tells _ _ c k m w (line_at k) (take_tells s (active c (Fetch spot read) k) c.root (fits_behind (read_type k) read) spot m w))
      (quiet k _ (fetched_quiet w (value_from (read_type k) read) k c m))

  pub act_tells : (x : Focus) (k : List Pending) (c : CopyOf) (m : Memory) → resumes (ending x k) ≡ false → Tells w (below k) (act s x k c m w)
  unfolding act
  act_tells (control.Eval e) k c m n = quiet k _ (eval_quiet w e k c m)
  act_tells (control.Find place) k c m n = quiet k _ (find_quiet w s place k c m)
  act_tells (control.Holds v) k c m n = quiet k _ (give_quiet w s v k c m)
  act_tells (control.Found spot) k c m n = quiet k _ (found_quiet w s spot k c m)
  act_tells (control.Run t) k c m n = begin_tells t k c m n
  act_tells control.Past k c m n = proceed_tells k c m n
  act_tells (control.Fetch spot read) k c m n = fetch_tells spot read k c m
  act_tells (control.Skim spot left byte) k c m n = skim_tells spot left byte k c m
  act_tells (control.Write spot v at) k c m n = either_tells w (below k) (nat_lt at (written_bytes spot v)) _ _ (write_at_tells spot v at k c m) (quiet k _ (stored_quiet w s k c m))
  act_tells (control.PutBit register number v old) k c m n = after_putting_tells _ _ c k w (line_at k) (device_put_tells register (with_bit number (lowest_bit v) old) m w)
  act_tells (control.CopyRead to from left) k c m n = copy_tells to from left k c m
  act_tells (control.CopyWrite to from byte left) k c m n = after_putting_tells _ _ c k w (line_at k) (put_byte_tells s (active c (CopyWrite to from byte left) k) c.root to byte m w)
  act_tells (control.Spell spot text left) k c m n = spell_tells spot text left k c m
  act_tells (control.Blank at left) k c m n = blank_tells at left k c m
  act_tells control.Calls k c m n = quiet k _ (call_quiet w s.program k c m)
  act_tells (control.Leaves v) k c m n = quiet k _ (leave_quiet w v k m)
  act_tells (control.Compares v labels) k c m n = quiet k _ (compares_quiet w v labels k c m)
  act_tells control.Over k c m n = tt

  -- the end of the handler
  pub resumed : (k : List Pending) (c : CopyOf) (m : Memory) (d : CopyOf) (x : Focus) (rest : List Pending) → k ≡ Resumes d x ∷ rest → proceed k c m w ≡ Went (state d x rest m (left w)) None
  resumed k c m d x rest e = rw e refl
