-- Each micro-step from a state that stands makes an event with a name, or none.
use Rattle.std.proofs.Common.{◌≡◌, ℕ, zero, suc, ◌+◌, ◌-◌, Bool, true, false, List, [], ◌∷◌, length, Option, Some, None, sym, ap}
use Rattle.std.proofs.lemmas.Bool.{false≢true}
use Rattle.std.specs.Prelude.{if◌then◌else◌, is_some, nat_lt}
use Rattle.c_typed.specs.Trees as tree
use Rattle.c_typed.specs.Trees.{Program, Statement}
use Rattle.c_typed.specs.Types.{type_bytes}
use Rattle.program_laws.proofs.Spots.{SpotIsNamed, fetch_named, skim_named, write_named, copy_named, spell_named}
use Rattle.program_laws.proofs.Touched.{after_taking_named, after_putting_named, take_named, device_put_named, put_byte_named}
use Rattle.program_laws.specs.EventNames.{IsNamedIfAny, MakesNamed, StepsAreNamed}
use Rattle.pic_world.specs.World.{Happening, World, arrived, device_value, is_due}
use Rattle.src_rules.proofs.Quieting.{Quiet, eval_quiet, find_quiet, found_quiet, give_quiet, compares_quiet, turned_quiet, leave_quiet, fetched_quiet, items_quiet, stored_quiet, call_quiet, break_quiet, continue_quiet, arms_quiet, loops_quiet}
use Rattle.src_rules.specs.Accesses.{blank, blank_at, blank_for, copy_read, fetch, first_or_zero, is_any, skim, spell, write, write_at}
use Rattle.src_rules.specs.Laws.{below}
use Rattle.src_rules.specs.Standing.{FocusStands, StackStands}
use Rattle.src_rules.specs.State.{Outcome, Went, Undefined, Idle, Lost}
use Rattle.src_rules.specs.Statements.{begin, proceed, unwound}
use Rattle.src_rules.specs.Step.{act, interrupted, refused, step, step_at}
use Rattle.src_values.specs.Accesses.{device_taken, with_bit}
use Rattle.src_values.specs.Control as control
use Rattle.src_values.specs.Control.{Focus, Run, Past, Fetch, Skim, Write, PutBit, CopyRead, CopyWrite, Spell, Blank, Stage, Pending, In, To, Doing, Before, Returns, Resumes, active, line_at, read_type}
use Rattle.src_values.specs.Counting.{counted_line}
use Rattle.src_values.specs.Data as datum
use Rattle.src_values.specs.Data.{Datum}
use Rattle.src_values.specs.Lists.{covered_from}
use Rattle.src_values.specs.Memory.{Setting, Memory}
use Rattle.src_values.specs.Objects.{behind, handler_in, local_of}
use Rattle.src_values.specs.Values.{byte_of, fits_behind, lowest_bit, number_in, value_from, written_bytes}
use Rattle.src_values.specs.declared.objects.Byte.{Byte}
use Rattle.src_values.specs.declared.objects.Byte.TheVariants as bytes
use Rattle.src_values.specs.declared.objects.CopyOf.{CopyOf}
use Rattle.src_values.specs.declared.objects.Object.{Object}
use Rattle.src_values.specs.declared.objects.Spot.{Spot}
use Rattle.src_values.specs.declared.objects.Spot.TheVariants as spots

-- ---- no event, or one of two steps
none_named : (p : Program) (event : Option (Happening Byte)) → event ≡ None → IsNamedIfAny p event
none_named p None e = tt
none_named p (Some x) e = absurd (false≢true (sym (ap is_some e)))

quiet_named : (p : Program) (w : World Byte) (b : List Pending) (out : Outcome) → Quiet w b out → MakesNamed p out
quiet_named p w b (Went t event) h = none_named p event h.0
quiet_named p w b (Undefined kind line) h = tt
quiet_named p w b Idle h = tt
quiet_named p w b Lost h = tt

either_named : (p : Program) (t : Bool) (x y : Outcome) → MakesNamed p x → MakesNamed p y → MakesNamed p (if t then x else y)
either_named p true x y h g = h
either_named p false x y h g = g

-- without a handler
refused_named : (p : Program) (line : Option ℕ) (out : Outcome) → MakesNamed p out → MakesNamed p (refused line out)
refused_named p line (Undefined kind at) h = tt
refused_named p None (Went t event) h = h
refused_named p (Some line) (Went t event) h = tt
refused_named p None Idle h = tt
refused_named p (Some line) Idle h = tt
refused_named p line Lost h = tt

-- ---- each focus
module _ (s : Setting) (c : CopyOf) (m : Memory) (w : World Byte) where
  quiet : (k : List Pending) (out : Outcome) → Quiet w (below k) out → MakesNamed s.program out
  quiet k out h = quiet_named s.program w (below k) out h

  fetch_step : (spot : Spot) (read : List Byte) (k : List Pending) → SpotIsNamed spot → MakesNamed s.program (fetch s spot read k c m w)
  fetch_step spot read k h =
      either_named s.program (nat_lt (length read) (type_bytes s.program.sizes (read_type k))) _ _
      (after_taking_named s.program _ _ c k m (line_at k) (take_named s (active c (Fetch spot read) k) c.root (fits_behind (read_type k) read) spot m w h))
      (quiet k _ (fetched_quiet w (value_from (read_type k) read) k c m))

  skim_step : (spot : Spot) (left : ℕ) (byte : Option Byte) (k : List Pending) → SpotIsNamed spot → MakesNamed s.program (skim s spot left byte k c m w)
  skim_step spot zero byte k h = quiet k _ (fetched_quiet w datum.Missing k c m)
  skim_step spot (suc left) byte k h = after_taking_named s.program _ _ c k m (line_at k) (take_named s (active c (Skim spot (suc left) byte) k) c.root is_any spot m w h)

  write_at_step : (spot : Spot) (v : Datum) (at : ℕ) (k : List Pending) → SpotIsNamed spot → MakesNamed s.program (write_at s spot v at k c m w)
  write_at_step (spots.Bit register number) v at k h =
      after_taking_named s.program (device_taken s register (device_value s.outside register w) w) (λ byte. PutBit register number v (number_in byte)) c k m (line_at k) h
  write_at_step (spots.Device address) v at k h =
      after_putting_named s.program _ _ c k (line_at k) (put_byte_named s (active c (Write (spots.Device address) v at) k) c.root (spots.Device address) (byte_of v at) m w h)
  write_at_step (spots.Memory x) v at k h =
      after_putting_named s.program _ _ c k (line_at k) (put_byte_named s (active c (Write (spots.Memory x) v at) k) c.root (spots.Memory x) (byte_of v at) m w h)

  write_step : (spot : Spot) (v : Datum) (at : ℕ) (k : List Pending) → SpotIsNamed spot → MakesNamed s.program (write s spot v at k c m w)
  write_step spot v at k h = either_named s.program (nat_lt at (written_bytes spot v)) _ _ (write_at_step spot v at k h) (quiet k _ (stored_quiet w s k c m))

  copy_step : (to from : Spot) (left : ℕ) (k : List Pending) → SpotIsNamed from → MakesNamed s.program (copy_read s to from left k c m w)
  copy_step to from zero k h = quiet k _ (stored_quiet w s k c m)
  copy_step to from (suc left) k h = after_taking_named s.program _ _ c k m (line_at k) (take_named s (active c (CopyRead to from (suc left)) k) c.root is_any from m w h)

  spell_step : (spot : Spot) (text : List ℕ) (left : ℕ) (k : List Pending) → SpotIsNamed spot → MakesNamed s.program (spell s spot text left k c m w)
  spell_step spot text zero k h = quiet k _ (stored_quiet w s k c m)
  spell_step spot text (suc left) k h =
      after_putting_named s.program _ _ c k (line_at k) (put_byte_named s (active c (Spell spot text (suc left)) k) c.root spot (bytes.Number (first_or_zero text)) m w h)

  blank_at_step : (object : Object) (at left : ℕ) (k : List Pending) → MakesNamed s.program (blank_at s object at left k c m w)
  blank_at_step object at zero k = quiet k _ (stored_quiet w s k c m)
  blank_at_step object at (suc left) k = after_putting_named s.program _ _ c k (line_at k) (put_byte_named s (active c (Blank at (suc left)) k) c.root (behind object at) (bytes.Number 0) m w tt)

  blank_for_step : (t : Statement) (at left : ℕ) (k : List Pending) → MakesNamed s.program (blank_for s t at left k c m w)
  blank_for_step (tree.InitList local all line) at left k = blank_at_step (local_of s.program c local) (at + covered_from s.program.sizes all at left) (left - covered_from s.program.sizes all at left) k
  blank_for_step _ at left k = tt

  blank_step : (at left : ℕ) (k : List Pending) → MakesNamed s.program (blank s at left k c m w)
  blank_step at left [] = tt
  blank_step at left (In e got ∷ k) = tt
  blank_step at left (To place ∷ k) = tt
  blank_step at left (Doing t stage ∷ k) = blank_for_step t at left (Doing t stage ∷ k)
  blank_step at left (Before ss ∷ k) = tt
  blank_step at left (Returns d ∷ k) = tt
  blank_step at left (Resumes d x ∷ k) = tt

  proceed_step : (k : List Pending) → MakesNamed s.program (proceed k c m w)
  proceed_step [] = tt
  proceed_step (In x got ∷ k) = tt
  proceed_step (To place ∷ k) = tt
  proceed_step (Doing t stage ∷ k) = quiet k _ (turned_quiet w t stage k c m)
  proceed_step (Before tree.NoStatement ∷ k) = tt
  proceed_step (Before (tree.AndStatement t ts) ∷ k) = tt
  proceed_step (Returns d ∷ k) = tt
  proceed_step (Resumes d x ∷ k) = tt

-- the beginning of a statement may clear the bytes of a local
module _ (s : Setting) (c : CopyOf) (m : Memory) (w : World Byte) where
  begin_step : (t : Statement) (k : List Pending) → MakesNamed s.program (begin s t k c m w)
  begin_step (tree.Block ss line) k = tt
  begin_step (tree.Empty line) k = tt
  begin_step (tree.Expr x line) k = tt
  begin_step (tree.Declare local line) k = tt
  begin_step (tree.InitScalar local x line) k = tt
  begin_step (tree.InitList local all line) k = quiet_named s.program w (below k) _ (items_quiet w s (tree.InitList local all line) (local_of s.program c local) all k c _)
  begin_step (tree.If chain otherwise line) k = quiet_named s.program w (below k) _ (arms_quiet w (tree.If chain otherwise line) chain otherwise k c m)
  begin_step (tree.Loop shape first condition step body line) k =
      quiet_named s.program w (below k) _ (loops_quiet w shape (tree.Loop shape first condition step body line) first condition body k c m)
  begin_step (tree.Switch x cases default ss line) k = tt
  begin_step (tree.Break line) k = quiet_named s.program w (below k) _ (break_quiet w k c m)
  begin_step (tree.Continue line) k = quiet_named s.program w (below k) _ (continue_quiet w k c m)
  begin_step (tree.Return None line) k = proceed_step s c m w (unwound k)
  begin_step (tree.Return (Some x) line) k = tt

  act_named : (x : Focus) (k : List Pending) → FocusStands s.program c x k → StackStands s.program c k → MakesNamed s.program (act s x k c m w)
  unfolding act
  act_named (control.Eval e) k f h = quiet_named s.program w (below k) _ (eval_quiet w e k c m)
  act_named (control.Find place) k f h = quiet_named s.program w (below k) _ (find_quiet w s place k c m)
  act_named (control.Holds v) k f h = quiet_named s.program w (below k) _ (give_quiet w s v k c m)
  act_named (control.Found spot) k f h = quiet_named s.program w (below k) _ (found_quiet w s spot k c m)
  act_named (control.Run t) k f h = begin_step t k
  act_named control.Past k f h = proceed_step s c m w k
  act_named (control.Fetch spot read) k f h = fetch_step s c m w spot read k (fetch_named s.program c k spot read h f)
  act_named (control.Skim spot left byte) k f h = skim_step s c m w spot left byte k (skim_named s.program c k spot left h f)
  act_named (control.Write spot v at) k f h = write_step s c m w spot v at k (write_named s.program c k spot v at h f)
  act_named (control.PutBit register number v old) k f h =
      after_putting_named s.program _ _ c k (line_at k) (device_put_named s.program register (with_bit number (lowest_bit v) old) m w (write_named s.program c k (spots.Bit register number) v 0 h f.0))
  act_named (control.CopyRead to from left) k f h = copy_step s c m w to from left k (copy_named s.program c k to from left h f).1
  act_named (control.CopyWrite to from byte left) k f h =
      after_putting_named s.program _ _ c k (line_at k) (put_byte_named s (active c (CopyWrite to from byte left) k) c.root to byte m w (copy_named s.program c k to from (suc left) h f.0).0)
  act_named (control.Spell spot text left) k f h = spell_step s c m w spot text left k (spell_named s.program c k spot text left f)
  act_named (control.Blank at left) k f h = blank_step s c m w at left k
  act_named control.Calls k f h = quiet_named s.program w (below k) _ (call_quiet w s.program k c m)
  act_named (control.Leaves v) k f h = quiet_named s.program w (below k) _ (leave_quiet w v k m)
  act_named (control.Compares v labels) k f h = quiet_named s.program w (below k) _ (compares_quiet w v labels k c m)
  act_named control.Over k f h = tt

  interrupted_named : (handler : Option ℕ) (x : Focus) (k : List Pending) → FocusStands s.program c x k → StackStands s.program c k → MakesNamed s.program (interrupted s handler x k c m w)
  interrupted_named (Some h) x k f st = tt
  interrupted_named None x k f st = refused_named s.program (counted_line s.program c x k) (act s x k c m w) (act_named x k f st)

  step_at_named : (x : Focus) (k : List Pending) → FocusStands s.program c x k → StackStands s.program c k → MakesNamed s.program (step_at s x k c m w)
  step_at_named x k f st = either_named s.program (is_due w) _ _ (interrupted_named (handler_in s.program) x k f st) (act_named x k f st)

pub step_named : StepsAreNamed
unfolding step
step_named s t h = step_at_named s t.copy t.memory (arrived s.outside t.world) t.focus t.stack h.focus h.stack
