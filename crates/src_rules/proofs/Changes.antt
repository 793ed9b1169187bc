-- Laws of what micro-steps change, and of the handler.
use Rattle.std.proofs.Common.{◌≡◌, ℕ, zero, suc, ◌+◌, ◌-◌, Bool, true, false, ◌&&◌, List, [], ◌∷◌, length, Option, Some, None, refl, sym, ap, ◌∙◌, subst, arith}
use Rattle.std.proofs.lemmas.Bool.{false≢true, and_left, ltb-false}
use Rattle.std.specs.Prelude.{if◌then◌else◌, nat_lt}
use Rattle.c_typed.specs.Trees as tree
use Rattle.c_typed.specs.Trees.{Expression, Item, Statement, Statements, Program}
use Rattle.c_typed.specs.Types.{type_bytes}
use Rattle.pic_world.proofs.ControlLaws.{raised_enabled}
use Rattle.pic_world.specs.Control as registers
use Rattle.pic_world.specs.Control.{control_at_reset, raised_by, is_enabled}
use Rattle.pic_world.specs.World.{Happening, World, arrived, is_due, entered, left}
use Rattle.pic_world.proofs.WorldLaws.{arrived_again, arrived_trace}
use Rattle.pic_world.specs.declared.Root.TheVariants.{Isr}
use Rattle.src_rules.proofs.Fallen.{unmet, none_left}
use Rattle.src_rules.proofs.Quieting.{Quiet, eval_quiet, find_quiet, found_quiet, give_quiet, compares_quiet, turned_quiet, leave_quiet, fetched_quiet, items_quiet, stored_quiet}
use Rattle.src_rules.proofs.Telling.{Told, Tells, act_tells, resumed}
use Rattle.src_rules.proofs.Weighing.{some_none, uncounted}
use Rattle.src_rules.proofs.Worlds.{arrived_inside, entered_inside, due_outside}
use Rattle.src_rules.specs.Accesses.{skim, copy_read, spell, blank_at, blank_for, blank}
use Rattle.src_rules.specs.Laws.{below, ending, resumes, leaves_handler, Adds, TraceGrows, EventsCount, EntryKeepsBelow, BelowStays, LeaveGoesOn, EntryIsBehind, StartIsMains, ArrivalsAreOnce}
use Rattle.src_rules.specs.Runs.{gone}
use Rattle.src_rules.specs.State.{State, state, Outcome, Went, Undefined, Idle, Lost}
use Rattle.src_rules.specs.Statements.{unwound, proceed, begin}
use Rattle.src_rules.specs.Step.{start, copy_of, body_of, is_some_line, act, refused, interrupted, step_at, step, enters, counts}
use Rattle.src_values.specs.Control as control
use Rattle.src_values.specs.Control.{Focus, Run, Past, Stage, Pending, In, To, Doing, Before, Returns, Resumes, line_at, read_type}
use Rattle.src_values.specs.Counting.{counted_line, statement_counts, past_counts, blank_counts, blank_counts_for}
use Rattle.src_values.specs.Data as datum
use Rattle.src_values.specs.Data.{Datum}
use Rattle.src_values.specs.Lists.{covered_from}
use Rattle.src_values.specs.Memory.{Setting, Memory, fresh}
use Rattle.src_values.specs.Objects.{handler_in, local_of}
use Rattle.src_values.specs.Values.{value_from, written_bytes}
use Rattle.src_values.specs.declared.objects.Byte.{Byte}
use Rattle.src_values.specs.declared.objects.CopyOf.{CopyOf}
use Rattle.src_values.specs.declared.objects.Object.{Object}
use Rattle.src_values.specs.declared.objects.Spot.{Spot}

-- ---- outcomes
event_in : Outcome → Option (Happening Byte)
event_in (Went u event) = event
event_in (Undefined kind line) = None
event_in Idle = None
event_in Lost = None

went : Outcome → Bool
went (Went u event) = true
went (Undefined kind line) = false
went Idle = false
went Lost = false

went_same : (u v : State) (e f : Option (Happening Byte)) → Went u e ≡ Went v f → (u ≡ v) × (e ≡ f)
unfolding event_in
went_same u v e f is = (ap (gone v) is, ap event_in is)

refused_went : (o : Option ℕ) (out : Outcome) (u : State) (event : Option (Happening Byte)) → refused o out ≡ Went u event → out ≡ Went u event
unfolding went
refused_went (Some line) (Went t e) u event is = absurd (false≢true (ap went is))
refused_went None (Went t e) u event is = is
refused_went o (Undefined kind line) u event is = is
refused_went (Some line) Idle u event is = absurd (false≢true (ap went is))
refused_went None Idle u event is = absurd (false≢true (ap went is))
refused_went o Lost u event is = is

-- ---- where the handler is not entered, the focus acts
acts_by : (s : Setting) (x : Focus) (k : List Pending) (c : CopyOf) (m : Memory) (w : World Byte) (b : Bool) (o : Option ℕ) (u : State) (event : Option (Happening Byte)) → (b && is_some_line o) ≡ false → (if b then interrupted s o x k c m w else act s x k c m w) ≡ Went u event → act s x k c m w ≡ Went u event
acts_by s x k c m w true (Some h) u event e is = absurd (false≢true (sym e))
acts_by s x k c m w true None u event e is = refused_went (counted_line s.program c x k) (act s x k c m w) u event is
acts_by s x k c m w false o u event e is = is

acts : (s : Setting) (t u : State) (event : Option (Happening Byte)) → step s t ≡ Went u event → enters s t ≡ false → act s t.focus t.stack t.copy t.memory (arrived s.outside t.world) ≡ Went u event
unfolding step enters
acts s t u event is e = acts_by s t.focus t.stack t.copy t.memory (arrived s.outside t.world) (is_due (arrived s.outside t.world)) (handler_in s.program) u event e is

enters_by : (s : Setting) (x : Focus) (k : List Pending) (c : CopyOf) (m : Memory) (w : World Byte) (b : Bool) (o : Option ℕ) (u : State) (event : Option (Happening Byte)) → (b && is_some_line o) ≡ true → (if b then interrupted s o x k c m w else act s x k c m w) ≡ Went u event
    → (event ≡ None) × (u.world ≡ entered w) × (below u.stack ≡ Resumes c x ∷ k)
enters_by s x k c m w true (Some h) u event e is =
    let d = went_same (state (copy_of Isr h) Past (body_of s.program h (Resumes c x ∷ k)) (fresh m (copy_of Isr h)) (entered w)) u None event is in
    (sym d.1, ap (λ v. v.world) (sym d.0), ap (λ v. below v.stack) (sym d.0))
enters_by s x k c m w true None u event e is = absurd (false≢true e)
enters_by s x k c m w false o u event e is = absurd (false≢true e)

pub entry_keeps : EntryKeepsBelow
unfolding step enters
entry_keeps s t u event is e = enters_by s t.focus t.stack t.copy t.memory (arrived s.outside t.world) (is_due (arrived s.outside t.world)) (handler_in s.program) u event e is

-- what a micro-step tells that neither enters the handler nor leaves it
told : (s : Setting) (t u : State) (event : Option (Happening Byte)) → step s t ≡ Went u event → enters s t ≡ false → leaves_handler t ≡ false → Told (arrived s.outside t.world) event u.world × (below u.stack ≡ below t.stack)
told s t u event is e l = subst (Tells (arrived s.outside t.world) (below t.stack)) (acts s t u event is e) (act_tells s (arrived s.outside t.world) t.focus t.stack t.copy t.memory l)

pub below_stays : BelowStays
below_stays s t u event is e l = (told s t u event is e l).1

-- ---- the end of the handler
left_by : (s : Setting) (x : Focus) (k : List Pending) (c : CopyOf) (m : Memory) (w : World Byte) (d : CopyOf) (y : Focus) (rest : List Pending) → ending x k ≡ Resumes d y ∷ rest → act s x k c m w ≡ Went (state d y rest m (left w)) None
unfolding act
left_by s control.Past k c m w d y rest e = resumed s w k c m d y rest e
left_by s (control.Run (tree.Return None line)) k c m w d y rest e = resumed s w (unwound k) c m d y rest e
left_by s _ k c m w d y rest e = absurd (false≢true (ap resumes e))

pub leave_goes_on : LeaveGoesOn
leave_goes_on s t u event c x k is e l =
    let d = went_same (state c x k t.memory (left (arrived s.outside t.world))) u None event (sym (left_by s t.focus t.stack t.copy t.memory (arrived s.outside t.world) c x k l) ∙ acts s t u event is e) in
    (sym d.1, sym d.0)

-- ---- the trace
adds_told : (w u : World Byte) (event : Option (Happening Byte)) → Told w event u → Adds w.trace event u.trace
adds_told w u None h = ap (λ v. v.trace) h
adds_told w u (Some e) h = h

entered_trace : (w : World Byte) → (entered w).trace ≡ w.trace
unfolding entered
entered_trace w = refl

left_trace : (w : World Byte) → (left w).trace ≡ w.trace
unfolding left
left_trace w = refl

adds_none : (before after : List (Happening Byte)) (event : Option (Happening Byte)) → event ≡ None → after ≡ before → Adds before event after
adds_none before after event n e = rw n e

resumes_form : (k : List Pending) → resumes k ≡ true → (c : CopyOf) × (x : Focus) × (rest : List Pending) × (k ≡ Resumes c x ∷ rest)
resumes_form [] e = absurd (false≢true e)
resumes_form (In x got ∷ k) e = absurd (false≢true e)
resumes_form (To place ∷ k) e = absurd (false≢true e)
resumes_form (Doing t stage ∷ k) e = absurd (false≢true e)
resumes_form (Before ss ∷ k) e = absurd (false≢true e)
resumes_form (Returns d ∷ k) e = absurd (false≢true e)
resumes_form (Resumes d x ∷ k) e = (d, x, k, refl)

trace_by : (s : Setting) (t u : State) (event : Option (Happening Byte)) (a b : Bool) → step s t ≡ Went u event → enters s t ≡ a → leaves_handler t ≡ b → Adds (arrived s.outside t.world).trace event u.world.trace
trace_by s t u event true b is e l =
    let h = entry_keeps s t u event is e in
    adds_none _ _ event h.0 (ap (λ v. v.trace) h.1 ∙ entered_trace (arrived s.outside t.world))
trace_by s t u event false true is e l =
    let f = resumes_form (ending t.focus t.stack) l in
    let h = leave_goes_on s t u event f.0 f.1 f.2 is e f.3 in
    adds_none _ _ event h.0 (ap (λ v. v.world.trace) h.1 ∙ left_trace (arrived s.outside t.world))
trace_by s t u event false false is e l = adds_told (arrived s.outside t.world) u.world event (told s t u event is e l).0

pub trace_grows : TraceGrows
trace_grows s t u event is = subst (λ tr. Adds tr event u.world.trace) (arrived_trace s.outside t.world) (trace_by s t u event (enters s t) (leaves_handler t) is refl refl)

-- ---- where the handler is entered
due_again : (s : Setting) (t u : State) → u.world ≡ arrived s.outside t.world → enters s u ≡ enters s t
unfolding enters
due_again s t u e = ap (λ w. is_due w && is_some_line (handler_in s.program)) (ap (arrived s.outside) e ∙ arrived_again s.outside t.world)

inside_waits : (w : World Byte) (b : Bool) → is_due w ≡ b → w.inside ≡ true → b ≡ false
inside_waits w true e i = absurd (false≢true (sym (due_outside w e) ∙ i))
inside_waits w false e i = refl

entered_once : (s : Setting) (t u : State) → u.world ≡ entered (arrived s.outside t.world) → enters s u ≡ false
unfolding enters
entered_once s t u e =
    let w = arrived s.outside u.world in
    let i : w.inside ≡ true = arrived_inside s.outside u.world ∙ (ap (λ v. v.inside) e ∙ entered_inside (arrived s.outside t.world)) in
    and_left (is_due w) (is_some_line (handler_in s.program)) (inside_waits w (is_due w) refl i)

behind_by : (s : Setting) (t u : State) (event : Option (Happening Byte)) (a : Bool) → step s t ≡ Went u event → event ≡ None → leaves_handler t ≡ false → enters s t ≡ a → enters s u ≡ false
behind_by s t u event true is n l e = entered_once s t u (entry_keeps s t u event is e).1
behind_by s t u event false is n l e = due_again s t u (subst (λ o. Told (arrived s.outside t.world) o u.world) n (told s t u event is e l).0) ∙ e

pub entry_is_behind : EntryIsBehind
entry_is_behind s t u event is n l = behind_by s t u event (enters s t) is n l refl

-- ---- micro-steps that don't count
not_chosen : (w : World Byte) (b : List Pending) (t : Bool) (x y : Outcome) → t ≡ false → Quiet w b y → Quiet w b (if t then x else y)
not_chosen w b true x y e h = absurd (false≢true (sym e))
not_chosen w b false x y e h = h

module _ (s : Setting) (w : World Byte) where
  skim_quiet : (spot : Spot) (left : ℕ) (byte : Option Byte) (k : List Pending) (c : CopyOf) (m : Memory) → left ≡ 0 → Quiet w (below k) (skim s spot left byte k c m w)
  skim_quiet spot zero byte k c m e = fetched_quiet w datum.Missing k c m
  skim_quiet spot (suc left) byte k c m e = absurd (omega arith)

  copy_quiet : (to from : Spot) (left : ℕ) (k : List Pending) (c : CopyOf) (m : Memory) → left ≡ 0 → Quiet w (below k) (copy_read s to from left k c m w)
  copy_quiet to from zero k c m e = stored_quiet w s k c m
  copy_quiet to from (suc left) k c m e = absurd (omega arith)

  spell_quiet : (spot : Spot) (text : List ℕ) (left : ℕ) (k : List Pending) (c : CopyOf) (m : Memory) → left ≡ 0 → Quiet w (below k) (spell s spot text left k c m w)
  spell_quiet spot text zero k c m e = stored_quiet w s k c m
  spell_quiet spot text (suc left) k c m e = absurd (omega arith)

  blank_at_quiet : (object : Object) (at left : ℕ) (k : List Pending) (c : CopyOf) (m : Memory) → left ≡ 0 → Quiet w (below k) (blank_at s object at left k c m w)
  blank_at_quiet object at zero k c m e = stored_quiet w s k c m
  blank_at_quiet object at (suc left) k c m e = absurd (omega arith)

  blank_for_quiet : (t : Statement) (at left : ℕ) (k : List Pending) (c : CopyOf) (m : Memory) → blank_counts_for s.program t at left ≡ None → Quiet w (below k) (blank_for s t at left k c m w)
  blank_for_quiet (tree.InitList local all line) at left k c m u =
      let d = ltb-false (covered_from s.program.sizes all at left) left (unmet (nat_lt (covered_from s.program.sizes all at left) left) line u) in
      blank_at_quiet (local_of s.program c local) (at + covered_from s.program.sizes all at left) (left - covered_from s.program.sizes all at left) k c m (omega arith)
  blank_for_quiet _ at left k c m u = tt

  blank_quiet : (at left : ℕ) (k : List Pending) (c : CopyOf) (m : Memory) → blank_counts s.program at left k ≡ None → Quiet w (below k) (blank s at left k c m w)
  blank_quiet at left [] c m u = tt
  blank_quiet at left (In e got ∷ k) c m u = tt
  blank_quiet at left (To place ∷ k) c m u = tt
  blank_quiet at left (Doing t stage ∷ k) c m u = blank_for_quiet t at left (Doing t stage ∷ k) c m u
  blank_quiet at left (Before ss ∷ k) c m u = tt
  blank_quiet at left (Returns d ∷ k) c m u = tt
  blank_quiet at left (Resumes d x ∷ k) c m u = tt

  proceed_quiet : (k : List Pending) (c : CopyOf) (m : Memory) → past_counts s.program c k ≡ None → Quiet w (below k) (proceed k c m w)
  proceed_quiet [] c m u = absurd (some_none _ u)
  proceed_quiet (In x got ∷ k) c m u = tt
  proceed_quiet (To place ∷ k) c m u = tt
  proceed_quiet (Doing t stage ∷ k) c m u = turned_quiet w t stage k c m
  proceed_quiet (Before tree.NoStatement ∷ k) c m u = (refl, refl, refl)
  proceed_quiet (Before (tree.AndStatement t ts) ∷ k) c m u = (refl, refl, refl)
  proceed_quiet (Returns d ∷ k) c m u = absurd (some_none _ u)
  proceed_quiet (Resumes d x ∷ k) c m u = absurd (some_none _ u)

  begin_quiet : (t : Statement) (k : List Pending) (c : CopyOf) (m : Memory) → statement_counts t ≡ None → Quiet w (below k) (begin s t k c m w)
  begin_quiet (tree.Declare local line) k c m u = (refl, refl, refl)
  begin_quiet (tree.InitScalar local x line) k c m u = (refl, refl, refl)
  begin_quiet (tree.InitList local all line) k c m u = items_quiet w s (tree.InitList local all line) (local_of s.program c local) all k c _
  begin_quiet (tree.Block ss line) k c m u = absurd (some_none line u)
  begin_quiet (tree.Empty line) k c m u = absurd (some_none line u)
  begin_quiet (tree.Expr x line) k c m u = absurd (some_none line u)
  begin_quiet (tree.If chain otherwise line) k c m u = absurd (some_none line u)
  begin_quiet (tree.Loop shape first condition step body line) k c m u = absurd (some_none line u)
  begin_quiet (tree.Switch x cases default ss line) k c m u = absurd (some_none line u)
  begin_quiet (tree.Break line) k c m u = absurd (some_none line u)
  begin_quiet (tree.Continue line) k c m u = absurd (some_none line u)
  begin_quiet (tree.Return x line) k c m u = absurd (some_none line u)

  act_quiet : (x : Focus) (k : List Pending) (c : CopyOf) (m : Memory) → counted_line s.program c x k ≡ None → Quiet w (below k) (act s x k c m w)
  unfolding act counted_line
  act_quiet (control.Eval e) k c m u = eval_quiet w e k c m
  act_quiet (control.Find place) k c m u = find_quiet w s place k c m
  act_quiet (control.Holds v) k c m u = give_quiet w s v k c m
  act_quiet (control.Found spot) k c m u = found_quiet w s spot k c m
  act_quiet (control.Run t) k c m u = begin_quiet t k c m u
  act_quiet control.Past k c m u = proceed_quiet k c m u
  act_quiet (control.Fetch spot read) k c m u = not_chosen w (below k) (nat_lt (length read) (type_bytes s.program.sizes (read_type k))) _ _ (unmet _ (line_at k) u) (fetched_quiet w (value_from (read_type k) read) k c m)
  act_quiet (control.Skim spot left byte) k c m u = skim_quiet spot left byte k c m (none_left left (line_at k) u)
  act_quiet (control.Write spot v at) k c m u = not_chosen w (below k) (nat_lt at (written_bytes spot v)) _ _ (unmet _ (line_at k) u) (stored_quiet w s k c m)
  act_quiet (control.PutBit register number v old) k c m u = absurd (some_none (line_at k) u)
  act_quiet (control.CopyRead to from left) k c m u = copy_quiet to from left k c m (none_left left (line_at k) u)
  act_quiet (control.CopyWrite to from byte left) k c m u = absurd (some_none (line_at k) u)
  act_quiet (control.Spell spot text left) k c m u = spell_quiet spot text left k c m (none_left left (line_at k) u)
  act_quiet (control.Blank at left) k c m u = blank_quiet at left k c m u
  act_quiet control.Calls k c m u = absurd (some_none (line_at k) u)
  act_quiet (control.Leaves v) k c m u = leave_quiet w v k m
  act_quiet (control.Compares v labels) k c m u = compares_quiet w v labels k c m
  act_quiet control.Over k c m u = tt

pub events_count : EventsCount
unfolding counts
events_count s t u event is e =
    let n = uncounted (enters s t) (counted_line s.program t.copy t.focus t.stack) e in
    let q = subst (Quiet (arrived s.outside t.world) (below t.stack)) (acts s t u event is n.0) (act_quiet s (arrived s.outside t.world) t.focus t.stack t.copy t.memory n.1) in
    (q.0, q.1)

-- ---- arrivals
pub arrivals_once : ArrivalsAreOnce
unfolding step
arrivals_once s t = ap (step_at s t.focus t.stack t.copy t.memory) (arrived_again s.outside t.world)

-- ---- the start
pub start_is_mains : StartIsMains
unfolding enters start arrived is_due registers.is_due
start_is_mains s =
    and_left _ (is_some_line (handler_in s.program))
    (and_left (is_enabled (raised_by (s.outside.schedule 0) control_at_reset)) _ (raised_enabled (s.outside.schedule 0) control_at_reset))
