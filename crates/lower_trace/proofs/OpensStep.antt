-- Each micro-step keeps that no pointer leads to a const static object: calls and the handler, and the whole step.
use Rattle.std.proofs.Common.{◌≡◌, ℕ, true, List, [], ◌∷◌, Option, Some, None}
use Rattle.c_typed.specs.Sound.{is_sound}
use Rattle.c_typed.specs.Trees as tree
use Rattle.c_typed.specs.Trees.{Expression, Program}
use Rattle.pic_world.specs.World.{World, arrived, is_due}
use Rattle.pic_world.specs.declared.Root.TheVariants.{Isr}
use Rattle.src_rules.specs.Standing.{FocusStands, Stands}
use Rattle.src_rules.specs.State.{State, Outcome, Went, Undefined, Idle, Lost}
use Rattle.src_rules.specs.Statements.{handed, leave}
use Rattle.src_rules.specs.Step.{act, call, call_in, copy_of, has_missing, interrupted, refused, refused_at, start, step}
use Rattle.src_values.specs.Control.{Focus, Eval, Find, Holds, Found, Run, Past, Fetch, Skim, Write, PutBit, CopyRead, CopyWrite, Spell, Blank, Calls, Leaves, Compares, Over, Got, Passed, Called, Pending, In, To, Doing, Before, Returns, Resumes}
use Rattle.src_values.specs.Data.{Datum}
use Rattle.src_values.specs.Memory.{Memory, fresh}
use Rattle.src_values.specs.Objects.{handler_in}
use Rattle.src_values.specs.declared.objects.Byte.{Byte}
use Rattle.src_values.specs.declared.objects.CopyOf.{CopyOf}
use Rattle.lower_trace.proofs.CodeLeft.{Scene, source_in}
use Rattle.lower_trace.proofs.OpenBodies.{bodies_open}
use Rattle.lower_trace.proofs.Opens.{FocusOpen, IsOpenDatum, KeepsOpen, MemoryOpen, StackOpen, closed_for, datum_any, first_open, fresh_open, values_given}
use Rattle.lower_trace.proofs.OpensKept.{either_opens, eval_opens, find_opens, found_opens}
use Rattle.lower_trace.proofs.OpensOn.{begin_opens, bit_opens, blank_opens, compares_opens, copy_read_opens, copy_write_opens, fetch_opens, give_opens, proceed_opens, skim_opens, spell_opens, write_opens}

module _ (z : Scene) (sound : is_sound z.program ≡ true) where
  abbrev p : Program
  p = z.program

  call_in_opens : (e : Expression) (got : Got) (k : List Pending) (c : CopyOf) (m : Memory) (w : World Byte) → MemoryOpen p m → StackOpen p (In e got ∷ k) → KeepsOpen p (call_in p e got k c m w)
  call_in_opens (tree.Call f arguments ty line) (Passed values) k c m w mem st =
      either_opens p (has_missing values) _ _ tt
      (values_given p (copy_of c.root f) values (fresh m (copy_of c.root f)) 0 (fresh_open p m (copy_of c.root f) mem) st.1, tt, (bodies_open p sound f, (st.0, tt, st.2)))
  call_in_opens _ _ k c m w mem st = tt

  call_opens : (k : List Pending) (c : CopyOf) (m : Memory) (w : World Byte) → MemoryOpen p m → StackOpen p k → KeepsOpen p (call p k c m w)
  call_opens [] c m w mem st = tt
  call_opens (In e got ∷ k) c m w mem st = call_in_opens e got k c m w mem st
  call_opens (To place ∷ k) c m w mem st = tt
  call_opens (Doing t stage ∷ k) c m w mem st = tt
  call_opens (Before ss ∷ k) c m w mem st = tt
  call_opens (Returns d ∷ k) c m w mem st = tt
  call_opens (Resumes d x ∷ k) c m w mem st = tt

  handed_opens : (v : Datum) (d : CopyOf) (k : List Pending) (m : Memory) (w : World Byte) → IsOpenDatum p v → MemoryOpen p m → StackOpen p k → KeepsOpen p (handed v d k m w)
  handed_opens v d (In (tree.Call function arguments ty line) Called ∷ k) m w h mem st = (mem, datum_any p (closed_for k) v h, st.2)
  handed_opens v d _ m w h mem st = tt

  leave_opens : (v : Datum) (k : List Pending) (m : Memory) (w : World Byte) → IsOpenDatum p v → MemoryOpen p m → StackOpen p k → KeepsOpen p (leave v k m w)
  leave_opens v [] m w h mem st = tt
  leave_opens v (In e got ∷ k) m w h mem st = tt
  leave_opens v (To place ∷ k) m w h mem st = tt
  leave_opens v (Doing t stage ∷ k) m w h mem st = tt
  leave_opens v (Before ss ∷ k) m w h mem st = tt
  leave_opens v (Returns d ∷ k) m w h mem st = handed_opens v d k m w h mem st
  leave_opens v (Resumes d x ∷ k) m w h mem st = tt

  act_opens : (x : Focus) (k : List Pending) (c : CopyOf) (m : Memory) (w : World Byte) → FocusStands p c x k → FocusOpen p x k → MemoryOpen p m → StackOpen p k → KeepsOpen p (act (source_in z) x k c m w)
  unfolding act
  act_opens (Eval e) k c m w f h mem st = eval_opens z e k c m w h mem st
  act_opens (Find place) k c m w f h mem st = find_opens z place k c m w f.0 h mem st
  act_opens (Holds v) k c m w f h mem st = give_opens z v k c m w h mem st
  act_opens (Found spot) k c m w f h mem st = found_opens z spot k c m w f h mem st
  act_opens (Run t) k c m w f h mem st = begin_opens z t k c m w h mem st
  act_opens Past k c m w f h mem st = proceed_opens z k c m w mem st
  act_opens (Fetch spot read) k c m w f h mem st = fetch_opens z spot read k c m w h mem st
  act_opens (Skim spot left byte) k c m w f h mem st = skim_opens z spot left byte k c m w mem st
  act_opens (Write spot v at) k c m w f h mem st = write_opens z spot v at k c m w h mem st
  act_opens (PutBit register number v old) k c m w f h mem st = bit_opens z register number v old k c m w h mem st
  act_opens (CopyRead to from left) k c m w f h mem st = copy_read_opens z to from left k c m w h mem st
  act_opens (CopyWrite to from byte left) k c m w f h mem st = copy_write_opens z to from byte left k c m w h mem st
  act_opens (Spell spot text left) k c m w f h mem st = spell_opens z spot text left k c m w mem st
  act_opens (Blank at left) k c m w f h mem st = blank_opens z at left k c m w mem st
  act_opens Calls k c m w f h mem st = call_opens k c m w mem st
  act_opens (Leaves v) k c m w f h mem st = leave_opens v k m w h mem st
  act_opens (Compares v labels) k c m w f h mem st = compares_opens z v labels k c m w mem st
  act_opens Over k c m w f h mem st = tt

  refused_at_opens : (line : Option ℕ) (next : Outcome) → KeepsOpen p next → KeepsOpen p (refused_at line next)
  refused_at_opens (Some line) next h = tt
  refused_at_opens None next h = h

  refused_opens : (line : Option ℕ) (next : Outcome) → KeepsOpen p next → KeepsOpen p (refused line next)
  refused_opens line (Went u event) h = refused_at_opens line (Went u event) h
  refused_opens line (Undefined kind at) h = tt
  refused_opens line Idle h = refused_at_opens line Idle h
  refused_opens line Lost h = tt

  interrupted_opens : (handler : Option ℕ) (x : Focus) (k : List Pending) (c : CopyOf) (m : Memory) (w : World Byte) → FocusStands p c x k → FocusOpen p x k → MemoryOpen p m → StackOpen p k → KeepsOpen p (interrupted (source_in z) handler x k c m w)
  interrupted_opens (Some h) x k c m w f o mem st = (fresh_open p m (copy_of Isr h) mem, tt, (bodies_open p sound h, (o, st)))
  interrupted_opens None x k c m w f o mem st = refused_opens _ _ (act_opens x k c m w f o mem st)

  -- A micro-step keeps it ..
  pub step_opens : (t : State) → Stands p t → FocusOpen p t.focus t.stack → MemoryOpen p t.memory → StackOpen p t.stack → KeepsOpen p (step (source_in z) t)
  unfolding step
  step_opens t h o mem st =
      either_opens p (is_due (arrived z.outside t.world)) _ _
      (interrupted_opens (handler_in p) t.focus t.stack t.copy t.memory (arrived z.outside t.world) h.focus o mem st)
      (act_opens t.focus t.stack t.copy t.memory (arrived z.outside t.world) h.focus o mem st)

  -- .. and the start has it.
  pub start_opens : KeepsOpen p (Went (start (source_in z)) None)
  unfolding start
  start_opens = (first_open p sound, tt, (bodies_open p sound _, tt))
