-- What is known of each state of a run of an accepted program, beside the machine of byte code that stands for it.
use Rattle.std.proofs.Common.{◌≡◌, ℕ, ◌+◌, ◌<◌, ◌≤◌, ◌⊎◌, inl, inr, Bool, true, false, ◌&&◌, if◌then◌else◌, List, [], ◌∷◌, Option, Some, None, refl, sym, ap, ◌∙◌, subst, ⊎_elim, arith}
use Rattle.std.proofs.lemmas.Grind.{common_steps}
use Rattle.std.specs.List.{All}
use Rattle.c_typed.specs.Room.{variables_bytes, statements_room}
use Rattle.c_typed.specs.Trees as tree
use Rattle.c_typed.specs.Trees.{VariableTree, Program}
use Rattle.c_typed.specs.Types.{type_bytes}
use Rattle.core_puts.specs.Bytes.{beyond}
use Rattle.lower_stmt.specs.Frames.{end_from}
use Rattle.pic_world.specs.Roots.{same_root}
use Rattle.pic_world.specs.World.{Happening, World, arrived, is_due}
use Rattle.pic_world.specs.declared.Root.{Root}
use Rattle.pic_world.specs.declared.Root.TheVariants.{Main, Isr}
use Rattle.src_rules.proofs.Changes.{entry_keeps, below_stays, leave_goes_on, entry_is_behind}
use Rattle.src_rules.proofs.Distinct.{distinct}
use Rattle.src_rules.proofs.Moments.{starts, steps}
use Rattle.src_rules.proofs.Rooms.{FocusSized, Sized, KeepsSize}
use Rattle.src_rules.proofs.Roomy.{step_size}
use Rattle.src_rules.specs.Laws.{IsProper, below, ending, resumes, leaves_handler}
use Rattle.src_rules.specs.Standing.{IsReached, Keeps, StackStands, Stands}
use Rattle.src_rules.specs.State.{State, Outcome, Went, Undefined, Idle, Lost}
use Rattle.src_rules.specs.Statements.{unwound}
use Rattle.src_rules.specs.Step.{is_some_line, act, interrupted, enters, start, step}
use Rattle.src_values.specs.Control.{Focus, Run, Past, Turns, InArm, Pending, In, To, Doing, Before, Returns, Resumes}
use Rattle.src_values.specs.Memory as source
use Rattle.src_values.specs.Objects.{function_at, handler_in}
use Rattle.src_values.specs.declared.objects.Byte.{Byte}
use Rattle.src_values.specs.declared.objects.CopyOf.{CopyOf}
use Rattle.lower_trace.specs.Lowering.{IsLowerable}
use Rattle.lower_trace.proofs.CodeLeft.{Scene, ground_in, base, source_in}
use Rattle.lower_trace.proofs.Entering.{bool_cases}
use Rattle.lower_trace.proofs.Fitting.{FocusFits, StackFits, frame_of, piled, base_low, reached}
use Rattle.lower_trace.proofs.FitsKept.{KeepsFits}
use Rattle.lower_trace.proofs.FitsOn.{step_fits}
use Rattle.lower_trace.proofs.Giving.{Around}
use Rattle.lower_trace.proofs.Kept.{Reached}
use Rattle.lower_trace.proofs.Leaving.{IsResumable}
use Rattle.lower_trace.proofs.Loading.{ReachesAll}
use Rattle.lower_trace.proofs.PartsOf.{FocusHas, StackHas, KeepsParts}
use Rattle.lower_trace.proofs.PartsOn.{step_parts, start_parts}
use Rattle.lower_trace.proofs.Returning.{Resumables}
use Rattle.lower_trace.proofs.Scenes.{base_at, frame_small, scene_laws}
use Rattle.lower_trace.proofs.SegmentFrames.{AtFocus, InSegments, StaysIn, stays_in, starts_in}
use Rattle.lower_trace.proofs.Shapes.{AreShaped, body_shaped}
use Rattle.lower_trace.proofs.SureRuns.{IsSure, sure_first, sure_next}
use Rattle.lower_trace.proofs.Surroundings.{mains_wait, others_wait, reaches_all}
use Rattle.lower_trace.proofs.Variables.{joined_bytes}

-- What the handler interrupted isn't the end of a function.
abbrev pub IsHeld : List Pending → Type 0
IsHeld [] = Unit {0}
IsHeld (In e got ∷ k) = IsHeld k
IsHeld (To place ∷ k) = IsHeld k
IsHeld (Doing t stage ∷ k) = IsHeld k
IsHeld (Before ss ∷ k) = IsHeld k
IsHeld (Returns d ∷ k) = IsHeld k
IsHeld (Resumes d x ∷ k) = IsResumable x × IsHeld k

pub record Known (z : Scene) (t : State) : Type 0 where
  pub stands : Stands z.program t
  -- temporary bytes fit into the frames
  pub focus : FocusFits z t.copy t.focus t.stack
  pub stack : StackFits z t.copy t.stack
  -- what is sure of values under way
  pub sure : IsSure z t
  -- what the handler interrupted isn't the end of a function, and no end of one is interrupted
  pub resumable : IsHeld t.stack
  pub quiet : IsResumable t.focus ⊎ (enters (source_in z) t ≡ false)
  -- above the body of a switch wait only the last statements of it
  pub segments : AtFocus t.focus t.stack × InSegments t.stack
  -- what is under way calls what its function calls, and where a constant is waited for, its value comes
  pub parts : FocusHas z.program t.copy t.focus t.stack × StackHas z.program t.copy t.stack
  -- a part that is under way has no more nodes than what waits for it
  pub sized : FocusSized z.program t.copy t.focus t.stack × Sized z.program t.copy t.stack

-- ---- what the handler interrupted
held_below : (k : List Pending) → IsHeld k → IsHeld (below k)
held_below [] r = r
held_below (In e got ∷ k) r = held_below k r
held_below (To place ∷ k) r = held_below k r
held_below (Doing t stage ∷ k) r = held_below k r
held_below (Before ss ∷ k) r = held_below k r
held_below (Returns d ∷ k) r = held_below k r
held_below (Resumes d x ∷ k) r = r

below_held : (k : List Pending) → IsHeld (below k) → IsHeld k
below_held [] r = r
below_held (In e got ∷ k) r = below_held k r
below_held (To place ∷ k) r = below_held k r
below_held (Doing t stage ∷ k) r = below_held k r
below_held (Before ss ∷ k) r = below_held k r
below_held (Returns d ∷ k) r = below_held k r
below_held (Resumes d x ∷ k) r = r

pub unwound_held : (k : List Pending) → IsHeld k → IsHeld (unwound k)
unwound_held [] r = r
unwound_held (In e got ∷ k) r = r
unwound_held (To place ∷ k) r = r
unwound_held (Doing t Turns ∷ k) r = unwound_held k r
unwound_held (Doing t (InArm more) ∷ k) r = unwound_held k r
unwound_held (Doing t _ ∷ k) r = r
unwound_held (Before ss ∷ k) r = unwound_held k r
unwound_held (Returns d ∷ k) r = r
unwound_held (Resumes d x ∷ k) r = r

ending_held : (x : Focus) (k : List Pending) → IsHeld k → IsHeld (ending x k)
ending_held Past k r = r
ending_held (Run (tree.Return None line)) k r = unwound_held k r
ending_held _ k r = tt

-- The handler has results of its own: what it interrupted has another root.
pub resumables_of : (p : Program) (q : Root) (c : CopyOf) (k : List Pending) → (c.root ≡ q) ⊎ (c.root ≡ Main) → StackStands p c k → IsHeld k → Resumables q k
resumables_of p q c [] own st r = tt
resumables_of p q c (In e got ∷ k) own st r = resumables_of p q c k own st.3 r
resumables_of p q c (To place ∷ k) own st r = resumables_of p q c k own st.2 r
resumables_of p q c (Doing t stage ∷ k) own st r = resumables_of p q c k own st.3 r
resumables_of p q c (Before ss ∷ k) own st r = resumables_of p q c k own st.2 r
resumables_of p q c (Returns d ∷ k) own st r = resumables_of p q d k (⊎_elim (λ e. inl (sym st.1 ∙ e)) (λ e. inr (sym st.1 ∙ e)) own) st.3 r
resumables_of p q c (Resumes d x ∷ k) own st r =
    let isr : c.root ≡ Isr = ap (λ y. y.root) st.2.2 in
    let other : same_root d.root q ≡ false =
    ⊎_elim (λ e. ap (λ y. same_root y q) st.1 ∙ ap (same_root Main) (sym e ∙ isr)) (λ e. absurd (let no : Main ≡ Isr = sym e ∙ isr in cc)) own in
    (r.0, other, resumables_of p q d k (inr st.1) st.4 r.1)

pub resumables : (z : Scene) (t : State) → Known z t → Resumables t.copy.root t.stack
resumables z t k = resumables_of z.program t.copy.root t.copy t.stack (inl refl) k.stands.stack k.resumable

record IsResumed (k : List Pending) : Type 0 where
  copy : CopyOf
  focus : Focus
  rest : List Pending
  is : k ≡ Resumes copy focus ∷ rest

is_resumed : (k : List Pending) → resumes k ≡ true → IsResumed k
is_resumed [] e = absurd (cc)
is_resumed (In x got ∷ k) e = absurd (cc)
is_resumed (To place ∷ k) e = absurd (cc)
is_resumed (Doing t stage ∷ k) e = absurd (cc)
is_resumed (Before ss ∷ k) e = absurd (cc)
is_resumed (Returns d ∷ k) e = absurd (cc)
is_resumed (Resumes d x ∷ k) e = record { copy = d; focus = x; rest = k; is = refl }

-- the handler begins with its body
abbrev focus_in : Outcome → Focus
focus_in (Went u event) = u.focus
focus_in (Undefined kind line) = Past
focus_in Idle = Past
focus_in Lost = Past

module _ (z : Scene) where
  entered_focus : (due : Bool) (handler : Option ℕ) (x : Focus) (k : List Pending) (c : CopyOf) (m : source.Memory) (w : World Byte) (u : State) (event : Option (Happening Byte)) → (if due then interrupted (source_in z) handler x k c m w else act (source_in z) x k c m w) ≡ Went u event → (due && is_some_line handler) ≡ true → IsResumable u.focus
  entered_focus true (Some h) x k c m w u event e i = let q : Past ≡ u.focus = ap focus_in e in subst IsResumable q tt
  entered_focus true None x k c m w u event e i = absurd (cc)
  entered_focus false (Some h) x k c m w u event e i = absurd (cc)
  entered_focus false None x k c m w u event e i = absurd (cc)

-- ---- variables take no more bytes than they have
beyond_most : (b n : ℕ) → beyond b n ≤ b + n
unfolding beyond
beyond_most b n = grind (arith, common_steps)

end_higher : (sizes : List ℕ) (a b : ℕ) (vs : List VariableTree) → a ≤ b → end_from sizes a vs ≤ b + variables_bytes sizes vs
end_higher sizes a b [] le = omega arith
end_higher sizes a b (v ∷ vs) le =
    let m = beyond_most a (type_bytes sizes v.ty.ty) in
    let r = end_higher sizes (beyond a (type_bytes sizes v.ty.ty)) (b + type_bytes sizes v.ty.ty) vs (omega arith) in
    omega arith

module _ (z : Scene) (given : IsLowerable z.program z.copies) (input : All (λ byte. byte < 256) z.outside.input) where
  pub proper : IsProper z.program
  proper = record { sound = given.sound; roots = given.roots; numbers = given.numbers }

  pub small : (c : CopyOf) → IsReached z.program c → frame_of z c ≤ 96
  small c r = frame_small z given c r

  pub low : (c : CopyOf) → IsReached z.program c → (ground_in z c).base ≤ frame_of z c
  low c r =
      let f = function_at z.program c.function in
      let b = base_at z given c r in
      let j = joined_bytes z.program.sizes f.params f.locals in
      omega arith

  pub lowest : (c : CopyOf) → IsReached z.program c → (ground_in z c).base ≤ 96
  lowest c r = let a = low c r in let b = small c r in omega arith

  bodies : (c : CopyOf) → ((ground_in z c).base + statements_room z.program.sizes (function_at z.program c.function).body ≤ frame_of z c) × AreShaped (function_at z.program c.function).body
  unfolding ground_in
  bodies c =
      let f = function_at z.program c.function in
      let s = z.program.sizes in
      let a = end_higher s 0 0 f.params (omega arith) in
      let b = end_higher s (end_from s 0 f.params) (0 + variables_bytes s f.params) f.locals a in
      (omega arith, body_shaped z.program given.sound given.numbers c.function)

  -- ---- the run
  pub known_first : Known z (start (source_in z))
  unfolding start
  known_first = record {
    stands = starts (source_in z) proper;
    focus = tt;
    stack = (bodies _, tt);
    sure = sure_first z given.sound;
    resumable = tt;
    quiet = inl tt;
    segments = starts_in (source_in z);
    parts = start_parts (source_in z);
    sized = (tt, (omega arith, tt));
  }

  both_fit : (u : State) (event : Option (Happening Byte)) → KeepsFits z (Went u event) → FocusFits z u.copy u.focus u.stack × StackFits z u.copy u.stack
  both_fit u None h = h
  both_fit u (Some event) h = (h.0, h.1)

  fits_next : (t u : State) (event : Option (Happening Byte)) → Known z t → step (source_in z) t ≡ Went u event → KeepsFits z (Went u event)
  fits_next t u event k e = subst (KeepsFits z) e (step_fits z small bodies t k.stands k.focus k.stack)

  held_next : (t u : State) (event : Option (Happening Byte)) → Known z t → step (source_in z) t ≡ Went u event → IsHeld u.stack
  held_next t u event k e =
      ⊎_elim
      (λ inside.
      let kept = (entry_keeps (source_in z) t u event e inside).2 in
      below_held u.stack (subst IsHeld (sym kept)
      (⊎_elim (λ r. r) (λ none. absurd (let q : true ≡ false = sym inside ∙ none in cc)) k.quiet, k.resumable)))
      (λ outside.
      ⊎_elim
      (λ leaves.
      let r = is_resumed (ending t.focus t.stack) leaves in
      let on = (leave_goes_on (source_in z) t u event r.copy r.focus r.rest e outside r.is).1 in
      subst (λ (s : State). IsHeld s.stack) (sym on) (subst IsHeld r.is (ending_held t.focus t.stack k.resumable)).1)
      (λ stays. below_held u.stack (subst IsHeld (sym (below_stays (source_in z) t u event e outside stays)) (held_below t.stack k.resumable)))
      (bool_cases (leaves_handler t)))
      (bool_cases (enters (source_in z) t))

  quiet_next : (t u : State) (event : Option (Happening Byte)) → Known z t → step (source_in z) t ≡ Went u event → KeepsFits z (Went u event) → IsResumable u.focus ⊎ (enters (source_in z) u ≡ false)
  unfolding step enters
  quiet_next t u (Some event) k e h = inl h.2
  quiet_next t u None k e h =
      ⊎_elim
      (λ leaves.
      ⊎_elim
      (λ inside. inl (entered_focus z (is_due (arrived z.outside t.world)) (handler_in z.program) t.focus t.stack t.copy t.memory (arrived z.outside t.world) u None e inside))
      (λ outside.
      let r = is_resumed (ending t.focus t.stack) leaves in
      let on = (leave_goes_on (source_in z) t u None r.copy r.focus r.rest e outside r.is).1 in
      inl (subst (λ (s : State). IsResumable s.focus) (sym on) (subst IsHeld r.is (ending_held t.focus t.stack k.resumable)).0))
      (bool_cases (enters (source_in z) t)))
      (λ stays. inr (entry_is_behind (source_in z) t u None e refl stays))
      (bool_cases (leaves_handler t))

  pub known_next : (t u : State) (event : Option (Happening Byte)) → Known z t → step (source_in z) t ≡ Went u event → Known z u
  known_next t u event k e =
      let h = fits_next t u event k e in
      let f = both_fit u event h in
      record {
        stands = subst (Keeps z.program) e (steps (source_in z) proper input t k.stands);
        focus = f.0;
        stack = f.1;
        sure = sure_next z given.sound t u event k.stands k.focus k.stack k.sure e;
        resumable = held_next t u event k e;
        quiet = quiet_next t u event k e h;
        segments = subst StaysIn e (stays_in (source_in z) t k.segments.0 k.segments.1);
        parts = subst (KeepsParts z.program) e (step_parts (source_in z) t k.stands k.parts.0 k.parts.1);
        sized = subst (KeepsSize z.program) e (step_size (source_in z) t k.stands k.sized.0 k.sized.1);
      }

  -- ---- what the laws ask of the stack
  pub around : (t : State) → Known z t → Around z t.copy t.stack
  around t k =
      let s = k.stands in
      record {
        reached = s.reached;
        apart = others_wait z (scene_laws z given) t.copy t.copy t.stack refl s.reached s.stack (distinct z.program given.acyclic t s).0;
        mains = mains_wait z.program t.copy t.stack s.stack;
        piled = piled z t.copy (small t.copy s.reached) t.stack s.stack k.stack;
      }

  pub reached_below : (t : State) → Known z t → Reached z (ground_in z t.copy) t.stack
  reached_below t k = reached z small lowest t.copy t.stack k.stands.reached k.stands.stack k.stack

  pub reaches : (t : State) → Known z t → ReachesAll z t.copy t.stack
  reaches t k = reaches_all z (scene_laws z given) t.copy t.stack k.stands.stack

  pub front : (t : State) → Known z t → base (ground_in z t.copy) t.stack ≤ 96
  front t k = base_low z t.copy (small t.copy k.stands.reached) t.stack (lowest t.copy k.stands.reached) k.stands.stack k.stack
