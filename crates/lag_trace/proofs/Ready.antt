-- What a state of a run of an accepted program has, so that its pace is kept: a mark makes room for as many steps as a node may have, for each node.
use Rattle.std.proofs.Common.{◌≡◌, ℕ, ◌+◌, ◌*◌, ◌<◌, ◌≤◌, true, false, List, ◌∷◌, length, Option, Some, None, refl, arith}
use Rattle.std.specs.List.{All}
use Rattle.std.specs.Prelude.{slice_get}
use Rattle.c_typed.specs.Room.{variables_bytes}
use Rattle.c_typed.specs.TreeNodes.{nodes_of_body, nodes_of}
use Rattle.c_typed.specs.Trees as tree
use Rattle.c_typed.specs.Trees.{VariableTree, Program}
use Rattle.pic_world.specs.declared.Root.TheVariants.{Isr}
use Rattle.src_rules.proofs.Rooms.{Sized}
use Rattle.src_rules.proofs.Starts.{sound_runs}
use Rattle.src_rules.proofs.Stepping.{called_reached}
use Rattle.src_rules.specs.Parts.{IsRunnable, local_bytes}
use Rattle.src_rules.specs.Standing.{IsReached, listed, leaves, repeats, FocusStands, StackStands}
use Rattle.src_rules.specs.State.{State}
use Rattle.src_rules.specs.Step.{copy_of, start}
use Rattle.src_values.specs.Control as control
use Rattle.src_values.specs.Control.{Focus, Got, Passed, Stage, Turns, Pending, In, To, Doing, Before, Returns, Resumes}
use Rattle.src_values.specs.Memory.{Setting}
use Rattle.src_values.specs.Objects.{function_at, variables_of, bytes_of_variable, object_bytes}
use Rattle.src_values.specs.declared.objects.CopyOf.{CopyOf}
use Rattle.lower_trace.specs.Lowering.{IsLowerable}
use Rattle.lower_trace.proofs.BoundLowers.{IsSpanned}
use Rattle.lower_trace.proofs.CodeLeft.{Scene, source_in}
use Rattle.lower_trace.proofs.Fitting.{StackFits}
use Rattle.lower_trace.proofs.Known.{Known, known_first, lowest}
use Rattle.lower_trace.proofs.LagPace.{bodies_small}
use Rattle.lower_trace.proofs.LagStatements.{cap_small}
use Rattle.lower_trace.proofs.LocalLoads.{span_below}
use Rattle.lower_trace.proofs.Scenes.{base_at, scene_laws}
use Rattle.lower_trace.proofs.Spans.{locals_in, Spans}
use Rattle.lower_trace.proofs.Variables.{in_all, joined_bytes}
use Rattle.lower_trace.proofs.WordsTogether.{body_small}
use Rattle.lag_trace.specs.Laws.{node_steps}
use Rattle.lag_trace.proofs.Ahead.{statements_ahead}
use Rattle.lag_trace.proofs.Bytes.{HasFewBytes}
use Rattle.lag_trace.proofs.Few.{few_statements, few_turn}
use Rattle.lag_trace.proofs.Pace.{IsReady, left, few_left}
use Rattle.lag_trace.proofs.Statements.{EndsTested, IsShort, IsShortCall}
use Rattle.lag_trace.proofs.Steps.{IsFit, some_arm}

variable_by : (q : List ℕ) (vs : List VariableTree) (n : ℕ) (o : Option VariableTree) → slice_get vs n ≡ o → bytes_of_variable q o ≤ variables_bytes q vs
variable_by q vs n None e = omega arith
variable_by q vs n (Some v) e = let a = in_all q vs n v e in omega arith

-- where a turn of a loop ends the loop has its condition
ends_tested : (z : Scene) (c : CopyOf) (k : List Pending) → StackFits z c k → EndsTested k
ends_tested z c (Doing (tree.Loop shape first condition step body line) Turns ∷ k) h = h.0.1.2
ends_tested z c (Doing _ _ ∷ k) h = tt
ends_tested z c _ h = tt

module _ (z : Scene) (given : IsLowerable z.program z.copies) (input : All (λ byte. byte < 256) z.outside.input) where
  abbrev s : Setting
  s = source_in z

  abbrev p : Program
  p = z.program

  abbrev q : List ℕ
  q = z.program.sizes

  abbrev pub room : ℕ
  room = node_steps * nodes_of z.program

  -- ---- variables
  variables_few : (c : CopyOf) → IsReached p c → variables_bytes q (variables_of (function_at p c.function)) ≤ 96
  variables_few c r = let b = base_at z given c r in let l = lowest z given input c r in omega arith

  few_bytes : (c : CopyOf) → IsReached p c → HasFewBytes s c
  unfolding object_bytes
  few_bytes c r local =
      let f = function_at p c.function in
      let a = variables_few c r in
      let b = variable_by q (variables_of f) (length f.params + local) (slice_get (variables_of f) (length f.params + local)) refl in
      omega arith

  few_local : (c : CopyOf) → IsReached p c → (local : ℕ) → local_bytes p c.function local ≤ 96
  few_local c r local =
      let f = function_at p c.function in
      let a = variables_few c r in
      let j = joined_bytes q f.params f.locals in
      let b = variable_by q f.locals local (slice_get f.locals local) refl in
      omega arith

  -- ---- functions and loops
  some_functions : 0 < length p.functions
  unfolding start
  some_functions = let k = known_first z given input in let there = k.stands.reached.there in omega arith

  bodies : (f : ℕ) → 1 + nodes_of_body (function_at p f).body ≤ nodes_of p
  bodies f = bodies_small p some_functions f

  runs : IsRunnable p
  runs = sound_runs p given.sound given.roots given.numbers

  body_short : (c : CopyOf) → IsReached p c → statements_ahead q (function_at p c.function).body + 2 ≤ room
  body_short c r =
      let w = body_small z given c r in
      let n = bodies c.function in
      let f = few_statements p c.function (locals_in p c) (few_local c r) (function_at p c.function).body true false false (runs.bodies c.function r.there) w in
      omega arith

  loop_short : (k : List Pending) (c : CopyOf) → IsReached p c → StackStands p c k → Sized p c k → Spans p c k → IsShort q room k
  loop_short (Doing (tree.Loop shape first condition step body line) stage ∷ k) c r st z' sp =
      let w = body_small z given c r in
      let a = span_below p k c st.3 sp.2 in
      let b = sp.0 in
      let n = cap_small p (nodes_of p) bodies k c z'.2 in
      let m = z'.0 in
      let f = few_turn p c.function (locals_in p c) (few_local c r) shape first condition step body line (listed k) (leaves k) (repeats k) st.0 (omega arith) in
      omega arith
  loop_short (Doing _ _ ∷ k) c r st z' sp = tt
  loop_short _ c r st z' sp = tt

  call_short : (k : List Pending) (c : CopyOf) → IsReached p c → StackStands p c k → IsShortCall q p room k
  call_short (In (tree.Call f arguments ty line) (Passed values) ∷ k) c r st = body_short (copy_of c.root f) (called_reached p c f r st.0.0 st.0.1)
  call_short (In _ _ ∷ k) c r st = tt
  call_short _ c r st = tt

  fit_by : (x : Focus) (k : List Pending) (c : CopyOf) → IsReached p c → FocusStands p c x k → StackStands p c k → StackFits z c k → IsFit q p room x k
  fit_by (control.Run t) k c r f st h = some_arm p c.function (listed k) (leaves k) (repeats k) t f.0
  fit_by control.Past k c r f st h = ends_tested z c k h
  fit_by control.Calls k c r f st h = call_short k c r st
  fit_by _ k c r f st h = tt

  -- ---- each state
  pub ready : (t : State) → Known z t → IsSpanned z t → IsReady s room t
  ready t k sp =
      let st = k.stands in
      record {
        fit = fit_by t.focus t.stack t.copy st.reached st.focus st.stack k.stack;
        few = few_bytes t.copy st.reached;
        short = loop_short t.stack t.copy st.reached st.stack k.sized.1 sp.1;
        handler = λ h some. body_short (copy_of Isr h) ((scene_laws z given).handles h some).0;
      }

  pub few_first : left s (start s) + 1 ≤ room
  unfolding start
  few_first = few_left s room (body_short (start s).copy (known_first z given input).stands.reached)
