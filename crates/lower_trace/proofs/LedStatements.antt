-- The laws of statements that begin and of what follows them, put together.
use Rattle.std.proofs.Common.{◌≡◌, ◌-◌, ◌*◌, ◌<◌, ◌≤◌, false, List, [], ◌∷◌, Option, Some, None, refl, arith}
use Rattle.std.specs.List.{All}
use Rattle.c_typed.specs.Room.{room}
use Rattle.c_typed.specs.Trees as tree
use Rattle.c_typed.specs.Trees.{Expression, Place, Statement}
use Rattle.c_typed.specs.declared.statement.LoopForm.{LoopForm}
use Rattle.c_typed.specs.declared.statement.LoopForm.TheVariants.{While, Do, For}
use Rattle.core_code.specs.Machine.{Machine}
use Rattle.pic_world.specs.World.{World, arrived, is_due}
use Rattle.src_rules.specs.State.{state}
use Rattle.src_rules.specs.Statements.{begin, proceed, continue_at, unwound}
use Rattle.src_rules.specs.Step.{act, step}
use Rattle.src_values.specs.Control.{Eval, Find, Run, Past, Turns, InArm, Pending, In, To, Doing, Before, Returns, Resumes}
use Rattle.src_values.specs.Memory as source
use Rattle.src_values.specs.declared.objects.Byte.{Byte}
use Rattle.src_values.specs.declared.objects.CopyOf.{CopyOf}
use Rattle.lower_trace.specs.Lowering.{IsLowerable}
use Rattle.lower_trace.proofs.Beginnings.{HasRoom, eval_goes, eval_most}
use Rattle.lower_trace.proofs.CodeLeft.{Scene, arm_count, switch_on}
use Rattle.lower_trace.proofs.Comparing.{begin_switch}
use Rattle.lower_trace.proofs.Ends.{Again, body_past, before_past, arm_past, begin_leave, begin_break, begin_continue, turn_repeats, switch_past}
use Rattle.lower_trace.proofs.Falling.{falling, led_goes}
use Rattle.lower_trace.proofs.Flow.{begin_block, begin_empty, begin_expression, begin_declare, begin_scalar, begin_return, begin_if}
use Rattle.lower_trace.proofs.Known.{Known, IsHeld, around}
use Rattle.lower_trace.proofs.Leads.{Led, Law, IsSilent, led_by, on_led}
use Rattle.lower_trace.proofs.Leaving.{Lasts, end_least}
use Rattle.lower_trace.proofs.Listing.{begin_list}
use Rattle.lower_trace.proofs.LocalPlaces.{listed_of}
use Rattle.lower_trace.proofs.Places.{find_goes}
use Rattle.lower_trace.proofs.Prices as price
use Rattle.lower_trace.proofs.Prices.{turned_most, turned_least}
use Rattle.lower_trace.proofs.Rounds.{begin_loop, turn_ends, turn_least, turned_cost}
use Rattle.lower_trace.proofs.Scenes.{frame_is, scene_laws}
use Rattle.lower_trace.proofs.SegmentFrames.{break_inside, continue_inside}

-- ---- the end of bodies
lasts_of : (k : List Pending) → IsHeld k → Lasts k
lasts_of [] r = tt
lasts_of (In e got ∷ k) r = tt
lasts_of (To place ∷ k) r = tt
lasts_of (Doing t stage ∷ k) r = tt
lasts_of (Before ss ∷ k) r = tt
lasts_of (Returns d ∷ k) r = tt
lasts_of (Resumes d x ∷ k) r = r.0

lasts_unwound : (k : List Pending) → IsHeld k → Lasts (unwound k)
lasts_unwound [] r = tt
lasts_unwound (In e got ∷ k) r = tt
lasts_unwound (To place ∷ k) r = tt
lasts_unwound (Doing t Turns ∷ k) r = lasts_unwound k r
lasts_unwound (Doing t (InArm more) ∷ k) r = lasts_unwound k r
lasts_unwound (Doing t _ ∷ k) r = tt
lasts_unwound (Before ss ∷ k) r = lasts_unwound k r
lasts_unwound (Returns d ∷ k) r = tt
lasts_unwound (Resumes d x ∷ k) r = r.0

-- ---- prices
eval_low : (e : Expression) → eval_most e ≤ price.eval_most e
eval_low (tree.Constant q line) = omega arith
eval_low _ = omega arith

turned_low : (shape : LoopForm) (step : Option Expression) → turned_cost shape step ≤ turned_most shape step
turned_low While step = omega arith
turned_low Do None = omega arith
turned_low Do (Some e) = omega arith
turned_low For None = omega arith
turned_low For (Some e) = omega arith

turned_high : (shape : LoopForm) (step : Option Expression) → turned_least shape step ≤ turn_least shape step
turned_high While step = omega arith
turned_high Do None = omega arith
turned_high Do (Some e) = omega arith
turned_high For None = omega arith
turned_high For (Some e) = omega arith

module _ (z : Scene) (given : IsLowerable z.program z.copies) (input : All (λ byte. byte < 256) z.outside.input) where
  -- ---- expressions and places begin
  constant_room : (e : Expression) (k : List Pending) (cp : CopyOf) (l : source.Memory) (w : World Byte) → Known z (state cp (Eval e) k l w) → HasRoom z cp k e
  unfolding room
  constant_room (tree.Constant q line) k cp l w known = let f = frame_is z given cp known.stands.reached in let h = known.focus in omega arith
  constant_room (tree.Read place ty line) k cp l w known = tt
  constant_room (tree.Address place ty line) k cp l w known = tt
  constant_room (tree.Convert operand ty line) k cp l w known = tt
  constant_room (tree.Cast operand ty line) k cp l w known = tt
  constant_room (tree.Unary op operand ty line) k cp l w known = tt
  constant_room (tree.Binary op left right ty line) k cp l w known = tt
  constant_room (tree.Offset op left right size ty line) k cp l w known = tt
  constant_room (tree.Difference left right size line) k cp l w known = tt
  constant_room (tree.Logical op left right line) k cp l w known = tt
  constant_room (tree.Conditional condition chosen otherwise ty line) k cp l w known = tt
  constant_room (tree.Comma left right ty line) k cp l w known = tt
  constant_room (tree.Assign place value ty line) k cp l w known = tt
  constant_room (tree.StructAssign place from size line) k cp l w known = tt
  constant_room (tree.Update op place value operation size ty line) k cp l w known = tt
  constant_room (tree.Step op place operation size ty line) k cp l w known = tt
  constant_room (tree.Call function arguments ty line) k cp l w known = tt

  pub evals : (e : Expression) (k : List Pending) → Law z (Eval e) k
  unfolding act
  evals e k cp l w c known due h = led_by z (Eval e) k (eval_most e) 0 c _ (eval_low e) (omega arith) (eval_goes z (scene_laws z given) e k cp l w c (around z given input (state cp (Eval e) k l w) known) (constant_room e k cp l w known) due h)

  pub finds : (place : Place) (k : List Pending) → Law z (Find place) k
  unfolding act
  finds place k cp l w c known due h = let f = known.stands.focus in led_by z (Find place) k 0 0 c _ (omega arith) (omega arith) (find_goes z (scene_laws z given) place k cp l w c (around z given input (state cp (Find place) k l w) known) f.0 f.1 h)

  -- ---- statements begin
  -- a `continue` makes no event
  silent : (k : List Pending) (cp : CopyOf) (l : source.Memory) (w : World Byte) → IsSilent (continue_at k cp l w)
  silent [] cp l w = tt
  silent (In e got ∷ k) cp l w = tt
  silent (To place ∷ k) cp l w = tt
  silent (Doing (tree.Loop shape begin condition step body line) Turns ∷ k) cp l w = refl
  silent (Doing (tree.Switch e cases default ss line) Turns ∷ k) cp l w = silent k cp l w
  silent (Doing t (InArm more) ∷ k) cp l w = silent k cp l w
  silent (Doing _ _ ∷ k) cp l w = tt
  silent (Before ss ∷ k) cp l w = silent k cp l w
  silent (Returns d ∷ k) cp l w = tt
  silent (Resumes d x ∷ k) cp l w = tt

  pub runs_on : (t : Statement) (k : List Pending) → Law z (Run t) k
  unfolding act
  runs_on (tree.Block ss line) k cp l w c known due h = led_by z (Run (tree.Block ss line)) k 0 0 c _ (omega arith) (omega arith) (begin_block z ss line k cp l w c known.segments.0 h)
  runs_on (tree.Empty line) k cp l w c known due h = led_by z (Run (tree.Empty line)) k 0 0 c _ (omega arith) (omega arith) (begin_empty z line k cp l w c h)
  runs_on (tree.Expr e line) k cp l w c known due h = led_by z (Run (tree.Expr e line)) k 0 0 c _ (omega arith) (omega arith) (begin_expression z e line k cp l w c h)
  runs_on (tree.Declare local line) k cp l w c known due h = led_by z (Run (tree.Declare local line)) k 0 0 c _ (omega arith) (omega arith) (begin_declare z local line k cp l w c h)
  runs_on (tree.InitScalar local e line) k cp l w c known due h = led_by z (Run (tree.InitScalar local e line)) k 0 0 c _ (omega arith) (omega arith) (begin_scalar z local e line k cp l w c h)
  runs_on (tree.InitList local all line) k cp l w c known due h = led_by z (Run (tree.InitList local all line)) k 0 0 c _ (omega arith) (omega arith) (begin_list z local all line k cp (listed_of z (scene_laws z given) cp local all known.stands.reached known.stands.focus.0.1).size l w c h)
  runs_on (tree.If chain otherwise line) k cp l w c known due h = led_by z (Run (tree.If chain otherwise line)) k 0 0 c _ (omega arith) (omega arith) (begin_if z chain otherwise line k cp l w c h)
  runs_on (tree.Loop shape begins condition step body line) k cp l w c known due h = led_by z (Run (tree.Loop shape begins condition step body line)) k 0 0 c _ (omega arith) (omega arith) (begin_loop z shape begins condition step body line k cp l w c known.focus.1.0 due h)
  runs_on (tree.Switch e cases default ss line) k cp l w c known due h = led_by z (Run (tree.Switch e cases default ss line)) k 0 0 c _ (omega arith) (omega arith) (begin_switch z e cases default ss line k cp l w c h)
  runs_on (tree.Break line) k cp l w c known due h =
      let f = known.stands.focus in
      led_by z (Run (tree.Break line)) k 4 0 c _ (omega arith) (omega arith) (begin_break z line k cp l w c (break_inside z.program cp k f.0 f.1 known.stands.stack known.segments.1) known.segments.0 due h)
  runs_on (tree.Continue line) k cp l w c known due h =
      let f = known.stands.focus in
      on_led z (continue_at k cp l (arrived z.outside w)) 0 0 (Run (tree.Continue line)) k cp l w c refl (silent k cp l (arrived z.outside w)) refl due (omega arith) (omega arith)
      (begin_continue z line k cp l w c (continue_inside z.program cp k f.0 f.1 known.stands.stack known.segments.1) known.segments.0 h)
  runs_on (tree.Return None line) k cp l w c known due h =
      led_by z (Run (tree.Return None line)) k 104 (end_least (unwound k)) c _ (omega arith) (omega arith) (begin_leave z line k cp l w c known.stands.focus.1 (around z given input (state cp (Run (tree.Return None line)) k l w) known).piled (lasts_unwound k known.resumable) due h)
  runs_on (tree.Return (Some e) line) k cp l w c known due h = led_by z (Run (tree.Return (Some e) line)) k 0 0 c _ (omega arith) (omega arith) (begin_return z e line k cp l w c h)

  -- ---- what follows a statement
  pub goes_past : (k : List Pending) → Law z Past k
  unfolding act
  goes_past [] cp l w c known due h = led_by z Past [] 104 0 c _ (omega arith) (omega arith) (body_past z [] cp l w c tt tt due h)
  goes_past (In e got ∷ k) cp l w c known due h = absurd known.stands.focus
  goes_past (To place ∷ k) cp l w c known due h = absurd known.stands.focus
  goes_past (Doing (tree.Loop shape begins condition step body line) Turns ∷ k) cp l w c known due h =
      led_by z Past (Doing (tree.Loop shape begins condition step body line) Turns ∷ k) (turned_cost shape step) (turn_least shape step) c _ (turned_low shape step) (turned_high shape step) (turn_ends z shape begins condition step body line k cp l w c known.stack.0.1.0 due h)
  goes_past (Doing (tree.Switch e cases default ss line) Turns ∷ k) cp l w c known due h = led_by z Past (Doing (tree.Switch e cases default ss line) Turns ∷ k) 4 0 c _ (omega arith) (omega arith) (switch_past z e cases default ss line k cp l w c due h)
  goes_past (Doing (tree.If chain otherwise line) (InArm more) ∷ k) cp l w c known due h = led_by z Past (Doing (tree.If chain otherwise line) (InArm more) ∷ k) (4 * (arm_count chain - arm_count more)) 0 c _ (omega arith) (omega arith) (arm_past z chain otherwise line more k cp l w c due h)
  goes_past (Doing _ _ ∷ k) cp l w c known due h = absurd known.stands.focus
  goes_past (Before ss ∷ k) cp l w c known due h = led_by z Past (Before ss ∷ k) (falling (switch_on k) ss) 0 c _ (omega arith) (omega arith) (before_past z ss k cp l w c known.segments.1.0 due h)
  goes_past (Returns d ∷ k) cp l w c known due h = led_by z Past (Returns d ∷ k) 104 1 c _ (omega arith) (omega arith) (body_past z (Returns d ∷ k) cp l w c tt tt due h)
  goes_past (Resumes d x ∷ k) cp l w c known due h = led_by z Past (Resumes d x ∷ k) 104 1 c _ (omega arith) (omega arith) (body_past z (Resumes d x ∷ k) cp l w c tt known.resumable.0 due h)

  -- behind a `continue` a turn ends by the jump
  pub repeats_past : (k : List Pending) (cp : CopyOf) (l : source.Memory) (w : World Byte) (c : Machine) → Known z (state cp Past k l w) → is_due (arrived z.outside w) ≡ false → Again z cp Past k l w c → Led z Past k c (proceed k cp l (arrived z.outside w))
  repeats_past [] cp l w c known due a = absurd a
  repeats_past (In e got ∷ k) cp l w c known due a = absurd a
  repeats_past (To place ∷ k) cp l w c known due a = absurd a
  repeats_past (Doing (tree.Loop shape begins condition step body line) Turns ∷ k) cp l w c known due a =
      led_by z Past (Doing (tree.Loop shape begins condition step body line) Turns ∷ k) (turned_cost shape step) (turn_least shape step) c _ (turned_low shape step) (turned_high shape step) (turn_repeats z shape begins condition step body line k cp l w c known.stack.0.1.0 due a)
  repeats_past (Doing _ _ ∷ k) cp l w c known due a = absurd a
  repeats_past (Before ss ∷ k) cp l w c known due a = led_by z Past (Before ss ∷ k) 0 0 c _ (omega arith) (omega arith) (led_goes z ss k cp l w c known.segments.1.0 due a)
  repeats_past (Returns d ∷ k) cp l w c known due a = absurd a
  repeats_past (Resumes d x ∷ k) cp l w c known due a = absurd a
