-- One step of both machines.
use Rattle.std.proofs.Common.{◌≡◌, zero, suc, true, List, [], ◌∷◌, refl}
use Rattle.pic_world.specs.World.{Outside, arrived, is_due}
use Rattle.core_code.specs.Bytes.{Held}
use Rattle.core_code.specs.Bytes as bytes
use Rattle.core_code.specs.Machine.{act, operate, core_step}
use Rattle.core_code.specs.Tree as tree
use Rattle.core_code.specs.Tree.{Tree}
use Rattle.core_code.specs.declared.code.Byte.TheVariants.{Device}
use Rattle.narrow_code.specs.Marks.{Numbers, Same, Marks, marked}
use Rattle.narrow_code.specs.Plans as plans
use Rattle.narrow_code.specs.Plans.{Plan, given, made, Narrowing, given_program, made_program, given_setting, made_setting}
use Rattle.narrow_code.specs.Right.{Fits, FitsLeaf, set_mark, IsSound}
use Rattle.narrow_code.specs.Links.{is_lent, reaches_lent}
use Rattle.narrow_code.proofs.Memory.{never, lower, lower_refl}
use Rattle.narrow_code.proofs.Relation.{Job, ToDo, ToPut, ToPutBit, ToPutBack, ToJoin, ToLoad, ToStore, ToRead, ToEnd, ones, others, one_stack, other_stack, SameCounts, Runs, Weak, State, first_machine, second_machine, Stays, Outcome, Rests, if_both}
use Rattle.narrow_code.proofs.Steps.{Scene, loops, go_same, set_holds, put_step, read_step}
use Rattle.narrow_code.proofs.Control.{leave_step, exit_step, again_step, end_step, loop_step, several_step, choice_step, low_choice_step, turned_choice_step, call_step, enter_step}
use Rattle.narrow_code.proofs.Accesses.{copy_step, load_step, load_from_step, store_step, store_to_step, bit_read_step, bit_write_step}
use Rattle.narrow_code.proofs.Values.{address_step, unary_step, convert_step, binary_step}
use Rattle.narrow_code.proofs.Narrow.{narrow_step}

module _ (x : Narrowing) (sound : IsSound x) (o : Outside) (sc : Scene x) where
  module _ (before with : List Tree) (after : Marks) (js : List Job) (same : SameCounts before with) (runs : Weak x.lent sc.p (loops x sound sc) after js) where
    abbrev Both : Tree → Tree → Type 0
    Both t u =
        Outcome x (operate (given_setting x o) before t (ones js) sc.p sc.a (one_stack sc.s) sc.m sc.w) (operate (made_setting x o) with u (others js) sc.p sc.a (other_stack sc.s) sc.l sc.w)

    leaf_step : (t : Tree) → FitsLeaf x.lent sc.p (loops x sound sc) sc.here t after → Both t t
    unfolding operate
    leaf_step (tree.Set to value) fits = put_step x sound sc (set_mark value) (bytes.Number value) (set_holds value) runs.0 js runs.2 to (lower sc.p runs.0 after (marked sc.here to (set_mark value)) runs.1 fits)
    leaf_step (tree.Address to place) fits = address_step x sound sc after js runs to place fits
    leaf_step (tree.Copy to from) fits = copy_step x sound o sc to from after js fits.0 fits.1 runs
    leaf_step (tree.Load to pointer count) fits = load_step x sound o sc to pointer count after js fits.0 fits.1 runs
    leaf_step (tree.Store pointer from count) fits = store_step x sound o sc pointer from count after js fits.0 fits.1 fits.2 runs
    leaf_step (tree.Unary op ty at) fits = unary_step x sound sc after js runs op ty at fits.0 fits.1
    leaf_step (tree.Binary op ty to a b) fits = binary_step x sound sc after js runs before with op ty to a b same fits.0 fits.1 fits.2
    leaf_step (tree.Convert from to at) fits = convert_step x sound sc after js runs from to at fits.0 fits.1
    leaf_step (tree.BitRead to register number) fits = bit_read_step x sound o sc to register number after js fits runs
    leaf_step (tree.BitWrite register number from) fits = bit_write_step x sound o sc register number from after js fits.0 fits.1 runs
    leaf_step (tree.Call d) fits = call_step x sound sc after js runs d fits
    leaf_step tree.Leave fits = leave_step x sound sc.p sc.s sc.known sc.m sc.l sc.w sc.alike sc.stands
    leaf_step (tree.Exit n) fits = exit_step x sound sc.p sc.a sc.here sc.known sc.m sc.l sc.w sc.alike sc.link sc.passes n sc.s fits sc.stands
    leaf_step (tree.Again n) fits = again_step x sound sc.p sc.a sc.here sc.known sc.m sc.l sc.w sc.alike sc.link sc.passes n sc.s fits sc.stands
    leaf_step (tree.Many ts) fits = absurd fits
    leaf_step (tree.If test size first second) fits = absurd fits
    leaf_step (tree.Loop body) fits = absurd fits

    plan_step : (t : Plan) → Fits x.lent sc.p (loops x sound sc) sc.here t after → Both (given t) (made t)
    unfolding operate
    plan_step (plans.Stays t) fits = leaf_step t fits
    plan_step (plans.Narrowed op ty to a b) fits = narrow_step x sound sc after js runs op ty to a b fits before with
    plan_step (plans.Several ts) fits = several_step x sound sc after js runs ts fits
    plan_step (plans.Choice test size plans.Whole first second) fits = choice_step x sound sc after js runs first second fits.1 fits.2 test size fits.0
    plan_step (plans.Choice test zero plans.Low first second) fits = never fits.0
    plan_step (plans.Choice test (suc k) plans.Low first second) fits = low_choice_step x sound sc after js runs first second fits.1 fits.2 test (suc k) fits.0
    plan_step (plans.Choice test zero plans.Turned first second) fits = never fits.0
    plan_step (plans.Choice test (suc k) plans.Turned first second) fits = turned_choice_step x sound sc after js runs first second fits.1 fits.2 test (suc k) fits.0
    plan_step (plans.Repeat front behind body) fits = loop_step x sound sc.p sc.a sc.here sc.known sc.m sc.l sc.w sc.alike sc.link sc.passes front behind after body js sc.s fits runs sc.stands

  pub act_step : (js : List Job) → Runs x.lent sc.p (loops x sound sc) sc.here js → reaches_lent (is_lent x.lent) (ones js) ≡ true
      → Outcome x (act (given_setting x o) (ones js) sc.p sc.a (one_stack sc.s) sc.m sc.w) (act (made_setting x o) (others js) sc.p sc.a (other_stack sc.s) sc.l sc.w)
  unfolding act
  act_step [] runs e = end_step x sound sc.p sc.a sc.here sc.known sc.m sc.l sc.w sc.alike sc.link sc.passes sc.s runs sc.stands
  act_step (ToDo before with t ∷ js) runs e = plan_step before with runs.1 js runs.0 (runs.3, runs.4, runs.5) t runs.2
  act_step (ToPut to held ∷ js) runs e = put_step x sound sc runs.0 held runs.2 runs.1 js runs.4 to runs.3
  act_step (ToPutBit to value ∷ js) runs e = put_step x sound sc Numbers (bytes.Number value) (value, runs.0, refl, refl) runs.1 js runs.3 to runs.2
  act_step (ToPutBack register value ∷ js) runs e = put_step x sound sc Same (bytes.Number value) refl sc.here js runs (Device register) (lower_refl sc.p sc.here)
  act_step (ToJoin ∷ js) runs e = go_same x sound sc sc.here sc.w js (lower_refl sc.p sc.here) runs
  act_step (ToLoad to object offset n ∷ js) runs e = load_from_step x sound o sc to object offset n js e runs
  act_step (ToStore object offset from n ∷ js) runs e = store_to_step x sound o sc object offset from n js e runs
  act_step (ToRead bytes ∷ js) runs e = read_step x sound sc bytes js runs
  act_step (ToEnd ∷ js) runs e = Rests refl refl

module _ (x : Narrowing) (sound : IsSound x) (o : Outside) where
  pub both_step : (t : State x) → Stays x t → reaches_lent (is_lent x.lent) (ones t.jobs) ≡ true → Outcome x (core_step (given_setting x o) (first_machine x t)) (core_step (made_setting x o) (second_machine x t))
  unfolding core_step
  both_step t h e =
      let sc : Scene x = record { p = t.copy; a = t.passing; s = t.holds; m = t.memory; l = t.second; w = arrived o t.world; here = t.here; known = t.known; alike = h.alike; link = h.link; stands = h.stands; passes = h.passes } in
      if_both x (is_due (arrived o t.world)) _ _ _ _ (λ due. enter_step x sound sc t.jobs h.runs x.rest.handler) (λ due. act_step x sound o sc t.jobs h.runs e)
