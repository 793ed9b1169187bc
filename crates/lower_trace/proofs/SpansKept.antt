-- Words are a measure: a part has no more than its node. So what is under way has room at each micro-step.
use Rattle.std.proofs.Common.{refl, sym, subst, ◌≡◌, ℕ, zero, suc, ◌≤◌, Bool, true, false, List, Option, Some, None, arith}
use Rattle.std.proofs.lemmas.Bool.{false≢true}
use Rattle.std.specs.Prelude.{◌*◌, if◌then◌else◌}
use Rattle.c_typed.specs.Trees as tree
use Rattle.c_typed.specs.Trees.{Expression, Place, Statement, Statements, Arm, Arms}
use Rattle.c_typed.specs.Words.{words, statement_words, statements_words, arm_words, arms_words}
use Rattle.pic_world.specs.World.{World, Happening, arrived, is_due}
use Rattle.src_rules.proofs.Holding.{step_fits}
use Rattle.src_rules.proofs.Measures.{Laws, MayRest, part_in, part_to, part_for}
use Rattle.src_rules.specs.Giving.{statements_behind}
use Rattle.src_rules.specs.Standing.{Stands}
use Rattle.src_rules.specs.State.{State, Went, Idle}
use Rattle.src_rules.specs.Step.{act, interrupted, step}
use Rattle.src_values.specs.Control as control
use Rattle.src_values.specs.Control.{Focus, Got, Nothing, Stage, Tests, Picks, AtItem, Pending}
use Rattle.src_values.specs.Counting.{counted_line}
use Rattle.src_values.specs.Memory.{Setting, Memory}
use Rattle.src_values.specs.Objects.{handler_in}
use Rattle.src_values.specs.declared.objects.Byte.{Byte}
use Rattle.src_values.specs.declared.objects.CopyOf.{CopyOf}
use Rattle.lower_trace.proofs.CodeLeft.{arm_count}
use Rattle.lower_trace.proofs.Spans.{locals_in, word_sizes, span_in, span_to, span_for, by_words, measure_in, StageSpans, FocusSpans, Spans, KeepsSpan}
use Rattle.lower_trace.proofs.Stepping.{is_over}

module _ (sizes locals : List ℕ) where
  in_part : (e : Expression) (got : Got) → part_in (word_sizes sizes locals) e got ≤ span_in sizes e got
  in_part (tree.Constant value line) Nothing = omega arith
  in_part e Nothing = omega arith
  in_part _ _ = omega arith

  to_part : (place : Place) → part_to (word_sizes sizes locals) place ≤ span_to sizes place
  to_part (tree.Member whole member offset ty line) = omega arith
  to_part _ = omega arith

  for_part : (t : Statement) (stage : Stage) → StageSpans sizes locals t stage → part_for (word_sizes sizes locals) t stage ≤ span_for sizes locals t stage
  for_part (tree.InitList local all line) (AtItem (tree.Scalar offset e) rest) h = omega arith
  for_part (tree.If chain otherwise line) (Picks (tree.OneArm condition chosen at) more) h = omega arith
  for_part t Tests h = omega arith
  for_part _ _ h = omega arith

  jumps : (n : ℕ) (ss : Statements) → statements_words sizes locals (statements_behind n ss) ≤ statements_words sizes locals ss
  unfolding statement_words
  jumps zero ss = omega arith
  jumps (suc n) tree.NoStatement = omega arith
  jumps (suc n) (tree.AndStatement t ts) = let d = jumps n ts in omega arith

  -- each arm has a test
  tests : (chain : Arms) → 20 * arm_count chain ≤ arms_words sizes locals chain
  unfolding statement_words
  tests tree.NoArm = omega arith
  tests (tree.AndArm (tree.OneArm condition chosen line) more) = let d = tests more in omega arith

  arm_test : (arm : Arm) → 20 ≤ arm_words sizes locals arm
  unfolding statement_words
  arm_test (tree.OneArm condition chosen line) = omega arith

  word_laws : Laws (by_words sizes locals)
  unfolding words statement_words
  word_laws = record {
    in_part = in_part;
    to_part = to_part;
    for_part = for_part;
    any_part = λ e. omega arith;
    comma = λ left right ty line. omega arith;
    block = λ ss line. omega arith;
    next = λ n t ts h. (omega arith, omega arith);
    jumps = jumps;
    item_next = λ item rest. omega arith;
    call_begins = λ g all ty line. omega arith;
    call_part = λ g all ty line values e rest h. (omega arith, omega arith);
    call_next = λ g all ty line values v more h. h;
    call_ends = λ g all ty line values h. tt;
    chain_begins = λ chain. (omega arith, omega arith);
    chain_part = λ chain arm more h. let d = h.0 in let n = h.1 in (omega arith, omega arith);
    chain_next = λ chain arm more h. let d = h.0 in let n = h.1 in let e = arm_test arm in (omega arith, omega arith);
    chosen = λ chain more condition t at line otherwise h. let d = h.0 in let n = h.1 in (omega arith, tt);
    otherwise = λ chain t line some. let d = tests chain in (omega arith, tt);
  }

rests_not : (x : Focus) → is_over x ≡ false → MayRest ⊥ x
rests_not control.Over e = absurd (false≢true (sym e))
rests_not _ e = tt

-- ---- one micro-step
module _ (s : Setting) where
  -- where main hasn't ended there is a step, and what is under way behind it has room
  pub step_span : (t : State) → Stands s.program t → FocusSpans s.program t.copy t.focus t.stack → Spans s.program t.copy t.stack → is_over t.focus ≡ false → KeepsSpan s.program (step s t)
  step_span t st h z q = step_fits s (measure_in s.program) ⊥ (λ c. word_laws s.program.sizes (locals_in s.program c)) t st h z (rests_not t.focus q)

  -- where main has ended only the handler goes on
  over_by : (x : Focus) (k : List Pending) (c : CopyOf) (m : Memory) (w : World Byte) (b : Bool) (o : Option ℕ) (u : State) (event : Option (Happening Byte)) → is_over x ≡ true → Spans s.program c k → (if b then interrupted s o x k c m w else act s x k c m w) ≡ Went u event → FocusSpans s.program u.copy u.focus u.stack × Spans s.program u.copy u.stack
  unfolding act counted_line
  over_by control.Over k c m w true (Some n) u event q z e = subst (KeepsSpan s.program) e (tt, (omega arith, (tt, z)))
  over_by control.Over k c m w true None u event q z e = absurd (cc)
  over_by control.Over k c m w false o u event q z e = absurd (cc)
  over_by _ k c m w b o u event q z e = absurd (false≢true q)

  pub over_span : (t u : State) (event : Option (Happening Byte)) → is_over t.focus ≡ true → Spans s.program t.copy t.stack → step s t ≡ Went u event → FocusSpans s.program u.copy u.focus u.stack × Spans s.program u.copy u.stack
  unfolding step
  over_span t u event q z e = over_by t.focus t.stack t.copy t.memory (arrived s.outside t.world) (is_due (arrived s.outside t.world)) (handler_in s.program) u event q z e

  -- and it rests where none is due
  rest_by : (x : Focus) (k : List Pending) (c : CopyOf) (m : Memory) (w : World Byte) (b : Bool) (o : Option ℕ) → is_over x ≡ true → (if b then interrupted s o x k c m w else act s x k c m w) ≡ Idle → b ≡ false
  unfolding act counted_line
  rest_by control.Over k c m w true (Some n) q e = absurd (cc)
  rest_by control.Over k c m w true None q e = absurd (cc)
  rest_by control.Over k c m w false o q e = refl
  rest_by _ k c m w b o q e = absurd (false≢true q)

  pub rests_free : (t : State) → is_over t.focus ≡ true → step s t ≡ Idle → is_due (arrived s.outside t.world) ≡ false
  unfolding step
  rests_free t q e = rest_by t.focus t.stack t.copy t.memory (arrived s.outside t.world) (is_due (arrived s.outside t.world)) (handler_in s.program) q e
