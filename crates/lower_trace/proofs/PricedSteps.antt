-- The costs behind each micro-step, from its law, and from how many steps may be counted before byte code costs something.
use Rattle.std.proofs.Common.{◌≡◌, ℕ, ◌+◌, ◌-◌, ◌*◌, ◌<◌, ◌≤◌, ◌⊎◌, inl, inr, Bool, true, false, ◌||◌, List, [], ◌∷◌, Option, refl, sym, ap, ◌∙◌, ⊎_elim, arith}
use Rattle.std.proofs.lemmas.Bool.{false≢true, or_cases}
use Rattle.std.specs.List.{All}
use Rattle.c_typed.specs.TreeNodes.{nodes_of}
use Rattle.c_typed.specs.Trees as tree
use Rattle.c_typed.specs.Trees.{Arms, Program}
use Rattle.c_typed.specs.Words.{arms_words, statement_words}
use Rattle.core_code.specs.Machine.{Machine}
use Rattle.pic_world.specs.World.{Happening}
use Rattle.src_rules.specs.Runs.{is_idle, one_if}
use Rattle.src_rules.specs.Standing.{IsReached, StackStands}
use Rattle.src_rules.specs.State.{State, Went}
use Rattle.src_rules.specs.Step.{counts, enters, start, step}
use Rattle.src_values.specs.Control as control
use Rattle.src_values.specs.Control.{Focus, Pending, In, To, Doing, Before, Returns, Resumes}
use Rattle.src_values.specs.declared.objects.Byte.{Byte}
use Rattle.src_values.specs.declared.objects.CopyOf.{CopyOf}
use Rattle.lower_trace.specs.Lowering.{IsLowerable}
use Rattle.lower_trace.proofs.BoundLowers.{begins_body, IsSpanned, Priced, PricedStep}
use Rattle.lower_trace.proofs.CodeLeft.{Scene, arm_count, source_in}
use Rattle.lower_trace.proofs.Known.{Known}
use Rattle.lower_trace.proofs.LedSteps.{NodeLaws, Relates, step_at_least, step_led}
use Rattle.lower_trace.proofs.LocalLoads.{span_below, tests}
use Rattle.lower_trace.proofs.Prices.{call_room}
use Rattle.lower_trace.proofs.Spans.{Spans, body_words, locals_in}
use Rattle.lower_trace.proofs.StepCosts.{brief_call, brief_entry, cheap, dear, little}
use Rattle.lower_trace.proofs.StepPrices.{FewArms}
use Rattle.lower_trace.proofs.UndersKept.{is_calls}
use Rattle.lower_trace.proofs.WordsTogether.{body_small}

-- The chain of an `if` that is under way lies in the body of its function.
pub few_arms : (p : Program) (k : List Pending) (c : CopyOf) → body_words p c ≤ 2048 → StackStands p c k → Spans p c k → FewArms k
unfolding statement_words
few_arms p (Doing (tree.If chain otherwise line) stage ∷ k) c small st z =
    let a = span_below p k c st.3 z.2 in
    let b = z.0 in
    let t = tests p.sizes (locals_in p c) chain in
    omega arith
few_arms p _ c small st z = tt

calls_is : (x : Focus) → is_calls x ≡ true → x ≡ control.Calls
calls_is control.Calls e = refl
calls_is _ e = absurd (false≢true e)

more_least : (x l u v n : ℕ) → l ≤ x → u ≤ v + l * n → u ≤ v + x * n
more_least x l u v n le h = let q : x ≡ l + (x - l) = omega arith in let t = ap (λ k. k * n) q in omega arith

-- How many steps may be counted before byte code costs something: one that counts takes one of them, and an instruction makes room for as many as
-- the program has nodes.
pub record Paces (z : Scene) (left : State → ℕ) : Type 0 where
  pub steps : (t u : State) (event : Option (Happening Byte)) → Known z t → step (source_in z) t ≡ Went u event
      → (left u + one_if (counts (source_in z) t) ≤ left t + step_at_least z t * nodes_of z.program) ⊎ (is_idle (step (source_in z) u) ≡ true)
  pub few : left (start (source_in z)) < nodes_of z.program

module _ (z : Scene) (given : IsLowerable z.program z.copies) (input : All (λ byte. byte < 256) z.outside.input) (nodes : NodeLaws z) (left : State → ℕ) (paces : Paces z left) where
  priced_step : (t : State) (c : Machine) (u : State) (event : Option (Happening Byte)) → Known z t → IsSpanned z t → Relates z t c → step (source_in z) t ≡ Went u event → PricedStep z left t c u
  priced_step t c u event known spanned relates e =
      let s = step_led z given input nodes t c u event known relates e in
      let low = s.low in
      let stands = known.stands in
      let few = few_arms z.program t.stack t.copy (body_small z given t.copy stands.reached) stands.stack spanned.1 in
      record {
        most = s.most;
        least = s.least;
        comes = s.comes;
        cheap = λ q. let m = cheap z given input t q in omega arith;
        little = λ q. let m = little z given input t known few q in omega arith;
        dear = λ q. let m = dear z given input t known q in omega arith;
        brief = λ q.
            ⊎_elim
            (λ entry. let m = brief_entry z given input t entry in omega arith)
            (λ call. let m = brief_call z given input t (calls_is t.focus call) in omega arith)
            (or_cases (enters (source_in z) t) (is_calls t.focus) q);
        pace = ⊎_elim (λ h. inl (more_least s.least (step_at_least z t) _ _ (nodes_of z.program) s.high h)) (λ r. inr r) (paces.steps t u event known e);
      }

  pub priced : Priced z left
  priced = record { steps = priced_step; few = paces.few }
