-- Code that takes no instruction stands for at most as many steps of the source as the program has nodes: from the prices that each micro-step
-- costs at least.
use Rattle.std.proofs.Common.{◌≡◌, ℕ, zero, suc, ◌+◌, ◌-◌, ◌*◌, ◌<◌, ◌≤◌, ◌⊎◌, inl, inr, Bool, true, false, ◌&&◌, if◌then◌else◌, List, [], ◌∷◌, length, Option, Some, None, refl, sym, ap, ◌∙◌, subst, ⊎_elim, arith}
use Rattle.std.proofs.lemmas.Bool.{false≢true, cases_lt}
use Rattle.std.specs.List.{All}
use Rattle.std.specs.Prelude.{nat_lt}
use Rattle.c_typed.specs.TreeNodes.{nodes_of_body, nodes_of}
use Rattle.c_typed.specs.Trees as tree
use Rattle.c_typed.specs.Trees.{Expression, Program}
use Rattle.c_typed.specs.Types.{type_bytes}
use Rattle.c_typed.specs.declared.statement.LoopForm.{LoopForm}
use Rattle.c_typed.specs.declared.statement.LoopForm.TheVariants.{While, Do, For}
use Rattle.core_code.specs.Machine.{Machine, core_step, core_run, is_still}
use Rattle.core_code.specs.Runs.{least_by}
use Rattle.core_code.specs.Runs as core
use Rattle.pic_world.specs.World.{Happening, arrived, is_due}
use Rattle.run_links.specs.Runs.{IsWithin}
use Rattle.src_rules.specs.Runs.{gone, moment, run, steps_by, is_idle, is_taken, one_if}
use Rattle.src_rules.specs.State.{State, state, Outcome, Went, Undefined, Idle, Lost}
use Rattle.src_rules.specs.Step.{counts, start, step}
use Rattle.src_values.specs.Control as control
use Rattle.src_values.specs.Control.{Focus, Stage, Steps, Tests, Turns, Pending, In, To, Doing, Before, Returns, Resumes, read_type}
use Rattle.src_values.specs.Counting.{blank_counts}
use Rattle.src_values.specs.Memory.{Setting}
use Rattle.src_values.specs.Objects.{function_at, handler_in}
use Rattle.src_values.specs.Values.{written_bytes}
use Rattle.src_values.specs.declared.objects.Byte.{Byte}
use Rattle.lower_trace.specs.Lowering.{IsLowerable}
use Rattle.lower_trace.proofs.CodeLeft.{Scene, core_in, source_in}
use Rattle.lower_trace.proofs.Ends.{Again}
use Rattle.lower_trace.proofs.Fitting.{StackFits}
use Rattle.lower_trace.proofs.Known.{Known, known_first}
use Rattle.lower_trace.proofs.LagAccesses.{some_left}
use Rattle.lower_trace.proofs.LagPace.{bodies_small, left, price_at, price_by, due, ended, none_left, paces, few_left}
use Rattle.lower_trace.proofs.LagStatements.{turned_price, past_price, given_price}
use Rattle.lower_trace.proofs.LagStays.{counts_as}
use Rattle.lower_trace.proofs.LagSteps.{price, IsTested}
use Rattle.lower_trace.proofs.LedRuns.{known_at, followed, least_to, if_went}
use Rattle.lower_trace.proofs.LedSteps.{NodeLaws, Relates, entry_least, step_at_least}
use Rattle.lower_trace.proofs.Mirrors.{Mirrors}
use Rattle.lower_trace.proofs.Prices as prices
use Rattle.lower_trace.proofs.Prices.{turned_least, past_least, given_least, given_least_for, some_line, blank_least, least_at}
use Rattle.lower_trace.proofs.Rests.{over_rests}
use Rattle.lower_trace.proofs.Waiting.{Waiting, CountWaits, CopyWaits}
use Rattle.lower_trace.proofs.Pausing.{Pauses}
use Rattle.lower_trace.proofs.Folding.{FoldsTo}
use Rattle.c_typed.specs.Folding.{constant_value}
use Rattle.lower_trace.proofs.Walks.{least_moment}

-- ---- what is surely paid
turned_below : (shape : LoopForm) (step condition : Option Expression) → turned_price shape step condition ≤ turned_least shape step
turned_below Do step condition = omega arith
turned_below While None None = omega arith
turned_below While None (Some e) = omega arith
turned_below While (Some x) condition = omega arith
turned_below For None None = omega arith
turned_below For None (Some e) = omega arith
turned_below For (Some x) condition = omega arith

past_below : (k : List Pending) → past_price k ≤ past_least k
past_below [] = omega arith
past_below (In e got ∷ k) = omega arith
past_below (To place ∷ k) = omega arith
past_below (Doing (tree.Loop shape first condition step body line) Turns ∷ k) = turned_below shape step condition
past_below (Doing _ _ ∷ k) = omega arith
past_below (Before ss ∷ k) = omega arith
past_below (Returns d ∷ k) = omega arith
past_below (Resumes d x ∷ k) = omega arith

given_below : (k : List Pending) → given_price k ≤ given_least k
given_below (Doing (tree.Loop shape first condition step body line) Steps ∷ k) = omega arith
given_below (Doing (tree.Loop shape first condition step body line) Tests ∷ k) = omega arith
given_below (Doing _ _ ∷ k) = omega arith
given_below _ = omega arith

byte_below : (b : Bool) → one_if b ≤ (if b then 1 else 0)
byte_below true = omega arith
byte_below false = omega arith

line_below : (o : Option ℕ) → counts_as o ≤ some_line o
line_below None = omega arith
line_below (Some line) = omega arith

blank_below : (p : Program) (at left : ℕ) (k : List Pending) → counts_as (blank_counts p at left k) ≤ blank_least p at left k
blank_below p at left (Doing t stage ∷ k) = line_below _
blank_below p at left _ = omega arith

left_below : (left : ℕ) → some_left left ≤ prices.some_left left
left_below zero = omega arith
left_below (suc left) = omega arith

price_below : (p : Program) (x : Focus) (k : List Pending) → price p x k ≤ least_at p x k
unfolding price
price_below p (control.Holds v) k = given_below k
price_below p control.Past k = past_below k
price_below p (control.Fetch spot read) k = byte_below (nat_lt (length read) (type_bytes p.sizes (read_type k)))
price_below p (control.Skim spot left byte) k = left_below left
price_below p (control.Write spot v at) k = byte_below (nat_lt at (written_bytes spot v))
price_below p (control.Spell spot text left) k = left_below left
price_below p (control.Blank at left) k = blank_below p at left k
price_below p (control.CopyWrite to from byte left) k = omega arith
price_below p control.Calls k = omega arith
price_below p (control.Compares v labels) k = omega arith
price_below p _ k = omega arith

more_times : (a b n : ℕ) → a ≤ b → a * n ≤ b * n
more_times a b n le = let e : b ≡ a + (b - a) = omega arith in let f = ap (λ i. i * n) e in omega arith

-- where a turn of a loop ends the loop has its condition
tested : (z : Scene) (t : State) → Known z t → IsTested t.focus t.stack
tested z t k = by t.focus t.stack k.stack
  where
    by : (x : Focus) (k : List Pending) → StackFits z t.copy k → IsTested x k
    by control.Past (Doing (tree.Loop shape first condition step body line) Turns ∷ k) h = h.0.1.2
    by control.Past (Doing _ _ ∷ k) h = tt
    by control.Past _ h = tt
    by _ k h = tt

-- nothing waits where main has ended
over_waits : (z : Scene) (t : State) (c : Machine) → t.focus ≡ control.Over → Waiting z t c → ⊥
over_waits z t c o (CountWaits p) = subst (λ x. FoldsTo x p.above (constant_value p.count)) o p.state_is.value
over_waits z t c o (CopyWaits fixed q) = subst (λ x. Pauses z x t.copy t.stack t.memory t.world c) o q

module _ (z : Scene) (given : IsLowerable z.program z.copies) (input : All (λ byte. byte < 256) z.outside.input) where
  abbrev s : Setting
  s = source_in z

  abbrev nodes : ℕ
  nodes = nodes_of z.program

  bodies : (f : ℕ) → 1 + nodes_of_body (function_at z.program f).body ≤ nodes
  unfolding start
  bodies f = let k = known_first z given input in let there = k.stands.reached.there in bodies_small z.program (omega arith) f

  at_least : (t : State) → price_at s t ≤ step_at_least z t
  unfolding price_at step_at_least
  at_least t = by (due s t) (handler_in z.program)
    where
      by : (b : Bool) (o : Option ℕ) → price_by s b o (price z.program t.focus t.stack) ≤ (if b then entry_least o else least_at z.program t.focus t.stack)
      by false o = price_below z.program t.focus t.stack
      by true (Some h) = omega arith
      by true None = omega arith

  -- One that counts uses up one of what is left, and an instruction makes room for as many as the program has nodes.
  pub step_paces : (t u : State) (event : Option (Happening Byte)) (least : ℕ) → Known z t → step s t ≡ Went u event → step_at_least z t ≤ least → left s u + one_if (counts s t) ≤ left s t + least * nodes
  step_paces t u event least k e le =
      let a = at_least t in
      let p = paces s nodes bodies t u event (tested z t k) k.stands k.sized.1 e in
      let m = more_times (price_at s t) least nodes (omega arith) in
      omega arith

  -- ---- as many steps as may be counted before byte code costs something
  pub steps_left : State → ℕ
  steps_left t = left s t - 1

  pub few_steps : steps_left (start s) < nodes
  unfolding steps_left
  few_steps = let f = few_left s nodes bodies in let b = bodies 0 in omega arith

  not_both : (t u : State) (event : Option (Happening Byte)) → step s t ≡ Went u event → is_idle (step s t) ≡ true → ⊥
  not_both t u event e i = false≢true (sym (ap is_idle e) ∙ i)

  pub steps_pace : (t u : State) (event : Option (Happening Byte)) (least : ℕ) → Known z t → step s t ≡ Went u event → step_at_least z t ≤ least → (steps_left u + one_if (counts s t) ≤ steps_left t + least * nodes) ⊎ (is_idle (step s u) ≡ true)
  unfolding steps_left
  steps_pace t u event least k e le =
      let p = step_paces t u event least k e le in
      ⊎_elim
      (λ none. inr (none_left s u (omega arith)))
      (λ some. ⊎_elim (λ none. absurd (not_both t u event e (none_left s t (omega arith)))) (λ more. inl (omega arith)) (cases_lt (left s t) 1))
      (cases_lt (left s u) 1)

  -- ---- sums
  and_none : (b : Bool) → one_if (b && false) ≡ 0
  and_none true = refl
  and_none false = refl

  lag_with : (n : ℕ) (o : Outcome) → step s (moment s n) ≡ o → steps_by s n + left s (moment s n) ≤ (least_to z n + 1) * nodes
      → steps_by s n + one_if (counts s (moment s n) && is_taken o) + left s (gone (moment s n) o) ≤ (least_to z n + if_went o (step_at_least z (moment s n)) + 1) * nodes
  lag_with n (Went u event) e h =
      let t = moment s n in
      let p = step_paces t u event (step_at_least z t) (known_at z given input n) e (omega arith) in
      let c : one_if (counts s t && true) ≡ one_if (counts s t) = and_same (counts s t) in
      omega arith
    where
      and_same : (b : Bool) → one_if (b && true) ≡ one_if b
      and_same true = refl
      and_same false = refl
  lag_with n (Undefined kind line) e h = let c = and_none (counts s (moment s n)) in omega arith
  lag_with n Idle e h = let c = and_none (counts s (moment s n)) in omega arith
  lag_with n Lost e h = let c = and_none (counts s (moment s n)) in omega arith

  pub lag : (n : ℕ) → steps_by s n + left s (moment s n) ≤ (least_to z n + 1) * nodes
  unfolding steps_by run least_to
  lag zero = let f = few_left s nodes bodies in omega arith
  lag (suc n) = lag_with n (step s (moment s n)) refl (lag n)

  -- ---- byte code
  over_stays : (t : State) (c : Machine) → t.focus ≡ control.Over → is_due (arrived z.outside t.world) ≡ false → Relates z t c → is_still (core_step (core_in z) c) ≡ true
  over_stays t c o free (inl (inl m)) = over_rests z t.stack t.copy t.memory t.world c free (subst (λ x. Mirrors z (state t.copy x t.stack t.memory t.world) c) o m)
  over_stays t c o free (inl (inr (inl a))) = absurd (subst (λ x. Again z t.copy x t.stack t.memory t.world c) o a.0)
  over_stays t c o free (inl (inr (inr w))) = absurd (over_waits z t c o w)
  over_stays t c o free (inr d) = absurd (false≢true (sym free ∙ d.due))

  -- By the time that byte code is at a place for a moment of the source, fewer steps were counted than it has paid for.
  pub lags : (nodes_laws : NodeLaws z) (n : ℕ) → IsWithin (core.run_of (core_in z)) nodes (steps_by s n) (followed z given input nodes_laws n).count
  unfolding core_run
  lags laws n =
      let f = followed z given input laws n in
      let t = moment s n in
      let l = lag n in
      let b = f.beyond in
      let w = f.walk.least in
      let m = least_moment (core_in z) f.count in
      let x = more_times (least_to z n + 1) (least_by (core_in z) f.count + 1) nodes (omega arith) in
      ⊎_elim
      (λ none.
      let d = ended s t (omega arith) in
      inr (ap (λ c. is_still (core_step (core_in z) c)) f.walk.comes ∙ over_stays t f.place d.over d.free f.is))
      (λ some. inl (omega arith))
      (cases_lt (left s t) 1)
