-- A step of the code without selects is the selects that stand there, and the same step.
use Rattle.std.proofs.Common.{◌≡◌, ℕ, suc, ◌+◌, ◌<◌, ◌≤◌, Bool, true, false, if◌then◌else◌, List, Option, Some, None, refl, sym, ap, ◌∙◌, subst, ⊎_elim, arith}
use Rattle.std.proofs.lemmas.Bool.{cases_lt}
use Rattle.pic_world.specs.World.{Outside, arrived, is_due}
use Rattle.sym_code.specs.Cost.{least_prices, step_cost_at}
use Rattle.sym_code.specs.Effect.{Thread, Rest, effect}
use Rattle.sym_code.specs.Machine.{Machine, Entry, Next, Goes, Stops, Still, running, acted, act, enter, settled, sym_step_at, sym_step}
use Rattle.sym_code.specs.Programs.{Position, lands}
use Rattle.sym_code.specs.Registers.{Registers}
use Rattle.sym_code.specs.Runs.{goes_on, is_still, sym_goes, sym_rests}
use Rattle.bank_trace.proofs.Lists.{never}
use Rattle.bank_trace.proofs.Prices.{selects_before, selects_ahead}
use Rattle.bank_trace.proofs.Holding.{Bits}
use Rattle.bank_trace.proofs.Sites.{Site, IsSound, without, plain_setting, banked_setting}
use Rattle.bank_trace.proofs.Places.{under}
use Rattle.bank_trace.proofs.Twins.{Twin, plain_thread, banked_thread, IsFineTwin}
use Rattle.bank_trace.proofs.Joints.{Joint, plain_machine, banked_machine, IsFineJoint, running_twin, running_by, fine_running}
use Rattle.bank_trace.proofs.Steps.{ahead_of, before_of, plain_prices, banked_prices, Outcome, Halted, Rested, Moved, step_outcome, nowhere, stuck_stops}
use Rattle.bank_trace.proofs.Moments.{goes_at, next_is, same_is, cost_next, one, other, other_goes, one_most, other_most, one_least, other_least, Led, lead}

module _ (x : Site) (sound : IsSound x) (e : Entry) (o : Outside) (first last : Machine) where
  -- the moments belong to one another: once settled, both machines are one
  pub record Sim (i m : ℕ) : Type 0 where
    pub joint : Joint
    pub plain : settled o (one x sound e o first last i) ≡ plain_machine x joint
    pub banked : settled o (other x sound e o first last m) ≡ banked_machine joint
    pub fine : IsFineJoint x joint

  abbrev pub one_goes : ℕ → Bool
  one_goes i = sym_goes (plain_setting x) e o first i

  -- how many steps with selects make the next one without
  abbrev pub pace_of : Machine → ℕ
  pace_of u = if is_due u.world then 1 else 1 + ahead_of x (running u).rest (running u).at

  abbrev pub pace : ℕ → ℕ
  pace m = pace_of (settled o (other x sound e o first last m))

  -- behind the selects that stand there
  record Ready (i m : ℕ) : Type 0 where
    joint : Joint
    passed : ℕ
    moment : ℕ
    later : moment ≡ m + passed
    pace_is : pace m ≡ 1 + passed
    plain : settled o (one x sound e o first last i) ≡ plain_machine x joint
    banked : settled o (other x sound e o first last moment) ≡ banked_machine joint
    fine : IsFineJoint x joint
    ready : is_due joint.world ≡ false → ahead_of x (running_twin joint).rest (running_twin joint).at ≡ 0
    before : passed ≤ (if is_due joint.world then 0 else before_of x (running_twin joint).rest (running_twin joint).at)
    goes : (k : ℕ) → m ≤ k → k < moment → other_goes x sound e o first last k ≡ true
    most : other_most x sound e o first last moment ≡ other_most x sound e o first last m + passed
    least : other_least x sound e o first last moment ≡ other_least x sound e o first last m + passed

  module _ (i m : ℕ) (sim : Sim i m) where
    abbrev j : Joint
    j = sim.joint

    pace_joint : pace m ≡ (if is_due j.world then 1 else 1 + ahead_of x (running_twin j).rest (running_twin j).at)
    pace_joint = ap pace_of sim.banked ∙ ap (λ (th : Thread). if is_due j.world then 1 else 1 + ahead_of x th.rest th.at) (running_by banked_thread j)

    -- no select stands there
    at_once : (is_due j.world ≡ false → ahead_of x (running_twin j).rest (running_twin j).at ≡ 0) → pace m ≡ 1 → Ready i m
    at_once ready p = record {
      joint = j;
      passed = 0;
      moment = m;
      later = omega arith;
      pace_is = p;
      plain = sim.plain;
      banked = sim.banked;
      fine = sim.fine;
      ready = ready;
      before = omega arith;
      goes = λ k l n. absurd (omega arith);
      most = omega arith;
      least = omega arith;
    }

    module _ (due : is_due j.world ≡ false) (stack : List Position) (r : Registers) (b : Bits) where
      abbrev twin : Option Rest → Option Position → Twin
      twin rest at = record { rest = rest; at = at; stack = stack; registers = r; bits = b }

      pace_twin : (rest : Option Rest) (at : Option Position) → running_twin j ≡ twin rest at → pace m ≡ 1 + ahead_of x rest at
      pace_twin rest at runs =
          pace_joint ∙ ap (λ (c : Bool). if c then 1 else 1 + ahead_of x (running_twin j).rest (running_twin j).at) due ∙ ap (λ (t : Twin). 1 + ahead_of x t.rest t.at) runs

      led_ready : (q : Position) → running_twin j ≡ twin None (Some q) → Led x sound e o first last j stack r m (selects_ahead (x.made q.block) q.index) (selects_before 0 (x.made q.block) q.index) → Ready i m
      led_ready q runs led =
          let k = selects_ahead (x.made q.block) q.index in
          let due_led : is_due led.joint.world ≡ false = ap (λ (u : Machine). is_due u.world) led.plain ∙ due in
          let in_all = ap (λ (c : Bool). if c then 0 else before_of x (running_twin led.joint).rest (running_twin led.joint).at) due_led ∙ ap (λ (t : Twin). before_of x t.rest t.at) led.runs ∙ led.before in
          record {
            joint = led.joint;
            passed = k;
            moment = led.moment;
            later = led.later;
            pace_is = pace_twin None (Some q) runs;
            plain = sim.plain ∙ sym led.plain;
            banked = led.banked;
            fine = led.fine;
            ready = λ f. ap (λ (t : Twin). ahead_of x t.rest t.at) led.runs ∙ led.ahead;
            before = omega arith;
            goes = led.goes;
            most = led.most;
            least = led.least;
          }

      -- where nothing stands the code without selects is stuck
      lost : (q : Position) → running_twin j ≡ twin None (Some q) → lands (without x) (under x q) ≡ false → one_goes i ≡ false
      lost q runs e' =
          let here : IsFineTwin x (twin None (Some q)) = subst (IsFineTwin x) runs (fine_running x j sim.fine) in
          let th = plain_thread x (twin None (Some q)) in
          ap goes_on (goes_at (plain_setting x) e o first i (plain_machine x j) Stops sim.plain
          (ap (λ (c : Bool). if c then enter (plain_setting x) e x.handler (plain_machine x j) else act (plain_setting x) o (plain_machine x j)) due
          ∙ ap (λ (v : Thread). acted (plain_setting x) o (plain_machine x j) (effect (plain_setting x) j.world.inside v j.memory)) (running_by (plain_thread x) j ∙ ap (plain_thread x) runs)
          ∙ stuck_stops (plain_setting x) o (plain_machine x j) (effect (plain_setting x) j.world.inside th j.memory) (nowhere x sound o j sim.fine j.world.inside j.memory q stack r b here.at here.stack e')))

      by_stand : (q : Position) → running_twin j ≡ twin None (Some q) → one_goes i ≡ true → (c : Bool) → lands (without x) (under x q) ≡ c → Ready i m
      by_stand q runs goes true stands =
          led_ready q runs (lead x sound e o first last (selects_ahead (x.made q.block) q.index) m j q stack r b sim.banked sim.fine runs due stands refl)
      by_stand q runs goes false stands = never (sym (lost q runs stands) ∙ goes)

      by_place : (rest : Option Rest) (at : Option Position) → running_twin j ≡ twin rest at → one_goes i ≡ true → Ready i m
      by_place (Some w) at runs goes = at_once (λ f. ap (λ (t : Twin). ahead_of x t.rest t.at) runs) (pace_twin (Some w) at runs)
      by_place None None runs goes = at_once (λ f. ap (λ (t : Twin). ahead_of x t.rest t.at) runs) (pace_twin None None runs)
      by_place None (Some q) runs goes = by_stand q runs goes (lands (without x) (under x q)) refl

    by_due : (c : Bool) → is_due j.world ≡ c → one_goes i ≡ true → Ready i m
    by_due true due goes = at_once (λ f. never (sym f ∙ due)) (pace_joint ∙ ap (λ (c : Bool). if c then 1 else 1 + ahead_of x (running_twin j).rest (running_twin j).at) due)
    by_due false due goes =
        let t = running_twin j in
        by_place due t.stack t.registers t.bits t.rest t.at refl goes

    arrive : one_goes i ≡ true → Ready i m
    arrive goes = by_due (is_due j.world) refl goes

  -- ---- the step
  pub record Hop (i m n : ℕ) : Type 0 where
    pub sim : Sim (suc i) n
    pub goes : (k : ℕ) → m ≤ k → k < n → other_goes x sound e o first last k ≡ true
    pub most : other_most x sound e o first last n + one_most x sound e o first last i ≤ other_most x sound e o first last m + one_most x sound e o first last (suc i)
    pub least : other_least x sound e o first last m + one_least x sound e o first last (suc i) ≤ other_least x sound e o first last n + one_least x sound e o first last i

  module _ (i m : ℕ) (goes : one_goes i ≡ true) (h : Ready i m) where
    hop_last : Sim (suc i) (suc h.moment) → other_goes x sound e o first last h.moment ≡ true
        → step_cost_at (banked_setting x) (banked_prices x) (banked_machine h.joint) + (if is_due h.joint.world then 0 else before_of x (running_twin h.joint).rest (running_twin h.joint).at) ≤ step_cost_at (plain_setting x) (plain_prices x) (plain_machine x h.joint)
        → step_cost_at (plain_setting x) least_prices (plain_machine x h.joint) ≤ step_cost_at (banked_setting x) least_prices (banked_machine h.joint)
        → Hop i m (suc h.moment)
    hop_last sim on most least =
        let before = h.before in
        let most_led = h.most in
        let least_led = h.least in
        let a = cost_next (plain_setting x) e o first (plain_prices x) i (plain_machine x h.joint) h.plain in
        let b = cost_next (banked_setting x) e o last (banked_prices x) h.moment (banked_machine h.joint) h.banked in
        let c = cost_next (plain_setting x) e o first least_prices i (plain_machine x h.joint) h.plain in
        let d = cost_next (banked_setting x) e o last least_prices h.moment (banked_machine h.joint) h.banked in
        record {
          sim = sim;
          goes = λ k l n. ⊎_elim (λ lt. h.goes k l lt) (λ ge. subst (λ z. other_goes x sound e o first last z ≡ true) (at_end k n ge) on) (cases_lt k h.moment);
          most = omega arith;
          least = omega arith;
        }
      where
        at_end : (k : ℕ) → k < suc h.moment → h.moment ≤ k → h.moment ≡ k
        at_end k l g = omega arith

    stops : sym_step_at (plain_setting x) e o (plain_machine x h.joint) ≡ Stops → false ≡ true
    stops k = sym (ap goes_on (goes_at (plain_setting x) e o first i (plain_machine x h.joint) Stops h.plain k)) ∙ goes

    by_outcome : Outcome x (sym_step_at (plain_setting x) e o (plain_machine x h.joint)) (sym_step_at (banked_setting x) e o (banked_machine h.joint))
        (step_cost_at (plain_setting x) (plain_prices x) (plain_machine x h.joint)) (step_cost_at (banked_setting x) (banked_prices x) (banked_machine h.joint))
        (step_cost_at (plain_setting x) least_prices (plain_machine x h.joint)) (step_cost_at (banked_setting x) least_prices (banked_machine h.joint))
        (if is_due h.joint.world then 0 else before_of x (running_twin h.joint).rest (running_twin h.joint).at)
        → Hop i m (suc h.moment)
    by_outcome (Halted k) = never (stops k)
    by_outcome (Rested none k l most least) =
        hop_last
        (record {
          joint = h.joint;
          plain = ap (settled o) (same_is (plain_setting x) e o first i (plain_machine x h.joint) h.plain k) ∙ h.plain;
          banked = ap (settled o) (same_is (banked_setting x) e o last h.moment (banked_machine h.joint) h.banked l) ∙ h.banked;
          fine = h.fine;
        })
        (ap goes_on (goes_at (banked_setting x) e o last h.moment (banked_machine h.joint) Still h.banked l)) most least
    by_outcome (Moved next fine k l most least) =
        hop_last
        (record {
          joint = record next { world = arrived o next.world };
          plain = ap (settled o) (next_is (plain_setting x) e o first i (plain_machine x h.joint) (plain_machine x next) h.plain k);
          banked = ap (settled o) (next_is (banked_setting x) e o last h.moment (banked_machine h.joint) (banked_machine next) h.banked l);
          fine = record { main = fine.main; isr = fine.isr };
        })
        (ap goes_on (goes_at (banked_setting x) e o last h.moment (banked_machine h.joint) (Goes (banked_machine next)) h.banked l)) most least

  pub hop : (i m : ℕ) → Sim i m → one_goes i ≡ true → Hop i m (m + pace m)
  hop i m sim goes =
      let h = arrive i m sim goes in
      let later = h.later in
      let p = h.pace_is in
      let same : suc h.moment ≡ m + pace m = omega arith in
      subst (Hop i m) same (by_outcome i m goes h (step_outcome x sound o h.joint h.fine e h.ready))

  -- ---- rest
  rests_by : (i m : ℕ) (h : Ready i m) → is_still (sym_step (plain_setting x) e o (one x sound e o first last i)) ≡ true
      → Outcome x (sym_step_at (plain_setting x) e o (plain_machine x h.joint)) (sym_step_at (banked_setting x) e o (banked_machine h.joint))
      (step_cost_at (plain_setting x) (plain_prices x) (plain_machine x h.joint)) (step_cost_at (banked_setting x) (banked_prices x) (banked_machine h.joint))
      (step_cost_at (plain_setting x) least_prices (plain_machine x h.joint)) (step_cost_at (banked_setting x) least_prices (banked_machine h.joint))
      (if is_due h.joint.world then 0 else before_of x (running_twin h.joint).rest (running_twin h.joint).at)
      → is_still (sym_step (banked_setting x) e o (other x sound e o first last m)) ≡ true
  rests_by i m h rests (Halted k) = never (sym (ap is_still (goes_at (plain_setting x) e o first i (plain_machine x h.joint) Stops h.plain k)) ∙ rests)
  rests_by i m h rests (Rested none k l most least) =
      let later = h.later in
      let before = h.before in
      let same : h.moment ≡ m = omega arith in
      subst (λ n. is_still (sym_step (banked_setting x) e o (other x sound e o first last n)) ≡ true) same
      (ap is_still (goes_at (banked_setting x) e o last h.moment (banked_machine h.joint) Still h.banked l))
  rests_by i m h rests (Moved next fine k l most least) = never (sym (ap is_still (goes_at (plain_setting x) e o first i (plain_machine x h.joint) (Goes (plain_machine x next)) h.plain k)) ∙ rests)

  still_goes : (n : Next) → is_still n ≡ true → goes_on n ≡ true
  still_goes (Goes t) r = refl
  still_goes Stops r = r
  still_goes Still r = refl

  pub rests : (i m : ℕ) → Sim i m → sym_rests (plain_setting x) e o first i ≡ true → sym_rests (banked_setting x) e o last m ≡ true
  rests i m sim r =
      let h = arrive i m sim (still_goes (sym_step (plain_setting x) e o (one x sound e o first last i)) r) in
      rests_by i m h r (step_outcome x sound o h.joint h.fine e h.ready)
