-- Moments of both runs that belong to one another.
use Rattle.std.proofs.Common.{◌≡◌, ℕ, zero, suc, ◌+◌, ◌<◌, ◌≤◌, Bool, true, false, List, Option, Some, None, slice_get, refl, sym, ap, ◌∙◌, subst, ⊎_elim, arith}
use Rattle.std.proofs.lemmas.Bool.{cases_lt}
use Rattle.pic_world.specs.World.{Outside, World, arrived, is_due}
use Rattle.pic_world.proofs.WorldLaws.{arrived_again}
use Rattle.sym_code.specs.Cost.{Prices, least_prices, step_cost_at, step_cost, cost_by}
use Rattle.sym_code.specs.Effect.{Setting}
use Rattle.sym_code.specs.Machine.{Machine, Entry, Next, Goes, Still, settled, sym_step_at, sym_step, gone, sym_run}
use Rattle.sym_code.specs.Programs.{Position, lands}
use Rattle.sym_code.specs.Registers.{Registers}
use Rattle.sym_code.specs.Runs.{goes_on, sym_goes}
use Rattle.sym_code.specs.Selects.{is_select}
use Rattle.sym_code.specs.declared.code.Sym.{Sym}
use Rattle.bank_trace.proofs.Lists.{select_at, never}
use Rattle.bank_trace.proofs.Prices.{select_time, selects_before, selects_ahead, ahead_some}
use Rattle.bank_trace.proofs.Holding.{Bits}
use Rattle.bank_trace.proofs.Sites.{Site, IsSound, without, plain_setting, banked_setting}
use Rattle.bank_trace.proofs.Places.{under, under_lands}
use Rattle.bank_trace.proofs.Twins.{IsFineTwin}
use Rattle.bank_trace.proofs.Joints.{Joint, plain_machine, banked_machine, IsFineJoint, running_twin, fine_running}
use Rattle.bank_trace.proofs.Steps.{plain_prices, banked_prices}
use Rattle.bank_trace.proofs.Leads.{at_select, to, set, behind_joint, select_under, select_fine, select_ahead, select_before, select_step, select_cost, select_plain, select_runs, select_joint}

-- ---- one moment later
module _ (g : Setting) (e : Entry) (o : Outside) (t : Machine) where
  pub goes_at : (n : ℕ) (u : Machine) (next : Next) → settled o (sym_run g e o n t) ≡ u → sym_step_at g e o u ≡ next → sym_step g e o (sym_run g e o n t) ≡ next
  unfolding sym_step
  goes_at n u next is step = ap (sym_step_at g e o) is ∙ step

  pub next_is : (n : ℕ) (u v : Machine) → settled o (sym_run g e o n t) ≡ u → sym_step_at g e o u ≡ Goes v → sym_run g e o (suc n) t ≡ v
  unfolding sym_run
  next_is n u v is step = ap (gone (sym_run g e o n t)) (goes_at n u (Goes v) is step)

  pub same_is : (n : ℕ) (u : Machine) → settled o (sym_run g e o n t) ≡ u → sym_step_at g e o u ≡ Still → sym_run g e o (suc n) t ≡ sym_run g e o n t
  unfolding sym_run
  same_is n u is step = ap (gone (sym_run g e o n t)) (goes_at n u Still is step)

  pub cost_next : (c : Prices) (n : ℕ) (u : Machine) → settled o (sym_run g e o n t) ≡ u → cost_by g c e o (suc n) t ≡ cost_by g c e o n t + step_cost_at g c u
  unfolding cost_by step_cost
  cost_next c n u is = ap (λ v. cost_by g c e o n t + step_cost_at g c v) is

selects_there : (s : Option Sym) → select_at s ≡ true → (found : Sym) × (s ≡ Some found) × (is_select found ≡ true)
selects_there None e = never e
selects_there (Some s) e = (s, refl, e)

module _ (x : Site) (sound : IsSound x) (e : Entry) (o : Outside) (first last : Machine) where
  -- the machines at a moment
  abbrev pub one : ℕ → Machine
  one i = sym_run (plain_setting x) e o i first

  abbrev pub other : ℕ → Machine
  other m = sym_run (banked_setting x) e o m last

  abbrev pub other_goes : ℕ → Bool
  other_goes m = sym_goes (banked_setting x) e o last m

  abbrev pub one_most : ℕ → ℕ
  one_most i = cost_by (plain_setting x) (plain_prices x) e o i first

  abbrev pub other_most : ℕ → ℕ
  other_most m = cost_by (banked_setting x) (banked_prices x) e o m last

  abbrev pub one_least : ℕ → ℕ
  one_least i = cost_by (plain_setting x) least_prices e o i first

  abbrev pub other_least : ℕ → ℕ
  other_least m = cost_by (banked_setting x) least_prices e o m last

  -- ---- selects run
  pub record Led (j : Joint) (stack : List Position) (r : Registers) (m k so_far : ℕ) : Type 0 where
    pub joint : Joint
    pub moment : ℕ
    pub later : moment ≡ m + k
    pub banked : settled o (other moment) ≡ banked_machine joint
    pub plain : plain_machine x joint ≡ plain_machine x j
    pub fine : IsFineJoint x joint
    pub place : Position
    pub bits : Bits
    pub runs : running_twin joint ≡ at_select x place stack r bits
    pub ahead : selects_ahead (x.made place.block) place.index ≡ 0
    pub before : selects_before 0 (x.made place.block) place.index ≡ so_far + k
    pub goes : (i : ℕ) → m ≤ i → i < moment → other_goes i ≡ true
    pub most : other_most moment ≡ other_most m + k
    pub least : other_least moment ≡ other_least m + k

  -- a world that is settled stays so
  calm : (j : Joint) (u : Machine) → settled o u ≡ banked_machine j → arrived o j.world ≡ j.world
  calm j u is =
      let w = ap (λ (v : Machine). v.world) is in
      sym (ap (arrived o) w) ∙ arrived_again o u.world ∙ w

  -- one select, and what is led from behind it
  module _ (m : ℕ) (j : Joint) (q : Position) (stack : List Position) (r : Registers) (b : Bits) (banked : settled o (other m) ≡ banked_machine j) (fine : IsFineJoint x j) (runs : running_twin j ≡ at_select x q stack r b)
      (due : is_due j.world ≡ false) (stands : lands (without x) (under x q) ≡ true) (s : Sym) (fetch : slice_get (x.made q.block) q.index ≡ Some s) (select : is_select s ≡ true) where
    here : IsFineTwin x (at_select x q stack r b)
    here = subst (IsFineTwin x) runs (fine_running x j fine)

    abbrev goal : Joint
    goal = behind_joint x q stack r b s fetch select j due runs

    abbrev place_past : Position
    place_past = to x q stack r b s fetch select

    goal_stands : lands (without x) (under x place_past) ≡ true
    goal_stands = ap (lands (without x)) (select_under x q stack r b s fetch select) ∙ stands

    goal_fine : IsFineJoint x goal
    goal_fine = select_joint x q stack r b s fetch select j due runs sound fine here.stack here.at

    goal_runs : running_twin goal ≡ at_select x place_past stack r (set x q stack r b s fetch select)
    goal_runs = select_runs x q stack r b s fetch select j due runs

    goal_step : sym_step_at (banked_setting x) e o (banked_machine j) ≡ Goes (banked_machine goal)
    goal_step = select_step x q stack r b s fetch select j due runs sound e o (under_lands x place_past (select_fine x q stack r b s fetch select sound here.at).settled goal_stands)

    goal_banked : settled o (other (suc m)) ≡ banked_machine goal
    goal_banked =
        let h : World ℕ → Machine = λ w. record (banked_machine goal) { world = w } in
        ap (settled o) (next_is (banked_setting x) e o last m (banked_machine j) (banked_machine goal) banked goal_step) ∙ ap h (calm j (other m) banked)

    goal_goes : other_goes m ≡ true
    goal_goes = ap goes_on (goes_at (banked_setting x) e o last m (banked_machine j) (Goes (banked_machine goal)) banked goal_step)

    goal_cost : (c : Prices) → c.word q.block q.index ≡ 1 → cost_by (banked_setting x) c e o (suc m) last ≡ cost_by (banked_setting x) c e o m last + 1
    goal_cost c one_word =
        cost_next (banked_setting x) e o last c m (banked_machine j) banked ∙ ap (λ (n : ℕ). cost_by (banked_setting x) c e o m last + n) (select_cost x q stack r b s fetch select j due runs sound c ∙ one_word)

    led_more : (k : ℕ) → Led goal stack r (suc m) k (selects_before 0 (x.made place_past.block) place_past.index) → Led j stack r m (suc k) (selects_before 0 (x.made q.block) q.index)
    led_more k led =
        let later = led.later in
        let before = led.before in
        let passed = select_before x q stack r b s fetch select in
        let most = led.most in
        let least = led.least in
        let one_more = goal_cost (banked_prices x) (select_time (slice_get (x.made q.block) q.index) (ap select_at fetch ∙ select)) in
        let one_least_more = goal_cost least_prices refl in
        record {
          joint = led.joint;
          moment = led.moment;
          later = omega arith;
          banked = led.banked;
          plain = led.plain ∙ select_plain x q stack r b s fetch select j due runs;
          fine = led.fine;
          place = led.place;
          bits = led.bits;
          runs = led.runs;
          ahead = led.ahead;
          before = omega arith;
          goes = λ i l k. ⊎_elim (λ lt. led.goes i lt k) (λ ge. subst (λ n. other_goes n ≡ true) (later_is i l ge) goal_goes) (cases_lt m i);
          most = omega arith;
          least = omega arith;
        }
      where
        later_is : (i : ℕ) → m ≤ i → i ≤ m → m ≡ i
        later_is i l k = omega arith

  pub lead : (k m : ℕ) (j : Joint) (q : Position) (stack : List Position) (r : Registers) (b : Bits) → settled o (other m) ≡ banked_machine j → IsFineJoint x j → running_twin j ≡ at_select x q stack r b
      → is_due j.world ≡ false → lands (without x) (under x q) ≡ true → selects_ahead (x.made q.block) q.index ≡ k → Led j stack r m k (selects_before 0 (x.made q.block) q.index)
  lead zero m j q stack r b banked fine runs due stands ahead = record {
    joint = j;
    moment = m;
    later = omega arith;
    banked = banked;
    plain = refl;
    fine = fine;
    place = q;
    bits = b;
    runs = runs;
    ahead = ahead;
    before = omega arith;
    goes = λ i l k. absurd (omega arith);
    most = omega arith;
    least = omega arith;
  }
  lead (suc k) m j q stack r b banked fine runs due stands ahead =
      let settled_at : IsFineTwin x (at_select x q stack r b) = subst (IsFineTwin x) runs (fine_running x j fine) in
      let found = selects_there (slice_get (x.made q.block) q.index) (ahead_some (x.made q.block) q.index k (under_lands x q settled_at.at.settled stands) ahead) in
      let s = found.0 in
      let passed = select_ahead x q stack r b s found.1 found.2 in
      led_more m j q stack r b banked fine runs due stands s found.1 found.2 k
      (lead k (suc m) (goal m j q stack r b banked fine runs due stands s found.1 found.2) (place_past m j q stack r b banked fine runs due stands s found.1 found.2) stack r
      (set x q stack r b s found.1 found.2)
      (goal_banked m j q stack r b banked fine runs due stands s found.1 found.2) (goal_fine m j q stack r b banked fine runs due stands s found.1 found.2) (goal_runs m j q stack r b banked fine runs due stands s found.1 found.2)
      due (goal_stands m j q stack r b banked fine runs due stands s found.1 found.2) (omega arith))
