-- Selects run: the code without them stays where it is, and what they set is known behind them.
use Rattle.std.proofs.Common.{◌≡◌, ℕ, suc, Bool, true, false, if◌then◌else◌, List, Option, Some, None, slice_get, refl, sym, ap, ◌∙◌, subst}
use Rattle.pic_world.specs.World.{Outside, is_due}
use Rattle.sym_code.specs.Cost.{Prices, instruction_cost, thread_cost, step_cost_at}
use Rattle.sym_code.specs.Effect.{Thread, Memory, Effect, Stuck, Quiet, effect_of, effect_if, effect}
use Rattle.sym_code.specs.Layout.{all_near}
use Rattle.sym_code.specs.Machine.{Machine, Entry, Goes, running, moved, acted, act, enter, sym_step_at}
use Rattle.sym_code.specs.Programs.{Position, lands, behind, position}
use Rattle.sym_code.specs.Registers.{Registers}
use Rattle.sym_code.specs.Selects.{is_select}
use Rattle.sym_code.specs.declared.code.BankBit.TheVariants.{Rp0, Rp1}
use Rattle.sym_code.specs.declared.code.BlockName.{BlockName}
use Rattle.sym_code.specs.declared.code.PageBit.TheVariants.{Low, High}
use Rattle.sym_code.specs.declared.code.Sym.{Sym}
use Rattle.sym_code.specs.declared.code.Sym.TheVariants as syms
use Rattle.code_place.specs.Layouts.{layout_of}
use Rattle.bank_page.specs.Near.{sets_rp1}
use Rattle.bank_page.specs.declared.known.Known.{Known}
use Rattle.flow_facts.specs.Facts.{Fact}
use Rattle.flow_facts.specs.Walk.{fact_after}
use Rattle.bank_trace.proofs.Lists.{select_at, never, sets_none, settle_again, mark_settle, mark_select}
use Rattle.bank_trace.proofs.Prices.{selects_before, selects_ahead, before_select, before_settle, ahead_select, ahead_settle}
use Rattle.bank_trace.proofs.Facts.{Spot, spot_front, spot_at, spot_next, fact_settles}
use Rattle.bank_trace.proofs.Holding.{Bits, Holds, HoldsFact, holds_learned, live, selected}
use Rattle.bank_trace.proofs.Sites.{Site, IsSound, with, banked_setting}
use Rattle.bank_trace.proofs.Places.{behind_is, block_behind, under, spot, fact_at, IsFine, AreBack}
use Rattle.bank_trace.proofs.Twins.{Twin, plain_thread, banked_thread}
use Rattle.bank_trace.proofs.Joints.{Joint, plain_machine, banked_machine, IsFineJoint, running_twin, running_by, put, moved_by, fine_put}
use Rattle.bank_trace.proofs.Steps.{effect_some}

module _ (x : Site) (q : Position) (stack : List Position) (r : Registers) where
  abbrev pub at_select : Bits → Twin
  at_select b = record { rest = None; at = Some q; stack = stack; registers = r; bits = b }

  -- ---- one select
  module _ (b : Bits) (s : Sym) (fetch : slice_get (x.made q.block) q.index ≡ Some s) (select : is_select s ≡ true) where
    abbrev pub to : Position
    to = behind (with x) q

    abbrev pub set : Bits
    set = selected x.pages q.block s b

    abbrev pub past : Twin
    past = record { rest = None; at = Some to; stack = stack; registers = r; bits = set }

    there : select_at (slice_get (x.made q.block) q.index) ≡ true
    there = subst (λ (o : Option Sym). select_at o ≡ true) (sym fetch) select

    pub select_under : under x to ≡ under x q
    select_under = ap (under x) (behind_is (with x) q) ∙ ap (position q.block) (mark_settle (x.made q.block) (suc q.index) ∙ mark_select (x.made q.block) q.index there)

    holds_select : IsSound x → (known : Known) (behind : Bool) (t : Sym) → is_select t ≡ true → Holds x.pages known b → HoldsFact x.pages (fact_after x.facts q.block (Some known) behind t) (selected x.pages q.block t b)
    holds_select sound known behind (syms.SelectBank Rp0 on) e h = holds_learned x.pages x.facts sound.mates q.block known (syms.SelectBank Rp0 on) b h
    holds_select sound known behind (syms.SelectBank Rp1 on) e h = holds_learned x.pages x.facts sound.mates q.block known (syms.SelectBank Rp1 on) b h
    holds_select sound known behind (syms.SelectPage bit target) e h = holds_learned x.pages x.facts sound.mates q.block known (syms.SelectPage bit target) b h
    holds_select sound known behind t e h = never e

    holds_past : IsSound x → HoldsFact x.pages (fact_at x q) b → HoldsFact x.pages (spot_at x.facts q.block (spot_front x.facts q.block) (x.made q.block) (suc q.index)).fact set
    holds_past sound h =
        let l = live x.pages (fact_at x q) b h in
        subst (λ (t : Spot). HoldsFact x.pages t.fact set) (sym (spot_next x.facts q.block (spot_front x.facts q.block) (x.made q.block) q.index s fetch))
        (subst (λ (y : Fact). HoldsFact x.pages (fact_after x.facts q.block y (spot x q).behind s) set) (sym l.is) (holds_select sound l.known (spot x q).behind s select l.holds))

    pub select_fine : IsSound x → IsFine x q b → IsFine x to set
    select_fine sound h =
        subst (λ (p : Position). IsFine x p set) (sym (behind_is (with x) q)) (record {
          settled = settle_again (x.made q.block) (suc q.index);
          holds = fact_settles x.facts q.block x.pages set (spot_front x.facts q.block) (x.made q.block) (suc q.index) (sound.lead q.block) (holds_past sound h.holds);
        })

    pub select_ahead : selects_ahead (x.made q.block) q.index ≡ suc (selects_ahead (x.made to.block) to.index)
    select_ahead =
        let f : Position → ℕ = λ p. selects_ahead (x.made p.block) p.index in
        ahead_select (x.made q.block) q.index there ∙ ap suc (sym (ap f (behind_is (with x) q) ∙ ahead_settle (x.made q.block) (suc q.index)))

    pub select_before : selects_before 0 (x.made to.block) to.index ≡ suc (selects_before 0 (x.made q.block) q.index)
    select_before =
        let f : Position → ℕ = λ p. selects_before 0 (x.made p.block) p.index in
        ap f (behind_is (with x) q) ∙ before_settle 0 (x.made q.block) (suc q.index) ∙ before_select 0 (x.made q.block) q.index there

    -- where objects and frames end below 100h, the select doesn't set RP1
    abbrev IsNearSelect : Sym → Type 0
    IsNearSelect s' = all_near (layout_of x.placed) ≡ true → sets_rp1 s' ≡ false

    near_select : IsSound x → IsNearSelect s
    near_select sound low = sets_none (x.made q.block) q.index s (sound.near low q.block) fetch

    effect_by : (inside : Bool) (m : Memory) (s' : Sym) → IsNearSelect s' → is_select s' ≡ true → effect_of (banked_setting x) inside q (banked_thread (at_select b)) m s'
        ≡ Quiet (banked_thread (record { rest = None; at = Some to; stack = stack; registers = r; bits = selected x.pages q.block s' b })) None
    unfolding effect_of
    effect_by inside m (syms.SelectBank Rp0 on) near e = refl
    effect_by inside m (syms.SelectBank Rp1 false) near e = refl
    effect_by inside m (syms.SelectBank Rp1 true) near e = by (all_near (layout_of x.placed)) refl
      where
        goes_on : Effect
        goes_on = Quiet (banked_thread (record { rest = None; at = Some to; stack = stack; registers = r; bits = selected x.pages q.block (syms.SelectBank Rp1 true) b })) None

        by : (c : Bool) → all_near (layout_of x.placed) ≡ c → (if c then Stuck else goes_on) ≡ goes_on
        by true low = never (sym (near low))
        by false low = refl
    effect_by inside m (syms.SelectPage Low target) near e = refl
    effect_by inside m (syms.SelectPage High target) near e = refl
    effect_by inside m s' near e = never e

    effect_select : IsSound x → (inside : Bool) (m : Memory) → effect (banked_setting x) inside (banked_thread (at_select b)) m ≡ Quiet (banked_thread past) None
    unfolding effect
    effect_select sound inside m =
        effect_some (banked_setting x) inside (banked_thread (at_select b)) m q
        ∙ ap (effect_if (banked_setting x) inside q (banked_thread (at_select b)) m) fetch
        ∙ effect_by inside m s (near_select sound) select

    -- ---- as a step of the machine
    module _ (j : Joint) (due : is_due j.world ≡ false) (runs : running_twin j ≡ at_select b) where
      abbrev pub behind_joint : Joint
      behind_joint = put j past None j.world

      running_is : running (banked_machine j) ≡ banked_thread (at_select b)
      running_is = running_by banked_thread j ∙ ap banked_thread runs

      pub select_step : IsSound x → (e : Entry) (o : Outside) → lands (with x) to ≡ true → sym_step_at (banked_setting x) e o (banked_machine j) ≡ Goes (banked_machine behind_joint)
      unfolding acted
      select_step sound e o stands =
          ap (λ (c : Bool). if c then enter (banked_setting x) e x.handler (banked_machine j) else act (banked_setting x) o (banked_machine j)) due
          ∙ ap (λ (th : Thread). acted (banked_setting x) o (banked_machine j) (effect (banked_setting x) j.world.inside th j.memory)) running_is
          ∙ ap (acted (banked_setting x) o (banked_machine j)) (effect_select sound j.world.inside j.memory)
          ∙ ap (λ (c : Bool). moved (banked_machine j) (if c then Some (record { thread = banked_thread past; write = None; world = j.world }) else None)) stands
          ∙ moved_by banked_thread j past None j.world

      pub select_cost : IsSound x → (c : Prices) → step_cost_at (banked_setting x) c (banked_machine j) ≡ c.word q.block q.index
      select_cost sound c =
          ap (λ (d : Bool). if d then c.enter else thread_cost (banked_setting x) c j.world.inside (running (banked_machine j)) j.memory (running (banked_machine j)).rest) due
          ∙ ap (λ (th : Thread). thread_cost (banked_setting x) c j.world.inside th j.memory th.rest) running_is
          ∙ ap (instruction_cost c (Some q)) (effect_select sound j.world.inside j.memory)

      put_same : (f : Twin → Thread) (c : Bool) (a z t : Twin) → f t ≡ f (if c then z else a) → (f (if c then a else t) ≡ f a) × (f (if c then t else z) ≡ f z)
      put_same f true a z t e = (refl, e)
      put_same f false a z t e = (e, refl)

      pub select_plain : plain_machine x behind_joint ≡ plain_machine x j
      select_plain =
          let g : Position → Thread = λ p. record { rest = None; at = Some p; stack = (plain_thread x (at_select b)).stack; registers = r } in
          let same = put_same (plain_thread x) j.world.inside j.main j.isr past (ap g select_under ∙ ap (plain_thread x) (sym runs)) in
          let h : Thread → Thread → Machine = λ a z. record { main = a; isr = z; entries = j.entries; memory = j.memory; world = j.world } in
          ap (λ (a : Thread). h a (plain_thread x (if j.world.inside then past else j.isr))) same.0 ∙ ap (h (plain_thread x j.main)) same.1

      put_runs : (c : Bool) (a z t : Twin) → (if c then (if c then t else z) else (if c then a else t)) ≡ t
      put_runs true a z t = refl
      put_runs false a z t = refl

      pub select_runs : running_twin behind_joint ≡ past
      select_runs = put_runs j.world.inside j.main j.isr past

      pub select_joint : IsSound x → IsFineJoint x j → AreBack x q.block stack → IsFine x q b → IsFineJoint x behind_joint
      select_joint sound h open_stack here =
          fine_put x j past None j.world h (record { at = select_fine sound here; stack = subst (λ (n : BlockName). AreBack x n stack) (sym (block_behind x q)) open_stack })
