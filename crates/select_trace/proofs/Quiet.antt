-- Runs without an event and without an access through FSR are paths.
use Rattle.std.proofs.Common.{◌≡◌, ℕ, zero, suc, ◌+◌, Bool, true, false, if◌then◌else◌, Option, Some, None, refl, sym, ap, ◌∙◌, subst, arith}
use Rattle.pic_world.specs.World.{World}
use Rattle.core_code.specs.Bytes.{Held}
use Rattle.core_code.specs.Machine as core
use Rattle.sym_code.specs.Cost.{Prices, most_prices, instruction_cost, thread_cost}
use Rattle.sym_code.specs.Effect.{Thread, Memory, Rest, Write, written, Effect, Stuck, Quiet, Reads, Writes, Leaves, Ends, Rests, effect, effect_rest, effect_at}
use Rattle.sym_code.specs.Machine.{Machine, lands_at}
use Rattle.sym_code.specs.Programs.{Position}
use Rattle.sym_code.specs.Quiet.{Scene, quiet_by, quiet_run, price_at, price_if, quiet_cost}
use Rattle.select_wide.specs.Direct.{is_indirect, next_of, direct_if, direct_run}
use Rattle.select_wide.proofs.Direct.{step_direct, run_quiet, direct_open}
use Rattle.select_trace.proofs.Sites.{Site}
use Rattle.select_trace.proofs.Machines.{at, Calm, quiet_goes, cost_at}
use Rattle.select_trace.proofs.Relation.{most_at, further, Went, weaken}
use Rattle.select_trace.proofs.Steps.{opens_at}

-- what a step without an event is
record Stepped (s : Site) (i : Bool) (a b : Scene) : Type 0 where
  thread : Thread
  write : Option Write
  place : Position
  is_quiet : effect s.g i a.thread a.memory ≡ Quiet thread write
  lands : lands_at s.g.program thread.at ≡ true
  at : a.thread.at ≡ Some place
  rest : a.thread.rest ≡ None
  end : b ≡ record { thread = thread; memory = written write a.memory }

no_scene : (b : Scene) → ◌≡◌ {A = Option Scene} None (Some b) → ⊥
no_scene b e = absurd (cc)

some_scene : (a b : Scene) → Some a ≡ Some b → a ≡ b
some_scene a b e = cc

quiet_never : (x : Effect) (th : Thread) (w : Option Write) → x ≡ Quiet th w → (x ≡ Rests → ⊥) × (x ≡ Stuck → ⊥)
quiet_never x th w e = (λ z. one th w (sym e ∙ z), λ z. two th w (sym e ∙ z))
  where
    one : (th : Thread) (w : Option Write) → Quiet th w ≡ Rests → ⊥
    one th w e = absurd (cc)

    two : (th : Thread) (w : Option Write) → Quiet th w ≡ Stuck → ⊥
    two th w e = absurd (cc)

has_place : (s : Site) (i : Bool) (th : Thread) (m : Memory) (o : Option Position) (th' : Thread) (w : Option Write) → effect_at s.g i th m o ≡ Quiet th' w → (p : Position) × (o ≡ Some p)
has_place s i th m (Some p) th' w e = (p, refl)
has_place s true th m None th' w e = absurd ((quiet_never Stuck th' w e).1 refl)
has_place s false th m None th' w e = absurd ((quiet_never Rests th' w e).0 refl)

no_rest : (s : Site) (i : Bool) (th : Thread) (m : Memory) (o : Option Rest) (th' : Thread) (w : Option Write) → effect_rest s.g i th m o ≡ Quiet th' w → (o ≡ None) × (effect_at s.g i th m th.at ≡ Quiet th' w)
no_rest s i th m None th' w e = (refl, e)
no_rest s i th m (Some x) th' w e = absurd (other x th' w e)
  where
    other : (x : Rest) (th' : Thread) (w : Option Write) → Writes x.to x.byte (record th { rest = None }) ≡ Quiet th' w → ⊥
    other x th' w e = absurd (cc)

stepped_by : (s : Site) (i : Bool) (a b : Scene) (x : Effect) → effect s.g i a.thread a.memory ≡ x → quiet_by s.g.program a.memory x ≡ Some b → Stepped s i a b
unfolding effect
stepped_by s i a b (Quiet th w) e q = by (lands_at s.g.program th.at) refl q
  where
    by : (t : Bool) → lands_at s.g.program th.at ≡ t → (if t then Some (record { thread = th; memory = written w a.memory }) else None) ≡ Some b → Stepped s i a b
    by true l q =
        let n = no_rest s i a.thread a.memory a.thread.rest th w e in
        let p = has_place s i a.thread a.memory a.thread.at th w n.1 in
        record { thread = th; write = w; place = p.0; is_quiet = e; lands = l; at = p.1; rest = n.0; end = sym (some_scene _ b q) }
    by false l q = absurd (no_scene b q)
stepped_by s i a b Stuck e q = absurd (no_scene b q)
stepped_by s i a b (Reads x y) e q = absurd (no_scene b q)
stepped_by s i a b (Writes x y z) e q = absurd (no_scene b q)
stepped_by s i a b Leaves e q = absurd (no_scene b q)
stepped_by s i a b (Ends x) e q = absurd (no_scene b q)
stepped_by s i a b Rests e q = absurd (no_scene b q)

module _ (s : Site) (t : Machine) (wc : World Held) (calm : Calm s wc) (d : core.Machine) where
  step_goes : (a b : Scene) (lo hi : ℕ) → Stepped s wc.inside a b → is_indirect (next_of s.g.program a.thread.at) ≡ false → Went s (at s t b.thread b.memory wc) d lo hi → Went s (at s t a.thread a.memory wc) d lo (price_at s.price a.thread.at + hi)
  step_goes a b lo hi st direct went =
      let v = at s t a.thread a.memory wc in
      let u = at s t st.thread (written st.write a.memory) wc in
      let go : Went s u d lo hi = subst (λ (z : Scene). Went s (at s t z.thread z.memory wc) d lo hi) st.end went in
      let cost : (c : Prices) → thread_cost s.g c wc.inside a.thread a.memory a.thread.rest ≡ c.word st.place.block st.place.index = (λ c.
      ap (thread_cost s.g c wc.inside a.thread a.memory) st.rest
      ∙ ap (λ o. instruction_cost c o (effect s.g wc.inside a.thread a.memory)) st.at
      ∙ ap (instruction_cost c (Some st.place)) st.is_quiet) in
      let mo : most_at s v ≡ price_at s.price a.thread.at = cost_at s t wc calm a.thread a.memory (most_prices s.price) ∙ cost (most_prices s.price) ∙ ap (price_at s.price) (sym st.at) in
      record {
        k = suc go.k;
        u = go.u;
        path = further v u go.u go.k lo hi lo (price_at s.price a.thread.at + hi) (opens_at s t a.thread a.memory wc (direct_open s.hidden s.g.program a.thread st.rest direct)) (quiet_goes s t wc calm a.thread a.memory st.thread st.write st.is_quiet st.lands) (omega arith) (omega (arith, mo)) go.path;
        stands = go.stands;
      }

  -- so many steps, and then what follows
  pub quiet_path : (n : ℕ) (a b : Scene) (lo hi : ℕ) → direct_run s.g wc.inside n a ≡ Some b → Went s (at s t b.thread b.memory wc) d lo hi → Went s (at s t a.thread a.memory wc) d lo (quiet_cost s.g s.price wc.inside n a + hi)
  unfolding direct_run quiet_cost
  quiet_path zero a b lo hi q went =
      let e : a ≡ b = some_scene a b q in
      subst (λ (z : Scene). Went s (at s t z.thread z.memory wc) d lo (0 + hi)) (sym e) (weaken s (at s t b.thread b.memory wc) d lo hi lo (0 + hi) (omega arith) (omega arith) went)
  quiet_path (suc n) a b lo hi q went = by (direct_run s.g wc.inside n a) refl q (λ c e lo' hi' w. quiet_path n a c lo' hi' e w)
    where
      by : (o : Option Scene) → direct_run s.g wc.inside n a ≡ o → direct_if s.g wc.inside o ≡ Some b
          → ((c : Scene) → direct_run s.g wc.inside n a ≡ Some c → (lo' hi' : ℕ) → Went s (at s t c.thread c.memory wc) d lo' hi' → Went s (at s t a.thread a.memory wc) d lo' (quiet_cost s.g s.price wc.inside n a + hi'))
          → Went s (at s t a.thread a.memory wc) d lo (quiet_cost s.g s.price wc.inside n a + price_if s.price (quiet_run s.g wc.inside n a) + hi)
      by None e q ih = absurd (no_scene b q)
      by (Some c) e q ih =
          let x = step_direct s.g wc.inside c b q in
          let st = stepped_by s wc.inside c b (effect s.g wc.inside c.thread c.memory) refl x.1 in
          let p : price_if s.price (quiet_run s.g wc.inside n a) ≡ price_at s.price c.thread.at = ap (price_if s.price) (run_quiet s.g wc.inside n a c e) in
          weaken s (at s t a.thread a.memory wc) d lo (quiet_cost s.g s.price wc.inside n a + (price_at s.price c.thread.at + hi)) lo (quiet_cost s.g s.price wc.inside n a + price_if s.price (quiet_run s.g wc.inside n a) + hi) (omega arith) (omega (arith, p))
          (ih c e lo (price_at s.price c.thread.at + hi) (step_goes c b lo hi st x.0 went))
