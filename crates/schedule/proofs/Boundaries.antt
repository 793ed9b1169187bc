-- What happens between two instructions of a run, and the instruction after it.
use Rattle.std.specs.Prelude.{if◌then◌else◌, ◌&&◌, ◌||◌}
use Rattle.std.proofs.Common.{◌≡◌, ℕ, suc, ◌+◌, Bool, true, false, not, Option, Some, None, refl, sym, ap, ◌∙◌, subst, arith}
use Rattle.pic_chip.specs.declared.access.Accesses.{Accesses}
use Rattle.pic_chip.specs.declared.access.StepEnd.{StepEnd}
use Rattle.pic_chip.specs.declared.access.StepEnd.TheVariants.{Done, Unmodelled}
use Rattle.pic_chip.specs.State.{State, reset}
use Rattle.pic_chip.specs.Act.{perform}
use Rattle.pic_chip.specs.Instructions.{execute, fetched, is_modelled, is_return_from_interrupt}
use Rattle.pic_chip.specs.Interrupts.{control_of, raised, begun}
use Rattle.pic_chip.specs.Machine.{Machine, stop_at, index_after}
use Rattle.pic_chip.specs.Run.{Setting, Moment, moment, takes, is_handling}
use Rattle.pic_chip.specs.Seen.{stopped_at}
use Rattle.pic_world.specs.Arrivals.{arriving}
use Rattle.pic_world.specs.Control.{is_due}
use Rattle.schedule.specs.Watching.{IsRunAt}
use Rattle.schedule.proofs.Moments.{observed_keeps, goes_on, ends_here, next_step}

-- ---- the first moment
pub run_starts : (g : Setting) (chip : Machine) (inside : Bool) → chip ≡ record { state = reset g.start; index = 0 } → inside ≡ false → IsRunAt g 0 chip inside
unfolding moment
run_starts g chip inside e h = record {
  state = ap (λ (c : Machine). c.state) e;
  index = ap (λ (c : Machine). c.index) e;
  handling = h;
  going = refl;
}

-- ---- a boundary, where the flags of a mask arrive
pub taken_is : (g : Setting) (k mask : ℕ) (chip : Machine) (inside taken : Bool) → IsRunAt g k chip inside → mask ≡ arriving g.arrivals k → taken ≡ is_due (control_of (raised mask chip.state))
    → taken ≡ takes (arriving g.arrivals k) (moment g k)
taken_is g k mask chip inside taken at m e =
    e
    ∙ ap (λ (n : ℕ). is_due (control_of (raised n chip.state))) m
    ∙ ap (λ (s : State). is_due (control_of (raised (arriving g.arrivals k) s))) at.state

pub busy_is : (g : Setting) (k mask : ℕ) (chip : Machine) (inside taken : Bool) → IsRunAt g k chip inside → mask ≡ arriving g.arrivals k → taken ≡ is_due (control_of (raised mask chip.state))
    → (inside || taken) ≡ is_handling (arriving g.arrivals k) (moment g k)
busy_is g k mask chip inside taken at m e =
    ap (λ (b : Bool). b || taken) at.handling ∙ ap (λ (b : Bool). (moment g k).handling || b) (taken_is g k mask chip inside taken at m e)

returns_are : (g : Setting) (k mask : ℕ) (chip : Machine) (inside returns : Bool) → IsRunAt g k chip inside → mask ≡ arriving g.arrivals k → returns ≡ is_return_from_interrupt (fetched g.image (begun mask chip.state))
    → returns ≡ is_return_from_interrupt (fetched g.image (begun (arriving g.arrivals k) (moment g k).state))
returns_are g k mask chip inside returns at m e =
    e
    ∙ ap (λ (n : ℕ). is_return_from_interrupt (fetched g.image (begun n chip.state))) m
    ∙ ap (λ (s : State). is_return_from_interrupt (fetched g.image (begun (arriving g.arrivals k) s))) at.state

-- ---- the instruction
modelled : (b : Bool) (pc : ℕ) → None ≡ (if b then None else Some pc) → b ≡ true
modelled true pc h = refl
modelled false pc h = absurd (cc)

not_modelled : (b : Bool) (pc at : ℕ) → Some at ≡ (if b then None else Some pc) → b ≡ false
not_modelled true pc at h = absurd (cc)
not_modelled false pc at h = refl

going : (a b : Bool) → a ≡ false → b ≡ true → (a || not b) ≡ false
going false true h k = refl
going true b h k = absurd (cc)
going false false h k = absurd (cc)

ended : (a b : Bool) → b ≡ false → (a || not b) ≡ true
ended true b h = refl
ended false false h = refl
ended false true h = absurd (cc)

-- the state in which it runs
begins_in : (g : Setting) (k : ℕ) (chip : Machine) (inside : Bool) → IsRunAt g k chip inside → begun (arriving g.arrivals chip.index) chip.state ≡ begun (arriving g.arrivals k) (moment g k).state
begins_in g k chip inside at =
    ap (λ (n : ℕ). begun (arriving g.arrivals n) chip.state) at.index ∙ ap (begun (arriving g.arrivals k)) at.state

module _ (g : Setting) (k : ℕ) (old new : Machine) (inside now taken returns : Bool) (mask : ℕ)
    (at : IsRunAt g k old inside)
    (mask_is : mask ≡ arriving g.arrivals k)
    (taken_at : taken ≡ is_due (control_of (raised mask old.state)))
    (returns_at : returns ≡ is_return_from_interrupt (fetched g.image (begun mask old.state)))
    (inside_is : now ≡ ((inside || taken) && not returns))
    (state_is : new.state ≡ perform (execute g.image g.inputs) (begun (arriving g.arrivals old.index) old.state))
    (index_is : new.index ≡ index_after g.image (begun (arriving g.arrivals old.index) old.state) old.index) where
  pub run_goes : None ≡ stop_at g.image (begun (arriving g.arrivals old.index) old.state) → IsRunAt g (suc k) new now
  run_goes h =
      let s = begun (arriving g.arrivals old.index) old.state in
      let on : is_modelled (fetched g.image s) ≡ true = modelled (is_modelled (fetched g.image s)) s.pc h in
      let there = begins_in g k old inside at in
      let on_there : is_modelled (fetched g.image (begun (arriving g.arrivals k) (moment g k).state)) ≡ true = ap (λ (t : State). is_modelled (fetched g.image t)) (sym there) ∙ on in
      let next = goes_on g k (going (moment g k).stopped _ at.going on_there) in
      let same = observed_keeps g.watch (next_step g k) in
      let one : k + 1 ≡ suc k = omega arith in
      record {
        state = state_is ∙ ap (perform (execute g.image g.inputs)) there ∙ sym same.state ∙ ap (λ (m : Moment). m.state) (sym next);
        index = index_is ∙ ap (λ (b : Bool). if b then old.index + 1 else old.index) on ∙ ap (λ (n : ℕ). n + 1) at.index ∙ one;
        handling = inside_is
            ∙ ap (λ (b : Bool). b && not returns) (busy_is g k mask old inside taken at mask_is taken_at)
            ∙ ap (λ (b : Bool). is_handling (arriving g.arrivals k) (moment g k) && not b) (returns_are g k mask old inside returns at mask_is returns_at)
            ∙ sym same.handling ∙ ap (λ (m : Moment). m.handling) (sym next);
        going = ap (λ (m : Moment). m.stopped) next ∙ same.stopped ∙ at.going;
      }

  pub run_goes_on : None ≡ stop_at g.image (begun (arriving g.arrivals old.index) old.state) → IsRunAt g (k + 1) new now
  run_goes_on h = let one : suc k ≡ k + 1 = omega arith in subst (λ (n : ℕ). IsRunAt g n new now) one (run_goes h)

-- where the model goes no further, the run has ended
pub run_ends : (g : Setting) (k : ℕ) (chip : Machine) (inside : Bool) (pc : ℕ) → IsRunAt g k chip inside → Some pc ≡ stop_at g.image (begun (arriving g.arrivals chip.index) chip.state) → (moment g (suc k)).stopped ≡ true
run_ends g k chip inside pc at h =
    let s = begun (arriving g.arrivals chip.index) chip.state in
    let off : is_modelled (fetched g.image s) ≡ false = not_modelled (is_modelled (fetched g.image s)) s.pc pc h in
    let there = begins_in g k chip inside at in
    ends_here g k (ended (moment g k).stopped _ (ap (λ (t : State). is_modelled (fetched g.image t)) (sym there) ∙ off))
