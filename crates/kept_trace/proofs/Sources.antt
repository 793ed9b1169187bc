-- What is seen of a kept run is what is seen of the source's run.
use Rattle.std.proofs.Common.{◌≡◌, ℕ, Bool, true, false, not, if◌then◌else◌, List, [], ◌∷◌, map, refl, sym, ap, ◌∙◌}
use Rattle.std.specs.List.{filter}
use Rattle.pic_world.specs.World.{Happening, ReadOf, WriteOf, Ended}
use Rattle.pic_world.specs.declared.Event.{Event}
use Rattle.src_memory.specs.Shown.{address_of, shown}
use Rattle.src_rules.specs.State.{State, Outcome}
use Rattle.src_rules.specs.Step.{step}
use Rattle.src_values.specs.declared.objects.Byte.{Byte}
use Rattle.src_values.specs.declared.objects.Object.{Object}
use Rattle.headline.specs.SourceOf.{is_undefined}
use Rattle.kept_trace.specs.Kept.{is_kept, kept_events, with_schedule, setting_of, kept_moment}
use Rattle.kept_trace.specs.KeptSource.{is_kept_shown, KeptSourceIsTheSource}
use Rattle.kept_trace.proofs.Schedules.{kept_runs}

event_kept : (kept : List Bool) (address : Object → ℕ) (e : Happening Byte) → is_kept_shown kept (shown address e) ≡ is_kept kept e
unfolding shown
event_kept kept address (ReadOf cell byte) = refl
event_kept kept address (WriteOf cell byte) = refl
event_kept kept address Ended = refl

shown_kept : (kept : List Bool) (address : Object → ℕ) (es : List (Happening Byte)) → map (shown address) (kept_events kept es) ≡ filter (is_kept_shown kept) (map (shown address) es)
shown_kept kept address [] = refl
shown_kept kept address (e ∷ es) =
    by (is_kept kept e)
    ∙ ap (λ (b : Bool). if b then shown address e ∷ map (shown address) (kept_events kept es) else map (shown address) (kept_events kept es)) (sym (event_kept kept address e))
    ∙ ap (λ (r : List Event). if is_kept_shown kept (shown address e) then shown address e ∷ r else r) (shown_kept kept address es)
  where
    by : (b : Bool) → map (shown address) (if b then e ∷ kept_events kept es else kept_events kept es) ≡ (if b then shown address e ∷ map (shown address) (kept_events kept es) else map (shown address) (kept_events kept es))
    by true = refl
    by false = refl

pub kept_source : KeptSourceIsTheSource
kept_source p kept content o n =
    let made = kept_runs p kept o n in
    let s = setting_of p (with_schedule o made.0) in (
      made.0,
      record {
        trace = λ i l. shown_kept kept (address_of p content) (kept_moment p kept o i).world.trace ∙ ap (λ (t : State). filter (is_kept_shown kept) (map (shown (address_of p content)) t.world.trace)) (sym (made.1.moments i l));
        is_defined = λ i l. ap (λ (out : Outcome). not (is_undefined out)) (sym (made.1.goes i l)) ∙ ap (λ (t : State). not (is_undefined (step s t))) (sym (made.1.moments i l));
        steps = λ i l. sym (made.1.steps i l);
      },
    )
