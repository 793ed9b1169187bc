-- A micro-step of the source, and where byte code comes to: from the laws of each focus. Where an interrupt is enabled and no handler is
-- there, the source goes on to its next step that counts, which is undefined, and byte code waits. The costs are within the prices.
use Rattle.std.proofs.Common.{◌≡◌, ℕ, ◌<◌, ◌≤◌, ◌⊎◌, inl, inr, Bool, true, false, not, ◌&&◌, if◌then◌else◌, List, ◌∷◌, Option, Some, None, map, refl, sym, ap, ◌∙◌, subst, ⊎_elim, arith}
use Rattle.std.specs.List.{All}
use Rattle.c_typed.specs.declared.statement.TCase.{TCase}
use Rattle.core_code.specs.Machine.{Machine}
use Rattle.pic_world.proofs.WorldLaws.{arrived_again, arrived_inside, arrived_trace}
use Rattle.pic_world.specs.Roots.{same_root}
use Rattle.pic_world.specs.World.{World, Happening, arrived, is_due, world_as, event_as}
use Rattle.pic_world.specs.declared.Root.{Root}
use Rattle.pic_world.specs.declared.Root.TheVariants.{Main, Isr}
use Rattle.src_rules.proofs.Changes.{events_count}
use Rattle.src_rules.specs.State.{State, Outcome, Went, Undefined, Idle, Lost, state}
use Rattle.src_rules.specs.Step.{copy_of, is_some_line, act, enter, refused, interrupted, enters, counts, step}
use Rattle.src_values.specs.Control.{Focus, Eval, Find, Holds, Found, Run, Past, Fetch, Skim, Write, PutBit, CopyRead, CopyWrite, Spell, Blank, Calls, Leaves, Compares, Over, Turns, Pending, Doing, Before}
use Rattle.src_values.specs.Counting.{counted_line}
use Rattle.src_values.specs.Data.{Datum}
use Rattle.src_values.specs.Memory as source
use Rattle.src_values.specs.Objects.{handler_in}
use Rattle.src_values.specs.declared.objects.Byte.{Byte}
use Rattle.src_values.specs.declared.objects.CopyOf.{CopyOf}
use Rattle.src_values.specs.declared.objects.Spot.{Spot}
use Rattle.c_typed.specs.Trees as tree
use Rattle.lower_trace.specs.Lowering.{IsLowerable}
use Rattle.lower_trace.proofs.Beginnings.{Follow}
use Rattle.lower_trace.proofs.CodeLeft.{Scene, core_in, held, source_in}
use Rattle.lower_trace.proofs.Ends.{Again}
use Rattle.lower_trace.proofs.Entering.{enters_goes, bool_cases}
use Rattle.lower_trace.proofs.Known.{Known, around}
use Rattle.lower_trace.proofs.Leads.{Meets, Led, Law, comes_map, led_nowhere}
use Rattle.lower_trace.proofs.LedStatements.{evals, finds, runs_on, goes_past, repeats_past}
use Rattle.lower_trace.proofs.LedWaits.{waits_on}
use Rattle.lower_trace.proofs.Leaving.{IsResumable}
use Rattle.lower_trace.proofs.Mirrors.{Mirrors}
use Rattle.lower_trace.proofs.Operations.{Comes, comes_here}
use Rattle.lower_trace.proofs.Prices.{most_at, least_at}
use Rattle.lower_trace.proofs.Scenes.{scene_laws}
use Rattle.lower_trace.proofs.Surroundings.{mains_apart}
use Rattle.lower_trace.proofs.Waiting.{waits_quiet, waits_world}

-- The laws of what follows a value, a place or an access, and of calls.
pub record NodeLaws (z : Scene) : Type 0 where
  pub values : (v : Datum) (k : List Pending) → Law z (Holds v) k
  pub places : (spot : Spot) (k : List Pending) → Law z (Found spot) k
  pub fetches : (spot : Spot) (read : List Byte) (k : List Pending) → Law z (Fetch spot read) k
  pub skims : (spot : Spot) (left : ℕ) (byte : Option Byte) (k : List Pending) → Law z (Skim spot left byte) k
  pub writes : (spot : Spot) (v : Datum) (at : ℕ) (k : List Pending) → Law z (Write spot v at) k
  pub bits : (register number : ℕ) (v : Datum) (old : ℕ) (k : List Pending) → Law z (PutBit register number v old) k
  pub copy_reads : (to from : Spot) (left : ℕ) (k : List Pending) → Law z (CopyRead to from left) k
  pub copy_writes : (to from : Spot) (byte : Byte) (left : ℕ) (k : List Pending) → Law z (CopyWrite to from byte left) k
  pub spells : (spot : Spot) (text : List ℕ) (left : ℕ) (k : List Pending) → Law z (Spell spot text left) k
  pub blanks : (at left : ℕ) (k : List Pending) → Law z (Blank at left) k
  pub calls : (k : List Pending) → Law z Calls k
  pub leavings : (v : Datum) (k : List Pending) → Law z (Leaves v) k
  pub compares : (v : Datum) (labels : List TCase) (k : List Pending) → Law z (Compares v labels) k

-- An interrupt is enabled and no handler is there: the next step that counts is undefined.
pub record Doomed (z : Scene) (t : State) (c : Machine) : Type 0 where
  pub due : is_due (arrived z.outside t.world) ≡ true
  pub none : handler_in z.program ≡ None
  pub trace : c.world.trace ≡ map (event_as (held z)) t.world.trace

-- Which machines stand for a state of the source.
abbrev pub Relates : Scene → State → Machine → Type 0
Relates z t c = Meets z t c ⊎ Doomed z t c

-- ---- what a micro-step may cost byte code, and costs at least
-- Where an interrupt is enabled the handler is entered. If none is there, byte code waits.
abbrev pub entry_most : Option ℕ → ℕ
entry_most None = 0
entry_most (Some handler) = 100

abbrev pub entry_least : Option ℕ → ℕ
entry_least None = 0
entry_least (Some handler) = 1

unfoldable pub step_at_most : Scene → State → ℕ
step_at_most z t = if is_due (arrived z.outside t.world) then entry_most (handler_in z.program) else most_at z.program t.focus t.stack

unfoldable pub step_at_least : Scene → State → ℕ
step_at_least z t = if is_due (arrived z.outside t.world) then entry_least (handler_in z.program) else least_at z.program t.focus t.stack

pub record Stepped (z : Scene) (t : State) (c : Machine) (u : State) : Type 0 where
  pub most : ℕ
  pub least : ℕ
  pub comes : Comes (core_in z) (Relates z u) most least c
  pub low : most ≤ step_at_most z t
  pub high : step_at_least z t ≤ least

-- where no interrupt is enabled the prices are those of the focus and the stack
pub most_free : (z : Scene) (t : State) → is_due (arrived z.outside t.world) ≡ false → step_at_most z t ≡ most_at z.program t.focus t.stack
unfolding step_at_most
most_free z t e = ap (λ b. if b then entry_most (handler_in z.program) else most_at z.program t.focus t.stack) e

pub least_free : (z : Scene) (t : State) → is_due (arrived z.outside t.world) ≡ false → step_at_least z t ≡ least_at z.program t.focus t.stack
unfolding step_at_least
least_free z t e = ap (λ b. if b then entry_least (handler_in z.program) else least_at z.program t.focus t.stack) e

-- and where one is, those of the handler
pub most_entry : (z : Scene) (t : State) (o : Option ℕ) → is_due (arrived z.outside t.world) ≡ true → handler_in z.program ≡ o → step_at_most z t ≡ entry_most o
unfolding step_at_most
most_entry z t o e h = ap (λ b. if b then entry_most (handler_in z.program) else most_at z.program t.focus t.stack) e ∙ ap entry_most h

pub least_entry : (z : Scene) (t : State) (o : Option ℕ) → is_due (arrived z.outside t.world) ≡ true → handler_in z.program ≡ o → step_at_least z t ≡ entry_least o
unfolding step_at_least
least_entry z t o e h = ap (λ b. if b then entry_least (handler_in z.program) else least_at z.program t.focus t.stack) e ∙ ap entry_least h

-- ---- traces agree
again_trace : (z : Scene) (cp : CopyOf) (x : Focus) (k : List Pending) (l : source.Memory) (w : World Byte) (c : Machine) → Again z cp x k l w c → arrived z.outside c.world ≡ world_as (held z) (arrived z.outside w)
again_trace z cp Past (Doing (tree.Loop shape begins condition step body line) Turns ∷ k) l w c a = a.world
again_trace z cp Past (Before ss ∷ k) l w c a = a.placed.world
again_trace z cp _ _ l w c a = absurd a

worlds_trace : (z : Scene) (w : World Byte) (c : Machine) → arrived z.outside c.world ≡ world_as (held z) (arrived z.outside w) → c.world.trace ≡ map (event_as (held z)) w.trace
unfolding arrived world_as
worlds_trace z w c e = ap (λ v. v.trace) e

pub meets_trace : (z : Scene) (t : State) (c : Machine) → Meets z t c → c.world.trace ≡ map (event_as (held z)) t.world.trace
meets_trace z t c (inl h) = worlds_trace z t.world c h.world
meets_trace z t c (inr (inl h)) = worlds_trace z t.world c (again_trace z t.copy t.focus t.stack t.memory t.world c h.0)
meets_trace z t c (inr (inr h)) = worlds_trace z t.world c (waits_world z t c h)

pub relates_trace : (z : Scene) (t : State) (c : Machine) → Relates z t c → c.world.trace ≡ map (event_as (held z)) t.world.trace
relates_trace z t c (inl h) = meets_trace z t c h
relates_trace z t c (inr h) = h.trace

-- ---- outcomes
refused_went : (line : Option ℕ) (next : Outcome) (u : State) (event : Option (Happening Byte)) → refused line next ≡ Went u event → is_some_line line ≡ false
refused_went None next u event e = refl
refused_went (Some line) (Went t event') u event e = absurd (cc)
refused_went (Some line) (Undefined kind at) u event e = absurd (cc)
refused_went (Some line) Idle u event e = absurd (cc)
refused_went (Some line) Lost u event e = absurd (cc)

apart : true ≡ false → ⊥
apart e = cc

due_outside : (w : World Byte) → is_due w ≡ true → w.inside ≡ false
unfolding is_due
due_outside w e = by w.inside _ e
  where
    by : (b d : Bool) → (not b && d) ≡ true → b ≡ false
    by true d e = absurd (cc)
    by false d e = refl

main_root : (r : Root) → same_root r Isr ≡ false → r ≡ Main
main_root Main e = refl
main_root Isr e = absurd (cc)

module _ (z : Scene) (given : IsLowerable z.program z.copies) (input : All (λ byte. byte < 256) z.outside.input) (nodes : NodeLaws z) where
  ends : (k : List Pending) → Law z Over k
  unfolding act
  ends k cp l w c known due h = led_nowhere z Over k c _ (λ q n. tt)

  -- the law of each focus
  pub law : (x : Focus) (k : List Pending) → Law z x k
  law (Eval e) k = evals z given input e k
  law (Find place) k = finds z given input place k
  law (Holds v) k = nodes.values v k
  law (Found spot) k = nodes.places spot k
  law (Run t) k = runs_on z given input t k
  law Past k = goes_past z given input k
  law (Fetch spot read) k = nodes.fetches spot read k
  law (Skim spot left byte) k = nodes.skims spot left byte k
  law (Write spot v at) k = nodes.writes spot v at k
  law (PutBit register number v old) k = nodes.bits register number v old k
  law (CopyRead to from left) k = nodes.copy_reads to from left k
  law (CopyWrite to from byte left) k = nodes.copy_writes to from byte left k
  law (Spell spot text left) k = nodes.spells spot text left k
  law (Blank at left) k = nodes.blanks at left k
  law Calls k = nodes.calls k
  law (Leaves v) k = nodes.leavings v k
  law (Compares v labels) k = nodes.compares v labels k
  law Over k = ends k

  again_led : (x : Focus) (k : List Pending) (cp : CopyOf) (l : source.Memory) (w : World Byte) (c : Machine) → Known z (state cp x k l w) → is_due (arrived z.outside w) ≡ false → Again z cp x k l w c → Led z x k c (act (source_in z) x k cp l (arrived z.outside w))
  unfolding act
  again_led Past k cp l w c known due a = repeats_past z given input k cp l w c known due a
  again_led _ k cp l w c known due a = absurd a

  meets_led : (t : State) (c : Machine) → Known z t → is_due (arrived z.outside t.world) ≡ false → Meets z t c → Led z t.focus t.stack c (act (source_in z) t.focus t.stack t.copy t.memory (arrived z.outside t.world))
  meets_led t c known due (inl h) = law t.focus t.stack t.copy t.memory t.world c known due h
  meets_led t c known due (inr (inl h)) = again_led t.focus t.stack t.copy t.memory t.world c known due h.0
  meets_led t c known due (inr (inr h)) = waits_on z given input t c known due h

  stepped_by : (t : State) (c : Machine) (u : State) (event : Option (Happening Byte)) → is_due (arrived z.outside t.world) ≡ false → Led z t.focus t.stack c (Went u event) → Stepped z t c u
  stepped_by t c u event free d =
      let low = d.low in
      let high = d.high in
      let m = most_free z t free in
      let n = least_free z t free in
      record { most = d.most; least = d.least; comes = comes_map (core_in z) (Meets z u) (Relates z u) d.most d.least c (λ m h. inl h) d.on; low = omega arith; high = omega arith }

  -- ---- no handler is there
  dooms : (t : State) (c : Machine) (u : State) (event : Option (Happening Byte)) → is_due (arrived z.outside t.world) ≡ true → handler_in z.program ≡ None → c.world.trace ≡ map (event_as (held z)) t.world.trace → step (source_in z) t ≡ Went u event → Stepped z t c u
  unfolding step counts enters
  dooms t c u event due none same e =
      let w = arrived z.outside t.world in
      let now : refused (counted_line z.program t.copy t.focus t.stack) (act (source_in z) t.focus t.stack t.copy t.memory w) ≡ Went u event =
      sym (ap (λ b. if b then interrupted (source_in z) (handler_in z.program) t.focus t.stack t.copy t.memory w else act (source_in z) t.focus t.stack t.copy t.memory w) due ∙ ap (λ o. interrupted (source_in z) o t.focus t.stack t.copy t.memory w) none) ∙ e in
      let line = refused_went (counted_line z.program t.copy t.focus t.stack) (act (source_in z) t.focus t.stack t.copy t.memory w) u event now in
      let free : counts (source_in z) t ≡ false =
      ap (λ b. if b && is_some_line (handler_in z.program) then true else is_some_line (counted_line z.program t.copy t.focus t.stack)) due
      ∙ ap (λ o. if is_some_line o then true else is_some_line (counted_line z.program t.copy t.focus t.stack)) none ∙ line in
      let world = (events_count (source_in z) t u event e free).1 in
      let again : arrived z.outside u.world ≡ arrived z.outside t.world = ap (arrived z.outside) world ∙ arrived_again z.outside t.world in
      let trace : u.world.trace ≡ t.world.trace = ap (λ v. v.trace) world ∙ arrived_trace z.outside t.world in
      let paid = least_entry z t None due none in
      record {
        most = 0;
        least = 0;
        low = omega arith;
        high = omega arith;
        comes = comes_here (core_in z) (Relates z u) c (inr (record { due = ap is_due again ∙ due; none = none; trace = same ∙ ap (map (event_as (held z))) (sym trace) }));
      }

  -- ---- the handler is entered
  enters_led : (h : ℕ) (t : State) (c : Machine) (u : State) (event : Option (Happening Byte)) → Known z t → is_due (arrived z.outside t.world) ≡ true → handler_in z.program ≡ Some h → Meets z t c → step (source_in z) t ≡ Went u event → Stepped z t c u
  unfolding step enters
  enters_led h t c u event known due some (inr (inl a)) e =
      let inside : enters (source_in z) t ≡ true = ap (λ b. b && is_some_line (handler_in z.program)) due ∙ ap is_some_line some in
      absurd (apart (sym inside ∙ a.1))
  enters_led h t c u event known due some (inr (inr a)) e = absurd (apart (sym due ∙ waits_quiet z t c a))
  enters_led h t c u event known due some (inl m) e =
      let w = arrived z.outside t.world in
      let s = known.stands in
      let laws = scene_laws z given in
      let inside : enters (source_in z) t ≡ true = ap (λ b. b && is_some_line (handler_in z.program)) due ∙ ap is_some_line some in
      let resumable : IsResumable t.focus = ⊎_elim (λ r. r) (λ no. absurd (apart (sym inside ∙ no))) known.quiet in
      let root : t.copy.root ≡ Main = main_root t.copy.root (sym s.inside ∙ sym (arrived_inside z.outside t.world) ∙ due_outside w due) in
      let now : enter z.program h t.focus t.stack t.copy t.memory w ≡ Went u event =
      sym (ap (λ b. if b then interrupted (source_in z) (handler_in z.program) t.focus t.stack t.copy t.memory w else act (source_in z) t.focus t.stack t.copy t.memory w) due ∙ ap (λ o. interrupted (source_in z) o t.focus t.stack t.copy t.memory w) some) ∙ e in
      let handler = (laws.handles h some).0 in
      let f = enters_goes z laws h t.copy t.focus t.stack t.memory t.world c some s.reached root resumable (mains_apart z laws (copy_of Isr h) t.copy t.stack refl root handler s.stack) (around z given input t known).mains due m in
      let on : Follow z 100 1 c (Went u event) = subst (Follow z 100 1 c) now f in
      let m = most_entry z t (Some h) due some in
      let n = least_entry z t (Some h) due some in
      record { most = 100; least = 1; low = omega arith; high = omega arith; comes = comes_map (core_in z) (Mirrors z u) (Relates z u) 100 1 c (λ d q. inl (inl q)) on }

  -- A micro-step that goes on is followed.
  pub step_led : (t : State) (c : Machine) (u : State) (event : Option (Happening Byte)) → Known z t → Relates z t c → step (source_in z) t ≡ Went u event → Stepped z t c u
  unfolding step
  step_led t c u event known (inr d) e = dooms t c u event d.due d.none d.trace e
  step_led t c u event known (inl m) e =
      ⊎_elim
      (λ due. by_handler (handler_in z.program) refl due)
      (λ free.
      let now : act (source_in z) t.focus t.stack t.copy t.memory (arrived z.outside t.world) ≡ Went u event =
      sym (ap (λ b. if b then interrupted (source_in z) (handler_in z.program) t.focus t.stack t.copy t.memory (arrived z.outside t.world) else act (source_in z) t.focus t.stack t.copy t.memory (arrived z.outside t.world)) free) ∙ e in
      stepped_by t c u event free (subst (Led z t.focus t.stack c) now (meets_led t c known free m)))
      (bool_cases (is_due (arrived z.outside t.world)))
    where
      by_handler : (o : Option ℕ) → handler_in z.program ≡ o → is_due (arrived z.outside t.world) ≡ true → Stepped z t c u
      by_handler (Some h) some due = enters_led h t c u event known due some m e
      by_handler None none due = dooms t c u event due none (meets_trace z t c m) e
