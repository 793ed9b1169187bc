-- Events of a run of the source, as a map of the program shows them, have names in it.
use Rattle.std.proofs.Common.{◌≡◌, ℕ, Option, Some, None, List, [], ◌∷◌, map, length, sym, ◌∙◌, subst, arith, option_map}
use Rattle.c_typed.specs.Trees.{Program}
use Rattle.program_laws.proofs.Traces.{taken_named}
use Rattle.program_laws.specs.EventNames.{AllNamed, IsNamed, IsNamedCell, IsNamedIfAny, MakesNamed}
use Rattle.pic_map.specs.EventText.{CanBeShown, HasName}
use Rattle.pic_map.specs.MapContent.{MapContent}
use Rattle.pic_world.specs.World.{Happening, ReadOf, WriteOf, Ended}
use Rattle.pic_world.specs.declared.Cell.{Cell}
use Rattle.pic_world.specs.declared.Cell.TheVariants.{Device, Static}
use Rattle.pic_world.specs.declared.Event.{Event}
use Rattle.picc_cli.specs.Trace.{AllShown}
use Rattle.src_machine.specs.Sources.{TellsNext, event_in}
use Rattle.src_machine.specs.Steps.{IsGiven}
use Rattle.src_machine.specs.declared.machine.SrcEnd.TheVariants as ends
use Rattle.src_machine.specs.declared.progress.Source.{Source}
use Rattle.src_memory.specs.Shown.{address_of, shown}
use Rattle.src_rules.specs.Runs.{after, take}
use Rattle.src_rules.specs.State.{Outcome, Went, Undefined, Idle, Lost}
use Rattle.src_values.specs.Memory.{Setting}
use Rattle.src_values.specs.declared.objects.Byte.{Byte}
use Rattle.src_values.specs.declared.objects.Object.{Object}

module _ (p : Program) (content : MapContent) (objects : length content.objects ≡ length p.statics) (address : Object → ℕ) where
  cell_shown : (cell : Cell) → IsNamedCell p cell → HasName content cell
  cell_shown (Device register) h = h
  cell_shown (Static object offset) h = let there = h.0 in omega (arith, there, objects)

  event_shown : (event : Happening Byte) → IsNamed p event → CanBeShown content (shown address event)
  unfolding shown
  event_shown (ReadOf cell byte) h = cell_shown cell h
  event_shown (WriteOf cell byte) h = cell_shown cell h
  event_shown Ended h = tt

  pub all_shown : (events : List (Happening Byte)) → AllNamed p events → AllShown content (map (shown address) events)
  all_shown [] h = tt
  all_shown (event ∷ events) h = (event_shown event h.0, all_shown events h.1)

  told_shown : (made : Option (Happening Byte)) (event : Event) → Some event ≡ option_map (shown address) made → IsNamedIfAny p made → CanBeShown content event
  told_shown None event e h = absurd (cc)
  told_shown (Some x) event e h = let same : event ≡ shown address x = cc in subst (CanBeShown content) (sym same) (event_shown x h)

  made_shown : (out : Outcome) (event : Event) → Some event ≡ option_map (shown address) (event_in out) → MakesNamed p out → CanBeShown content event
  made_shown (Went u made) event e h = told_shown made event e h
  made_shown (Undefined kind line) event e h = absurd (cc)
  made_shown Idle event e h = absurd (cc)
  made_shown Lost event e h = absurd (cc)

-- the event of the step behind so many
pub next_shown : (s : Setting) (content : MapContent) (n : ℕ) (told : Option Event) (event : Event) (next : Source) → IsGiven s → length content.objects ≡ length s.program.statics → told ≡ Some event
    → TellsNext s content n (ends.Went told) next → CanBeShown content event
next_shown s content n told event next given objects is tells =
    made_shown s.program content objects (address_of s.program content) (take s (after s n)) event (sym is ∙ tells.1) (taken_named s given.proper given.bytes n)
