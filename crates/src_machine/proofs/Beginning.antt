-- A machine of the code at the start of a program's run.
use Rattle.std.proofs.Common.{◌≡◌, ◌≤◌, ℕ, inl, ◌+◌, length, [], reverse, sym, ap, ◌∙◌, subst, arith}
use Rattle.std.specs.Vec.{vec_len, vec_capacity}
use Rattle.c_typed.specs.Views.{program_of}
use Rattle.pic_map.specs.MapContent.{MapContent}
use Rattle.pic_world.specs.World.{world_at_start}
use Rattle.pic_world.specs.declared.Root.TheVariants.{Main}
use Rattle.src_machine.proofs.Ready.{more_room}
use Rattle.src_machine.specs.Seen.{HasRoom, memory_of, stack_of, state_in}
use Rattle.src_machine.specs.Sources.{BeginsAt}
use Rattle.src_machine.specs.Steps.{IsGiven, IsRoom}
use Rattle.src_machine.specs.declared.machine.Machine.{Machine}
use Rattle.src_memory.specs.Seen.{IsWorld}
use Rattle.src_memory.specs.Shape.{IsShaped}
use Rattle.src_rules.specs.Runs.{run}
use Rattle.src_rules.specs.State.{state}
use Rattle.src_rules.specs.Step.{body_of, copy_of, start}
use Rattle.src_values.specs.Control.{Past}
use Rattle.src_values.specs.Memory.{Setting, first_memory}
use Rattle.src_values.specs.Objects.{handler_in, main_of}
use Rattle.src_values.specs.Seen.{focus_in, frames_in}

module _ (s : Setting) (map : MapContent) (m : Machine) where
  start_is : m.copy ≡ copy_of Main (main_of s.program) → focus_in m.focus ≡ Past → stack_of m ≡ body_of s.program (main_of s.program) [] → memory_of m ≡ first_memory s.program
      → state_in m world_at_start ≡ start s
  unfolding start
  start_is c x k h =
      ap (λ d. state d (focus_in m.focus) (stack_of m) (memory_of m) world_at_start) c
      ∙ (ap (λ y. state (copy_of Main (main_of s.program)) y (stack_of m) (memory_of m) world_at_start) x
      ∙ (ap (λ j. state (copy_of Main (main_of s.program)) Past j (memory_of m) world_at_start) k
      ∙ ap (λ g. state (copy_of Main (main_of s.program)) Past (body_of s.program (main_of s.program) []) g world_at_start) h))

  pub begins_at : IsGiven s → s.program ≡ program_of m.program.now → m.copy ≡ copy_of Main (main_of s.program) → focus_in m.focus ≡ Past → stack_of m ≡ body_of s.program (main_of s.program) []
      → memory_of m ≡ first_memory s.program → IsShaped s.program map m.memory → IsWorld s.outside m.world world_at_start → m.handler ≡ handler_in s.program → IsRoom s (vec_capacity m.stack) → BeginsAt s map m
  unfolding run
  begins_at given p c x k h shaped world handler room =
      let begin = start_is c x k h in
      let none = world.count in
      record {
        can = record {
          given = given;
          at = record { program = p; shaped = shaped; world = world; few = omega arith };
          handler = handler;
          run = record { number = 0; at = inl begin };
          room = room;
        };
        start = begin;
        events = omega arith;
      }

-- when the statements of main's body wait
pub begun : (s : Setting) (map : MapContent) (old new : Machine) → IsGiven s → s.program ≡ program_of old.program.now → length s.program.statics ≤ 65536 → new ≡ record old { stack = new.stack }
    → old.copy ≡ copy_of Main (main_of (program_of old.program.now)) → focus_in old.focus ≡ Past → old.stack.items ≡ []
    → (HasRoom 1 old → stack_of new ≡ body_of (program_of old.program.now) old.copy.function (stack_of old)) → memory_of old ≡ first_memory (program_of old.program.now)
    → (length (program_of old.program.now).statics ≤ 65536 → IsShaped (program_of old.program.now) map old.memory) → IsWorld s.outside old.world world_at_start → old.handler ≡ handler_in (program_of old.program.now)
    → (room : ℕ) → IsRoom s (room + 3) → vec_len old.stack + (room + 3) ≤ vec_capacity old.stack → vec_capacity old.stack ≤ vec_capacity new.stack → BeginsAt s map new
begun s map old new given e few others copy focus none waits memory shaped world handler room enough holds grows =
    let shape : IsShaped s.program map old.memory = subst (λ p. IsShaped p map old.memory) (sym e) (shaped (subst (λ p. length p.statics ≤ 65536) e few)) in
    let roomy : IsRoom s (vec_capacity new.stack) = more_room s (room + 3) (vec_capacity new.stack) enough (omega arith) in
    begins_at s map new given
    (e ∙ ap (λ m. program_of m.program.now) (sym others))
    (ap (λ m. m.copy) others ∙ (copy ∙ ap (λ p. copy_of Main (main_of p)) (sym e)))
    (ap (λ m. focus_in m.focus) others ∙ focus)
    (waits (omega arith) ∙ (ap (λ k. body_of (program_of old.program.now) old.copy.function (frames_in (focus_in old.interrupted) (reverse k))) none
    ∙ (ap (λ c. body_of (program_of old.program.now) c.function []) copy ∙ ap (λ p. body_of p (main_of p) []) (sym e))))
    (ap memory_of others ∙ (memory ∙ ap first_memory (sym e)))
    (subst (λ m. IsShaped s.program map m.memory) (sym others) shape)
    (subst (λ m. IsWorld s.outside m.world world_at_start) (sym others) world)
    (ap (λ m. m.handler) others ∙ (handler ∙ ap handler_in (sym e)))
    roomy
