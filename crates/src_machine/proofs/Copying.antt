-- A source of the code that was copied follows the same run.
use Rattle.std.proofs.Common.{◌≡◌, ◌≤◌, ◌<◌, ◌^◌, ℕ, reverse, sym, ap, ◌∙◌, subst}
use Rattle.std.specs.Vec.{vec_capacity}
use Rattle.c_typed.specs.Views.{program_of}
use Rattle.pic_map.specs.MapContent.{MapContent}
use Rattle.pic_world.specs.World.{World}
use Rattle.src_machine.proofs.Ready.{more_room}
use Rattle.src_machine.specs.Copied.{IsCopyOf}
use Rattle.src_machine.specs.Progress.{main_steps_of, runs_of, undefined_in}
use Rattle.src_machine.specs.Seen.{state_in}
use Rattle.src_machine.specs.Sources.{IsBehind, IsSource}
use Rattle.src_machine.specs.Steps.{IsOnRun}
use Rattle.src_machine.specs.declared.machine.Machine.{Machine}
use Rattle.src_machine.specs.declared.progress.Source.{Source}
use Rattle.src_memory.proofs.Clones.{bytes_clone, shape_clones}
use Rattle.src_memory.specs.Seen.{IsWorld, events_of}
use Rattle.src_rules.specs.State.{state}
use Rattle.src_values.specs.Memory.{Setting}
use Rattle.src_values.specs.Seen.{focus_in, frames_in}
use Rattle.src_values.specs.declared.objects.Byte.{Byte}

same_state : (a b : Machine) → IsCopyOf a b → (w : World Byte) → state_in b w ≡ state_in a w
same_state a b c w = λ i. state (c.copy i) (focus_in (c.focus i)) (frames_in (focus_in (c.interrupted i)) (reverse (c.items i))) (bytes_clone a.memory b.memory c.memory i) w

pub copied : (s : Setting) (map : MapContent) (n : ℕ) (a b : Source) → IsCopyOf a.machine b.machine → main_steps_of b ≡ main_steps_of a → runs_of b ≡ runs_of a → undefined_in b ≡ undefined_in a → IsSource s map n a → IsSource s map n b
copied s map n a b c m r d h =
    let can = h.can in
    let same = same_state a.machine b.machine c h.world in
    record {
      world = h.world;
      can = record {
        given = can.given;
        at = record {
          program = can.at.program ∙ ap (λ q. program_of q.now) (sym c.program);
          shaped = shape_clones s.program map a.machine.memory b.machine.memory c.memory can.at.shaped;
          world = subst (λ v. IsWorld s.outside v h.world) (sym c.world) can.at.world;
          few = subst (λ v. events_of v < 2 ^ 60) (sym c.world) can.at.few;
        };
        handler = c.handler ∙ can.handler;
        run = subst (IsOnRun s) (sym same) can.run;
        room = more_room s (vec_capacity a.machine.stack) (vec_capacity b.machine.stack) can.room c.room;
      };
      behind = subst (IsBehind s n) (sym same) h.behind;
      few = subst (λ v. events_of v ≤ n) (sym c.world) h.few;
      main_steps = m ∙ h.main_steps;
      runs = r ∙ h.runs;
      defined = d ∙ h.defined;
    }
