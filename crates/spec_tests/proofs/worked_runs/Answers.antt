use Rattle.std.proofs.Common.{refl}
use Rattle.pic_world.specs.Control.{stored, with_stored, raised_by, is_due, entered, left}
use Rattle.pic_world.specs.World as world
use Rattle.pic_world.specs.World.{arrived, device_value, after_device_read, after_device_write, sets_gie}
use Rattle.spec_tests.proofs.worked_runs.Goals as goal
use Rattle.src_values.specs.Control.{active}
use Rattle.src_values.specs.Counting.{counted_line}
use Rattle.src_rules.specs.Runs.{run, steps_by, ready_within, ready, take, after, fault_after, is_idle_after, main_steps_after, runs_after}
use Rattle.src_rules.specs.Step.{act, step, enters, counts, start}
use Rattle.src_rules.specs.Weights.{expression_weight, arguments_weight, place_weight, part_weight, declarator_weight, statements_weight, stage_weight, weight}
use Rattle.src_values.specs.Accesses.{take_byte, put_byte}
use Rattle.src_values.specs.Lists.{is_covered}
use Rattle.src_values.specs.Objects.{object_bytes, is_watched, is_alive, breaks_isolation, moved}
use Rattle.src_values.specs.Values.{number_from, value_from, fits_behind, converted, truth_of, unary_answer, binary_answer, offset_answer, difference_answer, change_answer, kept_in}

pub returns : goal.returns
unfolding stored with_stored raised_by is_due entered left
    arrived world.is_due world.entered world.left device_value after_device_read after_device_write sets_gie
    active counted_line run steps_by ready_within ready take after fault_after is_idle_after main_steps_after runs_after act step enters counts start
    expression_weight arguments_weight place_weight part_weight declarator_weight statements_weight stage_weight weight
    take_byte put_byte is_covered object_bytes is_watched is_alive breaks_isolation moved
    number_from value_from fits_behind converted truth_of unary_answer binary_answer offset_answer difference_answer change_answer kept_in
returns c = record {
  torn_read = refl;
  torn_before = refl;
  torn_not_begun = refl;
  torn_begun = refl;
  torn_handler = refl;
  torn_main = refl;
  torn_runs = refl;
  torn_not_ended = refl;
  torn_ended = refl;
  chosen = refl;
  chosen_moment = refl;
  chosen_steps = refl;
  lost_flag = refl;
  flag_before = refl;
  pending_flag = refl;
  overlaid = refl;
  division = refl;
  overflow = refl;
  shift = refl;
  unset = refl;
  unset_again = refl;
  set_before = refl;
  outside = refl;
  order = refl;
  past = refl;
  part_of_pointer = refl;
  inactive = refl;
  isolation = refl;
  gie = refl;
  handler = refl;
}
