-- The sample, computed.
use Rattle.std.proofs.Common.{refl}
use Rattle.pic_world.specs.Control as control
use Rattle.pic_world.specs.World.{arrived, is_due, device_value, after_device_read, after_device_write, sets_gie}
use Rattle.sym_code.specs.Effect.{access_of, effect_of, effect}
use Rattle.sym_code.specs.Layout.{address_of, general_at, owner, is_covered, all_near}
use Rattle.sym_code.specs.Machine.{acted, sym_step, sym_run}
use Rattle.sym_code.specs.Programs.{stand}
use Rattle.sym_code.specs.Registers.{result_with, flags_with, skips_with, after_row}
use Rattle.kept_layout.specs.OpenCode.{sym_by}
use Rattle.kept_layout.specs.Sample.{SampleSwitches}

pub sample_switches : SampleSwitches
unfolding arrived is_due control.is_due control.raised_by device_value after_device_read after_device_write sets_gie access_of effect_of effect address_of general_at owner is_covered all_near acted sym_step sym_run stand result_with flags_with skips_with after_row sym_by
sample_switches = (refl, refl, refl, refl)
