use Rattle.std.proofs.Common.{refl}
use Rattle.text_lines.specs.Text.{split_lines, without_cr, bytes_of}
use Rattle.pic_world.specs.Control.{is_due}
use Rattle.hex_image.specs.HexFile.{given_by, from_address, byte_at}
use Rattle.spec_tests.proofs.worked_examples.Goals as goal

pub returns : goal.returns
unfolding is_due split_lines without_cr bytes_of given_by from_address byte_at
returns c = record {
  sum_carries = refl;
  sum_is_zero = refl;
  difference_borrows = refl;
  countdown_skips = refl;
  countdown_stores = refl;
  rotates = refl;
  clears_status = refl;
  clears_status_flags = refl;
  selects_a_bank = refl;
  mirrors_port_b = refl;
  indirect_write = refl;
  computed_jump = refl;
  reads_place = refl;
  eight_deep = refl;
  nine_deep = refl;
  enters = refl;
  not_enabled = refl;
  returns_from = refl;
  timer_enters = refl;
  timer_waits = refl;
  other_timer_waits = refl;
  keeps_pir1 = refl;
  keeps_pie1 = refl;
  only_lower_banks = refl;
  reads_input = refl;
  reads_past_input = refl;
  jump_word = refl;
  free_bits = refl;
  sleep_word = refl;
  no_row = refl;
  hex_bytes = refl;
  hex_word = refl;
}
