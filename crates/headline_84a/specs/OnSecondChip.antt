-- The headline on the PIC16F84A.
use Rattle.std.specs.Prelude.{ℕ, ◌≡◌, ◌<◌, List, length, slice_index}
use Rattle.pic_world.specs.declared.Arrival.{Arrival}
use Rattle.pic_world.specs.Arrivals.{arriving}
use Rattle.pic_map.specs.MapContent.{MapContent, watch_of}
use Rattle.chip_84a.specs.declared.Start84.{Start84}
use Rattle.chip_84a.specs.Machine.{byte_at}
use Rattle.chip_84a.specs.Run.{Setting, moment, is_handling}
use Rattle.headline.specs.Chips.{ChipRun, Chip}

-- the unknown values after power-on fit their registers
pub record IsStart (start : Start84) : Type 0 where
  pub w : start.w < 256
  pub fsr : start.fsr < 256
  pub flags : start.flags < 8
  pub count : length start.ram ≡ 68
  pub bytes : (k : ℕ) → slice_index start.ram k < 256

abbrev pub run_of : Setting → ChipRun
run_of g = record {
  trace = λ n. (moment g n).trace;
  met = λ n. (moment g n).met;
  byte = λ n address. byte_at (moment g n).state address;
  pushes = λ n. (moment g n).state.pushes;
  pops = λ n. (moment g n).state.pops;
  handling = λ n. is_handling (arriving g.arrivals n) (moment g n);
  early = λ n. (moment g n).early;
}

abbrev pub setting_of : MapContent → List ℕ → Start84 → List ℕ → List Arrival → Setting
setting_of content image start inputs arrivals =
    record { image = image; watch = watch_of content; start = start; inputs = inputs; arrivals = arrivals }

-- An image has 8,192 words, and its HEX all of them, so each is spoken of; the chip has the first 1,024.
abbrev pub pic16f84a : Chip
pic16f84a = record {
  Start = Start84;
  IsStart = IsStart;
  words = 8192;
  run = λ content image start inputs arrivals. run_of (setting_of content image start inputs arrivals);
}
