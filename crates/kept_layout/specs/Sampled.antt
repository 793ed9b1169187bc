-- That the sample meets all that the switch asks.
use Rattle.std.specs.Prelude.{ℕ, false}
use Rattle.kept_trace.specs.Kept.{with_schedule}
use Rattle.select_wide.specs.Links.{StaysOpen}
use Rattle.sym_code.specs.Layout.{IsLaidOut}
use Rattle.sym_code.specs.Machine.{Machine, Entry, sym_start}
use Rattle.kept_layout.specs.KeptLayout.{is_private_byte}
use Rattle.kept_layout.specs.NamedCode.{IsNamedCode}
use Rattle.kept_layout.specs.Sample.{sample_kept, sample_layout, sample_setting, sample_outside, sample_registers}
use Rattle.kept_layout.specs.Switching.{IsByKept}

abbrev pub sample_entry : Entry
sample_entry k = sample_registers

abbrev pub sample_start : Machine
sample_start = sym_start sample_setting.program sample_registers (λ k. 0)

abbrev pub SampleMeets : Type 0
SampleMeets =
    IsLaidOut (λ c d. false) sample_layout × IsNamedCode (λ name. false) sample_kept sample_setting.program
    × ((n : ℕ) → IsByKept sample_kept sample_setting sample_entry sample_outside (λ n. 0) sample_start n
    × StaysOpen (is_private_byte sample_kept sample_layout) sample_setting sample_entry (with_schedule sample_outside (λ n. 0)) sample_start n)
