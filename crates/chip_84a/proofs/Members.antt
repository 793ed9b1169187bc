-- The test of each member, computed.
use Rattle.std.proofs.Common.{refl}
use Rattle.chip_84a.specs.Family.{Fits}
use Rattle.chip_84a.specs.Members.{MembersFit, pic16f84a, pic16f873a, pic16f876a, without_common}

pub second_fits : Fits pic16f84a
second_fits = record { core = refl; direct = refl; pointed = refl; registers = refl; bytes = refl }

third_fits : Fits pic16f876a
third_fits = record { core = refl; direct = refl; pointed = refl; registers = refl; bytes = refl }

fourth_fits : Fits (pic16f873a without_common)
fourth_fits = record { core = refl; direct = refl; pointed = refl; registers = refl; bytes = refl }

pub members_fit : MembersFit
members_fit = record { second = second_fits; third = third_fits; fourth = fourth_fits; not_whole = refl }
