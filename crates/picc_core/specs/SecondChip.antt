-- What a text is compiled to for the second chip, the PIC16F84A in the profile of this project, and why one is refused.
use Rattle.std.specs.Prelude.{ℕ, ◌≡◌, ◌≤◌, ◌⊎◌, true, List, Some, Result, Err}
use Rattle.c_typed.specs.Trees.{Program}
use Rattle.call_graph.specs.declared.types.FnCopy.{FnCopy}
use Rattle.headline.specs.SourceOf.{source_of, IsFaithfulAs}
use Rattle.headline_84a.specs.OnSecondChip.{pic16f84a}
use Rattle.headline_84a.specs.Second.{AreLowLines}
use Rattle.named_registers.specs.Foreign.{IsFirstForeign}
use Rattle.named_registers.specs.Registers.{names_register}
use Rattle.pic_chip.specs.SmallAddress.{is_small_register}
use Rattle.pic_map.specs.MapContent.{ObjectLine, FrameLine}
use Rattle.picc_core.specs.Answers.{TellsBy}
use Rattle.picc_core.specs.Blocks.{HasWords}
use Rattle.picc_core.specs.Compiled.{Build, IsForeignBy, IsPlaced, IsWithinDepth}
use Rattle.picc_core.specs.Limits.{second_chip, AreAcceptedWithin, IsFirstRefusalWithin}
use Rattle.picc_core.specs.declared.for_second.Compile84Error.{Compile84Error}
use Rattle.picc_core.specs.declared.for_second.Compile84Error.TheVariants.{NoMemory, Refused, Register}
use Rattle.picc_core.specs.declared.refusal.CompileError.{CompileError}
use Rattle.picc_core.specs.declared.refusal.CompileError.TheVariants as first
use Rattle.picc_core.specs.declared.refusal.Refusal.{Refusal}

-- ---- acceptance
-- A program is accepted with these copies within the chip's limits, and the chip has each device register that the program names.
pub record AreAcceptedSecond (p : Program) (copies : List FnCopy) : Type 0 where
  pub within : AreAcceptedWithin second_chip p copies
  pub registers : (address : ℕ) → names_register p address ≡ true → is_small_register address ≡ true

-- With these copies the program is accepted within the limits, and on this line it first names a device register that the chip doesn't have.
pub record IsForeignAt (p : Program) (line : ℕ) : Type 0 where
  pub copies : List FnCopy
  pub accepted : AreAcceptedWithin second_chip p copies
  pub first : IsFirstForeign is_small_register p (Some line)

-- the errors of any build as those of this one
abbrev pub of_compile : CompileError → Compile84Error
of_compile first.NoMemory = NoMemory
of_compile (first.Refused refusal) = Refused refusal

-- it is this refusal, unless memory runs out
abbrev pub IsRefusedUnless : {T : Type 0} → Result T Compile84Error → Refusal → Type 0
IsRefusedUnless result refusal = (result ≡ Err (Refused refusal)) ⊎ (result ≡ Err NoMemory)

-- ---- what is built
-- The lines of the map are those of the program, and they are from 20h to 4Fh.
pub record IsPlacedLow (p : Program) (objects : List ObjectLine) (frames : List FrameLine) : Type 0 where
  pub placed : IsPlaced p objects frames
  pub low : AreLowLines objects frames

-- so many words are stated of the program, and they are no more than the chip has
pub record HasFewWords (p : Program) (words : ℕ) : Type 0 where
  pub stated : HasWords p words
  pub few : words ≤ 1024

-- The build of a text for the PIC16F84A.
abbrev pub second : Build
second = record {
  Accepts = AreAcceptedSecond;
  RefusesFirst = IsFirstRefusalWithin second_chip;
  LacksRegister = IsForeignAt;
  TakesDepth = IsWithinDepth;
  StatesWords = HasFewWords;
  MapsTo = IsPlacedLow;
  IsFaithful = IsFaithfulAs pic16f84a source_of;
}

-- ---- why a text is refused
-- What an error tells of the text: a refusal that it is the first by these limits, and a register that there is no other refusal.
abbrev pub TellsSecond : List ℕ → Compile84Error → Type 0
TellsSecond text NoMemory = Unit {0}
TellsSecond text (Refused refusal) = TellsBy (IsFirstRefusalWithin second_chip) text refusal
TellsSecond text (Register line) = IsForeignBy second text line
