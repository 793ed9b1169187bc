-- That what is built, and what a comparison runs, is made by the passes. The promises on files and runs don't stand on it: it says besides
-- which code it is, by all that the passes promise.
use Rattle.std.specs.Prelude.{ℕ, Option, Some, None, List}
use Rattle.host_io.specs.Host.{Contents}
use Rattle.program_code.specs.Translated.{IsTranslated}
use Rattle.run_compare.specs.declared.comparing.Agreed.{Agreed}
use Rattle.schedule.specs.ScriptFile.{ScriptContent}
use Rattle.picc_cli.specs.Agreement.{AgreementTells}
use Rattle.pic_chip.specs.declared.profile.Profile.{Profile}
use Rattle.pic_chip.specs.declared.profile.Profile.TheVariants.{Pic16F877a, Pic16F84a}
use Rattle.c_typed.specs.Views.{program_of}
use Rattle.pic_map.specs.MapView.{content_of}
use Rattle.picc_core.specs.SecondChip.{second}
use Rattle.picc_core.specs.SecondMade.{IsTranslatedSecond}
use Rattle.picc_core.specs.declared.known.Built.{Built}
use Rattle.picc_cli.specs.Built.{IsBuilt, IsBuiltBy}
use Rattle.picc_cli.specs.Command.{Form, Build, Trace, Simulate, Agree, Generate, Check}
use Rattle.picc_cli.specs.Finished.{BuildHasFiles}
use Rattle.picc_cli.specs.Outcome.{Files}
use Rattle.picc_cli.specs.RunsTold.{RunsTell}

-- The text is built, and image and map are what all passes make of its program, each as it promises its part.
pub record IsMade (text hex map : List ℕ) : Type 0 where
  pub built : IsBuilt text hex map
  pub translated : IsTranslated built.program built.image built.content

-- So for the second chip, with the operands of that chip.
pub record IsMadeSecond (text hex map : List ℕ) : Type 0 where
  pub built : IsBuiltBy second text hex map
  pub translated : IsTranslatedSecond built.program built.image built.content

-- what the files of a build for a chip are said to be
abbrev pub files_for : Profile → Files
files_for Pic16F877a = IsMade
files_for Pic16F84a = IsMadeSecond

-- the passes made it for this chip
abbrev pub PassesMade : Profile → Built → Type 0
PassesMade Pic16F877a built = IsTranslated (program_of built.typed) built.image (content_of built.map)
PassesMade Pic16F84a built = IsTranslatedSecond (program_of built.typed) built.image (content_of built.map)

-- This is told of the runs of a text, and their image and map are what all passes make of its program.
pub record RunsMade (text : List ℕ) (script : ScriptContent) (n : ℕ) (agreed : Agreed) : Type 0 where
  pub tells : RunsTell text script n agreed
  pub translated : IsTranslated tells.program tells.image tells.content

-- Files that are built, and runs that are compared, are made so.
abbrev pub HasMade : Option Form → Contents → Option Contents → Option (List ℕ) → Option (List ℕ) → ℕ → Type 0
HasMade (Some (Build names)) old new before after result = BuildHasFiles (files_for names.chip) names old new result
HasMade (Some (Agree asked)) old new before after result = AgreementTells RunsMade asked old before after result
HasMade None old new before after result = Unit {0}
HasMade (Some (Trace asked)) old new before after result = Unit {0}
HasMade (Some (Simulate asked)) old new before after result = Unit {0}
HasMade (Some (Generate functions)) old new before after result = Unit {0}
HasMade (Some (Check hex)) old new before after result = Unit {0}
