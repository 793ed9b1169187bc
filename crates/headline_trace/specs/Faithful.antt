-- Of what the passes make the headline holds: the image's words are of the model, the map has the program's objects and copies, and runs
-- follow the source.
use Rattle.std.specs.Prelude.{ℕ, List}
use Rattle.c_typed.specs.Trees.{Program}
use Rattle.headline.specs.SourceOf.{IsFaithfulTo}
use Rattle.pic_map.specs.MapContent.{MapContent}
use Rattle.program_code.specs.Translated.{IsTranslated}

abbrev pub TranslationsAreFaithful : Type 0
TranslationsAreFaithful = (p : Program) (image : List ℕ) (content : MapContent) → IsTranslated p image content → IsFaithfulTo p content image
