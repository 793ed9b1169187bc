-- What the reader's answer says of the text.
use Rattle.std.proofs.Common.{ℕ, Result, Ok, Err, List, sym, ◌∙◌}
use Rattle.std.specs.Result.{IfOk}
use Rattle.pic_map.specs.declared.Map.{Map}
use Rattle.pic_map.specs.declared.read.MapError.{MapError}
use Rattle.pic_map.specs.declared.read.MapError.TheVariants.{NoMemory, BadLine}
use Rattle.pic_map.specs.Answers.{GivesMap, reading_of}
use Rattle.pic_map.specs.MapContent.{MapContent}
use Rattle.pic_map.specs.MapFile.{IsMapFile}
use Rattle.pic_map.specs.MapText.{AreInRange}
use Rattle.pic_map.specs.MapView.{content_of}
use Rattle.pic_map.proofs.FileLaws.{file_is, file_again, in_range}

pub found : (result : Result Map MapError) (text : List ℕ) → GivesMap result (reading_of text) → IfOk result (λ m. IsMapFile text (content_of m))
found (Ok m) text e = file_is text (content_of m) e
found (Err x) text e = tt

pub only : (result : Result Map MapError) (text : List ℕ) → GivesMap result (reading_of text) → (content : MapContent) → IsMapFile text content → GivesMap result (Ok content)
only (Ok m) text e content h = sym (file_again text content h) ∙ e
only (Err (BadLine line)) text e content h = sym (file_again text content h) ∙ e
only (Err NoMemory) text e content h = tt

pub ranges : (result : Result Map MapError) (text : List ℕ) → GivesMap result (reading_of text) → IfOk result (λ m. AreInRange (content_of m))
ranges (Ok m) text e = in_range text (content_of m) (file_is text (content_of m) e)
ranges (Err x) text e = tt
