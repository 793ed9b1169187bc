-- What the reader's answer says of the text.
use Rattle.std.proofs.Common.{ℕ, Result, Ok, Err, List, sym, ◌∙◌}
use Rattle.std.specs.Result.{IfOk}
use Rattle.text_lines.specs.Text.{lines_of}
use Rattle.pic_world.specs.declared.script.Script.{Script}
use Rattle.schedule.specs.declared.read.ScriptError.{ScriptError}
use Rattle.schedule.specs.declared.read.ScriptError.TheVariants.{NoMemory, BadLine}
use Rattle.schedule.specs.Answers.{GivesScript, reading_of}
use Rattle.schedule.specs.ScriptFile.{ScriptContent, content_of, IsScriptFile}
use Rattle.schedule.proofs.FileLaws.{script_is, script_again}

pub found : (result : Result Script ScriptError) (text : List ℕ) → GivesScript result (reading_of text) → IfOk result (λ s. IsScriptFile text (content_of s))
found (Ok s) text e = script_is 1 (content_of s) (lines_of text) e
found (Err x) text e = tt

pub only : (result : Result Script ScriptError) (text : List ℕ) → GivesScript result (reading_of text) → (content : ScriptContent) → IsScriptFile text content → GivesScript result (Ok content)
only (Ok s) text e content h = sym (script_again 1 content (lines_of text) h) ∙ e
only (Err (BadLine line)) text e content h = sym (script_again 1 content (lines_of text) h) ∙ e
only (Err NoMemory) text e content h = tt
