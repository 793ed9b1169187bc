-- What is linked: what all passes make of a typed program is what the links between its languages ask for.
use Rattle.std.specs.Prelude.{ℕ, ◌<◌, List}
use Rattle.std.specs.List.{All}
use Rattle.c_typed.specs.Trees.{Program}
use Rattle.call_graph.specs.Numbers.{handler_at}
use Rattle.call_graph.specs.declared.types.FnCopy.{FnCopy}
use Rattle.core_code.specs.declared.code.CoreProgram.{CoreProgram}
use Rattle.pic_chip.specs.Run.{IsStart}
use Rattle.pic_chip.specs.declared.Start.{Start}
use Rattle.pic_map.specs.MapContent.{MapContent}
use Rattle.pic_map.specs.declared.Placed.{Placed}
use Rattle.pic_world.specs.declared.Arrival.{Arrival}
use Rattle.program_code.specs.Translated.{IsTranslation, IsTranslated}
use Rattle.sym_code.specs.declared.code.SymBlock.{SymBlock}
use Rattle.lower_trace.specs.Lowering.{IsLowerable}
use Rattle.headline.specs.OnChip.{Follows, setting_of}
use Rattle.headline.specs.SourceOf.{source_of}
use Rattle.headline_trace.specs.Linked.{IsLinked}
use Rattle.headline_trace.specs.Selection.{reaches_in, limit_of}

-- The program is one that lowering keeps,
abbrev pub TranslationsAreLowerable : Type 0
TranslationsAreLowerable =
    (p : Program) (copies : List FnCopy) (core : CoreProgram) (given made : List SymBlock) (placed : Placed) (at image : List ℕ) (content : MapContent)
    → IsTranslation p copies core given made placed at image content → IsLowerable p copies

-- and with its code in every language, its image and its map it is linked: with chains of calls telling which frames may be live
-- together, and with the levels of its copies as limits.
abbrev pub TranslationsAreLinked : Type 0
TranslationsAreLinked =
    (p : Program) (copies : List FnCopy) (core : CoreProgram) (given made : List SymBlock) (placed : Placed) (at image : List ℕ) (content : MapContent)
    (made_so : IsTranslation p copies core given made placed at image content)
    → IsLinked p copies core.bodies.items core.statics.items (reaches_in p copies) given made_so.passed.lean made (handler_at copies) placed at (limit_of copies) image content

-- So the image does on the chip what the program says: from anything that power-on leaves, over any input list and any arrivals.
abbrev pub TranslationsFollow : Type 0
TranslationsFollow =
    (p : Program) (image : List ℕ) (content : MapContent) → (made : IsTranslated p image content)
    → (start : Start) (inputs : List ℕ) (arrivals : List Arrival) → IsStart start → All (λ byte. byte < 256) inputs
    → Follows (source_of p made.copies content) content (setting_of content image start inputs arrivals)
