use Rattle.std.proofs.Common.{◌≡◌, ◌+◌, take}
use Rattle.std.specs.Option.{option_or}
use Rattle.sym_code.specs.declared.code.BlockName.{BlockName}
use Rattle.sym_code.specs.declared.code.Label.TheVariants.{Halt, Restore}
use Rattle.code_place.specs.Marks.{block_in}
use Rattle.code_place.specs.Places.{label_at}
use Rattle.sym_code.specs.Words.{words_in}
use Rattle.code_place.proofs.marks.Marks.put_labels.Given as goal

abbrev pub invariant-loop-sym : goal.invariant-loop-sym
invariant-loop-sym l = (l.pc ≡ l.at + words_in (take l.sym-index l.block.list.items)) × ((asked : BlockName) → block_in l.self asked ≡ block_in l.initial.self asked) × (l.self.halt ≡ option_or l.initial.self.halt (label_at Halt l.at (take l.sym-index l.block.list.items))) × (l.self.restore ≡ option_or l.initial.self.restore (label_at Restore l.at (take l.sym-index l.block.list.items)))
