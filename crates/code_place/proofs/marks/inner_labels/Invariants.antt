use Rattle.std.proofs.Common.{◌≡◌, ℕ, ◌+◌, take}
use Rattle.std.specs.BTreeMap.{get}
use Rattle.std.specs.Ordering.{nat_cmp}
use Rattle.sym_code.specs.declared.code.Label.TheVariants.{Inner}
use Rattle.code_place.specs.Places.{label_at}
use Rattle.sym_code.specs.Words.{words_in}
use Rattle.code_place.proofs.marks.inner_labels.Given as goal

abbrev pub invariant-loop-sym : goal.invariant-loop-sym
invariant-loop-sym l = (l.pc ≡ l.at + words_in (take l.sym-index l.block.list.items)) × ((asked : ℕ) → get nat_cmp l.labels asked ≡ label_at (Inner asked) l.at (take l.sym-index l.block.list.items))
