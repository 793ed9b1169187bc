use Rattle.std.proofs.Common.{◌≡◌, ◌≤◌, take}
use Rattle.sym_code.specs.Words.{words_in}
use Rattle.code_place.proofs.fitting.real_words.Given as goal

abbrev pub invariant-loop-sym : goal.invariant-loop-sym
invariant-loop-sym l = (l.words ≡ words_in (take l.sym-index l.block.list.items)) × (l.words ≤ l.sym-index)
