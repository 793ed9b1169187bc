use Rattle.std.proofs.Common.{◌≡◌, true, take}
use Rattle.core_code.specs.Tree.{trees_of}
use Rattle.core_code.specs.View.{trees_in}
use Rattle.narrow_code.specs.Lending.{all_lend}
use Rattle.narrow_code.specs.Links.{is_lent}
use Rattle.narrow_pass.specs.Narrowed.{lent_by}
use Rattle.narrow_pass.proofs.lending.+lending.Given as goal

abbrev pub invariant-all_lend-loop-k : goal.invariant-all_lend-loop-k
invariant-all_lend-loop-k l = all_lend (is_lent (lent_by l.lent)) (trees_of (trees_in (take l.k l.parts))) ≡ true
