use Rattle.std.proofs.Common.{refl, ◌∙◌}
use Rattle.run_compare.proofs.Searched.{begins}
use Rattle.run_compare.proofs.searching.Search.new.Goals as goal

pub returns-clause-begins : goal.returns-clause-begins
returns-clause-begins c = λ p copies content g given. begins p copies content g c.args.off.now given _ c.new-arrivals.ensures.items (c.in_ok-input.ensures.items ∙ c.deref.ensures.value) refl refl refl
