use Rattle.std.proofs.Common.{map, ◌∙◌}
use Rattle.std.proofs.lemmas.Result.{err_from_is_err_and}
use Rattle.c_tables.specs.Tables.{types_in}
use Rattle.c_outline.specs.Views.{made_of, outline_of}
use Rattle.c_outline.proofs.Taken.{popped}
use Rattle.c_outline.proofs.Outlining.{outlined_step, outlined_refused}
use Rattle.c_outline.proofs.outline.outlined.Goals as goal

pub returns-in_err-outline : goal.returns-in_err-outline
returns-in_err-outline c known =
    let p = err_from_is_err_and c.from_residual.result c.from_residual.ensures.1 in
    rw (p.1, p.2, c.loop-suffix.invariant known) (outlined_refused (map made_of c.loop-suffix.left.items) (map made_of c.pop.new.self.items) (made_of c.in-Some.suffix) (outline_of c.loop-suffix.outline) (types_in c.loop-suffix.types known) c.in_err-outline.field-0.0 (popped made_of c.loop-suffix.left.items c.pop.new.self.items c.in-Some.suffix c.in-Some.ensures.items) (c.in_err-outline.ensures known))

pub loop-suffix-preserved : goal.loop-suffix-preserved
loop-suffix-preserved c known = c.loop-suffix.invariant known ∙ outlined_step (map made_of c.loop-suffix.left.items) (map made_of c.pop.new.self.items) (made_of c.in-Some.suffix) (outline_of c.loop-suffix.outline) _ (types_in c.loop-suffix.types known) _ (popped made_of c.loop-suffix.left.items c.pop.new.self.items c.in-Some.suffix c.in-Some.ensures.items) (c.in_ok-outline.ensures known)
