use Rattle.std.proofs.Common.{map, sym, ◌∙◌, arith}
use Rattle.std.proofs.lemmas.Bool.{eqb-true}
use Rattle.std.proofs.lemmas.Result.{err_from_is_err_and}
use Rattle.c_tables.specs.Tables.{types_in}
use Rattle.c_outline.specs.Views.{made_of, outline_of}
use Rattle.c_outline.proofs.Taken.{popped, none_left, some_left, positive}
use Rattle.c_outline.proofs.Outlining.{param_alone, param_step, param_refused}
use Rattle.c_outline.proofs.outline.param_outlined.Goals as goal

pub returns-then-is_empty : goal.returns-then-is_empty
returns-then-is_empty c known =
    let alone = param_alone (map made_of c.loop-suffix.left.items) (map made_of c.pop.new.self.items) (made_of c.in-Some.suffix) (outline_of c.loop-suffix.outline) (types_in c.loop-suffix.types known) (none_left made_of c.pop.new.self.items (omega (arith, eqb-true _ _ (sym c.if-is_empty.ensures), c.pop.new.self.ok.0))) (popped made_of c.loop-suffix.left.items c.pop.new.self.items c.in-Some.suffix c.in-Some.ensures.items) in
    rw (c.loop-suffix.invariant known, alone) (c.outermost_outline.ensures known)

pub returns-in_err-outline : goal.returns-in_err-outline
returns-in_err-outline c known =
    let p = err_from_is_err_and c.from_residual.result c.from_residual.ensures.1 in
    rw (p.1, p.2, c.loop-suffix.invariant known) (param_refused (map made_of c.loop-suffix.left.items) (map made_of c.pop.new.self.items) (made_of c.in-Some.suffix) (outline_of c.loop-suffix.outline) (types_in c.loop-suffix.types known) c.in_err-outline.field-0.0 (some_left made_of c.pop.new.self.items (omega (arith, positive _ c.if-is_empty.ensures, c.pop.new.self.ok.0))) (popped made_of c.loop-suffix.left.items c.pop.new.self.items c.in-Some.suffix c.in-Some.ensures.items) (c.in_err-outline.ensures known))

pub loop-suffix-preserved : goal.loop-suffix-preserved
loop-suffix-preserved c known = c.loop-suffix.invariant known ∙ param_step (map made_of c.loop-suffix.left.items) (map made_of c.pop.new.self.items) (made_of c.in-Some.suffix) (outline_of c.loop-suffix.outline) _ (types_in c.loop-suffix.types known) _ (some_left made_of c.pop.new.self.items (omega (arith, positive _ c.if-is_empty.ensures, c.pop.new.self.ok.0))) (popped made_of c.loop-suffix.left.items c.pop.new.self.items c.in-Some.suffix c.in-Some.ensures.items) (c.in_ok-outline.ensures known)

pub returns : goal.returns
returns c known = rw (c.loop-suffix.invariant known, none_left made_of c.loop-suffix.left.items (omega (arith, c.in_default.ensures.cases.0, c.loop-suffix.left.ok.0))) (c.array_started.ensures known)
