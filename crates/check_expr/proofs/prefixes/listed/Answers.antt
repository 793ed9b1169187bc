use Rattle.std.proofs.Common.{◌+◌, drop, map, refl}
use Rattle.std.proofs.lemmas.Result.{err_from_is_err_and}
use Rattle.c_nodes.specs.Views.{prefix_of}
use Rattle.c_tables.specs.Tables.{known_of}
use Rattle.check_expr.specs.Folds.{applied_from}
use Rattle.check_expr.specs.Kept.{applied_of}
use Rattle.check_expr.proofs.Answering.{goes, stops, next_of, pushed}
use Rattle.check_expr.proofs.prefixes.listed.Goals as goal

pub returns-in_err-with_type : goal.returns-in_err-with_type
returns-in_err-with_type c =
    let p = err_from_is_err_and c.from_residual.result c.from_residual.ensures.1 in
    rw (p.1, p.2) (stops _ _ _ _ c.in_err-with_type.ensures (next_of (λ bs. applied_from (map applied_of c.loop-prefix.applied.items) bs (known_of c.loop-prefix.checker)) prefix_of _ _ c.prefix-item.result _ _ c.loop-prefix-test.true c.prefix-item.is refl c.loop-prefix.invariant))

pub loop-prefix-preserved : goal.loop-prefix-preserved
loop-prefix-preserved c = pushed applied_from applied_of c.loop-prefix.applied.items _ _ (map prefix_of (drop (c.loop-prefix.prefix-index + 1) c.args.prefixes.now)) (known_of c.with_type.new.checker) _ c.in_ok-push.ensures.items (goes _ _ _ _ _ c.in_ok-with_type.ensures (next_of (λ bs. applied_from (map applied_of c.loop-prefix.applied.items) bs (known_of c.loop-prefix.checker)) prefix_of _ _ c.prefix-item.result _ _ c.loop-prefix-test.true c.prefix-item.is refl c.loop-prefix.invariant))
