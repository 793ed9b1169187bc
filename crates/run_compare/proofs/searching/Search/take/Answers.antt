use Rattle.std.proofs.Common.{sym, subst}
use Rattle.run_compare.proofs.Searched.{kept_run}
use Rattle.run_compare.proofs.searching.Search.take.Goals as goal
use Rattle.run_compare.specs.Searching.{MayBeRunBy}
use Rattle.src_memory.specs.Seen.{outside_by}

pub returns-clause-known : goal.returns-clause-known
returns-clause-known c = λ p content h.
    let old = c.args.self.now in
    subst (MayBeRunBy p content (outside_by c.add.new.script)) (sym c.kept.ensures)
    (kept_run p content old.earlier c.add.new.script c.take.result c.in_ok-changes.changes c.add.ensures.input c.in_ok-changes.ensures.same (subst (MayBeRunBy p content (outside_by old.earlier)) (sym c.take.ensures.value) h))
