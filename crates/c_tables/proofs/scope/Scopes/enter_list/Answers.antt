use Rattle.std.proofs.Common.{ℕ, subst}
use Rattle.type_rules.specs.Names as names
use Rattle.c_tables.specs.Answers.{Learns}
use Rattle.c_tables.specs.Tables.{scopes_in}
use Rattle.c_tables.proofs.Rows.{one_more}
use Rattle.c_tables.proofs.scope.Scopes.enter_list.Goals as goal

pub returns : goal.returns
returns c = λ known.
    let before = c.args.self.now in
    subst (λ (n : ℕ). Learns c.enter.result (scopes_in c.enter.new.self known) (names.enter (record (scopes_in before known) { lists = n })))
    (one_more before.lists.items c.push.new.self.items _ c.in_ok-push.ensures.items) (c.enter.ensures known)
