use Rattle.std.proofs.Common.{◌<◌, ◌≤◌, ℕ, ◌+◌, ◌*◌, ap, sym, ◌∙◌, arith}
use Rattle.std.proofs.lemmas.Nat.{mul-le}
use Rattle.run_compare.proofs.searching.steps_at.Goals as goal
use Rattle.c_typed.proofs.NodeCounts.{few_nodes, program_counts}

small : (moment nodes : ℕ) → moment < 2147483648 → nodes ≤ 268435456 → (moment + 1) * nodes ≤ 576460752303423488
small moment nodes l k = mul-le (moment + 1) nodes 2147483648 268435456 (omega (arith, l)) k

pub overflow_mul-result : goal.overflow_mul-result
overflow_mul-result c =
    let e = c.nodes.ensures ∙ sym (program_counts c.args.program.now) in
    let s = small c.args.moment c.nodes.result c.requires (let f = few_nodes c.args.program.now in omega (arith, e, f)) in
    omega (arith, s)

pub returns-clause-value : goal.returns-clause-value
returns-clause-value c = ap (λ n. (c.args.moment + 1) * n) (c.nodes.ensures ∙ sym (program_counts c.args.program.now))

pub returns-clause-small : goal.returns-clause-small
returns-clause-small c =
    let e = c.nodes.ensures ∙ sym (program_counts c.args.program.now) in
    small c.args.moment c.nodes.result c.requires (let f = few_nodes c.args.program.now in omega (arith, e, f))
