use Rattle.bank_page.proofs.Fronts.{front_all, code_all}
use Rattle.bank_page.proofs.Steps.{ready_now, turn}
use Rattle.bank_page.proofs.selecting.put_selected.Goals as goal

pub loop-rest-preserved : goal.loop-rest-preserved
loop-rest-preserved c = turn c.args.placed.now c.args.out.now.name c.loop-rest.out.name c.put_next.new.out.name c.args.list.now c.loop-rest.out.list.items c.put_next.new.out.list.items c.loop-rest.state c.in_ok-state.state c.loop-rest.rest.now _ c.in-len1-up.len_at_least c.loop-rest.invariant c.in_ok-state.ensures.next c.put_next.ensures.name

pub returns-clause-front : goal.returns-clause-front
returns-clause-front c = front_all c.args.placed.now c.args.out.now.name c.args.list.now c.loop-rest.out.list.items c.loop-rest.state c.loop-rest.rest.now c.in_default.len_below c.loop-rest.invariant.5

pub returns-clause-exact : goal.returns-clause-exact
returns-clause-exact c = code_all c.args.placed.now c.args.out.now.name c.args.list.now c.loop-rest.out.list.items c.loop-rest.state c.loop-rest.rest.now c.in_default.len_below c.loop-rest.invariant.5

pub put_next-requires-clause-ready : goal.put_next-requires-clause-ready
put_next-requires-clause-ready c = ready_now c.args.placed.now c.loop-rest.rest.now _ c.in-len1-up.len_at_least c.loop-rest.invariant.1
