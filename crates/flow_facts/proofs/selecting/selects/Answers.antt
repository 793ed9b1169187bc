use Rattle.flow_facts.proofs.Whole.{all_selected}
use Rattle.flow_facts.proofs.selecting.selects.Goals as goal

pub returns-clause-names : goal.returns-clause-names
returns-clause-names c =
    let whole = c.in_ok-whole.ensures in
    (all_selected c.args.placed.now c.args.handler c.args.at.now c.args.s.now.blocks.items c.in_ok-whole.whole.blocks.items c.in_ok-made.made.blocks.items whole.names whole.bare whole.apart whole.reaches whole.lean whole.few whole.exact c.in_ok-made.ensures).names

pub returns-clause-bare : goal.returns-clause-bare
returns-clause-bare c =
    let whole = c.in_ok-whole.ensures in
    (all_selected c.args.placed.now c.args.handler c.args.at.now c.args.s.now.blocks.items c.in_ok-whole.whole.blocks.items c.in_ok-made.made.blocks.items whole.names whole.bare whole.apart whole.reaches whole.lean whole.few whole.exact c.in_ok-made.ensures).bare

pub returns-clause-others : goal.returns-clause-others
returns-clause-others c =
    let whole = c.in_ok-whole.ensures in
    (all_selected c.args.placed.now c.args.handler c.args.at.now c.args.s.now.blocks.items c.in_ok-whole.whole.blocks.items c.in_ok-made.made.blocks.items whole.names whole.bare whole.apart whole.reaches whole.lean whole.few whole.exact c.in_ok-made.ensures).others

pub returns-clause-apart : goal.returns-clause-apart
returns-clause-apart c =
    let whole = c.in_ok-whole.ensures in
    (all_selected c.args.placed.now c.args.handler c.args.at.now c.args.s.now.blocks.items c.in_ok-whole.whole.blocks.items c.in_ok-made.made.blocks.items whole.names whole.bare whole.apart whole.reaches whole.lean whole.few whole.exact c.in_ok-made.ensures).apart

pub returns-clause-facts : goal.returns-clause-facts
returns-clause-facts c =
    let whole = c.in_ok-whole.ensures in
    (all_selected c.args.placed.now c.args.handler c.args.at.now c.args.s.now.blocks.items c.in_ok-whole.whole.blocks.items c.in_ok-made.made.blocks.items whole.names whole.bare whole.apart whole.reaches whole.lean whole.few whole.exact c.in_ok-made.ensures).facts

pub returns-clause-lean : goal.returns-clause-lean
returns-clause-lean c =
    let whole = c.in_ok-whole.ensures in
    (all_selected c.args.placed.now c.args.handler c.args.at.now c.args.s.now.blocks.items c.in_ok-whole.whole.blocks.items c.in_ok-made.made.blocks.items whole.names whole.bare whole.apart whole.reaches whole.lean whole.few whole.exact c.in_ok-made.ensures).lean

pub returns-clause-start : goal.returns-clause-start
returns-clause-start c =
    let whole = c.in_ok-whole.ensures in
    (all_selected c.args.placed.now c.args.handler c.args.at.now c.args.s.now.blocks.items c.in_ok-whole.whole.blocks.items c.in_ok-made.made.blocks.items whole.names whole.bare whole.apart whole.reaches whole.lean whole.few whole.exact c.in_ok-made.ensures).start

pub returns-clause-few : goal.returns-clause-few
returns-clause-few c =
    let whole = c.in_ok-whole.ensures in
    (all_selected c.args.placed.now c.args.handler c.args.at.now c.args.s.now.blocks.items c.in_ok-whole.whole.blocks.items c.in_ok-made.made.blocks.items whole.names whole.bare whole.apart whole.reaches whole.lean whole.few whole.exact c.in_ok-made.ensures).few

pub returns-clause-exact : goal.returns-clause-exact
returns-clause-exact c =
    let whole = c.in_ok-whole.ensures in
    (all_selected c.args.placed.now c.args.handler c.args.at.now c.args.s.now.blocks.items c.in_ok-whole.whole.blocks.items c.in_ok-made.made.blocks.items whole.names whole.bare whole.apart whole.reaches whole.lean whole.few whole.exact c.in_ok-made.ensures).exact
