use Rattle.c_parse.proofs.Names.{names_go_on, names_end}
use Rattle.c_parse.proofs.marks.put_names.Goals as goal

pub loop-tok-preserved : goal.loop-tok-preserved
loop-tok-preserved c = names_go_on c.args.text.now c.args.toks.now c.loop-tok.tok-index _ _ _ _ c.loop-tok-test.true (rw c.word_of.ensures at c.in_ok-put_name.ensures) c.loop-tok.invariant

pub returns : goal.returns
returns c = names_end c.args.text.now c.args.toks.now c.loop-tok.tok-index _ _ c.loop-tok-test.false c.loop-tok.invariant
