use Rattle.c_parse.proofs.Counting.{goes_on, nests, runs, ends}
use Rattle.c_parse.proofs.limits.over.Goals as goal

pub loop-tok-preserved : goal.loop-tok-preserved
loop-tok-preserved c =
    let k = c.counted-counts.ensures in
    let more = goes_on c.loop-tok.counts.brackets c.loop-tok.counts.run c.args.toks.now c.loop-tok.tok-index _ c.counted-counts.result.brackets c.counted-counts.result.run _ c.loop-tok-test.true k.brackets k.run c.if-counts-gt-MOST_OPEN.false c.if-counts-gt-LONGEST_RUN.false c.loop-tok.invariant.0 in
    (more, c.if-counts-gt-MOST_OPEN.false, c.if-counts-gt-LONGEST_RUN.false)

pub returns-then-counts-gt-MOST_OPEN : goal.returns-then-counts-gt-MOST_OPEN
returns-then-counts-gt-MOST_OPEN c =
    let k = c.counted-counts.ensures in
    nests c.loop-tok.counts.brackets c.loop-tok.counts.run c.args.toks.now c.loop-tok.tok-index _ c.counted-counts.result.brackets c.counted-counts.result.run _ c.loop-tok-test.true k.brackets k.run c.if-counts-gt-MOST_OPEN.true c.loop-tok.invariant.0

pub returns-then-counts-gt-LONGEST_RUN : goal.returns-then-counts-gt-LONGEST_RUN
returns-then-counts-gt-LONGEST_RUN c =
    let k = c.counted-counts.ensures in
    runs c.loop-tok.counts.brackets c.loop-tok.counts.run c.args.toks.now c.loop-tok.tok-index _ c.counted-counts.result.brackets c.counted-counts.result.run _ c.loop-tok-test.true k.brackets k.run c.if-counts-gt-MOST_OPEN.false c.if-counts-gt-LONGEST_RUN.true c.loop-tok.invariant.0

pub returns : goal.returns
returns c = ends c.loop-tok.counts.brackets c.loop-tok.counts.run c.args.toks.now c.loop-tok.tok-index _ c.loop-tok-test.false c.loop-tok.invariant.0
