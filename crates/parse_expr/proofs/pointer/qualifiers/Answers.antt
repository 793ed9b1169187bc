use Rattle.std.proofs.Common.{◌<◌, ◌≤◌, length, map, refl, arith}
use Rattle.c_nodes.specs.Words.{keyed}
use Rattle.parse_expr.specs.Reader.{symbols_in}
use Rattle.parse_expr.proofs.Pointers.{qualifiers_step, qualifiers_end}
use Rattle.parse_expr.proofs.pointer.qualifiers.Goals as goal

pub loop-word-smaller : goal.loop-word-smaller
loop-word-smaller c = c.in-Some.ensures.shorter (c.in-Some.word, c.in-Some.after) refl

pub loop-word-preserved : goal.loop-word-preserved
loop-word-preserved c =
    let less : length c.in-Some.after.now < length c.loop-word.rest.now = c.in-Some.ensures.shorter (c.in-Some.word, c.in-Some.after) refl in
    let most : length c.loop-word.rest.now ≤ length c.args.toks.now = c.loop-word.invariant.1 in
    (λ text. rw c.in_ok-push.ensures.items (qualifiers_step c.loop-word.found.items c.in-Some.word (symbols_in text c.args.toks.now) (symbols_in text c.loop-word.rest.now) (symbols_in text c.in-Some.after.now) (c.in-Some.ensures.read text) (c.loop-word.invariant.0 text)), omega arith)

pub returns-clause-read : goal.returns-clause-read
returns-clause-read c = λ text. qualifiers_end (map keyed c.loop-word.found.items) (symbols_in text c.args.toks.now) (symbols_in text c.loop-word.rest.now) (c.in_default.ensures.read text) (c.loop-word.invariant.0 text)
