use Rattle.std.proofs.Common.{◌<◌, ◌≤◌, length, refl, arith}
use Rattle.c_nodes.specs.Words.{spell_pointers}
use Rattle.parse_expr.specs.Reader.{symbols_in}
use Rattle.parse_expr.proofs.Pointers.{pointers_step, pointers_end}
use Rattle.parse_expr.proofs.pointer.pointers.Goals as goal

pub loop-star-smaller : goal.loop-star-smaller
loop-star-smaller c =
    let less : length c.in-Some.after.now < length c.loop-star.rest.now = c.in-Some.ensures.shorter (c.in-Some.star, c.in-Some.after) refl in
    let most : length c.in_ok-qualifiers.after.now ≤ length c.in-Some.after.now = c.in_ok-qualifiers.ensures.rest in
    let both : length c.in_ok-qualifiers.after.now < length c.loop-star.rest.now = omega arith in
    both

pub loop-star-preserved : goal.loop-star-preserved
loop-star-preserved c =
    λ text. rw c.in_ok-push.ensures.items (pointers_step c.loop-star.found.items record { star = c.in-Some.star; qualifiers = c.in_ok-qualifiers.qualifiers } (symbols_in text c.args.toks.now) (symbols_in text c.loop-star.rest.now) (symbols_in text c.in-Some.after.now) (symbols_in text c.in_ok-qualifiers.after.now) (c.in-Some.ensures.read text) (c.in_ok-qualifiers.ensures.read text) (c.loop-star.invariant text))

pub returns : goal.returns
returns c = λ text. pointers_end (spell_pointers c.loop-star.found.items) (symbols_in text c.args.toks.now) (symbols_in text c.loop-star.rest.now) (c.in_default.ensures.read text) (c.loop-star.invariant text)
