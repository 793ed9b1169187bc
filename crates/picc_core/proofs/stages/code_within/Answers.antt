use Rattle.std.proofs.Common.{arith}
use Rattle.std.proofs.lemmas.Result.{err_from_is_err_and}
use Rattle.c_typed.specs.Views.{program_of}
use Rattle.picc_core.proofs.OverPages.{many_words, none_lent, within_told}
use Rattle.picc_core.proofs.stages.code_within.Goals as goal

pub returns-in_err-code-clause-refused : goal.returns-in_err-code-clause-refused
returns-in_err-code-clause-refused c =
    let p = err_from_is_err_and c.from_residual.result c.from_residual.ensures.1 in
    let none = none_lent c.args.limits.words_of_block (program_of c.args.p.now) c.args.copies.now.list.items _ c.deref.ensures.value c.in_default.ensures in
    rw (p.1, p.2) (within_told c.args.limits (program_of c.args.p.now) c.args.copies.now.list.items none c.requires.page c.in_err-code.field-0.0 c.in_err-code.ensures.refused)

pub returns-then-words-limits-clause-refused : goal.returns-then-words-limits-clause-refused
returns-then-words-limits-clause-refused c =
    let none = none_lent c.args.limits.words_of_block (program_of c.args.p.now) c.args.copies.now.list.items _ c.deref.ensures.value c.in_default.ensures in
    let many = c.if-words-limits.true in
    many_words c.args.limits (program_of c.args.p.now) c.args.copies.now.list.items none _ c.in_ok-code.code.words c.in_ok-code.ensures.blocks (omega (arith, many))

pub returns-clause-none : goal.returns-clause-none
returns-clause-none c = none_lent c.args.limits.words_of_block (program_of c.args.p.now) c.args.copies.now.list.items _ c.deref.ensures.value c.in_default.ensures
