use Rattle.std.proofs.Common.{◌≡◌, ℕ, true, [], ap, ◌∙◌, sym, ◌+◌, ◌%◌}
use Rattle.pic_chip.specs.Profiles.{rule_of}
use Rattle.pic_chip.specs.Named.{named}
use Rattle.pic_chip.specs.Changes.{finished}
use Rattle.pic_chip.proofs.Done.{write_runs, write_notes}
use Rattle.pic_chip.proofs.rows.write.Goals as goal

pub returns-clause-state : goal.returns-clause-state
returns-clause-state c = λ v ws ev ef ek.
    let s = c.args.processor.now in
    let p = named c.operand-place.result in
    c.finish_write.ensures.state
    ∙ ap (λ (q : ℕ). finished p true c.args.value c.args.flags (record s { pc = q })) (c.behind-next.ensures.value ∙ ap (λ (q : ℕ). (q + 1) % 8192) c.pc.ensures.value)
    ∙ write_runs (rule_of c.args.profile) [] s c.args.f p c.operand-place.ensures.leads v ws c.args.value c.args.flags ev ef ek

pub returns-clause-accesses : goal.returns-clause-accesses
returns-clause-accesses c = λ v ws ev.
    let s = c.args.processor.now in
    c.only_write.ensures s v ev ∙ write_notes (rule_of c.args.profile) [] s c.args.f (named c.operand-place.result) c.operand-place.ensures.leads v ws
