use Rattle.std.proofs.Common.{◌≡◌, ℕ, ap, ◌∙◌, sym, ◌+◌, ◌%◌}
use Rattle.std.specs.Prelude.{if◌then◌else◌, nat_eq}
use Rattle.pic_world.specs.Bits.{bit}
use Rattle.pic_chip.specs.Instructions.{contents, test_row_by}
use Rattle.pic_chip.specs.Profiles.{rule_of}
use Rattle.pic_chip.specs.Named.{named, device_in}
use Rattle.pic_chip.specs.Act.{accesses}
use Rattle.pic_chip.specs.Machine.{wanted_by}
use Rattle.pic_chip.proofs.Wanted.{test_wants, fed}
use Rattle.pic_chip.proofs.Done.{test_runs, test_notes}
use Rattle.pic_chip.proofs.rows.test.Goals as goal

pub returns-clause-state : goal.returns-clause-state
returns-clause-state c = λ inputs e.
    let s = c.args.processor.now in
    let p = named c.operand-place.result in
    let reads = test_wants c.args.profile inputs s c.args.f p c.operand-place.ensures.fits c.operand-place.ensures.leads c.args.b c.args.value in
    let given = fed inputs s.taken c.args.input (device_in p) (wanted_by (rule_of c.args.profile) (accesses (test_row_by (rule_of c.args.profile) inputs s.pc c.args.f c.args.b c.args.value) s)) reads e in
    let v = c.args.value in
    let to = λ (q : ℕ) (y : ℕ). (q + (if nat_eq y v then 2 else 1)) % 8192 in
    let en = ap (λ y. to s.pc (bit y c.args.b)) (sym (c.contents-byte.ensures inputs given)) ∙ ap (to s.pc) (sym c.bit.ensures.value) ∙ ap (λ q. to q c.bit.result) (sym c.pc.ensures.value) ∙ sym c.behind-next.ensures.value in
    c.finish_read.ensures.state ∙ test_runs (rule_of c.args.profile) inputs s c.args.f p c.operand-place.ensures.leads c.args.b v c.behind-next.result en

pub returns-clause-accesses : goal.returns-clause-accesses
returns-clause-accesses c = λ inputs e.
    let s = c.args.processor.now in
    let p = named c.operand-place.result in
    let reads = test_wants c.args.profile inputs s c.args.f p c.operand-place.ensures.fits c.operand-place.ensures.leads c.args.b c.args.value in
    let given = fed inputs s.taken c.args.input (device_in p) (wanted_by (rule_of c.args.profile) (accesses (test_row_by (rule_of c.args.profile) inputs s.pc c.args.f c.args.b c.args.value) s)) reads e in
    c.only_read.ensures s (contents inputs s.pc p) (sym (c.contents-byte.ensures inputs given))
    ∙ test_notes (rule_of c.args.profile) inputs s c.args.f p c.operand-place.ensures.leads c.args.b c.args.value
