use Rattle.std.proofs.Common.{◌≡◌, ap, ◌∙◌, sym, ◌+◌, ◌%◌}
use Rattle.std.specs.Prelude.{if◌then◌else◌}
use Rattle.pic_chip.specs.Instructions.{contents}
use Rattle.pic_chip.specs.Profiles.{rule_of}
use Rattle.pic_chip.specs.Named.{named, device_in}
use Rattle.pic_chip.specs.Operations.{operation_row_by, result_of, flags_of, next_of}
use Rattle.pic_chip.specs.Act.{accesses}
use Rattle.pic_chip.specs.Machine.{wanted_by}
use Rattle.pic_chip.proofs.Wanted.{byte_wants, fed}
use Rattle.pic_chip.proofs.Done.{row_runs, row_notes}
use Rattle.pic_chip.proofs.rows.operate.Goals as goal

pub returns-clause-state : goal.returns-clause-state
returns-clause-state c = λ inputs e.
    let s = c.args.processor.now in
    let p = named c.operand-place.result in
    let x = contents inputs s.pc p in
    let o = c.computed-outcome.result in
    let reads = byte_wants c.args.profile inputs s c.args.f p c.operand-place.ensures.fits c.operand-place.ensures.leads c.args.d (result_of c.args.operation) (flags_of c.args.operation) (next_of s.pc c.args.operation) in
    let given = fed inputs s.taken c.args.input (device_in p) (wanted_by (rule_of c.args.profile) (accesses (operation_row_by (rule_of c.args.profile) inputs s.pc c.args.operation c.args.f c.args.d) s)) reads e in
    let ex = sym (c.contents-byte.ensures inputs given) in
    let en = c.computed-outcome.ensures.next s x ex ∙ ap (λ q. (q + (if o.skips then 2 else 1)) % 8192) (sym c.pc.ensures.value) ∙ sym c.behind-next.ensures.value in
    c.finish.ensures.state
    ∙ row_runs (rule_of c.args.profile) inputs s c.args.f p c.operand-place.ensures.leads c.args.d (result_of c.args.operation) (flags_of c.args.operation) (next_of s.pc c.args.operation)
    o.value c.behind-next.result o.flags (c.computed-outcome.ensures.value s x ex (sym c.w.ensures) (sym c.carry.ensures.value)) en
    (λ t. c.computed-outcome.ensures.flags s x t ex (sym c.w.ensures)) (c.computed-outcome.ensures.keeps x)

pub returns-clause-accesses : goal.returns-clause-accesses
returns-clause-accesses c = λ inputs e.
    let s = c.args.processor.now in
    let p = named c.operand-place.result in
    let x = contents inputs s.pc p in
    let reads = byte_wants c.args.profile inputs s c.args.f p c.operand-place.ensures.fits c.operand-place.ensures.leads c.args.d (result_of c.args.operation) (flags_of c.args.operation) (next_of s.pc c.args.operation) in
    let given = fed inputs s.taken c.args.input (device_in p) (wanted_by (rule_of c.args.profile) (accesses (operation_row_by (rule_of c.args.profile) inputs s.pc c.args.operation c.args.f c.args.d) s)) reads e in
    let ex = sym (c.contents-byte.ensures inputs given) in
    c.through.ensures s x (result_of c.args.operation x) ex (c.computed-outcome.ensures.value s x ex (sym c.w.ensures) (sym c.carry.ensures.value))
    ∙ row_notes (rule_of c.args.profile) inputs s c.args.f p c.operand-place.ensures.leads c.args.d (result_of c.args.operation) (flags_of c.args.operation) (next_of s.pc c.args.operation)
