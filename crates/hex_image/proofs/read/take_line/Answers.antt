use Rattle.std.proofs.Common.{Ok, ◌∙◌, ap}
use Rattle.hex_image.specs.Answers.{told_by}
use Rattle.hex_image.proofs.Leading.{passed, empty_line, bytes_refused, record_refused, record_leads, data_refused, data_leads}
use Rattle.hex_image.specs.Reading as reading
use Rattle.hex_image.proofs.read.take_line.Goals as goal

pub returns-in_default : goal.returns-in_default
returns-in_default c = empty_line c.args.number c.args.upper c.args.given.now c.args.line.now c.in_default.len_below

pub returns-in_err-bytes : goal.returns-in_err-bytes
returns-in_err-bytes c =
    passed _ c.from_residual.result c.in_err-bytes.field-0.0 _ c.from_residual.ensures.1
    (bytes_refused c.args.number c.args.upper c.args.given.now c.args.line.now c.in_err-bytes.field-0.0 c.in-len1-up.len_at_least c.in_err-bytes.ensures)

pub returns-in_err-record_of : goal.returns-in_err-record_of
returns-in_err-record_of c =
    passed _ c.from_residual-in_err-record_of.result c.in_err-record_of.field-0.0 _ c.from_residual-in_err-record_of.ensures.1
    (record_refused c.args.number c.args.upper c.args.given.now c.args.line.now c.in_ok-bytes.bytes.items c.deref.result.now c.in_err-record_of.field-0.0 c.in-len1-up.len_at_least c.in_ok-bytes.ensures c.deref.ensures.value c.in_err-record_of.ensures)

pub returns-in-End : goal.returns-in-End
returns-in-End c =
    record_leads c.args.number c.args.upper c.args.given.now c.args.line.now c.in_ok-bytes.bytes.items c.deref.result.now reading.End c.in-len1-up.len_at_least c.in_ok-bytes.ensures c.deref.ensures.value
    (c.in_ok-record_of.ensures ∙ ap (λ r. Ok (told_by r)) c.in-End.is)

pub returns-in-Upper : goal.returns-in-Upper
returns-in-Upper c =
    record_leads c.args.number c.args.upper c.args.given.now c.args.line.now c.in_ok-bytes.bytes.items c.deref.result.now (reading.Upper c.in-Upper.upper) c.in-len1-up.len_at_least c.in_ok-bytes.ensures c.deref.ensures.value
    (c.in_ok-record_of.ensures ∙ ap (λ r. Ok (told_by r)) c.in-Upper.is)

pub returns-in_err-place-in-Data : goal.returns-in_err-place-in-Data
returns-in_err-place-in-Data c =
    passed _ c.from_residual-in_err-place-in-Data.result c.in_err-place-in-Data.field-0.0 _ c.from_residual-in_err-place-in-Data.ensures.1
    (data_refused c.args.number c.args.upper c.in-Data.address c.args.given.now c.args.line.now c.in_ok-bytes.bytes.items c.deref.result.now c.in-Data.bytes.now c.in_err-place-in-Data.field-0.0 c.in-len1-up.len_at_least c.in_ok-bytes.ensures c.deref.ensures.value
    (c.in_ok-record_of.ensures ∙ ap (λ r. Ok (told_by r)) c.in-Data.is) c.in_err-place-in-Data.ensures)

pub returns : goal.returns
returns c =
    data_leads c.args.number c.args.upper c.in-Data.address c.args.given.now c.place.new.given c.args.line.now c.in_ok-bytes.bytes.items c.deref.result.now c.in-Data.bytes.now c.in-len1-up.len_at_least c.in_ok-bytes.ensures c.deref.ensures.value
    (c.in_ok-record_of.ensures ∙ ap (λ r. Ok (told_by r)) c.in-Data.is) c.in_ok-place-in-Data.ensures
