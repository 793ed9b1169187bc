use Rattle.hex_image.proofs.Pairs.{other_count, sum_refused, record_gives}
use Rattle.hex_image.proofs.read.record_of.Goals as goal

pub returns-then-rest-count : goal.returns-then-rest-count
returns-then-rest-count c = other_count c.args.number c.args.bytes.now c.in-len4-up.len_at_least c.if-rest-count.true

pub returns-then-checksum-ne0 : goal.returns-then-checksum-ne0
returns-then-checksum-ne0 c =
    sum_refused c.args.number c.args.bytes.now c.wrong_sum.result c.checksum.result c.in-len4-up.len_at_least c.if-rest-count.false c.checksum.ensures c.if-checksum-ne0.true c.wrong_sum.ensures

pub returns : goal.returns
returns c =
    record_gives c.args.number c.args.bytes.now c.checksum.result c.told.result c.in-len4-up.len_at_least c.if-rest-count.false c.checksum.ensures c.if-checksum-ne0.false c.told.ensures
