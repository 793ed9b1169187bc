use Rattle.std.proofs.Common.{refl}
use Rattle.vol_opt.specs.Kept.{first_addresses}
use Rattle.vol_opt.proofs.Lists.{one_more_at, all_seen, first_in}
use Rattle.vol_opt.proofs.keeping.mark_first_bytes.Goals as goal

pub loop-first-preserved : goal.loop-first-preserved
loop-first-preserved c = one_more_at first_in first_addresses (λ x xs. refl) c.args.bytes.now c.loop-first.first-index _ _ _ _ c.loop-first-test.true c.mark_first_byte.ensures c.loop-first.invariant

pub returns : goal.returns
returns c = all_seen first_addresses refl _ _ _ _ c.loop-first-test.false c.loop-first.invariant
