use Rattle.picc_core.proofs.leaner.on_low_bytes.Goals as goal

pub returns : goal.returns
returns c = record { low = record { between = c.in_ok-narrowed.narrowed; narrowed = c.in_ok-narrowed.ensures.narrowed; tested = c.in_ok-tested.ensures.narrowed } }
