use Rattle.std.proofs.Common.{◌≡◌, string_bytes}
use Rattle.std.proofs.lemmas.Result.{IfOk-at_ok}
use Rattle.host_io.proofs.Maps.{contents_of-stored}
use Rattle.host_io.proofs.memory.store.Goals as goal

pub returns-clause-stored : goal.returns-clause-stored
returns-clause-stored c =
    let named = IfOk-at_ok (λ s. string_bytes s ≡ c.args.name.now) c.in_ok-key.was c.from_str.ensures.ok in
    rw named at (contents_of-stored (string_bytes c.in_ok-key.key) c.args.files.now c.insert.new.self c.args.bytes c.in_ok-insert.ensures.updates)
