-- What is said of the form that the words have, by the form that was run.
use Rattle.std.proofs.Common.{◌≡◌, ℕ, Option, IfSome, subst}
use Rattle.host_io.specs.Host.{Kind, Contents}
use Rattle.picc_cli.specs.Command.{Form}
use Rattle.picc_cli.specs.Finished.{IsComplete}

pub complete_by : (form run : Option Form) (is : run ≡ form) (kind : Kind) (before now : ℕ) (old : Option Contents) (result : ℕ)
    → IfSome old (λ o. IsComplete kind before now run o result) → IfSome old (λ o. IsComplete kind before now form o result)
complete_by form run is kind before now old result h = subst (λ f. IfSome old (λ o. IsComplete kind before now f o result)) is h
