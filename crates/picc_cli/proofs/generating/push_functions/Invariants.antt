use Rattle.std.proofs.Common.{◌≡◌, ◌++◌}
use Rattle.generated_laws.specs.Generated.{functions_text}
use Rattle.picc_cli.proofs.generating.push_functions.Given as goal

abbrev pub invariant-loop-i : goal.invariant-loop-i
invariant-loop-i l = l.text.items ≡ l.fn.text.items ++ functions_text l.i
