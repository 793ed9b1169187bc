use Rattle.std.proofs.Common.{◌≡◌, ◌++◌, drop, map}
use Rattle.c_typed.specs.Nodes.{capped}
use Rattle.c_typed.specs.Views.{program_of}
use Rattle.call_graph.specs.declared.types.FnCopy.{FnCopy}
use Rattle.ram_place.specs.Sizes.{variable_bytes}
use Rattle.picc_core.proofs.leaner.variables_of.Given as goal

abbrev pub invariant-loop-copy : goal.invariant-loop-copy
invariant-loop-copy l =
    l.list.items ++ map (λ (copy : FnCopy). capped (variable_bytes (program_of l.typed) copy.function)) (drop l.copy-index l.copies)
    ≡ map (λ (copy : FnCopy). capped (variable_bytes (program_of l.typed) copy.function)) l.copies
