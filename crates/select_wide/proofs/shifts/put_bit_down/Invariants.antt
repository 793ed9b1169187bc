use Rattle.std.proofs.Common.{◌≡◌, ◌++◌}
use Rattle.select_wide.specs.Pieces.{rising}
use Rattle.select_code.specs.Pieces.{byte_behind, file_code}
use Rattle.std.specs.Prelude.{◌-◌}
use Rattle.sym_code.specs.declared.code.FileOperation.TheVariants.{Rrf}
use Rattle.sym_code.specs.declared.code.Into.TheVariants.{File}
use Rattle.select_wide.proofs.shifts.put_bit_down.Given as goal

abbrev pub invariant-loop-k : goal.invariant-loop-k
invariant-loop-k l = record { put : l.out.list.items ≡ l.initial.out.list.items ++ rising (λ k. file_code Rrf (byte_behind l.at (l.count - 1 - k)) File) l.k; name : l.out.name ≡ l.initial.out.name }
