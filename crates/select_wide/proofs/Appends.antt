-- Code that is put behind other code.
use Rattle.std.proofs.Common.{◌≡◌, List, [], ◌++◌}
use Rattle.std.proofs.lemmas.List.{append-nil}
use Rattle.sym_code.specs.declared.code.Sym.{Sym}

-- nothing more
pub append_none : (list : List Sym) → list ++ [] ≡ list
append_none list = append-nil list
