-- Which copies byte code and its instructions call, by their numbers.
use Rattle.std.specs.Prelude.{ℕ, nat_lt, Bool, true, false, ◌&&◌, List, [], ◌∷◌}
use Rattle.core_code.specs.Tree as code
use Rattle.core_code.specs.Tree.{Tree, Trees}
use Rattle.sym_code.specs.declared.code.BlockName.TheVariants as names
use Rattle.sym_code.specs.declared.code.Sym.{Sym}
use Rattle.sym_code.specs.declared.code.Sym.TheVariants as syms
use Rattle.sym_code.specs.declared.code.Target.TheVariants as targets

-- each call in it is that of a copy with a number below this one
abbrev mutual
  pub calls_below : ℕ → Tree → Bool
  calls_below limit (code.Call copy) = nat_lt copy limit
  calls_below limit (code.Many parts) = all_below limit parts
  calls_below limit (code.If test size holds fails) = calls_below limit holds && calls_below limit fails
  calls_below limit (code.Loop body) = calls_below limit body
  calls_below limit _ = true

  pub all_below : ℕ → Trees → Bool
  all_below limit code.NoTree = true
  all_below limit (code.AndTree part parts) = calls_below limit part && all_below limit parts

-- an instruction that names no target but the block of such a copy
abbrev pub names_below : ℕ → Sym → Bool
names_below limit (syms.Call (targets.Block (names.Copy copy))) = nat_lt copy limit
names_below limit (syms.Call to) = false
names_below limit (syms.Goto to) = false
names_below limit (syms.SelectPage bit to) = false
names_below limit (syms.Table table root) = false
names_below limit _ = true

abbrev pub all_names_below : ℕ → List Sym → Bool
all_names_below limit [] = true
all_names_below limit (s ∷ list) = names_below limit s && all_names_below limit list
