-- Code that is selected for the body of a copy: no select stands in it, each literal is a byte, it doesn't go to the start block, and
-- its labels are its own.
use Rattle.std.specs.Prelude.{Bool, true, false, not, ◌&&◌, nat_lt, List, [], ◌∷◌}
use Rattle.core_code.specs.Tree as trees
use Rattle.core_code.specs.Tree.{Tree, Trees}
use Rattle.sym_code.specs.Selects.{is_select}
use Rattle.sym_code.specs.declared.code.Label.TheVariants as labels
use Rattle.sym_code.specs.declared.code.Sym.{Sym}
use Rattle.sym_code.specs.declared.code.Sym.TheVariants as syms
use Rattle.chip_trace.specs.Arriving.{is_near, is_small, keeps_out}

-- it isn't one of the labels that stand once in a program
abbrev pub is_own : Sym → Bool
is_own (syms.Label labels.Halt) = false
is_own (syms.Label labels.Restore) = false
is_own _ = true

abbrev pub is_plain : Sym → Bool
is_plain s = not (is_select s) && (is_small s && (keeps_out s && is_own s))

abbrev pub all_plain : List Sym → Bool
all_plain [] = true
all_plain (s ∷ list) = is_plain s && all_plain list

-- byte code whose numbers fit into a byte, and addresses of registers below 512
abbrev mutual
  pub is_given : Tree → Bool
  is_given (trees.Set to value) = nat_lt value 256
  is_given (trees.Address to place) = is_near place
  is_given (trees.Many parts) = all_given parts
  is_given (trees.If test size holds fails) = is_given holds && is_given fails
  is_given (trees.Loop body) = is_given body
  is_given _ = true

  pub all_given : Trees → Bool
  all_given trees.NoTree = true
  all_given (trees.AndTree part parts) = is_given part && all_given parts
