-- The operations that the code has, as plain data.
use Rattle.std.specs.Prelude.{List, map}
use Rattle.core_code.specs.Tree as tree
use Rattle.core_code.specs.Tree.{Tree, trees_of}
use Rattle.core_code.specs.declared.code.Core.{Core}
use Rattle.core_code.specs.declared.code.Core.TheOpen as Open
use Rattle.core_code.specs.declared.code.Core.TheFolds.{fold-Core}

abbrev pub tree_step : Open.Core-F Tree → Tree
tree_step (Open.Set to value) = tree.Set to value
tree_step (Open.Address to place) = tree.Address to place
tree_step (Open.Copy to from) = tree.Copy to from
tree_step (Open.Load to pointer count) = tree.Load to pointer count
tree_step (Open.Store pointer from count) = tree.Store pointer from count
tree_step (Open.Unary op ty at) = tree.Unary op ty at
tree_step (Open.Binary op ty to left right) = tree.Binary op ty to left right
tree_step (Open.Convert from to at) = tree.Convert from to at
tree_step (Open.BitRead to register bit) = tree.BitRead to register bit
tree_step (Open.BitWrite register bit from) = tree.BitWrite register bit from
tree_step (Open.Call copy) = tree.Call copy
tree_step Open.Leave = tree.Leave
tree_step (Open.Many parts) = tree.Many (trees_of parts.items)
tree_step (Open.If test size holds fails) = tree.If test size holds.value fails.value
tree_step (Open.Loop body) = tree.Loop body.value
tree_step (Open.Exit loops) = tree.Exit loops
tree_step (Open.Again loops) = tree.Again loops

-- one operation, and several
unfoldable pub tree_of : Core → Tree
tree_of = fold-Core Tree tree_step

abbrev pub trees_in : List Core → List Tree
trees_in cs = map tree_of cs
