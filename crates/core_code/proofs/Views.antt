-- What each operation is as plain data.
use Rattle.std.proofs.Common.{◌≡◌, List, [], ◌∷◌, ◌++◌, refl, sym, ap, ◌∙◌}
use Rattle.core_code.specs.declared.code.Core.{Core}
use Rattle.core_code.specs.declared.code.Core.TheVariants as Core
use Rattle.core_code.specs.declared.code.Core.TheOpen as Open
use Rattle.core_code.specs.declared.code.Core.TheFolds.{fold-Core, fold-roll-Core}
use Rattle.core_code.specs.Tree as tree
use Rattle.core_code.specs.Tree.{Tree, trees_of, list_of}
use Rattle.core_code.specs.View.{tree_step, tree_of, trees_in}

pub tree_set : (to : _) (value : _) → tree_of (Core.Set to value) ≡ tree.Set to value
unfolding tree_of
tree_set to value = ap (fold-Core Tree tree_step) (sym (Core.rolls-Set to value)) ∙ fold-roll-Core Tree tree_step (Open.Set to value)

pub tree_address : (to : _) (place : _) → tree_of (Core.Address to place) ≡ tree.Address to place
unfolding tree_of
tree_address to place = ap (fold-Core Tree tree_step) (sym (Core.rolls-Address to place)) ∙ fold-roll-Core Tree tree_step (Open.Address to place)

pub tree_copy : (to : _) (from : _) → tree_of (Core.Copy to from) ≡ tree.Copy to from
unfolding tree_of
tree_copy to from = ap (fold-Core Tree tree_step) (sym (Core.rolls-Copy to from)) ∙ fold-roll-Core Tree tree_step (Open.Copy to from)

pub tree_load : (to : _) (pointer : _) (count : _) → tree_of (Core.Load to pointer count) ≡ tree.Load to pointer count
unfolding tree_of
tree_load to pointer count = ap (fold-Core Tree tree_step) (sym (Core.rolls-Load to pointer count)) ∙ fold-roll-Core Tree tree_step (Open.Load to pointer count)

pub tree_store : (pointer : _) (from : _) (count : _) → tree_of (Core.Store pointer from count) ≡ tree.Store pointer from count
unfolding tree_of
tree_store pointer from count = ap (fold-Core Tree tree_step) (sym (Core.rolls-Store pointer from count)) ∙ fold-roll-Core Tree tree_step (Open.Store pointer from count)

pub tree_unary : (op : _) (ty : _) (at : _) → tree_of (Core.Unary op ty at) ≡ tree.Unary op ty at
unfolding tree_of
tree_unary op ty at = ap (fold-Core Tree tree_step) (sym (Core.rolls-Unary op ty at)) ∙ fold-roll-Core Tree tree_step (Open.Unary op ty at)

pub tree_binary : (op : _) (ty : _) (to : _) (left : _) (right : _) → tree_of (Core.Binary op ty to left right) ≡ tree.Binary op ty to left right
unfolding tree_of
tree_binary op ty to left right = ap (fold-Core Tree tree_step) (sym (Core.rolls-Binary op ty to left right)) ∙ fold-roll-Core Tree tree_step (Open.Binary op ty to left right)

pub tree_convert : (from : _) (to : _) (at : _) → tree_of (Core.Convert from to at) ≡ tree.Convert from to at
unfolding tree_of
tree_convert from to at = ap (fold-Core Tree tree_step) (sym (Core.rolls-Convert from to at)) ∙ fold-roll-Core Tree tree_step (Open.Convert from to at)

pub tree_bit_read : (to : _) (register : _) (bit : _) → tree_of (Core.BitRead to register bit) ≡ tree.BitRead to register bit
unfolding tree_of
tree_bit_read to register bit = ap (fold-Core Tree tree_step) (sym (Core.rolls-BitRead to register bit)) ∙ fold-roll-Core Tree tree_step (Open.BitRead to register bit)

pub tree_bit_write : (register : _) (bit : _) (from : _) → tree_of (Core.BitWrite register bit from) ≡ tree.BitWrite register bit from
unfolding tree_of
tree_bit_write register bit from = ap (fold-Core Tree tree_step) (sym (Core.rolls-BitWrite register bit from)) ∙ fold-roll-Core Tree tree_step (Open.BitWrite register bit from)

pub tree_call : (copy : _) → tree_of (Core.Call copy) ≡ tree.Call copy
unfolding tree_of
tree_call copy = ap (fold-Core Tree tree_step) (sym (Core.rolls-Call copy)) ∙ fold-roll-Core Tree tree_step (Open.Call copy)

pub tree_leave : tree_of Core.Leave ≡ tree.Leave
unfolding tree_of
tree_leave = ap (fold-Core Tree tree_step) (sym Core.rolls-Leave) ∙ fold-roll-Core Tree tree_step Open.Leave

pub tree_exit : (loops : _) → tree_of (Core.Exit loops) ≡ tree.Exit loops
unfolding tree_of
tree_exit loops = ap (fold-Core Tree tree_step) (sym (Core.rolls-Exit loops)) ∙ fold-roll-Core Tree tree_step (Open.Exit loops)

pub tree_again : (loops : _) → tree_of (Core.Again loops) ≡ tree.Again loops
unfolding tree_of
tree_again loops = ap (fold-Core Tree tree_step) (sym (Core.rolls-Again loops)) ∙ fold-roll-Core Tree tree_step (Open.Again loops)

pub tree_many : (parts : _) → tree_of (Core.Many parts) ≡ tree.Many (trees_of (trees_in parts.items))
unfolding tree_of
tree_many parts = ap (fold-Core Tree tree_step) (sym (Core.rolls-Many parts)) ∙ fold-roll-Core Tree tree_step (Open.Many parts)

pub tree_if : (test : _) (size : _) (holds : _) (fails : _) → tree_of (Core.If test size holds fails) ≡ tree.If test size (tree_of holds.value) (tree_of fails.value)
unfolding tree_of
tree_if test size holds fails = ap (fold-Core Tree tree_step) (sym (Core.rolls-If test size holds fails)) ∙ fold-roll-Core Tree tree_step (Open.If test size holds fails)

pub tree_loop : (body : _) → tree_of (Core.Loop body) ≡ tree.Loop (tree_of body.value)
unfolding tree_of
tree_loop body = ap (fold-Core Tree tree_step) (sym (Core.rolls-Loop body)) ∙ fold-roll-Core Tree tree_step (Open.Loop body)

-- several operations as one, and back
pub list_again : (ts : List Tree) → list_of (trees_of ts) ≡ ts
list_again [] = refl
list_again (t ∷ ts) = ap (λ l. t ∷ l) (list_again ts)

-- one operation more at the end
pub trees_more : (cs : List Core) (c : Core) → trees_in (cs ++ c ∷ []) ≡ trees_in cs ++ tree_of c ∷ []
trees_more [] c = refl
trees_more (d ∷ cs) c = ap (λ l. tree_of d ∷ l) (trees_more cs c)
