-- Code once more.
use Rattle.std.proofs.Common.{◌≡◌, ℕ, ◌+◌, ◌<◌, ◌≤◌, List, [], ◌∷◌, ◌++◌, length, map, take, get_or, refl, sym, ap, ◌∙◌}
use Rattle.std.proofs.lemmas.List.{map_more, take_all}
use Rattle.core_code.specs.Tree as tree
use Rattle.core_code.specs.Tree.{Tree, trees_of}
use Rattle.core_code.specs.View.{tree_of, trees_in}
use Rattle.core_code.specs.declared.code.Core.{Core}
use Rattle.core_code.specs.declared.code.Core.TheVariants as Core
use Rattle.core_code.proofs.Views.{tree_many, tree_if, tree_loop, trees_more}

pub many_again : (t : Core) (parts : _) (list : List Core) (new : List Tree) (n : Tree) → t ≡ Core.Many parts → list ≡ parts.items → n ≡ tree.Many (trees_of new) → new ≡ trees_in list → n ≡ tree_of t
many_again t parts list new n e l f same = f ∙ ap (λ (ts : List Tree). tree.Many (trees_of ts)) (same ∙ ap trees_in l) ∙ sym (ap tree_of e ∙ tree_many parts)

pub if_again : (t : Core) (test : _) (size : _) (yes_part no_part : _) (a b : Core) (c d n : Tree) → t ≡ Core.If test size yes_part no_part → a ≡ yes_part.value → b ≡ no_part.value → n ≡ tree.If test size c d → c ≡ tree_of a → d ≡ tree_of b → n ≡ tree_of t
if_again t test size yes_part no_part a b c d n e y z f first second =
    f ∙ ap (λ (u : Tree). tree.If test size u d) (first ∙ ap tree_of y) ∙ ap (λ (u : Tree). tree.If test size (tree_of yes_part.value) u) (second ∙ ap tree_of z) ∙ sym (ap tree_of e ∙ tree_if test size yes_part no_part)

pub loop_again : (t : Core) (body : _) (a : Core) (c n : Tree) → t ≡ Core.Loop body → a ≡ body.value → n ≡ tree.Loop c → c ≡ tree_of a → n ≡ tree_of t
loop_again t body a c n e l f same = f ∙ ap tree.Loop (same ∙ ap tree_of l) ∙ sym (ap tree_of e ∙ tree_loop body)

pub parts_again : (parts new : List Core) (k : ℕ) (c n : Core) → k < length parts → c ≡ get_or parts k c → tree_of n ≡ tree_of c → trees_in new ≡ trees_in (take k parts) → trees_in (new ++ n ∷ []) ≡ trees_in (take (k + 1) parts)
parts_again parts new k c n below is one before =
    trees_more new n ∙ ap (λ (l : List Tree). l ++ tree_of n ∷ []) before ∙ ap (λ (t : Tree). trees_in (take k parts) ++ t ∷ []) (one ∙ ap tree_of is) ∙ sym (map_more tree_of parts k c below)

pub parts_all : (parts new : List Core) (k : ℕ) → length parts ≤ k → trees_in new ≡ trees_in (take k parts) → trees_in new ≡ trees_in parts
parts_all parts new k past before = before ∙ ap trees_in (take_all k parts past)
