-- A text with a typed program, with a broken rule on types, or with a refusal behind these has a tree.
use Rattle.std.specs.Prelude.{ℕ, List}
use Rattle.c_nodes.specs.Programs.{ItemTree}
use Rattle.c_typed.specs.Trees.{Program}
use Rattle.type_rules.specs.Faults.{Fault}
use Rattle.picc_core.specs.Answers.{First, IsRefusedBy}
use Rattle.picc_core.specs.Texts.{HasTree}
use Rattle.picc_core.specs.Typed.{IsTreeOf, IsTypedAs, IsMistyped}
use Rattle.picc_core.specs.declared.refusal.Refusal.{Refusal}

tree_there : (text : List ℕ) (tree : List ItemTree) → IsTreeOf text tree → HasTree text
tree_there text tree is = record { toks = is.toks; tree = tree; tokens = is.tokens; grammar = is.grammar; spelled = is.spelled }

pub typed_tree : (text : List ℕ) (p : Program) → IsTypedAs text p → HasTree text
typed_tree text p is = tree_there text is.tree is.of_text

pub mistyped_tree : (text : List ℕ) (fault : Fault) → IsMistyped text fault → HasTree text
mistyped_tree text fault is = tree_there text is.tree is.of_text

pub refused_tree : {Is : First} (text : List ℕ) (refusal : Refusal) → IsRefusedBy Is text refusal → HasTree text
refused_tree {Is} text refusal is = typed_tree text is.program is.typed
