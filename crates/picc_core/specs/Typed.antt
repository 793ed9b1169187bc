-- The typed program of a text, or the first rule on names and types that it breaks (ISO/IEC 9899:1990, 6.1 to 6.7, in the subset).
use Rattle.std.specs.Prelude.{ℕ, ◌≡◌, List, Ok, Err}
use Rattle.c_token.specs.declared.token.Tok.{Tok}
use Rattle.c_nodes.specs.Programs.{ItemTree, IsUnit, spelled_unit}
use Rattle.c_typed.specs.Trees.{Program}
use Rattle.parse_expr.specs.Reader.{symbols_in}
use Rattle.type_rules.specs.Faults.{Fault}
use Rattle.type_rules.specs.Units.{judged_unit}
use Rattle.picc_core.specs.Texts.{program_tokens}

-- this is the tree of the text
pub record IsTreeOf (text : List ℕ) (tree : List ItemTree) : Type 0 where
  pub toks : List Tok
  pub tokens : program_tokens text ≡ Ok toks
  pub grammar : IsUnit tree
  pub spelled : symbols_in text toks ≡ spelled_unit tree

-- the rules give this typed program to the text's tree
pub record IsTypedAs (text : List ℕ) (program : Program) : Type 0 where
  pub tree : List ItemTree
  pub of_text : IsTreeOf text tree
  pub judged : judged_unit tree ≡ Ok program

-- the text's tree breaks this rule first
pub record IsMistyped (text : List ℕ) (fault : Fault) : Type 0 where
  pub tree : List ItemTree
  pub of_text : IsTreeOf text tree
  pub judged : judged_unit tree ≡ Err fault

-- A text has one typed program at most, or breaks one rule first, and not both.
pub record HasOneTyping (text : List ℕ) : Type 0 where
  pub program : (p q : Program) → IsTypedAs text p → IsTypedAs text q → p ≡ q
  pub fault : (f g : Fault) → IsMistyped text f → IsMistyped text g → f ≡ g
  pub either : (p : Program) (f : Fault) → IsTypedAs text p → IsMistyped text f → ⊥
