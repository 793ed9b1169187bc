-- Small examples, worked out by hand. `char c;void f(void){c+c;}` has 14 tokens, and comes to 10: a static object, a function, an
-- expression statement, a sum, and on each side of it a name, what is read there and its conversion to int.
use Rattle.std.proofs.Common.{◌≡◌, ℕ, List, [], ◌∷◌, length, map, Option, Some, None, Result, Ok, Err, codes, refl}
use Rattle.c_token.specs.declared.token.Keyword.{Keyword}
use Rattle.c_token.specs.declared.token.Keyword.TheVariants as words
use Rattle.c_token.specs.declared.token.Punct.TheVariants as marks
use Rattle.c_token.specs.declared.token.TokKind.TheVariants as kinds
use Rattle.c_nodes.specs.Programs.{ItemTree, spelled_unit}
use Rattle.c_nodes.specs.Programs as unit
use Rattle.c_nodes.specs.Trees.{Tree, SpecTrees}
use Rattle.c_nodes.specs.Trees as tree
use Rattle.c_nodes.specs.Words.{Symbol, key, punct}
use Rattle.c_typed.specs.TreeNodes.{nodes_in, nodes_of_all, nodes_at, statement_nodes, nodes_of_body, arm_nodes, arms_nodes, last_nodes}
use Rattle.c_typed.specs.Trees.{Program}
use Rattle.type_rules.specs.Declarators.{specified, more_specs, spec_rule, suffixes, suffix}
use Rattle.type_rules.specs.Expressions.{judged, judged_behind}
use Rattle.type_rules.specs.Faults as kind
use Rattle.type_rules.specs.Faults.{Fault}
use Rattle.type_rules.specs.Known.{Known, known_first}
use Rattle.type_rules.specs.Statements.{statement, block_statement, statements}
use Rattle.type_rules.specs.Terms.{Term}
use Rattle.type_rules.specs.Units.{judged_unit}
use Rattle.typed_laws.specs.Nodes.{nodes_of}
use Rattle.typed_laws.specs.Sizes.{size_of}

abbrev named : List ℕ → Symbol
named bytes = record { kind = kinds.Name; bytes = bytes; line = 1 }

abbrev one_word : Keyword → SpecTrees
one_word w = tree.Specified (tree.OneWord (key w 1)) tree.NoSpec

abbrev variable : Tree
variable = tree.Leaf (named (codes "c"))

abbrev sums : List ItemTree
sums =
    unit.Declaration (record { specs = one_word words.Char; declared = Some (record { declarator = tree.Declares [] (named (codes "c")) tree.NoSuffix; init = None }, []); semicolon = 1 }) ∷
    unit.Function (one_word words.Void) (tree.Declares [] (named (codes "f")) (tree.AndSuffix (tree.VoidOnly 1 1 1) tree.NoSuffix))
    (unit.Block 1 [] (unit.AndStatement (unit.Plain (Some (tree.Join (punct marks.Plus 1) variable variable)) 1) unit.NoStatement) 1) ∷ []

abbrev size_in : Result Program Fault → Option ℕ
size_in (Ok p) = Some (size_of p)
size_in (Err fault) = None

pub tokens_of_sums : length (spelled_unit sums) ≡ 14
tokens_of_sums = refl

pub size_of_sums : size_in (judged_unit sums) ≡ Some 10
unfolding specified more_specs spec_rule suffixes suffix judged judged_behind statement block_statement statements judged_unit
    nodes_in nodes_of_all nodes_at statement_nodes nodes_of_body arm_nodes arms_nodes last_nodes
size_of_sums = refl

-- The nodes of `a=b+c` end behind so many tokens: `a`, and that as the left side, `b`, and that as a value, `c`, the sum and the
-- assignment.
abbrev on_line : ℕ → List ℕ → Tree
on_line line bytes = tree.Leaf (record { kind = kinds.Name; bytes = bytes; line = line })

abbrev written : Tree
written = tree.Assign (on_line 1 (codes "a")) (punct marks.Assign 1) (tree.Join (punct marks.Plus 1) (on_line 2 (codes "b")) (on_line 3 (codes "c")))

pub ends_of_written : map (λ n. n.end) (nodes_of written 0) ≡ 1 ∷ 1 ∷ 3 ∷ 3 ∷ 5 ∷ 5 ∷ 5 ∷ []
ends_of_written = refl

-- where no name is declared, the first one is told
abbrev fault_in : Result (Term × Known) Fault → Option Fault
fault_in (Ok x) = None
fault_in (Err fault) = Some fault

pub fault_of_written : fault_in (judged written (known_first [])) ≡ Some (record { kind = kind.Name; line = 1 })
unfolding judged judged_behind
fault_of_written = refl
