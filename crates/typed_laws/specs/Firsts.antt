-- What is first in a list among all that breaks a rule.
use Rattle.std.specs.Prelude.{◌≡◌, ℕ, ℤ, Bool, ◌≤◌, List, [], ◌∷◌, ◌++◌, Result, Ok, Err}
use Rattle.c_ints.specs.declared.types.IntTy.{IntTy}
use Rattle.c_nodes.specs.Programs.{ItemTree, BegunTree, DeclarationTree, StatementTree}
use Rattle.c_nodes.specs.Lists as lists
use Rattle.c_nodes.specs.ProgramViews.{InnerTree, statements_of, items_of}
use Rattle.c_nodes.specs.Trees.{MemberTree, DeclaratorTree, EnumeratorTree, ParamTree}
use Rattle.type_rules.specs.Declarators.{more_members, more_fields, more_params}
use Rattle.type_rules.specs.Enumerators.{more_enumerators}
use Rattle.type_rules.specs.Declarations.{more_in_file, more_in_block, block_declarations}
use Rattle.type_rules.specs.Faults.{Fault}
use Rattle.type_rules.specs.Known.{Known}
use Rattle.type_rules.specs.Specifiers.{Specified}
use Rattle.type_rules.specs.Outlines.{Param}
use Rattle.type_rules.specs.Statements.{Flow, SwitchBody, statements, items}
use Rattle.type_rules.specs.Units.{functions_of}
use Rattle.typed_laws.specs.Nodes.{Placed}
use Rattle.typed_laws.specs.Parts.{IfPart, if_in_turn}

-- An element of a list breaks a rule, where all before it are fine: these lead from one state to another, and there the element breaks the
-- rule.
pub record FirstBroken {A S : Type 0} (run : List A → S → Result S Fault) (all : List A) (start : S) (fault : Fault) : Type 0 where
  pub before : List A
  pub broken : A
  pub after : List A
  pub behind : S
  pub are : all ≡ before ++ broken ∷ after
  pub fine : run before start ≡ Ok behind
  pub breaks : run (broken ∷ []) behind ≡ Err fault

abbrev pub Exactly : Type 0 → Type 0 → Type 0
Exactly P Q = (P → Q) × (Q → P)

-- A list breaks a rule exactly where its first element that breaks one breaks that.
abbrev pub BreaksFirst : {A S : Type 0} → (List A → S → Result S Fault) → Type 0
BreaksFirst {A} {S} run = (all : List A) (start : S) (fault : Fault) → Exactly (run all start ≡ Err fault) (FirstBroken run all start fault)

-- Nodes end one behind the other, from a place of the text to another one.
abbrev pub InOrder : ℕ → List Placed → ℕ → Type 0
InOrder from [] to = from ≤ to
InOrder from (n ∷ ns) to = (from ≤ n.end) × InOrder n.end ns to

-- ---- lists of declarations and of statements

-- what is known behind a rule, or what it breaks
abbrev pub outcome : {A : Type 0} → Result (A × Known) Fault → Result Known Fault
outcome (Ok x) = Ok x.1
outcome (Err fault) = Err fault

abbrev pub items_outcome : List ItemTree → Known → Result Known Fault
items_outcome items known = outcome (functions_of items known)

abbrev pub in_file_outcome : Specified → List (ℕ × BegunTree) → Known → Result Known Fault
in_file_outcome said declarators known = outcome (more_in_file declarators said known)

abbrev pub in_block_outcome : Specified → List (ℕ × BegunTree) → Known → Result Known Fault
in_block_outcome said declarators known = outcome (more_in_block declarators said known)

abbrev pub declarations_outcome : List DeclarationTree → Known → Result Known Fault
declarations_outcome declarations known = outcome (block_declarations declarations known)

abbrev pub members_outcome : ℕ → List MemberTree → Known → Result Known Fault
members_outcome number members known = outcome (more_members (lists.more_members members) number known)

abbrev pub fields_outcome : Specified → ℕ → List (ℕ × DeclaratorTree) → Known → Result Known Fault
fields_outcome said number declarators known = outcome (more_fields (lists.more_declarators declarators) said number known)

abbrev pub statements_outcome : Flow → List StatementTree → Known → Result Known Fault
statements_outcome flow ss known = outcome (statements (statements_of ss) flow known)

abbrev pub if_read : Flow → List IfPart → Known → Result Known Fault
if_read flow ps known = outcome (if_in_turn flow ps known)

-- ---- lists whose parts hand something on: the number of the next enumerator, the parameters before, the body of a switch so far

abbrev pub enumerators_read : List (ℕ × EnumeratorTree) → ℤ × Known → Result (ℤ × Known) Fault
enumerators_read enumerators s = more_enumerators (lists.more_enumerators enumerators) s.0 s.1

abbrev pub params_read : Bool → List (ℕ × ParamTree) → List Param × Known → Result (List Param × Known) Fault
params_read bodies params s = more_params (lists.more_params params) bodies s.0 s.1

abbrev pub switch_read : Flow → IntTy → List InnerTree → SwitchBody × Known → Result (SwitchBody × Known) Fault
switch_read flow ty is s = items (items_of is) flow ty s.0 s.1
