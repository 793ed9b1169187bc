-- The laws, as they are read.
use Rattle.std.specs.Prelude.{◌≡◌, ◌≤◌, ℕ, suc, Bool, ◌+◌, ◌*◌, ◌^◌, List, [], ◌∷◌, length, Option, Ok, Err}
use Rattle.c_ints.specs.declared.types.IntTy.{IntTy}
use Rattle.c_nodes.specs.Programs.{InitTree, MoreInits, Listed, ArmTree, Arms, Chain, ItemTree, spelled_unit}
use Rattle.c_nodes.specs.Trees.{Tree, spelled}
use Rattle.c_typed.specs.Trees.{Program}
use Rattle.type_rules.specs.Expressions.{judged}
use Rattle.type_rules.specs.Faults.{Fault}
use Rattle.type_rules.specs.Initializers.{items_in, begins}
use Rattle.type_rules.specs.Known.{Known}
use Rattle.type_rules.specs.Slots.{Slot, Begun}
use Rattle.type_rules.specs.Specifiers.{Specified}
use Rattle.type_rules.specs.Statements.{Flow, statement}
use Rattle.type_rules.specs.Terms.{Term}
use Rattle.type_rules.specs.Units.{judged_unit}
use Rattle.typed_laws.specs.Firsts.{FirstBroken, Exactly, BreaksFirst, InOrder, outcome, items_outcome, in_file_outcome, in_block_outcome, declarations_outcome, members_outcome, fields_outcome, statements_outcome, enumerators_read, params_read, switch_read, if_read}
use Rattle.typed_laws.specs.Nodes.{nodes_of, TermPart, read}
use Rattle.typed_laws.specs.Parts.{list_parts, list_read, if_parts}
use Rattle.typed_laws.specs.Sizes.{size_of}

-- The typed program that the rules give a unit is at most three times as large as the unit's spelling, whatever tree the unit is.
abbrev pub JudgedSmall : Type 0
JudgedSmall = (unit : List ItemTree) (p : Program) → judged_unit unit ≡ Ok p → size_of p ≤ 3 * length (spelled_unit unit)

-- So a unit of at most 262,144 tokens comes to at most 2 to the 20 of them, and a typed program may have 2 to the 28.
abbrev pub JudgedBounded : Type 0
JudgedBounded = (unit : List ItemTree) (p : Program) → judged_unit unit ≡ Ok p → length (spelled_unit unit) ≤ 262144 → size_of p ≤ 2 ^ 20

-- The rule that is told as broken is the first in the order of the text. Of an expression: its nodes end one behind the other; it is met
-- exactly where each of its nodes is fine, and then it is what the last of them is; and it breaks a rule exactly where the first node that
-- isn't fine breaks that. Of a list of declarations, declarators, members, enumerators, parameters, statements or labels: it breaks a rule
-- exactly where the first of them that isn't fine breaks that. Of a list of initializers, whose parts are its items and its end, and of an `if`, whose
-- parts are the condition and the statement of each arm and the statement behind the last `else`: it is met exactly where each of its parts is
-- fine, and it breaks a rule exactly where the first part that isn't fine breaks that.
pub record FirstFault : Type 0 where
  pub order : (e : Tree) (from : ℕ) → InOrder from (nodes_of e from) (from + length (spelled e))
  pub met : (e : Tree) (from : ℕ) (known : Known) (t : Term) (behind : Known) → Exactly (judged e known ≡ Ok (t, behind)) (read (nodes_of e from) ([], known) ≡ Ok (TermPart t ∷ [], behind))
  pub broken : (e : Tree) (from : ℕ) (known : Known) (fault : Fault) → Exactly (judged e known ≡ Err fault) (FirstBroken read (nodes_of e from) ([], known) fault)
  pub items : BreaksFirst items_outcome
  pub in_file : (said : Specified) → BreaksFirst (in_file_outcome said)
  pub in_block : (said : Specified) → BreaksFirst (in_block_outcome said)
  pub declarations : BreaksFirst declarations_outcome
  pub members : (number : ℕ) → BreaksFirst (members_outcome number)
  pub fields : (said : Specified) (number : ℕ) → BreaksFirst (fields_outcome said number)
  pub enumerators : BreaksFirst enumerators_read
  pub params : (bodies : Bool) → BreaksFirst (params_read bodies)
  pub statements : (flow : Flow) → BreaksFirst (statements_outcome flow)
  pub switches : (flow : Flow) (ty : IntTy) → BreaksFirst (switch_read flow ty)
  pub list_met : (opening : ℕ) (i : InitTree) (is : MoreInits) (comma : Option ℕ) (closing : ℕ) (slot : Option Slot) (inside : Bool) (b whole : Begun) (known behind : Known)
      → Exactly (begins (Listed opening i is comma closing) slot inside b known ≡ Ok (whole, behind)) (list_read slot (list_parts opening i is) ((0, b), known) ≡ Ok ((suc (items_in is), whole), behind))
  pub list_broken : (opening : ℕ) (i : InitTree) (is : MoreInits) (comma : Option ℕ) (closing : ℕ) (slot : Option Slot) (inside : Bool) (b : Begun) (known : Known) (fault : Fault)
      → Exactly (begins (Listed opening i is comma closing) slot inside b known ≡ Err fault) (FirstBroken (list_read slot) (list_parts opening i is) ((0, b), known) fault)
  pub if_met : (a : ArmTree) (as_ : Arms) (flow : Flow) (known behind : Known) → Exactly (outcome (statement (Chain a as_) flow known) ≡ Ok behind) (if_read flow (if_parts a as_) known ≡ Ok behind)
  pub if_broken : (a : ArmTree) (as_ : Arms) (flow : Flow) (known : Known) (fault : Fault) → Exactly (statement (Chain a as_) flow known ≡ Err fault) (FirstBroken (if_read flow) (if_parts a as_) known fault)
