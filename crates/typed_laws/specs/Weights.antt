-- How many nodes, static objects and locals the parts of a unit come to, and what is so of a rule that is met.
use Rattle.std.specs.Prelude.{ℕ, ◌+◌, ◌≤◌, List, [], ◌∷◌, length, Result, Ok, Err}
use Rattle.c_typed.specs.TreeNodes.{nodes_in, nodes_at, nodes_of_body, arms_nodes, last_nodes, items_nodes}
use Rattle.c_typed.specs.Trees.{Expression, Statement, FunctionTree}
use Rattle.type_rules.specs.Faults.{Fault}
use Rattle.type_rules.specs.Known.{Known}
use Rattle.type_rules.specs.Outlines.{Made, ArrayMade, FunctionMade, Declared, ObjectDeclared, FunctionDeclared, Outline}
use Rattle.type_rules.specs.Slots.{Begun}
use Rattle.type_rules.specs.Statements.{statements_of, arms_of, last_of, SwitchBody, Others}
use Rattle.type_rules.specs.Terms.{Form, ValueForm, PlaceForm, FunctionForm, TypeForm, Operand, Term}

-- What holds behind a rule, where it is met.
unfoldable pub Met : {A : Type 0} → (A → Known → Type 0) → Result (A × Known) Fault → Type 0
Met P (Ok x) = P x.0 x.1
Met P (Err fault) = Unit {0}

-- the static objects of a unit, and the locals of the function whose body is read
abbrev pub held : Known → ℕ
held known = length known.statics + length (known.body).locals

-- ---- parts of expressions, which declare nothing

-- What a rule makes weighs at most so much, and nothing more is declared.
pub record Costs {A : Type 0} (most size : ℕ) (weight : A → ℕ) (x : A) (known : Known) : Type 0 where
  pub light : weight x ≤ size
  pub within : held known ≤ most

abbrev pub nothing : {A : Type 0} → A → ℕ
nothing x = 0

-- a value, and the node that may convert it
abbrev pub operand_nodes : Operand → ℕ
operand_nodes x = nodes_in x.value + 1

abbrev pub value_size : Expression → ℕ
value_size e = nodes_in e + 1

abbrev pub listed_nodes : List Operand → ℕ
listed_nodes [] = 0
listed_nodes (x ∷ xs) = operand_nodes x + listed_nodes xs

abbrev pub form_nodes : Form → ℕ
form_nodes (ValueForm value) = nodes_in value
form_nodes (PlaceForm place reach) = nodes_at place
form_nodes (FunctionForm number bare) = 0
form_nodes TypeForm = 0

-- An expression, with a node more for its value and one that may convert it; and what stands between its commas.
pub record IsTerm (most size : ℕ) (t : Term) (known : Known) : Type 0 where
  pub form_light : form_nodes t.form + 2 ≤ size
  pub listed_light : listed_nodes t.listed + 2 ≤ size
  pub within : held known ≤ most

-- ---- declarators

abbrev pub made_params : Made → ℕ
made_params (ArrayMade count) = 0
made_params (FunctionMade params scope) = length params

abbrev pub all_params : List Made → ℕ
all_params [] = 0
all_params (m ∷ ms) = made_params m + all_params ms

abbrev pub declared_params : Declared → ℕ
declared_params (ObjectDeclared ty) = 0
declared_params (FunctionDeclared result params scope) = length params

abbrev pub outline_params : Outline → ℕ
outline_params o = declared_params o.declared

-- a name, and the parameters behind it
abbrev pub outline_size : Outline → ℕ
outline_size o = 1 + outline_params o

abbrev pub begun_nodes : Begun → ℕ
begun_nodes b = items_nodes b.items

-- ---- statements and functions, with what they declare

-- What a rule makes weighs at most so much together with all that is declared.
abbrev pub Spends : {A : Type 0} → ℕ → (A → ℕ) → A → Known → Type 0
Spends most weight x known = held known + weight x ≤ most

abbrev pub body_nodes : List Statement → ℕ
body_nodes ss = nodes_of_body (statements_of ss)

abbrev pub others_nodes : Others → ℕ
others_nodes o = arms_nodes (arms_of o.0) + last_nodes (last_of o.1)

abbrev pub switch_nodes : SwitchBody → ℕ
switch_nodes body = length body.cases + body_nodes body.statements

abbrev pub function_size : FunctionTree → ℕ
function_size f = 1 + nodes_of_body f.body + (length f.params + length f.locals)

abbrev pub functions_size : List FunctionTree → ℕ
functions_size [] = 0
functions_size (f ∷ fs) = function_size f + functions_size fs
