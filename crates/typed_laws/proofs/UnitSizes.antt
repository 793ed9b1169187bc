-- Units: the typed program of a unit is at most three times as large as the unit's spelling.
use Rattle.std.proofs.Common.{◌≡◌, ℕ, ◌+◌, ◌*◌, ◌^◌, ◌≤◌, true, List, [], ◌∷◌, length, map, Result, Ok, Err, subst, arith, length-append}
use Rattle.std.proofs.lemmas.List.{length-map}
use Rattle.c_nodes.specs.Programs as tree
use Rattle.c_nodes.specs.Programs.{ItemTree, BlockTree, spelled_declaration, spelled_block, spelled_item, spelled_unit}
use Rattle.c_nodes.specs.Trees.{SpecTrees, DeclaratorTree, spelled_declarator}
use Rattle.c_nodes.specs.Words.{Symbol}
use Rattle.c_typed.specs.TreeNodes.{nodes_of_body, functions_nodes}
use Rattle.c_typed.specs.Trees as typed
use Rattle.c_typed.specs.Trees.{FunctionTree, Program}
use Rattle.c_typed.specs.declared.types.Ty.{Ty}
use Rattle.type_rules.specs.Declarators.{in_file, name_in, line_in}
use Rattle.type_rules.specs.Faults as kind
use Rattle.type_rules.specs.Faults.{Fault}
use Rattle.type_rules.specs.Known.{Scope, Known, known_first, no_body, given, broken}
use Rattle.type_rules.specs.Names.{is_declared, without_first}
use Rattle.type_rules.specs.Outlines.{Param, Declared, ObjectDeclared, FunctionDeclared, Outline}
use Rattle.type_rules.specs.Specifiers.{Specified}
use Rattle.type_rules.specs.Statements.{body_statements}
use Rattle.type_rules.specs.Units.{defined_in, variable_of, function_body, function_declared, function, functions_of, program_from, program_in, judged_unit}
use Rattle.typed_laws.specs.Sizes.{variables_in, size_of}
use Rattle.typed_laws.specs.Weights.{Met, held, Costs, nothing, declared_params, outline_size, Spends, function_size, functions_size}
use Rattle.typed_laws.proofs.DeclarationSizes.{function_rule_met, file_declaration_met}
use Rattle.typed_laws.proofs.DeclaratorSizes.{specified_met, outline_met}
use Rattle.typed_laws.proofs.StatementSizes.{body_met}
use Rattle.typed_laws.proofs.StepSizes.{met_given, met_broken, met_on, met_tried, met_weaker}

-- ---- functions

module _ (b : BlockTree) (said : Specified) (name : List ℕ) (result : Ty) (params : List Param) (scope : Scope) where
  abbrev ended : typed.Statements → Known → Result (FunctionTree × Known) Fault
  ended ss k = Ok (record { name = name; result = result; params = map variable_of params; locals = (k.body).locals; body = ss; interrupt = said.interrupt; line = said.line }, record k { scopes = without_first k.scopes; body = no_body })

  abbrev begun : Known → Known
  begun known = record known { body = record { name = name; result = result; locals = []; declarators = 0 }; scopes = scope ∷ known.scopes }

  function_body_met : (known : Known) → Met (Spends (held known + 1 + length params + 3 * length (spelled_block b)) function_size) (function_body b said name result params scope known)
  function_body_met known = met_on (Spends (held (begun known) + 3 * length (spelled_block b)) nodes_of_body) _ (body_statements b (begun known)) ended (body_met b (begun known))
      (λ ss k g. met_given _ _ _ (omega (arith, length-map params variable_of)))

declared_met : (declared : Declared) (b : BlockTree) (said : Specified) (o : Outline) (name : List ℕ) (line : ℕ) (known : Known)
    → Met (Spends (held known + 1 + declared_params declared + 3 * length (spelled_block b)) function_size) (function_declared declared b said o name line known)
declared_met (FunctionDeclared result params scope) b said o name line known = met_on (Costs (held known) 0 nothing) _ _ _ (function_rule_met (held known) name result params o.bad true line known (omega arith))
    (λ u k c. met_weaker (Spends (held k + 1 + length params + 3 * length (spelled_block b)) function_size) _ _ (λ f k2 g. omega arith) (function_body_met b said name result.ty params scope k))
declared_met (ObjectDeclared ty) b said o name line known = met_tried _ ((is_declared known name, kind.Again) ∷ []) line known (λ u. broken kind.Declare line) (met_broken _ _)

function_met : (s : SpecTrees) (d : DeclaratorTree) (b : BlockTree) (known : Known) → Met (Spends (held known + 3 * length (spelled_item (tree.Function s d b))) function_size) (function s d b known)
function_met s d b known = met_on (Costs (held known) 0 nothing) _ _ _ (specified_met s (held known) in_file known (omega arith))
    (λ said k c. met_tried _ ((said.is_typedef, kind.Declare) ∷ []) said.line k _ (met_on (Costs (held known) (length (spelled_declarator d)) outline_size) _ _ _ (outline_met (held known) d said true k c.within)
    (λ o k2 c2. met_weaker (Spends (held k2 + 1 + declared_params o.declared + 3 * length (spelled_block b)) function_size) _ _ (λ f k3 g. omega (arith, length-append {A = Symbol})) (declared_met o.declared b said o (name_in d) (line_in d) k2))))

-- ---- units

functions_met : (is : List ItemTree) (known : Known) → Met (Spends (held known + 3 * length (spelled_unit is)) functions_size) (functions_of is known)
functions_met [] known = met_given _ _ _ (omega arith)
functions_met (tree.Function s d b ∷ is) known = met_on (Spends (held known + 3 * length (spelled_item (tree.Function s d b))) function_size) _ _ _ (function_met s d b known)
    (λ first k g. met_on (Spends (held k + 3 * length (spelled_unit is)) functions_size) _ _ (λ others. given (first ∷ others)) (functions_met is k)
    (λ others k2 g2. met_given _ _ _ (omega (arith, length-append (spelled_item (tree.Function s d b)) (spelled_unit is)))))
functions_met (tree.Declaration d ∷ is) known = met_on (Costs (held known + length (spelled_declaration d)) 0 nothing) _ _ _ (file_declaration_met d (held known) known (omega arith))
    (λ u k c. met_weaker (Spends (held k + 3 * length (spelled_unit is)) functions_size) _ _ (λ fs k2 g. omega (arith, length-append (spelled_declaration d) (spelled_unit is))) (functions_met is k))

-- ---- the whole program

functions_parts : (fs : List FunctionTree) → functions_size fs ≡ functions_nodes fs + variables_in fs
functions_parts [] = omega arith
functions_parts (f ∷ fs) = omega (arith, functions_parts fs)

program_small : (n : ℕ) (fs : List FunctionTree) (known : Known) → Spends n functions_size fs known → size_of (program_from known fs) ≤ n
program_small n fs known h = omega (arith, functions_parts fs)

judged_by : (n : ℕ) (r : Result (List FunctionTree × Known) Fault) → Met (Spends n functions_size) r → (p : Program) → program_in r ≡ Ok p → size_of p ≤ n
unfolding Met
judged_by n (Err fault) h p is = absurd (cc is)
judged_by n (Ok x) h p is = subst (λ z. size_of z ≤ n) (same_ok (program_from x.1 x.0) p is) (program_small n x.0 x.1 h)
  where
    same_ok : (a b : Program) → ◌≡◌ {A = Result Program Fault} (Ok a) (Ok b) → a ≡ b
    same_ok a b e = cc e

-- The typed program of a unit has at most three nodes, static objects, parameters and locals for each token.
pub judged_small : (unit : List ItemTree) (p : Program) → judged_unit unit ≡ Ok p → size_of p ≤ 3 * length (spelled_unit unit)
unfolding judged_unit
judged_small unit p is = let start = known_first (defined_in unit []) in
    let small : size_of p ≤ held start + 3 * length (spelled_unit unit) = judged_by (held start + 3 * length (spelled_unit unit)) (functions_of unit start) (functions_met unit start) p is in omega arith

pub judged_bounded : (unit : List ItemTree) (p : Program) → judged_unit unit ≡ Ok p → length (spelled_unit unit) ≤ 262144 → size_of p ≤ 2 ^ 20
judged_bounded unit p is few = let small = judged_small unit p is in omega arith
