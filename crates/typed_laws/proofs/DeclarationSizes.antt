-- Declarations in the file and in blocks: an object for each declarator at most.
use Rattle.std.proofs.Common.{◌≡◌, ℕ, ◌+◌, ◌*◌, ◌≤◌, Bool, true, false, ◌||◌, if◌then◌else◌, List, [], ◌∷◌, ◌++◌, length, Option, Some, None, is_some, refl, arith, length-append}
use Rattle.c_nodes.specs.Programs.{InitTree, BegunTree, DeclaredTrees, DeclarationTree, spelled_equals, spelled_begun, spelled_more_begun, spelled_declared, spelled_declaration, spelled_declarations, spelled_init}
use Rattle.c_nodes.specs.Trees.{spelled_declarator}
use Rattle.c_nodes.specs.Words.{Symbol}
use Rattle.c_typed.specs.TreeNodes.{statement_nodes, nodes_of_body, arm_nodes, arms_nodes, last_nodes}
use Rattle.c_typed.specs.Trees.{Statement}
use Rattle.c_typed.specs.declared.types.Qualified.{Qualified}
use Rattle.c_typed.specs.declared.types.Ty.{Ty}
use Rattle.type_rules.specs.Declarations.{param_types, function_number, function_tests, function_added, set_defined, function_rule, init_in, no_value, file_object, file_declared, type_tests, type_rule, declared_as, file_declarator, more_in_file, declared_in_file, file_declaration, block_object, block_declarator, more_in_block, declared_in_block, block_declaration, block_declarations}
use Rattle.type_rules.specs.Declarators.{in_file, in_block, name_in, line_in}
use Rattle.type_rules.specs.Faults as kind
use Rattle.type_rules.specs.Known.{Known, given, go_on}
use Rattle.type_rules.specs.Names.{innermost_in, is_declared}
use Rattle.type_rules.specs.Objects.{static_rule, block_name, next_declarator, local_rule}
use Rattle.type_rules.specs.Outlines.{Param, Declared, ObjectDeclared, FunctionDeclared, Outline}
use Rattle.type_rules.specs.Slots.{nothing_begun}
use Rattle.type_rules.specs.Specifiers.{Specified}
use Rattle.typed_laws.specs.Weights.{Met, held, Costs, nothing, begun_nodes, outline_size, Spends, body_nodes}
use Rattle.typed_laws.proofs.DeclaratorSizes.{specified_met, outline_met}
use Rattle.typed_laws.proofs.InitializerSizes.{begins_met}
use Rattle.typed_laws.proofs.ObjectSizes.{object_met, static_met, begun_most, local_met}
use Rattle.typed_laws.proofs.StepSizes.{met_given, met_broken, met_on, met_tests, met_tried, met_weaker, met_kept, kept}

-- the statements of two lists, one behind the other
pub joined_nodes : (xs ys : List Statement) → body_nodes (xs ++ ys) ≡ body_nodes xs + body_nodes ys
unfolding statement_nodes nodes_of_body arm_nodes arms_nodes last_nodes
joined_nodes [] ys = omega arith
joined_nodes (x ∷ xs) ys = omega (arith, joined_nodes xs ys)

pub no_nodes : body_nodes [] ≡ 0
unfolding statement_nodes nodes_of_body arm_nodes arms_nodes last_nodes
no_nodes = refl

-- What an initializer comes to has its tokens and that of `=`, and its object that of the name.
begun_room : (init : Option (ℕ × InitTree)) → 1 + begun_most (init_in init) ≤ 3 * (1 + length (spelled_equals init))
begun_room None = omega arith
begun_room (Some i) = omega arith

-- ---- functions

defined_met : (h : ℕ) (defines : Bool) (number : ℕ) (known : Known) → held known ≤ h → Met (Costs h 0 nothing) (set_defined defines number known)
defined_met h false number known within = met_kept h _ known within
defined_met h true number known within = met_kept h _ _ within

added_met : (h : ℕ) (found : Option ℕ) (name : List ℕ) (result : Qualified) (params : List Ty) (known : Known) → held known ≤ h → Met (Costs h 0 nothing) (function_added found name result params known)
added_met h (Some number) name result params known within = met_kept h number known within
added_met h None name result params known within = met_kept h _ _ within

pub function_rule_met : (h : ℕ) (name : List ℕ) (result : Qualified) (params : List Param) (bad defines : Bool) (line : ℕ) (known : Known) → held known ≤ h → Met (Costs h 0 nothing) (function_rule name result params bad defines line known)
function_rule_met h name result params bad defines line known within = met_tried _ (function_tests known name result (param_types params) bad defines) line known _
    (met_on (Costs h 0 nothing) _ _ _ (added_met h (function_number (innermost_in known.scopes name)) name result (param_types params) known within) (λ number k c. defined_met h defines number k c.within))

no_value_met : (h : ℕ) (init : Option InitTree) (line : ℕ) (known : Known) → held known ≤ h → Met (Costs h 0 nothing) (no_value init line known)
no_value_met h None line known within = met_kept h _ known within
no_value_met h (Some init) line known within = met_on (Costs h (0 + 3 * length (spelled_init init)) begun_nodes) _ _ _ (begins_met init h None false (nothing_begun true line) known within) (λ b k c. met_broken _ _)

-- ---- in the file

module _ (h : ℕ) (said : Specified) (o : Outline) (init : Option InitTree) (name : List ℕ) (line : ℕ) (known : Known) (within : held known ≤ h) where
  object_in_file : Met (Costs (h + 1) 0 nothing) (file_object said o init name line known)
  object_in_file = met_tried _ ((is_declared known name, kind.Again) ∷ []) line known _ (met_on (Costs h 0 nothing) _ _ _ (object_met h said o (is_some init) line known within)
      (λ ty k c. static_met (h + 1) init name name ty line k (omega arith)))

  declared_met : (declared : Declared) → Met (Costs (h + 1) 0 nothing) (file_declared declared said o init name line known)
  declared_met (FunctionDeclared result params scope) = met_on (Costs h 0 nothing) _ _ _ (function_rule_met h name result params o.bad false line known within) (λ u k c. no_value_met (h + 1) init line k (omega arith))
  declared_met (ObjectDeclared ty) = object_in_file

  type_rule_met : Met (Costs (h + 1) 0 nothing) (type_rule said o (is_some init) name line known)
  type_rule_met = met_tried _ (type_tests known said o (is_some init) name) line known _ (met_kept (h + 1) _ _ (omega arith))

  either_met : (is_type : Bool) → Met (Costs (h + 1) 0 nothing) ((if is_type then type_rule said o (is_some init) name line else file_declared o.declared said o init name line) known)
  either_met true = type_rule_met
  either_met false = declared_met o.declared

  declared_as_met : Met (Costs (h + 1) 0 nothing) (declared_as said o init name line known)
  declared_as_met = either_met said.is_typedef

file_declarator_met : (b : BegunTree) (said : Specified) (h : ℕ) (known : Known) → held known ≤ h → Met (Costs (h + length (spelled_begun b)) 0 nothing) (file_declarator b said known)
file_declarator_met b said h known within = met_on (Costs h (length (spelled_declarator b.declarator)) outline_size) _ _ _ (outline_met h b.declarator said true known within)
    (λ o k c. met_weaker (Costs (h + 1) 0 nothing) _ _ (λ u k2 c2. kept (h + length (spelled_begun b)) u k2 (omega (arith, length-append {A = Symbol})))
    (declared_as_met h said o (init_in b.init) (name_in b.declarator) (line_in b.declarator) k c.within))

more_in_file_met : (bs : List (ℕ × BegunTree)) (said : Specified) (h : ℕ) (known : Known) → held known ≤ h → Met (Costs (h + length (spelled_more_begun bs)) 0 nothing) (more_in_file bs said known)
more_in_file_met [] said h known within = met_kept (h + 0) _ known (omega arith)
more_in_file_met (b ∷ bs) said h known within = met_on (Costs (h + length (spelled_begun b.1)) 0 nothing) _ _ _ (file_declarator_met b.1 said h known within)
    (λ u k c. met_weaker (Costs (h + length (spelled_begun b.1) + length (spelled_more_begun bs)) 0 nothing) _ _ (λ v k2 c2. kept (h + length (spelled_more_begun (b ∷ bs))) v k2 (omega (arith, length-append {A = Symbol})))
    (more_in_file_met bs said (h + length (spelled_begun b.1)) k c.within))

in_file_met : (d : Option DeclaredTrees) (said : Specified) (h : ℕ) (known : Known) → held known ≤ h → Met (Costs (h + length (spelled_declared d)) 0 nothing) (declared_in_file d said known)
in_file_met None said h known within = met_tests _ ((said.interrupt || said.is_typedef, kind.Declare) ∷ []) said.line known (kept (h + 0) known known (omega arith))
in_file_met (Some d) said h known within = met_on (Costs (h + length (spelled_begun d.0)) 0 nothing) _ _ _ (file_declarator_met d.0 said h known within)
    (λ u k c. met_weaker (Costs (h + length (spelled_begun d.0) + length (spelled_more_begun d.1)) 0 nothing) _ _ (λ v k2 c2. kept (h + length (spelled_declared (Some d))) v k2 (omega (arith, length-append {A = Symbol})))
    (more_in_file_met d.1 said (h + length (spelled_begun d.0)) k c.within))

-- A declaration of the file has a static object for each of its declarators at most.
pub file_declaration_met : (d : DeclarationTree) (h : ℕ) (known : Known) → held known ≤ h → Met (Costs (h + length (spelled_declaration d)) 0 nothing) (file_declaration d known)
file_declaration_met d h known within = met_on (Costs h 0 nothing) _ _ _ (specified_met d.specs h in_file known within)
    (λ said k c. met_weaker (Costs (h + length (spelled_declared d.declared)) 0 nothing) _ _ (λ u k2 c2. kept (h + length (spelled_declaration d)) u k2 (omega (arith, length-append {A = Symbol})))
    (in_file_met d.declared said h k c.within))

-- ---- in blocks

object_by : (h : ℕ) (fixed register : Bool) (init : Option InitTree) (map_name : Known → List ℕ) (name : List ℕ) (q : Qualified) (line : ℕ) (known : Known) → held known + 1 ≤ h
    → Met (Spends (h + begun_most init) body_nodes) ((if fixed then (λ k. go_on (λ u. given []) (static_rule init (map_name k) name q line k)) else local_rule init name q register line) known)
object_by h true register init map_name name q line known within = met_on (Costs h 0 nothing) _ _ (λ u. given []) (static_met h init (map_name known) name q line known within) (λ u k c. met_given _ _ _ (omega (arith, no_nodes)))
object_by h false register init map_name name q line known within = met_weaker (Costs h (begun_most init) body_nodes) _ _ (λ ss k c. omega arith) (local_met h init name q register line known within)

block_declarator_met : (b : BegunTree) (said : Specified) (known : Known) → Met (Spends (held known + 3 * length (spelled_begun b)) body_nodes) (block_declarator b said known)
block_declarator_met b said known = met_on (Costs (held known) (length (spelled_declarator b.declarator)) outline_size) _ _ _ (outline_met (held known) b.declarator said false known (omega arith))
    (λ o k c. met_tried _ ((is_declared k (name_in b.declarator), kind.Again) ∷ []) (line_in b.declarator) k _
    (met_on (Costs (held known) 0 nothing) _ _ (λ ty. λ k2. go_on (λ n. block_object said ty (init_in b.init) (name_in b.declarator) n (line_in b.declarator)) (next_declarator k2)) (object_met (held known) said o (is_some b.init) (line_in b.declarator) k c.within)
    (λ ty k2 c2. met_on (Costs (held known) 0 nothing) _ (next_declarator k2) (λ n. block_object said ty (init_in b.init) (name_in b.declarator) n (line_in b.declarator)) (met_kept (held known) _ _ c2.within)
    (λ n k3 c3. met_weaker (Spends (held known + 1 + begun_most (init_in b.init)) body_nodes) _ _ (λ ss k4 g. omega (arith, begun_room b.init, length-append (spelled_declarator b.declarator) (spelled_equals b.init)))
    (object_by (held known + 1) said.fixed said.register (init_in b.init) (λ z. block_name (z.body).name n (name_in b.declarator)) (name_in b.declarator) ty (line_in b.declarator) k3 (omega arith))))))

more_in_block_met : (bs : List (ℕ × BegunTree)) (said : Specified) (known : Known) → Met (Spends (held known + 3 * length (spelled_more_begun bs)) body_nodes) (more_in_block bs said known)
more_in_block_met [] said known = met_given _ _ _ (omega (arith, no_nodes))
more_in_block_met (b ∷ bs) said known = met_on (Spends (held known + 3 * length (spelled_begun b.1)) body_nodes) _ _ _ (block_declarator_met b.1 said known)
    (λ first k g. met_on (Spends (held k + 3 * length (spelled_more_begun bs)) body_nodes) _ _ (λ others. given (first ++ others)) (more_in_block_met bs said k)
    (λ others k2 g2. met_given _ _ _ (omega (arith, joined_nodes first others, length-append (spelled_begun b.1) (spelled_more_begun bs)))))

in_block_met : (d : Option DeclaredTrees) (said : Specified) (known : Known) → Met (Spends (held known + 3 * length (spelled_declared d)) body_nodes) (declared_in_block d said known)
in_block_met None said known = met_tried _ ((said.interrupt || said.is_typedef, kind.Declare) ∷ []) said.line known (λ u. given []) (met_given _ _ _ (omega (arith, no_nodes)))
in_block_met (Some d) said known = met_on (Spends (held known + 3 * length (spelled_begun d.0)) body_nodes) _ _ _ (block_declarator_met d.0 said known)
    (λ first k g. met_on (Spends (held k + 3 * length (spelled_more_begun d.1)) body_nodes) _ _ (λ others. given (first ++ others)) (more_in_block_met d.1 said k)
    (λ others k2 g2. met_given _ _ _ (omega (arith, joined_nodes first others, length-append (spelled_begun d.0) (spelled_more_begun d.1)))))

block_declaration_met : (d : DeclarationTree) (known : Known) → Met (Spends (held known + 3 * length (spelled_declaration d)) body_nodes) (block_declaration d known)
block_declaration_met d known = met_on (Costs (held known) 0 nothing) _ _ _ (specified_met d.specs (held known) in_block known (omega arith))
    (λ said k c. met_weaker (Spends (held k + 3 * length (spelled_declared d.declared)) body_nodes) _ _ (λ ss k2 g. omega (arith, length-append {A = Symbol})) (in_block_met d.declared said k))

-- What the declarations of a block do.
pub block_declarations_met : (ds : List DeclarationTree) (known : Known) → Met (Spends (held known + 3 * length (spelled_declarations ds)) body_nodes) (block_declarations ds known)
block_declarations_met [] known = met_given _ _ _ (omega (arith, no_nodes))
block_declarations_met (d ∷ ds) known = met_on (Spends (held known + 3 * length (spelled_declaration d)) body_nodes) _ _ _ (block_declaration_met d known)
    (λ first k g. met_on (Spends (held k + 3 * length (spelled_declarations ds)) body_nodes) _ _ (λ others. given (first ++ others)) (block_declarations_met ds k)
    (λ others k2 g2. met_given _ _ _ (omega (arith, joined_nodes first others, length-append (spelled_declaration d) (spelled_declarations ds)))))
