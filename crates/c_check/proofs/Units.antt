-- Functions and units: the names that a unit defines, parameters, bodies and the typed program.
use Rattle.std.proofs.Common.{◌≡◌, ℕ, ◌+◌, ◌*◌, ◌<◌, ◌≤◌, Bool, true, false, ◌||◌, if◌then◌else◌, List, [], ◌∷◌, ◌++◌, map, length, drop, get_or, Result, Ok, Err, refl, sym, ap, subst, ◌∙◌, append-nil, append_assoc, length-append, bytes_eq, Vec, Global, arith}
use Rattle.std.proofs.lemmas.List.{length-map, map-append}
use Rattle.std.specs.List.{list_any}
use Rattle.std.specs.Prelude.{◌^◌}
use Rattle.indexmap.specs.IndexSet.{insert_key}
use Rattle.c_nodes.specs.ProgramViews.{block_of, declaration_of, item_of}
use Rattle.c_nodes.specs.Programs as tree
use Rattle.c_nodes.specs.Programs.{BlockTree, DeclarationTree, ItemTree, spelled_block, spelled_declaration, spelled_unit}
use Rattle.c_nodes.specs.Trees.{DeclaratorTree, SpecTrees, spelled_declarator, spelled_specs}
use Rattle.c_nodes.specs.Views.{declarator_of, specs_of}
use Rattle.c_nodes.specs.Words.{Symbols}
use Rattle.c_nodes.specs.declared.statement.Declaration.{Declaration}
use Rattle.c_nodes.specs.declared.statement.Function as code
use Rattle.c_nodes.specs.declared.statement.Item.{Item}
use Rattle.c_nodes.specs.declared.statement.Item.TheVariants as node
use Rattle.c_typed.specs.Nodes.{program_size}
use Rattle.c_typed.specs.Shown as made
use Rattle.c_typed.specs.Sound.{is_sound}
use Rattle.c_typed.specs.Trees as typed
use Rattle.c_typed.specs.Trees.{FunctionTree, Program, Statement, StaticTree, StructureTree, VariableTree}
use Rattle.c_typed.specs.Views as shown
use Rattle.c_typed.specs.declared.program.Function.{Function}
use Rattle.c_typed.specs.declared.program.Static.{Static}
use Rattle.c_typed.specs.declared.program.Variable.{Variable}
use Rattle.c_typed.specs.declared.types.Structure.{Structure}
use Rattle.c_typed.specs.declared.types.Qualified.{Qualified}
use Rattle.c_typed.specs.declared.types.Ty.{Ty}
use Rattle.type_rules.specs.Declarations.{block_declarations, file_declaration}
use Rattle.type_rules.specs.Declarators.{name_in}
use Rattle.type_rules.specs.Faults.{Fault}
use Rattle.type_rules.specs.Known.{Scope, Shape, Known, Rule, given, known_first, known_here, go_on, ◌>>=◌}
use Rattle.type_rules.specs.Names.{enter_with, leave}
use Rattle.type_rules.specs.Outlines.{Param}
use Rattle.type_rules.specs.Specifiers.{Specified}
use Rattle.type_rules.specs.Statements as statements
use Rattle.type_rules.specs.Units as rule
use Rattle.typed_laws.proofs.Units.{judged_sound}
use Rattle.typed_laws.specs.Sizes.{size_of}
use Rattle.typed_laws.proofs.Counts.{size_counts}
use Rattle.typed_laws.proofs.UnitSizes.{judged_small}
use Rattle.c_tables.specs.Answers.{Refuses}
use Rattle.c_tables.specs.Tables.{known_of}
use Rattle.c_tables.specs.declared.checker.Checker.{Checker}
use Rattle.c_tables.specs.declared.error.CheckError.{CheckError}
use Rattle.c_tables.specs.declared.error.CheckError.TheVariants as errors
use Rattle.c_outline.specs.Views.{param_of}
use Rattle.c_outline.specs.declared.outline.ParamShape.{ParamShape}
use Rattle.c_check.specs.StatementViews.{behind, block_list, inner_rule}
use Rattle.c_check.proofs.Lists.{next, passes_on}

-- ---- the names that a unit defines

module _ {K : Type 0} (text : K → List ℕ) where
  seen_among : (ks : List K) (k : K) → list_any (λ x. bytes_eq (text k) (text x)) ks ≡ rule.is_among (text k) (map text ks)
  seen_among [] k = refl
  seen_among (x ∷ xs) k = ap (λ b. bytes_eq (text k) (text x) || b) (seen_among xs k)

  put_last : (ks : List K) (k : K) → map text (ks ++ k ∷ []) ≡ map text ks ++ text k ∷ []
  put_last [] k = refl
  put_last (x ∷ xs) k = ap (λ l. text x ∷ l) (put_last xs k)

  put_by : (b : Bool) (ks : List K) (k : K) → map text (if b then ks else ks ++ k ∷ []) ≡ (if b then map text ks else map text ks ++ text k ∷ [])
  put_by true ks k = refl
  put_by false ks k = put_last ks k

  pub name_put : (ks : List K) (k : K) → map text (insert_key (λ a b. bytes_eq (text a) (text b)) ks k) ≡ rule.with_name (text k) (map text ks)
  name_put ks k = put_by (list_any (λ x. bytes_eq (text k) (text x)) ks) ks k ∙ ap (λ b. if b then map text ks else map text ks ++ text k ∷ []) (seen_among ks k)

pub name_added : (old new : List (Vec ℕ Global)) (k : Vec ℕ Global) (name : List ℕ) → k.items ≡ name → new ≡ insert_key (λ a b. bytes_eq a.items b.items) old k → map (λ n. n.items) new ≡ rule.with_name name (map (λ n. n.items) old)
name_added old new k name is put =
    let names : List (Vec ℕ Global) → List (List ℕ) = map (λ (n : Vec ℕ Global). n.items) in
    ap names put ∙ name_put (λ (n : Vec ℕ Global). n.items) old k ∙ ap (λ n. rule.with_name n (names old)) is

-- A unit defines no more functions than it has tokens.
one_named_by : (known : Bool) (name : List ℕ) (names : List (List ℕ)) → length (if known then names else names ++ name ∷ []) ≤ length names + 1
one_named_by true name names = omega arith
one_named_by false name names = omega (arith, length-append names (name ∷ []))

one_named : (name : List ℕ) (names : List (List ℕ)) → length (rule.with_name name names) ≤ length names + 1
one_named name names = one_named_by (rule.is_among name names) name names

defined_few : (unit : List ItemTree) (names : List (List ℕ)) → length (rule.defined_in unit names) ≤ length names + length (spelled_unit unit)
defined_few [] names = omega arith
defined_few (tree.Function s d (tree.Block line ds ss closing) ∷ is) names =
    let here : Symbols = spelled_block (tree.Block line ds ss closing) in
    let rest = defined_few is (rule.with_name (name_in d) names) in
    let one = one_named (name_in d) names in
    omega (arith, rest, one, length-append (spelled_specs s ++ (spelled_declarator d ++ here)) (spelled_unit is), length-append (spelled_specs s) (spelled_declarator d ++ here), length-append (spelled_declarator d) here)
defined_few (tree.Declaration d ∷ is) names =
    let rest = defined_few is names in
    omega (arith, rest, length-append (spelled_declaration d) (spelled_unit is))

pub names_few : (unit : List ItemTree) (names : List (Vec ℕ Global)) → map (λ (n : Vec ℕ Global). n.items) names ≡ rule.defined_in unit [] → length (spelled_unit unit) ≤ 262144 → length names ≤ 262144
names_few unit names is few =
    let counted : length (map (λ (n : Vec ℕ Global). n.items) names) ≡ length (rule.defined_in unit []) = ap length is in
    let most = defined_few unit [] in
    omega (arith, counted, most, few, length-map names (λ (n : Vec ℕ Global). n.items))

-- ---- parameters as variables, one more

pub variables_more : (made pushed : List Variable) (v : Variable) (params rest : List ParamShape) (p : ParamShape) (total : List VariableTree) → params ≡ p ∷ rest → pushed ≡ made ++ v ∷ [] → shown.variable_of v ≡ rule.variable_of (param_of p)
    → map shown.variable_of made ++ map rule.variable_of (map param_of params) ≡ total → map shown.variable_of pushed ++ map rule.variable_of (map param_of rest) ≡ total
variables_more made pushed v params rest p total is put same so_far =
    let before : List VariableTree = map shown.variable_of made in
    let later : List VariableTree = map rule.variable_of (map param_of rest) in
    ap (λ (l : List VariableTree). l ++ later) (ap (map shown.variable_of) put ∙ map-append shown.variable_of made (v ∷ []))
    ∙ append_assoc before (shown.variable_of v ∷ []) later
    ∙ ap (λ (t : VariableTree). before ++ t ∷ later) same
    ∙ ap (λ (l : List ParamShape). before ++ map rule.variable_of (map param_of l)) (sym is)
    ∙ so_far

pub variables_end : (made : List Variable) (total : List VariableTree) → map shown.variable_of made ++ [] ≡ total → map shown.variable_of made ≡ total
variables_end made total so_far = sym (append-nil (map shown.variable_of made)) ∙ so_far

-- ---- the scope of parameters and body

module _ (b : BlockTree) (params : List Param) (scope : Scope) (known : Known) where
  abbrev left_with : List Statement → Rule (List VariableTree × List Statement)
  left_with made = leave >>= (λ _. given (map rule.variable_of params, made))

  abbrev inside : Rule (List VariableTree × List Statement)
  inside = block_list b statements.outside >>= left_with

  pub scope_refuses : (e : CheckError) → Refuses e (enter_with scope known) → Refuses e (inner_rule b params scope known)
  scope_refuses e h = passes_on (λ _. inside) (enter_with scope known) e h

  module _ (mid : Known) (flow : statements.Flow) (entered : enter_with scope known ≡ Ok (mid, mid)) (out : flow ≡ statements.outside) where
    inner_first : inner_rule b params scope known ≡ inside mid
    inner_first = ap (go_on (λ _. inside)) entered

    pub body_refuses : (e : CheckError) → Refuses e (block_list b flow mid) → Refuses e (inner_rule b params scope known)
    body_refuses e h = subst (Refuses e) (sym inner_first) (passes_on left_with (block_list b statements.outside mid) e (subst (λ f. Refuses e (block_list b f mid)) out h))

    pub inner_made : (bound : List VariableTree) (made : List Statement) (mid2 after : Known) → bound ≡ map rule.variable_of params → block_list b flow mid ≡ Ok (made, mid2) → leave mid2 ≡ Ok (after, after) → inner_rule b params scope known ≡ Ok ((bound, made), after)
    inner_made bound made mid2 after are e left =
        inner_first ∙ ap (λ f. go_on left_with (block_list b f mid)) (sym out) ∙ ap (go_on left_with) e ∙ ap (go_on (λ _. given (map rule.variable_of params, made))) left ∙ ap (λ (l : List VariableTree). Ok ((l, made), after)) (sym are)

-- ---- bodies

body_behind : {A : Type 0} (first : List Statement) (second : typed.Statements → Rule A) (said : Result (List Statement × Known) Fault) → go_on second (go_on (λ others. given (statements.statements_of (first ++ others))) said) ≡ go_on (λ made. second (statements.statements_of made)) (go_on (λ others. given (first ++ others)) said)
body_behind first second (Ok x) = refl
body_behind first second (Err fault) = refl

body_from : {A : Type 0} (ss : tree.Statements) (second : typed.Statements → Rule A) (said : Result (List Statement × Known) Fault) →
    go_on second (go_on (λ first. statements.statements ss statements.outside >>= (λ others. given (statements.statements_of (first ++ others)))) said) ≡ go_on (λ made. second (statements.statements_of made)) (go_on (λ first. statements.statements ss statements.outside >>= (λ others. given (first ++ others))) said)
body_from ss second (Ok x) = body_behind x.0 second (statements.statements ss statements.outside x.1)
body_from ss second (Err fault) = refl

-- the statements of a body are those of its block
pub body_is : {A : Type 0} (b : BlockTree) (second : typed.Statements → Rule A) (known : Known) → go_on second (statements.body_statements b known) ≡ go_on (λ made. second (statements.statements_of made)) (block_list b statements.outside known)
body_is (tree.Block opening ds ss closing) second known = body_from ss second (block_declarations ds known)

module _ (said : Specified) (name : List ℕ) (result : Ty) (params : List Param) (scope : Scope) where
  abbrev made_of : List VariableTree → typed.Statements → List VariableTree → FunctionTree
  made_of bound body locals = record { name = name; result = result; params = bound; locals = locals; body = body; interrupt = said.interrupt; line = said.line }

  abbrev closing : List VariableTree → typed.Statements → Rule FunctionTree
  closing bound body = leave >>= (λ _. known_here >>= (λ here. rule.body_ended >>= (λ _. given (made_of bound body (here.body).locals))))

  abbrev ended : List VariableTree × List Statement → Rule FunctionTree
  ended made = known_here >>= (λ here. rule.body_ended >>= (λ _. given (made_of made.0 (statements.statements_of made.1) (here.body).locals)))

  ended_behind : (said : Result (List Statement × Known) Fault) → go_on (λ made. closing (map rule.variable_of params) (statements.statements_of made)) said ≡ go_on ended (go_on (λ made. leave >>= (λ _. given (map rule.variable_of params, made))) said)
  ended_behind (Ok x) = refl
  ended_behind (Err fault) = refl

  from_inner : (b : BlockTree) (said : Result (Known × Known) Fault) → go_on (λ _. statements.body_statements b >>= closing (map rule.variable_of params)) said
      ≡ go_on ended (go_on (λ _. block_list b statements.outside >>= (λ made. leave >>= (λ _. given (map rule.variable_of params, made)))) said)
  from_inner b (Ok x) = body_is b (closing (map rule.variable_of params)) x.1 ∙ ended_behind (block_list b statements.outside x.1)
  from_inner b (Err fault) = refl

  abbrev begun : Known → Known
  begun known = record known { body = record { name = name; result = result; locals = []; declarators = 0 } }

  body_as : (b : BlockTree) (known : Known) → rule.function_body b said name result params scope known ≡ go_on ended (inner_rule b params scope (begun known))
  body_as b known = from_inner b (enter_with scope (begun known))

  abbrev known_behind : Known → Result (Known × Known) Fault → Known
  known_behind other (Ok x) = x.1
  known_behind other (Err fault) = other

  at_mid : (b : BlockTree) (known mid : Known) → rule.body_begun name result known ≡ Ok (mid, mid) → rule.function_body b said name result params scope known ≡ go_on ended (inner_rule b params scope mid)
  at_mid b known mid e = let same : begun known ≡ mid = ap (known_behind mid) e in body_as b known ∙ ap (λ k. go_on ended (inner_rule b params scope k)) same

  pub function_made : (b : BlockTree) (known mid mid2 after : Known) (bound locals : List VariableTree) (made : List Statement) → rule.body_begun name result known ≡ Ok (mid, mid) → inner_rule b params scope mid ≡ Ok ((bound, made), mid2) → locals ≡ (mid2.body).locals → rule.body_ended mid2 ≡ Ok (after, after)
      → rule.function_body b said name result params scope known ≡ Ok (made_of bound (statements.statements_of made) locals, after)
  function_made b known mid mid2 after bound locals made e inner are over =
      at_mid b known mid e ∙ ap (go_on ended) inner ∙ ap (go_on (λ _. given (made_of bound (statements.statements_of made) (mid2.body).locals))) over ∙ ap (λ l. Ok (made_of bound (statements.statements_of made) l, after)) (sym are)

  pub function_refuses : (b : BlockTree) (known mid : Known) (e : CheckError) → rule.body_begun name result known ≡ Ok (mid, mid) → Refuses e (inner_rule b params scope mid) → Refuses e (rule.function_body b said name result params scope known)
  function_refuses b known mid e begins h = subst (Refuses e) (sym (at_mid b known mid begins)) (passes_on ended (inner_rule b params scope mid) e h)

-- ---- the functions of a unit

pub function_more : (s : SpecTrees) (d : DeclaratorTree) (b : BlockTree) (is : List ItemTree) (known mid : Known) (made : FunctionTree) → rule.function s d b known ≡ Ok (made, mid) → rule.functions_of (tree.Function s d b ∷ is) known ≡ behind (made ∷ []) (rule.functions_of is) mid
function_more s d b is known mid made e = ap (go_on (λ first. rule.functions_of is >>= (λ others. given (first ∷ others)))) e

with_none : {A : Type 0} (said : Result (List A × Known) Fault) → said ≡ go_on (λ others. given ([] ++ others)) said
with_none (Ok x) = refl
with_none (Err fault) = refl

pub declaration_more : (d : DeclarationTree) (is : List ItemTree) (known mid seen : Known) → file_declaration d known ≡ Ok (seen, mid) → rule.functions_of (tree.Declaration d ∷ is) known ≡ behind [] (rule.functions_of is) mid
declaration_more d is known mid seen e = ap (go_on (λ _. rule.functions_of is)) e ∙ with_none (rule.functions_of is mid)

-- what a loop over items has made so far, and an item more
module _ (items : List Item) (i : ℕ) (item : Item) (old new : Vec Function Global) (known : Known) (later : Checker) (total : Result (List FunctionTree × Known) Fault) (lt : i < length items) (at : item ≡ get_or items i item) where
  abbrev whole : List Item → Rule (List FunctionTree)
  whole is = rule.functions_of (map item_of is)

  abbrev rest : List Item
  rest = drop (i + 1) items

  pub function_next : (inner : code.Function) (made : Function) (pushed : Vec Function Global) (checker : Checker) → item ≡ node.Function inner → rule.function (specs_of inner.specs) (declarator_of inner.declarator) (block_of inner.body) known ≡ Ok (shown.function_of made, known_of checker)
      → pushed.items ≡ old.items ++ made ∷ [] → new ≡ pushed → later ≡ checker → behind (map shown.function_of old.items) (whole (drop i items)) known ≡ total → behind (map shown.function_of new.items) (whole rest) (known_of later) ≡ total
  function_next inner made pushed checker is e put are same so_far =
      let step : whole (item ∷ rest) known ≡ behind (map shown.function_of (made ∷ [])) (whole rest) (known_of checker) = ap (λ x. whole (x ∷ rest) known) is ∙ function_more (specs_of inner.specs) (declarator_of inner.declarator) (block_of inner.body) (map item_of rest) known (known_of checker) (shown.function_of made) e in
      ap (λ (c : Checker). behind (map shown.function_of new.items) (whole rest) (known_of c)) same
      ∙ next shown.function_of whole items i known total old.items (made ∷ []) new.items item (known_of checker) lt at step (ap (λ (v : Vec Function Global). v.items) are ∙ put) so_far

  pub declaration_next : (inner : Declaration) (checker : Checker) → item ≡ node.Declaration inner → file_declaration (declaration_of inner) known ≡ Ok (known_of checker, known_of checker) → new ≡ old → later ≡ checker
      → behind (map shown.function_of old.items) (whole (drop i items)) known ≡ total → behind (map shown.function_of new.items) (whole rest) (known_of later) ≡ total
  declaration_next inner checker is e are same so_far =
      let step : whole (item ∷ rest) known ≡ behind [] (whole rest) (known_of checker) = ap (λ x. whole (x ∷ rest) known) is ∙ declaration_more (declaration_of inner) (map item_of rest) known (known_of checker) (known_of checker) e in
      ap (λ (c : Checker). behind (map shown.function_of new.items) (whole rest) (known_of c)) same
      ∙ next shown.function_of whole items i known total old.items [] new.items item (known_of checker) lt at step (ap (λ (v : Vec Function Global). v.items) are ∙ sym (append-nil old.items)) so_far

-- ---- the typed program

sizes_are : (xs : List Structure) (ys : List StructureTree) → map shown.structure_of xs ≡ ys → map shown.size_of xs ≡ map (λ s. s.size) ys
sizes_are xs ys h = seen xs ∙ ap (map (λ (s : StructureTree). s.size)) h
  where
    seen : (zs : List Structure) → map shown.size_of zs ≡ map (λ (s : StructureTree). s.size) (map shown.structure_of zs)
    seen [] = refl
    seen (z ∷ zs) = ap (λ l. z.size ∷ l) (seen zs)

sizes_of : (shapes : List Shape) → map (λ (s : StructureTree). s.size) (map rule.structure_tree shapes) ≡ map (λ s. s.size) shapes
sizes_of [] = refl
sizes_of (s ∷ ss) = ap (λ l. s.size ∷ l) (sizes_of ss)

abbrev program : List Qualified → List StructureTree → List ℕ → List StaticTree → List FunctionTree → Program
program targets structures sizes statics functions = record { targets = targets; structures = structures; sizes = sizes; statics = statics; functions = functions }

pub program_is : (known : Known) (targets : List Qualified) (structures : List Structure) (functions : List FunctionTree) → targets ≡ known.targets → map shown.structure_of structures ≡ map rule.structure_tree known.shapes → program targets (map shown.structure_of structures) (map shown.size_of structures) known.statics functions ≡ rule.program_from known functions
program_is known targets structures functions same h =
    ap (λ t. program t (map shown.structure_of structures) (map shown.size_of structures) known.statics functions) same
    ∙ ap (λ s. program known.targets s (map shown.size_of structures) known.statics functions) h
    ∙ ap (λ n. program known.targets (map rule.structure_tree known.shapes) n known.statics functions) (sizes_are structures (map rule.structure_tree known.shapes) h ∙ sizes_of known.shapes)

-- what a program of these tables shows
pub is_given : (known : Known) (targets : List Qualified) (structures : List Structure) (statics : List Static) (functions : List Function)
    → targets ≡ known.targets → map shown.structure_of structures ≡ map rule.structure_tree known.shapes → map shown.static_of statics ≡ known.statics
    → made.program_from targets structures statics functions ≡ rule.program_from known (map shown.function_of functions)
is_given known targets structures statics functions same h held =
    ap (λ l. program targets (map shown.structure_of structures) (map shown.size_of structures) l (map shown.function_of functions)) held
    ∙ program_is known targets structures (map shown.function_of functions) same h

-- The rules make it sound, and small.
pub is_kept : (unit : List ItemTree) (p : Program) (targets : List Qualified) (structures : List Structure) (statics : List Static) (functions : List Function)
    → rule.judged_unit unit ≡ Ok p → made.program_from targets structures statics functions ≡ p → is_sound (made.program_from targets structures statics functions) ≡ true
is_kept unit p targets structures statics functions judged is = ap is_sound is ∙ judged_sound unit p judged

pub is_few : (unit : List ItemTree) (p : Program) (targets : List Qualified) (structures : List Structure) (statics : List Static) (functions : List Function)
    → rule.judged_unit unit ≡ Ok p → made.program_from targets structures statics functions ≡ p → program_size statics functions ≤ 3 * length (spelled_unit unit)
is_few unit p targets structures statics functions judged is =
    let size = ap size_of is in
    let counts = size_counts targets structures statics functions in
    let low = judged_small unit p judged in
    omega (arith, size, counts, low)

pub is_bounded : (size tokens : ℕ) → size ≤ 3 * tokens → tokens ≤ 262144 → (size ≤ 2 ^ 24) × (size ≤ 2 ^ 28)
is_bounded size tokens few short = (omega (arith, few, short), omega (arith, few, short))

-- ---- the whole unit

pub judged : (unit : List ItemTree) (known after : Known) (functions : List FunctionTree) → known ≡ known_first (rule.defined_in unit []) → rule.functions_of unit known ≡ Ok (functions, after) → rule.judged_unit unit ≡ Ok (rule.program_from after functions)
unfolding rule.judged_unit
judged unit known after functions begun e = ap (λ k. rule.program_in (rule.functions_of unit k)) (sym begun) ∙ ap rule.program_in e

wrong : (e : CheckError) (said : Result (List FunctionTree × Known) Fault) → Refuses e said → Refuses e (rule.program_in said)
wrong errors.NoMemory said h = h
wrong (errors.Kind kind line) said h = ap rule.program_in h

pub misjudged : (unit : List ItemTree) (known : Known) (e : CheckError) → known ≡ known_first (rule.defined_in unit []) → Refuses e (rule.functions_of unit known) → Refuses e (rule.judged_unit unit)
unfolding rule.judged_unit
misjudged unit known e begun h = wrong e (rule.functions_of unit (known_first (rule.defined_in unit []))) (subst (λ k. Refuses e (rule.functions_of unit k)) begun h)
