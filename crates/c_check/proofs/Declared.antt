-- Declarations of functions and objects, and the loops over declarators.
use Rattle.std.proofs.Common.{◌≡◌, ℕ, Bool, true, false, not, ◌||◌, List, [], ◌∷◌, ◌++◌, slice_get, Option, Some, None, is_some, Result, Ok, Err, refl, sym, ap, subst, ◌∙◌}
use Rattle.c_nodes.specs.Programs.{BegunTree, DeclarationTree, InitTree}
use Rattle.c_typed.specs.Trees.{Statement}
use Rattle.c_typed.specs.declared.types.Qualified.{Qualified}
use Rattle.c_typed.specs.declared.types.Ty.{Ty}
use Rattle.type_rules.specs.Declarations as rule
use Rattle.type_rules.specs.Declarators.{Context, in_file, line_in, name_in, outline_of, specified}
use Rattle.type_rules.specs.Faults as kind
use Rattle.type_rules.specs.Faults.{Fault}
use Rattle.type_rules.specs.Known.{Waiting, Binding, ObjectName, BitName, FunctionName, TypeNamed, EnumeratorName, Known, Rule, given, known_here, tried, go_on, ◌>>=◌}
use Rattle.type_rules.specs.Names.{innermost_in, is_declared, bind, tests_of_new}
use Rattle.type_rules.specs.Objects.{next_declarator, object_rule, static_rule, block_name, local_rule}
use Rattle.type_rules.specs.Outlines.{Outline, Param, is_function, object_type}
use Rattle.type_rules.specs.Specifiers.{Specified}
use Rattle.c_tables.specs.Answers.{Answers, Learns, Refuses}
use Rattle.c_tables.specs.declared.error.CheckError.{CheckError}
use Rattle.c_tables.specs.declared.error.CheckError.TheVariants as errors
use Rattle.c_check.specs.StatementViews.{behind, function_known, object_in_block}
use Rattle.c_check.proofs.Lists.{passes_on}

-- ---- functions

function_from : (set : ℕ → Rule Known) (added : Rule ℕ) (said : Result (Known × Known) Fault) → go_on (λ _. added >>= set) said ≡ go_on set (go_on (λ _. added) said)
function_from set added (Ok x) = refl
function_from set added (Err fault) = refl

pub function_is : (name : List ℕ) (result : Qualified) (params : List Param) (bad defines : Bool) (line : ℕ) (known : Known) →
    rule.function_rule name result params bad defines line known ≡ (function_known (innermost_in known.scopes name) name result (rule.param_types params) bad defines line >>= rule.set_defined defines) known
function_is name result params bad defines line known =
    function_from (rule.set_defined defines) (rule.function_added (rule.function_number (innermost_in known.scopes name)) name result (rule.param_types params)) (tried (rule.function_tests known name result (rule.param_types params) bad defines) line known)

module _ (name : List ℕ) (result : Qualified) (params : List Ty) (defines : Bool) (line : ℕ) (known : Known) where
  abbrev number_known : Option Binding → Bool → Result (ℕ × Known) Fault
  number_known found bad = function_known found name result params bad defines line known

  abbrev again : {A : Type 0} → Result A Fault
  again = Err (record { kind = kind.Again; line = line })

  -- a function of a type that no function has
  pub bad_again : (found : Option Binding) (n : ℕ) (bad : Bool) → Some (FunctionName n) ≡ found → bad ≡ true → number_known found bad ≡ again
  bad_again found n bad is wrong = ap (λ f. number_known f bad) (sym is) ∙ ap (λ b. number_known (Some (FunctionName n)) b) wrong

  -- it is declared as an object, a register's bit, a type or an enumerator
  other_at : (same bad : Bool) → same ≡ false → go_on (λ _. rule.function_added None name result params) (tried ((bad || not same, kind.Again) ∷ (bad, kind.Declare) ∷ []) line known) ≡ again
  other_at true bad e = cc
  other_at false true e = refl
  other_at false false e = refl

  pub object_again : (found : Option Binding) (bad : Bool) (o : _) (ty : _) (fixed : _) → Some (ObjectName o ty fixed) ≡ found → number_known found bad ≡ again
  object_again found bad o ty fixed is = ap (λ f. number_known f bad) (sym is) ∙ other_at false bad refl

  pub bit_again : (found : Option Binding) (bad : Bool) (r b : ℕ) → Some (BitName r b) ≡ found → number_known found bad ≡ again
  bit_again found bad r b is = ap (λ f. number_known f bad) (sym is) ∙ other_at false bad refl

  pub type_again : (found : Option Binding) (bad : Bool) (waiting : Waiting) (ty : Qualified) → Some (TypeNamed ty waiting) ≡ found → number_known found bad ≡ again
  type_again found bad waiting ty is = ap (λ f. number_known f bad) (sym is) ∙ other_at false bad refl

  pub enumerator_again : (found : Option Binding) (bad : Bool) (n : _) → Some (EnumeratorName n) ≡ found → number_known found bad ≡ again
  enumerator_again found bad n is = ap (λ f. number_known f bad) (sym is) ∙ other_at false bad refl

  -- it is declared as a function
  abbrev same_at : ℕ → Bool
  same_at n = rule.is_same (slice_get known.signatures n) result params defines

  same_by : (n : ℕ) (same : Bool) → tried ((not same, kind.Again) ∷ []) line known ≡ Ok (known, known) → go_on (λ _. rule.function_added (Some n) name result params) (tried ((not same, kind.Again) ∷ (false, kind.Declare) ∷ []) line known) ≡ Ok (n, known)
  same_by n true h = refl
  same_by n false h = cc

  pub same_again : (found : Option Binding) (n : ℕ) (bad : Bool) → Some (FunctionName n) ≡ found → bad ≡ false → tried ((not (same_at n), kind.Again) ∷ []) line known ≡ Ok (known, known) → number_known found bad ≡ Ok (n, known)
  same_again found n bad is good h = ap (λ f. number_known f bad) (sym is) ∙ ap (λ b. number_known (Some (FunctionName n)) b) good ∙ same_by n (same_at n) h

  differs_by : (n : ℕ) (same : Bool) (e : CheckError) → Refuses e (tried ((not same, kind.Again) ∷ []) line known) → Refuses e (go_on (λ _. rule.function_added (Some n) name result params) (tried ((not same, kind.Again) ∷ (false, kind.Declare) ∷ []) line known))
  differs_by n same errors.NoMemory h = h
  differs_by n true (errors.Kind kind line) h = cc
  differs_by n false (errors.Kind kind line) h = ap (go_on (λ _. rule.function_added (Some n) name result params)) h

  pub differs : (found : Option Binding) (n : ℕ) (bad : Bool) (e : CheckError) → Some (FunctionName n) ≡ found → bad ≡ false → Refuses e (tried ((not (same_at n), kind.Again) ∷ []) line known) → Refuses e (number_known found bad)
  differs found n bad e is good h = subst (Refuses e) (sym (ap (λ f. number_known f bad) (sym is) ∙ ap (λ b. number_known (Some (FunctionName n)) b) good)) (differs_by n (same_at n) e h)

  -- it isn't declared yet
  pub new_is : (found : Option Binding) (bad : Bool) → None ≡ found → number_known found bad ≡ go_on (λ _. rule.function_added None name result params) (tried ((bad, kind.Declare) ∷ []) line known)
  new_is found bad is = ap (λ f. number_known f bad) (sym is)

-- ---- objects of blocks

pub static_in_block : (said : Specified) (ty : Qualified) (init : Option InitTree) (name : List ℕ) (k line : ℕ) (known : Known) → said.fixed ≡ true → rule.block_object said ty init name k line known ≡ go_on (λ _. given []) (static_rule init (block_name (known.body).name k name) name ty line known)
static_in_block said ty init name k line known h = ap (λ b. rule.block_object (record said { fixed = b }) ty init name k line known) h

pub local_in_block : (said : Specified) (ty : Qualified) (init : Option InitTree) (name : List ℕ) (k line : ℕ) (known : Known) → said.fixed ≡ false → rule.block_object said ty init name k line known ≡ local_rule init name ty said.register line known
local_in_block said ty init name k line known h = ap (λ b. rule.block_object (record said { fixed = b }) ty init name k line known) h

-- ---- declarators

pub in_file_more : (n : ℕ) (b : BegunTree) (bs : List (ℕ × BegunTree)) (said : Specified) (known mid seen : Known) → rule.file_declarator b said known ≡ Ok (seen, mid) → rule.more_in_file ((n, b) ∷ bs) said known ≡ rule.more_in_file bs said mid
in_file_more n b bs said known mid seen e = ap (go_on (λ _. rule.more_in_file bs said)) e

pub in_block_more : (n : ℕ) (b : BegunTree) (bs : List (ℕ × BegunTree)) (said : Specified) (known mid : Known) (made : List Statement) → rule.block_declarator b said known ≡ Ok (made, mid) → rule.more_in_block ((n, b) ∷ bs) said known ≡ behind made (rule.more_in_block bs said) mid
in_block_more n b bs said known mid made e = ap (go_on (λ first. rule.more_in_block bs said >>= (λ others. given (first ++ others)))) e

pub declaration_more : (d : DeclarationTree) (ds : List DeclarationTree) (known mid : Known) (made : List Statement) → rule.block_declaration d known ≡ Ok (made, mid) → rule.block_declarations (d ∷ ds) known ≡ behind made (rule.block_declarations ds) mid
declaration_more d ds known mid made e = ap (go_on (λ first. rule.block_declarations ds >>= (λ others. given (first ++ others)))) e

-- specifiers of the file that declare nothing else
pub nothing_last : (d : DeclarationTree) (said : Specified) (context : Context) (known mid : Known) (result : Result Unit CheckError) → context ≡ in_file → specified d.specs context known ≡ Ok (said, mid) → d.declared ≡ None
    → Learns result mid (rule.nothing_declared said mid) → Learns result mid (rule.file_declaration d known)
nothing_last d said context known mid result where_ have none h =
    let begins : specified d.specs in_file known ≡ Ok (said, mid) = ap (λ c. specified d.specs c known) (sym where_) ∙ have in
    subst (Learns result mid) (sym (ap (go_on (rule.declared_in_file d.declared)) begins ∙ ap (λ o. rule.declared_in_file o said mid) none)) h

-- ---- objects of the file

module _ (said : Specified) (o : Outline) (init : Option InitTree) (name : List ℕ) (line : ℕ) (known : Known) where
  abbrev behind_again : Rule Known
  behind_again = object_rule said o (is_some init) line >>= (λ ty. static_rule init name name ty line)

  pub object_first : (e : CheckError) → Refuses e (tests_of_new known name line known) → Refuses e (rule.file_object said o init name line known)
  object_first e h = passes_on (λ _. behind_again) (tests_of_new known name line known) e h

  at_type : tests_of_new known name line known ≡ Ok (known, known) → rule.file_object said o init name line known ≡ behind_again known
  at_type h = ap (go_on (λ _. behind_again)) h

  at_given : (given : Bool) → given ≡ is_some init → go_on (λ ty. static_rule init name name ty line) (object_rule said o given line known) ≡ behind_again known
  at_given given is = ap (λ b. go_on (λ ty. static_rule init name name ty line) (object_rule said o b line known)) is

  pub object_next : (given : Bool) (e : CheckError) → given ≡ is_some init → tests_of_new known name line known ≡ Ok (known, known) → Refuses e (object_rule said o given line known) → Refuses e (rule.file_object said o init name line known)
  object_next given e is new h = subst (Refuses e) (at_given given is ∙ sym (at_type new)) (passes_on (λ ty. static_rule init name name ty line) (object_rule said o given line known) e h)

  pub object_last : (given : Bool) (ty : Qualified) (result : Result Unit CheckError) (after : Known) → given ≡ is_some init → tests_of_new known name line known ≡ Ok (known, known) → object_rule said o given line known ≡ Ok (ty, known) → Learns result after (static_rule init name name ty line known) → Learns result after (rule.file_object said o init name line known)
  object_last given ty result after is new typed h = subst (Learns result after) (sym (ap (go_on (λ t. static_rule init name name t line)) typed) ∙ at_given given is ∙ sym (at_type new)) h

-- ---- the names of types

module _ (line : ℕ) (known : Known) (bound : Rule Known) where
  abbrev tested : Bool → Bool → Result (Known × Known) Fault
  tested declared bad = go_on (λ _. bound) (tried ((declared, kind.Again) ∷ (bad, kind.Declare) ∷ []) line known)

  type_first : (declared bad : Bool) (e : CheckError) → Refuses e (tried ((declared, kind.Again) ∷ []) line known) → Refuses e (tested declared bad)
  type_first declared bad errors.NoMemory h = h
  type_first true bad (errors.Kind kind line) h = ap (go_on (λ _. bound)) h
  type_first false bad (errors.Kind kind line) h = cc

  type_bad : (declared bad : Bool) → tried ((declared, kind.Again) ∷ []) line known ≡ Ok (known, known) → bad ≡ true → tested declared bad ≡ Err (record { kind = kind.Declare; line = line })
  type_bad false bad h wrong = ap (tested false) wrong
  type_bad true bad h wrong = cc

  type_good : (declared bad : Bool) → tried ((declared, kind.Again) ∷ []) line known ≡ Ok (known, known) → bad ≡ false → tested declared bad ≡ bound known
  type_good false bad h good = ap (tested false) good
  type_good true bad h good = cc

module _ (said : Specified) (o : Outline) (begun : Bool) (name : List ℕ) (line : ℕ) (known : Known) where
  abbrev no_type : Bool
  no_type = o.bad || (is_function o.declared || (begun || said.interrupt))

  abbrev type_bound : Rule Known
  type_bound = bind name (TypeNamed (object_type o.declared) o.waiting)

  pub named_again : (e : CheckError) → Refuses e (tests_of_new known name line known) → Refuses e (rule.type_rule said o begun name line known)
  named_again e h = type_first line known type_bound (is_declared known name) no_type e h

  pub named_badly : tests_of_new known name line known ≡ Ok (known, known) → no_type ≡ true → rule.type_rule said o begun name line known ≡ Err (record { kind = kind.Declare; line = line })
  named_badly h wrong = type_bad line known type_bound (is_declared known name) no_type h wrong

  pub named_well : tests_of_new known name line known ≡ Ok (known, known) → no_type ≡ false → rule.type_rule said o begun name line known ≡ type_bound known
  named_well h good = type_good line known type_bound (is_declared known name) no_type h good

-- ---- objects of blocks behind their type

module _ (said : Specified) (o : Outline) (init : Option (ℕ × InitTree)) (name : List ℕ) (line : ℕ) (known : Known) (given_value : Bool) (is : given_value ≡ is_some init) where
  abbrev numbered : Qualified → Rule (List Statement)
  numbered ty = next_declarator >>= (λ k. rule.block_object said ty (rule.init_in init) name k line)

  typed_at : go_on numbered (object_rule said o given_value line known) ≡ object_in_block said o init name line known
  typed_at = ap (λ b. go_on numbered (object_rule said o b line known)) is

  pub block_first : (e : CheckError) → Refuses e (object_rule said o given_value line known) → Refuses e (object_in_block said o init name line known)
  block_first e h = subst (Refuses e) typed_at (passes_on numbered (object_rule said o given_value line known) e h)

  pub block_next : (ty : Qualified) (e : CheckError) → object_rule said o given_value line known ≡ Ok (ty, known) → Refuses e (next_declarator known) → Refuses e (object_in_block said o init name line known)
  block_next ty e typed h = subst (Refuses e) (sym (ap (go_on numbered) typed) ∙ typed_at) (passes_on (λ k. rule.block_object said ty (rule.init_in init) name k line) (next_declarator known) e h)

  pub block_last : {X : Type 0} (view : X → List Statement) (ty : Qualified) (k : ℕ) (mid after : Known) (result : Result X CheckError) → object_rule said o given_value line known ≡ Ok (ty, known) → next_declarator known ≡ Ok (k, mid) → Answers view result after (rule.block_object said ty (rule.init_in init) name k line mid) → Answers view result after (object_in_block said o init name line known)
  block_last view ty k mid after result typed number h = subst (Answers view result after) (sym (ap (go_on (λ n. rule.block_object said ty (rule.init_in init) name n line)) number) ∙ sym (ap (go_on numbered) typed) ∙ typed_at) h

-- ---- declarators of blocks, behind what they declare

module _ (b : BegunTree) (said : Specified) (o : Outline) (name : List ℕ) (line : ℕ) (known mid : Known) (outlined : outline_of b.declarator said false known ≡ Ok (o, mid)) (named : name ≡ name_in b.declarator) (lined : line ≡ line_in b.declarator) where
  abbrev behind_new : Outline → Rule (List Statement)
  behind_new o = known_here >>= (λ here. tests_of_new here (name_in b.declarator) (line_in b.declarator) >>= (λ _. object_in_block said o b.init (name_in b.declarator) (line_in b.declarator)))

  behind_outline : go_on (λ _. object_in_block said o b.init name line) (tests_of_new mid name line mid) ≡ rule.block_declarator b said known
  behind_outline =
      ap (λ (n : List ℕ). go_on (λ _. object_in_block said o b.init n line) (tests_of_new mid n line mid)) named
      ∙ ap (λ (l : ℕ). go_on (λ _. object_in_block said o b.init (name_in b.declarator) l) (tests_of_new mid (name_in b.declarator) l mid)) lined
      ∙ sym (ap (go_on behind_new) outlined)

  pub declarator_again : (e : CheckError) → Refuses e (tests_of_new mid name line mid) → Refuses e (rule.block_declarator b said known)
  declarator_again e h = subst (Refuses e) behind_outline (passes_on (λ _. object_in_block said o b.init name line) (tests_of_new mid name line mid) e h)

  pub declarator_last : {X : Type 0} (view : X → List Statement) (result : Result X CheckError) (after : Known) → tests_of_new mid name line mid ≡ Ok (mid, mid) → Answers view result after (object_in_block said o b.init name line mid) → Answers view result after (rule.block_declarator b said known)
  declarator_last view result after new h = subst (Answers view result after) (sym (ap (go_on (λ _. object_in_block said o b.init name line)) new) ∙ behind_outline) h
