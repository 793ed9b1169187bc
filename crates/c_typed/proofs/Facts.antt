-- What a sound program's parts tell the passes behind it.
use Rattle.std.proofs.Common.{◌≡◌, ℕ, ◌+◌, ◌^◌, ◌<◌, ◌≤◌, Bool, true, false, ◌&&◌, List, [], ◌∷◌, Option, Some, None, length, map, zero, suc, refl, sym, ap, ◌∙◌, arith}
use Rattle.std.proofs.lemmas.Bool.{and_parts, false≢true}
use Rattle.std.proofs.lemmas.Option.{slice_get_within}
use Rattle.std.specs.List.{list_all}
use Rattle.std.specs.Option.{option_map, unwrap_or}
use Rattle.std.specs.Prelude.{slice_get}
use Rattle.c_typed.specs.Fits.{static_type, variable_type, is_named, returns_type, rule_holds, place_rule_holds, fits, place_fits, Standing}
use Rattle.c_typed.specs.Nodes.{total, statement_nodes, program_nodes}
use Rattle.c_typed.specs.Sound.{target_fits, structure_fits, static_fits, param_fits, local_fits, result_fits, function_fits, is_sound, statements_fit}
use Rattle.c_typed.specs.Trees as tree
use Rattle.c_typed.specs.Trees.{Expressions, StaticTree, VariableTree, FunctionTree, Program}
use Rattle.c_typed.specs.declared.expression.Object.TheVariants as object
use Rattle.c_typed.specs.declared.program.Function.{Function}
use Rattle.c_typed.specs.declared.program.Typed.{Typed}
use Rattle.c_typed.specs.declared.types.Qualified.{Qualified}
use Rattle.c_typed.specs.declared.types.Ty.{Ty}

callee_below : (found : Option FunctionTree) (xs : List FunctionTree) (n : ℕ) (ty : Ty) → slice_get xs n ≡ found → returns_type found ty ≡ true → n < length xs
callee_below None xs n ty is holds = absurd (false≢true holds)
callee_below (Some g) xs n ty is holds = slice_get_within xs n g is

-- The function that a call names is there.
pub called_function_is_there : (p : Program) (f : FunctionTree) (standing : Standing) (function : ℕ) (arguments : Expressions) (ty : Ty) (line : ℕ) → fits p f standing (tree.Call function arguments ty line) ≡ true → function < length p.functions
unfolding fits rule_holds
called_function_is_there p f standing function arguments ty line holds = callee_below (slice_get p.functions function) p.functions function ty refl (and_parts _ _ holds).0

static_below : (found : Option StaticTree) (xs : List StaticTree) (n : ℕ) (ty : Qualified) → slice_get xs n ≡ found → is_named false (option_map static_type found) ty ≡ true → n < length xs
static_below None xs n ty is holds = absurd (false≢true holds)
static_below (Some s) xs n ty is holds = slice_get_within xs n s is

-- The static object that a name stands for is there.
pub named_static_is_there : (p : Program) (f : FunctionTree) (number : ℕ) (ty : Qualified) (line : ℕ) → place_fits p f (tree.Name (object.Static number) ty line) ≡ true → number < length p.statics
unfolding place_fits place_rule_holds
named_static_is_there p f number ty line holds = static_below (slice_get p.statics number) p.statics number ty refl holds

variable_below : (local : Bool) (found : Option VariableTree) (xs : List VariableTree) (n : ℕ) (ty : Qualified) → slice_get xs n ≡ found → is_named local (option_map variable_type found) ty ≡ true → n < length xs
variable_below local None xs n ty is holds = absurd (false≢true holds)
variable_below local (Some v) xs n ty is holds = slice_get_within xs n v is

-- The parameter, or the local, that a name stands for is there.
pub named_param_is_there : (p : Program) (f : FunctionTree) (number : ℕ) (ty : Qualified) (line : ℕ) → place_fits p f (tree.Name (object.Param number) ty line) ≡ true → number < length f.params
unfolding place_fits place_rule_holds
named_param_is_there p f number ty line holds = variable_below false (slice_get f.params number) f.params number ty refl holds

pub named_local_is_there : (p : Program) (f : FunctionTree) (number : ℕ) (ty : Qualified) (line : ℕ) → place_fits p f (tree.Name (object.Local number) ty line) ≡ true → number < length f.locals
unfolding place_fits place_rule_holds
named_local_is_there p f number ty line holds = variable_below true (slice_get f.locals number) f.locals number ty refl holds

all_of : {A : Type 0} (test : A → Bool) (xs : List A) (n : ℕ) (x : A) → list_all test xs ≡ true → slice_get xs n ≡ Some x → test x ≡ true
all_of test [] n x all is = absurd (omega (arith, slice_get_within [] n x is))
all_of test (y ∷ ys) zero x all is = sym (ap test (ap (λ o. unwrap_or o y) is)) ∙ (and_parts _ _ all).0
all_of test (y ∷ ys) (suc n) x all is = all_of test ys n x (and_parts _ _ all).1 is

-- The four parts of a sound program, from the statics on.
tables_of_sound : (p : Program) → is_sound p ≡ true → (list_all (static_fits p) p.statics && list_all (function_fits p) p.functions) ≡ true
tables_of_sound p sound =
    (and_parts (list_all (structure_fits p) p.structures) (list_all (static_fits p) p.statics && list_all (function_fits p) p.functions)
    (and_parts (list_all (target_fits p) p.targets) (list_all (structure_fits p) p.structures && (list_all (static_fits p) p.statics && list_all (function_fits p) p.functions)) sound).1).1

-- Each function of a sound program fits, and so do the statements of its body.
pub function_of_sound : (p : Program) (n : ℕ) (f : FunctionTree) → is_sound p ≡ true → slice_get p.functions n ≡ Some f → function_fits p f ≡ true
function_of_sound p n f sound is = all_of (function_fits p) p.functions n f (and_parts (list_all (static_fits p) p.statics) (list_all (function_fits p) p.functions) (tables_of_sound p sound)).1 is

body_of : (p : Program) (f : FunctionTree) → function_fits p f ≡ true → statements_fit p f true false false f.body ≡ true
body_of p f holds =
    (and_parts (list_all (local_fits p) f.locals) (statements_fit p f true false false f.body)
    (and_parts (list_all (param_fits p) f.params) (list_all (local_fits p) f.locals && statements_fit p f true false false f.body)
    (and_parts (result_fits p f.result) (list_all (param_fits p) f.params && (list_all (local_fits p) f.locals && statements_fit p f true false false f.body)) holds).1).1).1

pub body_of_sound : (p : Program) (n : ℕ) (f : FunctionTree) → is_sound p ≡ true → slice_get p.functions n ≡ Some f → statements_fit p f true false false f.body ≡ true
body_of_sound p n f sound is = body_of p f (function_of_sound p n f sound is)

-- Each static object of a sound program fits.
pub static_of_sound : (p : Program) (n : ℕ) (s : StaticTree) → is_sound p ≡ true → slice_get p.statics n ≡ Some s → static_fits p s ≡ true
static_of_sound p n s sound is = all_of (static_fits p) p.statics n s (and_parts (list_all (static_fits p) p.statics) (list_all (function_fits p) p.functions) (tables_of_sound p sound)).0 is

one_more : (n a b : ℕ) → n ≤ b → suc n ≤ (1 + a) + b
one_more n a b l = omega (arith, l)

-- Each function is a node.
functions_are_nodes : (fs : List Function) → length fs ≤ program_nodes fs
functions_are_nodes [] = omega arith
functions_are_nodes (f ∷ fs) = one_more (length fs) (total (map statement_nodes f.body.items)) (program_nodes fs) (functions_are_nodes fs)

first_of_three : (n a b c most : ℕ) → n ≤ a → a + b + c ≤ most → n ≤ most
first_of_three n a b c most l small = omega (arith, l, small)

-- A typed program has at most 2 to the 28 functions.
pub few_functions : (p : Typed) → length p.functions.items ≤ 2 ^ 28
few_functions p = first_of_three (length p.functions.items) (program_nodes p.functions.items) _ _ (2 ^ 28) (functions_are_nodes p.functions.items) p.small
