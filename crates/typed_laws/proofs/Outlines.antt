-- What declarators make of types: an outline that is refused later on, or one of types that are there.
use Rattle.std.proofs.Common.{◌≡◌, ℕ, Bool, true, false, not, ◌||◌, List, [], ◌∷◌, ◌++◌, length, Option, Some, None, is_some, Result, Ok, Err, ◌⊎◌, inl, inr, refl, sym, ap, subst, true≢false}
use Rattle.std.specs.Prelude.{slice_get}
use Rattle.std.proofs.lemmas.Bool.{or_parts, or_left, or_right, false≢true}
use Rattle.c_typed.specs.Sameness.{is_void, is_array, is_struct, is_scalar}
use Rattle.c_typed.specs.declared.expression.Object.TheVariants as object
use Rattle.c_typed.specs.declared.types.Qualified.{Qualified}
use Rattle.c_typed.specs.declared.types.Ty.{Ty}
use Rattle.c_typed.specs.declared.types.Ty.TheVariants.{Void, Int, Pointer, Array, Struct}
use Rattle.type_rules.specs.Faults as kind
use Rattle.type_rules.specs.Faults.{Kind, Fault}
use Rattle.type_rules.specs.Known.{Waiting, Whole, OneArray, TwoArrays, Never, is_waiting, Binding, ObjectName, BitName, FunctionName, TypeNamed, EnumeratorName, Scope, Known, Rule, given, go_on, tried}
use Rattle.type_rules.specs.Names.{entry_of, bind, bound_in, first_scope}
use Rattle.type_rules.specs.Outlines.{Param, Made, ArrayMade, FunctionMade, Declared, ObjectDeclared, FunctionDeclared, Outline, object_outline, array_or_part, array_behind, function_behind, behind, outlined, pointer_outline, waiting_for, started, started_by, param_outlined, is_function, object_type, is_again, bind_param, param_rule, member_rule}
use Rattle.type_rules.specs.Rows.{plain, like, pointer_to, target_of, is_complete, fields_of, add_member}
use Rattle.type_rules.specs.Specifiers.{Specified}
use Rattle.typed_laws.specs.Spreading.{Grows, Spreads, Runs, IsRefused, IsOpen, IsParam, IsListedObject, IsListed, AreListed, AreParams, IsList, IsMade, IsDeclared, Doomed, Fates, AllDoomed, IsNoParam, IsParamDeclared}
use Rattle.typed_laws.specs.Tables.{Each, Stands, IsBase, IsObject, AreBound, Orderly, IsBound}
use Rattle.typed_laws.proofs.Growing.{pointer_goes}
use Rattle.typed_laws.proofs.Enumerating.{enumerated_first, first_bound}
use Rattle.typed_laws.proofs.Lists.{none_is, all_more, got_left, got_last}
use Rattle.typed_laws.proofs.Meeting.{target_is}
use Rattle.typed_laws.proofs.Operators.{not_false}
use Rattle.typed_laws.proofs.Scopes.{bound_holds, bound_outside}
use Rattle.typed_laws.proofs.Spreading.{spreads_itself, spreads_on, spreads_less, complete_grows, stands_grows, scope_grows, scopes_grow, tags_grow, results_grow, shape_grows, runs_given, runs_broken, runs_on, runs_test, from_goes, runs_wider}
use Rattle.typed_laws.proofs.Structures.{array_goes, member_runs}
use Rattle.c_typed.specs.declared.expression.Object.{Object}

-- ---- one behind the other

-- A rule that declares types stands before one that may change more.
pub runs_first : (skip : Option ℕ) (inner : Bool) {A B : Type 0} (P : A → Known → Type 0) (Q : B → Known → Type 0) (before : Known) (r : Result (A × Known) Fault) (second : A → Rule B)
    → Runs None false before P r → ((x : A) (mid : Known) → Spreads None false before mid → Orderly mid → P x mid → Runs skip inner mid Q (second x mid)) → Runs skip inner before Q (go_on second r)
unfolding Runs
runs_first skip inner P Q before (Ok x) second g more = runs_wider skip inner Q before x.1 (second x.0 x.1) (spreads_less skip inner before x.1 g.spreads) (more x.0 x.1 g.spreads g.orderly g.holds)
runs_first skip inner P Q before (Err fault) second g more = tt

fates_wider : (D : Outline → Type 0) (P : Outline → Known → Type 0) (before mid : Known) (r : Result (Outline × Known) Fault) → Spreads None false before mid → Fates mid D P r → Fates before D P r
unfolding Fates
fates_wider D P before mid (Err fault) s g = tt
fates_wider D P before mid (Ok x) s (inl d) = inl d
fates_wider D P before mid (Ok x) s (inr g) = inr (record { spreads = spreads_on None false before mid x.1 s g.spreads; orderly = g.orderly; holds = g.holds })

pub fates_given : (D : Outline → Type 0) (P : Outline → Known → Type 0) (known : Known) (o : Outline) → D o ⊎ (Orderly known × P o known) → Fates known D P (Ok (o, known))
unfolding Fates
fates_given D P known o (inl d) = inl d
fates_given D P known o (inr h) = inr (record { spreads = spreads_itself known; orderly = h.0; holds = h.1 })

pub fates_after : {A : Type 0} (Q : A → Known → Type 0) (D : Outline → Type 0) (P : Outline → Known → Type 0) (before : Known) (r : Result (A × Known) Fault) (second : A → Rule Outline)
    → Runs None false before Q r → ((x : A) (mid : Known) → Spreads None false before mid → Orderly mid → Q x mid → Fates mid D P (second x mid)) → Fates before D P (go_on second r)
unfolding Fates Runs
fates_after Q D P before (Ok x) second g more = fates_wider D P before x.1 (second x.0 x.1) g.spreads (more x.0 x.1 g.spreads g.orderly g.holds)
fates_after Q D P before (Err fault) second g more = tt

all_doomed : (D : Outline → Type 0) (P : Outline → Known → Type 0) (before : Known) (r : Result (Outline × Known) Fault) → AllDoomed D r → Fates before D P r
unfolding Fates
all_doomed D P before (Ok x) d = inl d
all_doomed D P before (Err fault) d = tt

fates_then : (E : Outline → Type 0) (Q : Outline → Known → Type 0) (D : Outline → Type 0) (P : Outline → Known → Type 0) (before : Known) (r : Result (Outline × Known) Fault) (second : Outline → Rule Outline)
    → Fates before E Q r → ((o : Outline) (mid : Known) → E o → AllDoomed D (second o mid)) → ((o : Outline) (mid : Known) → Spreads None false before mid → Orderly mid → Q o mid → Fates mid D P (second o mid)) → Fates before D P (go_on second r)
unfolding Fates
fates_then E Q D P before (Err fault) second g doomed more = tt
fates_then E Q D P before (Ok x) second (inl d) doomed more = all_doomed D P before (second x.0 x.1) (doomed x.0 x.1 d)
fates_then E Q D P before (Ok x) second (inr g) doomed more = fates_wider D P before x.1 (second x.0 x.1) g.spreads (more x.0 x.1 g.spreads g.orderly g.holds)

refused_runs : (skip : Option ℕ) (inner : Bool) {B : Type 0} (Q : B → Known → Type 0) (before : Known) (r : Result (B × Known) Fault) → IsRefused r → Runs skip inner before Q r
unfolding Runs
refused_runs skip inner Q before (Ok x) h = absurd h
refused_runs skip inner Q before (Err fault) h = tt

-- An outline, and the rule that refuses it where it is doomed.
pub fates_on : (skip : Option ℕ) (inner : Bool) (D : Outline → Type 0) (P : Outline → Known → Type 0) {B : Type 0} (Q : B → Known → Type 0) (before : Known) (r : Result (Outline × Known) Fault) (second : Outline → Rule B)
    → Fates before D P r → ((o : Outline) (mid : Known) → D o → IsRefused (second o mid)) → ((o : Outline) (mid : Known) → Spreads None false before mid → Orderly mid → P o mid → Runs skip inner mid Q (second o mid)) → Runs skip inner before Q (go_on second r)
unfolding Fates
fates_on skip inner D P Q before (Err fault) second g refused more = runs_broken skip inner Q before fault
fates_on skip inner D P Q before (Ok x) second (inl d) refused more = refused_runs skip inner Q before (second x.0 x.1) (refused x.0 x.1 d)
fates_on skip inner D P Q before (Ok x) second (inr g) refused more = runs_wider skip inner Q before x.1 (second x.0 x.1) (spreads_less skip inner before x.1 g.spreads) (more x.0 x.1 g.spreads g.orderly g.holds)

-- ---- arrays and functions

array_doomed : (count : ℕ) (o : Outline) (declared : Declared) (mid : Known) → Doomed o → AllDoomed Doomed (array_behind count o declared mid)
array_doomed count o (ObjectDeclared q) mid d = by_test (is_complete mid q.ty)
  where
    by_test : (c : Bool) → AllDoomed Doomed (array_or_part c count o q mid)
    by_test true = or_left o.bad (is_void q.ty) d
    by_test false = or_left o.bad (is_void q.ty) d
array_doomed count o (FunctionDeclared result params scope) mid d = refl

function_doomed : (params : List Param) (scope : Scope) (o : Outline) (declared : Declared) → Doomed o → Doomed (function_behind params scope o declared)
function_doomed params scope o (ObjectDeclared q) d = or_left o.bad (is_waiting o.waiting || (is_array q.ty || is_struct q.ty)) d
function_doomed params scope o (FunctionDeclared result inner names) d = refl

behind_doomed : (m : Made) (o : Outline) (mid : Known) → Doomed o → AllDoomed Doomed (behind m o mid)
behind_doomed (ArrayMade count) o mid d = array_doomed count o o.declared mid d
behind_doomed (FunctionMade params scope) o mid d = function_doomed params scope o o.declared d

-- an array of what is complete, or a part of one
array_fates : (count : ℕ) (o : Outline) (declared : Declared) (known : Known) → Orderly known → IsDeclared known o.declared → IsDeclared known declared → Fates known Doomed (λ x k. IsDeclared k x.declared) (array_behind count o declared known)
array_fates count o (ObjectDeclared element) known ordered own h = by_test (is_complete known element.ty) refl
  where
    by_test : (c : Bool) → is_complete known element.ty ≡ c → Fates known Doomed (λ x k. IsDeclared k x.declared) (array_or_part c count o element known)
    by_test false e = fates_given _ _ known _ (inr (ordered, own))
    by_test true e = fates_after _ _ _ known _ (λ ty. given (record o { declared = ObjectDeclared ty; bad = o.bad || is_void element.ty }))
        (from_goes (λ q k. is_complete k element.ty ≡ true → Stands k q.ty) known _ (array_goes known known.targets ordered element count h))
        (λ q mid s o2 stands. fates_given _ _ mid _ (inr (o2, stands (complete_grows known mid s.grows element.ty h e).0)))
array_fates count o (FunctionDeclared result params scope) known ordered own h = fates_given _ _ known _ (inl refl)

function_declared : (params : List Param) (scope : Scope) (o : Outline) (declared : Declared) (known : Known) → Orderly known → IsDeclared known declared → IsList known params scope
    → Doomed (function_behind params scope o declared) ⊎ (Orderly known × IsDeclared known (function_behind params scope o declared).declared)
function_declared params scope o (ObjectDeclared result) known ordered h list = by_test (is_array result.ty || is_struct result.ty) refl
  where
    by_test : (b : Bool) → (is_array result.ty || is_struct result.ty) ≡ b → Doomed (function_behind params scope o (ObjectDeclared result)) ⊎ (Orderly known × IsDeclared known (function_behind params scope o (ObjectDeclared result)).declared)
    by_test true e = inl (or_right o.bad (is_waiting o.waiting || (is_array result.ty || is_struct result.ty)) (or_right (is_waiting o.waiting) (is_array result.ty || is_struct result.ty) e))
    by_test false e = inr (ordered, (h, e, list))
function_declared params scope o (FunctionDeclared result inner names) known ordered h list = inl refl

behind_fates : (m : Made) (o : Outline) (known : Known) → Orderly known → IsDeclared known o.declared → IsMade known m → Fates known Doomed (λ x k. IsDeclared k x.declared) (behind m o known)
behind_fates (ArrayMade count) o known ordered h made = array_fates count o o.declared known ordered h h
behind_fates (FunctionMade params scope) o known ordered h made = fates_given _ _ known _ (function_declared params scope o o.declared known ordered h made)

param_grows : (before after : Known) → Grows before after → Orderly before → (p : Param) → IsParam before p → IsParam after p
param_grows before after g o p h = (stands_grows before after g o (p.ty).ty h.0, h.1)

pub params_grow : (before after : Known) → Grows before after → Orderly before → (ps : List Param) → Each (IsParam before) ps → Each (IsParam after) ps
params_grow before after g o ps h = all_more ps (param_grows before after g o) h

pub list_grows : (before after : Known) → Grows before after → Orderly before → (ps : List Param) (scope : Scope) → IsList before ps scope → IsList after ps scope
list_grows before after g o ps scope h = record { params = params_grow before after g o ps h.params; bound = scope_grows before after g o scope h.bound; listed = h.listed }

pub made_grows : (before after : Known) → Grows before after → Orderly before → (m : Made) → IsMade before m → IsMade after m
made_grows before after g o (ArrayMade count) h = tt
made_grows before after g o (FunctionMade params scope) h = list_grows before after g o params scope h

-- A list of parameters that is read so far stays one where enumerators are added.
pub params_spread : (before after : Known) → Spreads None false before after → Orderly before → (ps : List Param) → AreParams before ps → AreParams after ps
params_spread before after s o ps h = (params_grow before after s.grows o ps h.0, enumerated_first (IsListed ps) (λ n. tt) before.scopes after.scopes s.scopes h.1)

-- What a declarator's suffixes make.
pub outlined_fates : (ms : List Made) (o : Outline) (known : Known) → Orderly known → IsDeclared known o.declared → Each (IsMade known) ms → Fates known Doomed (λ x k. IsDeclared k x.declared) (outlined ms o known)
outlined_fates [] o known ordered h all = fates_given _ _ known o (inr (ordered, h))
outlined_fates (m ∷ ms) o known ordered h all = fates_then Doomed (λ x k. IsDeclared k x.declared) _ _ known _ _ (outlined_fates ms o known ordered h all.1)
    (λ x mid d. behind_doomed m x mid d)
    (λ x mid s o2 declared. behind_fates m x mid o2 declared (made_grows known mid s.grows ordered m all.0))

-- ---- parameters

no_param : (o : Outline) → Doomed o → IsNoParam o
no_param o bad = inl bad

pointer_doomed : (o : Outline) (declared : Declared) (mid : Known) → Doomed o → AllDoomed IsNoParam (pointer_outline o declared mid)
pointer_doomed o (ObjectDeclared q) mid d = inl (or_left o.bad (is_void q.ty) d)
pointer_doomed o (FunctionDeclared result params scope) mid d = inl refl

-- a pointer in the place of an array
pointer_instead : (bad : Bool) (waiting : Waiting) (element : Qualified) (known : Known) → Orderly known → Stands known element.ty
    → Fates known IsNoParam (λ x k. IsParamDeclared k x.declared) (go_on (λ ty. given (record { declared = ObjectDeclared (plain ty); bad = bad; waiting = waiting })) (pointer_to element known))
pointer_instead bad waiting element known ordered h = fates_after _ _ _ known _ (λ ty. given (record { declared = ObjectDeclared (plain ty); bad = bad; waiting = waiting })) (from_goes (λ ty k. (row : ℕ) × (ty ≡ Pointer row) × (slice_get k.targets row ≡ Some element)) known _ (pointer_goes known known.targets element ordered h))
    (λ ty mid s o2 facts. fates_given _ _ mid _ (inr (o2, (subst (Stands mid) (sym facts.1) (element, facts.2), ap is_array facts.1))))

pointer_fates : (o : Outline) (declared : Declared) (known : Known) → Orderly known → IsDeclared known declared → Fates known IsNoParam (λ x k. IsParamDeclared k x.declared) (pointer_outline o declared known)
pointer_fates o (ObjectDeclared element) known ordered h = pointer_instead (o.bad || is_void element.ty) o.waiting element known ordered h
pointer_fates o (FunctionDeclared result params scope) known ordered h = fates_given _ _ known _ (inl (inl refl))

function_param : (params : List Param) (scope : Scope) (o : Outline) (declared : Declared) (known : Known) → IsParamDeclared known (function_behind params scope o declared).declared
function_param params scope o (ObjectDeclared q) known = tt
function_param params scope o (FunctionDeclared result inner names) known = tt

-- An array by the name of its type is a pointer to its element, all else stays.
started_fates : (whole : Qualified) (waiting : Waiting) (ty : Ty) (known : Known) → Orderly known → whole.ty ≡ ty → Stands known ty → Fates known IsNoParam (λ x k. IsParamDeclared k x.declared) (started (record { declared = ObjectDeclared whole; bad = false; waiting = waiting }) whole ty known)
started_fates whole waiting (Array row count size) known ordered is h = pointer_instead false waiting (like whole (target_of known row).ty) known ordered
    (subst (λ (z : Qualified). Stands known z.ty) (sym (target_is known row h.0 h.1)) (ordered.rows row h.0 h.1))
started_fates whole waiting Void known ordered is h = fates_given _ _ known _ (inr (ordered, (subst (Stands known) (sym is) h, ap is_array is)))
started_fates whole waiting (Int i) known ordered is h = fates_given _ _ known _ (inr (ordered, (subst (Stands known) (sym is) h, ap is_array is)))
started_fates whole waiting (Pointer row) known ordered is h = fates_given _ _ known _ (inr (ordered, (subst (Stands known) (sym is) h, ap is_array is)))
started_fates whole waiting (Struct number) known ordered is h = fates_given _ _ known _ (inr (ordered, (subst (Stands known) (sym is) h, ap is_array is)))

-- So it is where it waits.
started_by_fates : (w : Waiting) (whole : Qualified) (waiting : Waiting) (known : Known) → Orderly known → Stands known whole.ty → Fates known IsNoParam (λ x k. IsParamDeclared k x.declared) (started_by w (record { declared = ObjectDeclared whole; bad = false; waiting = waiting }) whole known)
started_by_fates (OneArray n) whole waiting known ordered h = pointer_instead false Whole whole known ordered h
started_by_fates Whole whole waiting known ordered h = started_fates whole waiting whole.ty known ordered refl h
started_by_fates (TwoArrays n m) whole waiting known ordered h = started_fates whole waiting whole.ty known ordered refl h
started_by_fates Never whole waiting known ordered h = started_fates whole waiting whole.ty known ordered refl h

pub param_fates : (ms : List Made) (base : Qualified) (waiting : Waiting) (known : Known) → Orderly known → IsBase known base → Each (IsMade known) ms → Fates known IsNoParam (λ x k. IsParamDeclared k x.declared) (param_outlined ms (object_outline base waiting) known)
param_fates [] base waiting known ordered h all = started_by_fates (waiting_for base.ty waiting) base (waiting_for base.ty waiting) known ordered h
param_fates (ArrayMade count ∷ ms) base waiting known ordered h all = fates_then Doomed (λ x k. IsDeclared k x.declared) _ _ known _ _ (outlined_fates ms (object_outline base waiting) known ordered h all.1)
    (λ x mid d. pointer_doomed x x.declared mid d) (λ x mid s o2 declared. pointer_fates x x.declared mid o2 declared)
param_fates (FunctionMade params scope ∷ ms) base waiting known ordered h all = fates_then Doomed (λ x k. IsDeclared k x.declared) _ _ known _ _ (outlined_fates ms (object_outline base waiting) known ordered h all.1)
    (λ x mid d. no_param (function_behind params scope x x.declared) (function_doomed params scope x x.declared d)) (λ x mid s o2 declared. fates_given _ _ mid _ (inr (o2, function_param params scope x x.declared mid)))

pub scalar_is : (known : Known) (ty : Ty) → is_complete known ty ≡ true → is_array ty ≡ false → is_struct ty ≡ false → is_scalar ty ≡ true
scalar_is known Void complete array struct = absurd (false≢true complete)
scalar_is known (Int i) complete array struct = refl
scalar_is known (Pointer row) complete array struct = refl
scalar_is known (Array row n s) complete array struct = absurd (true≢false array)
scalar_is known (Struct number) complete array struct = absurd (true≢false struct)

-- ---- scopes

-- The tables with other scopes, all of whose names are bound.
pub scoped_orderly : (known : Known) (scopes : List Scope) (lists : ℕ) → Orderly known → Each (AreBound known) scopes → Orderly (record known { scopes = scopes; lists = lists })
scoped_orderly known scopes lists o all = record {
  rows = λ row q h. stands_grows known (record known { scopes = scopes; lists = lists }) grows o q.ty (o.rows row q h);
  distinct = o.distinct;
  shapes = λ n s h. shape_grows known (record known { scopes = scopes; lists = lists }) grows o s (o.shapes n s h);
  scopes = scopes_grow known (record known { scopes = scopes; lists = lists }) grows o scopes all;
  tags = tags_grow known (record known { scopes = scopes; lists = lists }) grows known.tags o.tags;
  results = λ n s h. results_grow known (record known { scopes = scopes; lists = lists }) grows o s (o.results n s h);
}
  where
    grows : Grows known (record known { scopes = scopes; lists = lists })
    grows = record { rows = λ row q h. h; shapes = λ n s h. (s, h, λ e. refl); statics = λ n s h. (s, h, refl) }

pub scoped_grows : (known : Known) (scopes : List Scope) (lists : ℕ) → Grows known (record known { scopes = scopes; lists = lists })
scoped_grows known scopes lists = record { rows = λ row q h. h; shapes = λ n s h. (s, h, λ e. refl); statics = λ n s h. (s, h, refl) }

-- A parameter is bound in the innermost scope, which is that of its list.
bind_runs : (known : Known) → Orderly known → (name : List ℕ) (n : ℕ) (q : Qualified) (fixed : Bool) → IsObject known (object.Param n) q fixed → (ps : List Param) → IsListedObject ps (object.Param n) q → AreListed ps (first_scope known.scopes)
    → Runs None true known (λ x k. AreListed ps (first_scope k.scopes)) (bind name (ObjectName (object.Param n) q fixed) known)
unfolding Runs
bind_runs known o name n q fixed h ps own listed = record {
  spreads = record {
    grows = scoped_grows known (bound_in known.scopes name (ObjectName (object.Param n) q fixed)) known.lists;
    spared = λ m s there body free. there;
    scopes = bound_outside known.scopes name (ObjectName (object.Param n) q fixed);
    signatures = refl;
    definitions = refl;
    statics = refl;
    body = refl;
  };
  orderly = scoped_orderly known (bound_in known.scopes name (ObjectName (object.Param n) q fixed)) known.lists o (bound_holds (IsBound known) known.scopes name (ObjectName (object.Param n) q fixed) h o.scopes);
  holds = first_bound (IsListed ps) known.scopes name (ObjectName (object.Param n) q fixed) own listed;
}

bind_param_runs : (known : Known) → Orderly known → (name : List ℕ) (n : ℕ) (q : Qualified) (fixed : Bool) → Stands known q.ty → is_complete known q.ty ≡ true → (ps : List Param) → IsListedObject ps (object.Param n) q → AreListed ps (first_scope known.scopes)
    → Runs None true known (λ x k. AreListed ps (first_scope k.scopes)) (bind_param name n q fixed known)
bind_param_runs known o [] n q fixed stands complete ps own listed = runs_given None true _ known _ o listed
bind_param_runs known o (b ∷ bs) n q fixed stands complete ps own listed = bind_runs known o (b ∷ bs) n q fixed
    (record { stands = stands; whole = or_left (is_complete known q.ty) (is_array q.ty) complete; register = λ e. absurd (true≢false e); static = λ m e. absurd (none_is e) }) ps own listed

-- three tests of which the second or the third says that a rule is broken
refused_tests : {B : Type 0} (a b c : Bool) (k l m : Kind) (line : ℕ) (second : Known → Rule B) (known : Known) → (b ≡ true) ⊎ (c ≡ true) → IsRefused (go_on second (tried ((a, k) ∷ (b, l) ∷ (c, m) ∷ []) line known))
refused_tests true b c k l m line second known h = tt
refused_tests false true c k l m line second known h = tt
refused_tests false false true k l m line second known h = tt
refused_tests false false false k l m line second known (inl h) = absurd (false≢true h)
refused_tests false false false k l m line second known (inr h) = absurd (false≢true h)

doomed_tests : (o : Outline) (x y : Bool) → IsNoParam o → ((o.bad || x) ≡ true) ⊎ ((is_waiting o.waiting || y) ≡ true)
doomed_tests o x y (inl bad) = inl (or_left o.bad x bad)
doomed_tests o x y (inr waiting) = inr (or_left (is_waiting o.waiting) y waiting)

pub param_refused : (before : List Param) (said : Specified) (o : Outline) (name : List ℕ) (line : ℕ) (known : Known) → IsNoParam o → IsRefused (param_rule before said o name line known)
param_refused before said o name line known h = refused_tests (is_again known name) (o.bad || (is_function o.declared || is_struct (object_type o.declared).ty)) (is_waiting o.waiting || not (is_complete known (object_type o.declared).ty)) kind.Again kind.Declare kind.Incomplete line _ known
    (doomed_tests o (is_function o.declared || is_struct (object_type o.declared).ty) (not (is_complete known (object_type o.declared).ty)) h)

pub member_refused : (number : ℕ) (o : Outline) (name : List ℕ) (line : ℕ) (known : Known) → Doomed o → IsRefused (member_rule number o name line known)
member_refused number o name line known h = refused_tests (is_some (entry_of (fields_of known number) name)) (o.bad || (is_function o.declared || (object_type o.declared).constant)) (is_waiting o.waiting || not (is_complete known (object_type o.declared).ty)) kind.Again kind.Declare kind.Incomplete line _ known
    (doomed_tests o (is_function o.declared || (object_type o.declared).constant) (not (is_complete known (object_type o.declared).ty)) (no_param o h))

param_last : (known : Known) (ps : List Param) (p : Param) → Each (IsParam known) ps → IsParam known p → Each (IsParam known) (ps ++ p ∷ [])
param_last known [] p all h = (h, tt)
param_last known (x ∷ xs) p all h = (all.0, param_last known xs p all.1 h)

-- what was listed is so where there is a parameter more
object_last : (ps : List Param) (p : Param) (object : Object) (q : Qualified) → IsListedObject ps object q → IsListedObject (ps ++ p ∷ []) object q
object_last ps p (object.Param n) q h = (h.0, got_left ps (p ∷ []) n h.0 h.1, h.2)
object_last ps p (object.Static n) q h = absurd h
object_last ps p (object.Local n) q h = absurd h
object_last ps p (object.Register n) q h = absurd h

binding_last : (ps : List Param) (p : Param) (b : Binding) → IsListed ps b → IsListed (ps ++ p ∷ []) b
binding_last ps p (ObjectName object q fixed) h = object_last ps p object q h
binding_last ps p (EnumeratorName n) h = tt
binding_last ps p (BitName register bit) h = absurd h
binding_last ps p (FunctionName n) h = absurd h
binding_last ps p (TypeNamed q waiting) h = absurd h

param_declared : (before : List Param) (said : Specified) (o : Outline) (declared : Declared) (name : List ℕ) (line : ℕ) (known : Known) → o.declared ≡ declared → Orderly known → IsParamDeclared known declared → AreParams known before
    → (is_function declared || is_struct (object_type declared).ty) ≡ false → is_complete known (object_type declared).ty ≡ true
    → Runs None true known (λ ps k. AreParams k ps) (go_on (λ x. given (before ++ record { name = name; ty = object_type declared; fixed = said.register; line = line } ∷ [])) (bind_param name (length before) (object_type declared) said.register known))
param_declared before said o (FunctionDeclared result params scope) name line known is ordered h all single complete = absurd (true≢false single)
param_declared before said o (ObjectDeclared q) name line known is ordered h all single complete = runs_on None true (λ x k. AreListed (before ++ new ∷ []) (first_scope k.scopes)) _ known _ _
    (bind_param_runs known ordered name (length before) q said.register h.0 complete (before ++ new ∷ []) (new, got_last before new, refl) (all_more (first_scope known.scopes) (λ e. binding_last before new e.1) all.1))
    (λ x mid s o2 listed. runs_given None true _ mid _ o2
    (param_last mid before new (params_grow known mid s.grows ordered before all.0) (stands_grows known mid s.grows ordered q.ty h.0, scalar_is known q.ty complete h.1 single), listed))
  where
    new : Param
    new = record { name = name; ty = q; fixed = said.register; line = line }

-- what a parameter's rule goes on with behind its tests
abbrev param_behind : List Param → Specified → Outline → List ℕ → ℕ → Known → Rule (List Param)
param_behind before said o name line = λ u. λ k. go_on (λ x. given (before ++ record { name = name; ty = object_type o.declared; fixed = said.register; line = line } ∷ [])) (bind_param name (length before) (object_type o.declared) said.register k)

pub param_rule_runs : (before : List Param) (said : Specified) (o : Outline) (name : List ℕ) (line : ℕ) (known : Known) → Orderly known → IsParamDeclared known o.declared → AreParams known before → Runs None true known (λ ps k. AreParams k ps) (param_rule before said o name line known)
param_rule_runs before said o name line known ordered h all =
    runs_test None true _ known (is_again known name) kind.Again ((o.bad || (is_function o.declared || is_struct (object_type o.declared).ty), kind.Declare) ∷ (is_waiting o.waiting || not (is_complete known (object_type o.declared).ty), kind.Incomplete) ∷ []) line (param_behind before said o name line) (λ e1.
    runs_test None true _ known (o.bad || (is_function o.declared || is_struct (object_type o.declared).ty)) kind.Declare ((is_waiting o.waiting || not (is_complete known (object_type o.declared).ty), kind.Incomplete) ∷ []) line (param_behind before said o name line) (λ e2.
    runs_test None true _ known (is_waiting o.waiting || not (is_complete known (object_type o.declared).ty)) kind.Incomplete [] line (param_behind before said o name line) (λ e3.
    param_declared before said o o.declared name line known refl ordered h all (or_parts o.bad (is_function o.declared || is_struct (object_type o.declared).ty) e2).1
    (not_false (is_complete known (object_type o.declared).ty) (or_parts (is_waiting o.waiting) (not (is_complete known (object_type o.declared).ty)) e3).1))))

-- ---- members

nothing_there : {A : Type 0} (o : Option A) → is_some o ≡ false → o ≡ None
nothing_there None h = refl
nothing_there (Some x) h = absurd (true≢false h)

member_declared : (number : ℕ) (some : Bool) (declared : Declared) (name : List ℕ) (known : Known) → Orderly known → IsOpen some known number → IsDeclared known declared → (is_function declared || (object_type declared).constant) ≡ false → is_complete known (object_type declared).ty ≡ true
    → entry_of (fields_of known number) name ≡ None → Runs (Some number) false known (λ x k. IsOpen true k number) (add_member number name (object_type declared) known)
member_declared number some (FunctionDeclared result params scope) name known ordered opened h single complete new = absurd (true≢false single)
member_declared number some (ObjectDeclared q) name known ordered opened h single complete new = member_runs known ordered number some opened name q h complete single new

pub member_rule_runs : (number : ℕ) (some : Bool) (o : Outline) (name : List ℕ) (line : ℕ) (known : Known) → Orderly known → IsOpen some known number → IsDeclared known o.declared → Runs (Some number) false known (λ x k. IsOpen true k number) (member_rule number o name line known)
member_rule_runs number some o name line known ordered opened h =
    runs_test (Some number) false _ known (is_some (entry_of (fields_of known number) name)) kind.Again ((o.bad || (is_function o.declared || (object_type o.declared).constant), kind.Declare) ∷ (is_waiting o.waiting || not (is_complete known (object_type o.declared).ty), kind.Incomplete) ∷ []) line (λ u. add_member number name (object_type o.declared)) (λ e1.
    runs_test (Some number) false _ known (o.bad || (is_function o.declared || (object_type o.declared).constant)) kind.Declare ((is_waiting o.waiting || not (is_complete known (object_type o.declared).ty), kind.Incomplete) ∷ []) line (λ u. add_member number name (object_type o.declared)) (λ e2.
    runs_test (Some number) false _ known (is_waiting o.waiting || not (is_complete known (object_type o.declared).ty)) kind.Incomplete [] line (λ u. add_member number name (object_type o.declared)) (λ e3.
    member_declared number some o.declared name known ordered opened h (or_parts o.bad (is_function o.declared || (object_type o.declared).constant) e2).1
    (not_false (is_complete known (object_type o.declared).ty) (or_parts (is_waiting o.waiting) (not (is_complete known (object_type o.declared).ty)) e3).1)
    (nothing_there (entry_of (fields_of known number) name) e1))))
