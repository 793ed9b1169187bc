-- Declarations in the file: names of functions keep their types.
use Rattle.std.proofs.Common.{◌≡◌, ℕ, Bool, true, false, not, ◌&&◌, ◌||◌, if◌then◌else◌, nat_lt, ℤ, List, [], ◌∷◌, ◌++◌, length, Option, Some, None, is_some, Result, Ok, Err, ◌⊎◌, inl, inr, refl, sym, ap, ap₂, ◌∙◌, subst, true≢false}
use Rattle.std.specs.Prelude.{slice_get}
use Rattle.std.specs.Str.{bytes_eq}
use Rattle.std.proofs.lemmas.Bool.{and_parts, or_parts, or_left, false≢true}
use Rattle.std.proofs.lemmas.Option.{same_Some}
use Rattle.c_nodes.specs.Programs.{InitTree, BegunTree, DeclaredTrees, DeclarationTree}
use Rattle.c_typed.specs.Sameness.{same_type, same_qualified, is_array}
use Rattle.c_typed.specs.Trees as typed
use Rattle.c_typed.specs.Trees.{StaticTree, VariableTree, FunctionTree, Program}
use Rattle.c_typed.specs.declared.expression.Object.TheVariants as object
use Rattle.c_typed.specs.declared.types.Qualified.{Qualified}
use Rattle.c_typed.specs.declared.types.Ty.{Ty}
use Rattle.type_rules.specs.Declarations.{param_types, same_types, definition_from, is_same, function_number, signature_at, function_added, set_defined, function_rule, init_in, no_value, file_object, file_declared, type_rule, file_declarator, more_in_file, declared_in_file, file_declaration}
use Rattle.type_rules.specs.Declarators.{in_file, name_in, line_in}
use Rattle.type_rules.specs.Faults as kind
use Rattle.type_rules.specs.Faults.{Kind, Fault, Tests}
use Rattle.type_rules.specs.Known.{is_waiting, Binding, ObjectName, BitName, FunctionName, TypeNamed, EnumeratorName, Scope, Signature, Known, Rule, given, tried, go_on, broken}
use Rattle.type_rules.specs.Names.{entry_of, with_entry, innermost_in, is_declared, bound_in, bind}
use Rattle.type_rules.specs.Objects.{object_rule, static_rule}
use Rattle.type_rules.specs.Outlines.{Param, Declared, ObjectDeclared, FunctionDeclared, Outline, is_function, object_type}
use Rattle.type_rules.specs.Rows.{bytes_of, is_complete, changed_at}
use Rattle.type_rules.specs.Specifiers.{Specified}
use Rattle.typed_laws.specs.Files.{Holds, Files, Turns}
use Rattle.typed_laws.specs.Living.{LocalTo, Lives, IsNamed, AreNamed, Steady, Moves, Steps}
use Rattle.typed_laws.specs.Objects.{IsDeclaredAs, IsBoundAs}
use Rattle.typed_laws.specs.Spreading.{Grows, with_enumerators, AreNew, Spreads, Runs, IsRefused, IsParam, IsDeclared, Doomed, Fates}
use Rattle.typed_laws.specs.Tables.{Each, Stands, IsBase, IsBound, AreBound, Orderly}
use Rattle.typed_laws.proofs.Adding.{names_more}
use Rattle.typed_laws.proofs.Declarations.{spread_moves, spread_steady, refused_on, object_refused, declared_as}
use Rattle.typed_laws.proofs.Declarators.{specified_runs, outline_fates, base_grows}
use Rattle.typed_laws.proofs.Enumerating.{enumerators_keep, enumerated_none}
use Rattle.typed_laws.proofs.Lists.{none_is, same_answer, all_more, got_left, got_last, got_either, changed_same, changed_from, changed_other}
use Rattle.typed_laws.proofs.Living.{sized_grows, static_grows}
use Rattle.typed_laws.proofs.Names.{bytes_same, same_bytes, put_entry}
use Rattle.typed_laws.proofs.Operators.{not_false}
use Rattle.typed_laws.proofs.Outlines.{scoped_orderly, scoped_grows}
use Rattle.typed_laws.proofs.Same.{same_type_is, same_qualified_is, same_qualified_refl}
use Rattle.typed_laws.proofs.Scopes.{bound_holds}
use Rattle.typed_laws.proofs.Spreading.{stands_grows, shape_grows, scopes_grow, tags_grow, equal_or_not}
use Rattle.typed_laws.proofs.Statements.{rescoped}
use Rattle.typed_laws.proofs.Statics.{static_runs}
use Rattle.type_rules.specs.Slots.{nothing_begun, Begun}
use Rattle.type_rules.specs.Initializers as initializers

-- ---- one behind the other

pub turns_on : {A B : Type 0} (P : A → Known → Type 0) (Q : B → Known → Type 0) (r : Result (A × Known) Fault) (second : A → Rule B) → Turns P r → ((x : A) (k : Known) → P x k → Turns Q (second x k)) → Turns Q (go_on second r)
unfolding Turns
turns_on P Q (Ok x) second g more = more x.0 x.1 g
turns_on P Q (Err fault) second g more = tt

pub turns_given : {A : Type 0} (P : A → Known → Type 0) (x : A) (k : Known) → P x k → Turns P (Ok (x, k))
unfolding Turns
turns_given P x k h = h

pub turns_broken : {A : Type 0} (P : A → Known → Type 0) (fault : Fault) → Turns P (Err fault)
unfolding Turns
turns_broken P fault = tt

pub turns_test : {B : Type 0} (Q : B → Known → Type 0) (k : Known) (b : Bool) (why : Kind) (tests : Tests) (line : ℕ) (second : Known → Rule B) → (b ≡ false → Turns Q (go_on second (tried tests line k))) → Turns Q (go_on second (tried ((b, why) ∷ tests) line k))
unfolding Turns
turns_test Q k true why tests line second more = tt
turns_test Q k false why tests line second more = more refl

pub turns_refused : {B : Type 0} (Q : B → Known → Type 0) (r : Result (B × Known) Fault) → IsRefused r → Turns Q r
unfolding Turns
turns_refused Q (Ok x) h = absurd h
turns_refused Q (Err fault) h = tt

pub turns_runs : {A B : Type 0} (P : A → Known → Type 0) (Q : B → Known → Type 0) (known : Known) (r : Result (A × Known) Fault) (second : A → Rule B) → Runs None false known P r → ((x : A) (k : Known) → Spreads None false known k → Orderly k → P x k → Turns Q (second x k)) → Turns Q (go_on second r)
unfolding Turns Runs
turns_runs P Q known (Ok x) second g more = more x.0 x.1 g.spreads g.orderly g.holds
turns_runs P Q known (Err fault) second g more = tt

pub turns_fates : (P : Outline → Known → Type 0) {B : Type 0} (Q : B → Known → Type 0) (known : Known) (r : Result (Outline × Known) Fault) (second : Outline → Rule B) → Fates known Doomed P r → ((o : Outline) (k : Known) → Doomed o → IsRefused (second o k))
    → ((o : Outline) (k : Known) → Spreads None false known k → Orderly k → P o k → Turns Q (second o k)) → Turns Q (go_on second r)
unfolding Fates
turns_fates P Q known (Err fault) second g refused more = turns_broken Q fault
turns_fates P Q known (Ok x) second (inl d) refused more = turns_refused Q (second x.0 x.1) (refused x.0 x.1 d)
turns_fates P Q known (Ok x) second (inr g) refused more = more x.0 x.1 g.spreads g.orderly g.holds

pub turns_steps : (inner : Bool) (params : List VariableTree) {A B : Type 0} (P : A → Known → Type 0) (Q : B → Known → Type 0) (known : Known) (r : Result (A × Known) Fault) (second : A → Rule B) → Steps inner params known P r → ((x : A) (k : Known) → Moves inner params known k → Steady params k → P x k → Turns Q (second x k)) → Turns Q (go_on second r)
unfolding Turns Steps
turns_steps inner params P Q known (Ok x) second g more = more x.0 x.1 g.moves g.steady g.holds
turns_steps inner params P Q known (Err fault) second g more = tt

-- ---- a program that has these tables

abbrev any_function : List VariableTree → Known → FunctionTree
any_function params known = record { name = []; result = (known.body).result; params = params; locals = (known.body).locals; body = typed.NoStatement; interrupt = false; line = 0 }

pub local_itself : (q : Qualified) → LocalTo q q
local_itself q = or_left (same_qualified q q) _ (same_qualified_refl q)

pub any_lives : (params : List VariableTree) (known : Known) (p : Program) → Holds known p → Lives params known p (any_function params known)
any_lives params known p h = record { begins = h.begins; statics = h.statics; params_are = refl; locals = λ n v e. (v, e, local_itself v.ty); result = refl }

pub holds_back : (inner : Bool) (params : List VariableTree) (before after : Known) → Moves inner params before after → (p : Program) → Holds after p → Holds before p
holds_back inner params before after m p h = let l = m.lives p (any_function params after) (any_lives params after p h) in record { begins = l.begins; statics = l.statics }

-- the tables with other scopes
bound_before : (known : Known) (scopes : List Scope) (p : Program) → Holds (record known { scopes = scopes }) p → Holds known p
bound_before known scopes p h = record { begins = record { rows = (h.begins).rows; structures = (h.begins).structures; closed = (h.begins).closed; functions = (h.begins).functions }; statics = h.statics }

-- ---- what leaves functions and their names as they are

module _ (names : List (List ℕ)) (done : List FunctionTree) where
  object_by : (b : Bool) (x : Binding) (o : Option Binding) (n : ℕ) → (x ≡ FunctionName n → ⊥) → (if b then Some x else o) ≡ Some (FunctionName n) → o ≡ Some (FunctionName n)
  object_by true x o n other h = absurd (other (same_Some x (FunctionName n) h))
  object_by false x o n other h = h

  not_new : (scope : Scope) (name m : List ℕ) (x : Binding) (n : ℕ) → entry_of scope name ≡ None → entry_of scope m ≡ Some (FunctionName n) → (if bytes_eq name m then Some x else entry_of scope m) ≡ Some (FunctionName n)
  not_new scope name m x n free h = by_test (bytes_eq name m) refl
    where
      by_test : (b : Bool) → bytes_eq name m ≡ b → (if b then Some x else entry_of scope m) ≡ Some (FunctionName n)
      by_test true e = absurd (none_is (sym free ∙ (ap (entry_of scope) (same_bytes name m e) ∙ h)))
      by_test false e = h

  nothing_in : (o : Option Binding) → is_some o ≡ false → o ≡ None
  nothing_in None h = refl
  nothing_in (Some x) h = absurd (true≢false h)

  pub undeclared : (known : Known) (y : Files names done known) (name : List ℕ) → is_declared known name ≡ false → entry_of y.scope name ≡ None
  undeclared known y name h = nothing_in (entry_of y.scope name) (ap (λ s. is_some (innermost_in s name)) (sym y.only) ∙ h)

  -- a name more, which isn't that of a function
  files_bound : (known : Known) (name : List ℕ) (x : Binding) → Files names done known → is_declared known name ≡ false → ((n : ℕ) → x ≡ FunctionName n → ⊥) → IsBound known x → IsNamed [] known x
      → Files names done (record known { scopes = bound_in known.scopes name x })
  files_bound known name x y new other bound named = record {
    steady = rescoped [] known y.steady (bound_in known.scopes name x) (bound_holds (IsBound known) known.scopes name x bound ((y.steady).orderly).scopes) (bound_holds (IsNamed [] known) known.scopes name x named (y.steady).named);
    idle = y.idle;
    definitions = y.definitions;
    scope = with_entry y.scope name x;
    only = ap (λ s. bound_in s name x) y.only;
    named = λ m n e. y.named m n (object_by (bytes_eq name m) x (entry_of y.scope m) n (other n) (sym (put_entry y.scope name m x) ∙ e));
    signed = λ n s e. let r = y.signed n s e in (r.0, put_entry y.scope name r.0 x ∙ not_new y.scope name r.0 x n (undeclared known y name new) r.1);
    made = λ i g e. let r = y.made i g e in (r.0, r.1, put_entry y.scope name g.name x ∙ not_new y.scope name g.name x r.0 (undeclared known y name new) r.2, r.3, r.4);
    fitting = λ i g e p h. y.fitting i g e p (bound_before known (bound_in known.scopes name x) p h);
  }

  files_numbered : (known : Known) (es : List (List ℕ × ℤ)) → Files names done known → AreNew known.scopes es → Files names done (record known { scopes = with_enumerators known.scopes es })
  files_numbered known es y new = enumerators_keep (λ s. Files names done (record known { scopes = s })) (λ s name n free h. files_bound (record known { scopes = s }) name (EnumeratorName n) h free (λ m e. absurd (cc e)) tt tt) es known.scopes new y

  -- what leaves the scopes as they are
  files_kept : (a b : Known) → Files names done a → Spreads None false a b → Orderly b → b.scopes ≡ a.scopes → Files names done b
  files_kept a b y s o same = record {
    steady = spread_steady [] a b y.steady s o;
    idle = s.body ∙ y.idle;
    definitions = s.definitions ∙ y.definitions;
    scope = y.scope;
    only = same ∙ y.only;
    named = λ name n e. let r = y.named name n e in (r.0, ap (λ l. slice_get l n) s.signatures ∙ r.1, r.2);
    signed = λ n x e. y.signed n x (ap (λ l. slice_get l n) (sym s.signatures) ∙ e);
    made = λ i g e. let r = y.made i g e in (r.0, r.1, r.2, ap (λ l. slice_get l r.0) s.signatures ∙ r.3, r.4);
    fitting = λ i g e p h. y.fitting i g e p (holds_back true [] a b (spread_moves [] a b s) p h);
  }

  -- the tables behind, with the scopes before
  without_new : (a b : Known) → Spreads None false a b → Spreads None false a (record b { scopes = a.scopes })
  without_new a b s = record {
    grows = record { rows = (s.grows).rows; shapes = (s.grows).shapes; statics = (s.grows).statics };
    spared = s.spared;
    scopes = enumerated_none a.scopes a.scopes refl;
    signatures = s.signatures;
    definitions = s.definitions;
    statics = s.statics;
    body = s.body;
  }

  pub files_spread : (a b : Known) → Files names done a → Spreads None false a b → Orderly b → Files names done b
  files_spread a b y s o = subst (λ z. Files names done (record b { scopes = z })) (sym (s.scopes).1)
      (files_numbered (record b { scopes = a.scopes }) (s.scopes).0
      (files_kept a (record b { scopes = a.scopes }) y (without_new a b s) (scoped_orderly b a.scopes b.lists o (scopes_grow a b s.grows (y.steady).orderly a.scopes ((y.steady).orderly).scopes)) refl) (s.scopes).2)

  -- a static object more
  files_static : (a b : Known) (name : List ℕ) → Files names done a → Moves true [] a b → Steady [] b → IsBoundAs a name b → is_declared a name ≡ false → Files names done b
  files_static a b name y m steady bound new = record {
    steady = steady;
    idle = bound.2 ∙ y.idle;
    definitions = m.definitions ∙ y.definitions;
    scope = with_entry y.scope name (ObjectName (object.Static (length a.statics)) bound.0 false);
    only = bound.1 ∙ ap (λ s. bound_in s name (ObjectName (object.Static (length a.statics)) bound.0 false)) y.only;
    named = λ m2 n e. let r = y.named m2 n (object_by (bytes_eq name m2) _ (entry_of y.scope m2) n (λ c. absurd (cc c)) (sym (put_entry y.scope name m2 _) ∙ e)) in (r.0, ap (λ l. slice_get l n) m.signatures ∙ r.1, r.2);
    signed = λ n x e. let r = y.signed n x (ap (λ l. slice_get l n) (sym m.signatures) ∙ e) in (r.0, put_entry y.scope name r.0 _ ∙ not_new y.scope name r.0 _ n (undeclared a y name new) r.1);
    made = λ i g e. let r = y.made i g e in (r.0, r.1, put_entry y.scope name g.name _ ∙ not_new y.scope name g.name _ r.0 (undeclared a y name new) r.2, ap (λ l. slice_get l r.0) m.signatures ∙ r.3, r.4);
    fitting = λ i g e p h. y.fitting i g e p (holds_back true [] a b m p h);
  }

  -- ---- functions that are declared

  same_types_are : (as_ bs : List Ty) → same_types as_ bs ≡ true → as_ ≡ bs
  same_types_are [] [] h = refl
  same_types_are [] (b ∷ bs) h = absurd (false≢true h)
  same_types_are (a ∷ as_) [] h = absurd (false≢true h)
  same_types_are (a ∷ as_) (b ∷ bs) h = let both = and_parts (same_type a b) (same_types as_ bs) h in ap₂ (λ x xs. x ∷ xs) (same_type_is a b both.0) (same_types_are as_ bs both.1)

  -- the tables with other signatures and another scope
  pub signed_grows : (known : Known) (ss : List Signature) (scopes : List Scope) → Grows known (record known { signatures = ss; scopes = scopes })
  signed_grows known ss scopes = record { rows = λ row q h. h; shapes = λ n s h. (s, h, λ e. refl); statics = λ n s h. (s, h, refl) }

  signed_steady : (known : Known) (ss : List Signature) (scopes : List Scope) → Steady [] known → Each (AreBound known) scopes → Each (AreNamed [] known) scopes → ((n : ℕ) (s : Signature) → slice_get ss n ≡ Some s → Stands known (s.result).ty × Each (Stands known) s.params)
      → Steady [] (record known { signatures = ss; scopes = scopes })
  signed_steady known ss scopes y bound named results = record {
    orderly = record {
      rows = λ row q h. stands_grows known _ g y.orderly q.ty ((y.orderly).rows row q h);
      distinct = (y.orderly).distinct;
      shapes = λ n s h. shape_grows known _ g y.orderly s ((y.orderly).shapes n s h);
      scopes = scopes_grow known _ g y.orderly scopes bound;
      tags = tags_grow known (record known { signatures = ss; scopes = scopes }) g known.tags (y.orderly).tags;
      results = λ n s h. let r = results n s h in (stands_grows known _ g y.orderly (s.result).ty r.0, all_more s.params (stands_grows known _ g y.orderly) r.1);
    };
    named = names_more [] known (record known { signatures = ss; scopes = scopes }) (λ n s h. h) (λ n v h. h) scopes named;
    statics = λ n s h. static_grows known _ g y.orderly s (y.statics n s h);
    locals = λ n v h. sized_grows known _ g y.orderly (v.ty).ty (y.locals n v h);
    result = stands_grows known _ g y.orderly (known.body).result y.result;
  }
    where
      g : Grows known (record known { signatures = ss; scopes = scopes })
      g = signed_grows known ss scopes

  -- What a function's name is known as.
  pub record IsFunction (known : Known) (name : List ℕ) (result : Qualified) (params : List Ty) (n : ℕ) (s : Signature) : Type 0 where
    pub files : Files names done known
    pub entry : entry_of files.scope name ≡ Some (FunctionName n)
    pub there : slice_get known.signatures n ≡ Some s
    pub result_is : s.result ≡ result
    pub params_are : s.params ≡ params

  -- no function of this name is done
  abbrev pub IsFresh : List ℕ → Type 0
  IsFresh name = (i : ℕ) (g : FunctionTree) → slice_get done i ≡ Some g → g.name ≡ name → ⊥

  abbrev new_signature : Known → List ℕ → Qualified → List Ty → Signature
  new_signature known name result params = record { result = result; params = params; definition = definition_from known.definitions name 0; defined = false }

  module _ (known : Known) (y : Files names done known) (name : List ℕ) (result : Qualified) (params : List Ty) (free : entry_of y.scope name ≡ None) (stands : Stands known result.ty) (all : Each (Stands known) params) where
    abbrev with_function : Known
    with_function = record known { signatures = known.signatures ++ new_signature known name result params ∷ []; scopes = bound_in known.scopes name (FunctionName (length known.signatures)) }

    added_results : (n : ℕ) (s : Signature) → slice_get (known.signatures ++ new_signature known name result params ∷ []) n ≡ Some s → Stands known (s.result).ty × Each (Stands known) s.params
    added_results n s h = by_cases (got_either known.signatures (new_signature known name result params) n s h)
      where
        by_cases : (slice_get known.signatures n ≡ Some s) ⊎ ((n ≡ length known.signatures) × (new_signature known name result params ≡ s)) → Stands known (s.result).ty × Each (Stands known) s.params
        by_cases (inl g) = ((y.steady).orderly).results n s g
        by_cases (inr g) = subst (λ (z : Signature). Stands known (z.result).ty × Each (Stands known) z.params) g.1 (stands, all)

    added_holds : (p : Program) → Holds with_function p → Holds known p
    added_holds p h = record {
      begins = record { rows = (h.begins).rows; structures = (h.begins).structures; closed = (h.begins).closed; functions = λ n d s e is. (h.begins).functions n d s (got_left known.signatures (new_signature known name result params ∷ []) n s e) is };
      statics = h.statics;
    }

    name_new : (m : List ℕ) (n : ℕ) (b : Bool) → bytes_eq name m ≡ b → (if b then Some (FunctionName (length known.signatures)) else entry_of y.scope m) ≡ Some (FunctionName n)
        → (s : Signature) × (slice_get (known.signatures ++ new_signature known name result params ∷ []) n ≡ Some s) × (s.definition ≡ definition_from names m 0)
    name_new m n true e h =
        let same : length known.signatures ≡ n = number_is (length known.signatures) n (same_Some (FunctionName (length known.signatures)) (FunctionName n) h) in (
          new_signature known name result params,
          ap (slice_get (known.signatures ++ new_signature known name result params ∷ [])) (sym same) ∙ got_last known.signatures (new_signature known name result params),
          ap₂ (λ ds z. definition_from ds z 0) y.definitions (same_bytes name m e),
        )
      where
        number_is : (a b : ℕ) → FunctionName a ≡ FunctionName b → a ≡ b
        number_is a b e = cc e
    name_new m n false e h = let r = y.named m n h in (r.0, got_left known.signatures (new_signature known name result params ∷ []) n r.0 r.1, r.2)

    signed_new : (n : ℕ) (s : Signature) → (slice_get known.signatures n ≡ Some s) ⊎ ((n ≡ length known.signatures) × (new_signature known name result params ≡ s)) → (m : List ℕ) × (entry_of (with_entry y.scope name (FunctionName (length known.signatures))) m ≡ Some (FunctionName n))
    signed_new n s (inl g) = let r = y.signed n s g in (r.0, put_entry y.scope name r.0 (FunctionName (length known.signatures)) ∙ not_new y.scope name r.0 (FunctionName (length known.signatures)) n free r.1)
    signed_new n s (inr g) = (name, put_entry y.scope name name (FunctionName (length known.signatures)) ∙ (ap (λ b. if b then Some (FunctionName (length known.signatures)) else entry_of y.scope name) (bytes_same name) ∙ ap (λ k. Some (FunctionName k)) (sym g.0)))

    function_new : IsFunction with_function name result params (length known.signatures) (new_signature known name result params)
    function_new = record {
      files = record {
        steady = signed_steady known (known.signatures ++ new_signature known name result params ∷ []) (bound_in known.scopes name (FunctionName (length known.signatures))) y.steady
            (bound_holds (IsBound known) known.scopes name (FunctionName (length known.signatures)) tt ((y.steady).orderly).scopes) (bound_holds (IsNamed [] known) known.scopes name (FunctionName (length known.signatures)) tt (y.steady).named) added_results;
        idle = y.idle;
        definitions = y.definitions;
        scope = with_entry y.scope name (FunctionName (length known.signatures));
        only = ap (λ s. bound_in s name (FunctionName (length known.signatures))) y.only;
        named = λ m n e. name_new m n (bytes_eq name m) refl (sym (put_entry y.scope name m (FunctionName (length known.signatures))) ∙ e);
        signed = λ n s e. signed_new n s (got_either known.signatures (new_signature known name result params) n s e);
        made = λ i g e. let r = y.made i g e in (r.0, r.1, put_entry y.scope name g.name (FunctionName (length known.signatures)) ∙ not_new y.scope name g.name (FunctionName (length known.signatures)) r.0 free r.2, got_left known.signatures (new_signature known name result params ∷ []) r.0 r.1 r.3, r.4);
        fitting = λ i g e p h. y.fitting i g e p (added_holds p h);
      };
      entry = put_entry y.scope name name (FunctionName (length known.signatures)) ∙ ap (λ b. if b then Some (FunctionName (length known.signatures)) else entry_of y.scope name) (bytes_same name);
      there = got_last known.signatures (new_signature known name result params);
      result_is = refl;
      params_are = refl;
    }

  -- a function whose body comes
  abbrev marked : Signature → Signature
  marked s = record s { defined = true }

  module _ (known : Known) (name : List ℕ) (result : Qualified) (params : List Ty) (n : ℕ) (s : Signature) (f : IsFunction known name result params n s) where
    abbrev with_body : Known
    with_body = record known { signatures = changed_at known.signatures n marked }

    marked_at : (m : ℕ) (x : Signature) → slice_get known.signatures m ≡ Some x → (z : Signature) × (slice_get (changed_at known.signatures n marked) m ≡ Some z) × (z.result ≡ x.result) × (z.params ≡ x.params) × (z.definition ≡ x.definition) × (x.defined ≡ true → z.defined ≡ true)
    marked_at m x h = by_cases (equal_or_not n m)
      where
        by_cases : (n ≡ m) ⊎ (n ≡ m → ⊥) → (z : Signature) × (slice_get (changed_at known.signatures n marked) m ≡ Some z) × (z.result ≡ x.result) × (z.params ≡ x.params) × (z.definition ≡ x.definition) × (x.defined ≡ true → z.defined ≡ true)
        by_cases (inl e) = (marked x, ap (λ k. slice_get (changed_at known.signatures k marked) m) e ∙ changed_same known.signatures m marked x h, refl, refl, refl, λ d. refl)
        by_cases (inr apart) = (x, changed_other known.signatures n m marked apart ∙ h, refl, refl, refl, λ d. d)

    marked_from : (m : ℕ) (z : Signature) → slice_get (changed_at known.signatures n marked) m ≡ Some z → (x : Signature) × (slice_get known.signatures m ≡ Some x) × (z.result ≡ x.result) × (z.params ≡ x.params)
    marked_from m z h = by_cases (changed_from known.signatures n m marked z h)
      where
        by_cases : (slice_get known.signatures m ≡ Some z) ⊎ ((n ≡ m) × (x : Signature) × (slice_get known.signatures m ≡ Some x) × (marked x ≡ z)) → (x : Signature) × (slice_get known.signatures m ≡ Some x) × (z.result ≡ x.result) × (z.params ≡ x.params)
        by_cases (inl g) = (z, g, refl, refl)
        by_cases (inr g) = (g.1, g.2, ap (λ (w : Signature). w.result) (sym g.3), ap (λ (w : Signature). w.params) (sym g.3))

    marked_holds : (p : Program) → Holds with_body p → Holds known p
    marked_holds p h = record {
      begins = record {
        rows = (h.begins).rows;
        structures = (h.begins).structures;
        closed = (h.begins).closed;
        functions = λ m d x e is. let z = marked_at m x e in let g = (h.begins).functions m d z.0 z.1 (z.4 ∙ is) in (g.0, g.1, g.2 ∙ ap (λ (q : Qualified). q.ty) z.2, g.3 ∙ z.3);
      };
      statics = h.statics;
    }

    marked_results : (m : ℕ) (z : Signature) → slice_get (changed_at known.signatures n marked) m ≡ Some z → Stands known (z.result).ty × Each (Stands known) z.params
    marked_results m z h = let x = marked_from m z h in let r = (((f.files).steady).orderly).results m x.0 x.1 in
        (subst (λ (q : Qualified). Stands known q.ty) (sym x.2) r.0, subst (Each (Stands known)) (sym x.3) r.1)

    function_body_comes : IsFunction with_body name result params n (marked s)
    function_body_comes = record {
      files = record {
        steady = signed_steady known (changed_at known.signatures n marked) known.scopes (f.files).steady (((f.files).steady).orderly).scopes ((f.files).steady).named marked_results;
        idle = (f.files).idle;
        definitions = (f.files).definitions;
        scope = (f.files).scope;
        only = (f.files).only;
        named = λ m k e. let r = (f.files).named m k e in let z = marked_at k r.0 r.1 in (z.0, z.1, z.4 ∙ r.2);
        signed = λ k z e. let x = marked_from k z e in (f.files).signed k x.0 x.1;
        made = λ i g e. let r = (f.files).made i g e in let z = marked_at r.0 r.1 r.3 in (r.0, z.0, r.2, z.1, record { result = (r.4).result ∙ ap (λ (q : Qualified). q.ty) (sym z.2); params = (r.4).params ∙ sym z.3; defined = z.5 (r.4).defined });
        fitting = λ i g e p h. (f.files).fitting i g e p (marked_holds p h);
      };
      entry = f.entry;
      there = changed_same known.signatures n marked s f.there;
      result_is = f.result_is;
      params_are = f.params_are;
    }

  -- ---- the rule on functions

  -- what is known behind it
  pub record IsRuled (before : Known) (name : List ℕ) (result : Qualified) (params : List Ty) (defines : Bool) (after : Known) : Type 0 where
    pub signatures : List Signature
    pub scopes : List Scope
    pub is : after ≡ record before { signatures = signatures; scopes = scopes }
    pub n : ℕ
    pub signature : Signature
    pub function : IsFunction (record before { signatures = signatures; scopes = scopes }) name result params n signature
    pub defined : defines ≡ true → signature.defined ≡ true
    pub fresh : defines ≡ true → IsFresh name

  defined_turns : (defines : Bool) (base known : Known) (name : List ℕ) (result : Qualified) (params : List Ty) (n : ℕ) (s : Signature) (ss : List Signature) (scopes : List Scope) → known ≡ record base { signatures = ss; scopes = scopes }
      → IsFunction (record base { signatures = ss; scopes = scopes }) name result params n s → (defines ≡ true → IsFresh name) → Turns (λ u k. IsRuled base name result params defines k) (set_defined defines n known)
  unfolding Turns
  defined_turns false base known name result params n s ss scopes is f fresh = record { signatures = ss; scopes = scopes; is = is; n = n; signature = s; function = f; defined = λ e. absurd (false≢true e); fresh = fresh }
  defined_turns true base known name result params n s ss scopes is f fresh = record {
    signatures = changed_at ss n marked;
    scopes = scopes;
    is = ap (λ (k : Known). record k { signatures = changed_at k.signatures n marked }) is;
    n = n;
    signature = marked s;
    function = function_body_comes (record base { signatures = ss; scopes = scopes }) name result params n s f;
    defined = λ e. refl;
    fresh = fresh;
  }

  same_signature : (s : Signature) (result : Qualified) (params : List Ty) (defines : Bool) → is_same (Some s) result params defines ≡ true → (s.result ≡ result) × (s.params ≡ params) × (defines ≡ true → s.defined ≡ false)
  same_signature s result params defines h =
      let a = and_parts (same_qualified s.result result) (same_types s.params params && not (defines && s.defined)) h in
      let b = and_parts (same_types s.params params) (not (defines && s.defined)) a.1 in
      (same_qualified_is s.result result a.0, same_types_are s.params params b.0, λ d. undefined defines s.defined d b.1)
    where
      undefined : (a b : Bool) → a ≡ true → not (a && b) ≡ true → b ≡ false
      undefined true true e h = absurd (false≢true h)
      undefined true false e h = refl
      undefined false b e h = absurd (false≢true e)

  found_turns : (found : Option Binding) (known : Known) (y : Files names done known) (name : List ℕ) (result : Qualified) (params : List Ty) (bad defines : Bool) → entry_of y.scope name ≡ found → Stands known result.ty → Each (Stands known) params
      → (is_some found && (bad || not (is_same (signature_at known (function_number found)) result params defines))) ≡ false
      → Turns (λ u k. IsRuled known name result params defines k) (go_on (λ number. set_defined defines number) (function_added (function_number found) name result params known))
  found_turns None known y name result params bad defines e stands all h =
      defined_turns defines known (with_function known y name result params e stands all) name result params (length known.signatures) (new_signature known name result params) (known.signatures ++ new_signature known name result params ∷ []) (bound_in known.scopes name (FunctionName (length known.signatures))) refl
      (function_new known y name result params e stands all) (λ d i g there same. let r = y.made i g there in none_is (sym e ∙ (ap (entry_of y.scope) (sym same) ∙ r.2)))
  found_turns (Some (ObjectName o q fixed)) known y name result params bad defines e stands all h = absurd (no_other bad h)
    where
      no_other : (b : Bool) → (b || true) ≡ false → ⊥
      no_other true h = true≢false h
      no_other false h = true≢false h
  found_turns (Some (BitName r b)) known y name result params bad defines e stands all h = absurd (no_other bad h)
    where
      no_other : (b : Bool) → (b || true) ≡ false → ⊥
      no_other true h = true≢false h
      no_other false h = true≢false h
  found_turns (Some (TypeNamed q waiting)) known y name result params bad defines e stands all h = absurd (no_other bad h)
    where
      no_other : (b : Bool) → (b || true) ≡ false → ⊥
      no_other true h = true≢false h
      no_other false h = true≢false h
  found_turns (Some (EnumeratorName n)) known y name result params bad defines e stands all h = absurd (no_other bad h)
    where
      no_other : (b : Bool) → (b || true) ≡ false → ⊥
      no_other true h = true≢false h
      no_other false h = true≢false h
  found_turns (Some (FunctionName n)) known y name result params bad defines e stands all h =
      let r = y.named name n e in
      let same = not_false (is_same (signature_at known (Some n)) result params defines) (or_parts bad (not (is_same (signature_at known (Some n)) result params defines)) h).1 in
      let types = same_signature r.0 result params defines (ap (λ o. is_same o result params defines) (sym r.1) ∙ same) in
      defined_turns defines known known name result params n r.0 known.signatures known.scopes refl
      (record { files = y; entry = e; there = r.1; result_is = types.0; params_are = types.1 })
      (λ d i g there is.
      let m = y.made i g there in
      let number : m.0 ≡ n = number_is m.0 n (same_Some (FunctionName m.0) (FunctionName n) (sym m.2 ∙ (ap (entry_of y.scope) is ∙ e))) in
      let signature : m.1 ≡ r.0 = same_answer (slice_get known.signatures n) m.1 r.0 (ap (slice_get known.signatures) (sym number) ∙ m.3) r.1 in
      true≢false (sym (m.4).defined ∙ (ap (λ (z : Signature). z.defined) signature ∙ types.2 d)))
    where
      number_is : (a b : ℕ) → FunctionName a ≡ FunctionName b → a ≡ b
      number_is a b e = cc e

  param_types_stand : (known : Known) (ps : List Param) → Each (IsParam known) ps → Each (Stands known) (param_types ps)
  param_types_stand known [] h = tt
  param_types_stand known (p ∷ ps) h = ((h.0).0, param_types_stand known ps h.1)

  pub function_rule_turns : (known : Known) (y : Files names done known) (name : List ℕ) (result : Qualified) (ps : List Param) (bad defines : Bool) (line : ℕ) → Stands known result.ty → Each (IsParam known) ps
      → Turns (λ u k. IsRuled known name result (param_types ps) defines k) (function_rule name result ps bad defines line known)
  function_rule_turns known y name result ps bad defines line stands all =
      turns_test _ known (is_declared known name && (bad || not (is_same (signature_at known (function_number (innermost_in known.scopes name))) result (param_types ps) defines))) kind.Again ((bad, kind.Declare) ∷ []) line (λ u. λ k. go_on (λ number. set_defined defines number) (function_added (function_number (innermost_in known.scopes name)) name result (param_types ps) k))
      (λ e1. turns_test _ known bad kind.Declare [] line (λ u. λ k. go_on (λ number. set_defined defines number) (function_added (function_number (innermost_in known.scopes name)) name result (param_types ps) k))
      (λ e2. found_turns (innermost_in known.scopes name) known y name result (param_types ps) bad defines (sym (ap (λ s. innermost_in s name) y.only)) stands (param_types_stand known ps all) e1))

  pub function_refused : (known : Known) (name : List ℕ) (result : Qualified) (ps : List Param) (bad defines : Bool) (line : ℕ) → bad ≡ true → IsRefused (function_rule name result ps bad defines line known)
  function_refused known name result ps bad defines line h = by_tests (is_declared known name && (bad || not (is_same (signature_at known (function_number (innermost_in known.scopes name))) result (param_types ps) defines))) bad kind.Again kind.Declare line _ known h
    where
      by_tests : {B : Type 0} (a b : Bool) (k l : Kind) (line : ℕ) (second : Known → Rule B) (known : Known) → b ≡ true → IsRefused (go_on second (tried ((a, k) ∷ (b, l) ∷ []) line known))
      by_tests true b k l line second known h = tt
      by_tests false true k l line second known h = tt
      by_tests false false k l line second known h = absurd (false≢true h)

  pub ruled_base : (before after : Known) (name : List ℕ) (result : Qualified) (params : List Ty) (defines : Bool) → Orderly before → IsRuled before name result params defines after → (q : Qualified) → IsBase before q → IsBase after q
  ruled_base before after name result params defines o r q base = subst (λ k. IsBase k q) (sym r.is) (stands_grows before _ (signed_grows before r.signatures r.scopes) o q.ty base)

  -- ---- declarators in the file

  always_refused : (init : Option InitTree) (line : ℕ) (k : Known) → Files names done k → (q : Qualified) → IsBase k q → Turns (λ u k. Files names done k × IsBase k q) (no_value init line k)
  always_refused None line k y q base = turns_given _ k k (y, base)
  always_refused (Some init) line k y q base = all_broken (initializers.begins init None false (nothing_begun true line) k)
    where
      all_broken : (r : Result (Begun × Known) Fault) → Turns (λ (u : Known) k. Files names done k × IsBase k q) (go_on (λ b. broken {A = Known} kind.Convert line) r)
      all_broken (Ok x) = turns_broken _ _
      all_broken (Err fault) = turns_broken _ _

  object_is : (said : Specified) (o : Outline) (begun : Bool) (line : ℕ) (known : Known) → IsDeclared known o.declared → Turns (λ q k. (k ≡ known) × IsDeclaredAs known begun q) (object_rule said o begun line known)
  object_is said o begun line known declared =
      turns_test _ known (o.bad || (is_function o.declared || said.interrupt)) kind.Declare ((nat_lt 65535 (bytes_of known (object_type o.declared).ty), kind.Size) ∷ (is_waiting o.waiting || not ((begun && is_array (object_type o.declared).ty) || is_complete known (object_type o.declared).ty), kind.Incomplete) ∷ []) line (λ u. given (object_type o.declared)) (λ e1.
      turns_test _ known (nat_lt 65535 (bytes_of known (object_type o.declared).ty)) kind.Size ((is_waiting o.waiting || not ((begun && is_array (object_type o.declared).ty) || is_complete known (object_type o.declared).ty), kind.Incomplete) ∷ []) line (λ u. given (object_type o.declared)) (λ e2.
      turns_test _ known (is_waiting o.waiting || not ((begun && is_array (object_type o.declared).ty) || is_complete known (object_type o.declared).ty)) kind.Incomplete [] line (λ u. given (object_type o.declared)) (λ e3.
      turns_given _ (object_type o.declared) known (
        refl,
        declared_as known begun said.interrupt o.declared declared (or_parts o.bad (is_function o.declared || said.interrupt) e1).1 e2
            (not_false ((begun && is_array (object_type o.declared).ty) || is_complete known (object_type o.declared).ty) (or_parts (is_waiting o.waiting) (not ((begun && is_array (object_type o.declared).ty) || is_complete known (object_type o.declared).ty)) e3).1),
      ))))

  turns_of_steps : {A : Type 0} (P Q : A → Known → Type 0) (known : Known) (r : Result (A × Known) Fault) → Steps true [] known P r → ((x : A) (k : Known) → Moves true [] known k → Steady [] k → P x k → Q x k) → Turns Q r
  unfolding Turns Steps
  turns_of_steps P Q known (Ok x) g more = more x.0 x.1 g.moves g.steady g.holds
  turns_of_steps P Q known (Err fault) g more = tt

  static_turns : (init : Option InitTree) (name : List ℕ) (q : Qualified) (line : ℕ) (known : Known) → Files names done known → is_declared known name ≡ false → IsDeclaredAs known (is_some init) q → (base : Qualified) → IsBase known base
      → Turns (λ u k. Files names done k × IsBase k base) (static_rule init name name q line known)
  static_turns init name q line known y new h base b = turns_of_steps (λ x k. IsBoundAs known name k) _ known _ (static_runs [] known y.steady name name q line init h)
      (λ x k m steady bound. (files_static known k name y m steady bound new, base_grows known k m.grows (y.steady).orderly base b))

  object_turns : (said : Specified) (o : Outline) (init : Option InitTree) (name : List ℕ) (line : ℕ) (known : Known) → Files names done known → IsDeclared known o.declared → IsBase known said.ty → Turns (λ u k. Files names done k × IsBase k said.ty) (file_object said o init name line known)
  object_turns said o init name line known y declared base = turns_test _ known (is_declared known name) kind.Again [] line (λ u. λ k. go_on (λ ty. static_rule init name name ty line) (object_rule said o (is_some init) line k))
      (λ new. turns_on (λ q k. (k ≡ known) × IsDeclaredAs known (is_some init) q) _ (object_rule said o (is_some init) line known) (λ ty. static_rule init name name ty line) (object_is said o (is_some init) line known declared)
      (λ q k h. subst (λ z. Turns (λ u k. Files names done k × IsBase k said.ty) (static_rule init name name q line z)) (sym h.0) (static_turns init name q line known y new h.1 said.ty base)))

  object_file_refused : (said : Specified) (o : Outline) (init : Option InitTree) (name : List ℕ) (line : ℕ) (known : Known) → Doomed o → IsRefused (file_object said o init name line known)
  object_file_refused said o init name line known d = by_test (is_declared known name) kind.Again line (λ u. λ k. go_on (λ ty. static_rule init name name ty line) (object_rule said o (is_some init) line k)) known (refused_on (object_rule said o (is_some init) line known) _ (object_refused said o (is_some init) line known d))
    where
      by_test : {B : Type 0} (t : Bool) (why : Kind) (line : ℕ) (second : Known → Rule B) (k : Known) → IsRefused (second k k) → IsRefused (go_on second (tried ((t, why) ∷ []) line k))
      by_test true why line second k h = tt
      by_test false why line second k h = h

  declared_refused : (declared : Declared) (said : Specified) (o : Outline) (init : Option InitTree) (name : List ℕ) (line : ℕ) (known : Known) → Doomed o → IsRefused (file_declared declared said o init name line known)
  declared_refused (FunctionDeclared result params scope) said o init name line known d = refused_on (function_rule name result params o.bad false line known) _ (function_refused known name result params o.bad false line d)
  declared_refused (ObjectDeclared q) said o init name line known d = object_file_refused said o init name line known d

  declared_turns : (declared : Declared) (said : Specified) (o : Outline) (init : Option InitTree) (name : List ℕ) (line : ℕ) (known : Known) → o.declared ≡ declared → Files names done known → IsDeclared known declared → IsBase known said.ty → Turns (λ u k. Files names done k × IsBase k said.ty) (file_declared declared said o init name line known)
  declared_turns (FunctionDeclared result params scope) said o init name line known is y h base = turns_on _ _ _ (λ u. no_value init line) (function_rule_turns known y name result params o.bad false line h.0 (h.2).params)
      (λ u k r. always_refused init line k (subst (Files names done) (sym r.is) (r.function).files) said.ty (ruled_base known k name result (param_types params) false (y.steady).orderly r said.ty base))
  declared_turns (ObjectDeclared q) said o init name line known is y h base = object_turns said o init name line known y (subst (IsDeclared known) (sym is) h) base

  -- ---- the names of types

  type_refused : (said : Specified) (o : Outline) (begun : Bool) (name : List ℕ) (line : ℕ) (known : Known) → Doomed o → IsRefused (type_rule said o begun name line known)
  type_refused said o begun name line known d = by_tests (is_declared known name) (o.bad || (is_function o.declared || (begun || said.interrupt))) kind.Again kind.Declare line _ known (or_left o.bad (is_function o.declared || (begun || said.interrupt)) d)
    where
      by_tests : {B : Type 0} (a b : Bool) (k l : Kind) (line : ℕ) (second : Known → Rule B) (known : Known) → b ≡ true → IsRefused (go_on second (tried ((a, k) ∷ (b, l) ∷ []) line known))
      by_tests true b k l line second known h = tt
      by_tests false true k l line second known h = tt
      by_tests false false k l line second known h = absurd (false≢true h)

  declared_type : (known : Known) (declared : Declared) → IsDeclared known declared → is_function declared ≡ false → Stands known (object_type declared).ty
  declared_type known (ObjectDeclared q) h object = h
  declared_type known (FunctionDeclared result params scope) h object = absurd (true≢false object)

  type_turns : (said : Specified) (o : Outline) (begun : Bool) (name : List ℕ) (line : ℕ) (known : Known) → Files names done known → IsDeclared known o.declared → IsBase known said.ty → Turns (λ u k. Files names done k × IsBase k said.ty) (type_rule said o begun name line known)
  type_turns said o begun name line known y h base =
      turns_test _ known (is_declared known name) kind.Again ((o.bad || (is_function o.declared || (begun || said.interrupt)), kind.Declare) ∷ []) line (λ u. bind name (TypeNamed (object_type o.declared) o.waiting)) (λ new.
      turns_test _ known (o.bad || (is_function o.declared || (begun || said.interrupt))) kind.Declare [] line (λ u. bind name (TypeNamed (object_type o.declared) o.waiting)) (λ e.
      turns_given _ _ _ (
        files_bound known name (TypeNamed (object_type o.declared) o.waiting) y new (λ n e. absurd (cc e))
            (declared_type known o.declared h (or_parts (is_function o.declared) (begun || said.interrupt) (or_parts o.bad (is_function o.declared || (begun || said.interrupt)) e).1).0) tt,
        base_grows known _ (scoped_grows known (bound_in known.scopes name (TypeNamed (object_type o.declared) o.waiting)) known.lists) (y.steady).orderly said.ty base,
      )))

  -- ---- declarators, whether of a typedef or not

  as_refused : (t : Bool) (said : Specified) (o : Outline) (init : Option InitTree) (name : List ℕ) (line : ℕ) (known : Known) → Doomed o → IsRefused ((if t then type_rule said o (is_some init) name line else file_declared o.declared said o init name line) known)
  as_refused true said o init name line known d = type_refused said o (is_some init) name line known d
  as_refused false said o init name line known d = declared_refused o.declared said o init name line known d

  as_turns : (t : Bool) (said : Specified) (o : Outline) (init : Option InitTree) (name : List ℕ) (line : ℕ) (known : Known) → Files names done known → IsDeclared known o.declared → IsBase known said.ty
      → Turns (λ u k. Files names done k × IsBase k said.ty) ((if t then type_rule said o (is_some init) name line else file_declared o.declared said o init name line) known)
  as_turns true said o init name line known y h base = type_turns said o (is_some init) name line known y h base
  as_turns false said o init name line known y h base = declared_turns o.declared said o init name line known refl y h base

  declarator_turns : (b : BegunTree) (said : Specified) (known : Known) → Files names done known → IsBase known said.ty → Turns (λ u k. Files names done k × IsBase k said.ty) (file_declarator b said known)
  declarator_turns b said known y base = turns_fates (λ x k. IsDeclared k x.declared) _ known _ _ (outline_fates b.declarator said true known (y.steady).orderly base)
      (λ o k d. as_refused said.is_typedef said o (init_in b.init) (name_in b.declarator) (line_in b.declarator) k d)
      (λ o k s ordered declared. as_turns said.is_typedef said o (init_in b.init) (name_in b.declarator) (line_in b.declarator) k (files_spread known k y s ordered) declared (base_grows known k s.grows (y.steady).orderly said.ty base))

  more_turns : (bs : List (ℕ × BegunTree)) (said : Specified) (known : Known) → Files names done known → IsBase known said.ty → Turns (λ u k. Files names done k) (more_in_file bs said known)
  more_turns [] said known y base = turns_given _ known known y
  more_turns (b ∷ bs) said known y base = turns_on _ _ _ (λ u. more_in_file bs said) (declarator_turns b.1 said known y base) (λ u k h. more_turns bs said k h.0 h.1)

  list_turns : (d : Option DeclaredTrees) (said : Specified) (known : Known) → Files names done known → IsBase known said.ty → Turns (λ u k. Files names done k) (declared_in_file d said known)
  list_turns None said known y base = by_test (said.interrupt || said.is_typedef)
    where
      by_test : (t : Bool) → Turns (λ u k. Files names done k) (tried ((t, kind.Declare) ∷ []) said.line known)
      by_test true = turns_broken _ _
      by_test false = turns_given _ known known y
  list_turns (Some d) said known y base = turns_on _ _ _ (λ u. more_in_file d.1 said) (declarator_turns d.0 said known y base) (λ u k h. more_turns d.1 said k h.0 h.1)

  -- What a declaration in the file does.
  pub declaration_turns : (d : DeclarationTree) (known : Known) → Files names done known → Turns (λ u k. Files names done k) (file_declaration d known)
  declaration_turns d known y = turns_runs (λ s k. IsBase k s.ty) _ known _ _ (specified_runs d.specs in_file known (y.steady).orderly) (λ said k s ordered base. list_turns d.declared said k (files_spread known k y s ordered) base)
