-- Functions: their bodies fit, and what is known of the unit goes on behind them.
use Rattle.std.proofs.Common.{◌≡◌, ℕ, zero, suc, Bool, true, false, ◌&&◌, ◌||◌, List, [], ◌∷◌, ◌++◌, length, map, Some, Result, Ok, Err, ◌⊎◌, inl, inr, refl, sym, ap, ◌∙◌, subst}
use Rattle.std.specs.Prelude.{slice_get}
use Rattle.std.specs.List.{list_all}
use Rattle.std.proofs.lemmas.Bool.{and_from}
use Rattle.std.proofs.lemmas.Option.{same_Some}
use Rattle.c_nodes.specs.Programs.{BlockTree}
use Rattle.c_nodes.specs.Trees.{SpecTrees, DeclaratorTree}
use Rattle.c_typed.specs.Sameness.{is_array, is_struct, is_scalar}
use Rattle.c_typed.specs.Sound.{type_is_there, param_fits, local_fits, result_fits, statements_fit, function_fits}
use Rattle.c_typed.specs.Trees as typed
use Rattle.c_typed.specs.Trees.{StaticTree, VariableTree, FunctionTree, Program}
use Rattle.c_typed.specs.declared.expression.Object.{Object}
use Rattle.c_typed.specs.declared.expression.Object.TheVariants as object
use Rattle.c_typed.specs.declared.types.Qualified.{Qualified}
use Rattle.type_rules.specs.Declarations.{param_types, function_rule}
use Rattle.type_rules.specs.Declarators.{in_file, outline_of, name_in, line_in}
use Rattle.type_rules.specs.Faults as kind
use Rattle.type_rules.specs.Faults.{Kind, Fault}
use Rattle.type_rules.specs.Known.{Binding, ObjectName, BitName, FunctionName, TypeNamed, EnumeratorName, Scope, Signature, Body, Known, no_body, tried, broken, go_on}
use Rattle.type_rules.specs.Names.{without_first, is_declared, entry_of}
use Rattle.type_rules.specs.Outlines.{Param, Declared, ObjectDeclared, FunctionDeclared, Outline}
use Rattle.type_rules.specs.Specifiers.{Specified}
use Rattle.type_rules.specs.Statements.{body_statements}
use Rattle.type_rules.specs.Units.{variable_of, function_body, function_declared, function}
use Rattle.typed_laws.specs.Files.{Holds, Matches, Files, Turns}
use Rattle.typed_laws.specs.Living.{Lives, IsNamedObject, IsNamed, AreNamed, Steady, Moves}
use Rattle.typed_laws.specs.Spreading.{Grows, IsRefused, IsParam, IsListedObject, IsListed, IsList, IsDeclared, Doomed}
use Rattle.typed_laws.specs.Tables.{Each, Stands, IsBase, IsBound, type_in, Begins}
use Rattle.typed_laws.proofs.Adding.{orderly_other}
use Rattle.typed_laws.proofs.Declarations.{refused_on}
use Rattle.typed_laws.proofs.Declarators.{specified_runs, outline_fates}
use Rattle.typed_laws.proofs.Files.{IsFunction, IsFresh, turns_on, turns_given, turns_broken, turns_test, turns_runs, turns_fates, turns_steps, holds_back, files_spread, signed_grows, function_rule_turns, function_refused, local_itself}
use Rattle.typed_laws.proofs.Lists.{none_is, all_more, mapped_at, got_either}
use Rattle.typed_laws.proofs.Living.{static_grows}
use Rattle.typed_laws.proofs.Outlines.{list_grows}
use Rattle.typed_laws.proofs.Programs.{all_at, stands_there, sized_fits, result_there, mapped_from}
use Rattle.typed_laws.proofs.Scopes.{inner_left}
use Rattle.typed_laws.proofs.Spreading.{stands_grows, scopes_grow}
use Rattle.typed_laws.proofs.Statements.{body_steps}

-- ---- names of parameters

-- What a list of parameters declares is known by its name.
object_named : (ps : List Param) (known : Known) (object : Object) (q : Qualified) → IsListedObject ps object q → IsNamedObject (map variable_of ps) known object q
object_named ps known (object.Param n) q h = (variable_of h.0, mapped_at variable_of ps n h.0 h.1, h.2)
object_named ps known (object.Static n) q h = absurd h
object_named ps known (object.Local n) q h = absurd h
object_named ps known (object.Register n) q h = absurd h

listed_named : (ps : List Param) (known : Known) (b : Binding) → IsListed ps b → IsNamed (map variable_of ps) known b
listed_named ps known (ObjectName object q fixed) h = object_named ps known object q h
listed_named ps known (EnumeratorName n) h = tt
listed_named ps known (BitName r n) h = absurd h
listed_named ps known (FunctionName n) h = absurd h
listed_named ps known (TypeNamed q waiting) h = absurd h

-- ---- names of the file in a function

file_named : (params : List VariableTree) (a b : Known) → a.body ≡ no_body → ((n : ℕ) (s : StaticTree) → slice_get a.statics n ≡ Some s → slice_get b.statics n ≡ Some s) → (x : Binding) → IsNamed [] a x → IsNamed params b x
file_named params a b idle statics (ObjectName (object.Static n) q fixed) h = (h.0, statics n h.0 h.1, h.2)
file_named params a b idle statics (ObjectName (object.Param n) q fixed) h = absurd (none_is h.1)
file_named params a b idle statics (ObjectName (object.Local n) q fixed) h = absurd (none_is (ap (λ (z : Body). slice_get z.locals n) (sym idle) ∙ h.1))
file_named params a b idle statics (ObjectName (object.Register n) q fixed) h = h
file_named params a b idle statics (BitName r n) h = h
file_named params a b idle statics (FunctionName n) h = h
file_named params a b idle statics (TypeNamed q waiting) h = h
file_named params a b idle statics (EnumeratorName n) h = h

files_named : (params : List VariableTree) (a b : Known) → a.body ≡ no_body → ((n : ℕ) (s : StaticTree) → slice_get a.statics n ≡ Some s → slice_get b.statics n ≡ Some s) → (scopes : List Scope) → Each (AreNamed [] a) scopes → Each (AreNamed params b) scopes
files_named params a b idle statics scopes h = all_more scopes (λ scope all. all_more scope (λ e. file_named params a b idle statics e.1) all) h

types_of : (ps : List Param) → map type_in (map variable_of ps) ≡ param_types ps
types_of [] = refl
types_of (p ∷ ps) = ap (λ l. (p.ty).ty ∷ l) (types_of ps)

-- ---- a function's body

module _ (names : List (List ℕ)) (done : List FunctionTree) (k : Known) (name : List ℕ) (result : Qualified) (ps : List Param) (scope : Scope) (n : ℕ) (s : Signature) (said : Specified)
    (f : IsFunction names done k name result (param_types ps) n s) (defined : s.defined ≡ true) (list : IsList k ps scope) (stands : Stands k result.ty) (other : (is_array result.ty || is_struct result.ty) ≡ false) where
  abbrev variables : List VariableTree
  variables = map variable_of ps

  -- the tables as the body begins
  abbrev inside : Known
  inside = record k { body = record { name = name; result = result.ty; locals = []; declarators = 0 }; scopes = scope ∷ k.scopes }

  inside_grows : Grows k inside
  inside_grows = record { rows = λ row q h. h; shapes = λ m x h. (x, h, λ e. refl); statics = λ m x h. (x, h, refl) }

  inside_steady : Steady variables inside
  inside_steady = record {
    orderly = orderly_other k inside inside_grows ((f.files).steady).orderly refl refl refl refl (scopes_grow k inside inside_grows ((f.files).steady).orderly (scope ∷ k.scopes) (list.bound, (((f.files).steady).orderly).scopes));
    named = (all_more scope (λ e. listed_named ps inside e.1) list.listed, files_named variables k inside (f.files).idle (λ m x h. h) k.scopes ((f.files).steady).named);
    statics = λ m x h. static_grows k inside inside_grows ((f.files).steady).orderly x (((f.files).steady).statics m x h);
    locals = λ m x h. absurd (none_is h);
    result = stands_grows k inside inside_grows ((f.files).steady).orderly result.ty stands;
  }

  inside_holds : (p : Program) → Holds inside p → Holds k p
  inside_holds p h = record { begins = record { rows = (h.begins).rows; structures = (h.begins).structures; closed = (h.begins).closed; functions = (h.begins).functions }; statics = h.statics }

  module _ (last : Known) (body : typed.Statements) (m : Moves true variables inside last) (y : Steady variables last) (fitting : (p : Program) (g : FunctionTree) → Lives variables last p g → statements_fit p g true false false body ≡ true) where
    abbrev made : FunctionTree
    made = record { name = name; result = result.ty; params = variables; locals = (last.body).locals; body = body; interrupt = said.interrupt; line = said.line }

    -- the tables behind the body
    abbrev behind : Known
    behind = record last { scopes = without_first last.scopes; body = no_body }

    behind_grows : Grows last behind
    behind_grows = record { rows = λ row q h. h; shapes = λ i x h. (x, h, λ e. refl); statics = λ i x h. (x, h, refl) }

    behind_holds : (p : Program) → Holds behind p → Holds last p
    behind_holds p h = record { begins = record { rows = (h.begins).rows; structures = (h.begins).structures; closed = (h.begins).closed; functions = (h.begins).functions }; statics = h.statics }

    old_holds : (p : Program) → Holds behind p → Holds k p
    old_holds p h = inside_holds p (holds_back true variables inside last m p (behind_holds p h))

    made_lives : (p : Program) → Holds behind p → Lives variables last p made
    made_lives p h = record { begins = (behind_holds p h).begins; statics = h.statics; params_are = refl; locals = λ i v e. (v, e, local_itself v.ty); result = sym m.result }

    made_fits : (p : Program) → Holds behind p → function_fits p made ≡ true
    made_fits p h =
        let b = (behind_holds p h).begins in
        let before = (old_holds p h).begins in
        let o = ((f.files).steady).orderly in
        and_from (result_fits p result.ty) (list_all (param_fits p) variables && (list_all (local_fits p) (last.body).locals && statements_fit p made true false false body)) (result_there k o p before result.ty stands other)
        (and_from (list_all (param_fits p) variables) (list_all (local_fits p) (last.body).locals && statements_fit p made true false false body)
        (all_at (param_fits p) variables (λ i v e. let x = mapped_from variable_of ps i v e in subst (λ (z : VariableTree). param_fits p z ≡ true) x.2 (param_there p before x.0 (each_at ps i x.0 x.1 list.params))))
        (and_from (list_all (local_fits p) (last.body).locals) (statements_fit p made true false false body)
        (all_at (local_fits p) (last.body).locals (λ i v e. sized_fits last y.orderly p b (v.ty).ty (y.locals i v e)))
        (fitting p made (made_lives p h))))
      where
        each_at : (xs : List Param) (i : ℕ) (x : Param) → slice_get xs i ≡ Some x → Each (IsParam k) xs → IsParam k x
        each_at [] i x e h = absurd (none_is e)
        each_at (z ∷ xs) zero x e h = subst (IsParam k) (same_Some z x e) h.0
        each_at (z ∷ xs) (suc i) x e h = each_at xs i x e h.1

        param_there : (p : Program) → Begins k p → (x : Param) → IsParam k x → param_fits p (variable_of x) ≡ true
        param_there p b x h = and_from (is_scalar (x.ty).ty) (type_is_there p (x.ty).ty) h.1 (stands_there k ((f.files).steady).orderly p b (x.ty).ty h.0)

    signatures_are : last.signatures ≡ k.signatures
    signatures_are = m.signatures

    body_files : Files names (done ++ made ∷ []) behind
    body_files = record {
      steady = record {
        orderly = orderly_other last behind behind_grows y.orderly refl refl refl refl (scopes_grow last behind behind_grows y.orderly (without_first last.scopes) (inner_left (IsBound last) last.scopes (y.orderly).scopes));
        named = subst (Each (AreNamed [] behind)) (sym m.scopes) (files_named [] k behind (f.files).idle (λ i x h. m.statics i x h) k.scopes ((f.files).steady).named);
        statics = λ i x h. static_grows last behind behind_grows y.orderly x (y.statics i x h);
        locals = λ i v h. absurd (none_is h);
        result = tt;
      };
      idle = refl;
      definitions = m.definitions ∙ (f.files).definitions;
      scope = (f.files).scope;
      only = m.scopes ∙ (f.files).only;
      named = λ z i e. let r = (f.files).named z i e in (r.0, ap (λ l. slice_get l i) signatures_are ∙ r.1, r.2);
      signed = λ i x e. (f.files).signed i x (ap (λ l. slice_get l i) (sym signatures_are) ∙ e);
      made = λ i g e. made_at i g (got_either done made i g e);
      fitting = λ i g e p h. fitting_at i g (got_either done made i g e) p h;
    }
      where
        made_at : (i : ℕ) (g : FunctionTree) → (slice_get done i ≡ Some g) ⊎ ((i ≡ length done) × (made ≡ g)) → (j : ℕ) × (x : Signature) × (entry_of (f.files).scope g.name ≡ Some (FunctionName j)) × (slice_get last.signatures j ≡ Some x) × Matches g x
        made_at i g (inl e) = let r = (f.files).made i g e in (r.0, r.1, r.2, ap (λ l. slice_get l r.0) signatures_are ∙ r.3, r.4)
        made_at i g (inr e) = subst (λ (z : FunctionTree). (j : ℕ) × (x : Signature) × (entry_of (f.files).scope z.name ≡ Some (FunctionName j)) × (slice_get last.signatures j ≡ Some x) × Matches z x) e.1
            (n, s, f.entry, ap (λ l. slice_get l n) signatures_are ∙ f.there, record { result = ap (λ (q : Qualified). q.ty) (sym f.result_is); params = types_of ps ∙ sym f.params_are; defined = defined })

        fitting_at : (i : ℕ) (g : FunctionTree) → (slice_get done i ≡ Some g) ⊎ ((i ≡ length done) × (made ≡ g)) → (p : Program) → Holds behind p → function_fits p g ≡ true
        fitting_at i g (inl e) p h = (f.files).fitting i g e p (old_holds p h)
        fitting_at i g (inr e) p h = subst (λ z. function_fits p z ≡ true) e.1 (made_fits p h)

  -- What a function's body makes.
  body_turns : (b : BlockTree) → Turns (λ g z. Files names (done ++ g ∷ []) z × (g.name ≡ name)) (function_body b said name result.ty ps scope k)
  body_turns b = turns_steps true variables (λ ss w. (p : Program) (g : FunctionTree) → Lives variables w p g → statements_fit p g true false false ss ≡ true) _ inside (body_statements b inside) (λ ss. λ w. Ok (ended ss w)) (body_steps variables b inside inside_steady)
      (λ ss w m y fitting. turns_given _ _ _ (body_files w ss m y fitting, refl))
    where
      ended : typed.Statements → Known → FunctionTree × Known
      ended ss w = (record { name = name; result = result.ty; params = map variable_of ps; locals = (w.body).locals; body = ss; interrupt = said.interrupt; line = said.line }, record w { scopes = without_first w.scopes; body = no_body })

-- ---- functions of a unit

module _ (names : List (List ℕ)) (done : List FunctionTree) where
  never : {A : Type 0} (P : A → Known → Type 0) (t : Bool) (why : Kind) (line : ℕ) (k : Known) → Turns P (go_on (λ u. broken kind.Declare line) (tried ((t, why) ∷ []) line k))
  never P true why line k = turns_broken _ _
  never P false why line k = turns_broken _ _

  never_refused : (A : Type 0) (t : Bool) (why : Kind) (line : ℕ) (k : Known) → IsRefused (go_on (λ u. broken {A = A} kind.Declare line) (tried ((t, why) ∷ []) line k))
  never_refused A true why line k = tt
  never_refused A false why line k = tt

  turns_with : (name : List ℕ) (r : Result (FunctionTree × Known) Fault) → IsFresh names done name → Turns (λ g w. Files names (done ++ g ∷ []) w × (g.name ≡ name)) r → Turns (λ g w. Files names (done ++ g ∷ []) w × (g.name ≡ name) × IsFresh names done name) r
  unfolding Turns
  turns_with name (Ok x) fresh g = (g.0, g.1, fresh)
  turns_with name (Err fault) fresh g = tt

  declared_turns : (declared : Declared) (b : BlockTree) (said : Specified) (o : Outline) (name : List ℕ) (line : ℕ) (known : Known) → Files names done known → IsDeclared known declared
      → Turns (λ g z. Files names (done ++ g ∷ []) z × (g.name ≡ name) × IsFresh names done name) (function_declared declared b said o name line known)
  declared_turns (ObjectDeclared q) b said o name line known y h = never _ (is_declared known name) kind.Again line known
  declared_turns (FunctionDeclared result ps scope) b said o name line known y h = turns_on _ _ _ (λ u. function_body b said name result.ty ps scope) (function_rule_turns names done known y name result ps o.bad true line h.0 (h.2).params)
      (λ u k r. subst (λ z. Turns (λ g w. Files names (done ++ g ∷ []) w × (g.name ≡ name) × IsFresh names done name) (function_body b said name result.ty ps scope z)) (sym r.is)
      (turns_with name _ (r.fresh refl) (body_turns names done _ name result ps scope r.n r.signature said r.function (r.defined refl)
      (list_grows known _ (signed_grows names done known r.signatures r.scopes) (y.steady).orderly ps scope h.2) (stands_grows known _ (signed_grows names done known r.signatures r.scopes) (y.steady).orderly result.ty h.0) h.1 b)))

  refused : (declared : Declared) (b : BlockTree) (said : Specified) (o : Outline) (name : List ℕ) (line : ℕ) (known : Known) → Doomed o → IsRefused (function_declared declared b said o name line known)
  refused (ObjectDeclared q) b said o name line known d = never_refused FunctionTree (is_declared known name) kind.Again line known
  refused (FunctionDeclared result ps scope) b said o name line known d = refused_on (function_rule name result ps o.bad true line known) _ (function_refused names done known name result ps o.bad true line d)

  -- A function that a unit defines.
  pub function_turns : (s : SpecTrees) (d : DeclaratorTree) (b : BlockTree) (known : Known) → Files names done known → Turns (λ g z. Files names (done ++ g ∷ []) z × (g.name ≡ name_in d) × IsFresh names done (name_in d)) (function s d b known)
  function_turns s d b known y = turns_runs (λ x k. IsBase k x.ty) _ known _ _ (specified_runs s in_file known (y.steady).orderly)
      (λ said k spread ordered base. turns_test _ k said.is_typedef kind.Declare [] said.line (λ u. λ z. go_on (λ o. function_declared o.declared b said o (name_in d) (line_in d)) (outline_of d said true z)) (λ plain.
      turns_fates (λ x z. IsDeclared z x.declared) _ k _ _ (outline_fates d said true k ordered base)
      (λ o z doomed. refused o.declared b said o (name_in d) (line_in d) z doomed)
      (λ o z spread2 ordered2 declared. declared_turns o.declared b said o (name_in d) (line_in d) z (files_spread names done k z (files_spread names done known k y spread ordered) spread2 ordered2) declared)))
