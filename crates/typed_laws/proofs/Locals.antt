-- Locals, with what they begin as.
use Rattle.std.proofs.Common.{◌≡◌, ℕ, ◌+◌, ◌*◌, ◌<◌, ◌≤◌, Bool, true, false, not, ◌||◌, ◌&&◌, if◌then◌else◌, nat_eq, List, [], ◌∷◌, ◌++◌, length, Option, Some, None, is_some, Ok, Err, ◌⊎◌, inl, inr, refl, sym, ap, ◌∙◌, subst, arith, true≢false}
use Rattle.std.specs.Prelude.{slice_get}
use Rattle.std.specs.Option.{option_map}
use Rattle.std.proofs.lemmas.Bool.{and_from, or_left, false≢true}
use Rattle.std.proofs.lemmas.Option.{same_Some}
use Rattle.c_nodes.specs.Programs as tree
use Rattle.c_nodes.specs.Programs.{InitTree}
use Rattle.c_nodes.specs.Trees.{Tree}
use Rattle.c_typed.specs.Fits.{fits, place_fits, rule_holds, place_rule_holds, variable_type, is_named}
use Rattle.c_typed.specs.Rules.{copy_fits}
use Rattle.c_typed.specs.Sameness.{same_type, is_array, is_struct, is_scalar, same_qualified}
use Rattle.c_typed.specs.Sound.{value_fits, first_value_fits, list_fits, has_parts, items_fit, statement_fits, statements_fit}
use Rattle.c_typed.specs.Trees as typed
use Rattle.c_typed.specs.Trees.{Expression, Place, Item, Statement, VariableTree, StaticTree, FunctionTree, Program}
use Rattle.c_typed.specs.Types.{type_of, place_type, type_bytes}
use Rattle.c_typed.specs.declared.expression.Object.TheVariants as object
use Rattle.c_typed.specs.declared.types.Qualified.{Qualified}
use Rattle.c_typed.specs.declared.types.Ty.{Ty}
use Rattle.c_typed.specs.declared.types.Ty.TheVariants.{Void, Int, Pointer, Array, Struct}
use Rattle.type_rules.specs.Faults as kind
use Rattle.type_rules.specs.Faults.{Fault}
use Rattle.type_rules.specs.Initializers.{is_unsized, begins}
use Rattle.type_rules.specs.Known.{ObjectName, Scope, Known, given, go_on}
use Rattle.type_rules.specs.Names.{bound_in, without_first}
use Rattle.type_rules.specs.Objects.{closed, whole_slot, is_expression, begun_as_one, local_statements, local_rule}
use Rattle.type_rules.specs.Rows.{bytes_of, is_complete, changed_at}
use Rattle.type_rules.specs.Slots.{Begun, nothing_begun}
use Rattle.type_rules.specs.Statements.{statements_of}
use Rattle.type_rules.specs.Writes.{structure_read}
use Rattle.typed_laws.specs.Chains.{ItemsIn, IsOf, IsScalarOf, Extends, element_size, small_by, IsNear, gave_by, Begins}
use Rattle.typed_laws.specs.Going.{Goes}
use Rattle.typed_laws.specs.Living.{LocalTo, Lives, IsNamed, AreNamed, IsSized, Steady, Moved, Steps, AreDeclared}
use Rattle.typed_laws.specs.Objects.{IsDeclaredAs, IsClosed}
use Rattle.typed_laws.specs.Spreading.{Grows}
use Rattle.typed_laws.specs.Tables.{at, Adds, Each, Stands, IsBound, AreBound, Orderly, Leads}
use Rattle.typed_laws.proofs.Adding.{goes_then, orderly_other, names_more, bound_twice}
use Rattle.typed_laws.proofs.Chains.{items_higher}
use Rattle.typed_laws.proofs.Closing.{closed_goes}
use Rattle.typed_laws.proofs.Expressions.{value_of_goes}
use Rattle.typed_laws.proofs.Growing.{stands_more}
use Rattle.typed_laws.proofs.Initializers.{begins_go, element_same}
use Rattle.typed_laws.proofs.Items.{items_fit_in, local_is, parts_of}
use Rattle.typed_laws.proofs.Lists.{none_is, is_there, got_left, got_last, got_either, changed_last}
use Rattle.typed_laws.proofs.Living.{sized_grows, static_grows, lives_leads}
use Rattle.typed_laws.proofs.Meeting.{whole_in}
use Rattle.typed_laws.proofs.Operators.{not_false}
use Rattle.typed_laws.proofs.Scopes.{bound_holds, bound_outside}
use Rattle.typed_laws.proofs.Spreading.{stands_grows, scopes_grow}
use Rattle.typed_laws.proofs.Statics.{whole_or}
use Rattle.typed_laws.proofs.Steps.{goes_given, goes_broken, goes_on, goes_test, goes_wanted}
use Rattle.typed_laws.proofs.Writes.{read_from}
use Rattle.typed_laws.proofs.Same.{same_qualified_refl, same_type_refl, same_nat_refl, same_type_is}

-- ---- the tables with one local more, in scope

module _ (params : List VariableTree) (known : Known) (steady : Steady params known) (us : List Qualified) (adds : Adds known.targets us) (v : VariableTree) (name : List ℕ) (fixed : Bool) (scopes : List Scope)
    (scopes_are : scopes ≡ bound_in known.scopes name (ObjectName (object.Local (length (known.body).locals)) v.ty fixed)) where
  abbrev pub with_local : Known
  with_local = record known { targets = us; body = record known.body { locals = (known.body).locals ++ v ∷ [] }; scopes = scopes }

  pub local_grows : Grows known with_local
  local_grows = record { rows = adds; shapes = λ n x h. (x, h, λ e. refl); statics = λ n x h. (x, h, refl) }

  pub local_named : Each (AreNamed params with_local) scopes
  local_named = subst (Each (AreNamed params with_local)) (sym scopes_are)
      (bound_holds (IsNamed params with_local) known.scopes name (ObjectName (object.Local (length (known.body).locals)) v.ty fixed) (v, got_last (known.body).locals v, refl)
      (names_more params known with_local (λ n x h. h) (λ n x h. got_left (known.body).locals (v ∷ []) n x h) known.scopes steady.named))

  local_lives : (p : Program) (f : FunctionTree) → Lives params with_local p f → Lives params known p f
  local_lives p f l = record {
    begins = record { rows = λ row q h. (l.begins).rows row q (adds row q h); structures = (l.begins).structures; closed = (l.begins).closed; functions = (l.begins).functions };
    statics = l.statics;
    params_are = l.params_are;
    locals = λ n x h. l.locals n x (got_left (known.body).locals (v ∷ []) n x h);
    result = l.result;
  }

  pub local_ended : (P : List Statement → Known → Type 0) (ss : List Statement) → Orderly with_local → IsSized with_local (v.ty).ty → P ss with_local → Moved true params known P ss with_local
  local_ended P ss o own holds = record {
    moves = record {
      grows = local_grows;
      lives = local_lives;
      statics = λ n x h. h;
      scopes = ap without_first scopes_are ∙ bound_outside known.scopes name (ObjectName (object.Local (length (known.body).locals)) v.ty fixed);
      signatures = refl;
      definitions = refl;
      result = refl;
    };
    steady = record {
      orderly = o;
      named = local_named;
      statics = λ n x h. static_grows known with_local local_grows steady.orderly x (steady.statics n x h);
      locals = locals;
      result = stands_grows known with_local local_grows steady.orderly (known.body).result steady.result;
    };
    holds = holds;
  }
    where
      locals : (n : ℕ) (x : VariableTree) → slice_get ((known.body).locals ++ v ∷ []) n ≡ Some x → IsSized with_local (x.ty).ty
      locals n x h = by_cases (got_either (known.body).locals v n x h)
        where
          by_cases : (slice_get (known.body).locals n ≡ Some x) ⊎ ((n ≡ length (known.body).locals) × (v ≡ x)) → IsSized with_local (x.ty).ty
          by_cases (inl g) = sized_grows known with_local local_grows steady.orderly (x.ty).ty (steady.locals n x g)
          by_cases (inr g) = subst (λ (z : VariableTree). IsSized with_local (z.ty).ty) g.1 own

  pub local_orderly : Orderly (record known { targets = us }) → Stands with_local (v.ty).ty → (is_complete with_local (v.ty).ty || is_array (v.ty).ty) ≡ true → Orderly with_local
  local_orderly o stands whole = orderly_other (record known { targets = us }) with_local grows o refl refl refl refl
      (subst (Each (AreBound with_local)) (sym scopes_are)
      (bound_holds (IsBound with_local) known.scopes name (ObjectName (object.Local (length (known.body).locals)) v.ty fixed)
      (record { stands = stands; whole = whole; register = λ e. absurd (true≢false e); static = λ n e. absurd (none_is e) })
      (scopes_grow (record known { targets = us }) with_local grows o known.scopes o.scopes)))
    where
      grows : Grows (record known { targets = us }) with_local
      grows = record { rows = λ row q h. h; shapes = λ n x h. (x, h, λ e. refl); statics = λ n x h. (x, h, refl) }

-- ---- statements that begin a local

declared_by : (p : Program) (f : FunctionTree) (leaves repeats : Bool) (local line : ℕ) (w : VariableTree) → slice_get f.locals local ≡ Some w → statements_fit p f true leaves repeats (statements_of (typed.Declare local line ∷ [])) ≡ true
unfolding statements_fit statement_fits
declared_by p f leaves repeats local line w h = and_from (is_some (slice_get f.locals local)) true (is_there (slice_get f.locals local) w h) refl

scalar_by : (p : Program) (f : FunctionTree) (leaves repeats : Bool) (local line : ℕ) (value : Expression) (w : VariableTree) → slice_get f.locals local ≡ Some w → value_fits p f (w.ty).ty value ≡ true → statements_fit p f true leaves repeats (statements_of (typed.InitScalar local value line ∷ [])) ≡ true
unfolding statements_fit statement_fits
scalar_by p f leaves repeats local line value w h fitting = and_from (first_value_fits p f (slice_get f.locals local) value) true (ap (λ o. first_value_fits p f o value) h ∙ fitting) refl

list_by : (p : Program) (f : FunctionTree) (leaves repeats : Bool) (local line : ℕ) (items : List Item) (w : VariableTree) → slice_get f.locals local ≡ Some w → has_parts (w.ty).ty ≡ true → items_fit p f (type_bytes p.sizes (w.ty).ty) 0 items ≡ true
    → statements_fit p f true leaves repeats (statements_of (typed.InitList local items line ∷ [])) ≡ true
unfolding statements_fit statement_fits
list_by p f leaves repeats local line items w h parts fitting = and_from (list_fits p f (slice_get f.locals local) items) true
    (ap (λ o. list_fits p f o items) h ∙ and_from (has_parts (w.ty).ty) (items_fit p f (type_bytes p.sizes (w.ty).ty) 0 items) parts fitting) refl

copied_by : (p : Program) (f : FunctionTree) (leaves repeats : Bool) (local line : ℕ) (q : Qualified) (from : Place) (size : ℕ) (w : VariableTree) → slice_get f.locals local ≡ Some w
    → place_fits p f (typed.Name (object.Local local) q line) ≡ true → copy_fits p true q (place_type from) size ≡ true → place_fits p f from ≡ true
    → statements_fit p f true leaves repeats (statements_of (typed.Declare local line ∷ typed.Expr (typed.StructAssign (typed.Name (object.Local local) q line) from size line) line ∷ [])) ≡ true
unfolding statements_fit statement_fits fits rule_holds
copied_by p f leaves repeats local line q from size w h place copy source =
    and_from (is_some (slice_get f.locals local)) ((copy_fits p true q (place_type from) size && (place_fits p f (typed.Name (object.Local local) q line) && place_fits p f from)) && true) (is_there (slice_get f.locals local) w h)
    (and_from (copy_fits p true q (place_type from) size && (place_fits p f (typed.Name (object.Local local) q line) && place_fits p f from)) true
    (and_from (copy_fits p true q (place_type from) size) (place_fits p f (typed.Name (object.Local local) q line) && place_fits p f from) copy (and_from (place_fits p f (typed.Name (object.Local local) q line)) (place_fits p f from) place source)) refl)

-- ---- what a local begins with

module _ (params : List VariableTree) (known : Known) (steady : Steady params known) (us vs : List Qualified) (adds : Adds known.targets us) (adds2 : Adds us vs) (name : List ℕ) (q w : Qualified) (line : ℕ) (fixed : Bool) where
  abbrev first_local : VariableTree
  first_local = record { name = name; ty = q; line = line }

  abbrev last_local : VariableTree
  last_local = record { name = name; ty = w; line = line }

  abbrev first_scopes : List Scope
  first_scopes = bound_in known.scopes name (ObjectName (object.Local (length (known.body).locals)) q fixed)

  abbrev last_scopes : List Scope
  last_scopes = bound_in first_scopes name (ObjectName (object.Local (length (known.body).locals)) w fixed)

  abbrev before : Known
  before = with_local params known steady us adds first_local name fixed first_scopes refl

  pub last_scopes_are : last_scopes ≡ bound_in known.scopes name (ObjectName (object.Local (length (known.body).locals)) w fixed)
  last_scopes_are = bound_twice known.scopes name (ObjectName (object.Local (length (known.body).locals)) q fixed) (ObjectName (object.Local (length (known.body).locals)) w fixed)

  abbrev after : Known
  after = with_local params known steady vs (λ row r e. adds2 row r (adds row r e)) last_local name fixed last_scopes last_scopes_are

  -- what is known of the local's type at its end
  module _ (sized : IsSized after w.ty) (ordered : Orderly after) (to : LocalTo w q) where
    own_local : (p : Program) (f : FunctionTree) → Lives params after p f → (x : VariableTree) × (slice_get f.locals (length (known.body).locals) ≡ Some x) × (x.ty ≡ w)
    own_local p f l = let x = l.locals (length (known.body).locals) last_local (got_last (known.body).locals last_local) in (x.0, x.1, local_is after (x.0).ty w sized.complete x.2)

    -- in its initializer the local may be there without its length
    before_lives : (p : Program) (f : FunctionTree) → Lives params after p f → Lives params before p f
    before_lives p f l = record {
      begins = record { rows = λ row r e. (l.begins).rows row r (adds2 row r e); structures = (l.begins).structures; closed = (l.begins).closed; functions = (l.begins).functions };
      statics = l.statics;
      params_are = l.params_are;
      locals = locals;
      result = l.result;
    }
      where
        locals : (n : ℕ) (x : VariableTree) → slice_get ((known.body).locals ++ first_local ∷ []) n ≡ Some x → (y : VariableTree) × (slice_get f.locals n ≡ Some y) × LocalTo y.ty x.ty
        locals n x h = by_cases (got_either (known.body).locals first_local n x h)
          where
            by_cases : (slice_get (known.body).locals n ≡ Some x) ⊎ ((n ≡ length (known.body).locals) × (first_local ≡ x)) → (y : VariableTree) × (slice_get f.locals n ≡ Some y) × LocalTo y.ty x.ty
            by_cases (inl g) = l.locals n x (got_left (known.body).locals (last_local ∷ []) n x g)
            by_cases (inr g) = let own = own_local p f l in
                (own.0, ap (slice_get f.locals) g.0 ∙ own.1, subst (λ (z : VariableTree). LocalTo (own.0).ty z.ty) g.1 (subst (λ z. LocalTo z q) (sym own.2) to))

    before_leads : (p : Program) (f : FunctionTree) → Lives params after p f → Leads before p f
    before_leads p f l = lives_leads params before (local_named params known steady us adds first_local name fixed first_scopes refl) p f (before_lives p f l)

    given_steps : (ss : List Statement) → AreDeclared params after ss → Steps true params known (λ ss k. AreDeclared params k ss) (Ok (ss, after))
    unfolding Steps
    given_steps ss h = local_ended params known steady vs (λ row r e. adds2 row r (adds row r e)) last_local name fixed last_scopes last_scopes_are (λ ss k. AreDeclared params k ss) ss ordered sized h

    broken_steps : (fault : Fault) → Steps true params known (λ (ss : List Statement) k. AreDeclared params k ss) (Err fault)
    unfolding Steps
    broken_steps fault = tt

    list_steps : (items : List Item) → ItemsIn before 0 (bytes_of after w.ty) items → is_scalar w.ty ≡ false → Steps true params known (λ ss k. AreDeclared params k ss) (Ok (typed.InitList (length (known.body).locals) items line ∷ [], after))
    list_steps items within other = given_steps (typed.InitList (length (known.body).locals) items line ∷ []) (λ p f l leaves repeats.
        let own = own_local p f l in
        let bytes : type_bytes p.sizes ((own.0).ty).ty ≡ bytes_of after w.ty = ap (λ (z : Qualified). type_bytes p.sizes z.ty) own.2 ∙ (whole_in after p l.begins ordered w.ty sized.stands sized.complete).1 in
        list_by p f leaves repeats (length (known.body).locals) line items own.0 own.1 (ap (λ (z : Qualified). has_parts z.ty) own.2 ∙ parts_of after w.ty sized.complete other)
        (ap (λ n. items_fit p f n 0 items) bytes ∙ items_fit_in before p f (before_leads p f l) (bytes_of after w.ty) 0 (bytes_of after w.ty) items (same (bytes_of after w.ty)) within))
      where
        same : (n : ℕ) → n ≤ n
        same n = omega arith

    one_steps : (items : List Item) → ItemsIn before 0 (bytes_of after w.ty) items → Each (IsScalarOf w.ty) items → Steps true params known (λ ss k. AreDeclared params k ss) (begun_as_one (length (known.body).locals) w items line after)
    one_steps [] within types = broken_steps _
    one_steps (typed.Scalar offset value ∷ []) within types = given_steps (typed.InitScalar (length (known.body).locals) value line ∷ []) (λ p f l leaves repeats.
        let own = own_local p f l in
        scalar_by p f leaves repeats (length (known.body).locals) line value own.0 own.1 (subst (λ t. value_fits p f t value ≡ true) (types.0 ∙ ap (λ (z : Qualified). z.ty) (sym own.2)) ((within.1).fitting p f (before_leads p f l))))
    one_steps (typed.Scalar offset value ∷ i ∷ is) within types = broken_steps _
    one_steps (typed.Struct offset from size ∷ is) within types = absurd types.0
    one_steps (typed.Text offset text size ∷ is) within types = absurd types.0

    pub statements_steps : (init : InitTree) (items : List Item) → (is_expression init ≡ true → is_scalar w.ty ≡ true) → ItemsIn before 0 (bytes_of after w.ty) items → (is_scalar w.ty ≡ true → Each (IsScalarOf w.ty) items)
        → Steps true params known (λ ss k. AreDeclared params k ss) (local_statements init (length (known.body).locals) w items line after)
    statements_steps init items one within types = by_test (is_expression init) (is_scalar w.ty) refl refl
      where
        by_test : (e s : Bool) → is_expression init ≡ e → is_scalar w.ty ≡ s → Steps true params known (λ ss k. AreDeclared params k ss) ((if e || s then begun_as_one (length (known.body).locals) w items line else given (typed.InitList (length (known.body).locals) items line ∷ [])) after)
        by_test true s ee es = one_steps items within (types (one ee))
        by_test false true ee es = one_steps items within (types es)
        by_test false false ee es = list_steps items within es

    -- a structure that is copied
    pub copied_steps : (number : ℕ) (from : Place) (size : ℕ) → w.ty ≡ Struct number → size ≡ bytes_of after w.ty → ((p : Program) (f : FunctionTree) → Leads before p f → ((place_type from).ty ≡ Struct number) × (place_fits p f from ≡ true))
        → Steps true params known (λ ss k. AreDeclared params k ss) (begun_as_one (length (known.body).locals) w (typed.Struct 0 from size ∷ []) line after)
    unfolding place_fits place_rule_holds
    copied_steps number from size is whole source = given_steps (typed.Declare (length (known.body).locals) line ∷ typed.Expr (typed.StructAssign (typed.Name (object.Local (length (known.body).locals)) w line) from size line) line ∷ []) (λ p f l leaves repeats.
        let own = own_local p f l in
        let s = source p f (before_leads p f l) in
        copied_by p f leaves repeats (length (known.body).locals) line w from size own.0 own.1
        (ap (λ o. is_named true (option_map variable_type o) w) own.1 ∙ or_left (same_qualified (own.0).ty w) _ (ap (λ z. same_qualified z w) own.2 ∙ same_qualified_refl w))
        (and_from (is_struct w.ty) (same_type w.ty (place_type from).ty && nat_eq size (type_bytes p.sizes w.ty)) (ap is_struct is)
        (and_from (same_type w.ty (place_type from).ty) (nat_eq size (type_bytes p.sizes w.ty)) (ap (same_type w.ty) (s.0 ∙ sym is) ∙ same_type_refl w.ty)
        (ap (nat_eq size) ((whole_in after p l.begins ordered w.ty sized.stands sized.complete).1 ∙ sym whole) ∙ same_nat_refl size)))
        s.1)

-- ---- a structure and an array that begin as a value

module _ (known : Known) (ts : List Qualified) (o : Orderly (at known ts)) where
  -- A structure begins as one item.
  struct_begun : (e : Tree) (number : ℕ) (c v : Bool) (line : ℕ) → Stands (at known ts) (Struct number)
      → Goes known ts (λ us d. (from : Place) × (d.items ≡ typed.Struct 0 from (bytes_of (at known ts) (Struct number)) ∷ []) × ((p : Program) (f : FunctionTree) → Leads (at known us) p f → ((place_type from).ty ≡ Struct number) × (place_fits p f from ≡ true)))
      (begins (tree.Value e) (Some (whole_slot (record { ty = Struct number; constant = c; volatile = v }))) false (nothing_begun false line) (at known ts))
  unfolding begins
  struct_begun e number c v line stands = goes_on known _ _ ts _ _ (value_of_goes known e ts o)
      (λ x us adds ordered hx. goes_test known _ us (not (same_type (type_of x.value) (Struct number))) kind.Initializer x.line _
      (λ same. goes_wanted known _ us (structure_read x.value) kind.Initializer x.line _
      (λ from read. goes_given known _ _ us ordered (
        from,
        refl,
        λ p f l.
            let s = read_from p f x.value from read (hx.fitting p f l) in
            (s.0 ∙ same_type_is (type_of x.value) (Struct number) (not_false (same_type (type_of x.value) (Struct number)) same), s.1),
      ))))

  -- An array doesn't.
  array_begun : (e : Tree) (row n size : ℕ) (c v : Bool) (line : ℕ) → Goes known ts (λ us d. ⊥) (begins (tree.Value e) (Some (whole_slot (record { ty = Array row n size; constant = c; volatile = v }))) false (nothing_begun false line) (at known ts))
  unfolding begins
  array_begun e row n size c v line = goes_on known _ _ ts _ _ (value_of_goes known e ts o) (λ x us adds ordered hx. goes_broken known _ us _)

-- ---- what an initializer gives a local lies within it

items_within : (known : Known) (ts us vs : List Qualified) (adds : Adds ts us) (q w : Qualified) (begun : Bool) (line : ℕ) (b : Begun) → IsDeclaredAs (at known ts) begun q
    → Begins (at known ts) (at known us) (Some (whole_slot q)) (nothing_begun false line) b → IsClosed (at known us) (at known vs) q b.count w
    → ItemsIn (at known us) 0 (bytes_of (at known vs) w.ty) b.items × (is_scalar w.ty ≡ true → Each (IsScalarOf w.ty) b.items)
items_within known ts us vs adds q w begun line b h g hw = by_size (is_unsized q.ty) refl g.2
  where
    scalars : (ty : Ty) → is_scalar ty ≡ true → (items : List Item) → Each (IsOf ty) items → Each (IsScalarOf ty) items
    scalars ty s [] all = tt
    scalars ty s (i ∷ is) all = (all.0 s, scalars ty s is all.1)

    from_extends : (high : ℕ) → 0 + high ≤ bytes_of (at known vs) w.ty → Extends (at known us) q.ty 0 (0 + high) (nothing_begun false line) b → (is_scalar w.ty ≡ true → w.ty ≡ q.ty)
        → ItemsIn (at known us) 0 (bytes_of (at known vs) w.ty) b.items × (is_scalar w.ty ≡ true → Each (IsScalarOf w.ty) b.items)
    from_extends high le e same = (
      subst (ItemsIn (at known us) 0 (bytes_of (at known vs) w.ty)) (sym e.items_are) (items_higher (at known us) 0 (0 + high) (bytes_of (at known vs) w.ty) e.items le e.items_in),
      λ s. subst (λ t. Each (IsScalarOf t) b.items) (sym (same s)) (subst (Each (IsScalarOf q.ty)) (sym e.items_are) (scalars q.ty (subst (λ t. is_scalar t ≡ true) (same s) s) e.items e.types)),
    )

    same_bytes : (a c : ℕ) → c ≡ a → 0 + a ≤ c
    same_bytes a c e = omega (arith, e)

    near_bytes : (a c : ℕ) → c ≡ a → c ≤ 65535 → IsNear (0 + a)
    near_bytes a c e small = omega (arith, e, small)

    by_size : (z : Bool) → is_unsized q.ty ≡ z → (small_by z (at known ts) (whole_slot q) → gave_by z (at known ts) (at known us) (whole_slot q) (nothing_begun false line) b)
        → ItemsIn (at known us) 0 (bytes_of (at known vs) w.ty) b.items × (is_scalar w.ty ≡ true → Each (IsScalarOf w.ty) b.items)
    by_size true e f =
        let room = hw.room e in
        let same : element_size (at known us) q.ty ≡ element_size (at known ts) q.ty = element_same known ts us adds q.ty h.stands in
        let d = f (subst (λ n. n ≤ 65535) same room.2) in
        let count : room.0 ≡ d.0 = same_Some room.0 d.0 (sym room.1 ∙ d.1) in
        let bytes : bytes_of (at known vs) w.ty ≡ element_size (at known ts) q.ty * d.0 = room.3 ∙ (ap (λ n. n * room.0) same ∙ ap (λ n. element_size (at known ts) q.ty * n) count) in
        from_extends (element_size (at known ts) q.ty * d.0) (same_bytes (element_size (at known ts) q.ty * d.0) (bytes_of (at known vs) w.ty) bytes) (d.3 (near_bytes (element_size (at known ts) q.ty * d.0) (bytes_of (at known vs) w.ty) bytes (hw.sized).small))
        (λ s. absurd (true≢false (sym s ∙ hw.many e)))
    by_size false e f =
        let d = f h.small in
        from_extends (bytes_of (at known ts) q.ty) (same_bytes (bytes_of (at known ts) q.ty) (bytes_of (at known vs) w.ty) (ap (λ (z : Qualified). bytes_of (at known vs) z.ty) (hw.same e))) (d.1 (near_bytes (bytes_of (at known ts) q.ty) (bytes_of (at known ts) q.ty) refl h.small)) (λ s. ap (λ (z : Qualified). z.ty) (hw.same e))

-- ---- the rule

module _ (params : List VariableTree) (known : Known) (steady : Steady params known) (name : List ℕ) (q : Qualified) (line : ℕ) (fixed : Bool) where
  abbrev begin : VariableTree
  begin = record { name = name; ty = q; line = line }

  abbrev begun_known : Known
  begun_known = with_local params known steady known.targets (λ row r e. e) begin name fixed (bound_in known.scopes name (ObjectName (object.Local (length (known.body).locals)) q fixed)) refl

  -- the last tables and what is declared in them
  abbrev ending : Qualified → Known → Known
  ending w k = record k { scopes = bound_in k.scopes name (ObjectName (object.Local (length (known.body).locals)) w fixed); body = record k.body { locals = changed_at (k.body).locals (length (known.body).locals) (λ v. record v { ty = w }) } }

  begun_grows : Grows known begun_known
  begun_grows = local_grows params known steady known.targets (λ row r e. e) begin name fixed (bound_in known.scopes name (ObjectName (object.Local (length (known.body).locals)) q fixed)) refl

  begun_orderly : (begun : Bool) → IsDeclaredAs known begun q → Orderly begun_known
  begun_orderly begun h = local_orderly params known steady known.targets (λ row r e. e) begin name fixed (bound_in known.scopes name (ObjectName (object.Local (length (known.body).locals)) q fixed)) refl steady.orderly
      (stands_grows known begun_known begun_grows steady.orderly q.ty h.stands) (whole_or begun (is_array q.ty) (is_complete known q.ty) h.whole)

  begun_declared : (begun : Bool) → IsDeclaredAs known begun q → IsDeclaredAs begun_known begun q
  begun_declared begun h = record { stands = stands_grows known begun_known begun_grows steady.orderly q.ty h.stands; whole = h.whole; small = h.small }

  -- what is declared without a value
  none_runs : IsDeclaredAs known false q → Steps true params known (λ ss k. AreDeclared params k ss) (local_rule None name q fixed line known)
  unfolding Steps
  none_runs h = local_ended params known steady known.targets (λ row r e. e) begin name fixed (bound_in known.scopes name (ObjectName (object.Local (length (known.body).locals)) q fixed)) refl (λ ss k. AreDeclared params k ss) _ (begun_orderly false h)
      (sized_grows known begun_known begun_grows steady.orderly q.ty (record { stands = h.stands; complete = h.whole; small = h.small }))
      (λ p f l leaves repeats. let x = l.locals (length (known.body).locals) begin (got_last (known.body).locals begin) in declared_by p f leaves repeats (length (known.body).locals) line x.0 x.1)

  -- the end of a local that was begun
  ended_orderly : (us vs : List Qualified) (adds : Adds known.targets us) (adds2 : Adds us vs) (count : Option ℕ) (w : Qualified) → Orderly (at begun_known vs) → IsClosed (at begun_known us) (at begun_known vs) q count w
      → Orderly (with_local params known steady vs (λ row r e. adds2 row r (adds row r e)) (record { name = name; ty = w; line = line }) name fixed (bound_in (bound_in known.scopes name (ObjectName (object.Local (length (known.body).locals)) q fixed)) name (ObjectName (object.Local (length (known.body).locals)) w fixed))
      (bound_twice known.scopes name (ObjectName (object.Local (length (known.body).locals)) q fixed) (ObjectName (object.Local (length (known.body).locals)) w fixed)))
  ended_orderly us vs adds adds2 count w o hw = orderly_other (at begun_known vs) _ grows o refl refl refl refl
      (bound_holds (IsBound _) (bound_in known.scopes name (ObjectName (object.Local (length (known.body).locals)) q fixed)) name (ObjectName (object.Local (length (known.body).locals)) w fixed)
      (record { stands = stands_grows (at begun_known vs) _ grows o w.ty (hw.sized).stands; whole = or_left (is_complete known w.ty) (is_array w.ty) (hw.sized).complete; register = λ e. absurd (true≢false e); static = λ n e. absurd (none_is e) })
      (scopes_grow (at begun_known vs) _ grows o (bound_in known.scopes name (ObjectName (object.Local (length (known.body).locals)) q fixed)) o.scopes))
    where
      grows : Grows (at begun_known vs) (with_local params known steady vs (λ row r e. adds2 row r (adds row r e)) (record { name = name; ty = w; line = line }) name fixed (bound_in (bound_in known.scopes name (ObjectName (object.Local (length (known.body).locals)) q fixed)) name (ObjectName (object.Local (length (known.body).locals)) w fixed))
          (bound_twice known.scopes name (ObjectName (object.Local (length (known.body).locals)) q fixed) (ObjectName (object.Local (length (known.body).locals)) w fixed)))
      grows = record { rows = λ row r e. e; shapes = λ n x e. (x, e, λ c. refl); statics = λ n x e. (x, e, refl) }

  -- where the local was completed
  completed : (init : InitTree) (items : List Item) (us vs : List Qualified) (adds : Adds known.targets us) (adds2 : Adds us vs) (w : Qualified)
      → Steps true params known (λ ss k. AreDeclared params k ss) (local_statements init (length (known.body).locals) w items line (with_local params known steady vs (λ row r e. adds2 row r (adds row r e)) (record { name = name; ty = w; line = line }) name fixed
      (bound_in (bound_in known.scopes name (ObjectName (object.Local (length (known.body).locals)) q fixed)) name (ObjectName (object.Local (length (known.body).locals)) w fixed))
      (bound_twice known.scopes name (ObjectName (object.Local (length (known.body).locals)) q fixed) (ObjectName (object.Local (length (known.body).locals)) w fixed))))
      → Steps true params known (λ ss k. AreDeclared params k ss) (local_statements init (length (known.body).locals) w items line (ending w (at begun_known vs)))
  completed init items us vs adds adds2 w h = subst (λ l. Steps true params known (λ ss k. AreDeclared params k ss) (local_statements init (length (known.body).locals) w items line
      (record known { targets = vs; body = record known.body { locals = l }; scopes = bound_in (bound_in known.scopes name (ObjectName (object.Local (length (known.body).locals)) q fixed)) name (ObjectName (object.Local (length (known.body).locals)) w fixed) })))
      (sym (changed_last (known.body).locals (record { name = name; ty = q; line = line }) (λ v. record v { ty = w }))) h

  scalar_sized : (ty : Ty) → is_scalar ty ≡ true → is_unsized ty ≡ false
  scalar_sized Void s = refl
  scalar_sized (Int i) s = refl
  scalar_sized (Pointer row) s = refl
  scalar_sized (Array row n x) s = absurd (false≢true s)
  scalar_sized (Struct n) s = refl

  some_count : (b : Begun) (d : is_unsized q.ty ≡ true → (n : ℕ) × (b.count ≡ Some n) × (0 < n)) → is_unsized q.ty ≡ true → (n : ℕ) → b.count ≡ Some n → 0 < n
  some_count b d e n is = let c = d e in subst (λ k. 0 < k) (same_Some c.0 n (sym c.1 ∙ is)) c.2

  ended_sized : (us vs : List Qualified) (adds : Adds known.targets us) (adds2 : Adds us vs) (w : Qualified) → Orderly (at begun_known vs) → IsSized (at begun_known vs) w.ty
      → IsSized (with_local params known steady vs (λ row r e. adds2 row r (adds row r e)) (record { name = name; ty = w; line = line }) name fixed (bound_in (bound_in known.scopes name (ObjectName (object.Local (length (known.body).locals)) q fixed)) name (ObjectName (object.Local (length (known.body).locals)) w fixed))
      (bound_twice known.scopes name (ObjectName (object.Local (length (known.body).locals)) q fixed) (ObjectName (object.Local (length (known.body).locals)) w fixed))) w.ty
  ended_sized us vs adds adds2 w o h = sized_grows (at begun_known vs) _ (record { rows = λ row r e. e; shapes = λ n x e. (x, e, λ c. refl); statics = λ n x e. (x, e, refl) }) o w.ty h

  -- what begins with a list, a string, or the value of a scalar
  begun_runs : (init : InitTree) → (is_expression init ≡ true → is_scalar q.ty ≡ true) → IsDeclaredAs known true q → Steps true params known (λ ss k. AreDeclared params k ss) (local_rule (Some init) name q fixed line known)
  begun_runs init one h = goes_then true params _ _ known begun_known known.targets _ (λ b. λ k. go_on (λ w. λ k2. local_statements init (length (known.body).locals) w b.items line (ending w k2)) (closed q b.count line k))
      (begins_go begun_known init (Some (whole_slot q)) false (nothing_begun false line) known.targets (begun_orderly true h) (record { stands = (begun_declared true h).stands; whole = whole_or true (is_array q.ty) (is_complete known q.ty) h.whole }))
      (λ b us adds o2 hb. goes_then true params _ _ known begun_known us _ (λ w. λ k2. local_statements init (length (known.body).locals) w b.items line (ending w k2))
      (closed_goes begun_known us o2 q true b.count line (record { stands = stands_more begun_known known.targets us adds q.ty (begun_declared true h).stands; whole = h.whole; small = h.small }) (some_count b hb.1))
      (λ w vs adds2 o3 hw.
      let within = items_within begun_known known.targets us vs adds q w true line b (begun_declared true h) hb hw in
      completed init b.items us vs adds adds2 w
      (statements_steps params known steady us vs adds adds2 name q w line fixed (ended_sized us vs adds adds2 w o3 hw.sized) (ended_orderly us vs adds adds2 b.count w o3 hw) hw.to init b.items
      (λ e. let s = one e in ap (λ (z : Qualified). is_scalar z.ty) (hw.same (scalar_sized q.ty s)) ∙ s) within.0 within.1)))

  refused_runs : (init : InitTree) → Goes begun_known known.targets (λ us d. ⊥) (begins init (Some (whole_slot q)) false (nothing_begun false line) begun_known) → Steps true params known (λ ss k. AreDeclared params k ss) (local_rule (Some init) name q fixed line known)
  refused_runs init g = goes_then true params _ _ known begun_known known.targets _ (λ b. λ k. go_on (λ w. λ k2. local_statements init (length (known.body).locals) w b.items line (ending w k2)) (closed q b.count line k)) g (λ b us adds o2 none. absurd none)

  -- a structure that begins as another one
  copied_runs : (e : Tree) (number : ℕ) → q.ty ≡ Struct number → IsDeclaredAs known true q
      → Goes begun_known known.targets (λ us d. (from : Place) × (d.items ≡ typed.Struct 0 from (bytes_of begun_known (Struct number)) ∷ []) × ((p : Program) (f : FunctionTree) → Leads (at begun_known us) p f → ((place_type from).ty ≡ Struct number) × (place_fits p f from ≡ true)))
      (begins (tree.Value e) (Some (whole_slot q)) false (nothing_begun false line) begun_known)
      → Steps true params known (λ ss k. AreDeclared params k ss) (local_rule (Some (tree.Value e)) name q fixed line known)
  copied_runs e number is h g = goes_then true params _ _ known begun_known known.targets _ (λ b. λ k. go_on (λ w. λ k2. local_statements (tree.Value e) (length (known.body).locals) w b.items line (ending w k2)) (closed q b.count line k)) g
      (λ b us adds o2 hb. goes_then true params _ _ known begun_known us _ (λ w. λ k2. local_statements (tree.Value e) (length (known.body).locals) w b.items line (ending w k2))
      (closed_goes begun_known us o2 q true b.count line (record { stands = stands_more begun_known known.targets us adds q.ty (begun_declared true h).stands; whole = h.whole; small = h.small })
      (λ u n c. absurd (false≢true (ap is_unsized (sym is) ∙ u))))
      (λ w vs adds2 o3 hw.
      let same : w ≡ q = hw.same (ap is_unsized is) in
      let whole : w.ty ≡ Struct number = ap (λ (z : Qualified). z.ty) same ∙ is in
      subst (λ items. Steps true params known (λ ss k. AreDeclared params k ss) (local_statements (tree.Value e) (length (known.body).locals) w items line (ending w (at begun_known vs)))) (sym hb.1)
      (completed (tree.Value e) (typed.Struct 0 hb.0 (bytes_of begun_known (Struct number)) ∷ []) us vs adds adds2 w
      (copied_steps params known steady us vs adds adds2 name q w line fixed (ended_sized us vs adds adds2 w o3 hw.sized) (ended_orderly us vs adds adds2 b.count w o3 hw) hw.to number hb.0 (bytes_of begun_known (Struct number)) whole
      (ap (bytes_of begun_known) (sym whole)) hb.2))))

module _ (params : List VariableTree) (known : Known) (steady : Steady params known) (name : List ℕ) (line : ℕ) (fixed : Bool) where
  value_runs : (e : Tree) (ty : Ty) (c v : Bool) → IsDeclaredAs known true (record { ty = ty; constant = c; volatile = v }) → Steps true params known (λ ss k. AreDeclared params k ss) (local_rule (Some (tree.Value e)) name (record { ty = ty; constant = c; volatile = v }) fixed line known)
  value_runs e Void c v h = absurd (false≢true h.whole)
  value_runs e (Int i) c v h = begun_runs params known steady name (record { ty = Int i; constant = c; volatile = v }) line fixed (tree.Value e) (λ x. refl) h
  value_runs e (Pointer row) c v h = begun_runs params known steady name (record { ty = Pointer row; constant = c; volatile = v }) line fixed (tree.Value e) (λ x. refl) h
  value_runs e (Array row n size) c v h = refused_runs params known steady name (record { ty = Array row n size; constant = c; volatile = v }) line fixed (tree.Value e)
      (array_begun (begun_known params known steady name (record { ty = Array row n size; constant = c; volatile = v }) line fixed) known.targets (begun_orderly params known steady name (record { ty = Array row n size; constant = c; volatile = v }) line fixed true h) e row n size c v line)
  value_runs e (Struct number) c v h = copied_runs params known steady name (record { ty = Struct number; constant = c; volatile = v }) line fixed e number refl h
      (struct_begun (begun_known params known steady name (record { ty = Struct number; constant = c; volatile = v }) line fixed) known.targets (begun_orderly params known steady name (record { ty = Struct number; constant = c; volatile = v }) line fixed true h) e number c v line
      (begun_declared params known steady name (record { ty = Struct number; constant = c; volatile = v }) line fixed true h).stands)

  -- What a declarator of a local does.
  pub local_runs : (init : Option InitTree) (q : Qualified) → IsDeclaredAs known (is_some init) q → Steps true params known (λ ss k. AreDeclared params k ss) (local_rule init name q fixed line known)
  local_runs None q h = none_runs params known steady name q line fixed h
  local_runs (Some (tree.Value e)) q h = value_runs e q.ty q.constant q.volatile h
  local_runs (Some (tree.Quoted s)) q h = begun_runs params known steady name q line fixed (tree.Quoted s) (λ x. absurd (false≢true x)) h
  local_runs (Some (tree.Listed opening i is comma closing)) q h = begun_runs params known steady name q line fixed (tree.Listed opening i is comma closing) (λ x. absurd (false≢true x)) h
