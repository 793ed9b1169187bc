-- Values of places, and `* & [] . ->` and `sizeof`: what the rules give fits.
use Rattle.std.proofs.Common.{◌≡◌, ℕ, zero, suc, ◌+◌, ◌%◌, Bool, true, false, not, ◌&&◌, ◌||◌, List, [], ◌∷◌, Option, Some, None, nat_eq, ◌⊎◌, inl, inr, refl, sym, ap, ap₂, ◌∙◌, subst, true≢false, add-zero, arith}
use Rattle.std.specs.Prelude.{pos, slice_get}
use Rattle.std.specs.Str.{bytes_eq}
use Rattle.std.proofs.lemmas.Bool.{and_from, or_left, or_right, false≢true}
use Rattle.std.proofs.lemmas.Option.{same_Some}
use Rattle.c_ints.specs.Range.{cut}
use Rattle.c_ints.specs.declared.types.IntTy.{IntTy}
use Rattle.c_ints.specs.declared.types.IntTy.TheVariants as int
use Rattle.c_typed.specs.Fits.{is_converted, is_memory, is_reached, reached_by, array_reach, is_indexed, leads_fits, member_at, fits, place_fits, rule_holds, place_rule_holds, if_array, Standing, Used, Pointed, Indexed}
use Rattle.c_typed.specs.Rules.{address_fits, start_fits, is_start, member_fits, deref_fits}
use Rattle.c_typed.specs.Sameness.{same_type, same_flag, is_array, pointed, element_of, part_of, is_the, members_in}
use Rattle.c_typed.specs.Sameness.{is_complete as is_whole}
use Rattle.c_typed.specs.Sound.{is_changeable}
use Rattle.c_typed.specs.Trees as tree
use Rattle.c_typed.specs.Trees.{Expression, Place, FunctionTree, MemberTree, Program}
use Rattle.c_typed.specs.Types.{type_of, place_type, kept}
use Rattle.c_typed.specs.declared.types.Qualified.{Qualified}
use Rattle.c_typed.specs.declared.types.Ty.{Ty}
use Rattle.c_typed.specs.declared.types.Ty.TheVariants.{Void, Int, Pointer, Array, Struct}
use Rattle.type_rules.specs.Faults as kind
use Rattle.type_rules.specs.Known.{Field, Shape, Known, Rule, given, go_on, tried}
use Rattle.type_rules.specs.Places.{object_pointed, reach_behind, dereference, address_of, address, member_from, member_in, part_type, member_of, member, pointed_member, size_of_type, measured, size_of_term}
use Rattle.type_rules.specs.Rows.{like, or_void, target_of, bytes_of, fields_in, is_complete, is_closed, progress_in}
use Rattle.type_rules.specs.Slots.{static_name}
use Rattle.type_rules.specs.Terms.{Reach, Form, ValueForm, PlaceForm, FunctionForm, TypeForm, Operand, Term, value_term, place_term, number_of_type, is_table, table_tests, array_start, value_at, into_array, in_place, value_in, indexed, used, is_addressable}
use Rattle.type_rules.specs.Units.{member_tree}
use Rattle.typed_laws.specs.Going.{Goes}
use Rattle.typed_laws.specs.Tables.{at, Stands, IsMember, AreMembers, Orderly, Begins, Leads}
use Rattle.typed_laws.specs.Terms.{reach_of, Reaches, IsValue, IsPlace, IsForm, IsOperand, IsTerm}
use Rattle.typed_laws.proofs.Growing.{place_more, pointer_goes}
use Rattle.typed_laws.proofs.Lists.{none_is, same_answer, mapped_at}
use Rattle.typed_laws.proofs.Making.{simple, value_is}
use Rattle.typed_laws.proofs.Meeting.{target_is, whole_in}
use Rattle.typed_laws.proofs.Operating.{chosen}
use Rattle.typed_laws.proofs.Operators.{not_false}
use Rattle.typed_laws.proofs.Same.{same_type_refl, same_flag_refl, same_qualified_refl, same_nat_refl}
use Rattle.typed_laws.proofs.Standings.{fits_indexed, fits_pointed}
use Rattle.typed_laws.proofs.Steps.{goes_given, goes_broken, goes_on, goes_test, goes_wanted}
use Rattle.c_ints.specs.Quantity.{Quantity}

abbrev pair : ℕ → Field → ℕ × Field
pair n m = (n, m)

-- ---- nodes that fit where their parts do

read_by : (p : Program) (f : FunctionTree) (place : Place) (ty : Ty) (line : ℕ) → (place_type place).ty ≡ ty → is_array ty ≡ false → place_fits p f place ≡ true → fits p f Used (tree.Read place ty line) ≡ true
unfolding fits rule_holds
read_by p f place ty line is other fitting = and_from (same_type (place_type place).ty ty && not (is_array ty)) (place_fits p f place)
    (and_from (same_type (place_type place).ty ty) (not (is_array ty)) (ap (λ t. same_type t ty) is ∙ same_type_refl ty) (ap not other)) fitting

address_by : (p : Program) (f : FunctionTree) (standing : Standing) (place : Place) (ty : Ty) (line : ℕ) → leads_fits p standing (is_memory place) (is_reached place) (place_type place) ty ≡ true → place_fits p f place ≡ true
    → fits p f standing (tree.Address place ty line) ≡ true
unfolding fits rule_holds
address_by p f standing place ty line leads fitting = and_from (leads_fits p standing (is_memory place) (is_reached place) (place_type place) ty) (place_fits p f place) leads fitting

deref_by : (p : Program) (f : FunctionTree) (pointer : Expression) (ty : Qualified) (line : ℕ) → deref_fits p (type_of pointer) ty ≡ true → fits p f Pointed pointer ≡ true → place_fits p f (tree.Deref pointer ty line) ≡ true
unfolding place_fits place_rule_holds
deref_by p f pointer ty line rule fitting = and_from (deref_fits p (type_of pointer) ty) (fits p f Pointed pointer) rule fitting

member_by : (p : Program) (f : FunctionTree) (whole : Place) (n offset : ℕ) (ty : Qualified) (line : ℕ) → member_fits (member_at p (place_type whole).ty n) (place_type whole) offset ty ≡ true → place_fits p f whole ≡ true
    → place_fits p f (tree.Member whole n offset ty line) ≡ true
unfolding place_fits place_rule_holds
member_by p f whole n offset ty line rule fitting = and_from (member_fits (member_at p (place_type whole).ty n) (place_type whole) offset ty) (place_fits p f whole) rule fitting

constant_by : (p : Program) (f : FunctionTree) (value : Quantity) (line : ℕ) → fits p f Used (tree.Constant value line) ≡ true
unfolding fits rule_holds
constant_by p f value line = refl

-- ---- tables are only indexed

abbrev NoTable : Form → Type 0
NoTable (ValueForm e) = Unit {0}
NoTable (PlaceForm place reach) = is_table place reach ≡ false
NoTable (FunctionForm number bare) = Unit {0}
NoTable TypeForm = Unit {0}

module _ (known : Known) where
  pub goes_no_table : {B : Type 0} (Q : List Qualified → B → Type 0) (ts : List Qualified) (form : Form) (line : ℕ) (second : Known → Rule B)
      → (NoTable form → Goes known ts Q (second (at known ts) (at known ts))) → Goes known ts Q (go_on second (tried (table_tests form) line (at known ts)))
  goes_no_table Q ts (ValueForm e) line second more = more tt
  goes_no_table Q ts (PlaceForm place reach) line second more = goes_test known Q ts (is_table place reach) kind.Address line second more
  goes_no_table Q ts (FunctionForm number bare) line second more = more tt
  goes_no_table Q ts TypeForm line second more = more tt

-- ---- the value of a place

-- an array's part that isn't const, or is reached through a pointer
open_array : (c t : Bool) → (true && (c && not t)) ≡ false → (c ≡ false) ⊎ (t ≡ true)
open_array true true h = inr refl
open_array true false h = absurd (true≢false h)
open_array false t h = inl refl

reached_or : (r c : Bool) → (r ≡ true) ⊎ (c ≡ false) → (r || not c) ≡ true
reached_or r c (inl h) = or_left r (not c) h
reached_or r c (inr h) = or_right r (not c) (ap not h)

abbrev Open : Standing → Place → Reach → Type 0
Open standing place reach = (is_indexed standing ≡ true) ⊎ (((place_type place).constant ≡ false) ⊎ (reach.through ≡ true))

module _ (known : Known) (ts : List Qualified) (o : Orderly (at known ts)) where
  -- A value that isn't an array's is read.
  read_value : (place : Place) (reach : Reach) (ty : Ty) (line : ℕ) → IsPlace (at known ts) place reach → (place_type place).ty ≡ ty → is_array ty ≡ false → into_array ty reach ≡ None
      → IsValue (at known ts) Used (tree.Read place ty line) false (into_array ty reach)
  unfolding is_converted reached_by array_reach
  read_value place reach ty line h is other into = subst (IsValue (at known ts) Used (tree.Read place ty line) false) (sym into)
      (simple (at known ts) (tree.Read place ty line) (subst (Stands (at known ts)) is h.stands) refl refl refl refl (λ p f l. read_by p f place ty line is other (h.fitting p f l)))

  as_indexed : (standing : Standing) (e : Expression) (into : Option Reach) → (standing ≡ Used) ⊎ (standing ≡ Indexed) → IsValue (at known ts) Used e false into → IsValue (at known ts) standing e false into
  as_indexed standing e into (inl is) h = subst (λ s. IsValue (at known ts) s e false into) (sym is) h
  as_indexed standing e into (inr is) h = subst (λ s. IsValue (at known ts) s e false into) (sym is) (record {
    stands = h.stands;
    plain = h.plain;
    null = h.null;
    via = h.via;
    apart = h.apart;
    free = λ used n e. absurd (true≢false used);
    fitting = λ p f l. fits_indexed p f e (h.fitting p f l);
  })

-- the start of an array
module _ (known : Known) (us : List Qualified) (standing : Standing) (place : Place) (reach : Reach) (row n size : ℕ) (q : Qualified) (line : ℕ) (start : ℕ)
    (h : IsPlace (at known us) place reach) (is : (place_type place).ty ≡ Array row n size) (there : slice_get us row ≡ Some q) (opened : Open standing place reach)
    (started : slice_get us start ≡ Some (like (place_type place) (or_void (slice_get us row)).ty)) where
  start_is : slice_get us start ≡ Some (like (place_type place) q.ty)
  start_is = started ∙ ap (λ t. Some (like (place_type place) (or_void t).ty)) there

  start_leads : (p : Program) (f : FunctionTree) → Leads (at known us) p f → leads_fits p standing (is_memory place) (is_reached place) (place_type place) (Pointer start) ≡ true
  start_leads p f l =
      or_right (address_fits p (is_memory place) (is_reached place) (place_type place) (Pointer start)) (start_fits p (is_indexed standing) (is_reached place) (place_type place) (Pointer start))
      (and_from (is_start p (place_type place) (Pointer start) (element_of p (place_type place) (place_type place).ty)) (is_indexed standing || (is_reached place || not (place_type place).constant))
      (ap (λ t. is_start p (place_type place) (Pointer start) (element_of p (place_type place) t)) is
      ∙ (ap (λ t. is_start p (place_type place) (Pointer start) (part_of (place_type place) t)) ((l.begins).rows row q there)
      ∙ (ap (λ t. is_the t (like (place_type place) q.ty)) ((l.begins).rows start (like (place_type place) q.ty) start_is) ∙ same_qualified_refl (like (place_type place) q.ty))))
      (allowed opened))
    where
      allowed : Open standing place reach → (is_indexed standing || (is_reached place || not (place_type place).constant)) ≡ true
      allowed (inl i) = or_left (is_indexed standing) (is_reached place || not (place_type place).constant) i
      allowed (inr (inl c)) = or_right (is_indexed standing) (is_reached place || not (place_type place).constant) (reached_or (is_reached place) (place_type place).constant (inr c))
      allowed (inr (inr t)) = or_right (is_indexed standing) (is_reached place || not (place_type place).constant) (reached_or (is_reached place) (place_type place).constant (h.via t))

  start_reach : array_reach (tree.Address place (Pointer start) line) ≡ Some (is_reached place)
  unfolding array_reach
  start_reach = ap (λ t. if_array t (is_reached place)) is

  start_reached : reached_by (tree.Address place (Pointer start) line) ≡ true
  unfolding reached_by
  start_reached = refl

  start_plain : is_converted (tree.Address place (Pointer start) line) ≡ false
  unfolding is_converted
  start_plain = refl

  start_value : IsValue (at known us) standing (tree.Address place (Pointer start) line) false (in_place place reach)
  start_value = record {
    stands = (like (place_type place) q.ty, start_is);
    plain = start_plain;
    null = λ e. absurd (false≢true e);
    via = via;
    apart = λ e. absurd (true≢false e);
    free = free;
    fitting = λ p f l. address_by p f standing place (Pointer start) line (start_leads p f l) (h.fitting p f l);
  }
    where
      through_is : (reach_behind (in_place place reach)).through ≡ true → reach.through ≡ true
      through_is t = sym (ap (λ t. (reach_behind (into_array t reach)).through) is) ∙ t

      pick : (r : Qualified) → like (place_type place) q.ty ≡ r → (is_reached place ≡ true) ⊎ ((place_type place).constant ≡ false) → Reaches (tree.Address place (Pointer start) line) r.constant
      pick r same (inl reached) = inl (start_reached, ap reach_of start_reach ∙ reached)
      pick r same (inr c) = inr (sym (ap (λ z. z.constant) same) ∙ c)

      same_row : (row2 : ℕ) (r : Qualified) → Pointer start ≡ Pointer row2 → slice_get us row2 ≡ Some r → like (place_type place) q.ty ≡ r
      same_row row2 r e found = let eq : start ≡ row2 = cc e in same_answer (slice_get us row2) (like (place_type place) q.ty) r (ap (slice_get us) (sym eq) ∙ start_is) found

      via : (row2 : ℕ) (r : Qualified) → Pointer start ≡ Pointer row2 → slice_get us row2 ≡ Some r → (reach_behind (in_place place reach)).through ≡ true → Reaches (tree.Address place (Pointer start) line) r.constant
      via row2 r e found t = pick r (same_row row2 r e found) (h.via (through_is t))

      free : is_indexed standing ≡ false → (m : ℕ) → static_name place ≡ Some m → is_changeable (slice_get known.statics m) ≡ true
      free used m e = not_const opened (h.static m e)
        where
          not_const : Open standing place reach → (reach.through ≡ false) × (is_changeable (slice_get known.statics m) ≡ not (place_type place).constant) → is_changeable (slice_get known.statics m) ≡ true
          not_const (inl i) g = absurd (true≢false (sym i ∙ used))
          not_const (inr (inl c)) g = g.1 ∙ ap not c
          not_const (inr (inr t)) g = absurd (true≢false (sym t ∙ g.0))

module _ (known : Known) (ts : List Qualified) (o : Orderly (at known ts)) (standing : Standing) (which : (standing ≡ Used) ⊎ (standing ≡ Indexed)) (place : Place) (reach : Reach) (h : IsPlace (at known ts) place reach) where
  array_goes : (row n size line : ℕ) → (place_type place).ty ≡ Array row n size → Open standing place reach
      → Goes known ts (λ us e. IsValue (at known us) standing e false (in_place place reach)) (array_start place row line (at known ts))
  array_goes row n size line is opened =
      let stands : Stands (at known ts) (Array row n size) = subst (Stands (at known ts)) is h.stands in
      goes_on known _ _ ts _ (λ ty. given (tree.Address place ty line)) (pointer_goes known ts (like (place_type place) (target_of (at known ts) row).ty) o
      (subst (λ (z : Qualified). Stands (at known ts) z.ty) (sym (target_is (at known ts) row stands.0 stands.1)) (o.rows row stands.0 stands.1)))
      (λ ty us adds ordered found. goes_given known _ _ us ordered
      (subst (λ t. IsValue (at known us) standing (tree.Address place t line) false (in_place place reach)) (sym found.1)
      (start_value known us standing place reach row n size stands.0 line found.0 (place_more known ts us adds place reach h) is (adds row stands.0 stands.1) opened
      (found.2 ∙ ap (λ t. Some (like (place_type place) (or_void t).ty)) (stands.1 ∙ sym (adds row stands.0 stands.1))))))

  value_goes : (ty : Ty) (line : ℕ) → (place_type place).ty ≡ ty → ((is_array ty ≡ true) → Open standing place reach)
      → Goes known ts (λ us e. IsValue (at known us) standing e false (into_array ty reach)) (value_at place ty line (at known ts))
  value_goes Void line is opened = goes_given known _ _ ts o (as_indexed known ts o standing _ _ which (read_value known ts o place reach Void line h is refl refl))
  value_goes (Int i) line is opened = goes_given known _ _ ts o (as_indexed known ts o standing _ _ which (read_value known ts o place reach (Int i) line h is refl refl))
  value_goes (Pointer row) line is opened = goes_given known _ _ ts o (as_indexed known ts o standing _ _ which (read_value known ts o place reach (Pointer row) line h is refl refl))
  value_goes (Array row n size) line is opened =
      subst (λ into. Goes known ts (λ us e. IsValue (at known us) standing e false into) (array_start place row line (at known ts))) (ap (λ t. into_array t reach) is) (array_goes row n size line is (opened refl))
  value_goes (Struct number) line is opened = goes_given known _ _ ts o (as_indexed known ts o standing _ _ which (read_value known ts o place reach (Struct number) line h is refl refl))

table_open : (place : Place) (reach : Reach) → is_table place reach ≡ false → is_array (place_type place).ty ≡ true → Open Used place reach
table_open place reach h array = inr (open_array (place_type place).constant reach.through (sym (ap (λ b. b && ((place_type place).constant && not reach.through)) array) ∙ h))

module _ (known : Known) (ts : List Qualified) (o : Orderly (at known ts)) where
  null_is : (us : List Qualified) (standing : Standing) (e : Expression) (null : Bool) (into : Option Reach) → null ≡ false → IsValue (at known us) standing e false into → IsValue (at known us) standing e null into
  null_is us standing e null into is h = subst (λ z. IsValue (at known us) standing e z into) (sym is) h

  -- The value of an expression: no table.
  used_in : (t : Term) (form : Form) → IsForm (at known ts) form t.null t.into → NoTable form → Goes known ts (λ us x. IsOperand (at known us) Used x) (value_in t form (at known ts))
  used_in t (ValueForm e) h free = goes_given known _ _ ts o h
  used_in t (PlaceForm place reach) h free = goes_on known _ _ ts _ _ (value_goes known ts o Used (inl refl) place reach h.0 (place_type place).ty t.line refl (table_open place reach free))
      (λ e us adds ordered value. goes_given known _ _ us ordered (null_is us Used e t.null (in_place place reach) h.1 value))
  used_in t (FunctionForm number bare) h free = goes_broken known _ ts _
  used_in t TypeForm h free = goes_broken known _ ts _

  pub used_goes : (t : Term) → IsTerm (at known ts) t → Goes known ts (λ us x. IsOperand (at known us) Used x) (used t (at known ts))
  used_goes t h = goes_no_table known _ ts t.form t.line _ (λ free. used_in t t.form h.form free)

  indexed_in : (t : Term) (form : Form) → IsForm (at known ts) form t.null t.into → Goes known ts (λ us x. IsOperand (at known us) Indexed x) (value_in t form (at known ts))
  indexed_in t (ValueForm e) h = goes_given known _ _ ts o (record {
    stands = h.stands;
    plain = h.plain;
    null = h.null;
    via = h.via;
    apart = h.apart;
    free = λ used n x. absurd (true≢false used);
    fitting = λ p f l. fits_indexed p f e (h.fitting p f l);
  })
  indexed_in t (PlaceForm place reach) h = goes_on known _ _ ts _ _ (value_goes known ts o Indexed (inr refl) place reach h.0 (place_type place).ty t.line refl (λ array. inl refl))
      (λ e us adds ordered value. goes_given known _ _ us ordered (null_is us Indexed e t.null (in_place place reach) h.1 value))
  indexed_in t (FunctionForm number bare) h = goes_broken known _ ts _
  indexed_in t TypeForm h = goes_broken known _ ts _

  -- what is indexed, where a table may stand
  pub indexed_goes : (t : Term) → IsTerm (at known ts) t → Goes known ts (λ us x. IsOperand (at known us) Indexed x) (indexed t (at known ts))
  indexed_goes t h = indexed_in t t.form h.form

  pub place_is : (place : Place) (reach : Reach) (line : ℕ) → IsPlace (at known ts) place reach → IsTerm (at known ts) (place_term place reach line)
  place_is place reach line h = record { form = (h, refl); list = tt }

  -- ---- `*`

  object_is : (a : Ty) (q : Qualified) → object_pointed (at known ts) a ≡ Some q → (row : ℕ) × (a ≡ Pointer row) × (target_of (at known ts) row ≡ q) × (is_complete (at known ts) q.ty ≡ true)
  object_is Void q h = absurd (none_is h)
  object_is (Int i) q h = absurd (none_is h)
  object_is (Array row n s) q h = absurd (none_is h)
  object_is (Struct number) q h = absurd (none_is h)
  object_is (Pointer row) q h = by_cases (chosen (is_complete (at known ts) (target_of (at known ts) row).ty) (Some (target_of (at known ts) row)) None (Some q) h)
    where
      by_cases : ((is_complete (at known ts) (target_of (at known ts) row).ty ≡ true) × (Some (target_of (at known ts) row) ≡ Some q)) ⊎ ((is_complete (at known ts) (target_of (at known ts) row).ty ≡ false) × (None ≡ Some q))
          → (r : ℕ) × (Pointer row ≡ Pointer r) × (target_of (at known ts) r ≡ q) × (is_complete (at known ts) q.ty ≡ true)
      by_cases (inl g) = let same : target_of (at known ts) row ≡ q = same_Some _ _ g.1 in (row, refl, same, subst (λ (z : Qualified). is_complete (at known ts) z.ty ≡ true) same g.0)
      by_cases (inr g) = absurd (none_is g.1)

  deref_reached : (e : Expression) (ty : Qualified) (line : ℕ) → is_reached (tree.Deref e ty line) ≡ reached_by e
  unfolding is_reached
  deref_reached e ty line = refl

  -- the place that a pointer leads to
  pub deref_place : (e : Expression) (row : ℕ) (q : Qualified) (reach : Reach) (line : ℕ) → type_of e ≡ Pointer row → slice_get ts row ≡ Some q → is_complete (at known ts) q.ty ≡ true
      → (reach.through ≡ true → (reached_by e ≡ true) ⊎ (q.constant ≡ false)) → ((p : Program) (f : FunctionTree) → Leads (at known ts) p f → fits p f Pointed e ≡ true) → IsPlace (at known ts) (tree.Deref e q line) reach
  deref_place e row q reach line is there complete via fitting = record {
    stands = o.rows row q there;
    whole = or_left (is_complete (at known ts) q.ty) (is_array q.ty) complete;
    via = λ t. further (via t);
    memory = λ t. refl;
    static = λ n x. absurd (none_is x);
    fitting = λ p f l. deref_by p f e q line
        (and_from (is_the (pointed p (type_of e)) q) (is_whole p q.ty) (ap (λ t. is_the (pointed p t) q) is ∙ (ap (λ t. is_the t q) ((l.begins).rows row q there) ∙ same_qualified_refl q)) (whole_in (at known ts) p l.begins o q.ty (o.rows row q there) complete).0)
        (fitting p f l);
  }
    where
      further : (reached_by e ≡ true) ⊎ (q.constant ≡ false) → (is_reached (tree.Deref e q line) ≡ true) ⊎ (q.constant ≡ false)
      further (inl r) = inl (deref_reached e q line ∙ r)
      further (inr c) = inr c

  pub first_of_reaches : (e : Expression) (c : Bool) → Reaches e c → (reached_by e ≡ true) ⊎ (c ≡ false)
  first_of_reaches e c (inl h) = inl h.0
  first_of_reaches e c (inr h) = inr h

  deref_is : (x : Operand) (q : Qualified) (line : ℕ) → IsOperand (at known ts) Used x → object_pointed (at known ts) (type_of x.value) ≡ Some q → IsTerm (at known ts) (place_term (tree.Deref x.value q line) (reach_behind x.into) line)
  deref_is x q line hx is =
      let w = object_is (type_of x.value) q is in
      let found : (r : Qualified) × (slice_get ts w.0 ≡ Some r) = subst (Stands (at known ts)) w.1 hx.stands in
      let there : slice_get ts w.0 ≡ Some q = found.1 ∙ ap Some (sym (target_is (at known ts) w.0 found.0 found.1) ∙ w.2) in
      place_is (tree.Deref x.value q line) (reach_behind x.into) line (deref_place x.value w.0 q (reach_behind x.into) line w.1 there w.3
      (λ t. first_of_reaches x.value q.constant (hx.via w.0 q w.1 there t)) (λ p f l. fits_pointed p f x.value (hx.fitting p f l)))

  pub dereference_goes : (x : Operand) (line : ℕ) → IsOperand (at known ts) Used x → Goes known ts (λ us t. IsTerm (at known us) t) (dereference x line (at known ts))
  dereference_goes x line hx = goes_wanted known _ ts (object_pointed (at known ts) (type_of x.value)) kind.Operand line _ (λ q is. goes_given known _ _ ts o (deref_is x q line hx is))

  -- ---- `&`

  addressable : (t f c r : Bool) → (t || not (f || c)) ≡ true → (t ≡ true → (r ≡ true) ⊎ (c ≡ false)) → ((t || not f) ≡ true) × ((r ≡ true) ⊎ (c ≡ false)) × (t ≡ false → c ≡ false)
  addressable true f c r h via = (refl, via refl, λ e. absurd (true≢false e))
  addressable false true c r h via = absurd (false≢true h)
  addressable false false true r h via = absurd (false≢true h)
  addressable false false false r h via = (refl, inr refl, λ e. refl)

module _ (known : Known) (us : List Qualified) (place : Place) (reach : Reach) (h : IsPlace (at known us) place reach) (row : ℕ) (line : ℕ) (there : slice_get us row ≡ Some (place_type place))
    (facts : ((reach.through || not reach.fixed) ≡ true) × ((is_reached place ≡ true) ⊎ ((place_type place).constant ≡ false)) × (reach.through ≡ false → (place_type place).constant ≡ false)) where
  taken_leads : (p : Program) (f : FunctionTree) → Leads (at known us) p f → leads_fits p Used (is_memory place) (is_reached place) (place_type place) (Pointer row) ≡ true
  taken_leads p f l = or_left (address_fits p (is_memory place) (is_reached place) (place_type place) (Pointer row)) (start_fits p false (is_reached place) (place_type place) (Pointer row))
      (and_from (is_the (slice_get p.targets row) (place_type place)) (is_memory place && (is_reached place || not (place_type place).constant))
      (ap (λ t. is_the t (place_type place)) ((l.begins).rows row (place_type place) there) ∙ same_qualified_refl (place_type place))
      (and_from (is_memory place) (is_reached place || not (place_type place).constant) (h.memory facts.0) (reached_or (is_reached place) (place_type place).constant facts.1)))

  reach_any : (ty : Ty) → reach_of (if_array ty true) ≡ true
  reach_any Void = refl
  reach_any (Int i) = refl
  reach_any (Pointer r) = refl
  reach_any (Array r n s) = refl
  reach_any (Struct n) = refl

  taken_reaches : (r : Qualified) → place_type place ≡ r → (is_reached place ≡ true) ⊎ ((place_type place).constant ≡ false) → Reaches (tree.Address place (Pointer row) line) r.constant
  unfolding reached_by array_reach
  taken_reaches r same (inl reached) = inl (refl, ap (λ b. reach_of (if_array (place_type place).ty b)) reached ∙ reach_any (place_type place).ty)
  taken_reaches r same (inr c) = inr (sym (ap (λ z. z.constant) same) ∙ c)

  taken_plain : is_converted (tree.Address place (Pointer row) line) ≡ false
  unfolding is_converted
  taken_plain = refl

  pub taken_value : IsValue (at known us) Used (tree.Address place (Pointer row) line) false None
  taken_value = record {
    stands = (place_type place, there);
    plain = taken_plain;
    null = λ e. absurd (false≢true e);
    via = λ row2 r e found t. let eq : row ≡ row2 = cc e in taken_reaches r (same_answer (slice_get us row2) (place_type place) r (ap (slice_get us) (sym eq) ∙ there) found) facts.1;
    apart = λ e. absurd (true≢false e);
    free = λ used n e. (h.static n e).1 ∙ ap not (facts.2 (h.static n e).0);
    fitting = λ p f l. address_by p f Used place (Pointer row) line (taken_leads p f l) (h.fitting p f l);
  }

module _ (known : Known) (ts : List Qualified) (o : Orderly (at known ts)) where
  address_in : (form : Form) (null : Bool) (into : Option Reach) (line : ℕ) → IsForm (at known ts) form null into → Goes known ts (λ us t. IsTerm (at known us) t) (address_of form line (at known ts))
  address_in (ValueForm e) null into line h = goes_broken known _ ts _
  address_in (FunctionForm number bare) null into line h = goes_broken known _ ts _
  address_in TypeForm null into line h = goes_broken known _ ts _
  address_in (PlaceForm place reach) null into line h = goes_test known _ ts (not (is_addressable place reach)) kind.Address line _
      (λ free. goes_on known _ _ ts _ (λ ty. given (value_term (tree.Address place ty line) line)) (pointer_goes known ts (place_type place) o (h.0).stands)
      (λ ty us adds ordered found. goes_given known _ _ us ordered
      (subst (λ t. IsTerm (at known us) (value_term (tree.Address place t line) line)) (sym found.1)
      (value_is (at known us) _ line (taken_value known us place reach (place_more known ts us adds place reach h.0) found.0 line found.2
      (addressable known ts o reach.through reach.fixed (place_type place).constant (is_reached place) (not_false (is_addressable place reach) free) (h.0).via))))))

  pub address_goes : (t : Term) (line : ℕ) → IsTerm (at known ts) t → Goes known ts (λ us t. IsTerm (at known us) t) (address t line (at known ts))
  address_goes t line h = goes_no_table known _ ts t.form t.line _ (λ free. address_in t.form t.null t.into line h.form)

  -- ---- `.` and `->`

  pub member_there : (before : ℕ) (ms : List (List ℕ × Field)) (size n : ℕ) (m : List ℕ × Field) → AreMembers (at known ts) before ms size → slice_get ms n ≡ Some m → (b : ℕ) × IsMember (at known ts) m.1 b
  member_there before [] size n m all is = absurd (none_is is)
  member_there before (x ∷ ms) size zero m all is = (before, subst (λ (z : List ℕ × Field). IsMember (at known ts) z.1 before) (same_Some x m is) all.0)
  member_there before (x ∷ ms) size (suc n) m all is = member_there (kept (before + bytes_of (at known ts) ((x.1).ty).ty)) ms size n m all.1 is

  found_at : (ms : List (List ℕ × Field)) (name : List ℕ) (start : ℕ) (r : ℕ × Field) → member_from ms name start ≡ Some r → (k : ℕ) × (x : List ℕ × Field) × (r.0 ≡ start + k) × (slice_get ms k ≡ Some x) × (x.1 ≡ r.1)
  found_at [] name start r h = absurd (none_is h)
  found_at (x ∷ ms) name start r h = by_cases (chosen (bytes_eq x.0 name) (Some (pair start x.1)) (member_from ms name (suc start)) (Some r) h) (found_at ms name (suc start) r)
    where
      by_cases : ((bytes_eq x.0 name ≡ true) × (Some (pair start x.1) ≡ Some r)) ⊎ ((bytes_eq x.0 name ≡ false) × (member_from ms name (suc start) ≡ Some r))
          → (member_from ms name (suc start) ≡ Some r → (k : ℕ) × (y : List ℕ × Field) × (r.0 ≡ suc start + k) × (slice_get ms k ≡ Some y) × (y.1 ≡ r.1))
          → (k : ℕ) × (y : List ℕ × Field) × (r.0 ≡ start + k) × (slice_get (x ∷ ms) k ≡ Some y) × (y.1 ≡ r.1)
      by_cases (inl g) more = let both : pair start x.1 ≡ r = same_Some (pair start x.1) r g.1 in (0, x, sym (ap (λ (z : ℕ × Field). z.0) both) ∙ sym (add-zero start), refl, ap (λ (z : ℕ × Field). z.1) both)
      by_cases (inr g) more = let w = more g.1 in let n_is : r.0 ≡ start + suc w.0 = omega (arith, w.2) in (suc w.0, w.1, n_is, w.3, w.4)

  closed_is : (number : ℕ) (s : Shape) → slice_get known.shapes number ≡ Some s → is_complete (at known ts) (Struct number) ≡ true → is_closed s.body ≡ true
  closed_is number s there h = ap (λ x. is_closed (progress_in x)) (sym there) ∙ h

  whole_struct : (number : ℕ) → (is_complete (at known ts) (Struct number) || false) ≡ true → is_complete (at known ts) (Struct number) ≡ true
  whole_struct number h = either (is_complete (at known ts) (Struct number)) h
    where
      either : (b : Bool) → (b || false) ≡ true → b ≡ true
      either true h = refl
      either false h = absurd (false≢true h)

  same_part : (whole part : Qualified) → (same_type part.ty (part_type whole part).ty && (same_flag (part.constant || whole.constant) (part_type whole part).constant && same_flag (part.volatile || whole.volatile) (part_type whole part).volatile)) ≡ true
  same_part whole part = and_from (same_type part.ty part.ty) (same_flag (part.constant || whole.constant) (part.constant || whole.constant) && same_flag (part.volatile || whole.volatile) (part.volatile || whole.volatile)) (same_type_refl part.ty)
      (and_from (same_flag (part.constant || whole.constant) (part.constant || whole.constant)) (same_flag (part.volatile || whole.volatile) (part.volatile || whole.volatile)) (same_flag_refl (part.constant || whole.constant)) (same_flag_refl (part.volatile || whole.volatile)))

  member_reached : (whole : Place) (n offset : ℕ) (ty : Qualified) (line : ℕ) → is_reached (tree.Member whole n offset ty line) ≡ is_reached whole
  unfolding is_reached
  member_reached whole n offset ty line = refl

  member_place : (place : Place) (reach : Reach) (ty : Ty) (name : List ℕ) (line : ℕ) (n : ℕ) (m : Field) → IsPlace (at known ts) place reach → (place_type place).ty ≡ ty → member_in (at known ts) ty name ≡ Some (pair n m)
      → IsPlace (at known ts) (tree.Member place n m.offset (part_type (place_type place) m.ty) line) reach
  member_place place reach Void name line n m h is found = absurd (none_is found)
  member_place place reach (Int i) name line n m h is found = absurd (none_is found)
  member_place place reach (Pointer row) name line n m h is found = absurd (none_is found)
  member_place place reach (Array row k s) name line n m h is found = absurd (none_is found)
  member_place place reach (Struct number) name line n m h is found = record {
    stands = own.stands;
    whole = or_left (is_complete (at known ts) (m.ty).ty) (is_array (m.ty).ty) own.whole;
    via = λ t. further (h.via t);
    memory = λ t. refl;
    static = λ k x. absurd (none_is x);
    fitting = λ p f l. member_by p f place n m.offset (part_type (place_type place) m.ty) line (fitting p l.begins) (h.fitting p f l);
  }
    where
      stands : Stands (at known ts) (Struct number)
      stands = subst (Stands (at known ts)) is h.stands

      s : Shape
      s = stands.0

      there : slice_get known.shapes number ≡ Some s
      there = stands.1

      in_fields : member_from s.fields name 0 ≡ Some (pair n m)
      in_fields = ap (λ x. member_from (fields_in x) name 0) (sym there) ∙ found

      place_of : (k : ℕ) × (x : List ℕ × Field) × (n ≡ 0 + k) × (slice_get s.fields k ≡ Some x) × (x.1 ≡ m)
      place_of = found_at s.fields name 0 (pair n m) in_fields

      at_n : slice_get s.fields n ≡ Some place_of.1
      at_n = let eq : n ≡ place_of.0 = omega (arith, place_of.2) in ap (slice_get s.fields) eq ∙ place_of.3

      some : (b : ℕ) × IsMember (at known ts) (place_of.1).1 b
      some = member_there 0 s.fields s.size n place_of.1 (o.shapes number s there).members at_n

      own : IsMember (at known ts) m some.0
      own = subst (λ z. IsMember (at known ts) z some.0) place_of.4 some.1

      closed : is_closed s.body ≡ true
      closed = closed_is number s there (whole_struct number (ap (λ t. is_complete (at known ts) t || is_array t) (sym is) ∙ h.whole))

      further : (is_reached place ≡ true) ⊎ ((place_type place).constant ≡ false) → (is_reached (tree.Member place n m.offset (part_type (place_type place) m.ty) line) ≡ true) ⊎ (((m.ty).constant || (place_type place).constant) ≡ false)
      further (inl r) = inl (member_reached place n m.offset (part_type (place_type place) m.ty) line ∙ r)
      further (inr c) = inr (ap₂ (λ a b. a || b) own.constant c)

      fitting : (p : Program) → Begins (at known ts) p → member_fits (member_at p (place_type place).ty n) (place_type place) m.offset (part_type (place_type place) m.ty) ≡ true
      fitting p begins =
          ap (λ t. member_fits (member_at p t n) (place_type place) m.offset (part_type (place_type place) m.ty)) is
          ∙ (ap (λ x. member_fits (slice_get (members_in x) n) (place_type place) m.offset (part_type (place_type place) m.ty)) (begins.closed number s there closed).0
          ∙ (ap (λ x. member_fits x (place_type place) m.offset (part_type (place_type place) m.ty)) (mapped_at member_tree s.fields n place_of.1 at_n)
          ∙ (ap (λ (z : Field). member_fits (Some (record { ty = z.ty; offset = z.offset })) (place_type place) m.offset (part_type (place_type place) m.ty)) place_of.4
          ∙ and_from (nat_eq m.offset m.offset) (same_type (m.ty).ty (m.ty).ty && (same_flag ((m.ty).constant || (place_type place).constant) ((m.ty).constant || (place_type place).constant) && same_flag ((m.ty).volatile || (place_type place).volatile) ((m.ty).volatile || (place_type place).volatile)))
          (same_nat_refl m.offset) (same_part (place_type place) m.ty))))

  member_of_goes : (form : Form) (null : Bool) (into : Option Reach) (name : List ℕ) (line : ℕ) → IsForm (at known ts) form null into → Goes known ts (λ us t. IsTerm (at known us) t) (member_of form name line (at known ts))
  member_of_goes (ValueForm e) null into name line h = goes_broken known _ ts _
  member_of_goes (FunctionForm number bare) null into name line h = goes_broken known _ ts _
  member_of_goes TypeForm null into name line h = goes_broken known _ ts _
  member_of_goes (PlaceForm place reach) null into name line h = goes_wanted known _ ts (member_in (at known ts) (place_type place).ty name) kind.Member line _
      (λ found is. goes_given known _ _ ts o (place_is known ts o _ reach line (member_place place reach (place_type place).ty name line found.0 found.1 h.0 refl is)))

  pub member_goes : (t : Term) (name : List ℕ) (line : ℕ) → IsTerm (at known ts) t → Goes known ts (λ us t. IsTerm (at known us) t) (member t name line (at known ts))
  member_goes t name line h = goes_no_table known _ ts t.form t.line _ (λ free. member_of_goes t.form t.null t.into name line h.form)

  -- ---- `sizeof`

  pub constant_is : (value : Quantity) (line : ℕ) → IsValue (at known ts) Used (tree.Constant value line) false None
  unfolding is_converted reached_by array_reach
  constant_is value line = simple (at known ts) (tree.Constant value line) tt refl refl refl refl (λ p f l. constant_by p f value line)

  pub number_is : (ty : IntTy) (n line : ℕ) → IsValue (at known ts) Used (number_of_type ty n line) false None
  number_is ty n line = constant_is (record { ty = ty; number = cut ty (pos n) }) line

  pub size_of_type_goes : (ty : Ty) (line : ℕ) → Goes known ts (λ us t. IsTerm (at known us) t) (size_of_type ty line (at known ts))
  size_of_type_goes ty line = goes_test known _ ts (not (is_complete (at known ts) ty)) kind.Incomplete line _
      (λ h. goes_given known _ _ ts o (value_is (at known ts) _ line (number_is int.UInt (bytes_of (at known ts) ty % 65536) line)))

  pub size_of_term_goes : (t : Term) (line : ℕ) → Goes known ts (λ us t. IsTerm (at known us) t) (size_of_term t line (at known ts))
  size_of_term_goes t line = goes_wanted known _ ts (measured t.form) kind.Operand line _ (λ ty is. size_of_type_goes ty line)

module _ (known : Known) (ts : List Qualified) (o : Orderly (at known ts)) where
  pub pointed_member_goes : (x : Operand) (name : List ℕ) (line : ℕ) → IsOperand (at known ts) Used x → Goes known ts (λ us t. IsTerm (at known us) t) (pointed_member x name line (at known ts))
  pointed_member_goes x name line hx = goes_wanted known _ ts (object_pointed (at known ts) (type_of x.value)) kind.Member line _
      (λ q is. goes_on known _ _ ts _ _ (dereference_goes known ts o x line hx) (λ t us adds ordered ht. member_goes known us ordered t name line ht))
