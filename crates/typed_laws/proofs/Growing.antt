-- Rows of types are added: the tables stay in order, and what was known of types, values and places stays so.
use Rattle.std.proofs.Common.{◌≡◌, ℕ, ◌+◌, Bool, true, List, [], ◌∷◌, Option, Some, ◌⊎◌, inl, inr, refl, sym, ◌∙◌, subst}
use Rattle.std.specs.Prelude.{slice_get}
use Rattle.c_typed.specs.Trees.{Expression, Place, FunctionTree, Program}
use Rattle.c_typed.specs.Types.{type_of, place_type, kept}
use Rattle.c_typed.specs.Fits.{Standing}
use Rattle.c_typed.specs.declared.types.Qualified.{Qualified}
use Rattle.c_typed.specs.declared.types.Ty.{Ty}
use Rattle.c_typed.specs.declared.types.Ty.TheVariants.{Void, Int, Pointer, Array, Struct}
use Rattle.type_rules.specs.Known.{Binding, ObjectName, BitName, FunctionName, TypeNamed, EnumeratorName, Scope, Tag, StructTag, EnumTag, Field, Shape, Signature, Known}
use Rattle.type_rules.specs.Places.{reach_behind}
use Rattle.type_rules.specs.Rows.{place_of_row, with_row, row_of, pointer_to, bytes_of}
use Rattle.type_rules.specs.Terms.{Reach, Form, ValueForm, PlaceForm, FunctionForm, TypeForm, Operand, Term}
use Rattle.typed_laws.specs.Going.{Goes}
use Rattle.typed_laws.specs.Tables.{at, Adds, Each, IsElement, Stands, IsMember, AreMembers, IsShape, IsBound, AreBound, IsTag, Orderly, Leads}
use Rattle.typed_laws.specs.Terms.{Reaches, IsValue, IsPlace, IsForm, IsOperand, IsTerm}
use Rattle.typed_laws.proofs.Lists.{same_answer, all_more}
use Rattle.typed_laws.proofs.RowLists.{row_there, rows_kept, new_row, distinct_more}

module _ (known : Known) (ts us : List Qualified) (adds : Adds ts us) where
  element_more : (q : Qualified) (count size : ℕ) → IsElement (at known ts) q count size → IsElement (at known us) q count size
  element_more q count size e = record { constant = e.constant; volatile = e.volatile; stands = e.stands; some = e.some; whole = e.whole }

  pub stands_more : (ty : Ty) → Stands (at known ts) ty → Stands (at known us) ty
  stands_more Void h = tt
  stands_more (Int ty) h = tt
  stands_more (Pointer row) h = (h.0, adds row h.0 h.1)
  stands_more (Array row count size) h = (h.0, adds row h.0 h.1, element_more h.0 count size h.2)
  stands_more (Struct number) h = h

  member_more : (m : Field) (before : ℕ) → IsMember (at known ts) m before → IsMember (at known us) m before
  member_more m before h = record { offset = h.offset; stands = stands_more (m.ty).ty h.stands; whole = h.whole; some = h.some; constant = h.constant }

  members_more : (before : ℕ) (ms : List (List ℕ × Field)) (size : ℕ) → AreMembers (at known ts) before ms size → AreMembers (at known us) before ms size
  members_more before [] size h = h
  members_more before (m ∷ ms) size h = (member_more m.1 before h.0, members_more (kept (before + bytes_of (at known ts) ((m.1).ty).ty)) ms size h.1)

  shape_more : (s : Shape) → IsShape (at known ts) s → IsShape (at known us) s
  shape_more s h = record { members = members_more 0 s.fields s.size h.members; some = h.some }

  bound_more : (b : Binding) → IsBound (at known ts) b → IsBound (at known us) b
  bound_more (ObjectName object q fixed) h = record { stands = stands_more q.ty h.stands; whole = h.whole; register = h.register; static = h.static }
  bound_more (BitName register bit) h = tt
  bound_more (FunctionName number) h = tt
  bound_more (TypeNamed q waiting) h = stands_more q.ty h
  bound_more (EnumeratorName n) h = tt

  tag_more : (tag : Tag) → IsTag (at known ts) tag → IsTag (at known us) tag
  tag_more (StructTag number) h = h
  tag_more EnumTag h = tt

  scope_more : (scope : Scope) → AreBound (at known ts) scope → AreBound (at known us) scope
  scope_more scope h = all_more scope (λ e. bound_more e.1) h

  results_more : (s : Signature) → Stands (at known ts) (s.result).ty × Each (Stands (at known ts)) s.params → Stands (at known us) (s.result).ty × Each (Stands (at known us)) s.params
  results_more s h = (stands_more (s.result).ty h.0, all_more s.params stands_more h.1)

  -- What begins with more rows begins with these.
  pub leads_back : (p : Program) (f : FunctionTree) → Leads (at known us) p f → Leads (at known ts) p f
  leads_back p f l = record { begins = record { rows = λ row q h. (l.begins).rows row q (adds row q h); structures = (l.begins).structures; closed = (l.begins).closed; functions = (l.begins).functions }; names = l.names }

  via_more : (e : Expression) (into : Option Reach) (ty : Ty) → type_of e ≡ ty → Stands (at known ts) ty
      → ((row : ℕ) (q : Qualified) → type_of e ≡ Pointer row → slice_get ts row ≡ Some q → (reach_behind into).through ≡ true → Reaches e q.constant)
      → (row : ℕ) (q : Qualified) → type_of e ≡ Pointer row → slice_get us row ≡ Some q → (reach_behind into).through ≡ true → Reaches e q.constant
  via_more e into ty is stands via row q pointer there through =
      let found : (r : Qualified) × (slice_get ts row ≡ Some r) = subst (Stands (at known ts)) (sym is ∙ pointer) stands in
      subst (λ r. Reaches e r.constant) (same_answer (slice_get us row) found.0 q (adds row found.0 found.1) there) (via row found.0 pointer found.1 through)

  pub value_more : (standing : Standing) (e : Expression) (zero : Bool) (into : Option Reach) → IsValue (at known ts) standing e zero into → IsValue (at known us) standing e zero into
  value_more standing e zero into h = record {
    stands = stands_more (type_of e) h.stands;
    plain = h.plain;
    null = h.null;
    via = via_more e into (type_of e) refl h.stands h.via;
    apart = h.apart;
    free = h.free;
    fitting = λ p f l. h.fitting p f (leads_back p f l);
  }

  pub place_more : (place : Place) (reach : Reach) → IsPlace (at known ts) place reach → IsPlace (at known us) place reach
  place_more place reach h = record {
    stands = stands_more (place_type place).ty h.stands;
    whole = h.whole;
    via = h.via;
    memory = h.memory;
    static = h.static;
    fitting = λ p f l. h.fitting p f (leads_back p f l);
  }

  pub operand_more : (standing : Standing) (x : Operand) → IsOperand (at known ts) standing x → IsOperand (at known us) standing x
  operand_more standing x h = value_more standing x.value x.null x.into h

  form_more : (form : Form) (zero : Bool) (into : Option Reach) → IsForm (at known ts) form zero into → IsForm (at known us) form zero into
  form_more (ValueForm e) zero into h = value_more _ e zero into h
  form_more (PlaceForm place reach) zero into h = (place_more place reach h.0, h.1)
  form_more (FunctionForm number bare) zero into h = tt
  form_more TypeForm zero into h = tt

  pub term_more : (t : Term) → IsTerm (at known ts) t → IsTerm (at known us) t
  term_more t h = record { form = form_more t.form t.null t.into h.form; list = all_more t.listed (operand_more _) h.list }

  pub orderly_more : Orderly (at known ts) → ((row : ℕ) (q : Qualified) → slice_get us row ≡ Some q → Stands (at known us) q.ty) → ((row : ℕ) (q : Qualified) → slice_get us row ≡ Some q → place_of_row us q ≡ row) → Orderly (at known us)
  orderly_more o rows distinct = record {
    rows = rows;
    distinct = distinct;
    shapes = λ n s h. shape_more s (o.shapes n s h);
    scopes = all_more known.scopes scope_more o.scopes;
    tags = all_more known.tags (λ e. tag_more e.1) o.tags;
    results = λ n s h. results_more s (o.results n s h);
  }

module _ (known : Known) (ts : List Qualified) (q : Qualified) where
  rows_stand : Orderly (at known ts) → Stands (at known ts) q.ty → (row : ℕ) (r : Qualified) → slice_get (with_row ts q) row ≡ Some r → Stands (at known (with_row ts q)) r.ty
  rows_stand o stands row r h = by_cases (new_row ts q r row h)
    where
      by_cases : (slice_get ts row ≡ Some r) ⊎ ((q ≡ r) × (place_of_row ts q ≡ row)) → Stands (at known (with_row ts q)) r.ty
      by_cases (inl g) = stands_more known ts (with_row ts q) (rows_kept ts q) r.ty (o.rows row r g)
      by_cases (inr g) = subst (λ z. Stands (at known (with_row ts q)) z.ty) g.0 (stands_more known ts (with_row ts q) (rows_kept ts q) q.ty stands)

  pub orderly_row : Orderly (at known ts) → Stands (at known ts) q.ty → Orderly (at known (with_row ts q))
  orderly_row o stands = orderly_more known ts (with_row ts q) (rows_kept ts q) o (rows_stand o stands) (distinct_more ts q o.distinct)

  -- a row for a type
  pub row_goes : Orderly (at known ts) → Stands (at known ts) q.ty → Goes known ts (λ us row. slice_get us row ≡ Some q) (row_of q (at known ts))
  unfolding Goes
  row_goes o stands = record { rows = with_row ts q; is = refl; adds = rows_kept ts q; orderly = orderly_row o stands; holds = row_there ts q }

  pub row_exact : Orderly (at known ts) → Stands (at known ts) q.ty → Goes known ts (λ us row. (row ≡ place_of_row ts q) × (slice_get us row ≡ Some q)) (row_of q (at known ts))
  unfolding Goes
  row_exact o stands = record { rows = with_row ts q; is = refl; adds = rows_kept ts q; orderly = orderly_row o stands; holds = (refl, row_there ts q) }

  -- a pointer to it
  pub pointer_goes : Orderly (at known ts) → Stands (at known ts) q.ty → Goes known ts (λ us ty. (row : ℕ) × (ty ≡ Pointer row) × (slice_get us row ≡ Some q)) (pointer_to q (at known ts))
  unfolding Goes
  pointer_goes o stands = record { rows = with_row ts q; is = refl; adds = rows_kept ts q; orderly = orderly_row o stands; holds = (place_of_row ts q, refl, row_there ts q) }
