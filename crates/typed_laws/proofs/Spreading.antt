-- Rules that declare types, one behind the other.
use Rattle.std.proofs.Common.{◌≡◌, ℕ, ◌+◌, ◌*◌, ◌<◌, Bool, true, false, ◌||◌, nat_eq, List, [], ◌∷◌, Option, Some, None, Result, Ok, Err, ◌⊎◌, inl, inr, refl, sym, ap, ◌∙◌, subst, true≢false}
use Rattle.std.specs.Prelude.{slice_get}
use Rattle.std.proofs.lemmas.Bool.{false≢true, or_right, or_left}
use Rattle.c_typed.specs.Types.{kept}
use Rattle.c_typed.specs.Trees.{Program}
use Rattle.c_typed.specs.declared.types.Qualified.{Qualified}
use Rattle.c_typed.specs.declared.types.Ty.{Ty}
use Rattle.c_typed.specs.declared.types.Ty.TheVariants.{Void, Int, Pointer, Array, Struct}
use Rattle.type_rules.specs.Faults.{Kind, Fault, Tests}
use Rattle.type_rules.specs.Known.{Binding, ObjectName, BitName, FunctionName, TypeNamed, EnumeratorName, Scope, Tag, StructTag, EnumTag, Field, Shape, Signature, Known, Rule, tried, wanted, go_on}
use Rattle.type_rules.specs.Rows.{bytes_of, is_complete, is_closed, progress_in}
use Rattle.typed_laws.specs.Going.{Goes}
use Rattle.typed_laws.specs.Spreading.{Grows, Enumerated, Widened, Spreads, Runs}
use Rattle.typed_laws.specs.Tables.{at, Adds, Each, IsElement, Stands, IsMember, AreMembers, IsShape, IsBound, AreBound, IsTag, Orderly, Begins}
use Rattle.typed_laws.proofs.Enumerating.{enumerated_none, enumerated_on, enumerated_outside}
use Rattle.typed_laws.proofs.Lists.{numbered_at, all_more}
use Rattle.typed_laws.proofs.Same.{same_nat, same_nat_refl}
use Rattle.c_typed.specs.Sameness.{is_array}

-- ---- equal numbers or not

pub equal_or_not : (a b : ℕ) → (a ≡ b) ⊎ (a ≡ b → ⊥)
equal_or_not a b = by_test (nat_eq a b) refl
  where
    by_test : (t : Bool) → nat_eq a b ≡ t → (a ≡ b) ⊎ (a ≡ b → ⊥)
    by_test true e = inl (same_nat a b e)
    by_test false e = inr (λ same. true≢false (sym (same_nat_refl a) ∙ (ap (nat_eq a) same ∙ e)))

-- ---- what grows

pub grows_itself : (known : Known) → Grows known known
grows_itself known = record { rows = λ row q h. h; shapes = λ n s h. (s, h, λ e. refl); statics = λ n s h. (s, h, refl) }

pub grows_on : (a b c : Known) → Grows a b → Grows b c → Grows a c
grows_on a b c g h = record {
  rows = λ row q e. h.rows row q (g.rows row q e);
  shapes = λ n s e. let f = g.shapes n s e in let k = h.shapes n f.0 f.1 in (k.0, k.1, λ closed. k.2 (subst (λ (z : Shape). is_closed z.body ≡ true) (sym (f.2 closed)) closed) ∙ f.2 closed);
  statics = λ n s e. let f = g.statics n s e in let k = h.statics n f.0 f.1 in (k.0, k.1, k.2 ∙ f.2);
}

pub spreads_itself : (known : Known) → Spreads None false known known
spreads_itself known = record { grows = grows_itself known; spared = λ n s h body free. h; scopes = enumerated_none known.scopes known.scopes refl; signatures = refl; definitions = refl; statics = refl; body = refl }

widened_on : (inner : Bool) (a b c : List Scope) → Widened inner a b → Widened inner b c → Widened inner a c
widened_on true a b c g h = h ∙ g
widened_on false a b c g h = enumerated_on a b c g h

pub spreads_on : (skip : Option ℕ) (inner : Bool) (a b c : Known) → Spreads skip inner a b → Spreads skip inner b c → Spreads skip inner a c
spreads_on skip inner a b c g h = record {
  grows = grows_on a b c g.grows h.grows;
  spared = λ n s there body free. h.spared n s (g.spared n s there body free) body free;
  scopes = widened_on inner a.scopes b.scopes c.scopes g.scopes h.scopes;
  signatures = h.signatures ∙ g.signatures;
  definitions = h.definitions ∙ g.definitions;
  statics = h.statics ∙ g.statics;
  body = h.body ∙ g.body;
}

widened_less : (inner : Bool) (a b : List Scope) → Enumerated a b → Widened inner a b
widened_less true a b h = enumerated_outside a b h
widened_less false a b h = h

-- a rule that leaves more as it is leaves less as it is too
pub spreads_less : (skip : Option ℕ) (inner : Bool) (a b : Known) → Spreads None false a b → Spreads skip inner a b
spreads_less skip inner a b g = record {
  grows = g.grows;
  spared = λ n s there body free. g.spared n s there body tt;
  scopes = widened_less inner a.scopes b.scopes g.scopes;
  signatures = g.signatures;
  definitions = g.definitions;
  statics = g.statics;
  body = g.body;
}

module _ (before after : Known) (g : Grows before after) where
  closed_in : (known : Known) (number : ℕ) (s : Shape) → slice_get known.shapes number ≡ Some s → is_complete known (Struct number) ≡ true → is_closed s.body ≡ true
  closed_in known number s there h = ap (λ x. is_closed (progress_in x)) (sym there) ∙ h

  pub complete_grows : (ty : Ty) → Stands before ty → is_complete before ty ≡ true → (is_complete after ty ≡ true) × (bytes_of after ty ≡ bytes_of before ty)
  complete_grows Void stands h = absurd (false≢true h)
  complete_grows (Int i) stands h = (refl, refl)
  complete_grows (Pointer row) stands h = (refl, refl)
  complete_grows (Array row n s) stands h = (h, refl)
  complete_grows (Struct number) stands h =
      let closed = closed_in before number stands.0 stands.1 h in
      let t = g.shapes number stands.0 stands.1 in
      let same : t.0 ≡ stands.0 = t.2 closed in (
        ap (λ x. is_closed (progress_in x)) t.1 ∙ (ap (λ z. is_closed z.body) same ∙ closed),
        numbered_at (λ x. x.size) after.shapes number t.0 t.1 ∙ (ap (λ z. z.size) same ∙ sym (numbered_at (λ x. x.size) before.shapes number stands.0 stands.1)),
      )

  element_grows : (q : Qualified) (count size : ℕ) → Stands before q.ty → IsElement before q count size → IsElement after q count size
  element_grows q count size stands e =
      let more = complete_grows q.ty stands e.stands in
      record { constant = e.constant; volatile = e.volatile; stands = more.0; some = subst (λ n. 0 < n) (sym more.1) e.some; whole = e.whole ∙ ap (λ n. kept (count * n)) (sym more.1) }

  pub stands_grows : (o : Orderly before) (ty : Ty) → Stands before ty → Stands after ty
  stands_grows o Void h = tt
  stands_grows o (Int i) h = tt
  stands_grows o (Pointer row) h = (h.0, g.rows row h.0 h.1)
  stands_grows o (Array row n s) h = (h.0, g.rows row h.0 h.1, element_grows h.0 n s (o.rows row h.0 h.1) h.2)
  stands_grows o (Struct number) h = let t = g.shapes number h.0 h.1 in (t.0, t.1)

  pub member_grows : (o : Orderly before) (m : Field) (b : ℕ) → IsMember before m b → IsMember after m b
  member_grows o m b h =
      let more = complete_grows (m.ty).ty h.stands h.whole in
      record { offset = h.offset; stands = stands_grows o (m.ty).ty h.stands; whole = more.0; some = subst (λ n. 0 < n) (sym more.1) h.some; constant = h.constant }

  pub members_grow : (o : Orderly before) (b : ℕ) (ms : List (List ℕ × Field)) (size : ℕ) → AreMembers before b ms size → AreMembers after b ms size
  members_grow o b [] size h = h
  members_grow o b (m ∷ ms) size h = (
    member_grows o m.1 b h.0,
    subst (λ n. AreMembers after (kept (b + n)) ms size) (sym (complete_grows ((m.1).ty).ty (h.0).stands (h.0).whole).1)
        (members_grow o (kept (b + bytes_of before ((m.1).ty).ty)) ms size h.1),
  )

  pub shape_grows : (o : Orderly before) (s : Shape) → IsShape before s → IsShape after s
  shape_grows o s h = record { members = members_grow o 0 s.fields s.size h.members; some = h.some }

  whole_grows : (b : Bool) (ty : Ty) → Stands before ty → (is_complete before ty || b) ≡ true → (is_complete after ty || b) ≡ true
  whole_grows true ty stands h = or_right (is_complete after ty) true refl
  whole_grows false ty stands h = or_left (is_complete after ty) false (complete_grows ty stands (only (is_complete before ty) h)).0
    where
      only : (c : Bool) → (c || false) ≡ true → c ≡ true
      only true e = refl
      only false e = absurd (false≢true e)

  pub bound_grows : (o : Orderly before) (b : Binding) → IsBound before b → IsBound after b
  bound_grows o (ObjectName object q fixed) h = record {
    stands = stands_grows o q.ty h.stands;
    whole = whole_grows (is_array q.ty) q.ty h.stands h.whole;
    register = h.register;
    static = λ n e. let s = h.static n e in let t = g.statics n s.0 s.1 in (t.0, t.1, t.2 ∙ s.2);
  }
  bound_grows o (BitName register bit) h = tt
  bound_grows o (FunctionName n) h = tt
  bound_grows o (TypeNamed q waiting) h = stands_grows o q.ty h
  bound_grows o (EnumeratorName n) h = tt

  pub scope_grows : (o : Orderly before) (scope : Scope) → AreBound before scope → AreBound after scope
  scope_grows o scope h = all_more scope (λ e. bound_grows o e.1) h

  pub scopes_grow : (o : Orderly before) (scopes : List Scope) → Each (AreBound before) scopes → Each (AreBound after) scopes
  scopes_grow o scopes h = all_more scopes (scope_grows o) h

  tag_grows : (tag : Tag) → IsTag before tag → IsTag after tag
  tag_grows (StructTag number) h = let t = g.shapes number h.0 h.1 in (t.0, t.1)
  tag_grows EnumTag h = tt

  pub tags_grow : (tags : List (List ℕ × Tag)) → Each (λ e. IsTag before e.1) tags → Each (λ e. IsTag after e.1) tags
  tags_grow tags h = all_more tags (λ e. tag_grows e.1) h

  pub results_grow : (o : Orderly before) (s : Signature) → Stands before (s.result).ty × Each (Stands before) s.params → Stands after (s.result).ty × Each (Stands after) s.params
  results_grow o s h = (stands_grows o (s.result).ty h.0, all_more s.params (stands_grows o) h.1)

  -- A program that begins with the larger tables begins with the smaller ones, where functions are the same.
  pub begins_back : after.signatures ≡ before.signatures → (p : Program) → Begins after p → Begins before p
  begins_back same p b = record {
    rows = λ row q h. b.rows row q (g.rows row q h);
    structures = λ n s h. let t = g.shapes n s h in b.structures n t.0 t.1;
    closed = λ n s h closed. let t = g.shapes n s h in b.closed n s (t.1 ∙ ap Some (t.2 closed)) closed;
    functions = λ n d s h defined. b.functions n d s (ap (λ l. slice_get l n) same ∙ h) defined;
  }

-- ---- rules one behind the other

module _ (skip : Option ℕ) (inner : Bool) where
  pub runs_given : {A : Type 0} (P : A → Known → Type 0) (known : Known) (x : A) → Orderly known → P x known → Runs skip inner known P (Ok (x, known))
  unfolding Runs
  runs_given P known x o holds = record { spreads = spreads_less skip inner known known (spreads_itself known); orderly = o; holds = holds }

  pub runs_broken : {A : Type 0} (P : A → Known → Type 0) (known : Known) (fault : Fault) → Runs skip inner known P (Err fault)
  unfolding Runs
  runs_broken P known fault = tt

  pub runs_wider : {B : Type 0} (Q : B → Known → Type 0) (before mid : Known) (r : Result (B × Known) Fault) → Spreads skip inner before mid → Runs skip inner mid Q r → Runs skip inner before Q r
  unfolding Runs
  runs_wider Q before mid (Ok x) s g = record { spreads = spreads_on skip inner before mid x.1 s g.spreads; orderly = g.orderly; holds = g.holds }
  runs_wider Q before mid (Err fault) s g = tt

  pub runs_on : {A B : Type 0} (P : A → Known → Type 0) (Q : B → Known → Type 0) (before : Known) (r : Result (A × Known) Fault) (second : A → Rule B)
      → Runs skip inner before P r → ((x : A) (mid : Known) → Spreads skip inner before mid → Orderly mid → P x mid → Runs skip inner mid Q (second x mid)) → Runs skip inner before Q (go_on second r)
  unfolding Runs
  runs_on P Q before (Ok x) second g more = runs_wider Q before x.1 (second x.0 x.1) g.spreads (more x.0 x.1 g.spreads g.orderly g.holds)
  runs_on P Q before (Err fault) second g more = tt

  pub runs_test : {B : Type 0} (Q : B → Known → Type 0) (known : Known) (b : Bool) (kind : Kind) (tests : Tests) (line : ℕ) (second : Known → Rule B)
      → (b ≡ false → Runs skip inner known Q (go_on second (tried tests line known))) → Runs skip inner known Q (go_on second (tried ((b, kind) ∷ tests) line known))
  unfolding Runs
  runs_test Q known true kind tests line second more = tt
  runs_test Q known false kind tests line second more = more refl

  pub runs_wanted : {A B : Type 0} (Q : B → Known → Type 0) (known : Known) (o : Option A) (kind : Kind) (line : ℕ) (second : A → Rule B)
      → ((x : A) → o ≡ Some x → Runs skip inner known Q (second x known)) → Runs skip inner known Q (go_on second (wanted kind line o known))
  unfolding Runs
  runs_wanted Q known None kind line second more = tt
  runs_wanted Q known (Some x) kind line second more = more x refl

  pub runs_less : {B : Type 0} (Q : B → Known → Type 0) (before : Known) (r : Result (B × Known) Fault) → Runs None false before Q r → Runs skip inner before Q r
  unfolding Runs
  runs_less Q before (Ok x) g = record { spreads = spreads_less skip inner before x.1 g.spreads; orderly = g.orderly; holds = g.holds }
  runs_less Q before (Err fault) g = tt

-- What adds rows alone declares nothing else.
rows_spread : (known : Known) (ts us : List Qualified) → Adds ts us → Spreads None false (at known ts) (at known us)
rows_spread known ts us adds = record {
  grows = record { rows = adds; shapes = λ n s h. (s, h, λ e. refl); statics = λ n s h. (s, h, refl) };
  spared = λ n s h body free. h;
  scopes = enumerated_none known.scopes known.scopes refl;
  signatures = refl;
  definitions = refl;
  statics = refl;
  body = refl;
}

pub from_goes : {A : Type 0} (P : A → Known → Type 0) (known : Known) (r : Result (A × Known) Fault) → Goes known known.targets (λ us x. P x (at known us)) r → Runs None false known P r
unfolding Goes Runs
from_goes P known (Ok x) g = record {
  spreads = subst (Spreads None false known) (sym g.is) (rows_spread known known.targets g.rows g.adds);
  orderly = subst Orderly (sym g.is) g.orderly;
  holds = subst (P x.0) (sym g.is) g.holds;
}
from_goes P known (Err fault) g = tt
