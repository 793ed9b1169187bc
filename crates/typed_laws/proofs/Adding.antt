-- Tables that got one more object, whose names and statics are those of before and that one.
use Rattle.std.proofs.Common.{◌≡◌, ℕ, Bool, true, false, List, [], ◌∷◌, if◌then◌else◌, Some, Result, Ok, Err, refl, sym, ap, ◌∙◌, subst}
use Rattle.std.specs.Prelude.{slice_get}
use Rattle.std.specs.Str.{bytes_eq}
use Rattle.std.specs.Cmp.Lexicographic.{nat_list_eq_equiv}
use Rattle.c_typed.specs.Trees.{VariableTree, StaticTree}
use Rattle.c_typed.specs.declared.expression.Object.TheVariants as object
use Rattle.c_typed.specs.declared.types.Qualified.{Qualified}
use Rattle.type_rules.specs.Faults.{Fault}
use Rattle.type_rules.specs.Known.{Binding, ObjectName, BitName, FunctionName, TypeNamed, EnumeratorName, Scope, Known, Rule, go_on}
use Rattle.type_rules.specs.Names.{with_entry, bound_in}
use Rattle.type_rules.specs.Rows.{place_of_row}
use Rattle.typed_laws.specs.Going.{Goes}
use Rattle.typed_laws.specs.Living.{IsNamed, AreNamed, Steps}
use Rattle.typed_laws.specs.Spreading.{Grows}
use Rattle.typed_laws.specs.Tables.{at, Adds, Each, AreBound, IsTag, Orderly}
use Rattle.typed_laws.proofs.Lists.{all_more}
use Rattle.typed_laws.proofs.Spreading.{stands_grows, shape_grows, tags_grow, results_grow}

-- A rule that adds rows stands before one of a function's body.
pub goes_then : (inner : Bool) (params : List VariableTree) {A B : Type 0} (P : List Qualified → A → Type 0) (Q : B → Known → Type 0) (base known : Known) (ts : List Qualified) (r : Result (A × Known) Fault) (second : A → Rule B)
    → Goes known ts P r → ((x : A) (us : List Qualified) → Adds ts us → Orderly (at known us) → P us x → Steps inner params base Q (second x (at known us))) → Steps inner params base Q (go_on second r)
unfolding Goes Steps
goes_then inner params P Q base known ts (Ok x) second g more = subst (λ k. Steps inner params base Q (second x.0 k)) (sym g.is) (more x.0 g.rows g.adds g.orderly g.holds)
goes_then inner params P Q base known ts (Err fault) second g more = tt

-- Tables with the rows, structures and functions of others are in order where these are.
pub orderly_other : (before after : Known) → Grows before after → Orderly before → after.targets ≡ before.targets → after.shapes ≡ before.shapes → after.tags ≡ before.tags → after.signatures ≡ before.signatures → Each (AreBound after) after.scopes → Orderly after
orderly_other before after g o rows shapes tags signatures scopes = record {
  rows = λ row q h. stands_grows before after g o q.ty (o.rows row q (ap (λ l. slice_get l row) (sym rows) ∙ h));
  distinct = λ row q h. ap (λ l. place_of_row l q) rows ∙ o.distinct row q (ap (λ l. slice_get l row) (sym rows) ∙ h);
  shapes = λ n s h. shape_grows before after g o s (o.shapes n s (ap (λ l. slice_get l n) (sym shapes) ∙ h));
  scopes = scopes;
  tags = subst (Each (λ e. IsTag after e.1)) (sym tags) (tags_grow before after g before.tags o.tags);
  results = λ n s h. results_grow before after g o s (o.results n s (ap (λ l. slice_get l n) (sym signatures) ∙ h));
}

-- ---- names

-- what a name stood for, where static objects and locals stay
pub named_more : (params : List VariableTree) (before after : Known) → ((n : ℕ) (s : StaticTree) → slice_get before.statics n ≡ Some s → slice_get after.statics n ≡ Some s)
    → ((n : ℕ) (v : VariableTree) → slice_get (before.body).locals n ≡ Some v → slice_get (after.body).locals n ≡ Some v) → (b : Binding) → IsNamed params before b → IsNamed params after b
named_more params before after statics locals (ObjectName (object.Static n) q fixed) h = (h.0, statics n h.0 h.1, h.2)
named_more params before after statics locals (ObjectName (object.Param n) q fixed) h = h
named_more params before after statics locals (ObjectName (object.Local n) q fixed) h = (h.0, locals n h.0 h.1, h.2)
named_more params before after statics locals (ObjectName (object.Register n) q fixed) h = h
named_more params before after statics locals (BitName register bit) h = h
named_more params before after statics locals (FunctionName n) h = h
named_more params before after statics locals (TypeNamed q waiting) h = h
named_more params before after statics locals (EnumeratorName n) h = h

pub names_more : (params : List VariableTree) (before after : Known) → ((n : ℕ) (s : StaticTree) → slice_get before.statics n ≡ Some s → slice_get after.statics n ≡ Some s)
    → ((n : ℕ) (v : VariableTree) → slice_get (before.body).locals n ≡ Some v → slice_get (after.body).locals n ≡ Some v) → (scopes : List Scope) → Each (AreNamed params before) scopes → Each (AreNamed params after) scopes
names_more params before after statics locals scopes h = all_more scopes (λ scope all. all_more scope (λ e. named_more params before after statics locals e.1) all) h

-- ---- a name that is bound twice

same_name : (name : List ℕ) → bytes_eq name name ≡ true
same_name name = nat_list_eq_equiv.refl name

put_by : (b : Bool) (name : List ℕ) (x y : Binding) (e : List ℕ × Binding) (es rest rest2 : Scope) → bytes_eq e.0 name ≡ b → with_entry rest name y ≡ rest2
    → with_entry (if b then (name, x) ∷ es else e ∷ rest) name y ≡ (if b then (name, y) ∷ es else e ∷ rest2)
put_by true name x y e es rest rest2 is h = ap (λ c. if c then (name, y) ∷ es else (name, x) ∷ with_entry es name y) (same_name name)
put_by false name x y e es rest rest2 is h = ap (λ c. if c then (name, y) ∷ rest else e ∷ with_entry rest name y) is ∙ ap (λ l. e ∷ l) h

put_twice : (es : Scope) (name : List ℕ) (x y : Binding) → with_entry (with_entry es name x) name y ≡ with_entry es name y
put_twice [] name x y = ap (λ c. if c then (name, y) ∷ [] else (name, x) ∷ (name, y) ∷ []) (same_name name)
put_twice (e ∷ es) name x y = put_by (bytes_eq e.0 name) name x y e es (with_entry es name x) (with_entry es name y) refl (put_twice es name x y)

pub bound_twice : (scopes : List Scope) (name : List ℕ) (x y : Binding) → bound_in (bound_in scopes name x) name y ≡ bound_in scopes name y
bound_twice [] name x y = refl
bound_twice (scope ∷ scopes) name x y = ap (λ l. l ∷ scopes) (put_twice scope name x y)
