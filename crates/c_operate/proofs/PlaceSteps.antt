-- Operators on places: what each rule says, by what its parts are.
use Rattle.std.proofs.Common.{◌≡◌, ℕ, ◌%◌, Bool, true, not, List, [], ◌∷◌, Option, Some, None, Result, Ok, ap, ◌∙◌}
use Rattle.c_ints.specs.declared.types.IntTy.TheVariants as int
use Rattle.c_ints.specs.declared.operators.BinOp.TheVariants as binop
use Rattle.c_typed.specs.Trees as typed
use Rattle.c_typed.specs.Trees.{Expression, Place}
use Rattle.c_typed.specs.Types.{type_of, place_type}
use Rattle.c_typed.specs.declared.types.Qualified.{Qualified}
use Rattle.c_typed.specs.declared.types.Ty.{Ty}
use Rattle.type_rules.specs.Conversions.{converted}
use Rattle.type_rules.specs.Faults as kind
use Rattle.type_rules.specs.Faults.{Fault}
use Rattle.type_rules.specs.Known.{Field, Known, Rule, given, tried, wanted, go_on, ◌>>=◌}
use Rattle.type_rules.specs.Operations.{Operation}
use Rattle.type_rules.specs.Places.{object_pointed, reach_behind, dereference, element_at, address_of, address, member_in, member_of, member, part_type, size_of_type}
use Rattle.type_rules.specs.Rows.{pointer_to, bytes_of, is_complete}
use Rattle.type_rules.specs.Terms.{Reach, Form, ValueForm, PlaceForm, FunctionForm, TypeForm, Term, Operand, value_term, place_term, number_of_type, no_table, is_addressable, first_into}
use Rattle.c_terms.specs.Terms.{place_in}

-- ---- what is pointed to

abbrev pointed_then : Operand → ℕ → Option Qualified → Rule Term
pointed_then x line found = wanted kind.Operand line found >>= (λ ty. given (place_term (typed.Deref x.value ty line) (reach_behind x.into) line))

pub is_pointed : (x : Operand) (line : ℕ) (known : Known) (ty : Qualified) → object_pointed known (type_of x.value) ≡ Some ty → dereference x line known ≡ Ok (place_term (typed.Deref x.value ty line) (reach_behind x.into) line, known)
is_pointed x line known ty h = ap (λ found. pointed_then x line found known) h

-- ---- the place that a term is

form_in : Option (Place × Reach) → Form → Form
form_in None other = other
form_in (Some found) other = PlaceForm found.0 found.1

pub the_place : (form : Form) (place : Place) (reach : Reach) → place_in form ≡ Some (place, reach) → form ≡ PlaceForm place reach
unfolding form_in
the_place (ValueForm value) place reach h = cc
the_place (PlaceForm here by) place reach h = ap (λ found. form_in found (PlaceForm here by)) h
the_place (FunctionForm number bare) place reach h = cc
the_place TypeForm place reach h = cc

-- ---- `&`

abbrev typed_address : Place → ℕ → Ty → Rule Term
typed_address place line ty = given (value_term (typed.Address place ty line) line)

abbrev addressed_then : Place → ℕ → Bool → Rule Term
addressed_then place line addressable = tried ((not addressable, kind.Address) ∷ []) line >>= (λ _. pointer_to (place_type place) >>= typed_address place line)

pub is_addressed : (form : Form) (place : Place) (reach : Reach) (line : ℕ) (known mid : Known) (ty : Ty) → place_in form ≡ Some (place, reach) → is_addressable place reach ≡ true → pointer_to (place_type place) known ≡ Ok (ty, mid) → address_of form line known ≡ Ok (value_term (typed.Address place ty line) line, mid)
is_addressed form place reach line known mid ty h free e =
    ap (λ f. address_of f line known) (the_place form place reach h)
    ∙ (ap (λ addressable. addressed_then place line addressable known) free ∙ ap (go_on (typed_address place line)) e)

pub no_table_address : (t : Term) (line : ℕ) (known : Known) (said : Result (Term × Known) Fault) → no_table t known ≡ Ok (known, known) → address_of t.form line known ≡ said → address t line known ≡ said
no_table_address t line known said h e = ap (go_on (λ _. address_of t.form line)) h ∙ e

-- ---- `sizeof`

abbrev sized_then : Ty → ℕ → Known → Bool → Rule Term
sized_then ty line known complete = tried ((not complete, kind.Incomplete) ∷ []) line >>= (λ _. given (value_term (number_of_type int.UInt (bytes_of known ty % 65536) line) line))

pub has_size : (ty : Ty) (line : ℕ) (known : Known) → is_complete known ty ≡ true → size_of_type ty line known ≡ Ok (value_term (number_of_type int.UInt (bytes_of known ty % 65536) line) line, known)
has_size ty line known h = ap (λ complete. sized_then ty line known complete known) h

-- ---- `.` and `->`

abbrev pub member_term : Place → Reach → ℕ → ℕ × Field → Term
member_term place reach line found = place_term (typed.Member place found.0 (found.1).offset (part_type (place_type place) (found.1).ty) line) reach line

abbrev member_then : Place → Reach → ℕ → Option (ℕ × Field) → Rule Term
member_then place reach line found = wanted kind.Member line found >>= (λ m. given (member_term place reach line m))

pub is_member : (form : Form) (place : Place) (reach : Reach) (name : List ℕ) (line : ℕ) (known : Known) (found : ℕ × Field) → place_in form ≡ Some (place, reach) → member_in known (place_type place).ty name ≡ Some found → member_of form name line known ≡ Ok (member_term place reach line found, known)
is_member form place reach name line known found h some = ap (λ f. member_of f name line known) (the_place form place reach h) ∙ ap (λ m. member_then place reach line m known) some

pub no_table_member : (t : Term) (name : List ℕ) (line : ℕ) (known : Known) (said : Result (Term × Known) Fault) → no_table t known ≡ Ok (known, known) → member_of t.form name line known ≡ said → member t name line known ≡ said
no_table_member t name line known said h e = ap (go_on (λ _. member_of t.form name line)) h ∙ e

-- ---- terms that are made

pub placed_as : (term : Term) (place other : Place) (reach by : Reach) (line : ℕ) → term ≡ place_term place reach line → place ≡ other → reach ≡ by → term ≡ place_term other by line
placed_as term place other reach by line t p r = t ∙ (ap (λ q. place_term q reach line) p ∙ ap (λ q. place_term other q line) r)

pub valued_as : (term : Term) (value other : Expression) (line : ℕ) → term ≡ value_term value line → value ≡ other → term ≡ value_term other line
valued_as term value other line t v = t ∙ ap (λ q. value_term q line) v

-- the pointer of an element
pub offset_as : (left right first second : Expression) (size : ℕ) (ty : Ty) (line : ℕ) → left ≡ first → right ≡ second → typed.Offset binop.Add left right size ty line ≡ typed.Offset binop.Add first second size ty line
offset_as left right first second size ty line l r = ap (λ e. typed.Offset binop.Add e right size ty line) l ∙ ap (λ e. typed.Offset binop.Add first e size ty line) r

-- the member that a name finds
pub member_as : (term : Term) (place whole : Place) (reach : Reach) (line number index : ℕ) (field : Field) (of ty : Qualified) → term ≡ place_term place reach line → place ≡ typed.Member whole number field.offset ty line → number ≡ index → ty ≡ part_type of field.ty → of ≡ place_type whole → term ≡ member_term whole reach line (index, field)
member_as term place whole reach line number index field of ty t p n part w =
    t ∙ ap (λ q. place_term q reach line)
    (p ∙ (ap (λ k. typed.Member whole k field.offset ty line) n ∙ ap (λ q. typed.Member whole index field.offset q line) (part ∙ ap (λ q. part_type q field.ty) w)))

-- the element that a sum of a pointer and an integer leads to
pub element_as : (term : Term) (place : Place) (reach : Reach) (x y : Operand) (found : Operation) (ty : Qualified) (line : ℕ) (pointer left right : Expression) → term ≡ place_term place reach line → place ≡ typed.Deref pointer ty line → pointer ≡ typed.Offset binop.Add left right found.size found.ty line → left ≡ converted x found.left → right ≡ converted y found.right → reach ≡ reach_behind (first_into x.into y.into) → term ≡ element_at x y found ty line
element_as term place reach x y found ty line pointer left right t p o l r by =
    placed_as term place (typed.Deref (typed.Offset binop.Add (converted x found.left) (converted y found.right) found.size found.ty line) ty line) reach (reach_behind (first_into x.into y.into)) line t
    (p ∙ ap (λ e. typed.Deref e ty line) (o ∙ offset_as left right (converted x found.left) (converted y found.right) found.size found.ty line l r)) by
