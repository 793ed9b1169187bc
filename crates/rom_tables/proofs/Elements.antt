-- What a read of a table is in a sound program: its index is one, and fits by itself, and it has the type of the table's elements.
use Rattle.std.proofs.Common.{◌≡◌, ℕ, Bool, true, false, not, cond, ◌&&◌, ◌||◌, Option, Some, None, refl, sym, ap, ◌∙◌, is_some, slice_get}
use Rattle.std.specs.Option.{option_map}
use Rattle.std.proofs.lemmas.Bool.{and_left, and_parts, and_from, or_left, or_right, false≢true}
use Rattle.c_ints.specs.declared.operators.BinOp.{BinOp}
use Rattle.c_ints.specs.declared.operators.BinOp.TheVariants as binop
use Rattle.c_typed.specs.declared.expression.Object.TheVariants as object
use Rattle.c_typed.specs.Fits.{Used, Pointed, Indexed, leads_fits, static_type, is_named, is_open, is_converted, is_memory, is_null, is_reached, operand_standing, rule_holds, place_rule_holds, fits, place_fits}
use Rattle.c_typed.specs.Rules.{is_start, address_fits, start_fits, convert_fits, may_meet, counts_in, moves, offset_fits, read_fits, deref_fits}
use Rattle.c_typed.specs.Sameness.{same_type, same_flag, same_qualified, is_int, is_array, is_index, pointed, part_of, element_of, is_the, is_complete}
use Rattle.c_typed.specs.Trees as tree
use Rattle.c_typed.specs.Trees.{Expression, Expressions, Place, StaticTree, FunctionTree, Program}
use Rattle.c_typed.specs.Types.{type_of, place_type}
use Rattle.c_typed.specs.declared.types.Qualified.{Qualified}
use Rattle.c_typed.specs.declared.types.Ty.{Ty}
use Rattle.c_typed.specs.declared.types.Ty.TheVariants.{Void, Int, Pointer, Array, Struct}
use Rattle.rom_tables.specs.Outlined.{element_type, element_type_of, type_in, index_argument, unsigned_int}
use Rattle.rom_tables.specs.Tables.{is_table, is_char_array}
use Rattle.typed_laws.proofs.Same.{same_type_is, same_type_refl, same_qualified_is}

-- ---- an index
index_is_int : (ty : Ty) → is_index ty ≡ true → is_int ty ≡ true
index_is_int (Int ty) h = refl
index_is_int Void h = absurd (false≢true h)
index_is_int (Pointer row) h = absurd (false≢true h)
index_is_int (Array element count size) h = absurd (false≢true h)
index_is_int (Struct number) h = absurd (false≢true h)

no_start_at : (p : Program) (place : Qualified) (ty : Ty) (element : Option Qualified) → pointed p ty ≡ None → is_start p place ty element ≡ true → ⊥
no_start_at p place ty None none h = false≢true h
no_start_at p place ty (Some element) none h = false≢true (sym (ap (λ o. is_the o element) none) ∙ h)

no_lead : (p : Program) (place : Qualified) (ty : Ty) (a b : Bool) → pointed p ty ≡ None → ((is_the (pointed p ty) place && a) || (is_start p place ty (element_of p place place.ty) && b)) ≡ true → ⊥
no_lead p place ty a b none h = by_or (is_the (pointed p ty) place) (is_start p place ty (element_of p place place.ty)) (λ e. false≢true (sym (ap (λ o. is_the o place) none) ∙ e)) (no_start_at p place ty (element_of p place place.ty) none) h
  where
    by_or : (x y : Bool) → (x ≡ true → ⊥) → (y ≡ true → ⊥) → ((x && a) || (y && b)) ≡ true → ⊥
    by_or true y f g e = f refl
    by_or false true f g e = g refl
    by_or false false f g e = false≢true e

-- An index that stands beside a pointer fits as a value.
address_is_used : (p : Program) (f : FunctionTree) (place : Place) (ty : Ty) (line : ℕ) → is_index ty ≡ true → fits p f Indexed (tree.Address place ty line) ≡ true → fits p f Used (tree.Address place ty line) ≡ true
unfolding fits rule_holds
address_is_used p f place (Int ty) line is h = absurd (no_lead p (place_type place) (Int ty) (is_memory place && (is_reached place || not (place_type place).constant)) (true || (is_reached place || not (place_type place).constant)) refl (and_parts (leads_fits p Indexed (is_memory place) (is_reached place) (place_type place) (Int ty)) (place_fits p f place) h).0)
address_is_used p f place Void line is h = absurd (false≢true is)
address_is_used p f place (Pointer row) line is h = absurd (false≢true is)
address_is_used p f place (Array element count size) line is h = absurd (false≢true is)
address_is_used p f place (Struct number) line is h = absurd (false≢true is)

pub index_is_used : (p : Program) (f : FunctionTree) (e : Expression) → is_index (type_of e) ≡ true → fits p f Indexed e ≡ true → fits p f Used e ≡ true
unfolding fits rule_holds
index_is_used p f (tree.Address place ty line) is h = address_is_used p f place ty line is h
index_is_used p f (tree.Constant value line) is h = h
index_is_used p f _ is h = h

-- ---- an index as an argument
unsigned_by : (p : Program) (f : FunctionTree) (e : Expression) (line : ℕ) (same : Bool) → same_type (type_of e) unsigned_int ≡ same → is_converted e ≡ false → is_int (type_of e) ≡ true → fits p f Used e ≡ true → fits p f Used (cond same e (tree.Convert e unsigned_int line)) ≡ true
unfolding fits rule_holds
unsigned_by p f e line true is plain number h = h
unsigned_by p f e line false is plain number h =
    and_from (not (is_converted e) && convert_fits p (is_null e) (type_of e) unsigned_int) (fits p f Used e)
    (and_from (not (is_converted e)) (convert_fits p (is_null e) (type_of e) unsigned_int) (ap not plain)
    (and_from (not (same_type (type_of e) unsigned_int)) ((is_int (type_of e) && is_int unsigned_int) || ((is_null e && is_some (pointed p unsigned_int)) || may_meet (pointed p (type_of e)) (pointed p unsigned_int))) (ap not is)
    (or_left (is_int (type_of e) && is_int unsigned_int) ((is_null e && is_some (pointed p unsigned_int)) || may_meet (pointed p (type_of e)) (pointed p unsigned_int)) (and_from (is_int (type_of e)) (is_int unsigned_int) number refl)))) h

unsigned_typed : (e : Expression) (line : ℕ) (same : Bool) → same_type (type_of e) unsigned_int ≡ same → same_type (type_of (cond same e (tree.Convert e unsigned_int line))) unsigned_int ≡ true
unsigned_typed e line true is = is
unsigned_typed e line false is = refl

never_meets : (a : Option Qualified) → may_meet a None ≡ false
never_meets None = refl
never_meets (Some x) = refl

from_int : (n b c d : Bool) → d ≡ false → (n && ((b && true) || ((c && false) || d))) ≡ true → b ≡ true
from_int n true c d never h = refl
from_int n false true d never h = absurd (false≢true (sym never ∙ (and_parts n d h).1))
from_int n false false d never h = absurd (false≢true (sym never ∙ (and_parts n d h).1))

converts_int : (p : Program) (null : Bool) (from to : Ty) → is_index to ≡ true → convert_fits p null from to ≡ true → is_int from ≡ true
converts_int p null from (Int to) is h = from_int (not (same_type from (Int to))) (is_int from) null (may_meet (pointed p from) None) (never_meets (pointed p from)) h
converts_int p null from Void is h = absurd (false≢true is)
converts_int p null from (Pointer row) is h = absurd (false≢true is)
converts_int p null from (Array element count size) is h = absurd (false≢true is)
converts_int p null from (Struct number) is h = absurd (false≢true is)

not_true : (b : Bool) → not b ≡ true → b ≡ false
not_true false n = refl
not_true true n = absurd (false≢true n)

pub argument_fits : (p : Program) (f : FunctionTree) (e : Expression) (line : ℕ) → is_index (type_of e) ≡ true → fits p f Used e ≡ true → fits p f Used (index_argument e line) ≡ true
unfolding fits rule_holds is_converted
argument_fits p f (tree.Convert e ty at) line is h =
    let parts = and_parts (not (is_converted e) && convert_fits p (is_null e) (type_of e) ty) (fits p f Used e) h in
    let rule = and_parts (not (is_converted e)) (convert_fits p (is_null e) (type_of e) ty) parts.0 in
    unsigned_by p f e at (same_type (type_of e) unsigned_int) refl (not_true (is_converted e) rule.0) (converts_int p (is_null e) (type_of e) ty is rule.1) parts.1
argument_fits p f (tree.Constant value at) line is h = unsigned_by p f (tree.Constant value at) line (same_type (type_of (tree.Constant value at)) unsigned_int) refl refl (index_is_int (type_of (tree.Constant value at)) is) h
argument_fits p f e line is h = unsigned_by p f e line (same_type (type_of e) unsigned_int) refl refl (index_is_int (type_of e) is) h

pub argument_typed : (e : Expression) (line : ℕ) → same_type (type_of (index_argument e line)) unsigned_int ≡ true
argument_typed (tree.Convert e ty at) line = unsigned_typed e at (same_type (type_of e) unsigned_int) refl
argument_typed (tree.Constant value at) line = unsigned_typed (tree.Constant value at) line (same_type (type_of (tree.Constant value at)) unsigned_int) refl
argument_typed e line = unsigned_typed e line (same_type (type_of e) unsigned_int) refl

-- ---- where a table's start may stand
no_address : (t b : Bool) → b ≡ true → (t && (true && (false || not b))) ≡ true → ⊥
no_address true true e h = false≢true h
no_address false true e h = false≢true h
no_address t false e h = false≢true e

no_start_used : (t b : Bool) → b ≡ true → (t && (false || (false || not b))) ≡ true → ⊥
no_start_used true true e h = false≢true h
no_start_used false true e h = false≢true h
no_start_used t false e h = false≢true e

second_of : (x y : Bool) → (x ≡ true → ⊥) → (x || y) ≡ true → y ≡ true
second_of true y never h = absurd (never refl)
second_of false y never h = h

-- A const array that no pointer leads to is no operand but where an index is.
used_start : (p : Program) (place : Qualified) (ty : Ty) → place.constant ≡ true → leads_fits p Used true false place ty ≡ true → ⊥
used_start p place ty const h =
    no_start_used (is_start p place ty (element_of p place place.ty)) place.constant const
    (second_of (address_fits p true false place ty) (start_fits p false false place ty) (no_address (is_the (pointed p ty) place) place.constant const) h)

indexed_start : (p : Program) (place : Qualified) (ty : Ty) → place.constant ≡ true → leads_fits p Indexed true false place ty ≡ true → is_start p place ty (element_of p place place.ty) ≡ true
indexed_start p place ty const h =
    (and_parts (is_start p place ty (element_of p place place.ty)) (true || (false || not place.constant))
    (second_of (address_fits p true false place ty) (start_fits p true false place ty) (no_address (is_the (pointed p ty) place) place.constant const) h)).0

-- ---- the types of a read
first_of : (x y : Bool) → y ≡ false → (x || y) ≡ true → x ≡ true
first_of true y never h = refl
first_of false y never h = absurd (false≢true (sym never ∙ h))

-- what is read is an element, and the other operand an index
typed_by : (p : Program) (row x tq : Qualified) (found : Option Qualified) (size : ℕ) (atype index pty ty : Ty) → pointed p atype ≡ found → same_type x.ty row.ty ≡ true → is_the found x ≡ true → (is_index index && (counts_in p found size && same_type atype pty)) ≡ true → is_the (pointed p pty) tq ≡ true → read_fits tq ty ≡ true → (same_type row.ty ty ≡ true) × (is_index index ≡ true)
typed_by p row x tq None size atype index pty ty at like there moved target read = absurd (false≢true there)
typed_by p row x tq (Some y) size atype index pty ty at like there moved target read =
    let m = and_parts (is_index index) (counts_in p (Some y) size && same_type atype pty) moved in
    let t = same_type_is atype pty (and_parts (counts_in p (Some y) size) (same_type atype pty) m.1).1 in
    let q = same_qualified_is y tq (sym (ap (λ o. is_the o tq) (ap (pointed p) (sym t) ∙ at)) ∙ target) in
    let r = (and_parts (same_type tq.ty ty) (not (is_array ty)) read).0 in
    let k = same_qualified_is y x there in
    (ap (λ u. same_type u ty) (sym (same_type_is x.ty row.ty like) ∙ sym (ap (λ (z : Qualified). z.ty) k) ∙ ap (λ (z : Qualified). z.ty) q) ∙ r, m.0)

-- a pointer is no index
pointer_no_index : (p : Program) (ty : Ty) (x : Qualified) → is_the (pointed p ty) x ≡ true → is_index ty ≡ false
pointer_no_index p (Pointer row) x h = refl
pointer_no_index p Void x h = absurd (false≢true h)
pointer_no_index p (Int ty) x h = absurd (false≢true h)
pointer_no_index p (Array element count size) x h = absurd (false≢true h)
pointer_no_index p (Struct number) x h = absurd (false≢true h)

row_types : (p : Program) (whole tq : Qualified) (row : Option Qualified) (size : ℕ) (atype index pty ty : Ty) → is_start p whole atype (part_of whole row) ≡ true → (moves p atype index size pty || moves p index atype size pty) ≡ true → is_the (pointed p pty) tq ≡ true → read_fits tq ty ≡ true → (same_type (type_in row) ty ≡ true) × (is_index index ≡ true)
row_types p whole tq None size atype index pty ty start moved target read = absurd (false≢true start)
row_types p whole tq (Some row) size atype index pty ty start moved target read =
    let x : Qualified = record { ty = row.ty; constant = whole.constant; volatile = whole.volatile } in
    typed_by p row x tq (pointed p atype) size atype index pty ty refl (same_type_refl row.ty) start
    (first_of (moves p atype index size pty) (moves p index atype size pty) (and_left (is_index atype) (counts_in p (pointed p index) size && same_type index pty) (pointer_no_index p atype x start)) moved) target read

array_types : (p : Program) (whole tq : Qualified) (wty : Ty) (size : ℕ) (atype index pty ty : Ty) → is_char_array p wty ≡ true → is_start p whole atype (element_of p whole wty) ≡ true → (moves p atype index size pty || moves p index atype size pty) ≡ true → is_the (pointed p pty) tq ≡ true → read_fits tq ty ≡ true → (same_type (element_type_of p wty) ty ≡ true) × (is_index index ≡ true)
array_types p whole tq (Array element count all) size atype index pty ty table start moved target read = row_types p whole tq (slice_get p.targets element) size atype index pty ty start moved target read
array_types p whole tq Void size atype index pty ty table start moved target read = absurd (false≢true table)
array_types p whole tq (Int t) size atype index pty ty table start moved target read = absurd (false≢true table)
array_types p whole tq (Pointer t) size atype index pty ty table start moved target read = absurd (false≢true table)
array_types p whole tq (Struct t) size atype index pty ty table start moved target read = absurd (false≢true table)

-- ---- a read of a table
pub record IsElement (p : Program) (f : FunctionTree) (s : StaticTree) (index : Expression) (ty : Ty) : Type 0 where
  pub typed : same_type (element_type p s) ty ≡ true
  pub number : is_index (type_of index) ≡ true
  pub fitting : fits p f Used index ≡ true

named_as : (p : Program) (s : StaticTree) (n : ℕ) (q : Qualified) → slice_get p.statics n ≡ Some s → is_named false (option_map static_type (slice_get p.statics n)) q ≡ true → s.ty ≡ q
named_as p s n q there h =
    same_qualified_is s.ty q (first_of (same_qualified s.ty q) (false && (is_open s.ty.ty q.ty && (same_flag s.ty.constant q.constant && same_flag s.ty.volatile q.volatile))) refl
    (sym (ap (λ o. is_named false (option_map static_type o) q) there) ∙ h))

element_by : (p : Program) (f : FunctionTree) (s : StaticTree) (index : Expression) (size : ℕ) (atype pty ty : Ty) (sq tq : Qualified) → s.ty ≡ sq → is_table p s ≡ true → leads_fits p Indexed true false sq atype ≡ true → (moves p atype (type_of index) size pty || moves p (type_of index) atype size pty) ≡ true → is_the (pointed p pty) tq ≡ true → read_fits tq ty ≡ true → fits p f Indexed index ≡ true → IsElement p f s index ty
element_by p f s index size atype pty ty sq tq same table lead moved target read fit =
    let t = and_parts s.ty.constant (is_char_array p s.ty.ty) table in
    let start = indexed_start p s.ty atype t.0 (ap (λ q. leads_fits p Indexed true false q atype) same ∙ lead) in
    let a = array_types p s.ty tq s.ty.ty size atype (type_of index) pty ty t.1 start moved target read in
    record { typed = a.0; number = a.1; fitting = index_is_used p f index a.1 fit }

const_as : (p : Program) (s : StaticTree) (sq : Qualified) → s.ty ≡ sq → is_table p s ≡ true → sq.constant ≡ true
const_as p s sq same table = sym (ap (λ (q : Qualified). q.constant) same) ∙ (and_parts s.ty.constant (is_char_array p s.ty.ty) table).0

other_way : (a b : Bool) → (a || b) ≡ true → (b || a) ≡ true
other_way true b h = or_right b true refl
other_way false true h = refl
other_way false false h = h

module _ (p : Program) (f : FunctionTree) (s : StaticTree) (n : ℕ) (there : slice_get p.statics n ≡ Some s) (table : is_table p s ≡ true) (sq : Qualified) (sl : ℕ) (atype : Ty) (al : ℕ) (size : ℕ) (pty : Ty) (pat : ℕ) (tq : Qualified) (at : ℕ) (ty : Ty) (index : Expression) where
  pub left_element : (op : BinOp) → place_fits p f (tree.Deref (tree.Offset op (tree.Address (tree.Name (object.Static n) sq sl) atype al) index size pty pat) tq at) ≡ true → read_fits tq ty ≡ true → IsElement p f s index ty
  unfolding fits place_fits rule_holds place_rule_holds is_reached
  left_element binop.Add h read =
      let d = and_parts (deref_fits p pty tq) (fits p f Pointed (tree.Offset binop.Add (tree.Address (tree.Name (object.Static n) sq sl) atype al) index size pty pat)) h in
      let o = and_parts (offset_fits p binop.Add atype (type_of index) size pty) (fits p f Indexed (tree.Address (tree.Name (object.Static n) sq sl) atype al) && fits p f Indexed index) d.1 in
      let b = and_parts (fits p f Indexed (tree.Address (tree.Name (object.Static n) sq sl) atype al)) (fits p f Indexed index) o.1 in
      let a = and_parts (leads_fits p Indexed true false sq atype) (is_named false (option_map static_type (slice_get p.statics n)) sq) b.0 in
      element_by p f s index size atype pty ty sq tq (named_as p s n sq there a.1) table a.0 o.0 (and_parts (is_the (pointed p pty) tq) (is_complete p tq.ty) d.0).0 read b.1
  left_element binop.Sub h read =
      let d = and_parts (deref_fits p pty tq) (fits p f Pointed (tree.Offset binop.Sub (tree.Address (tree.Name (object.Static n) sq sl) atype al) index size pty pat)) h in
      let o = and_parts (offset_fits p binop.Sub atype (type_of index) size pty) (fits p f Used (tree.Address (tree.Name (object.Static n) sq sl) atype al) && fits p f Used index) d.1 in
      let b = and_parts (fits p f Used (tree.Address (tree.Name (object.Static n) sq sl) atype al)) (fits p f Used index) o.1 in
      let a = and_parts (leads_fits p Used true false sq atype) (is_named false (option_map static_type (slice_get p.statics n)) sq) b.0 in
      absurd (used_start p sq atype (const_as p s sq (named_as p s n sq there a.1) table) a.0)
  left_element op h read =
      let d = and_parts (deref_fits p pty tq) (fits p f Pointed (tree.Offset op (tree.Address (tree.Name (object.Static n) sq sl) atype al) index size pty pat)) h in
      absurd (false≢true (and_parts (offset_fits p op atype (type_of index) size pty) (fits p f (operand_standing Pointed op) (tree.Address (tree.Name (object.Static n) sq sl) atype al) && fits p f (operand_standing Pointed op) index) d.1).0)

  pub right_element : (op : BinOp) → place_fits p f (tree.Deref (tree.Offset op index (tree.Address (tree.Name (object.Static n) sq sl) atype al) size pty pat) tq at) ≡ true → read_fits tq ty ≡ true → IsElement p f s index ty
  unfolding fits place_fits rule_holds place_rule_holds is_reached
  right_element binop.Add h read =
      let d = and_parts (deref_fits p pty tq) (fits p f Pointed (tree.Offset binop.Add index (tree.Address (tree.Name (object.Static n) sq sl) atype al) size pty pat)) h in
      let o = and_parts (offset_fits p binop.Add (type_of index) atype size pty) (fits p f Indexed index && fits p f Indexed (tree.Address (tree.Name (object.Static n) sq sl) atype al)) d.1 in
      let b = and_parts (fits p f Indexed index) (fits p f Indexed (tree.Address (tree.Name (object.Static n) sq sl) atype al)) o.1 in
      let a = and_parts (leads_fits p Indexed true false sq atype) (is_named false (option_map static_type (slice_get p.statics n)) sq) b.1 in
      element_by p f s index size atype pty ty sq tq (named_as p s n sq there a.1) table a.0 (other_way (moves p (type_of index) atype size pty) (moves p atype (type_of index) size pty) o.0) (and_parts (is_the (pointed p pty) tq) (is_complete p tq.ty) d.0).0 read b.0
  right_element binop.Sub h read =
      let d = and_parts (deref_fits p pty tq) (fits p f Pointed (tree.Offset binop.Sub index (tree.Address (tree.Name (object.Static n) sq sl) atype al) size pty pat)) h in
      let o = and_parts (offset_fits p binop.Sub (type_of index) atype size pty) (fits p f Used index && fits p f Used (tree.Address (tree.Name (object.Static n) sq sl) atype al)) d.1 in
      let b = and_parts (fits p f Used index) (fits p f Used (tree.Address (tree.Name (object.Static n) sq sl) atype al)) o.1 in
      let a = and_parts (leads_fits p Used true false sq atype) (is_named false (option_map static_type (slice_get p.statics n)) sq) b.1 in
      absurd (used_start p sq atype (const_as p s sq (named_as p s n sq there a.1) table) a.0)
  right_element op h read =
      let d = and_parts (deref_fits p pty tq) (fits p f Pointed (tree.Offset op index (tree.Address (tree.Name (object.Static n) sq sl) atype al) size pty pat)) h in
      absurd (false≢true (and_parts (offset_fits p op (type_of index) atype size pty) (fits p f (operand_standing Pointed op) index && fits p f (operand_standing Pointed op) (tree.Address (tree.Name (object.Static n) sq sl) atype al)) d.1).0)
