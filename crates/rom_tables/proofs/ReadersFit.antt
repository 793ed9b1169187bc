-- The readers fit: each answers an element of its table, and what it points to has a row.
use Rattle.std.proofs.Common.{◌≡◌, ℕ, Bool, true, false, not, ◌&&◌, ◌||◌, nat_eq, Option, Some, None, option_map, refl, ap, ◌∙◌, slice_get}
use Rattle.std.specs.List.{list_all}
use Rattle.std.proofs.lemmas.Bool.{and_parts, and_from, or_left, or_right, false≢true}
use Rattle.c_ints.specs.declared.types.IntTy.TheVariants as int
use Rattle.c_ints.specs.declared.operators.BinOp.TheVariants as ops
use Rattle.c_typed.specs.Fits.{Used, Pointed, Indexed, leads_fits, static_type, is_named, is_open, is_reached, reached_by, array_reach, rule_holds, place_rule_holds, fits, place_fits, source_of, goes_to}
use Rattle.c_typed.specs.Rules.{read_fits, is_start, start_fits, address_fits, counts_in, moves, offset_fits, deref_fits}
use Rattle.c_typed.specs.Sameness.{same_type, same_flag, same_qualified, is_scalar, is_void, is_array, is_complete, is_index, is_the, part_of, element_of, pointed}
use Rattle.c_typed.specs.Sound.{value_fits, statement_fits, statements_fit, param_fits, local_fits, result_fits, function_fits, type_is_there}
use Rattle.c_typed.specs.Trees as tree
use Rattle.c_typed.specs.Trees.{Expression, Place, StaticTree, FunctionTree, Program}
use Rattle.c_typed.specs.Types.{type_bytes}
use Rattle.c_typed.specs.declared.types.Qualified.{Qualified}
use Rattle.c_typed.specs.declared.types.Ty.{Ty}
use Rattle.c_typed.specs.declared.types.Ty.TheVariants.{Void, Int, Pointer, Array, Struct}
use Rattle.rom_tables.specs.Outlined.{unsigned_int, row_of, type_in, element_type, element_type_of, element_qualified, table_start, reader_index, table_element, reader_for}
use Rattle.rom_tables.specs.Tables.{has_char, is_char_row, is_char_array, is_table}
use Rattle.typed_laws.proofs.Same.{same_type_refl, same_qualified_refl}

-- ---- a char type
pub record CharFacts (p : Program) (ty : Ty) : Type 0 where
  pub scalar : is_scalar ty ≡ true
  pub there : type_is_there p ty ≡ true
  pub single : is_array ty ≡ false
  pub complete : is_complete p ty ≡ true
  pub byte : type_bytes p.sizes ty ≡ 1

pub char_facts : (p : Program) (ty : Ty) → has_char ty ≡ true → CharFacts p ty
char_facts p (Int int.Char) h = record { scalar = refl; there = refl; single = refl; complete = refl; byte = refl }
char_facts p (Int int.SChar) h = record { scalar = refl; there = refl; single = refl; complete = refl; byte = refl }
char_facts p (Int int.UChar) h = record { scalar = refl; there = refl; single = refl; complete = refl; byte = refl }
char_facts p (Int _) h = absurd (false≢true h)
char_facts p Void h = absurd (false≢true h)
char_facts p (Pointer row) h = absurd (false≢true h)
char_facts p (Array element count size) h = absurd (false≢true h)
char_facts p (Struct number) h = absurd (false≢true h)

-- ---- the elements of a table
char_by : (found : Option Qualified) → is_char_row found ≡ true → has_char (type_in found) ≡ true
char_by None h = absurd (false≢true h)
char_by (Some row) h = h

char_of : (p : Program) (ty : Ty) → is_char_array p ty ≡ true → has_char (element_type_of p ty) ≡ true
char_of p (Array element count size) h = char_by (slice_get p.targets element) h
char_of p Void h = absurd (false≢true h)
char_of p (Int t) h = absurd (false≢true h)
char_of p (Pointer t) h = absurd (false≢true h)
char_of p (Struct t) h = absurd (false≢true h)

pub table_has_char : (p : Program) (s : StaticTree) → is_table p s ≡ true → has_char (element_type p s) ≡ true
table_has_char p s h = char_of p s.ty.ty (and_parts s.ty.constant (is_char_array p s.ty.ty) h).1

-- the elements' type, with the qualifiers of the table
part_by : (whole : Qualified) (found : Option Qualified) → whole.constant ≡ true → is_char_row found ≡ true → part_of whole found ≡ Some (record { ty = type_in found; constant = true; volatile = whole.volatile })
part_by whole None const h = absurd (false≢true h)
part_by whole (Some row) const h = ap (λ (b : Bool). Some (record { ty = row.ty; constant = b; volatile = whole.volatile })) const

element_by : (p : Program) (whole : Qualified) (ty : Ty) → whole.constant ≡ true → is_char_array p ty ≡ true → element_of p whole ty ≡ Some (record { ty = element_type_of p ty; constant = true; volatile = whole.volatile })
element_by p whole (Array element count size) const h = part_by whole (slice_get p.targets element) const h
element_by p whole Void const h = absurd (false≢true h)
element_by p whole (Int t) const h = absurd (false≢true h)
element_by p whole (Pointer t) const h = absurd (false≢true h)
element_by p whole (Struct t) const h = absurd (false≢true h)

-- ---- a reader
module _ (p : Program) (t : ℕ) (s : StaticTree) (table : is_table p s ≡ true) (there : slice_get p.statics t ≡ Some s) (row : slice_get p.targets (row_of p (element_qualified p s)) ≡ Some (element_qualified p s)) where
  chars : CharFacts p (element_type p s)
  chars = char_facts p (element_type p s) (table_has_char p s table)

  start_fits_here : fits p (reader_for p t s) Indexed (table_start p t s) ≡ true
  unfolding fits place_fits rule_holds place_rule_holds is_reached reached_by array_reach
  start_fits_here =
      let e = element_qualified p s in
      let k = and_parts s.ty.constant (is_char_array p s.ty.ty) table in
      let pty = Pointer (row_of p e) in
      and_from (leads_fits p Indexed true false s.ty pty) (is_named false (option_map static_type (slice_get p.statics t)) s.ty)
      (or_right (address_fits p true false s.ty pty) (start_fits p true false s.ty pty)
      (and_from (is_start p s.ty pty (element_of p s.ty s.ty.ty)) (true || (false || not s.ty.constant))
      (ap (is_start p s.ty pty) (element_by p s.ty s.ty.ty k.0 k.1) ∙ (ap (λ o. is_the o e) row ∙ same_qualified_refl e)) refl))
      (ap (λ o. is_named false (option_map static_type o) s.ty) there ∙ or_left (same_qualified s.ty s.ty) (false && (is_open s.ty.ty s.ty.ty && (same_flag s.ty.constant s.ty.constant && same_flag s.ty.volatile s.ty.volatile))) (same_qualified_refl s.ty))

  index_fits_here : fits p (reader_for p t s) Indexed (reader_index s.line) ≡ true
  unfolding fits place_fits rule_holds place_rule_holds
  index_fits_here = refl

  sum_fits_here : offset_fits p ops.Add (Pointer (row_of p (element_qualified p s))) unsigned_int 1 (Pointer (row_of p (element_qualified p s))) ≡ true
  sum_fits_here =
      let e = element_qualified p s in
      let pty = Pointer (row_of p e) in
      or_left (moves p pty unsigned_int 1 pty) (moves p unsigned_int pty 1 pty)
      (and_from (is_index unsigned_int) (counts_in p (pointed p pty) 1 && same_type pty pty) refl
      (and_from (counts_in p (pointed p pty) 1) (same_type pty pty)
      (ap (λ o. counts_in p o 1) row ∙ and_from (is_complete p (element_type p s)) (nat_eq 1 (type_bytes p.sizes (element_type p s))) chars.complete (ap (nat_eq 1) chars.byte))
      (same_type_refl pty)))

  element_fits_here : fits p (reader_for p t s) Used (table_element p t s) ≡ true
  unfolding fits place_fits rule_holds place_rule_holds
  element_fits_here =
      let e = element_qualified p s in
      let g = reader_for p t s in
      let pty = Pointer (row_of p e) in
      let pointer = tree.Offset ops.Add (table_start p t s) (reader_index s.line) 1 pty s.line in
      and_from (read_fits e (element_type p s)) (place_fits p g (tree.Deref pointer e s.line))
      (and_from (same_type (element_type p s) (element_type p s)) (not (is_array (element_type p s))) (same_type_refl (element_type p s)) (ap not chars.single))
      (and_from (deref_fits p pty e) (fits p g Pointed pointer)
      (and_from (is_the (pointed p pty) e) (is_complete p e.ty) (ap (λ o. is_the o e) row ∙ same_qualified_refl e) chars.complete)
      (and_from (offset_fits p ops.Add pty unsigned_int 1 pty) (fits p g Indexed (table_start p t s) && fits p g Indexed (reader_index s.line)) sum_fits_here
      (and_from (fits p g Indexed (table_start p t s)) (fits p g Indexed (reader_index s.line)) start_fits_here index_fits_here)))

  body_fits_here : statements_fit p (reader_for p t s) true false false (reader_for p t s).body ≡ true
  unfolding statement_fits statements_fit source_of
  body_fits_here =
      let g = reader_for p t s in
      let ty = element_type p s in
      and_from (value_fits p g ty (table_element p t s)) true
      (and_from (goes_to p None ty ty) (fits p g Used (table_element p t s))
      (and_from (is_scalar ty) (same_type ty ty && true) chars.scalar (and_from (same_type ty ty) true (same_type_refl ty) refl))
      element_fits_here) refl

  pub reader_fits : function_fits p (reader_for p t s) ≡ true
  reader_fits =
      let g = reader_for p t s in
      and_from (result_fits p g.result) (list_all (param_fits p) g.params && (list_all (local_fits p) g.locals && statements_fit p g true false false g.body))
      (and_from (is_scalar g.result || is_void g.result) (type_is_there p g.result) (or_left (is_scalar g.result) (is_void g.result) chars.scalar) chars.there)
      body_fits_here
