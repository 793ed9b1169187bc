-- What fits as a used value fits behind `*`, before `[` and as a statement too; and how an address fits.
use Rattle.std.proofs.Common.{◌≡◌, Bool, true, false, not, ◌&&◌, ◌||◌, Option, Some, None, refl, true≢false}
use Rattle.std.proofs.lemmas.Bool.{and_parts, and_from, or_right, false≢true}
use Rattle.c_ints.specs.declared.operators.BinOp.{BinOp}
use Rattle.c_ints.specs.declared.operators.BinOp.TheVariants as binop
use Rattle.c_typed.specs.Fits.{is_memory, is_reached, is_local_name, is_alone, is_indexed, leads_fits, operand_standing, fits, place_fits, rule_holds, Standing, Used, Pointed, Indexed, Alone}
use Rattle.c_typed.specs.Rules.{address_fits, is_start, is_writable, offset_fits, copy_fits}
use Rattle.c_typed.specs.Sameness.{is_pointer, is_struct, same_type, element_of}
use Rattle.c_typed.specs.Trees as tree
use Rattle.c_typed.specs.Trees.{Expression, Place, FunctionTree, Program}
use Rattle.c_typed.specs.Types.{type_of, place_type, type_bytes}
use Rattle.c_typed.specs.declared.types.Qualified.{Qualified}
use Rattle.c_typed.specs.declared.types.Ty.{Ty}
use Rattle.c_typed.specs.declared.types.Ty.TheVariants.{Void, Int, Pointer, Array, Struct}
use Rattle.std.specs.Prelude.{nat_eq}

-- an address where it stands
start_looser : (a s : Bool) (i r c : Bool) → (a || (s && (i || (r || c)))) ≡ true → (i ≡ false) → (j : Bool) → (a || (s && (j || (r || c)))) ≡ true
start_looser true s i r c h e j = refl
start_looser false true true r c h e j = absurd (true≢false e)
start_looser false true false r c h e j = or_right j (r || c) h
start_looser false false i r c h e j = absurd (false≢true h)

-- A used address fits at any place.
pub address_looser : (p : Program) (standing : Standing) (place : Place) (ty : Ty) → leads_fits p Used (is_memory place) (is_reached place) (place_type place) ty ≡ true → leads_fits p standing (is_memory place) (is_reached place) (place_type place) ty ≡ true
address_looser p standing place ty h =
    start_looser (address_fits p (is_memory place) (is_reached place) (place_type place) ty) (is_start p (place_type place) ty (element_of p (place_type place) (place_type place).ty)) false (is_reached place) (not (place_type place).constant) h refl (is_indexed standing)

copy_looser : (a b c : Bool) → (b && c) ≡ true → ((a || b) && c) ≡ true
copy_looser a b c h = let both = and_parts b c h in and_from (a || b) c (or_right a b both.0) both.1

module _ (p : Program) (f : FunctionTree) where
  loosened : (a b c : Bool) → (a ≡ true → c ≡ true) → (a && b) ≡ true → (c && b) ≡ true
  loosened a b c more h = let both = and_parts a b h in and_from c b (more both.0) both.1

  -- an index may be the start of a const array
  pub fits_indexed : (e : Expression) → fits p f Used e ≡ true → fits p f Indexed e ≡ true
  unfolding fits rule_holds
  fits_indexed (tree.Constant value line) h = h
  fits_indexed (tree.Read place ty line) h = h
  fits_indexed (tree.Address place ty line) h = loosened (leads_fits p Used (is_memory place) (is_reached place) (place_type place) ty) (place_fits p f place) (leads_fits p Indexed (is_memory place) (is_reached place) (place_type place) ty) (address_looser p Indexed place ty) h
  fits_indexed (tree.Convert operand ty line) h = h
  fits_indexed (tree.Cast operand ty line) h = h
  fits_indexed (tree.Unary op operand ty line) h = h
  fits_indexed (tree.Binary op left right ty line) h = h
  fits_indexed (tree.Offset op left right size ty line) h = h
  fits_indexed (tree.Difference left right size line) h = h
  fits_indexed (tree.Logical op left right line) h = h
  fits_indexed (tree.Conditional condition chosen otherwise ty line) h = h
  fits_indexed (tree.Comma left right ty line) h = h
  fits_indexed (tree.Assign place value ty line) h = h
  fits_indexed (tree.StructAssign place from size line) h = h
  fits_indexed (tree.Update op place value operation size ty line) h = h
  fits_indexed (tree.Step op place operation size ty line) h = h
  fits_indexed (tree.Call function arguments ty line) h = h

  offset_pointed : (op : BinOp) (left right : Expression) (r : Bool) → (r && (fits p f Used left && fits p f Used right)) ≡ true → (r && (fits p f (operand_standing Pointed op) left && fits p f (operand_standing Pointed op) right)) ≡ true
  offset_pointed binop.Add left right r h =
      let a = and_parts r (fits p f Used left && fits p f Used right) h in
      let b = and_parts (fits p f Used left) (fits p f Used right) a.1 in
      and_from r (fits p f Indexed left && fits p f Indexed right) a.0 (and_from (fits p f Indexed left) (fits p f Indexed right) (fits_indexed left b.0) (fits_indexed right b.1))
  offset_pointed _ left right r h = h

  pub fits_pointed : (e : Expression) → fits p f Used e ≡ true → fits p f Pointed e ≡ true
  unfolding fits rule_holds
  fits_pointed (tree.Constant value line) h = h
  fits_pointed (tree.Read place ty line) h = h
  fits_pointed (tree.Address place ty line) h = h
  fits_pointed (tree.Convert operand ty line) h = h
  fits_pointed (tree.Cast operand ty line) h = h
  fits_pointed (tree.Unary op operand ty line) h = h
  fits_pointed (tree.Binary op left right ty line) h = h
  fits_pointed (tree.Offset op left right size ty line) h = offset_pointed op left right (offset_fits p op (type_of left) (type_of right) size ty) h
  fits_pointed (tree.Difference left right size line) h = h
  fits_pointed (tree.Logical op left right line) h = h
  fits_pointed (tree.Conditional condition chosen otherwise ty line) h = h
  fits_pointed (tree.Comma left right ty line) h = h
  fits_pointed (tree.Assign place value ty line) h = h
  fits_pointed (tree.StructAssign place from size line) h = h
  fits_pointed (tree.Update op place value operation size ty line) h = h
  fits_pointed (tree.Step op place operation size ty line) h = h
  fits_pointed (tree.Call function arguments ty line) h = h

  pub fits_alone : (e : Expression) → fits p f Used e ≡ true → fits p f Alone e ≡ true
  unfolding fits rule_holds
  fits_alone (tree.Constant value line) h = h
  fits_alone (tree.Read place ty line) h = h
  fits_alone (tree.Address place ty line) h = h
  fits_alone (tree.Convert operand ty line) h = h
  fits_alone (tree.Cast operand ty line) h = h
  fits_alone (tree.Unary op operand ty line) h = h
  fits_alone (tree.Binary op left right ty line) h = h
  fits_alone (tree.Offset op left right size ty line) h = h
  fits_alone (tree.Difference left right size line) h = h
  fits_alone (tree.Logical op left right line) h = h
  fits_alone (tree.Conditional condition chosen otherwise ty line) h = h
  fits_alone (tree.Comma left right ty line) h = h
  fits_alone (tree.Assign place value ty line) h = h
  fits_alone (tree.StructAssign place from size line) h =
      loosened (copy_fits p (is_alone Used && is_local_name place) (place_type place) (place_type from) size) (place_fits p f place && place_fits p f from) (copy_fits p (is_alone Alone && is_local_name place) (place_type place) (place_type from) size)
      (copy_looser (is_local_name place) (is_writable (place_type place)) (is_struct (place_type place).ty && (same_type (place_type place).ty (place_type from).ty && nat_eq size (type_bytes p.sizes (place_type place).ty)))) h
  fits_alone (tree.Update op place value operation size ty line) h = h
  fits_alone (tree.Step op place operation size ty line) h = h
  fits_alone (tree.Call function arguments ty line) h = h

  -- An integer that fits before `[` fits where it is used.
  no_address : (ty : Ty) (place : Place) → is_pointer ty ≡ false → leads_fits p Indexed (is_memory place) (is_reached place) (place_type place) ty ≡ true → leads_fits p Used (is_memory place) (is_reached place) (place_type place) ty ≡ true
  no_address Void place n h = none (element_of p (place_type place) (place_type place).ty) h
    where
      none : (o : Option Qualified) → (is_start p (place_type place) Void o && (true || (is_reached place || not (place_type place).constant))) ≡ true → (is_start p (place_type place) Void o && (false || (is_reached place || not (place_type place).constant))) ≡ true
      none None h = absurd (false≢true h)
      none (Some q) h = absurd (false≢true h)
  no_address (Int i) place n h = none (element_of p (place_type place) (place_type place).ty) h
    where
      none : (o : Option Qualified) → (is_start p (place_type place) (Int i) o && (true || (is_reached place || not (place_type place).constant))) ≡ true → (is_start p (place_type place) (Int i) o && (false || (is_reached place || not (place_type place).constant))) ≡ true
      none None h = absurd (false≢true h)
      none (Some q) h = absurd (false≢true h)
  no_address (Pointer row) place n h = absurd (true≢false n)
  no_address (Array row m s) place n h = none (element_of p (place_type place) (place_type place).ty) h
    where
      none : (o : Option Qualified) → (is_start p (place_type place) (Array row m s) o && (true || (is_reached place || not (place_type place).constant))) ≡ true → (is_start p (place_type place) (Array row m s) o && (false || (is_reached place || not (place_type place).constant))) ≡ true
      none None h = absurd (false≢true h)
      none (Some q) h = absurd (false≢true h)
  no_address (Struct number) place n h = none (element_of p (place_type place) (place_type place).ty) h
    where
      none : (o : Option Qualified) → (is_start p (place_type place) (Struct number) o && (true || (is_reached place || not (place_type place).constant))) ≡ true → (is_start p (place_type place) (Struct number) o && (false || (is_reached place || not (place_type place).constant))) ≡ true
      none None h = absurd (false≢true h)
      none (Some q) h = absurd (false≢true h)

  pub integer_used : (e : Expression) → is_pointer (type_of e) ≡ false → fits p f Indexed e ≡ true → fits p f Used e ≡ true
  unfolding fits rule_holds
  integer_used (tree.Constant value line) n h = h
  integer_used (tree.Read place ty line) n h = h
  integer_used (tree.Address place ty line) n h = loosened (leads_fits p Indexed (is_memory place) (is_reached place) (place_type place) ty) (place_fits p f place) (leads_fits p Used (is_memory place) (is_reached place) (place_type place) ty) (no_address ty place n) h
  integer_used (tree.Convert operand ty line) n h = h
  integer_used (tree.Cast operand ty line) n h = h
  integer_used (tree.Unary op operand ty line) n h = h
  integer_used (tree.Binary op left right ty line) n h = h
  integer_used (tree.Offset op left right size ty line) n h = h
  integer_used (tree.Difference left right size line) n h = h
  integer_used (tree.Logical op left right line) n h = h
  integer_used (tree.Conditional condition chosen otherwise ty line) n h = h
  integer_used (tree.Comma left right ty line) n h = h
  integer_used (tree.Assign place value ty line) n h = h
  integer_used (tree.StructAssign place from size line) n h = h
  integer_used (tree.Update op place value operation size ty line) n h = h
  integer_used (tree.Step op place operation size ty line) n h = h
  integer_used (tree.Call function arguments ty line) n h = h
