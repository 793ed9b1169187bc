-- The parts of an object, as the code finds them in its tables.
use Rattle.std.proofs.Common.{◌≡◌, ℕ, ◌+◌, ◌*◌, ◌%◌, ◌<◌, ◌^◌, Bool, true, false, not, ◌&&◌, if◌then◌else◌, nat_eq, nat_le, nat_lt, List, Option, Some, None, refl, sym, ap, ◌∙◌, arith}
use Rattle.std.specs.Option.{option_map}
use Rattle.std.proofs.lemmas.Grind.{common_steps}
use Rattle.c_typed.specs.Types.{kept}
use Rattle.c_typed.specs.declared.types.Qualified.{Qualified}
use Rattle.c_typed.specs.declared.types.Ty.{Ty}
use Rattle.c_typed.specs.declared.types.Ty.TheVariants.{Array}
use Rattle.type_rules.specs.Known.{Field, Known}
use Rattle.type_rules.specs.Rows.{like, target_of, bytes_of}
use Rattle.type_rules.specs.Slots.{Slot, element_slot, member_slot, part_by, is_char, char_array}

abbrev pub at_offset : Qualified → ℕ → Slot
at_offset ty offset = record { ty = ty; offset = offset }

pub element_is : (known : Known) (slot : Slot) (ty target : Qualified) (bytes offset n row : ℕ) → ty ≡ like slot.ty target.ty → target ≡ target_of known row → bytes ≡ bytes_of known ty.ty → offset ≡ kept (slot.offset + bytes * n) → at_offset ty offset ≡ element_slot known slot (like slot.ty (target_of known row).ty) n
element_is known slot ty target bytes offset n row made found counted behind =
    ap (λ o. at_offset ty o) (behind ∙ ap (λ b. kept (slot.offset + b * n)) counted)
    ∙ ap (λ y. at_offset y (kept (slot.offset + bytes_of known y.ty * n))) (made ∙ ap (λ t. like slot.ty t.ty) found)

once : (n : ℕ) → n * 1 ≡ n
once n = omega arith

-- A number of bytes as it is kept has a number for each byte of what is in memory behind it.
pub kept_near : (size n : ℕ) → n ≡ kept size → n < 2 ^ 63
kept_near size n is = by_size (nat_lt size (2 ^ 40)) refl is
  where
    by_size : (b : Bool) → nat_lt size (2 ^ 40) ≡ b → n ≡ (if b then size else size % 65536 + 2 ^ 40) → n < 2 ^ 63
    by_size true e made = grind (arith, common_steps)
    by_size false e made = omega (arith, made)

or_field : Field → Option Field → Field
or_field f None = f
or_field f (Some g) = g

pub member_is : (found : Option (List ℕ × Field)) (field : Field) (start offset : ℕ) → Some field ≡ option_map (λ m. m.1) found → offset ≡ kept (start + field.offset * 1) → Some (at_offset field.ty offset) ≡ member_slot start found
unfolding or_field
member_is None field start offset e behind = cc
member_is (Some m) field start offset e behind =
    ap (λ o. Some (at_offset field.ty o)) (behind ∙ ap (λ n. kept (start + n)) (once field.offset))
    ∙ ap (λ f. Some (at_offset f.ty (kept (start + f.offset)))) (ap (or_field field) e)

pub member_none : (found : Option (List ℕ × Field)) (start : ℕ) → None ≡ option_map (λ m. m.1) found → None ≡ member_slot start found
member_none None start e = refl
member_none (Some m) start e = cc

array_by : (known : Known) (slot : Slot) (ty : Ty) (row count size n : ℕ) (past : Bool) → ty ≡ Array row count size → past ≡ (not (nat_eq count 0) && nat_le count n) → part_by known slot ty n ≡ (if past then None else Some (element_slot known slot (like slot.ty (target_of known row).ty) n))
array_by known slot ty row count size n past is tested =
    ap (λ t. part_by known slot t n) is
    ∙ ap (λ (p : Bool). if p then None else Some (element_slot known slot (like slot.ty (target_of known row).ty) n)) (sym tested)

pub array_part : (known : Known) (slot : Slot) (ty : Ty) (row count size n : ℕ) (past : Bool) (s : Slot) → ty ≡ Array row count size → past ≡ (not (nat_eq count 0) && nat_le count n) → past ≡ false → s ≡ element_slot known slot (like slot.ty (target_of known row).ty) n → Some s ≡ part_by known slot ty n
array_part known slot ty row count size n past s is tested no_past e =
    ap Some e ∙ sym (array_by known slot ty row count size n past is tested ∙ ap (λ (p : Bool). if p then None else Some (element_slot known slot (like slot.ty (target_of known row).ty) n)) no_past)

pub array_past : (known : Known) (slot : Slot) (ty : Ty) (row count size n : ℕ) (past : Bool) → ty ≡ Array row count size → past ≡ (not (nat_eq count 0) && nat_le count n) → past ≡ true → None ≡ part_by known slot ty n
array_past known slot ty row count size n past is tested beyond =
    sym (array_by known slot ty row count size n past is tested ∙ ap (λ (p : Bool). if p then None else Some (element_slot known slot (like slot.ty (target_of known row).ty) n)) beyond)

-- ---- arrays of chars

char_by : (known : Known) (ty : Ty) (row count size : ℕ) (target : Qualified) (char : Bool) → ty ≡ Array row count size → target ≡ target_of known row → char ≡ is_char target.ty → char_array known ty ≡ (if char then Some count else None)
char_by known ty row count size target char is found tested =
    ap (char_array known) is ∙ ap (λ (p : Bool). if p then Some count else None) (sym (tested ∙ ap (λ t. is_char t.ty) found))

pub chars_found : (known : Known) (ty : Ty) (row count size : ℕ) (target : Qualified) (char : Bool) → ty ≡ Array row count size → target ≡ target_of known row → char ≡ is_char target.ty → char ≡ true → Some count ≡ char_array known ty
chars_found known ty row count size target char is found tested so = sym (char_by known ty row count size target char is found tested ∙ ap (λ (p : Bool). if p then Some count else None) so)

pub no_chars : (known : Known) (ty : Ty) (row count size : ℕ) (target : Qualified) (char : Bool) → ty ≡ Array row count size → target ≡ target_of known row → char ≡ is_char target.ty → char ≡ false → None ≡ char_array known ty
no_chars known ty row count size target char is found tested so = sym (char_by known ty row count size target char is found tested ∙ ap (λ (p : Bool). if p then Some count else None) so)
