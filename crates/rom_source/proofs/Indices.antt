-- Which number an index is: where the sum stays in the table, the argument of the reader is the index.
use Rattle.std.proofs.Common.{◌≡◌, ℕ, ◌-◌, ◌<◌, ◌≤◌, ◌⊎◌, Bool, true, false, ◌||◌, Some, None, refl, sym, ap, ◌∙◌, subst, ⊎_elim, arith, ℤ, pos, negsuc, ◌+ℤ◌, ◌-ℤ◌}
use Rattle.std.proofs.lemmas.Bool.{cases_lt}
use Rattle.std.proofs.lemmas.Grind.{common_steps}
use Rattle.std.proofs.lemmas.Int.{ints}
use Rattle.std.specs.Int.{int_rem_euclid}
use Rattle.std.specs.Prelude.{if◌then◌else◌, ◌*ℤ◌, int_lt}
use Rattle.c_ints.specs.Quantity.{Quantity}
use Rattle.c_ints.specs.Range.{cut, IsInRange}
use Rattle.c_ints.specs.declared.operators.BinOp.TheVariants as ops
use Rattle.c_ints.specs.declared.types.IntTy.{IntTy}
use Rattle.c_ints.specs.declared.types.IntTy.TheVariants as kind
use Rattle.c_typed.specs.Sameness.{same_type}
use Rattle.c_typed.specs.Trees.{Program}
use Rattle.c_typed.specs.declared.types.Ty.{Ty}
use Rattle.c_typed.specs.declared.types.Ty.TheVariants as types
use Rattle.rom_tables.specs.Outlined.{unsigned_int}
use Rattle.src_rules.proofs.Values.{same_type_is}
use Rattle.src_rules.specs.Standing.{HasType}
use Rattle.src_values.specs.Data as datum
use Rattle.src_values.specs.Data.{Datum}
use Rattle.src_values.specs.Objects.{object_bytes, moved, in_range}
use Rattle.src_values.specs.Values.{Answer, Gives, pointer_or_outside, offset_answer}
use Rattle.src_values.specs.declared.objects.Object.TheVariants.{Fixed}
use Rattle.src_values.specs.declared.objects.Pointer.TheVariants.{Into}

abbrev pub number : IntTy → ℕ → Datum
number ty j = datum.Number (record { ty = ty; number = pos j })

-- ---- the sum
-- the index is this number, and its element is in the object or just behind it
pub record IsIndex (p : Program) (n : ℕ) (v x : Datum) : Type 0 where
  pub at : ℕ
  pub ty : IntTy
  pub value : v ≡ number ty at
  pub near : at ≤ object_bytes p (Fixed n)
  pub leads : x ≡ datum.Pointer (Into (Fixed n) at)

abbrev pub IfGives : (Datum → Type 0) → Answer → Type 0
IfGives P (Gives x) = P x
IfGives P _ = Unit {0}

module _ (p : Program) (n : ℕ) where
  near_by : (ty : IntTy) (a : ℕ) (b : Bool) → int_lt (pos (object_bytes p (Fixed n))) (pos a) ≡ b
      → IfGives (IsIndex p n (number ty a)) (pointer_or_outside (in_range (Fixed n) (object_bytes p (Fixed n)) (pos a)))
  near_by ty a true e = let f : int_lt (pos a) (pos 0) ≡ false = grind (arith, ints, common_steps) in rw (f, e) tt
  near_by ty a false e = let f : int_lt (pos a) (pos 0) ≡ false = grind (arith, ints, common_steps) in rw (f, e) (record { at = a; ty = ty; value = refl; near = grind (arith, ints, common_steps); leads = refl })

  moved_by : (q : Quantity) → IfGives (IsIndex p n (datum.Number q)) (pointer_or_outside (moved p (Into (Fixed n) 0) (q.number *ℤ pos 1)))
  unfolding moved
  moved_by q = at q.ty q.number
    where
      at : (ty : IntTy) (z : ℤ) → IfGives (IsIndex p n (datum.Number (record { ty = ty; number = z }))) (pointer_or_outside (in_range (Fixed n) (object_bytes p (Fixed n)) (pos 0 +ℤ z *ℤ pos 1)))
      at ty (pos a) =
          let e : pos 0 +ℤ pos a *ℤ pos 1 ≡ pos a = omega (arith, ints) in
          subst (λ z. IfGives (IsIndex p n (number ty a)) (pointer_or_outside (in_range (Fixed n) (object_bytes p (Fixed n)) z))) (sym e) (near_by ty a (int_lt (pos (object_bytes p (Fixed n))) (pos a)) refl)
      at ty (negsuc a) =
          let e : pos 0 +ℤ negsuc a *ℤ pos 1 ≡ negsuc a = omega (arith, ints) in
          subst (λ z. IfGives (IsIndex p n (datum.Number (record { ty = ty; number = negsuc a }))) (pointer_or_outside (in_range (Fixed n) (object_bytes p (Fixed n)) z))) (sym e) tt

  pub left_sum : (v : Datum) → IfGives (IsIndex p n v) (offset_answer p ops.Add 1 (datum.Pointer (Into (Fixed n) 0)) v)
  unfolding offset_answer
  left_sum (datum.Number q) = moved_by q
  left_sum (datum.Pointer x) = tt
  left_sum datum.Missing = tt

  pub right_sum : (v : Datum) → IfGives (IsIndex p n v) (offset_answer p ops.Add 1 v (datum.Pointer (Into (Fixed n) 0)))
  unfolding offset_answer
  right_sum (datum.Number q) = moved_by q
  right_sum (datum.Pointer x) = tt
  right_sum datum.Missing = tt

  -- the same sum in the reader
  pub made_sum : (j : ℕ) → j ≤ object_bytes p (Fixed n) → offset_answer p ops.Add 1 (datum.Pointer (Into (Fixed n) 0)) (number kind.UInt j) ≡ Gives (datum.Pointer (Into (Fixed n) j))
  unfolding offset_answer moved
  made_sum j h =
      let e : pos 0 +ℤ pos j *ℤ pos 1 ≡ pos j = omega (arith, ints) in
      let f : int_lt (pos (object_bytes p (Fixed n))) (pos j) ≡ false = grind (arith, ints, common_steps) in
      let g : int_lt (pos j) (pos 0) ≡ false = grind (arith, ints, common_steps) in
      ap (λ z. pointer_or_outside (in_range (Fixed n) (object_bytes p (Fixed n)) z)) e ∙ ap (λ b. pointer_or_outside (if b || int_lt (pos (object_bytes p (Fixed n))) (pos j) then None else Some (Into (Fixed n) j))) g ∙ ap (λ b. pointer_or_outside (if b then None else Some (Into (Fixed n) j))) f

-- ---- the argument
-- what waits for a call passes this number, as it is or converted
abbrev pub Passes : Bool → Datum → ℕ → Type 0
Passes true u j = u ≡ number kind.UInt j
Passes false u j = (q : Quantity) × (u ≡ datum.Number q) × (cut kind.UInt q.number ≡ pos j)

-- where the index is a number from 0 on, the argument is that one
abbrev pub Meets : Bool → Datum → Datum → Type 0
Meets b u v = (j : ℕ) (ty : IntTy) → j < 65536 → v ≡ number ty j → Passes b u j

cut_small : (j : ℕ) → j < 65536 → cut kind.UInt (pos j) ≡ pos j
cut_small j h = omega (arith, ints)

abbrev number_of : Datum → ℤ
number_of (datum.Number q) = q.number
number_of _ = pos 0

abbrev type_in : Datum → IntTy
type_in (datum.Number q) = q.ty
type_in _ = kind.Int

abbrev int_in : Ty → IntTy
int_in (types.Int ty) = ty
int_in _ = kind.Int

module _ (p : Program) where
  -- an index that isn't converted in the given program
  pub meets_direct : (b : Bool) (ty : Ty) (v : Datum) → same_type ty unsigned_int ≡ b → HasType p ty v → Meets b v v
  meets_direct true ty v e h j t l is =
      let g = same_type_is ty unsigned_int e in
      let k : HasType p ty (number t j) = subst (HasType p ty) is h in
      let f : t ≡ kind.UInt = ap int_in (sym k.0 ∙ g) in
      is ∙ ap (λ t. number t j) f
  meets_direct false ty v e h j t l is = (record { ty = t; number = pos j }, is, cut_small j l)

  cut_again : (z : ℤ) (j : ℕ) → j < 65536 → cut kind.Int z ≡ pos j → cut kind.UInt z ≡ pos j
  cut_again (pos a) j l e = omega (arith, ints)
  cut_again (negsuc a) j l e = ⊎_elim (below a j l e) (above a j l e) (cases_lt a 32768)
    where
      below : (a j : ℕ) → j < 65536 → cut kind.Int (negsuc a) ≡ pos j → a < 32768 → cut kind.UInt (negsuc a) ≡ pos j
      below a j l e lt =
          let f : negsuc a -ℤ negsuc 0x7fff ≡ pos (32767 - a) = omega (arith, ints) in
          let g : negsuc 0x7fff +ℤ int_rem_euclid (pos (32767 - a)) (pos 65536) ≡ pos j = subst (λ z. negsuc 0x7fff +ℤ int_rem_euclid z (pos 65536) ≡ pos j) f e in
          absurd (omega (arith, ints))

      above : (a j : ℕ) → j < 65536 → cut kind.Int (negsuc a) ≡ pos j → 32768 ≤ a → cut kind.UInt (negsuc a) ≡ pos j
      above a j l e ge =
          let f : negsuc a -ℤ negsuc 0x7fff ≡ negsuc (a - 32768) = omega (arith, ints) in
          let g : negsuc 0x7fff +ℤ int_rem_euclid (negsuc (a - 32768)) (pos 65536) ≡ pos j = subst (λ z. negsuc 0x7fff +ℤ int_rem_euclid z (pos 65536) ≡ pos j) f e in
          let h : negsuc a -ℤ pos 0 ≡ negsuc a = omega (arith, ints) in
          subst (λ z. pos 0 +ℤ int_rem_euclid z (pos 65536) ≡ pos j) (sym h) (omega (arith, ints))

  -- a number of type unsigned int, and what is cut of it
  own_number : (z : ℤ) (j : ℕ) → IsInRange kind.UInt z → j < 65536 → cut kind.UInt z ≡ pos j → z ≡ pos j
  own_number (pos a) j r l e = let x = r.1 in omega (arith, ints)
  own_number (negsuc a) j r l e = let x = r.0 in absurd (omega (arith, ints))

  cut_as : (ty : IntTy) (z : ℤ) (j : ℕ) → (ty ≡ kind.Int) ⊎ (ty ≡ kind.UInt) → j < 65536 → cut ty z ≡ pos j → cut kind.UInt z ≡ pos j
  cut_as ty z j h l e = ⊎_elim (λ f. cut_again z j l (ap (λ t. cut t z) (sym f) ∙ e)) (λ f. ap (λ t. cut t z) (sym f) ∙ e) h

  -- one that is
  pub meets_converted : (b : Bool) (from : Ty) (to : IntTy) (q : Quantity) → (to ≡ kind.Int) ⊎ (to ≡ kind.UInt) → same_type from unsigned_int ≡ b → HasType p from (datum.Number q)
      → Meets b (datum.Number q) (datum.Number (record { ty = to; number = cut to q.number }))
  meets_converted true from to q h e typed j t l is =
      let g : cut to q.number ≡ pos j = ap number_of is in
      let f : q.ty ≡ kind.UInt = ap int_in (sym typed.0 ∙ same_type_is from unsigned_int e) in
      let z = own_number q.number j (subst (λ t. IsInRange t q.number) f typed.1) l (cut_as to q.number j h l g) in
      ap (λ t. datum.Number (record { ty = t; number = q.number })) f ∙ ap (λ z. datum.Number (record { ty = kind.UInt; number = z })) z
  meets_converted false from to q h e typed j t l is = (q, refl, cut_as to q.number j h l (ap number_of is))
