-- Tables that are in order make a sound program of sound functions.
use Rattle.std.proofs.Common.{◌≡◌, ℕ, zero, suc, ◌+◌, ◌*◌, ◌<◌, ◌≤◌, Bool, true, false, not, ◌&&◌, ◌||◌, nat_eq, nat_lt, nat_le, List, [], ◌∷◌, map, Some, refl, sym, ap, ◌∙◌, subst, arith, true≢false}
use Rattle.std.specs.Prelude.{slice_get}
use Rattle.std.specs.List.{list_all}
use Rattle.std.proofs.lemmas.Bool.{and_from}
use Rattle.std.proofs.lemmas.Grind.{common_steps}
use Rattle.std.proofs.lemmas.Option.{same_Some}
use Rattle.c_typed.specs.Sameness.{is_void, is_array, is_struct, is_scalar}
use Rattle.c_typed.specs.Sameness.{is_complete as is_whole}
use Rattle.c_typed.specs.Sound.{is_changeable, array_is_there, type_is_there, target_fits, object_fits, members_fit, has_bytes, structure_fits, byte_fits, initial_fits, static_fits, result_fits, is_sound, function_fits}
use Rattle.c_typed.specs.Trees.{StaticTree, FunctionTree, Program}
use Rattle.c_typed.specs.Types.{type_bytes, kept}
use Rattle.c_typed.specs.declared.program.Initial.{Initial}
use Rattle.c_typed.specs.declared.program.InitialByte.{InitialByte}
use Rattle.c_typed.specs.declared.program.InitialByte.TheVariants as initial
use Rattle.c_typed.specs.declared.types.Ty.{Ty}
use Rattle.c_typed.specs.declared.types.Ty.TheVariants.{Void, Int, Pointer, Array, Struct}
use Rattle.type_rules.specs.Known.{Field, Shape, Known}
use Rattle.type_rules.specs.Rows.{bytes_of}
use Rattle.type_rules.specs.Units.{member_tree, structure_tree}
use Rattle.typed_laws.specs.Chains.{InitialsIn, IsByte}
use Rattle.typed_laws.specs.Living.{IsSized, IsStatic}
use Rattle.typed_laws.specs.Tables.{Stands, IsElement, AreMembers, IsShape, Orderly, Begins}
use Rattle.typed_laws.proofs.Lists.{none_is, is_there}
use Rattle.typed_laws.proofs.Meeting.{whole_in}
use Rattle.typed_laws.proofs.Same.{same_nat_refl}
use Rattle.typed_laws.proofs.Structures.{some_size}

-- ---- lists by places

pub all_at : {A : Type 0} (test : A → Bool) (xs : List A) → ((i : ℕ) (x : A) → slice_get xs i ≡ Some x → test x ≡ true) → list_all test xs ≡ true
all_at test [] h = refl
all_at test (x ∷ xs) h = and_from (test x) (list_all test xs) (h 0 x refl) (all_at test xs (λ i y e. h (suc i) y e))

pub mapped_from : {A B : Type 0} (view : A → B) (xs : List A) (i : ℕ) (y : B) → slice_get (map view xs) i ≡ Some y → (x : A) × (slice_get xs i ≡ Some x) × (view x ≡ y)
mapped_from view [] i y h = absurd (none_is h)
mapped_from view (x ∷ xs) zero y h = (x, refl, same_Some (view x) y h)
mapped_from view (x ∷ xs) (suc i) y h = mapped_from view xs i y h

above_zero : (n : ℕ) → 0 < n → nat_lt 0 n ≡ true
above_zero n h = grind (arith, common_steps)

le_from : (m n : ℕ) → m ≤ n → nat_le m n ≡ true
le_from m n h = grind (arith, common_steps)

lt_from : (m n : ℕ) → m < n → nat_lt m n ≡ true
lt_from m n h = grind (arith, common_steps)

module _ (known : Known) (o : Orderly known) (p : Program) (b : Begins known p) where
  -- ---- types

  pub stands_there : (ty : Ty) → Stands known ty → type_is_there p ty ≡ true
  stands_there Void h = refl
  stands_there (Int i) h = refl
  stands_there (Pointer row) h = is_there (slice_get p.targets row) h.0 (b.rows row h.0 h.1)
  stands_there (Array row count size) h =
      let e : IsElement known h.0 count size = h.2 in
      let bytes : type_bytes p.sizes (h.0).ty ≡ bytes_of known (h.0).ty = (whole_in known p b o (h.0).ty (o.rows row h.0 h.1) e.stands).1 in
      ap (λ t. array_is_there p t count size) (b.rows row h.0 h.1)
      ∙ and_from (not (h.0).constant) (not (h.0).volatile && (nat_lt 0 (type_bytes p.sizes (h.0).ty) && nat_eq size (kept (count * type_bytes p.sizes (h.0).ty)))) (ap not e.constant)
      (and_from (not (h.0).volatile) (nat_lt 0 (type_bytes p.sizes (h.0).ty) && nat_eq size (kept (count * type_bytes p.sizes (h.0).ty))) (ap not e.volatile)
      (and_from (nat_lt 0 (type_bytes p.sizes (h.0).ty)) (nat_eq size (kept (count * type_bytes p.sizes (h.0).ty)))
      (ap (nat_lt 0) bytes ∙ above_zero (bytes_of known (h.0).ty) e.some)
      (ap (λ n. nat_eq size (kept (count * n))) bytes ∙ (ap (λ n. nat_eq n (kept (count * bytes_of known (h.0).ty))) e.whole ∙ same_nat_refl (kept (count * bytes_of known (h.0).ty))))))
  stands_there (Struct n) h = b.structures n h.0 h.1

  pub sized_fits : (ty : Ty) → IsSized known ty → object_fits p ty ≡ true
  sized_fits ty h =
      let whole = whole_in known p b o ty h.stands h.complete in
      and_from (type_is_there p ty) (is_whole p ty && nat_le (type_bytes p.sizes ty) 65535) (stands_there ty h.stands)
      (and_from (is_whole p ty) (nat_le (type_bytes p.sizes ty) 65535) whole.0 (ap (λ n. nat_le n 65535) whole.1 ∙ le_from (bytes_of known ty) 65535 h.small))

  pub result_there : (ty : Ty) → Stands known ty → (is_array ty || is_struct ty) ≡ false → result_fits p ty ≡ true
  result_there ty h other = and_from (is_scalar ty || is_void ty) (type_is_there p ty) (by_type ty other) (stands_there ty h)
    where
      by_type : (ty : Ty) → (is_array ty || is_struct ty) ≡ false → (is_scalar ty || is_void ty) ≡ true
      by_type Void e = refl
      by_type (Int i) e = refl
      by_type (Pointer row) e = refl
      by_type (Array row n s) e = absurd (true≢false e)
      by_type (Struct n) e = absurd (true≢false e)

  -- ---- structures

  members_there : (before : ℕ) (ms : List (List ℕ × Field)) (size : ℕ) → AreMembers known before ms size → members_fit p size before (map member_tree ms) ≡ true
  members_there before [] size h = ap (λ n. nat_eq n size) h ∙ same_nat_refl size
  members_there before (m ∷ ms) size h =
      let whole = whole_in known p b o ((m.1).ty).ty (h.0).stands (h.0).whole in
      and_from (nat_eq (m.1).offset before) (type_is_there p ((m.1).ty).ty && (is_whole p ((m.1).ty).ty && members_fit p size (kept (before + type_bytes p.sizes ((m.1).ty).ty)) (map member_tree ms))) (ap (λ n. nat_eq n before) (h.0).offset ∙ same_nat_refl before)
      (and_from (type_is_there p ((m.1).ty).ty) (is_whole p ((m.1).ty).ty && members_fit p size (kept (before + type_bytes p.sizes ((m.1).ty).ty)) (map member_tree ms)) (stands_there ((m.1).ty).ty (h.0).stands)
      (and_from (is_whole p ((m.1).ty).ty) (members_fit p size (kept (before + type_bytes p.sizes ((m.1).ty).ty)) (map member_tree ms)) whole.0
      (ap (λ n. members_fit p size (kept (before + n)) (map member_tree ms)) whole.1 ∙ members_there (kept (before + bytes_of known ((m.1).ty).ty)) ms size h.1)))

  bytes_there : (ms : List (List ℕ × Field)) (size : ℕ) → AreMembers known 0 ms size → has_bytes (map member_tree ms) size ≡ true
  bytes_there [] size h = refl
  bytes_there (m ∷ ms) size h = above_zero size (some_size known m ms size h)

  structure_there : (s : Shape) → IsShape known s → structure_fits p (structure_tree s) ≡ true
  structure_there s h = and_from (has_bytes (map member_tree s.fields) s.size) (members_fit p s.size 0 (map member_tree s.fields)) (bytes_there s.fields s.size h.members) (members_there 0 s.fields s.size h.members)

  -- ---- static objects

  byte_there : ((n : ℕ) → is_changeable (slice_get known.statics n) ≡ true → is_changeable (slice_get p.statics n) ≡ true) → (i : InitialByte) → IsByte known i → byte_fits p i ≡ true
  byte_there same (initial.Number n) h = refl
  byte_there same (initial.Address object byte) h = and_from (is_changeable (slice_get p.statics object)) (nat_lt byte 2) (same object h.0) h.1

  initials_bound : (low high : ℕ) (is : List Initial) → InitialsIn known low high is → low ≤ high
  initials_bound low high [] h = h
  initials_bound low high (i ∷ is) h = let more : i.offset + 1 ≤ high = initials_bound (i.offset + 1) high is h.2 in omega (arith, h.0, more)

  initials_there : ((n : ℕ) → is_changeable (slice_get known.statics n) ≡ true → is_changeable (slice_get p.statics n) ≡ true) → (low high : ℕ) (is : List Initial) → InitialsIn known low high is → initial_fits p high low is ≡ true
  initials_there same low high [] h = refl
  initials_there same low high (i ∷ is) h =
      let more : i.offset + 1 ≤ high = initials_bound (i.offset + 1) high is h.2 in
      and_from (nat_le low i.offset) (nat_lt i.offset high && (byte_fits p i.byte && initial_fits p high (i.offset + 1) is)) (le_from low i.offset h.0)
      (and_from (nat_lt i.offset high) (byte_fits p i.byte && initial_fits p high (i.offset + 1) is) (lt_from i.offset high (omega (arith, more)))
      (and_from (byte_fits p i.byte) (initial_fits p high (i.offset + 1) is) (byte_there same i.byte h.1) (initials_there same (i.offset + 1) high is h.2)))

  static_there : ((n : ℕ) → is_changeable (slice_get known.statics n) ≡ true → is_changeable (slice_get p.statics n) ≡ true) → (s : StaticTree) → IsStatic known s → static_fits p s ≡ true
  static_there same s h = and_from (object_fits p (s.ty).ty) (initial_fits p (type_bytes p.sizes (s.ty).ty) 0 s.initial) (sized_fits (s.ty).ty h.sized)
      (ap (λ n. initial_fits p n 0 s.initial) (whole_in known p b o (s.ty).ty (h.sized).stands (h.sized).complete).1 ∙ initials_there same 0 (bytes_of known (s.ty).ty) s.initial h.initial)

  -- A program that is made of tables in order is sound where its functions are.
  pub program_sound : p.targets ≡ known.targets → p.structures ≡ map structure_tree known.shapes → p.statics ≡ known.statics → ((n : ℕ) (s : StaticTree) → slice_get known.statics n ≡ Some s → IsStatic known s)
      → ((i : ℕ) (g : FunctionTree) → slice_get p.functions i ≡ Some g → function_fits p g ≡ true) → is_sound p ≡ true
  program_sound targets structures statics own functions =
      and_from (list_all (target_fits p) p.targets) (list_all (structure_fits p) p.structures && (list_all (static_fits p) p.statics && list_all (function_fits p) p.functions))
      (all_at (target_fits p) p.targets (λ i q h. stands_there q.ty (o.rows i q (ap (λ l. slice_get l i) (sym targets) ∙ h))))
      (and_from (list_all (structure_fits p) p.structures) (list_all (static_fits p) p.statics && list_all (function_fits p) p.functions)
      (all_at (structure_fits p) p.structures (λ i s h. let x = mapped_from structure_tree known.shapes i s (ap (λ l. slice_get l i) (sym structures) ∙ h) in subst (λ z. structure_fits p z ≡ true) x.2 (structure_there x.0 (o.shapes i x.0 x.1))))
      (and_from (list_all (static_fits p) p.statics) (list_all (function_fits p) p.functions)
      (all_at (static_fits p) p.statics (λ i s h. static_there (λ n c. ap (λ l. is_changeable (slice_get l n)) statics ∙ c) s (own i s (ap (λ l. slice_get l i) (sym statics) ∙ h))))
      (all_at (function_fits p) p.functions functions)))
