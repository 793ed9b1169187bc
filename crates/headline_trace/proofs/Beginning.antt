-- The initial bytes of the source, as the map shows them, are those that the objects of the code begin with, as the layout does.
use Rattle.std.proofs.Common.{◌≡◌, ℕ, zero, suc, ◌+◌, ◌<◌, Bool, true, false, not, ◌&&◌, nat_eq, nat_lt, nat_le, if◌then◌else◌, List, [], ◌∷◌, ◌++◌, map, length, length-append, Option, Some, None, refl, sym, ap, ◌∙◌, subst, ⊎_elim, arith}
use Rattle.std.specs.Prelude.{slice_get, slice_index, slice_index_or, option_map}
use Rattle.std.proofs.lemmas.Bool.{cases_lt, cases_eq, lt-ltb, ltb-true, eq-eqb, ne_eqb}
use Rattle.std.proofs.lemmas.List.{length-map, get_or_past}
use Rattle.std.proofs.lemmas.Option.{slice_get-map, get_or_from_slice_get}
use Rattle.c_typed.specs.Sound.{is_sound, static_fits, object_fits, initial_fits, byte_fits, is_changeable}
use Rattle.c_typed.specs.Trees.{Program, StaticTree}
use Rattle.c_typed.specs.Types.{type_bytes}
use Rattle.c_typed.specs.declared.program.Initial.{Initial}
use Rattle.c_typed.specs.declared.program.InitialByte.{InitialByte}
use Rattle.c_typed.specs.declared.program.InitialByte.TheVariants as initial
use Rattle.pic_map.specs.MapContent.{MapContent, range_of}
use Rattle.core_code.specs.Bytes as core
use Rattle.core_code.specs.Bytes.{Held, Unset}
use Rattle.core_code.specs.FirstBytes.{first_held}
use Rattle.core_code.specs.declared.code.FirstByte.TheVariants.{Low, High}
use Rattle.sym_code.specs.Layout as layouts
use Rattle.sym_code.specs.Layout.{DataLayout, object}
use Rattle.lower_stmt.specs.FirstBytes.{byte_at, bytes_in, static_bytes, shown as first_shown}
use Rattle.lower_stmt.specs.Programs.{statics_held}
use Rattle.src_memory.specs.Shown.{address_of, address_byte, shown_byte}
use Rattle.src_rules.proofs.Starts.{all_at, sound_parts}
use Rattle.src_values.specs.Memory.{initial_byte, initial_at, static_byte, first_memory}
use Rattle.src_values.specs.declared.objects.Byte.TheVariants as bytes
use Rattle.src_values.specs.declared.objects.Object.TheVariants.{Fixed}
use Rattle.headline.specs.SourceOf.{bytes_from, initial_from}
use Rattle.headline_trace.proofs.Showing.{same_half, fixed_is, past}

both : (a b : Bool) → (a && b) ≡ true → (a ≡ true) × (b ≡ true)
both true b e = (refl, e)
both false b e = absurd (cc)

-- ---- lists
front_get : {A : Type 0} (xs : List A) (x : A) (k : ℕ) → k < length xs → slice_get (xs ++ x ∷ []) k ≡ slice_get xs k
front_get [] x k lt = absurd (omega arith)
front_get (y ∷ ys) x zero lt = refl
front_get (y ∷ ys) x (suc k) lt = front_get ys x k (omega arith)

last_get : {A : Type 0} (xs : List A) (x : A) → slice_get (xs ++ x ∷ []) (length xs) ≡ Some x
last_get [] x = refl
last_get (y ∷ ys) x = last_get ys x

bytes_long : (is : List Initial) (n : ℕ) → length (bytes_in is n) ≡ n
unfolding bytes_in
bytes_long is zero = refl
bytes_long is (suc n) = length-append (bytes_in is n) (byte_at is n ∷ []) ∙ (let l = bytes_long is n in omega arith)

bytes_get : (is : List Initial) (n k : ℕ) → k < n → slice_get (bytes_in is n) k ≡ Some (byte_at is k)
unfolding bytes_in
bytes_get is zero k lt = absurd (omega arith)
bytes_get is (suc n) k lt =
    let l = bytes_long is n in
    ⊎_elim
    (λ below. front_get (bytes_in is n) (byte_at is n) k (omega arith) ∙ bytes_get is n k below)
    (λ ge. let z : k ≡ length (bytes_in is n) = omega arith in let y : n ≡ k = omega arith in
    ap (slice_get (bytes_in is n ++ byte_at is n ∷ [])) z ∙ last_get (bytes_in is n) (byte_at is n) ∙ ap (λ j. Some (byte_at is j)) y)
    (cases_lt k n)

module _ (p : Program) (content : MapContent) where
  from_get : (i at n k : ℕ) → k < n → slice_get (bytes_from p content i at n) k ≡ Some (shown_byte (address_of p content) (first_memory p (Fixed i) (at + k)))
  from_get i at zero k lt = absurd (omega arith)
  from_get i at (suc n) zero lt = let z : at ≡ at + zero = omega arith in ap (λ j. Some (shown_byte (address_of p content) (first_memory p (Fixed i) j))) z
  from_get i at (suc n) (suc k) lt =
      let z : at + 1 + k ≡ at + suc k = omega arith in
      from_get i (at + 1) n k (omega arith) ∙ ap (λ j. Some (shown_byte (address_of p content) (first_memory p (Fixed i) j))) z

  initials_get : (from i : ℕ) (statics : List StaticTree) (s : StaticTree) → slice_get statics i ≡ Some s → slice_get (initial_from p content from statics) i ≡ Some (bytes_from p content (from + i) 0 (type_bytes p.sizes s.ty.ty))
  initials_get from i [] s is = absurd (cc)
  initials_get from zero (x ∷ xs) s is =
      let z : from ≡ from + zero = omega arith in
      ap (λ (y : StaticTree). Some (bytes_from p content from 0 (type_bytes p.sizes y.ty.ty))) (some_back x s is) ∙ ap (λ j. Some (bytes_from p content j 0 (type_bytes p.sizes s.ty.ty))) z where
        or_x : Option StaticTree → StaticTree
        or_x None = x
        or_x (Some y) = y

        some_back : (a b : StaticTree) → Some a ≡ Some b → a ≡ b
        some_back a b e = ap or_x e
  initials_get from (suc i) (x ∷ xs) s is =
      let z : from + 1 + i ≡ from + suc i = omega arith in
      initials_get (from + 1) i xs s is ∙ ap (λ j. Some (bytes_from p content j 0 (type_bytes p.sizes s.ty.ty))) z

-- ---- one byte
module _ (p : Program) (content : MapContent) (l : DataLayout) (objects : map range_of content.objects ≡ l.objects) where
  half_is : (n : ℕ) (high : Bool) → address_byte high (address_of p content (Fixed n) + 0) ≡ layouts.shown l (core.Part (core.Fixed n) 0 high)
  unfolding address_of layouts.shown layouts.address_of
  half_is n high = same_half high _ ∙ ap (layouts.address_byte high) (let e = fixed_is content l objects n in omega arith)

  part_is : (n byte : ℕ) (high low : Bool) → nat_eq byte 1 ≡ high → nat_eq byte 0 ≡ low → not high ≡ low
      → address_byte (nat_eq byte 1) (address_of p content (Fixed n) + 0) ≡ layouts.shown l (first_held (if nat_eq byte 0 then Low n else High n))
  part_is n byte true false e f g = ap (λ b. address_byte b (address_of p content (Fixed n) + 0)) e ∙ half_is n true ∙ ap (λ b. layouts.shown l (first_held (if b then Low n else High n))) (sym f)
  part_is n byte false true e f g = ap (λ b. address_byte b (address_of p content (Fixed n) + 0)) e ∙ half_is n false ∙ ap (λ b. layouts.shown l (first_held (if b then Low n else High n))) (sym f)
  part_is n byte true true e f g = absurd (cc)
  part_is n byte false false e f g = absurd (cc)

  given_is : (b : InitialByte) → byte_fits p b ≡ true → shown_byte (address_of p content) (initial_byte b) ≡ layouts.shown l (first_held (first_shown b))
  unfolding layouts.shown
  given_is (initial.Number n) fits = refl
  given_is (initial.Address n byte) fits =
      let lt = ltb-true byte 2 (both (is_changeable (slice_get p.statics n)) (nat_lt byte 2) fits).1 in
      ⊎_elim
      (λ (is : byte ≡ 0). part_is n byte false true (ne_eqb byte 1 (λ e. absurd (omega arith))) (eq-eqb byte 0 is) refl)
      (λ other. let is : byte ≡ 1 = not_zero byte other lt in part_is n byte true false (eq-eqb byte 1 is) (ne_eqb byte 0 other) refl)
      (cases_eq byte 0) where
        not_zero : (b : ℕ) → (b ≡ 0 → ⊥) → b < 2 → b ≡ 1
        not_zero b other lt = ⊎_elim (λ l. absurd (other (omega arith))) (λ g. omega arith) (cases_lt b 1)

  list_is : (size before : ℕ) (is : List Initial) (k : ℕ) → initial_fits p size before is ≡ true → shown_byte (address_of p content) (initial_at is k) ≡ layouts.shown l (first_held (byte_at is k))
  unfolding layouts.shown
  list_is size before [] k fits = refl
  list_is size before (i ∷ is) k fits =
      let a = both (nat_le before i.offset) (nat_lt i.offset size && (byte_fits p i.byte && initial_fits p size (i.offset + 1) is)) fits in
      let b = both (nat_lt i.offset size) (byte_fits p i.byte && initial_fits p size (i.offset + 1) is) a.1 in
      let c = both (byte_fits p i.byte) (initial_fits p size (i.offset + 1) is) b.1 in
      by c.0 (nat_eq i.offset k) (list_is size (i.offset + 1) is k c.1) where
        by : byte_fits p i.byte ≡ true → (t : Bool) → shown_byte (address_of p content) (initial_at is k) ≡ layouts.shown l (first_held (byte_at is k))
            → shown_byte (address_of p content) (if t then initial_byte i.byte else initial_at is k) ≡ layouts.shown l (first_held (if t then first_shown i.byte else byte_at is k))
        by here true rest = given_is i.byte here
        by here false rest = rest

  -- ---- all of them
  module _ (sound : is_sound p ≡ true) (i : ℕ) (s : StaticTree) (is : slice_get p.statics i ≡ Some s) where
    abbrev size : ℕ
    size = type_bytes p.sizes s.ty.ty

    abbrev held : List Held
    held = map first_held (static_bytes p.sizes s)

    held_is : slice_index_or (statics_held p) i [] ≡ held
    held_is =
        get_or_from_slice_get (statics_held p) i held []
        (slice_get-map (map first_held) (map (static_bytes p.sizes) p.statics) i ∙ ap (option_map (map first_held)) (slice_get-map (static_bytes p.sizes) p.statics i ∙ ap (option_map (static_bytes p.sizes)) is))

    initial_is : slice_index_or (initial_from p content 0 p.statics) i [] ≡ bytes_from p content i 0 size
    initial_is = let z : 0 + i ≡ i = omega arith in
        get_or_from_slice_get (initial_from p content 0 p.statics) i (bytes_from p content i 0 size) [] (initials_get p content 0 i p.statics s is ∙ ap (λ j. Some (bytes_from p content j 0 size)) z)

    fits : initial_fits p size 0 s.initial ≡ true
    fits = (both (object_fits p s.ty.ty) (initial_fits p size 0 s.initial) (all_at (static_fits p) p.statics i s (sound_parts p sound).0 is)).1

    memory_is : (k : ℕ) → k < size → first_memory p (Fixed i) k ≡ initial_at s.initial k
    memory_is k lt = ap (λ o. static_byte p.sizes o k) is ∙ ap (λ b. if b then initial_at s.initial k else bytes.Unset) (lt-ltb k size lt)

    within : (k : ℕ) → k < length held → k < size
    within k lt = let a = length-map (static_bytes p.sizes s) first_held in let b = bytes_long s.initial size in omega arith

    byte_begins : (k : ℕ) → k < length held → slice_index (bytes_from p content i 0 size) k ≡ layouts.shown l (slice_index_or held k Unset)
    byte_begins k lt =
        let le = within k lt in
        let z : 0 + k ≡ k = omega arith in
        get_or_from_slice_get (bytes_from p content i 0 size) k _ 0 (from_get p content i 0 size k le)
        ∙ ap (λ j. shown_byte (address_of p content) (first_memory p (Fixed i) j)) z
        ∙ ap (shown_byte (address_of p content)) (memory_is k le)
        ∙ list_is size 0 s.initial k fits
        ∙ ap (layouts.shown l) (sym (get_or_from_slice_get held k (first_held (byte_at s.initial k)) Unset (slice_get-map first_held (static_bytes p.sizes s) k ∙ ap (option_map first_held) (bytes_get s.initial size k le))))

  pub begins : is_sound p ≡ true → (i k : ℕ) → k < length (slice_index_or (statics_held p) i [])
      → slice_index (slice_index_or (initial_from p content 0 p.statics) i []) k ≡ layouts.shown l (slice_index_or (slice_index_or (statics_held p) i []) k Unset)
  begins sound i k lt = by (slice_get p.statics i) refl where
    by : (o : Option StaticTree) → slice_get p.statics i ≡ o → slice_index (slice_index_or (initial_from p content 0 p.statics) i []) k ≡ layouts.shown l (slice_index_or (slice_index_or (statics_held p) i []) k Unset)
    by (Some s) is =
        let h = held_is sound i s is in
        let shorter : k < length (held sound i s is) = subst (λ xs. k < length xs) h lt in
        ap (λ xs. slice_index xs k) (initial_is sound i s is) ∙ byte_begins sound i s is k shorter ∙ ap (λ xs. layouts.shown l (slice_index_or xs k Unset)) (sym h)
    by None is =
        let none : slice_get (statics_held p) i ≡ None =
        slice_get-map (map first_held) (map (static_bytes p.sizes) p.statics) i ∙ ap (option_map (map first_held)) (slice_get-map (static_bytes p.sizes) p.statics i ∙ ap (option_map (static_bytes p.sizes)) is) in
        let empty : slice_index_or (statics_held p) i [] ≡ [] = get_or_past (statics_held p) i [] (past (statics_held p) i [] none) in
        let q = subst (λ xs. k < length xs) empty lt in absurd (omega arith)
