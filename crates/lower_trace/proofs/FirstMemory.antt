-- The first bytes of static objects agree, and a run begins in two states that stand for each other.
use Rattle.std.proofs.Common.{◌≡◌, ℕ, zero, suc, ◌+◌, ◌<◌, ◌⊎◌, Bool, true, false, ◌&&◌, if◌then◌else◌, nat_eq, nat_le, nat_lt, List, [], ◌∷◌, ◌++◌, length, map, Some, slice_get, slice_index_or, refl, sym, ap, ◌∙◌, subst, ⊎_elim, arith}
use Rattle.std.proofs.lemmas.Bool.{and_parts, cases_lt}
use Rattle.std.proofs.lemmas.Option.{slice_get-map}
use Rattle.std.specs.Option.{option_map}
use Rattle.c_typed.proofs.Facts.{static_of_sound}
use Rattle.c_typed.specs.Sound.{byte_fits, initial_fits, object_fits, is_changeable}
use Rattle.c_typed.specs.Trees.{StaticTree}
use Rattle.c_typed.specs.Types.{type_bytes}
use Rattle.c_typed.specs.declared.program.Initial.{Initial}
use Rattle.c_typed.specs.declared.program.InitialByte.{InitialByte}
use Rattle.c_typed.specs.declared.program.InitialByte.TheVariants as initials
use Rattle.core_code.specs.Bytes.{Held, Unset}
use Rattle.core_code.specs.FirstBytes.{first_held}
use Rattle.core_code.specs.Machine as core
use Rattle.core_code.specs.Machine.{core_moment}
use Rattle.core_code.specs.declared.code.Byte.TheVariants as code_bytes
use Rattle.core_code.specs.declared.code.FirstByte.{FirstByte}
use Rattle.lower_stmt.specs.FirstBytes as firsts
use Rattle.lower_stmt.specs.Programs.{core_of}
use Rattle.src_rules.specs.Step.{start}
use Rattle.src_values.specs.Memory.{first_memory, initial_at, initial_byte, static_byte}
use Rattle.src_values.specs.Objects.{bytes_of_static, object_bytes}
use Rattle.src_values.specs.declared.objects.Byte as value
use Rattle.src_values.specs.declared.objects.Byte.TheVariants as values
use Rattle.src_values.specs.declared.objects.CopyOf.{CopyOf}
use Rattle.src_values.specs.declared.objects.Object.TheVariants as objects
use Rattle.lower_trace.specs.Lowering.{IsLowerable}
use Rattle.lower_trace.proofs.CodeLeft.{Scene, core_in, held, source_in}
use Rattle.lower_trace.proofs.Mirrors.{Agree, Agrees, Mirrors}
use Rattle.lower_trace.proofs.Reading.{lt_of}
use Rattle.lower_trace.proofs.Scenes.{element_there, main_first, main_reached, scene_laws}
use Rattle.lower_trace.proofs.Starting.{start_mirrors}

-- ---- lists
first_of : {A : Type 0} (xs ys : List A) (i : ℕ) (d : A) → i < length xs → slice_index_or (xs ++ ys) i d ≡ slice_index_or xs i d
first_of [] ys i d lt = absurd (omega arith)
first_of (x ∷ xs) ys zero d lt = refl
first_of (x ∷ xs) ys (suc i) d lt = first_of xs ys i d (omega arith)

last_of : {A : Type 0} (xs : List A) (y d : A) → slice_index_or (xs ++ y ∷ []) (length xs) d ≡ y
last_of [] y d = refl
last_of (x ∷ xs) y d = last_of xs y d

map_joined : {A B : Type 0} (f : A → B) (xs ys : List A) → map f (xs ++ ys) ≡ map f xs ++ map f ys
map_joined f [] ys = refl
map_joined f (x ∷ xs) ys = ap (λ zs. f x ∷ zs) (map_joined f xs ys)

shown_count : (given : List Initial) (n : ℕ) → length (map first_held (firsts.bytes_in given n)) ≡ n
unfolding firsts.bytes_in
shown_count given zero = refl
shown_count given (suc n) =
    ap length (map_joined first_held (firsts.bytes_in given n) (firsts.byte_at given n ∷ []))
    ∙ longer (map first_held (firsts.bytes_in given n)) (first_held (firsts.byte_at given n)) ∙ ap suc (shown_count given n)
  where
    longer : (xs : List Held) (y : Held) → length (xs ++ y ∷ []) ≡ suc (length xs)
    longer [] y = refl
    longer (x ∷ xs) y = ap suc (longer xs y)

shown_at : (given : List Initial) (n at : ℕ) → at < n → slice_index_or (map first_held (firsts.bytes_in given n)) at Unset ≡ first_held (firsts.byte_at given at)
unfolding firsts.bytes_in
shown_at given zero at lt = absurd (omega arith)
shown_at given (suc n) at lt =
    let xs = map first_held (firsts.bytes_in given n) in
    let y = first_held (firsts.byte_at given n) in
    let count = shown_count given n in
    ap (λ q. slice_index_or q at Unset) (map_joined first_held (firsts.bytes_in given n) (firsts.byte_at given n ∷ []))
    ∙ ⊎_elim
    (λ under. first_of xs (y ∷ []) at Unset (omega arith) ∙ shown_at given n at under)
    (λ behind.
    let is : at ≡ n = omega arith in
    ap (λ i. slice_index_or (xs ++ y ∷ []) i Unset) (is ∙ sym count) ∙ last_of xs y Unset ∙ ap (λ i. first_held (firsts.byte_at given i)) (sym is))
    (cases_lt at n)

-- ---- a byte that is given
module _ (z : Scene) (given : IsLowerable z.program z.copies) where
  agree_by : (x : value.Byte) (h : Held) → h ≡ held z x → Agree z x h
  agree_by values.Unset h e = tt
  agree_by (values.Number n) h e = e
  agree_by (values.Part object offset high) h e = e

  address_shown : (object byte : ℕ) → byte < 2 → first_held (firsts.shown (initials.Address object byte)) ≡ held z (initial_byte (initials.Address object byte))
  address_shown object zero lt = refl
  address_shown object (suc zero) lt = refl
  address_shown object (suc (suc byte)) lt = absurd (omega arith)

  shown_is : (b : InitialByte) → byte_fits z.program b ≡ true → first_held (firsts.shown b) ≡ held z (initial_byte b)
  shown_is (initials.Number n) e = refl
  shown_is (initials.Address object byte) e = address_shown object byte (lt_of byte 2 (and_parts (is_changeable (slice_get z.program.statics object)) (nat_lt byte 2) e).1)

  one_of : (b : Bool) (x y : value.Byte) (h i : FirstByte) → Agree z x (first_held h) → Agree z y (first_held i) → Agree z (if b then x else y) (first_held (if b then h else i))
  one_of true x y h i p q = p
  one_of false x y h i p q = q

  given_at : (bytes : List Initial) (size before at : ℕ) → initial_fits z.program size before bytes ≡ true → Agree z (initial_at bytes at) (first_held (firsts.byte_at bytes at))
  given_at [] size before at e = refl
  given_at (i ∷ is) size before at e =
      let a = (and_parts (nat_le before i.offset) (nat_lt i.offset size && (byte_fits z.program i.byte && initial_fits z.program size (i.offset + 1) is)) e).1 in
      let b = (and_parts (nat_lt i.offset size) (byte_fits z.program i.byte && initial_fits z.program size (i.offset + 1) is) a).1 in
      let parts = and_parts (byte_fits z.program i.byte) (initial_fits z.program size (i.offset + 1) is) b in
      one_of (nat_eq i.offset at) (initial_byte i.byte) (initial_at is at) (firsts.shown i.byte) (firsts.byte_at is at) (agree_by (initial_byte i.byte) (first_held (firsts.shown i.byte)) (shown_is i.byte parts.0)) (given_at is size (i.offset + 1) at parts.1)

  static_agrees : (s : StaticTree) (at : ℕ) (h : Held) → at < type_bytes z.program.sizes s.ty.ty → initial_fits z.program (type_bytes z.program.sizes s.ty.ty) 0 s.initial ≡ true → h ≡ slice_index_or (map first_held (firsts.static_bytes z.program.sizes s)) at Unset → Agree z (static_byte z.program.sizes (Some s) at) h
  static_agrees s at h lt fits is = by (nat_lt at (type_bytes z.program.sizes s.ty.ty))
    where
      by : (b : Bool) → Agree z (if b then initial_at s.initial at else values.Unset) h
      by true = subst (Agree z (initial_at s.initial at)) (sym (is ∙ shown_at s.initial (type_bytes z.program.sizes s.ty.ty) at lt)) (given_at s.initial (type_bytes z.program.sizes s.ty.ty) 0 at fits)
      by false = tt

  pub first_agrees : (live : List CopyOf) → Agrees z live (first_memory z.program) (core.first_memory (core_in z).program)
  unfolding core_of object_bytes
  first_agrees live (objects.Variable c n) at there alive lt = tt
  first_agrees live (objects.Fixed n) at there alive lt =
      let p = z.program in
      let s = element_there p.statics n there in
      let fits = and_parts (object_fits p s.0.ty.ty) (initial_fits p (type_bytes p.sizes s.0.ty.ty) 0 s.0.initial) (static_of_sound p n s.0 given.sound s.1) in
      let found : slice_get (map (map first_held) (map (firsts.static_bytes p.sizes) p.statics)) n ≡ Some (map first_held (firsts.static_bytes p.sizes s.0)) =
      slice_get-map (map first_held) (map (firsts.static_bytes p.sizes) p.statics) n ∙ ap (option_map (map first_held)) (slice_get-map (firsts.static_bytes p.sizes) p.statics n ∙ ap (option_map (firsts.static_bytes p.sizes)) s.1) in
      let front : 0 + at ≡ at = omega arith in
      let less : at < type_bytes p.sizes s.0.ty.ty = subst (λ q. at < q) (ap (bytes_of_static p.sizes) s.1) lt in
      subst (λ o. Agree z (static_byte p.sizes o at) (core.first_memory (core_in z).program (code_bytes.Static n (0 + at)))) (sym s.1)
      (static_agrees s.0 at (core.first_memory (core_in z).program (code_bytes.Static n (0 + at))) less fits.1 (ap (λ o. core.static_byte o (0 + at)) found ∙ ap (λ i. slice_index_or (map first_held (firsts.static_bytes p.sizes s.0)) i Unset) front))

  -- The relation holds at the start.
  pub first_mirrors : Mirrors z (start (source_in z)) (core_moment (core_in z) 0)
  first_mirrors = start_mirrors z (scene_laws z given) (main_reached z given) (main_first z given) (first_agrees _)
