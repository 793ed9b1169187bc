-- The start block names bytes alone that are there: those of static objects, each by the bytes that it begins as.
use Rattle.std.proofs.Common.{◌≡◌, ℕ, zero, suc, ◌+◌, ◌≤◌, Bool, true, false, ◌&&◌, nat_eq, nat_lt, nat_le, if◌then◌else◌, List, [], ◌∷◌, ◌++◌, length, length-append, map, Option, Some, None, slice_get, option_map, refl, sym, ap, ◌∙◌, subst, arith}
use Rattle.std.specs.Global.{Global}
use Rattle.std.specs.declared.vec.Vec.{Vec}
use Rattle.c_typed.specs.Sound.{object_fits, byte_fits, initial_fits, is_changeable, static_fits}
use Rattle.c_typed.specs.Trees.{StaticTree, Program}
use Rattle.c_typed.specs.Types.{type_bytes}
use Rattle.c_typed.specs.declared.program.Initial.{Initial}
use Rattle.c_typed.specs.declared.program.InitialByte.{InitialByte}
use Rattle.c_typed.specs.declared.program.InitialByte.TheVariants as given
use Rattle.call_graph.specs.declared.types.FnCopy.{FnCopy}
use Rattle.core_code.specs.declared.code.Byte.TheVariants as bytes
use Rattle.core_code.specs.declared.code.FirstByte.{FirstByte}
use Rattle.core_code.specs.declared.code.FirstByte.TheVariants as firsts
use Rattle.isr_save.specs.Start.{reset, vector, literal, byte_code, object_code, objects_code, main, start_code}
use Rattle.lower_stmt.specs.FirstBytes.{shown, byte_at, bytes_in, static_bytes, items_of}
use Rattle.sym_code.specs.declared.code.Label.TheVariants as labels
use Rattle.sym_code.specs.declared.code.Literal.TheVariants as values
use Rattle.sym_code.specs.declared.code.Operand.TheVariants as operands
use Rattle.sym_code.specs.declared.code.Sym.TheVariants as syms
use Rattle.program_code.specs.Naming.{Memory, HasBytes, Lies, Points, SymsLie}
use Rattle.program_code.specs.There.{memory_of, StartKeepsThere}
use Rattle.program_code.proofs.Chain.{never}
use Rattle.program_code.proofs.Placed.{static_at}
use Rattle.program_code.proofs.Routines.{syms_on}
use Rattle.program_code.proofs.Typing.{and_first, and_last}

-- ---- the bytes that objects begin as
abbrev FirstPoints : Memory → FirstByte → Type 0
FirstPoints memory (firsts.Number number) = Unit {0}
FirstPoints memory (firsts.Low object) = Points memory (bytes.Static object 0)
FirstPoints memory (firsts.High object) = Points memory (bytes.Static object 0)

abbrev FirstsPoint : Memory → List FirstByte → Type 0
FirstsPoint memory [] = Unit {0}
FirstsPoint memory (first ∷ rest) = FirstPoints memory first × FirstsPoint memory rest

firsts_on : (memory : Memory) (xs ys : List FirstByte) → FirstsPoint memory xs → FirstsPoint memory ys → FirstsPoint memory (xs ++ ys)
firsts_on memory [] ys p q = q
firsts_on memory (x ∷ xs) ys p q = (p.0, firsts_on memory xs ys p.1 q)

bytes_long : (initial : List Initial) (n : ℕ) → length (bytes_in initial n) ≡ n
unfolding bytes_in
bytes_long initial zero = refl
bytes_long initial (suc n) =
    let before = bytes_long initial n in
    let more = length-append (bytes_in initial n) (byte_at initial n ∷ []) in
    omega (arith, before, more)

module _ (p : Program) (copies : List FnCopy) where
  abbrev memory : Memory
  memory = memory_of p copies

  -- an object whose address is told is there
  object_points : (object : ℕ) (o : Option StaticTree) → is_changeable o ≡ true → HasBytes (option_map (λ (s : StaticTree). type_bytes p.sizes s.ty.ty) o) 0
  object_points object None e = never e
  object_points object (Some s) e = omega arith

  shown_points : (byte : InitialByte) → byte_fits p byte ≡ true → FirstPoints memory (shown byte)
  shown_points (given.Number number) e = tt
  shown_points (given.Address object byte) e = by_low (nat_eq byte 0)
    where
      by_low : (b : Bool) → FirstPoints memory (if b then firsts.Low object else firsts.High object)
      by_low true = object_points object (slice_get p.statics object) (and_first (is_changeable (slice_get p.statics object)) (nat_lt byte 2) e)
      by_low false = object_points object (slice_get p.statics object) (and_first (is_changeable (slice_get p.statics object)) (nat_lt byte 2) e)

  byte_points : (size before : ℕ) (is : List Initial) (offset : ℕ) → initial_fits p size before is ≡ true → FirstPoints memory (byte_at is offset)
  byte_points size before [] offset e = tt
  byte_points size before (i ∷ is) offset e =
      let one = nat_le before i.offset in
      let two = nat_lt i.offset size in
      let three = byte_fits p i.byte in
      let rest = initial_fits p size (i.offset + 1) is in
      let later = and_last two (three && rest) (and_last one (two && (three && rest)) e) in
      by_here (nat_eq i.offset offset) (shown_points i.byte (and_first three rest later)) (byte_points size (i.offset + 1) is offset (and_last three rest later))
    where
      by_here : (b : Bool) → FirstPoints memory (shown i.byte) → FirstPoints memory (byte_at is offset) → FirstPoints memory (if b then shown i.byte else byte_at is offset)
      by_here true h t = h
      by_here false h t = t

  bytes_point : (size : ℕ) (is : List Initial) (n : ℕ) → initial_fits p size 0 is ≡ true → FirstsPoint memory (bytes_in is n)
  unfolding bytes_in
  bytes_point size is zero e = tt
  bytes_point size is (suc n) e = firsts_on memory (bytes_in is n) (byte_at is n ∷ []) (bytes_point size is n e) (byte_points size 0 is n e, tt)

  -- ---- the code of the start block
  byte_lies : (object offset : ℕ) (first : FirstByte) → Lies memory 1 (bytes.Static object offset) → FirstPoints memory first → SymsLie memory (byte_code (bytes.Static object offset) first)
  byte_lies object offset (firsts.Number number) h q = by_none (nat_eq number 0)
    where
      by_none : (b : Bool) → SymsLie memory (if b then syms.Clrf (operands.Byte (bytes.Static object offset)) ∷ [] else literal (bytes.Static object offset) (values.Number number))
      by_none true = (h, tt)
      by_none false = (tt, (h, tt))
  byte_lies object offset (firsts.Low other) h q = (q, (h, tt))
  byte_lies object offset (firsts.High other) h q = (q, (h, tt))

  object_lies : (object size offset : ℕ) (list : List FirstByte) → memory.objects object ≡ Some size → offset + length list ≤ size → FirstsPoint memory list → SymsLie memory (object_code object offset list)
  object_lies object size offset [] is l q = tt
  object_lies object size offset (first ∷ rest) is l q =
      syms_on memory (byte_code (bytes.Static object offset) first) (object_code object (offset + 1) rest)
      (byte_lies object offset first (subst (λ (o : Option ℕ). HasBytes o (offset + 1)) (sym is) (omega (arith, l))) q.0) (object_lies object size (offset + 1) rest is (omega (arith, l)) q.1)

  abbrev first_in : List (List FirstByte) → List FirstByte
  first_in [] = []
  first_in (x ∷ xs) = x

  abbrev rest_in : List (List FirstByte) → List (List FirstByte)
  rest_in [] = []
  rest_in (x ∷ xs) = xs

  objects_lie : (from : ℕ) (list : List (Vec FirstByte Global)) (statics : List StaticTree) → map items_of list ≡ map (static_bytes p.sizes) statics → ((k : ℕ) (s : StaticTree) → slice_get statics k ≡ Some s → (memory.objects (from + k) ≡ Some (type_bytes p.sizes s.ty.ty)) × (static_fits p s ≡ true))
      → SymsLie memory (objects_code from list)
  objects_lie from [] statics e there = tt
  objects_lie from (one ∷ list) [] e there = absurd (cc)
  objects_lie from (one ∷ list) (s ∷ statics) e there =
      let size = type_bytes p.sizes s.ty.ty in
      let here = there 0 s refl in
      let fits = and_last (object_fits p s.ty.ty) (initial_fits p size 0 s.initial) here.1 in
      let number : from + 0 ≡ from = omega arith in
      let held : memory.objects from ≡ Some size = ap memory.objects (sym number) ∙ here.0 in
      let same : one.items ≡ bytes_in s.initial size = ap first_in e in
      let long = bytes_long s.initial size in
      let size_is = ap (λ (xs : List FirstByte). length xs) same in
      syms_on memory (object_code from 0 one.items) (objects_code (from + 1) list)
      (object_lies from size 0 one.items held (omega (arith, long, size_is)) (subst (FirstsPoint memory) (sym same) (bytes_point size s.initial size fits)))
      (objects_lie (from + 1) list statics (ap rest_in e) (λ k t found. let next = there (suc k) t found in let at : from + 1 + k ≡ from + suc k = omega arith in (ap memory.objects at ∙ next.0, next.1)))

  vector_lies : (handler : Option ℕ) → SymsLie memory (vector handler)
  vector_lies None = tt
  vector_lies (Some copy) = (tt, (tt, (tt, (tt, (tt, (tt, (tt, (tt, (tt, (tt, (tt, (tt, (tt, (tt, (tt, (tt, (tt, (tt, tt))))))))))))))))))

  start_lies : (handler : Option ℕ) (statics : List (Vec FirstByte Global)) → SymsLie memory (objects_code 0 statics) → SymsLie memory (start_code handler statics)
  start_lies handler statics h =
      let label = syms.Label (labels.Inner 0) ∷ [] in
      syms_on memory (reset ++ vector handler ++ label ++ objects_code 0 statics) main
      (syms_on memory (reset ++ vector handler ++ label) (objects_code 0 statics) (syms_on memory (reset ++ vector handler) label (syms_on memory reset (vector handler) (tt, (tt, tt)) (vector_lies handler)) (tt, tt)) h)
      (tt, (tt, (tt, tt)))

pub start_keeps_there : StartKeepsThere
start_keeps_there p copies handler statics is same =
    start_lies p copies handler statics (objects_lie p copies 0 statics p.statics same (λ k s there.
    let at : 0 + k ≡ k = omega arith in
    (ap (memory_of p copies).objects at ∙ ap (option_map (λ (x : StaticTree). type_bytes p.sizes x.ty.ty)) there, static_at p is k s there)))
