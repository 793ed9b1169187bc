-- What static objects begin with: numbers that are bytes, and addresses of objects that are there.
use Rattle.std.proofs.Common.{◌≡◌, ℕ, zero, suc, ◌+◌, ◌<◌, Bool, true, false, ◌&&◌, nat_eq, nat_le, nat_lt, if◌then◌else◌, List, [], ◌∷◌, ◌++◌, map, length, Option, Some, None, refl, sym, ap, ◌∙◌, arith}
use Rattle.std.specs.Prelude.{slice_get}
use Rattle.std.specs.Global.{Global}
use Rattle.std.specs.List.{All, list_all}
use Rattle.std.specs.declared.vec.Vec.{Vec}
use Rattle.std.proofs.lemmas.Bool.{and_parts}
use Rattle.std.proofs.lemmas.List.{length-map}
use Rattle.std.proofs.lemmas.Option.{slice_get_within}
use Rattle.c_typed.specs.Sound.{target_fits, structure_fits, function_fits, object_fits, initial_fits, byte_fits, static_fits, is_changeable, is_sound}
use Rattle.c_typed.specs.Trees.{Program, StaticTree}
use Rattle.c_typed.specs.Types.{type_bytes}
use Rattle.c_typed.specs.declared.program.Initial.{Initial}
use Rattle.c_typed.specs.declared.program.InitialByte.{InitialByte}
use Rattle.c_typed.specs.declared.program.InitialByte.TheVariants as initial
use Rattle.call_graph.specs.declared.types.FnCopy.{FnCopy}
use Rattle.core_code.specs.Bytes.{Held}
use Rattle.core_code.specs.FirstBytes.{first_held}
use Rattle.core_code.specs.declared.code.FirstByte.{FirstByte}
use Rattle.core_code.specs.declared.code.FirstByte.TheVariants.{Number, Low, High}
use Rattle.lower_stmt.specs.Bodies.{first_bytes}
use Rattle.lower_stmt.specs.FirstBytes.{shown, byte_at, bytes_in, static_bytes, items_of}
use Rattle.lower_stmt.specs.Programs.{statics_held, core_of}
use Rattle.select_wide.specs.Links.{IsFirst}
use Rattle.src_rules.specs.Numbers.{IsInitialByte, InitialsHaveNumbers, ProgramHasNumbers}

-- a byte, or half of the address of one of so many objects
abbrev pub IsGood : ℕ → FirstByte → Type 0
IsGood n (Number value) = value < 256
IsGood n (Low object) = object < n
IsGood n (High object) = object < n

abbrev pub AreGood : ℕ → List FirstByte → Type 0
AreGood n [] = Unit {0}
AreGood n (byte ∷ list) = IsGood n byte × AreGood n list

abbrev pub AllGood : ℕ → List (List FirstByte) → Type 0
AllGood n [] = Unit {0}
AllGood n (object ∷ list) = AreGood n object × AllGood n list

good_behind : (n : ℕ) (xs : List FirstByte) (byte : FirstByte) → AreGood n xs → IsGood n byte → AreGood n (xs ++ byte ∷ [])
good_behind n [] byte p h = (h, tt)
good_behind n (x ∷ xs) byte p h = (p.0, good_behind n xs byte p.1 h)

or_else : {A : Type 0} → A → Option A → A
or_else a None = a
or_else a (Some b) = b

pub some_is : {A : Type 0} (a b : A) → Some a ≡ Some b → a ≡ b
unfolding or_else
some_is a b e = ap (or_else a) e

-- each element of a list that passes a test
pub passes_at : {A : Type 0} (test : A → Bool) (xs : List A) (k : ℕ) (x : A) → list_all test xs ≡ true → slice_get xs k ≡ Some x → test x ≡ true
passes_at test [] k x e is = absurd (cc)
passes_at test (y ∷ xs) zero x e is = ap test (sym (some_is y x is)) ∙ (and_parts (test y) (list_all test xs) e).0
passes_at test (y ∷ xs) (suc k) x e is = passes_at test xs k x (and_parts (test y) (list_all test xs) e).1 is

-- ---- first bytes of a sound program
there : (p : Program) (n : ℕ) (o : Option StaticTree) → slice_get p.statics n ≡ o → is_changeable o ≡ true → n < length p.statics
there p n None is e = absurd (cc)
there p n (Some s) is e = slice_get_within p.statics n s is

shown_good : (p : Program) (b : InitialByte) → byte_fits p b ≡ true → IsInitialByte b → IsGood (length p.statics) (shown b)
shown_good p (initial.Number n) f h = h
shown_good p (initial.Address object byte) f h =
    by (nat_eq byte 0) (there p object (slice_get p.statics object) refl (and_parts (is_changeable (slice_get p.statics object)) (nat_lt byte 2) f).0) where
      by : (b : Bool) → object < length p.statics → IsGood (length p.statics) (if b then Low object else High object)
      by true lt = lt
      by false lt = lt

chosen_good : (n : ℕ) (b : Bool) (x y : FirstByte) → IsGood n x → IsGood n y → IsGood n (if b then x else y)
chosen_good n true x y h g = h
chosen_good n false x y h g = g

byte_good : (p : Program) (size before : ℕ) (is : List Initial) (at : ℕ) → initial_fits p size before is ≡ true → InitialsHaveNumbers is → IsGood (length p.statics) (byte_at is at)
byte_good p size before [] at f h = omega arith
byte_good p size before (i ∷ is) at f h =
    let a = and_parts (nat_le before i.offset) (nat_lt i.offset size && (byte_fits p i.byte && initial_fits p size (i.offset + 1) is)) f in
    let b = and_parts (nat_lt i.offset size) (byte_fits p i.byte && initial_fits p size (i.offset + 1) is) a.1 in
    let c = and_parts (byte_fits p i.byte) (initial_fits p size (i.offset + 1) is) b.1 in
    chosen_good (length p.statics) (nat_eq i.offset at) (shown i.byte) (byte_at is at) (shown_good p i.byte c.0 h.0) (byte_good p size (i.offset + 1) is at c.1 h.1)

bytes_good : (p : Program) (size : ℕ) (is : List Initial) (count : ℕ) → initial_fits p size 0 is ≡ true → InitialsHaveNumbers is → AreGood (length p.statics) (bytes_in is count)
unfolding bytes_in
bytes_good p size is zero f h = tt
bytes_good p size is (suc at) f h = good_behind (length p.statics) (bytes_in is at) (byte_at is at) (bytes_good p size is at f h) (byte_good p size 0 is at f h)

each_good : (p : Program) (list : List StaticTree) → ((k : ℕ) (s : StaticTree) → slice_get list k ≡ Some s → (static_fits p s ≡ true) × InitialsHaveNumbers s.initial)
    → AllGood (length p.statics) (map (static_bytes p.sizes) list)
each_good p [] all = tt
each_good p (s ∷ list) all =
    let here = all 0 s refl in
    let f = and_parts (object_fits p s.ty.ty) (initial_fits p (type_bytes p.sizes s.ty.ty) 0 s.initial) here.0 in
    (bytes_good p (type_bytes p.sizes s.ty.ty) s.initial (type_bytes p.sizes s.ty.ty) f.1 here.1, each_good p list (λ k t is. all (suc k) t is))

statics_fit : (p : Program) → is_sound p ≡ true → list_all (static_fits p) p.statics ≡ true
statics_fit p sound =
    let a = and_parts (list_all (target_fits p) p.targets) (list_all (structure_fits p) p.structures && (list_all (static_fits p) p.statics && list_all (function_fits p) p.functions)) sound in
    let b = and_parts (list_all (structure_fits p) p.structures) (list_all (static_fits p) p.statics && list_all (function_fits p) p.functions) a.1 in
    (and_parts (list_all (static_fits p) p.statics) (list_all (function_fits p) p.functions) b.1).0

pub statics_good : (p : Program) → is_sound p ≡ true → ProgramHasNumbers p → AllGood (length p.statics) (first_bytes p)
statics_good p sound numbers = each_good p p.statics (λ k s is. (passes_at (static_fits p) p.statics k s (statics_fit p sound) is, numbers.statics k s is))

-- ---- what the machine of byte code is given
held_first : (objects : List (List Held)) (n : ℕ) (byte : FirstByte) → n ≡ length objects → IsGood n byte → IsFirst objects (first_held byte)
held_first objects n (Number value) e h = h
held_first objects n (Low object) e h = (omega arith, omega arith)
held_first objects n (High object) e h = (omega arith, omega arith)

held_all : (objects : List (List Held)) (n : ℕ) (list : List FirstByte) → n ≡ length objects → AreGood n list → All (IsFirst objects) (map first_held list)
held_all objects n [] e h k d lt = absurd (omega arith)
held_all objects n (byte ∷ list) e h zero d lt = held_first objects n byte e h.0
held_all objects n (byte ∷ list) e h (suc k) d lt = held_all objects n list e h.1 k d (omega arith)

held_each : (objects : List (List Held)) (n : ℕ) (list : List (List FirstByte)) → n ≡ length objects → AllGood n list → All (All (IsFirst objects)) (map (map first_held) list)
held_each objects n [] e h k d lt = absurd (omega arith)
held_each objects n (object ∷ list) e h zero d lt = held_all objects n object e h.0
held_each objects n (object ∷ list) e h (suc k) d lt = held_each objects n list e h.1 k d (omega arith)

-- Each first byte is a byte, or half of the address of an object.
pub first_there : (p : Program) (copies : List FnCopy) → is_sound p ≡ true → ProgramHasNumbers p → All (All (IsFirst (core_of p copies).first)) (core_of p copies).first
unfolding core_of
first_there p copies sound numbers =
    held_each (statics_held p) (length p.statics) (first_bytes p) (sym (length-map p.statics (static_bytes p.sizes)) ∙ sym (length-map (first_bytes p) (map first_held))) (statics_good p sound numbers)

held_of : (list : List (Vec FirstByte Global)) → map (λ (object : Vec FirstByte Global). map first_held object.items) list ≡ map (map first_held) (map items_of list)
held_of [] = refl
held_of (object ∷ list) = ap (λ (rest : List (List Held)). map first_held object.items ∷ rest) (held_of list)

-- .. and the code's static objects are those of the program
pub held_are : (p : Program) (copies : List FnCopy) (statics : List (Vec FirstByte Global)) → map items_of statics ≡ first_bytes p
    → map (λ (object : Vec FirstByte Global). map first_held object.items) statics ≡ (core_of p copies).first
unfolding core_of
held_are p copies statics is = held_of statics ∙ ap (map (map first_held)) is
