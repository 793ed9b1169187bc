-- Static objects of a sound program: none has many bytes, and where there are few, addresses name them by small numbers.
use Rattle.std.proofs.Common.{◌≡◌, ℕ, zero, suc, ◌+◌, ◌<◌, ◌≤◌, Bool, true, ◌&&◌, List, [], ◌∷◌, length, get_or, map, Option, Some, None, refl, ap, ◌∙◌, arith}
use Rattle.std.specs.Global.{Global}
use Rattle.std.specs.List.{All, list_all}
use Rattle.std.specs.Prelude.{nat_lt, nat_le, slice_get}
use Rattle.std.specs.declared.vec.Vec.{Vec}
use Rattle.std.proofs.lemmas.Bool.{and_parts, false≢true, leb-true}
use Rattle.std.proofs.lemmas.List.{length-map, length-append}
use Rattle.std.proofs.lemmas.Option.{slice_get_within}
use Rattle.c_typed.specs.Sameness.{is_complete}
use Rattle.c_typed.specs.Sound.{target_fits, structure_fits, type_is_there, object_fits, is_changeable, byte_fits, initial_fits, static_fits, function_fits, is_sound}
use Rattle.c_typed.specs.Trees.{StaticTree, Program}
use Rattle.c_typed.specs.Types.{type_bytes}
use Rattle.c_typed.specs.Views.{static_of, program_from}
use Rattle.c_typed.specs.declared.program.Function.{Function}
use Rattle.c_typed.specs.declared.program.Initial.{Initial}
use Rattle.c_typed.specs.declared.program.InitialByte.{InitialByte}
use Rattle.c_typed.specs.declared.program.InitialByte.TheVariants as given
use Rattle.c_typed.specs.declared.program.Static.{Static}
use Rattle.c_typed.specs.declared.types.Qualified.{Qualified}
use Rattle.c_typed.specs.declared.types.Structure.{Structure}
use Rattle.core_code.specs.declared.code.FirstByte.{FirstByte}
use Rattle.lower_stmt.specs.Bodies.{first_bytes}
use Rattle.lower_stmt.specs.FirstBytes.{bytes_in, static_bytes, items_of, HasNumber, IsNumbered, HasFewBytes}

-- ---- what a sound program says of its objects
statics_fit : (p : Program) → is_sound p ≡ true → list_all (static_fits p) p.statics ≡ true
statics_fit p sound =
    let a = and_parts (list_all (target_fits p) p.targets) (list_all (structure_fits p) p.structures && (list_all (static_fits p) p.statics && list_all (function_fits p) p.functions)) sound in
    let b = and_parts (list_all (structure_fits p) p.structures) (list_all (static_fits p) p.statics && list_all (function_fits p) p.functions) a.1 in
    (and_parts (list_all (static_fits p) p.statics) (list_all (function_fits p) p.functions) b.1).0

-- ---- addresses
changeable_there : (p : Program) (n : ℕ) (o : Option StaticTree) → slice_get p.statics n ≡ o → is_changeable o ≡ true → n < length p.statics
changeable_there p n None is h = absurd (false≢true h)
changeable_there p n (Some s) is h = slice_get_within p.statics n s is

byte_numbered : (p : Program) → length p.statics ≤ 65536 → (b : InitialByte) → byte_fits p b ≡ true → HasNumber b
byte_numbered p few (given.Number number) h = tt
byte_numbered p few (given.Address object byte) h =
    let there = changeable_there p object (slice_get p.statics object) refl (and_parts (is_changeable (slice_get p.statics object)) (nat_lt byte 2) h).0 in
    omega (arith, there, few)

bytes_numbered : (p : Program) → length p.statics ≤ 65536 → (size before : ℕ) (is : List Initial) → initial_fits p size before is ≡ true → All IsNumbered is
bytes_numbered p few size before [] h k d lt = absurd (omega (arith, lt))
bytes_numbered p few size before (i ∷ is) h zero d lt =
    let a = and_parts (nat_le before i.offset) (nat_lt i.offset size && (byte_fits p i.byte && initial_fits p size (i.offset + 1) is)) h in
    let b = and_parts (nat_lt i.offset size) (byte_fits p i.byte && initial_fits p size (i.offset + 1) is) a.1 in
    byte_numbered p few i.byte (and_parts (byte_fits p i.byte) (initial_fits p size (i.offset + 1) is) b.1).0
bytes_numbered p few size before (i ∷ is) h (suc k) d lt =
    let a = and_parts (nat_le before i.offset) (nat_lt i.offset size && (byte_fits p i.byte && initial_fits p size (i.offset + 1) is)) h in
    let b = and_parts (nat_lt i.offset size) (byte_fits p i.byte && initial_fits p size (i.offset + 1) is) a.1 in
    bytes_numbered p few size (i.offset + 1) is (and_parts (byte_fits p i.byte) (initial_fits p size (i.offset + 1) is) b.1).1 k d (omega (arith, lt))

static_at : (test : StaticTree → Bool) (xs : List Static) (i : ℕ) (x : Static) → list_all test (map static_of xs) ≡ true → i < length xs → x ≡ get_or xs i x → test (static_of x) ≡ true
static_at test [] i x all lt is = absurd (omega (arith, lt))
static_at test (y ∷ ys) zero x all lt is = ap (λ z. test (static_of z)) is ∙ (and_parts (test (static_of y)) (list_all test (map static_of ys)) all).0
static_at test (y ∷ ys) (suc i) x all lt is = static_at test ys i x (and_parts (test (static_of y)) (list_all test (map static_of ys)) all).1 (omega (arith, lt)) is

-- each first byte of an object of the program is a number, or of an object whose number is small
pub numbered : (targets : List Qualified) (structures : List Structure) (statics : List Static) (functions : List Function) (list : List Static) (i : ℕ) (s : Static) → list ≡ statics → is_sound (program_from targets structures statics functions) ≡ true
    → length statics ≤ 65536 → i < length list → s ≡ get_or list i s → All IsNumbered s.initial.items
numbered targets structures statics functions list i s same sound few lt is =
    let p : Program = program_from targets structures statics functions in
    let fit : list_all (static_fits p) (map static_of list) ≡ true = ap (λ (l : List Static). list_all (static_fits p) (map static_of l)) same ∙ statics_fit p sound in
    let here = static_at (static_fits p) list i s fit lt is in
    let many : length p.statics ≤ 65536 = let l = length-map statics static_of in omega (arith, l, few) in
    bytes_numbered p many (type_bytes p.sizes s.ty.ty) 0 s.initial.items (and_parts (object_fits p s.ty.ty) (initial_fits p (type_bytes p.sizes s.ty.ty) 0 s.initial.items) here).1

-- ---- counts of bytes
bytes_counted : (initial : List Initial) (n : ℕ) → length (bytes_in initial n) ≡ n
unfolding bytes_in
bytes_counted initial zero = refl
bytes_counted initial (suc n) = length-append (bytes_in initial n) _ ∙ (let l = bytes_counted initial n in omega (arith, l))

short_of : (p : Program) (s : StaticTree) → static_fits p s ≡ true → length (static_bytes p.sizes s) ≤ 65536
short_of p s fits =
    let a = and_parts (object_fits p s.ty.ty) (initial_fits p (type_bytes p.sizes s.ty.ty) 0 s.initial) fits in
    let b = and_parts (type_is_there p s.ty.ty) (is_complete p s.ty.ty && nat_le (type_bytes p.sizes s.ty.ty) 65535) a.0 in
    let c = leb-true (type_bytes p.sizes s.ty.ty) 65535 (and_parts (is_complete p s.ty.ty) (nat_le (type_bytes p.sizes s.ty.ty) 65535) b.1).1 in
    let n = bytes_counted s.initial (type_bytes p.sizes s.ty.ty) in
    omega (arith, c, n)

short_each : (p : Program) (made : List (Vec FirstByte Global)) (statics : List StaticTree) → map items_of made ≡ map (static_bytes p.sizes) statics → list_all (static_fits p) statics ≡ true → All HasFewBytes made
short_each p [] statics is fit k d lt = absurd (omega (arith, lt))
short_each p (m ∷ made) [] is fit k d lt = absurd (cc)
short_each p (m ∷ made) (s ∷ statics) is fit zero d lt =
    let same : items_of m ≡ static_bytes p.sizes s = cc in
    let l = ap length same in
    let few = short_of p s (and_parts (static_fits p s) (list_all (static_fits p) statics) fit).0 in
    omega (arith, l, few)
short_each p (m ∷ made) (s ∷ statics) is fit (suc k) d lt =
    let rest : map items_of made ≡ map (static_bytes p.sizes) statics = cc in
    short_each p made statics rest (and_parts (static_fits p s) (list_all (static_fits p) statics) fit).1 k d (omega (arith, lt))

-- the first bytes of each object are few
pub short : (targets : List Qualified) (structures : List Structure) (statics : List Static) (functions : List Function) (made : List (Vec FirstByte Global)) → is_sound (program_from targets structures statics functions) ≡ true
    → map items_of made ≡ first_bytes (program_from targets structures statics functions) → All HasFewBytes made
short targets structures statics functions made sound is =
    let p : Program = program_from targets structures statics functions in
    short_each p made p.statics is (statics_fit p sound)

-- and there are as many objects as the program has
pub counted : (targets : List Qualified) (structures : List Structure) (statics : List Static) (functions : List Function) (made : List (Vec FirstByte Global)) → map items_of made ≡ first_bytes (program_from targets structures statics functions)
    → length statics ≤ 65536 → length made ≤ 65536
counted targets structures statics functions made is few =
    let p : Program = program_from targets structures statics functions in
    let a = length-map made items_of in
    let b : length (map items_of made) ≡ length (map (static_bytes p.sizes) p.statics) = ap length is in
    let c = length-map p.statics (static_bytes p.sizes) in
    let d = length-map statics static_of in
    omega (arith, a, b, c, d, few)
