-- The state in which a sound program starts stands.
use Rattle.std.proofs.Common.{◌≡◌, ℕ, zero, suc, ◌+◌, ◌<◌, Bool, true, false, not, ◌&&◌, ◌||◌, List, [], ◌∷◌, length, map, replicate, Option, Some, None, is_some, refl, sym, ap, ◌∙◌, subst, arith}
use Rattle.std.proofs.lemmas.Bool.{and_parts, false≢true, ltb-true, not-false}
use Rattle.std.proofs.lemmas.List.{get_or-map, get_or_append_left, length-map}
use Rattle.std.proofs.lemmas.Option.{slice_get_within, slice_get-get_or}
use Rattle.std.specs.List.{Contains, list_all}
use Rattle.std.specs.Option.{unwrap_or}
use Rattle.std.specs.Prelude.{if◌then◌else◌, slice_get, get_or, nat_lt, nat_le, nat_eq}
use Rattle.c_typed.specs.Calls.{statements_calls}
use Rattle.c_typed.specs.Chains.{graph_of, row_of, number_of}
use Rattle.c_typed.specs.Roots.{is_empty, is_plain, is_main, is_handler, has, first_from, is_bad_main, is_bad_handler, broken_root, how_many, is_root_called}
use Rattle.c_typed.specs.Sameness.{is_void}
use Rattle.c_typed.specs.Sound.{target_fits, structure_fits, static_fits, object_fits, is_changeable, byte_fits, initial_fits, result_fits, param_fits, local_fits, function_fits, is_sound, statements_fit}
use Rattle.c_typed.specs.Trees.{FunctionTree, StaticTree, Program}
use Rattle.c_typed.specs.Types.{type_bytes}
use Rattle.c_typed.specs.declared.calls.FnId.TheVariants.{User}
use Rattle.c_typed.specs.declared.program.Initial.{Initial}
use Rattle.c_typed.specs.declared.program.InitialByte.{InitialByte}
use Rattle.c_typed.specs.declared.program.InitialByte.TheVariants as initial
use Rattle.c_typed.specs.declared.program.RootKind.{RootKind}
use Rattle.c_typed.specs.declared.types.Ty.TheVariants as types
use Rattle.src_rules.proofs.Bodies.{statements_are, void_is}
use Rattle.src_rules.proofs.Memories.{byte_at}
use Rattle.src_rules.proofs.Parts.{AreCalled}
use Rattle.src_rules.specs.Numbers.{InitialsHaveNumbers, IsInitialByte, ProgramHasNumbers}
use Rattle.src_rules.specs.Parts.{AreStatementsOf, IsRunnable}
use Rattle.src_rules.specs.Standing.{IsThere, IsByte, IsByteAt, MemoryStands, Stands}
use Rattle.src_rules.specs.Step.{start}
use Rattle.src_values.specs.Memory.{Setting, initial_byte, initial_at, static_byte, first_memory}
use Rattle.src_values.specs.Objects.{or_no_function, function_at, main_in, or_first, main_of, bytes_of_static, object_bytes}
use Rattle.src_values.specs.declared.objects.Byte.{Byte}
use Rattle.src_values.specs.declared.objects.Byte.TheVariants as bytes
use Rattle.src_values.specs.declared.objects.Object.{Object}
use Rattle.src_values.specs.declared.objects.Object.TheVariants.{Fixed, Variable}

-- ---- lists
some_same : {A : Type 0} (x y : A) → Some x ≡ Some y → x ≡ y
some_same x y e = ap (λ o. unwrap_or o x) e

pub all_at : {A : Type 0} (test : A → Bool) (xs : List A) (n : ℕ) (x : A) → list_all test xs ≡ true → slice_get xs n ≡ Some x → test x ≡ true
all_at test [] n x all is = absurd (omega (arith, slice_get_within [] n x is))
all_at test (y ∷ ys) zero x all is = sym (ap test (some_same y x is)) ∙ (and_parts (test y) (list_all test ys) all).0
all_at test (y ∷ ys) (suc n) x all is = all_at test ys n x (and_parts (test y) (list_all test ys) all).1 is

map_contains : {A B : Type 0} (f : A → B) (xs : List A) (x : A) → Contains xs x → Contains (map f xs) (f x)
map_contains f xs x c = (c.0, rw (length-map xs f) c.1, get_or-map f xs c.0 x (f x) c.1 ∙ ap f c.2)

-- ---- functions by their numbers
pub function_there : (p : Program) (f : ℕ) → f < length p.functions → slice_get p.functions f ≡ Some (function_at p f)
function_there p f l = let e = slice_get-get_or p.functions f (function_at p f) l in e ∙ sym (ap (λ o. Some (or_no_function o)) e)

row_there : (p : Program) (f : ℕ) → f < length p.functions → get_or (graph_of p) f [] ≡ row_of (length p.functions) (function_at p f)
row_there p f l =
    let rows = map (row_of (length p.functions)) p.functions in
    let m : f < length rows = rw (length-map p.functions (row_of (length p.functions))) l in
    get_or_append_left rows (replicate 16 []) [] f m
    ∙ (get_or-map (row_of (length p.functions)) p.functions f (function_at p f) [] l
    ∙ ap (row_of (length p.functions)) (some_same _ _ (sym (slice_get-get_or p.functions f (function_at p f) l) ∙ function_there p f l)))

body_called : (p : Program) (f : ℕ) → f < length p.functions → AreCalled p f (statements_calls (function_at p f).body)
body_called p f l g c = rw (row_there p f l) (map_contains (number_of (length p.functions)) (statements_calls (function_at p f).body) (User g) c)

function_parts : (p : Program) (f : FunctionTree) → function_fits p f ≡ true → statements_fit p f true false false f.body ≡ true
function_parts p f h =
    let a = and_parts (result_fits p f.result) (list_all (param_fits p) f.params && (list_all (local_fits p) f.locals && statements_fit p f true false false f.body)) h in
    let b = and_parts (list_all (param_fits p) f.params) (list_all (local_fits p) f.locals && statements_fit p f true false false f.body) a.1 in
    (and_parts (list_all (local_fits p) f.locals) (statements_fit p f true false false f.body) b.1).1

pub sound_parts : (p : Program) → is_sound p ≡ true → (list_all (static_fits p) p.statics ≡ true) × (list_all (function_fits p) p.functions ≡ true)
sound_parts p h =
    let a = and_parts (list_all (target_fits p) p.targets) (list_all (structure_fits p) p.structures && (list_all (static_fits p) p.statics && list_all (function_fits p) p.functions)) h in
    let b = and_parts (list_all (structure_fits p) p.structures) (list_all (static_fits p) p.statics && list_all (function_fits p) p.functions) a.1 in
    and_parts (list_all (static_fits p) p.statics) (list_all (function_fits p) p.functions) b.1

bodies_stand : (p : Program) → is_sound p ≡ true → ProgramHasNumbers p → (f : ℕ) → f < length p.functions → AreStatementsOf p f true false false (function_at p f).body
bodies_stand p h n f l =
    let is = function_there p f l in
    statements_are p f true false false (function_at p f).body (function_parts p (function_at p f) (all_at (function_fits p) p.functions f (function_at p f) (sound_parts p h).1 is)) (n.bodies f (function_at p f) is) (body_called p f l)

-- ---- roots
pub record IsFirst (test : FunctionTree → Bool) (xs : List FunctionTree) (from j : ℕ) : Type 0 where
  pub number : ℕ
  pub function : FunctionTree
  pub at : j ≡ from + number
  pub there : slice_get xs number ≡ Some function
  pub passes : test function ≡ true

none_some : {A : Type 0} (x : A) → None ≡ Some x → ⊥
none_some x e = false≢true (ap is_some e)

first_case : (test : FunctionTree → Bool) (x : FunctionTree) (xs : List FunctionTree) (from j : ℕ) (b : Bool) → test x ≡ b → (if b then Some from else first_from test xs (from + 1)) ≡ Some j → (first_from test xs (from + 1) ≡ Some j → IsFirst test xs (from + 1) j) → IsFirst test (x ∷ xs) from j
first_case test x xs from j true e is more = record { number = 0; function = x; at = (let d = some_same from j is in omega arith); there = refl; passes = e }
first_case test x xs from j false e is more = let r = more is in record { number = suc r.number; function = r.function; at = (let d = r.at in omega arith); there = r.there; passes = r.passes }

found_first : (test : FunctionTree → Bool) (xs : List FunctionTree) (from j : ℕ) → first_from test xs from ≡ Some j → IsFirst test xs from j
found_first test [] from j is = absurd (none_some j is)
found_first test (x ∷ xs) from j is = first_case test x xs from j (test x) refl is (found_first test xs (from + 1) j)

-- the first from 0 on stands at its number
at_number : (test : FunctionTree → Bool) (p : Program) (j : ℕ) → first_from test p.functions 0 ≡ Some j → (j < length p.functions) × (test (function_at p j) ≡ true)
at_number test p j is =
    let r = found_first test p.functions 0 j is in
    let e : r.number ≡ j = (let d = r.at in omega arith) in
    let there : slice_get p.functions j ≡ Some r.function = subst (λ k. slice_get p.functions k ≡ Some r.function) e r.there in
    (slice_get_within p.functions j r.function there, ap (λ o. test (or_no_function o)) there ∙ r.passes)

pub or_false : (a b : Bool) → (a || b) ≡ false → (a ≡ false) × (b ≡ false)
or_false true b e = absurd (false≢true (sym e))
or_false false b e = (refl, e)

none_has : (test : FunctionTree → Bool) (xs : List FunctionTree) (n : ℕ) (x : FunctionTree) → has test xs ≡ false → slice_get xs n ≡ Some x → test x ≡ false
none_has test [] n x h is = absurd (omega (arith, slice_get_within [] n x is))
none_has test (y ∷ ys) zero x h is = sym (ap test (some_same y x is)) ∙ (or_false (test y) (has test ys) h).0
none_has test (y ∷ ys) (suc n) x h is = none_has test ys n x (or_false (test y) (has test ys) h).1 is

found_case : (x : FunctionTree) (test : FunctionTree → Bool) (xs : List FunctionTree) (from : ℕ) (b : Bool) → (b || has test xs) ≡ true → (if b then Some from else first_from test xs (from + 1)) ≡ None → (has test xs ≡ true → first_from test xs (from + 1) ≡ None → ⊥) → ⊥
found_case x test xs from true h is more = false≢true (sym (ap is_some is))
found_case x test xs from false h is more = more h is

has_found : (test : FunctionTree → Bool) (xs : List FunctionTree) (from : ℕ) → has test xs ≡ true → first_from test xs from ≡ None → ⊥
has_found test [] from h is = false≢true h
has_found test (x ∷ xs) from h is = found_case x test xs from (test x) h is (has_found test xs (from + 1))

root_cases : (a b c d e : Bool) (k l m n o : RootKind) → (if not a then Some k else if b then Some l else if c then Some m else if d then Some n else if e then Some o else None) ≡ None → (a ≡ true) × (b ≡ false) × (c ≡ false)
root_cases false b c d e k l m n o is = absurd (false≢true (sym (ap is_some is)))
root_cases true true c d e k l m n o is = absurd (false≢true (sym (ap is_some is)))
root_cases true false true d e k l m n o is = absurd (false≢true (sym (ap is_some is)))
root_cases true false false d e k l m n o is = (refl, refl, refl)

roots_hold : (p : Program) → broken_root p ≡ None → (has is_main p.functions ≡ true) × (has is_bad_main p.functions ≡ false) × (has is_bad_handler p.functions ≡ false)
roots_hold p is = root_cases (has is_main p.functions) (has is_bad_main p.functions) (has is_bad_handler p.functions) (nat_lt 1 (how_many is_handler p.functions)) (is_root_called (graph_of p) p.functions 0) _ _ _ _ _ is

plain_void : (f : FunctionTree) → is_plain f ≡ true → f.result ≡ types.Void
plain_void f e = void_is f.result (and_parts (is_void f.result) (is_empty f.params) e).0

good_main : (f : FunctionTree) → is_main f ≡ true → is_bad_main f ≡ false → f.result ≡ types.Void
good_main f main bad = plain_void f (not-false (is_plain f) (or_false f.interrupt (not (is_plain f)) (sym (ap (λ b. b && (f.interrupt || not (is_plain f))) main) ∙ bad)).1)

good_handler : (f : FunctionTree) → is_handler f ≡ true → is_bad_handler f ≡ false → f.result ≡ types.Void
good_handler f handler bad = plain_void f (not-false (is_plain f) (sym (ap (λ b. b && not (is_plain f)) handler) ∙ bad))

main_found : (p : Program) (o : Option ℕ) → main_in p ≡ o → has is_main p.functions ≡ true → main_in p ≡ Some (or_first o)
main_found p None is h = absurd (has_found is_main p.functions 0 h is)
main_found p (Some m) is h = is

pub sound_runs : (p : Program) → is_sound p ≡ true → broken_root p ≡ None → ProgramHasNumbers p → IsRunnable p
sound_runs p sound roots numbers =
    let r = roots_hold p roots in
    let m = main_found p (main_in p) refl r.0 in
    let a = at_number is_main p (main_of p) m in
    record {
      bodies = bodies_stand p sound numbers;
      main = m;
      main_there = a.0;
      main_plain = good_main (function_at p (main_of p)) a.1 (none_has is_bad_main p.functions (main_of p) (function_at p (main_of p)) r.1 (function_there p (main_of p) a.0));
      handler_there = λ h is. (at_number is_handler p h is).0;
      handler_plain = λ h is. let b = at_number is_handler p h is in good_handler (function_at p h) b.1 (none_has is_bad_handler p.functions h (function_at p h) r.2 (function_there p h b.0));
    }

-- ---- the first memory
changeable_there : (p : Program) (n : ℕ) (o : Option StaticTree) → slice_get p.statics n ≡ o → is_changeable o ≡ true → n < length p.statics
changeable_there p n None is e = absurd (false≢true e)
changeable_there p n (Some s) is e = slice_get_within p.statics n s is

byte_stands : (p : Program) (b : InitialByte) → byte_fits p b ≡ true → IsInitialByte b → IsByte p (initial_byte b)
byte_stands p (initial.Number n) f h = h
byte_stands p (initial.Address object byte) f h = (changeable_there p object (slice_get p.statics object) refl (and_parts (is_changeable (slice_get p.statics object)) (nat_lt byte 2) f).0, omega arith)

chosen_stands : (p : Program) (b : Bool) (x y : Byte) → IsByte p x → IsByte p y → IsByte p (if b then x else y)
chosen_stands p true x y h g = h
chosen_stands p false x y h g = g

initial_stands : (p : Program) (size before : ℕ) (is : List Initial) (at : ℕ) → initial_fits p size before is ≡ true → InitialsHaveNumbers is → IsByte p (initial_at is at)
initial_stands p size before [] at f h = omega arith
initial_stands p size before (i ∷ is) at f h =
    let a = and_parts (nat_le before i.offset) (nat_lt i.offset size && (byte_fits p i.byte && initial_fits p size (i.offset + 1) is)) f in
    let b = and_parts (nat_lt i.offset size) (byte_fits p i.byte && initial_fits p size (i.offset + 1) is) a.1 in
    let c = and_parts (byte_fits p i.byte) (initial_fits p size (i.offset + 1) is) b.1 in
    chosen_stands p (nat_eq i.offset at) (initial_byte i.byte) (initial_at is at) (byte_stands p i.byte c.0 h.0) (initial_stands p size (i.offset + 1) is at c.1 h.1)

inside_stands : (p : Program) (object : Object) (at size : ℕ) (byte : Byte) (b : Bool) → nat_lt at size ≡ b → size ≡ object_bytes p object → IsThere p object → IsByte p byte → IsByteAt p object at (if b then byte else bytes.Unset)
inside_stands p object at size byte false e is t h = tt
inside_stands p object at size byte true e is t h = byte_at p object at byte t (rw (← is) (ltb-true at size e)) h

static_size : (p : Program) (n : ℕ) (s : StaticTree) → slice_get p.statics n ≡ Some s → type_bytes p.sizes s.ty.ty ≡ object_bytes p (Fixed n)
unfolding object_bytes
static_size p n s is = sym (ap (bytes_of_static p.sizes) is)

static_stands : (p : Program) → is_sound p ≡ true → ProgramHasNumbers p → (n at : ℕ) (o : Option StaticTree) → slice_get p.statics n ≡ o → IsByteAt p (Fixed n) at (static_byte p.sizes o at)
static_stands p sound numbers n at None is = tt
static_stands p sound numbers n at (Some s) is =
    let f = and_parts (object_fits p s.ty.ty) (initial_fits p (type_bytes p.sizes s.ty.ty) 0 s.initial) (all_at (static_fits p) p.statics n s (sound_parts p sound).0 is) in
    inside_stands p (Fixed n) at (type_bytes p.sizes s.ty.ty) (initial_at s.initial at) (nat_lt at (type_bytes p.sizes s.ty.ty)) refl (static_size p n s is) (slice_get_within p.statics n s is) (initial_stands p (type_bytes p.sizes s.ty.ty) 0 s.initial at f.1 (numbers.statics n s is))

memory_stands : (p : Program) → is_sound p ≡ true → ProgramHasNumbers p → MemoryStands p (first_memory p)
memory_stands p sound numbers (Fixed n) at = static_stands p sound numbers n at (slice_get p.statics n) refl
memory_stands p sound numbers (Variable c n) at = tt

-- ---- the start
pub start_stands : (s : Setting) → is_sound s.program ≡ true → broken_root s.program ≡ None → ProgramHasNumbers s.program → Stands s.program (start s)
unfolding start
start_stands s sound roots numbers =
    let ok = sound_runs s.program sound roots numbers in
    record {
      reached = record { root = main_of s.program; entered = ok.main; chain = ([], refl); there = ok.main_there };
      focus = tt;
      stack = (ok.bodies (main_of s.program) ok.main_there, tt, refl);
      memory = memory_stands s.program sound numbers;
      control = record { intcon = omega arith; pir1 = omega arith; pie1 = omega arith };
      inside = refl;
    }
