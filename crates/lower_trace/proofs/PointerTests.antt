-- Pointers are compared: in one object by their places there, and with null. Pointers into two objects are never equal where the source
-- has an answer: neither is just past its object while the other one leads to a byte.
use Rattle.c_ints.specs.Operators.{comparison, cut_to, truth}
use Rattle.c_ints.specs.Range.{bytes_of}
use Rattle.c_ints.specs.declared.operators.BinOp.TheVariants as ops
use Rattle.c_ints.specs.declared.operators.BinOp.{BinOp}
use Rattle.c_ints.specs.declared.types.IntTy.TheVariants as int
use Rattle.c_typed.specs.Folding.{constant_bits}
use Rattle.c_typed.specs.Trees as tree
use Rattle.c_typed.specs.Trees.{Expression, Program}
use Rattle.c_typed.specs.Types.{is_constant, type_bytes, type_of}
use Rattle.c_typed.specs.declared.types.Ty.TheVariants as types
use Rattle.c_typed.specs.declared.types.Ty.{Ty}
use Rattle.core_code.specs.Bytes as bytes
use Rattle.core_code.specs.Bytes.{Memory, byte_in, same_byte, with_bytes}
use Rattle.core_code.specs.Machine as core_machine
use Rattle.core_code.specs.Machine.{Machine, Task, Do as Todo, Waiting, extent, lives_in, waiting}
use Rattle.core_code.specs.Operands.{fits_together, number_left}
use Rattle.core_code.specs.Tree as code
use Rattle.core_code.specs.Values as core
use Rattle.core_code.specs.Values.{Extent, Value, binary_value, may_touch, right_type, value_in}
use Rattle.core_code.specs.declared.code.Byte.TheVariants.{Frame}
use Rattle.core_puts.specs.Bytes.{beyond, operation_type}
use Rattle.lower_expr.specs.Layout.{value_width}
use Rattle.lower_expr.specs.Lowering.{shifts_by_constant}
use Rattle.lower_expr.specs.Rows.{binary_row, is_shift}
use Rattle.lower_trace.proofs.Beginnings.{Follow}
use Rattle.lower_trace.proofs.CodeLeft.{Scene, base, code_after, core_in, ground_in, held, number, plain_behind, source_in, stack_after, todo}
use Rattle.lower_trace.proofs.Constants.{again_below, due_below, same_below}
use Rattle.lower_trace.proofs.Entering.{bool_cases, copy_is}
use Rattle.lower_trace.proofs.Giving.{Around, gives, placed_of}
use Rattle.lower_trace.proofs.Kept.{SceneLaws, bytes_small, own_copy}
use Rattle.lower_trace.proofs.Mirrors.{HasDatum, Mirrors, core_byte}
use Rattle.lower_trace.proofs.Moving.{binary_any_then, pointer_value}
use Rattle.lower_trace.proofs.NumberBytes.{core_object_same}
use Rattle.lower_trace.proofs.Operating.{IsPlain, plain_alone, plain_cost, plain_fits, plain_right, value_number}
use Rattle.lower_trace.proofs.Operations.{beyond_is, comes_here, comes_within, own_frame}
use Rattle.lower_trace.proofs.Placed.{Placed}
use Rattle.lower_trace.proofs.PointerSums.{null_byte}
use Rattle.lower_trace.proofs.Scaling.{uint, uint_range}
use Rattle.lower_trace.proofs.Written.{and_left, and_right, both, nat_same, same_nat}
use Rattle.lower_trace.specs.Lowering.{object_as, offset_as}
use Rattle.pic_world.specs.World.{World, arrived, is_due, world_as}
use Rattle.src_rules.specs.Giving.{answered, take_in}
use Rattle.src_rules.specs.Standing.{IsPointer, IsThere}
use Rattle.src_rules.specs.State.{state}
use Rattle.src_values.specs.Control.{In, One, Pending, Holds as Value_is, active, callers}
use Rattle.src_values.specs.Data as datum
use Rattle.src_values.specs.Memory as source
use Rattle.src_values.specs.Objects.{is_alive, object_bytes, same_copy, same_object}
use Rattle.src_values.specs.Values as answers
use Rattle.src_values.specs.Values.{Answer, apart, bad_right, binary_answer, equality, is_inside, is_past, on_pointers, on_values, order, truth_value, unless_bad, unless_undefined}
use Rattle.src_values.specs.declared.objects.Byte as value
use Rattle.src_values.specs.declared.objects.CopyOf.{CopyOf}
use Rattle.src_values.specs.declared.objects.Object as object
use Rattle.src_values.specs.declared.objects.Object.TheVariants as objects
use Rattle.src_values.specs.declared.objects.Pointer.TheVariants.{Into, Null}
use Rattle.src_values.specs.declared.objects.Pointer.{Pointer}
use Rattle.src_values.specs.declared.objects.Undef.TheVariants.{Inactive, Order, Past}
use Rattle.src_values.specs.declared.objects.Undef.{Undef}
use Rattle.std.proofs.Common.{Bool, List, None, Option, Some, [], ap, arith, false, if◌then◌else◌, inl, inr, nat_eq, nat_lt, not, option_map, pos, refl, subst, sym, true, ℕ, ⊎_elim, ◌&&◌, ◌+◌, ◌-◌, ◌<◌, ◌∙◌, ◌∷◌, ◌≡◌, ◌≤◌, ◌||◌, ◌⊎◌}
use Rattle.std.proofs.lemmas.Grind.{common_steps}
use Rattle.std.proofs.lemmas.Int.{ints}

-- ---- operators that compare pointers
abbrev pub IsTest : BinOp → Type 0
IsTest ops.Eq = Unit {0}
IsTest ops.Ne = Unit {0}
IsTest ops.Lt = Unit {0}
IsTest ops.Gt = Unit {0}
IsTest ops.Le = Unit {0}
IsTest ops.Ge = Unit {0}
IsTest _ = ⊥

test_plain : (op : BinOp) → IsTest op → IsPlain op
test_plain ops.Eq t = tt
test_plain ops.Ne t = tt
test_plain ops.Lt t = tt
test_plain ops.Gt t = tt
test_plain ops.Le t = tt
test_plain ops.Ge t = tt
test_plain ops.Add t = absurd t
test_plain ops.Sub t = absurd t
test_plain ops.And t = absurd t
test_plain ops.Or t = absurd t
test_plain ops.Xor t = absurd t
test_plain ops.Mul t = absurd t
test_plain ops.Div t = absurd t
test_plain ops.Rem t = absurd t
test_plain ops.Shl t = absurd t
test_plain ops.Shr t = absurd t

test_unshifted : (op : BinOp) → IsTest op → is_shift op ≡ false
test_unshifted ops.Eq t = refl
test_unshifted ops.Ne t = refl
test_unshifted ops.Lt t = refl
test_unshifted ops.Gt t = refl
test_unshifted ops.Le t = refl
test_unshifted ops.Ge t = refl
test_unshifted ops.Add t = absurd t
test_unshifted ops.Sub t = absurd t
test_unshifted ops.And t = absurd t
test_unshifted ops.Or t = absurd t
test_unshifted ops.Xor t = absurd t
test_unshifted ops.Mul t = absurd t
test_unshifted ops.Div t = absurd t
test_unshifted ops.Rem t = absurd t
test_unshifted ops.Shl t = absurd t
test_unshifted ops.Shr t = absurd t

test_asks : (p : Program) (live : List CopyOf) (op : BinOp) (ty : Ty) (x y : Pointer) → IsTest op → binary_answer p live op ty (datum.Pointer x) (datum.Pointer y) ≡ on_pointers p live op x y
unfolding binary_answer
test_asks p live ops.Eq ty x y t = refl
test_asks p live ops.Ne ty x y t = refl
test_asks p live ops.Lt ty x y t = refl
test_asks p live ops.Gt ty x y t = refl
test_asks p live ops.Le ty x y t = refl
test_asks p live ops.Ge ty x y t = refl
test_asks p live ops.Add ty x y t = absurd t
test_asks p live ops.Sub ty x y t = absurd t
test_asks p live ops.And ty x y t = absurd t
test_asks p live ops.Or ty x y t = absurd t
test_asks p live ops.Xor ty x y t = absurd t
test_asks p live ops.Mul ty x y t = absurd t
test_asks p live ops.Div ty x y t = absurd t
test_asks p live ops.Rem ty x y t = absurd t
test_asks p live ops.Shl ty x y t = absurd t
test_asks p live ops.Shr ty x y t = absurd t

-- ---- what byte code has for an answer of the source
abbrev pub AnswersAs : Answer → Option Value → Type 0
AnswersAs (answers.Gives (datum.Number q)) v = v ≡ Some (core.Number q)
AnswersAs (answers.Gives (datum.Pointer x)) v = ⊥
AnswersAs (answers.Gives datum.Missing) v = ⊥
AnswersAs (answers.Fails kind) v = Unit {0}
AnswersAs answers.Strays v = Unit {0}

-- a pointer as byte code has it
abbrev pub pointer_as : Scene → Pointer → Value
pointer_as z Null = core.Number (uint 0)
pointer_as z (Into o f) = core.Pointer (record { object = object_as z.copies o; offset = offset_as z.program o + f })

pub pointer_there : (z : Scene) (n b : ℕ) (x : Pointer) (m : Memory) → HasDatum z n b (datum.Pointer x) m → value_in int.UInt m (Frame n b) ≡ Some (pointer_as z x)
pointer_there z n b Null m h = value_number z n b (uint 0) m (uint_range 0 (omega arith)) (λ j few. h j few ∙ sym (null_byte j few))
pointer_there z n b (Into o f) m h = pointer_value z n b o f m h

pub object_is : (a b : object.Object) → same_object a b ≡ true → a ≡ b
object_is (objects.Fixed n) (objects.Fixed m) e = ap objects.Fixed (same_nat n m e)
object_is (objects.Fixed n) (objects.Variable d m) e = absurd (cc)
object_is (objects.Variable c n) (objects.Fixed m) e = absurd (cc)
object_is (objects.Variable c n) (objects.Variable d m) e =
    let a = copy_is c d (and_left (same_copy c d) (nat_eq n m) e) in
    let b = same_nat n m (and_right (same_copy c d) (nat_eq n m) e) in
    ap (λ x. objects.Variable x n) a ∙ ap (objects.Variable d) b

core_object_is : (a b : bytes.Object) → bytes.same_object a b ≡ true → a ≡ b
core_object_is (bytes.Fixed n) (bytes.Fixed m) e = ap bytes.Fixed (same_nat n m e)
core_object_is (bytes.Fixed n) (bytes.FrameOf m) e = absurd (cc)
core_object_is (bytes.FrameOf n) (bytes.Fixed m) e = absurd (cc)
core_object_is (bytes.FrameOf n) (bytes.FrameOf m) e = ap bytes.FrameOf (same_nat n m e)

byte_in_same : (o : bytes.Object) (n : ℕ) → same_byte (byte_in o n) (byte_in o n) ≡ true
byte_in_same (bytes.Fixed i) n = both _ _ (nat_same i) (nat_same n)
byte_in_same (bytes.FrameOf i) n = both _ _ (nat_same i) (nat_same n)

nat_eq_sum : (a f g : ℕ) → nat_eq (a + f) (a + g) ≡ nat_eq f g
nat_eq_sum a f g = grind (arith, common_steps)

lt_sum : (op : BinOp) (a f g : ℕ) → IsTest op → comparison op (pos (a + f)) (pos (a + g)) ≡ comparison op (pos f) (pos g)
lt_sum ops.Eq a f g t = grind (ints, arith, common_steps)
lt_sum ops.Ne a f g t = grind (ints, arith, common_steps)
lt_sum ops.Lt a f g t = grind (ints, arith, common_steps)
lt_sum ops.Gt a f g t = grind (ints, arith, common_steps)
lt_sum ops.Le a f g t = grind (ints, arith, common_steps)
lt_sum ops.Ge a f g t = grind (ints, arith, common_steps)
lt_sum ops.Add a f g t = absurd t
lt_sum ops.Sub a f g t = absurd t
lt_sum ops.And a f g t = absurd t
lt_sum ops.Or a f g t = absurd t
lt_sum ops.Xor a f g t = absurd t
lt_sum ops.Mul a f g t = absurd t
lt_sum ops.Div a f g t = absurd t
lt_sum ops.Rem a f g t = absurd t
lt_sum ops.Shl a f g t = absurd t
lt_sum ops.Shr a f g t = absurd t

nat_eq_false : (a b : ℕ) → (a ≡ b → ⊥) → nat_eq a b ≡ false
nat_eq_false a b far = ⊎_elim (λ e. absurd (far (same_nat a b e))) (λ e. e) (bool_cases (nat_eq a b))

-- Two objects: where the source has an answer, both live, and no pointer is past its object while the other leads to a byte.
pub record Separate (z : Scene) (live : List CopyOf) (a : object.Object) (f : ℕ) (b : object.Object) (g : ℕ) : Type 0 where
  pub first : is_alive live a ≡ true
  pub second : is_alive live b ≡ true
  pub past : (f ≡ object_bytes z.program a) → g < object_bytes z.program b → ⊥
  pub inside : f < object_bytes z.program a → (g ≡ object_bytes z.program b) → ⊥

separate_of : (z : Scene) (live : List CopyOf) (a : object.Object) (f : ℕ) (b : object.Object) (g : ℕ) → apart z.program live a f b g ≡ None → Separate z live a f b g
separate_of z live a f b g e =
    let x = if_none_is (not (is_alive live a && is_alive live b)) Inactive _ e in
    let y = if_none_is ((is_past z.program a f && is_inside z.program b g) || (is_inside z.program a f && is_past z.program b g)) Past None x.1 in
    let alive = unnot (is_alive live a && is_alive live b) x.0 in
    record {
      first = and_left (is_alive live a) (is_alive live b) alive;
      second = and_right (is_alive live a) (is_alive live b) alive;
      past = λ p i. none_both (is_past z.program a f) (is_inside z.program b g) (is_inside z.program a f) (is_past z.program b g) y.0 (inl (nat_of f (object_bytes z.program a) p, lt_of_is g (object_bytes z.program b) i));
      inside = λ i p. none_both (is_past z.program a f) (is_inside z.program b g) (is_inside z.program a f) (is_past z.program b g) y.0 (inr (lt_of_is f (object_bytes z.program a) i, nat_of g (object_bytes z.program b) p));
    }
  where
    if_none_is : (b : Bool) (kind : Undef) (x : Option Undef) → (if b then Some kind else x) ≡ None → (b ≡ false) × (x ≡ None)
    if_none_is true kind x e = absurd (cc)
    if_none_is false kind x e = (refl, e)

    unnot : (b : Bool) → not b ≡ false → b ≡ true
    unnot true e = refl
    unnot false e = absurd (cc)

    nat_of : (a b : ℕ) → a ≡ b → nat_eq a b ≡ true
    nat_of a b e = ap (λ x. nat_eq x b) e ∙ nat_same b

    lt_of_is : (a b : ℕ) → a < b → nat_lt a b ≡ true
    lt_of_is a b h = grind (arith, common_steps)

    none_both : (p q r s : Bool) → ((p && q) || (r && s)) ≡ false → (((p ≡ true) × (q ≡ true)) ⊎ ((r ≡ true) × (s ≡ true))) → ⊥
    none_both true true r s e h = cc
    none_both true false r s e (inl h) = let q = h.1 in cc
    none_both false q r s e (inl h) = let p = h.0 in cc
    none_both true false true true e (inr h) = cc
    none_both true false true false e (inr h) = let q = h.1 in cc
    none_both true false false s e (inr h) = let q = h.0 in cc
    none_both false q true true e (inr h) = cc
    none_both false q true false e (inr h) = let p = h.1 in cc
    none_both false q false s e (inr h) = let p = h.0 in cc

-- What is known where pointers are compared: objects have a byte at least, and what lives in the source lives in byte code.
pub record Comparing (z : Scene) (live : List CopyOf) (e : Extent) : Type 0 where
  pub some : (o : object.Object) → IsThere z.program o → 0 < object_bytes z.program o
  pub size : (o : bytes.Object) → e.size o ≡ core_machine.object_bytes (core_in z).program o
  pub lives : (o : object.Object) → IsThere z.program o → is_alive live o ≡ true → e.lives (object_as z.copies o) ≡ true

module _ (z : Scene) (laws : SceneLaws z) (live : List CopyOf) (e : Extent) (known : Comparing z live e) where
  -- places in two objects that byte code has in one
  differ : (a : object.Object) (f : ℕ) (b : object.Object) (g : ℕ) → same_object a b ≡ false → IsThere z.program a → IsThere z.program b → f ≤ object_bytes z.program a → g ≤ object_bytes z.program b → Separate z live a f b g → object_as z.copies a ≡ object_as z.copies b → offset_as z.program a + f ≡ offset_as z.program b + g → ⊥
  differ a f b g far at bt fl gl s same offset =
      ⊎_elim
      (λ f_in. ⊎_elim (λ g_in. meet f g f_in g_in offset) (λ g_out. s.inside f_in (omega arith)) (cases f (object_bytes z.program a) g (object_bytes z.program b) gl))
      (λ f_out. ⊎_elim (λ g_in. s.past (omega arith) g_in) (λ g_out. let sa = known.some a at in let sb = known.some b bt in meet (f - 1) (g - 1) (omega arith) (omega arith) (omega arith)) (cases f (object_bytes z.program a) g (object_bytes z.program b) gl))
      (cases g (object_bytes z.program b) f (object_bytes z.program a) fl)
    where
      cases : (i j f n : ℕ) → f ≤ n → (f < n) ⊎ (f ≡ n)
      cases i j f n le = grind (arith, common_steps)

      meet : (i j : ℕ) → i < object_bytes z.program a → j < object_bytes z.program b → offset_as z.program a + i ≡ offset_as z.program b + j → ⊥
      meet i j il jl is =
          let one : core_byte z a i ≡ core_byte z b j = ap (λ x. byte_in x (offset_as z.program a + i)) same ∙ ap (byte_in (object_as z.copies b)) is in
          let yes_is : same_byte (core_byte z a i) (core_byte z b j) ≡ true = ap (λ x. same_byte x (core_byte z b j)) one ∙ byte_in_same (object_as z.copies b) (offset_as z.program b + j) in
          let no_is : same_byte (core_byte z a i) (core_byte z b j) ≡ false = laws.spots a i b j at il bt jl ∙ ap (λ x. x && nat_eq i j) far in
          let q : true ≡ false = sym yes_is ∙ no_is in cc

  touches : (a : object.Object) (f : ℕ) (b : object.Object) (g : ℕ) → IsThere z.program a → IsThere z.program b → f ≤ object_bytes z.program a → g ≤ object_bytes z.program b → Separate z live a f b g
      → may_touch e (record { object = object_as z.copies a; offset = offset_as z.program a + f }) (record { object = object_as z.copies b; offset = offset_as z.program b + g }) ≡ false
  touches a f b g at bt fl gl s =
      neither (nat_eq (offset_as z.program a + f) (e.size (object_as z.copies a))) (nat_eq (offset_as z.program b + g) 0) (nat_eq (offset_as z.program a + f) 0) (nat_eq (offset_as z.program b + g) (e.size (object_as z.copies b)))
      (λ p q. let sa = known.size (object_as z.copies a) in let fit = laws.fits a at in let some = known.some b bt in let i = same_nat (offset_as z.program a + f) (e.size (object_as z.copies a)) p in let j = same_nat (offset_as z.program b + g) 0 q in s.past (omega arith) (omega arith))
      (λ p q. let sb = known.size (object_as z.copies b) in let fit = laws.fits b bt in let some = known.some a at in let i = same_nat (offset_as z.program a + f) 0 p in let j = same_nat (offset_as z.program b + g) (e.size (object_as z.copies b)) q in s.inside (omega arith) (omega arith))
    where
      neither : (p q r t : Bool) → (p ≡ true → q ≡ true → ⊥) → (r ≡ true → t ≡ true → ⊥) → ((p && q) || (r && t)) ≡ false
      neither true true r t h i = absurd (h refl refl)
      neither true false true true h i = absurd (i refl refl)
      neither true false true false h i = refl
      neither true false false t h i = refl
      neither false q true true h i = absurd (i refl refl)
      neither false q true false h i = refl
      neither false q false t h i = refl

  equal_apart : (one : Bool) (a : object.Object) (f : ℕ) (b : object.Object) (g : ℕ) → bytes.same_object (object_as z.copies a) (object_as z.copies b) ≡ one → same_object a b ≡ false → IsThere z.program a → IsThere z.program b → f ≤ object_bytes z.program a → g ≤ object_bytes z.program b → Separate z live a f b g
      → core.equal_pointers e (record { object = object_as z.copies a; offset = offset_as z.program a + f }) (record { object = object_as z.copies b; offset = offset_as z.program b + g }) ≡ Some false
  equal_apart true a f b g one far at bt fl gl s =
      let no_is = nat_eq_false (offset_as z.program a + f) (offset_as z.program b + g) (λ i. differ a f b g far at bt fl gl s (core_object_is (object_as z.copies a) (object_as z.copies b) one) i) in
      rw (one, no_is) refl
  equal_apart false a f b g one far at bt fl gl s =
      let la = known.lives a at s.first in
      let lb = known.lives b bt s.second in
      let t = touches a f b g at bt fl gl s in
      rw (one, la, lb, t) refl

  equal_same : (a : object.Object) (f : ℕ) (b : object.Object) (g : ℕ) → same_object a b ≡ true
      → core.equal_pointers e (record { object = object_as z.copies a; offset = offset_as z.program a + f }) (record { object = object_as z.copies b; offset = offset_as z.program b + g }) ≡ Some (nat_eq f g)
  equal_same a f b g is =
      let q = object_is a b is in
      ap (λ x. core.equal_pointers e (record { object = object_as z.copies x; offset = offset_as z.program x + f }) (record { object = object_as z.copies b; offset = offset_as z.program b + g })) q
      ∙ ap
      (λ x. if x then Some (nat_eq (offset_as z.program b + f) (offset_as z.program b + g)) else
      (if e.lives (object_as z.copies b) && e.lives (object_as z.copies b) && not (may_touch e (record { object = object_as z.copies b; offset = offset_as z.program b + f }) (record { object = object_as z.copies b; offset = offset_as z.program b + g })) then Some false else None))
      (core_object_same (object_as z.copies b))
      ∙ ap Some (nat_eq_sum (offset_as z.program b) f g)

  -- ---- the answers
  equal_case : (one : Bool) (turned : Bool) (a : object.Object) (f : ℕ) (b : object.Object) (g : ℕ) → same_object a b ≡ one → IsPointer z.program (Into a f) → IsPointer z.program (Into b g)
      → AnswersAs (if one then answers.Gives (truth_value (if nat_eq f g then not turned else turned)) else unless_undefined (apart z.program live a f b g) turned)
      (option_map (λ same. core.truth_value (if turned then not same else same)) (core.equal_pointers e (record { object = object_as z.copies a; offset = offset_as z.program a + f }) (record { object = object_as z.copies b; offset = offset_as z.program b + g })))
  equal_case true turned a f b g one pa pb =
      ap (option_map (λ same. core.truth_value (if turned then not same else same))) (equal_same a f b g one) ∙ turned_same turned (nat_eq f g)
    where
      turned_same : (turned same : Bool) → Some (core.truth_value (if turned then not same else same)) ≡ Some (core.Number (cut_to int.Int (truth (if same then not turned else turned))))
      turned_same true true = refl
      turned_same true false = refl
      turned_same false true = refl
      turned_same false false = refl
  equal_case false turned a f b g one pa pb = undefined_or (apart z.program live a f b g) refl
    where
      turned_none : (turned : Bool) → Some (core.truth_value (if turned then not false else false)) ≡ Some (core.Number (cut_to int.Int (truth turned)))
      turned_none true = refl
      turned_none false = refl

      undefined_or : (o : Option Undef) → apart z.program live a f b g ≡ o
          → AnswersAs (unless_undefined o turned) (option_map (λ same. core.truth_value (if turned then not same else same)) (core.equal_pointers e (record { object = object_as z.copies a; offset = offset_as z.program a + f }) (record { object = object_as z.copies b; offset = offset_as z.program b + g })))
      undefined_or (Some kind) is = tt
      undefined_or None is =
          ap (option_map (λ same. core.truth_value (if turned then not same else same))) (equal_apart (bytes.same_object (object_as z.copies a) (object_as z.copies b)) a f b g refl one pa.0 pb.0 pa.1 pb.1 (separate_of z live a f b g is)) ∙ turned_none turned

  order_case : (one : Bool) (op : BinOp) (a : object.Object) (f : ℕ) (b : object.Object) (g : ℕ) → IsTest op → same_object a b ≡ one
      → AnswersAs (if one then answers.Gives (truth_value (comparison op (pos f) (pos g))) else answers.Fails Order)
      (core.in_one_object (record { object = object_as z.copies a; offset = offset_as z.program a + f }) (record { object = object_as z.copies b; offset = offset_as z.program b + g }) (core.truth_value (comparison op (pos (offset_as z.program a + f)) (pos (offset_as z.program b + g)))))
  order_case true op a f b g t one =
      let q = object_is a b one in
      ap (λ x. core.in_one_object (record { object = object_as z.copies x; offset = offset_as z.program x + f }) (record { object = object_as z.copies b; offset = offset_as z.program b + g }) (core.truth_value (comparison op (pos (offset_as z.program x + f)) (pos (offset_as z.program b + g))))) q
      ∙ ap (λ x. if x then Some (core.truth_value (comparison op (pos (offset_as z.program b + f)) (pos (offset_as z.program b + g)))) else None) (core_object_same (object_as z.copies b))
      ∙ ap (λ x. Some (core.truth_value x)) (lt_sum op (offset_as z.program b) f g t)
  order_case false op a f b g t one = tt

  pub tests_agree : (op : BinOp) (x y : Pointer) → IsTest op → IsPointer z.program x → IsPointer z.program y → AnswersAs (on_pointers z.program live op x y) (binary_value e op int.UInt (pointer_as z x) (pointer_as z y))
  unfolding binary_value
  tests_agree ops.Eq Null Null t px py = refl
  tests_agree ops.Eq Null (Into b g) t px py = refl
  tests_agree ops.Eq (Into a f) Null t px py = refl
  tests_agree ops.Eq (Into a f) (Into b g) t px py = equal_case (same_object a b) false a f b g refl px py
  tests_agree ops.Ne Null Null t px py = refl
  tests_agree ops.Ne Null (Into b g) t px py = refl
  tests_agree ops.Ne (Into a f) Null t px py = refl
  tests_agree ops.Ne (Into a f) (Into b g) t px py = equal_case (same_object a b) true a f b g refl px py
  tests_agree ops.Lt Null y t px py = tt
  tests_agree ops.Lt (Into a f) Null t px py = tt
  tests_agree ops.Lt (Into a f) (Into b g) t px py = order_case (same_object a b) ops.Lt a f b g t refl
  tests_agree ops.Gt Null y t px py = tt
  tests_agree ops.Gt (Into a f) Null t px py = tt
  tests_agree ops.Gt (Into a f) (Into b g) t px py = order_case (same_object a b) ops.Gt a f b g t refl
  tests_agree ops.Le Null y t px py = tt
  tests_agree ops.Le (Into a f) Null t px py = tt
  tests_agree ops.Le (Into a f) (Into b g) t px py = order_case (same_object a b) ops.Le a f b g t refl
  tests_agree ops.Ge Null y t px py = tt
  tests_agree ops.Ge (Into a f) Null t px py = tt
  tests_agree ops.Ge (Into a f) (Into b g) t px py = order_case (same_object a b) ops.Ge a f b g t refl
  tests_agree ops.Add x y t px py = absurd t
  tests_agree ops.Sub x y t px py = absurd t
  tests_agree ops.And x y t px py = absurd t
  tests_agree ops.Or x y t px py = absurd t
  tests_agree ops.Xor x y t px py = absurd t
  tests_agree ops.Mul x y t px py = absurd t
  tests_agree ops.Div x y t px py = absurd t
  tests_agree ops.Rem x y t px py = absurd t
  tests_agree ops.Shl x y t px py = absurd t
  tests_agree ops.Shr x y t px py = absurd t

-- ---- the operator is applied
-- what lives in the source lives in byte code, where this waits
abbrev pub LivesAll : Scene → CopyOf → List Pending → Type 0
LivesAll z cp k = (o : object.Object) (s : List Waiting) → IsThere z.program o → is_alive (cp ∷ callers k) o ≡ true → plain_behind s ≡ stack_after z (ground_in z cp) k → lives_in (number z cp ∷ waiting s) (object_as z.copies o) ≡ true

module _ (z : Scene) (laws : SceneLaws z) (some : (o : object.Object) → IsThere z.program o → 0 < object_bytes z.program o) where
  test_case : (a : Answer) (op : BinOp) (left right : Expression) (ty : Ty) (line target : ℕ) (x y : Pointer) (k : List Pending) (cp : CopyOf) (l : source.Memory) (w : World value.Byte) (c : Machine) → on_pointers z.program (cp ∷ callers k) op x y ≡ a → Around z cp k → IsTest op → type_of left ≡ types.Pointer target → IsPointer z.program x → IsPointer z.program y → LivesAll z cp k
      → base (ground_in z cp) k + 4 ≤ (core_in z).program.frame_bytes (number z cp) → is_due (arrived z.outside w) ≡ false
      → ((s : List Waiting) → plain_behind s ≡ stack_after z (ground_in z cp) k → AnswersAs a (binary_value (extent (core_in z).program (number z cp) s) op int.UInt (pointer_as z x) (pointer_as z y)))
      → Mirrors z (state cp (Value_is (datum.Pointer y)) (In (tree.Binary op left right ty line) (One (datum.Pointer x)) ∷ k) l w) c
      → Follow z 50 0 c (answered a line k cp l (arrived z.outside w))
  unfolding active fits_together
  test_case (answers.Fails kind) op left right ty line target x y k cp l w c is around test points px py lives room due as_answer h = tt
  test_case answers.Strays op left right ty line target x y k cp l w c is around test points px py lives room due as_answer h = tt
  test_case (answers.Gives (datum.Pointer p)) op left right ty line target x y k cp l w c is around test points px py lives room due as_answer h = absurd (as_answer c.stack h.stack)
  test_case (answers.Gives datum.Missing) op left right ty line target x y k cp l w c is around test points px py lives room due as_answer h = absurd (as_answer c.stack h.stack)
  test_case (answers.Gives (datum.Number q)) op left right ty line target x y k cp l w c is around test points px py lives room due as_answer h =
      let e = tree.Binary op left right ty line in
      let n = number z cp in
      let g = ground_in z cp in
      let b = base g k in
      let s = stack_after z g k in
      let v = datum.Number q in
      let plain = test_plain op test in
      let W = world_as (held z) (arrived z.outside w) in
      let T = Mirrors z (state cp (Value_is v) k l (arrived z.outside w)) in
      let small = laws.small n in
      let few = bytes_small q.ty in
      let wide : value_width g.layout left ≡ 2 = ap (λ t. beyond 0 (type_bytes g.layout.sizes t)) points ∙ beyond_is 0 2 (omega arith) ∙ (omega arith) in
      let second : beyond b (value_width g.layout left) ≡ b + 2 = ap (beyond b) wide ∙ beyond_is b 2 (omega arith) in
      let now : todo (binary_row (shifts_by_constant op right) op (operation_type (type_of left)) (Frame g.copy b) (Frame g.copy (beyond b (value_width g.layout left))) (constant_bits right) (value_width g.layout right)) (code_after g k) ≡ Todo [] (code.Binary op int.UInt (Frame n b) (Frame n b) (Frame n (b + 2))) ∷ code_after g k =
      ap (λ f. todo (binary_row (f && is_constant right) op (operation_type (type_of left)) (Frame g.copy b) (Frame g.copy (beyond b (value_width g.layout left))) (constant_bits right) (value_width g.layout right)) (code_after g k)) (test_unshifted op test)
      ∙ ap (λ t. Todo [] (code.Binary op (operation_type t) (Frame g.copy b) (Frame g.copy b) (Frame g.copy (beyond b (value_width g.layout left)))) ∷ code_after g k) points
      ∙ ap (λ f. Todo [] (code.Binary op int.UInt (Frame g.copy b) (Frame g.copy b) (Frame g.copy f)) ∷ code_after g k) second
      ∙ ap (λ f. Todo [] (code.Binary op int.UInt (Frame f b) (Frame f b) (Frame f (b + 2))) ∷ code_after g k) (own_copy z cp) in
      let hx : HasDatum z n b (datum.Pointer x) c.memory = subst (λ f. HasDatum z f b (datum.Pointer x) c.memory) (own_copy z cp) h.holds.0.0 in
      let hy : HasDatum z n (b + 2) (datum.Pointer y) c.memory = subst (λ f. HasDatum z n f (datum.Pointer y) c.memory) second (subst (λ f. HasDatum z f (beyond b (value_width g.layout left)) (datum.Pointer y) c.memory) (own_copy z cp) h.value) in
      let right_is = plain_right op int.UInt plain in
      comes_within (core_in z) T (50 + 0) 0 50 0 c
      (binary_any_then (core_in z) T n s W (due_below z (arrived z.outside w) due) (again_below z w) op int.UInt (Frame n b) (Frame n b) (Frame n (b + 2)) (pointer_as z x) (pointer_as z y) (core.Number q) (code_after g k) c.memory c 0 0 50
      (λ before. plain_fits op 2 (number_left before (Frame n (b + 2))) n b plain) (λ count. plain_alone op count plain)
      (own_frame (core_in z).program n b 2 (omega arith)) (ap (λ t. core_machine.is_own (core_in z).program n (Frame n (b + 2)) (bytes_of t)) right_is ∙ own_frame (core_in z).program n (b + 2) 2 (omega arith))
      (pointer_there z n b x c.memory hx) (ap (λ t. value_in t c.memory (Frame n (b + 2))) right_is ∙ pointer_there z n (b + 2) y c.memory hy)
      (λ s' e'. as_answer s' e') (own_frame (core_in z).program n b (bytes_of q.ty) (omega arith))
      (λ count. plain_cost op count 2 plain)
      (subst (λ f. Placed (core_in z) n None f s c.memory W c) now (placed_of z (state cp (Value_is (datum.Pointer y)) (In e (One (datum.Pointer x)) ∷ k) l w) c h))
      (λ d pd. comes_here (core_in z) T d
      (gives z laws cp k l (arrived z.outside w) c.memory (bytes_of q.ty) (core.byte_of (core.Number q)) v d around (omega arith) (λ j lt. refl)
      (subst (λ f. Placed (core_in z) n None (code_after g k) s (with_bytes c.memory (Frame n b) (bytes_of q.ty) (core.byte_of (core.Number q))) f d) (same_below z w) pd)
      h.agrees h.holds.1)))
      (omega arith) (omega arith)

  -- a pointer is compared with one that stands there
  pub pointers_given : (op : BinOp) (left right : Expression) (ty : Ty) (line target : ℕ) (x y : Pointer) (k : List Pending) (cp : CopyOf) (l : source.Memory) (w : World value.Byte) (c : Machine) → Around z cp k → IsTest op → type_of left ≡ types.Pointer target → IsPointer z.program x → IsPointer z.program y → LivesAll z cp k
      → base (ground_in z cp) k + 4 ≤ (core_in z).program.frame_bytes (number z cp) → is_due (arrived z.outside w) ≡ false
      → Mirrors z (state cp (Value_is (datum.Pointer y)) (In (tree.Binary op left right ty line) (One (datum.Pointer x)) ∷ k) l w) c
      → Follow z 50 0 c (take_in (source_in z) (tree.Binary op left right ty line) (One (datum.Pointer x)) (datum.Pointer y) k cp l (arrived z.outside w))
  unfolding active extent
  pointers_given op left right ty line target x y k cp l w c around test points px py lives room due h =
      subst (λ a. Follow z 50 0 c (answered a line k cp l (arrived z.outside w))) (sym (test_asks z.program (cp ∷ callers k) op ty x y test))
      (test_case (on_pointers z.program (cp ∷ callers k) op x y) op left right ty line target x y k cp l w c refl around test points px py lives room due
      (λ s e. tests_agree z laws (cp ∷ callers k) (extent (core_in z).program (number z cp) s) (record { some = some; size = λ o. refl; lives = λ o there alive. lives o s there alive e }) op x y test px py)
      h)
