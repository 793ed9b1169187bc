-- Operators whose left operand is a pointer, and pointers that are moved.
use Rattle.c_ints.specs.Operators.{cut_to}
use Rattle.c_ints.specs.Range.{bytes_of, pattern}
use Rattle.c_ints.specs.declared.operators.BinOp.{BinOp}
use Rattle.c_ints.specs.declared.types.IntTy.TheVariants as int
use Rattle.c_ints.specs.declared.types.IntTy.{IntTy}
use Rattle.core_code.specs.Bytes as bytes
use Rattle.core_code.specs.Bytes.{Held, Memory, with_byte, with_bytes}
use Rattle.core_code.specs.Cost.{binary_cost, cost_of, leaving}
use Rattle.core_code.specs.Machine as core_machine
use Rattle.core_code.specs.Machine.{Machine, Setting, Task, Do as Todo, Waiting, extent, goes, is_own, operate}
use Rattle.core_code.specs.Operands.{fits_together, is_helped, number_left}
use Rattle.core_code.specs.Tree as code
use Rattle.core_code.specs.Tree.{Tree}
use Rattle.core_code.specs.Values as core
use Rattle.core_code.specs.Values.{Extent, Value, binary_value, or_number, right_type, value_in}
use Rattle.core_code.specs.declared.code.Byte.TheVariants.{Frame, Result}
use Rattle.core_code.specs.declared.code.Byte.{Byte}
use Rattle.lower_trace.proofs.CodeLeft.{Scene, core_in, plain_behind}
use Rattle.lower_trace.proofs.Giving.{gives}
use Rattle.lower_trace.proofs.Kept.{SceneLaws}
use Rattle.lower_trace.proofs.Mirrors.{HasDatum}
use Rattle.lower_trace.proofs.Narrowing.{rem_of}
use Rattle.lower_trace.proofs.NumberBytes.{pointer_back}
use Rattle.lower_trace.proofs.Operations.{Comes, comes_free, le_true, own_put}
use Rattle.lower_trace.proofs.Placed.{Placed, front, most_operates, operates}
use Rattle.lower_trace.specs.Lowering.{object_as, offset_as}
use Rattle.pic_world.specs.World.{World, arrived, is_due}
use Rattle.pic_world.specs.declared.Root.{Root}
use Rattle.src_rules.specs.Standing.{IsThere}
use Rattle.src_values.specs.Data as datum
use Rattle.src_values.specs.Objects.{moved, object_bytes}
use Rattle.src_values.specs.declared.objects.Object as object
use Rattle.src_values.specs.declared.objects.Pointer.TheVariants.{Into}
use Rattle.src_values.specs.declared.objects.Pointer.{Pointer}
use Rattle.std.proofs.Common.{Bool, List, None, Option, Some, [], ap, arith, false, if◌then◌else◌, nat_le, negsuc, option_map, pos, refl, sym, true, unsigned_abs, ℕ, ℤ, ◌*◌, ◌+ℤ◌, ◌+◌, ◌||◌, ◌∙◌, ◌∷◌, ◌≡◌, ◌≤◌}
use Rattle.std.proofs.lemmas.Grind.{common_steps}
use Rattle.std.proofs.lemmas.Int.{ints}
use Rattle.std.specs.Prelude.{int_lt, unwrap_or}

module _ (g : Setting) (T : Machine → Type 0) (n : ℕ) (a : Option ℕ) (s : List Waiting) (w : World Held) (due : is_due w ≡ false) (now : arrived g.outside w ≡ w) where
  -- an operation that only changes memory, where what waits counts too
  pub first_on : (t : Tree) (r : List Task) (m m' : Memory) (c : Machine) (q l x : ℕ) → Placed g n a (Todo [] t ∷ r) s m w c
      → ((before : List Tree) (rest : List Task) (s' : List Waiting) → plain_behind s' ≡ s → operate g before t rest n a s' m w ≡ goes rest n a s' m' w)
      → ((before : List Tree) (s' : List Waiting) → cost_of before t + leaving t s' ≤ x)
      → ((d : Machine) → Placed g n a r s m' w d → Comes g T q l d) → Comes g T (x + q) l c
  first_on t r m m' c q l x p runs most next =
      let f = front c.code t r p.code in
      let d : Machine = record { copy = n; passing = a; code = f.rest; stack = c.stack; memory = m'; world = w } in
      let em = most_operates g n a (Todo [] t ∷ r) s m w c p t r f due in
      let hm = most f.before c.stack in
      comes_free g T q l x c d
      (operates g n a (Todo [] t ∷ r) s m w c p t r f due ∙ runs f.before f.rest c.stack p.stack)
      (omega arith)
      (next d (record { copy = refl; passing = refl; code = f.behind; stack = p.stack; memory = refl; world = now }))

  -- a byte of a result becomes a number
  pub set_result_then : (root : Root) (i v : ℕ) (r : List Task) (m : Memory) (c : Machine) (q l : ℕ) → is_own g.program n (Result root i) 1 ≡ true → Placed g n a (Todo [] (code.Set (Result root i) v) ∷ r) s m w c
      → ((d : Machine) → Placed g n a r s (with_byte m (Result root i) (bytes.Number v)) w d → Comes g T q l d) → Comes g T (4 + q) l c
  unfolding operate cost_of
  set_result_then root i v r m c q l own p next =
      first_on (code.Set (Result root i) v) r m (with_byte m (Result root i) (bytes.Number v)) c q l 4 p
      (λ before rest s' e. own_put g.program (Result root i) (bytes.Number v) rest n a s' m w own)
      (λ before s'. omega arith)
      next

-- An operator without a helper, on two values that stand there.
pub binary_any_then : (g : Setting) (T : Machine → Type 0) (n : ℕ) (s : List Waiting) (w : World Held) (due : is_due w ≡ false) (now : arrived g.outside w ≡ w) (op : BinOp) (ty : IntTy) (to x y : Byte) (v u o : Value) (r : List Task) (m : Memory) (c : Machine) (q l cost : ℕ)
    → ((before : List Tree) → fits_together op ty (number_left before y) to x y ≡ true) → ((count : Option ℕ) → is_helped op count ≡ false) → is_own g.program n x (bytes_of ty) ≡ true → is_own g.program n y (bytes_of (right_type op ty)) ≡ true
    → value_in ty m x ≡ Some v → value_in (right_type op ty) m y ≡ Some u → ((s' : List Waiting) → plain_behind s' ≡ s → binary_value (extent g.program n s') op ty v u ≡ Some o) → is_own g.program n to (core.byte_count o) ≡ true
    → ((count : Option ℕ) → binary_cost op count (bytes_of ty) ≤ cost)
    → Placed g n None (Todo [] (code.Binary op ty to x y) ∷ r) s m w c
    → ((d : Machine) → Placed g n None r s (with_bytes m to (core.byte_count o) (core.byte_of o)) w d → Comes g T q l d) → Comes g T (cost + q) l c
unfolding operate cost_of
binary_any_then g T n s w due now op ty to x y v u o r m c q l cost fits alone ox oy vx vy gives own most p next =
    first_on g T n None s w due now (code.Binary op ty to x y) r m (with_bytes m to (core.byte_count o) (core.byte_of o)) c q l cost p
    (λ before rest s' e.
    let f = fits before in
    let h = alone (number_left before y) in
    let b = gives s' e in
    rw (f, h, ox, oy, vx, vy, b, own) refl)
    (λ before s'. let e = most (number_left before y) in omega arith)
    next

-- ---- pointers that are moved
-- the value that a pointer's bytes are, whatever the type of two bytes
pub pointer_value : (z : Scene) (n b : ℕ) (object : object.Object) (offset : ℕ) (m : Memory) → HasDatum z n b (datum.Pointer (Into object offset)) m
    → value_in int.UInt m (Frame n b) ≡ Some (core.Pointer (record { object = object_as z.copies object; offset = offset_as z.program object + offset }))
unfolding value_in
pointer_value z n b object offset m h = ap (λ x. or_number x (option_map (λ i. core.Number (cut_to int.UInt (pos i))) (core.number_in m (Frame n b) 2))) (pointer_back z n b object offset m h)

bool_no : (a b : Bool) → (a || b) ≡ false → (a ≡ false) × (b ≡ false)
bool_no true b e = absurd (cc)
bool_no false b e = (refl, e)

natural_of : (y : ℤ) → int_lt y (pos 0) ≡ false → y ≡ pos (unsigned_abs y)
natural_of (pos n) e = refl
natural_of (negsuc n) e = absurd (grind (ints, arith, common_steps))

at_most : (size n : ℕ) → int_lt (pos size) (pos n) ≡ false → n ≤ size
at_most size n e = grind (ints, arith, common_steps)

-- What a pointer comes to that is moved by so many bytes in the source; and what byte code has, which moves by a number that is
-- the same modulo 65,536.
pub record Moved (z : Scene) (e : Extent) (o : object.Object) (f : ℕ) (d : ℤ) (y : Pointer) : Type 0 where
  pub offset : ℕ
  pub is : y ≡ Into o offset
  pub core_is : core.moved e (object_as z.copies o) (pos (offset_as z.program o + f) +ℤ d) ≡ Some (core.Pointer (record { object = object_as z.copies o; offset = offset_as z.program o + offset }))

-- the place of two numbers that are one modulo 65,536
same_place : (a b : ℤ) (n j i : ℕ) → a +ℤ pos (j * 65536) ≡ b +ℤ pos (i * 65536) → b ≡ pos n → n ≤ 65535 → pattern int.UInt a ≡ n
same_place a b n j i e is le = rem_of a 65536 j (n + i * 65536) (omega arith) (e ∙ ap (λ x. x +ℤ pos (i * 65536)) is) ∙ omega arith

sum_again : (a f : ℕ) (by : ℤ) (t : ℕ) → pos f +ℤ by ≡ pos t → pos (a + f) +ℤ by ≡ pos (a + t)
sum_again a f by t e = omega (arith, ints)

shift_again : (x by d : ℤ) (j i : ℕ) → d +ℤ pos (j * 65536) ≡ by +ℤ pos (i * 65536) → x +ℤ d +ℤ pos (j * 65536) ≡ x +ℤ by +ℤ pos (i * 65536)
shift_again x by d j i e = omega (arith, ints)

moved_case : (z : Scene) (laws : SceneLaws z) (e : Extent) (o : object.Object) (f : ℕ) (by d : ℤ) (j i : ℕ) (y : Pointer) (out : Bool) → ((x : bytes.Object) → e.size x ≡ core_machine.object_bytes (core_in z).program x) → IsThere z.program o → d +ℤ pos (j * 65536) ≡ by +ℤ pos (i * 65536)
    → (int_lt (pos f +ℤ by) (pos 0) || int_lt (pos (object_bytes z.program o)) (pos f +ℤ by)) ≡ out → (if out then None else Some (Into o (unsigned_abs (pos f +ℤ by)))) ≡ Some y → Moved z e o f d y
moved_case z laws e o f by d j i y true size there same is h = absurd (cc)
moved_case z laws e o f by d j i y false size there same is h =
    let t = unsigned_abs (pos f +ℤ by) in
    let parts = bool_no (int_lt (pos f +ℤ by) (pos 0)) (int_lt (pos (object_bytes z.program o)) (pos f +ℤ by)) is in
    let n = natural_of (pos f +ℤ by) parts.0 in
    let le = at_most (object_bytes z.program o) t (ap (λ x. int_lt (pos (object_bytes z.program o)) x) (sym n) ∙ parts.1) in
    let a = offset_as z.program o in
    let fit = laws.fits o there in
    let few = laws.reach o there in
    let place : pattern int.UInt (pos (a + f) +ℤ d) ≡ a + t = same_place (pos (a + f) +ℤ d) (pos (a + f) +ℤ by) (a + t) j i (shift_again (pos (a + f)) by d j i same) (sum_again a f by t n) (omega arith) in
    let here : nat_le (a + t) (e.size (object_as z.copies o)) ≡ true = le_true (a + t) (e.size (object_as z.copies o)) (let q = size (object_as z.copies o) in omega arith) in
    record {
      offset = t;
      is = some_is y (Into o t) (sym h);
      core_is = ap (λ x. if nat_le x (e.size (object_as z.copies o)) then Some (core.Pointer (record { object = object_as z.copies o; offset = x })) else None) place ∙ ap (λ x. if x then Some (core.Pointer (record { object = object_as z.copies o; offset = a + t })) else None) here;
    }
  where
    some_is : (a b : Pointer) → Some a ≡ Some b → a ≡ b
    some_is a b e = ap (λ x. unwrap_or x a) e

pub moved_so : (z : Scene) (laws : SceneLaws z) (e : Extent) (o : object.Object) (f : ℕ) (by d : ℤ) (j i : ℕ) (y : Pointer) → ((x : bytes.Object) → e.size x ≡ core_machine.object_bytes (core_in z).program x) → IsThere z.program o → d +ℤ pos (j * 65536) ≡ by +ℤ pos (i * 65536)
    → moved z.program (Into o f) by ≡ Some y → Moved z e o f d y
unfolding moved
moved_so z laws e o f by d j i y size there same h = moved_case z laws e o f by d j i y (int_lt (pos f +ℤ by) (pos 0) || int_lt (pos (object_bytes z.program o)) (pos f +ℤ by)) size there same refl h
