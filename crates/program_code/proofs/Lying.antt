-- The rows of the code of expressions name bytes alone that are there, where those that are counted for them are.
use Rattle.std.proofs.Common.{◌≡◌, ℕ, zero, suc, ◌+◌, ◌/◌, ◌%◌, ◌≤◌, ◌<◌, Bool, true, false, nat_lt, nat_eq, if◌then◌else◌, List, [], ◌∷◌, ◌++◌, Option, Some, None, refl, sym, ap, subst, arith}
use Rattle.std.proofs.lemmas.Option.{none-some, same_Some}
use Rattle.c_ints.specs.Range.{bytes_of}
use Rattle.c_ints.specs.declared.operators.BinOp.{BinOp}
use Rattle.c_ints.specs.declared.operators.BinOp.TheVariants as binop
use Rattle.c_ints.specs.declared.types.IntTy.{IntTy}
use Rattle.c_ints.specs.declared.types.IntTy.TheVariants.{UInt}
use Rattle.c_ints.specs.declared.types.IntTy.TheVariants as intty
use Rattle.c_typed.specs.Types.{type_bytes}
use Rattle.c_typed.specs.declared.expression.LogicalOp.{LogicalOp}
use Rattle.c_typed.specs.declared.expression.LogicalOp.TheVariants as logical
use Rattle.c_typed.specs.declared.types.Ty.{Ty}
use Rattle.c_typed.specs.declared.types.Ty.TheVariants.{Void, Int, Pointer, Array, Struct}
use Rattle.core_code.specs.Tree as code
use Rattle.core_code.specs.Tree.{Tree, trees_of}
use Rattle.core_code.specs.declared.code.Byte.{Byte}
use Rattle.core_code.specs.declared.code.Byte.TheVariants as bytes
use Rattle.core_puts.specs.Bytes.{beyond, little_beyond, behind, byte_at, number_type, is_wider}
use Rattle.core_puts.specs.Puts.{copies, copies_if, sets, operator, test_size, choice}
use Rattle.lower_expr.specs.Rows.{wider, widened_number, widened, tested, logical_row, shift_row, binary_row, odd_part, multiples, scaled, moved, moved_right, offset_row, difference_row, member_row, address_row, read_row, value_row, bit_row, written_row, assigned_row, called_row, side_of, taken, given, advance, advances, structure_bytes, through_row, struct_row}
use Rattle.lower_expr.specs.Spots.{pointer_bytes}
use Rattle.lower_expr.specs.declared.places.Spot.{Spot}
use Rattle.lower_expr.specs.declared.places.Spot.TheVariants.{Fixed, Bit, Computed}
use Rattle.pic_world.specs.declared.Root.{Root}
use Rattle.program_code.specs.Naming.{Memory, HasBytes, Lies, Points, TreeLies, TreesLie, answer_bytes, count_bytes}

-- an operator's answer takes no more than the bytes of its type, or two
pub answer_within : (op : BinOp) (w n : ℕ) → w ≤ n → 2 ≤ n → answer_bytes op w ≤ n
answer_within binop.Eq w n l m = m
answer_within binop.Ne w n l m = m
answer_within binop.Lt w n l m = m
answer_within binop.Gt w n l m = m
answer_within binop.Le w n l m = m
answer_within binop.Ge w n l m = m
answer_within binop.Add w n l m = l
answer_within binop.Sub w n l m = l
answer_within binop.Mul w n l m = l
answer_within binop.Div w n l m = l
answer_within binop.Rem w n l m = l
answer_within binop.And w n l m = l
answer_within binop.Xor w n l m = l
answer_within binop.Or w n l m = l
answer_within binop.Shl w n l m = l
answer_within binop.Shr w n l m = l

pub count_within : (op : BinOp) (w n : ℕ) → w ≤ n → 1 ≤ n → count_bytes op w ≤ n
count_within binop.Eq w n l m = l
count_within binop.Ne w n l m = l
count_within binop.Lt w n l m = l
count_within binop.Gt w n l m = l
count_within binop.Le w n l m = l
count_within binop.Ge w n l m = l
count_within binop.Add w n l m = l
count_within binop.Sub w n l m = l
count_within binop.Mul w n l m = l
count_within binop.Div w n l m = l
count_within binop.Rem w n l m = l
count_within binop.And w n l m = l
count_within binop.Xor w n l m = l
count_within binop.Or w n l m = l
count_within binop.Shl w n l m = m
count_within binop.Shr w n l m = m

number_bytes : (sizes : List ℕ) (ty : Ty) (it : IntTy) → number_type ty ≡ Some it → bytes_of it ≡ type_bytes sizes ty
number_bytes sizes (Int ty) it e = ap bytes_of (sym (same_Some ty it e))
number_bytes sizes (Pointer target) it e = ap bytes_of (sym (same_Some UInt it e))
number_bytes sizes Void it e = absurd (none-some it e)
number_bytes sizes (Array element count size) it e = absurd (none-some it e)
number_bytes sizes (Struct number) it e = absurd (none-some it e)

pub size_within : (s : ℕ) → test_size s ≤ s
unfolding test_size
size_within s = omega arith

pub has_fewer : (o : Option ℕ) (n m : ℕ) → m ≤ n → HasBytes o n → HasBytes o m
has_fewer None n m l h = h
has_fewer (Some size) n m l h = omega (arith, l, h)

module _ (memory : Memory) where
  abbrev pub AllLie : List Tree → Type 0
  AllLie [] = Unit {0}
  AllLie (t ∷ ts) = TreeLies memory t × AllLie ts

  pub lie_on : (xs ys : List Tree) → AllLie xs → AllLie ys → AllLie (xs ++ ys)
  lie_on [] ys p q = q
  lie_on (x ∷ xs) ys p q = (p.0, lie_on xs ys p.1 q)

  pub trees_lie : (ts : List Tree) → AllLie ts → TreesLie memory (trees_of ts)
  trees_lie [] h = tt
  trees_lie (t ∷ ts) h = (h.0, trees_lie ts h.1)

  pub less : (n m : ℕ) (byte : Byte) → m ≤ n → Lies memory n byte → Lies memory m byte
  less n m (bytes.Frame copy k) l h = has_fewer (memory.frames copy) (k + n) (k + m) (omega (arith, l)) h
  less n m (bytes.Static object k) l h = has_fewer (memory.objects object) (k + n) (k + m) (omega (arith, l)) h
  less n m (bytes.Result r k) l h = omega (arith, l, h)
  less n m (bytes.Device address) l h = let one = h.1 in (h.0, omega (arith, l, one), λ some. h.2 (omega (arith, l, some)))

  pub past : (n m i : ℕ) (byte : Byte) → i + m ≤ n → Lies memory n byte → Lies memory m (behind byte i)
  unfolding beyond little_beyond
  past n m i (bytes.Frame copy k) l h = has_fewer (memory.frames copy) (k + n) (beyond k i + m) (omega (arith, l)) h
  past n m i (bytes.Static object k) l h = has_fewer (memory.objects object) (k + n) (beyond k i + m) (omega (arith, l)) h
  past n m i (bytes.Result r k) l h = omega (arith, l, h)
  past n m i (bytes.Device address) l h =
      let low = h.0 in
      let one = h.1 in
      (omega arith, omega (arith, l, one), λ some. subst (λ (a : ℕ). memory.devices a ≡ true) (omega (arith, l, low, one, some)) (h.2 (omega (arith, l, some))))

  -- so many bytes of a result
  pub of_result : (r : Root) (n : ℕ) → n ≤ 4 → Lies memory n (bytes.Result r 0)
  of_result r n l = omega (arith, l)

  pub result_lies : (r : Root) (k : ℕ) → k < 4 → Lies memory 1 (bytes.Result r k)
  result_lies r k l = omega (arith, l)

  -- the callee's frame has room for as many bytes as it has for its parameters
  pub of_callee : (callee n m : ℕ) → n ≤ m → HasBytes (memory.frames callee) m → Lies memory n (bytes.Frame callee 0)
  of_callee callee n m l h = has_fewer (memory.frames callee) m (0 + n) (omega (arith, l)) h

  -- ---- numbers and copies
  pub sets_lie : (to : Byte) (number w : ℕ) → Lies memory w to → AllLie (sets to number w)
  unfolding sets
  sets_lie to number zero h = tt
  sets_lie to number (suc k) h = lie_on (sets to number k) (code.Set (behind to k) (byte_at number k) ∷ []) (sets_lie to number k (less (suc k) k to (omega arith) h)) (past (suc k) 1 k to (omega arith) h, tt)

  pub copies_lie : (to from : Byte) (w : ℕ) → Lies memory w to → Lies memory w from → AllLie (copies to from w)
  unfolding copies
  copies_lie to from zero h g = tt
  copies_lie to from (suc k) h g =
      lie_on (copies to from k) (code.Copy (behind to k) (behind from k) ∷ []) (copies_lie to from k (less (suc k) k to (omega arith) h) (less (suc k) k from (omega arith) g))
      ((past (suc k) 1 k to (omega arith) h, past (suc k) 1 k from (omega arith) g), tt)

  pub copies_if_lie : (wanted : Bool) (to from : Byte) (w : ℕ) → (wanted ≡ true → Lies memory w to × Lies memory w from) → AllLie (copies_if wanted to from w)
  copies_if_lie true to from w h = let b = h refl in copies_lie to from w b.0 b.1
  copies_if_lie false to from w h = tt

  -- ---- conversions, choices and operators
  wider_lie : (from to : IntTy) (at : Byte) → Lies memory (bytes_of to) at → AllLie (wider from to at)
  wider_lie from to at h = by_wider (is_wider from to)
    where
      by_wider : (b : Bool) → AllLie (if b then code.Convert from to at ∷ [] else [])
      by_wider true = (h, tt)
      by_wider false = tt

  widened_by : (o q : Option IntTy) (at : Byte) (n : ℕ) → ((it : IntTy) → q ≡ Some it → bytes_of it ≤ n) → Lies memory n at → AllLie (widened_number o q at)
  widened_by None q at n l h = tt
  widened_by (Some from) None at n l h = tt
  widened_by (Some from) (Some to) at n l h = wider_lie from to at (less n (bytes_of to) at (l to refl) h)

  pub widened_lie : (sizes : List ℕ) (from to : Ty) (at : Byte) → Lies memory (type_bytes sizes to) at → AllLie (widened from to at)
  widened_lie sizes from to at h = widened_by (number_type from) (number_type to) at (type_bytes sizes to) (λ it e. let b = number_bytes sizes to it e in omega (arith, b)) h

  pub choice_lie : (test : Byte) (w : ℕ) (held failed : List Tree) → Lies memory w test → AllLie held → AllLie failed → TreeLies memory (choice test w held failed)
  choice_lie test w held failed h p q = (less w (test_size w) test (size_within w) h, trees_lie held p, trees_lie failed q)

  pub tested_lie : (at : Byte) (w one other : ℕ) → Lies memory w at → Lies memory 2 at → TreeLies memory (tested at w one other)
  tested_lie at w one other h g = choice_lie at w (sets at one 2) (sets at other 2) h (sets_lie at one 2 g) (sets_lie at other 2 g)

  -- an operator in place, on as many bytes as its type has
  pub operator_lie : (op : BinOp) (ty : IntTy) (at right : Byte) (n m : ℕ) → bytes_of ty ≤ n → 2 ≤ n → Lies memory n at → count_bytes op (bytes_of ty) ≤ m → Lies memory m right → TreeLies memory (operator op ty at right)
  operator_lie op ty at right n m l two h k g = (less n (answer_bytes op (bytes_of ty)) at (answer_within op (bytes_of ty) n l two) h, less n (bytes_of ty) at l h, less m (count_bytes op (bytes_of ty)) right k g)

  pub add_lie : (at right : Byte) → Lies memory 2 at → Lies memory 2 right → TreeLies memory (operator binop.Add UInt at right)
  add_lie at right h g = (h, h, g)

  pub logical_lie : (op : LogicalOp) (at : Byte) (w : ℕ) (other : List Tree) → Lies memory w at → Lies memory 2 at → AllLie other → TreeLies memory (logical_row op at w other)
  logical_lie logical.And at w other h g p = choice_lie at w other (sets at 0 2) h p (sets_lie at 0 2 g)
  logical_lie logical.Or at w other h g p = choice_lie at w (sets at 1 2) other h (sets_lie at 1 2 g) p

  pub shift_lie : (op : BinOp) (ty : IntTy) (at right : Byte) (count w n m : ℕ) → bytes_of ty ≤ n → 2 ≤ n → Lies memory n at → w ≤ m → count_bytes op (bytes_of ty) ≤ m → Lies memory m right → TreeLies memory (shift_row op ty at right count w)
  shift_lie op ty at right count w n m l two h j k g =
      trees_lie (sets right count w ++ operator op ty at right ∷ []) (lie_on (sets right count w) (operator op ty at right ∷ []) (sets_lie right count w (less m w right j g)) (operator_lie op ty at right n m l two h k g, tt))

  pub binary_lie : (shifts : Bool) (op : BinOp) (ty : IntTy) (at right : Byte) (count w n m : ℕ) → bytes_of ty ≤ n → 2 ≤ n → Lies memory n at → w ≤ m → count_bytes op (bytes_of ty) ≤ m → Lies memory m right → AllLie (binary_row shifts op ty at right count w)
  binary_lie true op ty at right count w n m l two h j k g = (shift_lie op ty at right count w n m l two h j k g, tt)
  binary_lie false op ty at right count w n m l two h j k g = (operator_lie op ty at right n m l two h k g, tt)

  -- ---- pointers and integers
  odd_lie : (to from : Byte) (odd : Bool) → Lies memory 2 to → Lies memory 2 from → AllLie (if odd then operator binop.Add UInt to from ∷ [] else [])
  odd_lie to from true h g = (add_lie to from h g, tt)
  odd_lie to from false h g = tt

  multiples_lie : (to from : Byte) (number fuel : ℕ) → Lies memory 2 to → Lies memory 2 from → AllLie (multiples to from number fuel)
  unfolding multiples
  multiples_lie to from number zero h g = tt
  multiples_lie to from number (suc fuel) h g = by_small (nat_lt number 2) (multiples_lie to from (number / 2) fuel h g)
    where
      by_small : (b : Bool) → AllLie (multiples to from (number / 2) fuel) → AllLie (if b then [] else (multiples to from (number / 2) fuel ++ operator binop.Add UInt to to ∷ [] ++ odd_part to from number))
      by_small true p = tt
      by_small false p =
          lie_on (multiples to from (number / 2) fuel ++ operator binop.Add UInt to to ∷ []) (odd_part to from number) (lie_on (multiples to from (number / 2) fuel) (operator binop.Add UInt to to ∷ []) p (add_lie to to h h, tt)) (odd_lie to from (nat_eq (number % 2) 1) h g)

  scaled_lie : (to from : Byte) (number : ℕ) → Lies memory 2 to → Lies memory 2 from → AllLie (scaled to from number)
  scaled_lie to from number h g = lie_on (copies to from 2) (multiples to from number 64) (copies_lie to from 2 h g) (multiples_lie to from number 64 h g)

  two_lie : (op : BinOp) (at right : Byte) → Lies memory 2 at → Lies memory 2 right → TreeLies memory (operator op UInt at right)
  two_lie op at right h g = operator_lie op UInt at right 2 2 (omega arith) (omega arith) h (count_within op 2 2 (omega arith) (omega arith)) g

  pub moved_lie : (op : BinOp) (at index count : Byte) (number : ℕ) → Lies memory 2 at → Lies memory 2 index → Lies memory 2 count → AllLie (moved op at index count number)
  moved_lie op at index count number h g f = by_one (nat_eq number 1)
    where
      by_one : (b : Bool) → AllLie (if b then operator op UInt at index ∷ [] else (scaled count index number ++ operator op UInt at count ∷ []))
      by_one true = (two_lie op at index h g, tt)
      by_one false = lie_on (scaled count index number) (operator op UInt at count ∷ []) (scaled_lie count index number f g) (two_lie op at count h f, tt)

  moved_back : (at : Byte) (number : ℕ) → Lies memory 6 at → AllLie (moved_right at number)
  moved_back at number h = by_one (nat_eq number 1)
    where
      front : Lies memory 2 at
      front = less 6 2 at (omega arith) h

      second : Lies memory 2 (behind at 2)
      second = past 6 2 2 at (omega arith) h

      third : Lies memory 2 (behind at 4)
      third = past 6 2 4 at (omega arith) h

      by_one : (b : Bool) → AllLie (if b then operator binop.Add UInt at (behind at 2) ∷ [] else (scaled (behind at 4) at number ++ code.Binary binop.Add UInt at (behind at 2) (behind at 4) ∷ []))
      by_one true = (add_lie at (behind at 2) front second, tt)
      by_one false = lie_on (scaled (behind at 4) at number) (code.Binary binop.Add UInt at (behind at 2) (behind at 4) ∷ []) (scaled_lie (behind at 4) at number third front) ((front, second, third), tt)

  pub offset_lie : (op : BinOp) (at : Byte) (pointer : Bool) (number : ℕ) → Lies memory 6 at → AllLie (offset_row op at pointer number)
  offset_lie op at true number h = moved_lie op at (behind at 2) (behind at 4) number (less 6 2 at (omega arith) h) (past 6 2 2 at (omega arith) h) (past 6 2 4 at (omega arith) h)
  offset_lie op at false number h = moved_back at number h

  pub difference_lie : (at : Byte) (number : ℕ) → Lies memory 4 at → AllLie (difference_row at number)
  difference_lie at number h = by_large (nat_lt 32767 number) (nat_eq number 1)
    where
      front : Lies memory 2 at
      front = less 4 2 at (omega arith) h

      second : Lies memory 2 (behind at 2)
      second = past 4 2 2 at (omega arith) h

      by_large : (large one : Bool) → AllLie (if large then sets at 0 2 else (operator binop.Sub UInt at (behind at 2) ∷ [] ++ (if one then [] else (sets (behind at 2) number 2 ++ operator binop.Div intty.Int at (behind at 2) ∷ []))))
      by_large true one = sets_lie at 0 2 front
      by_large false true = (two_lie binop.Sub at (behind at 2) front second, tt)
      by_large false false = (two_lie binop.Sub at (behind at 2) front second, lie_on (sets (behind at 2) number 2) (operator binop.Div intty.Int at (behind at 2) ∷ []) (sets_lie (behind at 2) number 2 second) ((front, front, second), tt))

  -- ---- places
  -- so many bytes of a fixed place
  abbrev pub SpotLies : ℕ → Spot → Type 0
  SpotLies n (Fixed byte) = Lies memory n byte
  SpotLies n (Bit register bit) = Lies memory 1 (bytes.Device register)
  SpotLies n Computed = Unit {0}

  -- a bit has a byte
  abbrev pub BitHas : ℕ → Spot → Type 0
  BitHas w (Fixed byte) = Unit {0}
  BitHas w (Bit register bit) = 1 ≤ w
  BitHas w Computed = Unit {0}

  pub member_lie : (at : Byte) (offset : ℕ) (r : Root) → Lies memory 2 at → AllLie (member_row at offset (bytes.Result r 0))
  member_lie at offset r h = by_none (nat_eq offset 0)
    where
      by_none : (b : Bool) → AllLie (if b then [] else (sets (bytes.Result r 0) offset 2 ++ operator binop.Add UInt at (bytes.Result r 0) ∷ []))
      by_none true = tt
      by_none false = lie_on (sets (bytes.Result r 0) offset 2) (operator binop.Add UInt at (bytes.Result r 0) ∷ []) (sets_lie (bytes.Result r 0) offset 2 (of_result r 2 (omega arith))) ((h, h, of_result r 2 (omega arith)), tt)

  -- a fixed place has an address
  abbrev pub SpotPoints : Spot → Type 0
  SpotPoints (Fixed byte) = Points memory byte
  SpotPoints (Bit register bit) = Unit {0}
  SpotPoints Computed = Unit {0}

  pub address_lie : (spot : Spot) (at : Byte) → SpotPoints spot → Lies memory 2 at → AllLie (address_row spot at)
  address_lie (Fixed byte) at s h = ((h, s), tt)
  address_lie (Bit register bit) at s h = tt
  address_lie Computed at s h = tt

  pub value_lie : (spot : Spot) (at : Byte) (w : ℕ) → SpotLies w spot → Lies memory (pointer_bytes spot + w) at → BitHas w spot → AllLie (value_row spot at w)
  value_lie (Fixed from) at w s h l = copies_lie at from w (less (0 + w) w at (omega arith) h) s
  value_lie (Bit register bit) at w s h l = ((less (0 + w) 1 at (omega (arith, l)) h, s), tt)
  value_lie Computed at w s h l =
      let second = past (2 + w) w 2 at (omega arith) h in
      ((second, less (2 + w) 2 at (omega arith) h), copies_lie at (behind at 2) w (less (2 + w) w at (omega arith) h) second)

  pub read_lie : (spot : Spot) (pointer to : Byte) (w : ℕ) → SpotLies w spot → Lies memory (pointer_bytes spot) pointer → Lies memory w to → BitHas w spot → AllLie (read_row spot pointer to w)
  read_lie (Fixed from) pointer to w s h g l = copies_lie to from w g s
  read_lie (Bit register bit) pointer to w s h g l = ((less w 1 to l g, s), tt)
  read_lie Computed pointer to w s h g l = ((g, h), tt)

  bit_lie : (r : Root) (register bit : ℕ) (from : Byte) → Lies memory 1 (bytes.Device register) → Lies memory 2 from → AllLie (bit_row r register bit from)
  bit_lie r register bit from b h = (result_lies r 0 (omega arith), ((less 2 1 from (omega arith) h, less 2 1 from (omega arith) h, result_lies r 0 (omega arith)), ((less 2 1 from (omega arith) h, b), tt)))

  pub written_lie : (spot : Spot) (r : Root) (pointer from : Byte) (w : ℕ) → SpotLies w spot → Lies memory (pointer_bytes spot) pointer → Lies memory w from → Lies memory 2 from → AllLie (written_row spot r pointer from w)
  written_lie (Fixed to) r pointer from w s h g two = copies_lie to from w s g
  written_lie (Bit register bit) r pointer from w s h g two = bit_lie r register bit from s two
  written_lie Computed r pointer from w s h g two = ((h, g), tt)

  pub assigned_lie : (wanted : Bool) (spot : Spot) (r : Root) (at : Byte) (w : ℕ) → SpotLies w spot → Lies memory (pointer_bytes spot + w + 2) at → AllLie (assigned_row wanted spot r at w)
  assigned_lie wanted (Fixed to) r at w s h =
      lie_on (copies to (behind at 0) w) [] (copies_lie to (behind at 0) w s (past (0 + w + 2) w 0 at (omega arith) h)) tt
  assigned_lie wanted (Bit register bit) r at w s h = lie_on (bit_row r register bit (behind at 0)) [] (bit_lie r register bit (behind at 0) s (past (0 + w + 2) 2 0 at (omega arith) h)) tt
  assigned_lie wanted Computed r at w s h =
      let second = past (2 + w + 2) w 2 at (omega arith) h in
      ((less (2 + w + 2) 2 at (omega arith) h, second), copies_if_lie wanted at (behind at 2) w (λ e. (less (2 + w + 2) w at (omega arith) h, second)))

  -- ---- calls: the arguments stand in the callee's frame, the answer in the result
  pub called_lie : (wanted : Bool) (r : Root) (callee : ℕ) (at : Byte) (arguments count n m : ℕ) → arguments ≤ m → HasBytes (memory.frames callee) m → count ≤ 4 → arguments ≤ n → count ≤ n → Lies memory n at → AllLie (called_row wanted r callee at arguments count)
  called_lie wanted r callee at arguments count n m few room small l k h =
      lie_on (copies (bytes.Frame callee 0) at arguments ++ code.Call callee ∷ []) (copies_if wanted at (bytes.Result r 0) count)
      (lie_on (copies (bytes.Frame callee 0) at arguments) (code.Call callee ∷ []) (copies_lie (bytes.Frame callee 0) at arguments (of_callee callee arguments m few room) (less n arguments at l h)) (tt, tt))
      (copies_if_lie wanted at (bytes.Result r 0) count (λ e. (less n count at k h, of_result r count small)))

  -- ---- structures
  advance_lie : (spot : Spot) (pointer : Byte) (r : Root) → Lies memory 2 pointer → AllLie (advance (side_of spot pointer) (bytes.Result r 0))
  advance_lie (Fixed byte) pointer r h = tt
  advance_lie (Bit register bit) pointer r h = ((h, h, of_result r 2 (omega arith)), tt)
  advance_lie Computed pointer r h = ((h, h, of_result r 2 (omega arith)), tt)

  taken_lie : (to : Byte) (spot : Spot) (pointer : Byte) (n i : ℕ) → i < n → SpotLies n spot → Lies memory 1 to → Lies memory 2 pointer → TreeLies memory (taken to (side_of spot pointer) i)
  taken_lie to (Fixed byte) pointer n i l s h g = (h, past n 1 i byte (omega (arith, l)) s)
  taken_lie to (Bit register bit) pointer n i l s h g = (h, g)
  taken_lie to Computed pointer n i l s h g = (h, g)

  given_lie : (from : Byte) (spot : Spot) (pointer : Byte) (n i : ℕ) → i < n → SpotLies n spot → Lies memory 1 from → Lies memory 2 pointer → TreeLies memory (given (side_of spot pointer) from i)
  given_lie from (Fixed byte) pointer n i l s h g = (past n 1 i byte (omega (arith, l)) s, h)
  given_lie from (Bit register bit) pointer n i l s h g = (g, h)
  given_lie from Computed pointer n i l s h g = (g, h)

  module _ (r : Root) (to from : Spot) (left right temporary : Byte) (on_left : Lies memory 2 left) (on_right : Lies memory 2 right) (at : Lies memory 1 temporary) where
    bytes_lie : (n w : ℕ) → w ≤ n → SpotLies n to → SpotLies n from → AllLie (structure_bytes (side_of to left) (side_of from right) (bytes.Result r 0) temporary w)
    unfolding structure_bytes
    bytes_lie n zero l s t = tt
    bytes_lie n (suc i) l s t =
        lie_on (structure_bytes (side_of to left) (side_of from right) (bytes.Result r 0) temporary i ++ advances (side_of to left) (side_of from right) (bytes.Result r 0) i ++ taken temporary (side_of from right) i ∷ []) (given (side_of to left) temporary i ∷ [])
        (lie_on (structure_bytes (side_of to left) (side_of from right) (bytes.Result r 0) temporary i ++ advances (side_of to left) (side_of from right) (bytes.Result r 0) i) (taken temporary (side_of from right) i ∷ [])
        (lie_on (structure_bytes (side_of to left) (side_of from right) (bytes.Result r 0) temporary i) (advances (side_of to left) (side_of from right) (bytes.Result r 0) i) (bytes_lie n i (omega (arith, l)) s t) (on (nat_eq i 0)))
        (taken_lie temporary from right n i (omega (arith, l)) t at on_right, tt)) (given_lie temporary to left n i (omega (arith, l)) s at on_left, tt)
      where
        on : (b : Bool) → AllLie (if b then [] else (advance (side_of to left) (bytes.Result r 0) ++ advance (side_of from right) (bytes.Result r 0)))
        on true = tt
        on false = lie_on (advance (side_of to left) (bytes.Result r 0)) (advance (side_of from right) (bytes.Result r 0)) (advance_lie to left r on_left) (advance_lie from right r on_right)

  through_lie : (r : Root) (place from : Spot) (at : Byte) (n : ℕ) → SpotLies n place → SpotLies n from → Lies memory (pointer_bytes place + pointer_bytes from + 2) at → AllLie (through_row r place from at n)
  through_lie r place from at n s t h =
      let right = past (pointer_bytes place + pointer_bytes from + 2) (pointer_bytes from + 2) (pointer_bytes place) at (omega arith) h in (
        result_lies r 0 (omega arith),
        (
          result_lies r 1 (omega arith),
          bytes_lie r place from at (behind at (pointer_bytes place)) (behind (behind at (pointer_bytes place)) (pointer_bytes from)) (less (pointer_bytes place + pointer_bytes from + 2) 2 at (omega arith) h)
              (less (pointer_bytes from + 2) 2 (behind at (pointer_bytes place)) (omega arith) right)
              (past (pointer_bytes from + 2) 1 (pointer_bytes from) (behind at (pointer_bytes place)) (omega arith) right) n n (omega arith) s t,
        ),
      )

  within : (n : ℕ) → beyond 0 n ≤ n
  unfolding beyond
  within n = omega arith

  pub struct_lie : (r : Root) (place from : Spot) (at : Byte) (n : ℕ) → SpotLies n place → SpotLies n from → Lies memory (pointer_bytes place + pointer_bytes from + 2) at → AllLie (struct_row r place from at n)
  struct_lie r (Fixed to) (Fixed byte) at n s t h = copies_lie to byte (beyond 0 n) (less n (beyond 0 n) to (within n) s) (less n (beyond 0 n) byte (within n) t)
  struct_lie r (Fixed to) (Bit register bit) at n s t h = through_lie r (Fixed to) (Bit register bit) at n s t h
  struct_lie r (Fixed to) Computed at n s t h = through_lie r (Fixed to) Computed at n s t h
  struct_lie r (Bit register bit) from at n s t h = through_lie r (Bit register bit) from at n s t h
  struct_lie r Computed from at n s t h = through_lie r Computed from at n s t h
