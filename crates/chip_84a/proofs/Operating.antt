-- What the operations of the table make of the byte that they read, on numbers.
use Rattle.std.proofs.Common.{◌≡◌, ℕ, ◌+◌, ◌*◌, ◌/◌, ◌%◌, ◌<◌, Bool, true, false, List, ◌++◌, refl, sym, ap, arith}
use Rattle.std.specs.Prelude.{nat_eq, nat_le, if◌then◌else◌, bit_and, bit_or, bit_xor}
use Rattle.std.proofs.lemmas.Bool.{eqb-true, eqb-false}
use Rattle.pic_chip.specs.declared.operation.Operation.{Operation}
use Rattle.pic_chip.specs.declared.operation.Operation.TheVariants.{Add, And, Complement, Decrement, DecrementSkip, Increment, IncrementSkip, Or, Move, RotateLeft, RotateRight, Subtract, Swap, Xor, Clear, Set}
use Rattle.pic_chip.specs.declared.processor.Flags.{Flags}
use Rattle.pic_chip.specs.declared.processor.Flags.TheVariants.{Keep, OnlyZ, OnlyC, Sums}
use Rattle.pic_chip.specs.Act.{Derived, Act, value_in, apply, effect, perform, accesses, made}
use Rattle.pic_chip.specs.Address.{Place}
use Rattle.pic_chip.specs.Changes.{flagged, keeps_flags, row_done}
use Rattle.pic_chip.specs.Instructions.{Rule, contents, is_empty, sum, difference, complement, increment, decrement, swap, is_zero, note_by, write_note_by}
use Rattle.pic_chip.specs.Operations.{result_of, flags_of, next_of, operation_row_by}
use Rattle.pic_chip.specs.State.{State}
use Rattle.pic_world.specs.Bits.{set_bit, clear_bit, truth}
use Rattle.pic_chip.proofs.Done.{row_runs, row_notes}

abbrev pub outcome : Operation → ℕ → ℕ → ℕ → ℕ
outcome Add w c x = sum w x
outcome And w c x = bit_and w x
outcome Complement w c x = complement x
outcome Decrement w c x = decrement x
outcome DecrementSkip w c x = decrement x
outcome Increment w c x = increment x
outcome IncrementSkip w c x = increment x
outcome Or w c x = bit_or w x
outcome Move w c x = x
outcome RotateLeft w c x = (2 * x + c) % 256
outcome RotateRight w c x = 128 * c + x / 2
outcome Subtract w c x = difference w x
outcome Swap w c x = swap x
outcome Xor w c x = bit_xor w x
outcome (Clear b) w c x = clear_bit b x
outcome (Set b) w c x = set_bit b x

abbrev pub flags_by : Operation → ℕ → ℕ → Flags
flags_by Add w x = Sums (nat_le 256 (x + w)) (nat_le 16 (x % 16 + w % 16))
flags_by Subtract w x = Sums (nat_le w x) (nat_le (w % 16) (x % 16))
flags_by RotateLeft w x = OnlyC (nat_eq (x / 128 % 2) 1)
flags_by RotateRight w x = OnlyC (nat_eq (x % 2) 1)
flags_by DecrementSkip w x = Keep
flags_by IncrementSkip w x = Keep
flags_by Swap w x = Keep
flags_by And w x = OnlyZ
flags_by Complement w x = OnlyZ
flags_by Decrement w x = OnlyZ
flags_by Increment w x = OnlyZ
flags_by Or w x = OnlyZ
flags_by Move w x = OnlyZ
flags_by Xor w x = OnlyZ
flags_by (Clear b) w x = Keep
flags_by (Set b) w x = Keep

abbrev pub skips : Operation → ℕ → Bool
skips DecrementSkip x = is_zero (decrement x)
skips IncrementSkip x = is_zero (increment x)
skips _ x = false

truth_of : (n : ℕ) → n < 2 → truth (nat_eq n 1) ≡ n
truth_of n h = by (nat_eq n 1) refl where
  by : (b : Bool) → nat_eq n 1 ≡ b → truth b ≡ n
  by true e = sym (eqb-true n 1 e)
  by false e = let ne = eqb-false n 1 e in omega (arith, ne, h)

module _ (s : State) (v : Derived) where
  pub result_is : (op : Operation) → value_in s (result_of op v) ≡ outcome op s.w s.c (value_in s v)
  result_is Add = refl
  result_is And = refl
  result_is Complement = refl
  result_is Decrement = refl
  result_is DecrementSkip = refl
  result_is Increment = refl
  result_is IncrementSkip = refl
  result_is Or = refl
  result_is Move = refl
  result_is RotateLeft = refl
  result_is RotateRight = refl
  result_is Subtract = refl
  result_is Swap = refl
  result_is Xor = refl
  result_is (Clear b) = refl
  result_is (Set b) = refl

  next_is : (pc : ℕ) (op : Operation) → value_in s (next_of pc op v) ≡ (pc + (if skips op (value_in s v) then 2 else 1)) % 8192
  next_is pc Add = refl
  next_is pc And = refl
  next_is pc Complement = refl
  next_is pc Decrement = refl
  next_is pc DecrementSkip = refl
  next_is pc Increment = refl
  next_is pc IncrementSkip = refl
  next_is pc Or = refl
  next_is pc Move = refl
  next_is pc RotateLeft = refl
  next_is pc RotateRight = refl
  next_is pc Subtract = refl
  next_is pc Swap = refl
  next_is pc Xor = refl
  next_is pc (Clear b) = refl
  next_is pc (Set b) = refl

  flags_are : (op : Operation) (t : State) → apply (flags_of op v) s t ≡ flagged (flags_by op s.w (value_in s v)) (outcome op s.w s.c (value_in s v)) t
  flags_are Add t = refl
  flags_are And t = refl
  flags_are Complement t = refl
  flags_are Decrement t = refl
  flags_are DecrementSkip t = refl
  flags_are Increment t = refl
  flags_are IncrementSkip t = refl
  flags_are Or t = refl
  flags_are Move t = refl
  flags_are RotateLeft t = ap (λ c. record t { c = c }) (sym (truth_of (value_in s v / 128 % 2) (omega arith)))
  flags_are RotateRight t = ap (λ c. record t { c = c }) (sym (truth_of (value_in s v % 2) (omega arith)))
  flags_are Subtract t = refl
  flags_are Swap t = refl
  flags_are Xor t = refl
  flags_are (Clear b) t = refl
  flags_are (Set b) t = refl

  empty_is : (op : Operation) → is_empty (flags_of op v) ≡ keeps_flags (flags_by op s.w (value_in s v))
  empty_is Add = refl
  empty_is And = refl
  empty_is Complement = refl
  empty_is Decrement = refl
  empty_is DecrementSkip = refl
  empty_is Increment = refl
  empty_is IncrementSkip = refl
  empty_is Or = refl
  empty_is Move = refl
  empty_is RotateLeft = refl
  empty_is RotateRight = refl
  empty_is Subtract = refl
  empty_is Swap = refl
  empty_is Xor = refl
  empty_is (Clear b) = refl
  empty_is (Set b) = refl

-- a row with a file operand, where the operand leads to a place
module _ (c : Rule) (inputs : List ℕ) (s : State) (f : ℕ) (p : Place) (leads : (next : Place → Act) → effect (c.find f next) s ≡ effect (next p) s) where
  abbrev pub held : ℕ
  held = value_in s (contents inputs s.pc p)

  pub op_done : (op : Operation) (d : Bool) → perform (operation_row_by c inputs s.pc op f d) s
      ≡ row_done ((s.pc + (if skips op held then 2 else 1)) % 8192) p d (outcome op s.w s.c held) (flags_by op s.w held) s
  op_done op d =
      let v = contents inputs s.pc p in
      sym (row_runs c inputs s f p leads d (result_of op) (flags_of op) (next_of s.pc op) (outcome op s.w s.c held) _ (flags_by op s.w held)
      (result_is s v op) (next_is s v s.pc op) (flags_are s v op) (empty_is s v op))

  pub op_notes : (op : Operation) (d : Bool) → accesses (operation_row_by c inputs s.pc op f d) s
      ≡ made (note_by c.lowest false p (contents inputs s.pc p) ++ write_note_by c.lowest d p (result_of op (contents inputs s.pc p))) s
  op_notes op d = sym (row_notes c inputs s f p leads d (result_of op) (flags_of op) (next_of s.pc op))
