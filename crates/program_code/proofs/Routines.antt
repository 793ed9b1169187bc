-- A helper's routine names bytes alone that are there.
use Rattle.std.proofs.Common.{◌≡◌, ℕ, zero, suc, ◌+◌, ◌-◌, ◌*◌, ◌<◌, ◌≤◌, Bool, true, false, if◌then◌else◌, List, [], ◌∷◌, ◌++◌, Option, Some, option_map, sym, ap, ◌∙◌, subst, arith}
use Rattle.std.specs.Prelude.{◌==◌}
use Rattle.c_typed.specs.declared.calls.FnId.{FnId}
use Rattle.c_typed.specs.declared.calls.Helper.{Helper}
use Rattle.c_typed.specs.declared.calls.Helper.TheVariants.{Mul2, Mul4, Divu2, Divs2, Remu2, Rems2, Divu4, Divs4, Remu4, Rems4, Shl2, Shru2, Shrs2, Shl4, Shru4, Shrs4}
use Rattle.call_graph.specs.declared.types.FnCopy.{FnCopy}
use Rattle.core_code.specs.declared.code.Byte.TheVariants as bytes
use Rattle.math_helpers.specs.Layouts.{bytes_of, operand_at}
use Rattle.math_helpers.specs.Pieces.{to_w, on_bit, on_flag, jump, carry_flag, zero_flag, right_byte, step_code, each_byte}
use Rattle.math_helpers.specs.Routines.{each, rounds_code, round_end_code, product_code, negate_if_code, take_off_code, divide_code, part_value, sign_code, magnitudes_code, division_code, signed_division_code, one_bit_code, shift_code, helper_code}
use Rattle.math_helpers.specs.declared.division.Part.{Part}
use Rattle.math_helpers.specs.declared.division.Part.TheVariants as part
use Rattle.math_helpers.specs.declared.layout.RoutineLayout.{RoutineLayout}
use Rattle.math_helpers.specs.declared.layout.Value.{Value}
use Rattle.math_helpers.specs.declared.layout.Value.TheVariants as value
use Rattle.math_helpers.specs.declared.layout.Width.{Width}
use Rattle.math_helpers.specs.declared.layout.Width.TheVariants.{Two, Four}
use Rattle.math_helpers.specs.declared.shift.Direction.{Direction}
use Rattle.math_helpers.specs.declared.shift.Direction.TheVariants as direction
use Rattle.math_helpers.specs.declared.steps.Step.{Step}
use Rattle.math_helpers.specs.declared.steps.Step.TheVariants as step
use Rattle.pic_world.specs.declared.Root.{Root}
use Rattle.ram_place.specs.Helpers as helpers
use Rattle.ram_place.specs.Sizes.{frame_bytes}
use Rattle.sym_code.specs.declared.code.BitOperation.{BitOperation}
use Rattle.sym_code.specs.declared.code.BitOperation.TheVariants.{Bcf, Btfsc, Btfss}
use Rattle.sym_code.specs.declared.code.FileOperation.TheVariants.{Incfsz, Rlf}
use Rattle.sym_code.specs.declared.code.Operand.{Operand}
use Rattle.sym_code.specs.declared.code.Sym.{Sym}
use Rattle.program_code.specs.Naming.{Memory, HasBytes, Lies, OperandLies, SymsLie}
use Rattle.program_code.specs.There.{memory_of, RoutinesKeepThere}
use Rattle.program_code.proofs.Lying.{has_fewer}

some_width : (w : Width) → 1 ≤ bytes_of w
some_width Two = omega arith
some_width Four = omega arith

-- what a list names is there; from a goal of this form both lists of a sum are told
record Lie (memory : Memory) (list : List Sym) : Type 0 where
  is : SymsLie memory list

pub syms_on : (memory : Memory) (xs ys : List Sym) → SymsLie memory xs → SymsLie memory ys → SymsLie memory (xs ++ ys)
syms_on memory [] ys p q = q
syms_on memory (x ∷ xs) ys p q = (p.0, syms_on memory xs ys p.1 q)

joined : {memory : Memory} {xs ys : List Sym} → Lie memory xs → Lie memory ys → Lie memory (xs ++ ys)
joined {memory} {xs} {ys} p q = record { is = syms_on memory xs ys p.is q.is }

module _ (memory : Memory) (l : RoutineLayout) where
  -- the bytes of a value are there
  abbrev Held : Value → Type 0
  Held v = (k : ℕ) → k < bytes_of l.width → OperandLies memory (operand_at l v k)

  abbrev StepHeld : Step → Type 0
  StepHeld (step.Clear v) = Held v
  StepHeld (step.Answer v) = Held v × Held value.Answer
  StepHeld (step.ShiftLeft v) = Held v
  StepHeld step.ShiftRight = Held value.Answer
  StepHeld step.Add = Held value.Right × Held value.Answer
  StepHeld step.Compare = Held value.Right × Held value.Remainder
  StepHeld step.Subtract = Held value.Right × Held value.Remainder
  StepHeld (step.Invert v) = Held v
  StepHeld (step.Increment v) = Held v

  right_lies : (unless : BitOperation) (k : ℕ) → OperandLies memory (operand_at l value.Right k) → SymsLie memory (right_byte l unless k)
  right_lies unless k h = (h, by_first (k == 0))
    where
      by_first : (b : Bool) → SymsLie memory (if b then [] else on_flag unless carry_flag ∷ to_w Incfsz (operand_at l value.Right k) ∷ [])
      by_first true = tt
      by_first false = (tt, (h, tt))

  step_lies : (s : Step) (k : ℕ) → k < bytes_of l.width → StepHeld s → SymsLie memory (step_code l s k)
  step_lies (step.Clear v) k b h = (h k b, tt)
  step_lies (step.Answer v) k b h = (h.0 k b, (h.1 k b, tt))
  step_lies (step.ShiftLeft v) k b h = (h k b, tt)
  step_lies step.ShiftRight k b h = (h (bytes_of l.width - 1 - k) (omega (arith, b)), tt)
  step_lies step.Add k b h = syms_on memory (right_byte l Btfsc k) _ (right_lies Btfsc k (h.0 k b)) (h.1 k b, tt)
  step_lies step.Compare k b h = syms_on memory (right_byte l Btfss k) _ (right_lies Btfss k (h.0 k b)) (h.1 k b, tt)
  step_lies step.Subtract k b h = syms_on memory (right_byte l Btfss k) _ (right_lies Btfss k (h.0 k b)) (h.1 k b, tt)
  step_lies (step.Invert v) k b h = (h k b, tt)
  step_lies (step.Increment v) k b h = syms_on memory (if k == 0 then [] else on_flag Btfsc zero_flag ∷ []) _ (by_first (k == 0)) (h k b, tt)
    where
      by_first : (b : Bool) → SymsLie memory (if b then [] else on_flag Btfsc zero_flag ∷ [])
      by_first true = tt
      by_first false = (tt, tt)

  each_byte_lies : (s : Step) (n : ℕ) → n ≤ bytes_of l.width → StepHeld s → SymsLie memory (each_byte l s n)
  each_byte_lies s zero b h = tt
  each_byte_lies s (suc k) b h = syms_on memory (each_byte l s k) (step_code l s k) (each_byte_lies s k (omega (arith, b)) h) (step_lies s k (omega (arith, b)) h)

  each_lies : (s : Step) → StepHeld s → Lie memory (each l s)
  each_lies s h = record { is = each_byte_lies s (bytes_of l.width) (omega arith) h }

  top_lies : (v : Value) → Held v → OperandLies memory (operand_at l v (bytes_of l.width - 1))
  top_lies v h = let some = some_width l.width in h (bytes_of l.width - 1) (omega (arith, some))

  low_lies : (v : Value) → Held v → OperandLies memory (operand_at l v 0)
  low_lies v h = let some = some_width l.width in h 0 (omega (arith, some))

  rounds_lie : OperandLies memory (operand_at l value.Spare 0) → Lie memory (rounds_code l)
  rounds_lie spare = record { is = (tt, (spare, tt)) }

  round_end_lies : (counter : Value) (label : ℕ) → OperandLies memory (operand_at l counter 0) → Lie memory (round_end_code l counter label)
  round_end_lies counter label h = record { is = (h, (tt, tt)) }

  product_lies : Held value.Left → Held value.Right → Held value.Answer → OperandLies memory (operand_at l value.Spare 0) → Lie memory (product_code l)
  product_lies left right answer spare =
      joined (joined (joined (joined (joined (joined (joined (joined (joined (each_lies (step.Clear value.Answer) answer) (rounds_lie spare)) (record { is = (tt, (tt, tt)) }))
      (each_lies (step.ShiftLeft value.Answer) answer)) (each_lies (step.ShiftLeft value.Left) left)) (record { is = (tt, (tt, tt)) }))
      (each_lies step.Add (right, answer))) (record { is = (tt, tt) })) (round_end_lies value.Spare 0 spare)) (record { is = (tt, tt) })

  negate_lies : (sign : Operand) (v : Value) (label : ℕ) → OperandLies memory sign → Held v → Lie memory (negate_if_code l sign v label)
  negate_lies sign v label h held =
      let front : Lie memory (on_bit Btfss sign 7 ∷ jump label ∷ []) = record { is = (h, (tt, tt)) } in
      joined (joined (joined front (each_lies (step.Invert v) held)) (each_lies (step.Increment v) held)) (record { is = (tt, tt) })

  take_off_lies : Held value.Right → Held value.Remainder → Lie memory (take_off_code l)
  take_off_lies right remainder =
      let front : Lie memory (on_flag Btfsc carry_flag ∷ jump 1 ∷ []) = record { is = (tt, (tt, tt)) } in
      joined (joined (joined (joined front (each_lies step.Compare (right, remainder))) (record { is = (tt, (tt, (tt, tt))) })) (each_lies step.Subtract (right, remainder))) (record { is = (tt, (tt, tt)) })

  divide_lies : Held value.Left → Held value.Right → Held value.Remainder → OperandLies memory (operand_at l value.Spare 0) → Lie memory (divide_code l)
  divide_lies left right remainder spare =
      joined (joined (joined (joined (joined (joined (joined (each_lies (step.Clear value.Remainder) remainder) (rounds_lie spare)) (record { is = (tt, tt) }))
      (each_lies (step.ShiftLeft value.Left) left)) (each_lies (step.ShiftLeft value.Remainder) remainder)) (take_off_lies right remainder)) (round_end_lies value.Spare 0 spare)) (each_lies (step.ShiftLeft value.Left) left)

  part_held : (p : Part) → Held value.Left → Held value.Remainder → Held (part_value p)
  part_held part.Quotient left remainder = left
  part_held part.Remainder left remainder = remainder

  sign_lies : (p : Part) → Held value.Left → Held value.Right → OperandLies memory (operand_at l value.Spare 1) → Lie memory (sign_code l p)
  sign_lies part.Quotient left right spare = record { is = (top_lies value.Left left, (top_lies value.Right right, (spare, tt))) }
  sign_lies part.Remainder left right spare = record { is = (top_lies value.Left left, (spare, tt)) }

  magnitudes_lie : Held value.Left → Held value.Right → Lie memory (magnitudes_code l)
  magnitudes_lie left right =
      joined (negate_lies (operand_at l value.Left (bytes_of l.width - 1)) value.Left 3 (top_lies value.Left left) left) (negate_lies (operand_at l value.Right (bytes_of l.width - 1)) value.Right 4 (top_lies value.Right right) right)

  division_lies : (p : Part) → Held value.Left → Held value.Right → Held value.Remainder → Held value.Answer → OperandLies memory (operand_at l value.Spare 0) → Lie memory (division_code l p)
  division_lies p left right remainder answer spare =
      joined (joined (divide_lies left right remainder spare) (each_lies (step.Answer (part_value p)) (part_held p left remainder, answer))) (record { is = (tt, tt) })

  signed_lies : (p : Part) → Held value.Left → Held value.Right → Held value.Remainder → Held value.Answer → OperandLies memory (operand_at l value.Spare 0) → OperandLies memory (operand_at l value.Spare 1) → Lie memory (signed_division_code l p)
  signed_lies p left right remainder answer spare sign =
      joined (joined (joined (joined (joined (sign_lies p left right sign) (magnitudes_lie left right)) (divide_lies left right remainder spare))
      (negate_lies (operand_at l value.Spare 1) (part_value p) 5 sign (part_held p left remainder))) (each_lies (step.Answer (part_value p)) (part_held p left remainder, answer))) (record { is = (tt, tt) })

  one_bit_lies : (d : Direction) → Held value.Answer → Lie memory (one_bit_code l d)
  one_bit_lies direction.Left answer = let front : Lie memory (on_flag Bcf carry_flag ∷ []) = record { is = (tt, tt) } in joined front (each_lies (step.ShiftLeft value.Answer) answer)
  one_bit_lies direction.Right answer = let front : Lie memory (on_flag Bcf carry_flag ∷ []) = record { is = (tt, tt) } in joined front (each_lies step.ShiftRight answer)
  one_bit_lies direction.SignedRight answer = let front : Lie memory (to_w Rlf (operand_at l value.Answer (bytes_of l.width - 1)) ∷ []) = record { is = (top_lies value.Answer answer, tt) } in joined front (each_lies step.ShiftRight answer)

  shift_lies : (d : Direction) → Held value.Left → Held value.Right → Held value.Answer → Lie memory (shift_code l d)
  shift_lies d left right answer =
      joined (joined (joined (joined (each_lies (step.Answer value.Left) (left, answer)) (record { is = (low_lies value.Right right, (tt, (tt, (tt, tt)))) })) (one_bit_lies d answer)) (round_end_lies value.Right 0 (low_lies value.Right right))) (record { is = (tt, tt) })

  -- ---- where the values stand in the frame
  at_frame : (n k : ℕ) → k < n → HasBytes (memory.frames l.copy) n → Lies memory 1 (bytes.Frame l.copy k)
  at_frame n k b h = has_fewer (memory.frames l.copy) n (k + 1) (omega (arith, b)) h

  in_left : (n : ℕ) → bytes_of l.width ≤ n → HasBytes (memory.frames l.copy) n → Held value.Left
  in_left n m h k b = at_frame n k (omega (arith, m, b)) h

  in_right : (n : ℕ) → 2 * bytes_of l.width ≤ n → HasBytes (memory.frames l.copy) n → Held value.Right
  in_right n m h k b = at_frame n (bytes_of l.width + k) (omega (arith, m, b)) h

  in_remainder : (n : ℕ) → 3 * bytes_of l.width ≤ n → HasBytes (memory.frames l.copy) n → Held value.Remainder
  in_remainder n m h k b = at_frame n (2 * bytes_of l.width + k) (omega (arith, m, b)) h

  in_spare : (n k : ℕ) → 3 * bytes_of l.width + k < n → HasBytes (memory.frames l.copy) n → OperandLies memory (operand_at l value.Spare k)
  in_spare n k m h = at_frame n (3 * bytes_of l.width + k) m h

  few_width : (w : Width) → bytes_of w ≤ 4
  few_width Two = omega arith
  few_width Four = omega arith

  in_answer : Held value.Answer
  in_answer k b = let few = few_width l.width in omega (arith, b, few)

  product_there : (n : ℕ) → 4 * bytes_of l.width ≤ n → HasBytes (memory.frames l.copy) n → Lie memory (product_code l)
  product_there n m h =
      let some = some_width l.width in
      product_lies (in_left n (omega (arith, m)) h) (in_right n (omega (arith, m)) h) in_answer (in_spare n 0 (omega (arith, m, some)) h)

  division_there : (p : Part) (n : ℕ) → 4 * bytes_of l.width ≤ n → HasBytes (memory.frames l.copy) n → Lie memory (division_code l p)
  division_there p n m h =
      let some = some_width l.width in
      division_lies p (in_left n (omega (arith, m)) h) (in_right n (omega (arith, m)) h) (in_remainder n (omega (arith, m)) h) in_answer (in_spare n 0 (omega (arith, m, some)) h)

  two_wide : (w : Width) → 2 ≤ bytes_of w
  two_wide Two = omega arith
  two_wide Four = omega arith

  signed_there : (p : Part) (n : ℕ) → 4 * bytes_of l.width ≤ n → HasBytes (memory.frames l.copy) n → Lie memory (signed_division_code l p)
  signed_there p n m h =
      let some = two_wide l.width in
      signed_lies p (in_left n (omega (arith, m)) h) (in_right n (omega (arith, m)) h) (in_remainder n (omega (arith, m)) h) in_answer (in_spare n 0 (omega (arith, m, some)) h) (in_spare n 1 (omega (arith, m, some)) h)

  shift_there : (d : Direction) (n : ℕ) → 2 * bytes_of l.width ≤ n → HasBytes (memory.frames l.copy) n → Lie memory (shift_code l d)
  shift_there d n m h = shift_lies d (in_left n (omega (arith, m)) h) (in_right n m h) in_answer

module _ (memory : Memory) (root : Root) (copy : ℕ) where
  abbrev laid : Width → RoutineLayout
  laid w = record { root = root; copy = copy; width = w }

  routine_there : (h : Helper) → HasBytes (memory.frames copy) (helpers.frame_bytes h) → Lie memory (helper_code h root copy)
  routine_there Mul2 h = product_there memory (laid Two) 8 (omega arith) h
  routine_there Mul4 h = product_there memory (laid Four) 16 (omega arith) h
  routine_there Divu2 h = division_there memory (laid Two) part.Quotient 8 (omega arith) h
  routine_there Divs2 h = signed_there memory (laid Two) part.Quotient 8 (omega arith) h
  routine_there Remu2 h = division_there memory (laid Two) part.Remainder 8 (omega arith) h
  routine_there Rems2 h = signed_there memory (laid Two) part.Remainder 8 (omega arith) h
  routine_there Divu4 h = division_there memory (laid Four) part.Quotient 16 (omega arith) h
  routine_there Divs4 h = signed_there memory (laid Four) part.Quotient 16 (omega arith) h
  routine_there Remu4 h = division_there memory (laid Four) part.Remainder 16 (omega arith) h
  routine_there Rems4 h = signed_there memory (laid Four) part.Remainder 16 (omega arith) h
  routine_there Shl2 h = shift_there memory (laid Two) direction.Left 4 (omega arith) h
  routine_there Shru2 h = shift_there memory (laid Two) direction.Right 4 (omega arith) h
  routine_there Shrs2 h = shift_there memory (laid Two) direction.SignedRight 4 (omega arith) h
  routine_there Shl4 h = shift_there memory (laid Four) direction.Left 8 (omega arith) h
  routine_there Shru4 h = shift_there memory (laid Four) direction.Right 8 (omega arith) h
  routine_there Shrs4 h = shift_there memory (laid Four) direction.SignedRight 8 (omega arith) h

pub routines_keep_there : RoutinesKeepThere
routines_keep_there p copies number copy helper root there is =
    let room : (memory_of p copies).frames number ≡ Some (helpers.frame_bytes helper) = ap (option_map (λ (c : FnCopy). frame_bytes p c.function)) there ∙ ap (λ (id : FnId). Some (frame_bytes p id)) is in
    (routine_there (memory_of p copies) root number helper (subst (λ (o : Option ℕ). HasBytes o (helpers.frame_bytes helper)) (sym room) (omega arith))).is
