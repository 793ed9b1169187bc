-- The routines in three parts: before the loop, its body, and behind it.
use Rattle.std.proofs.Common.{◌≡◌, ℕ, ◌+◌, ◌*◌, ◌≤◌, Bool, true, false, List, ◌++◌, refl, drop, take, lit≤}
use Rattle.c_typed.specs.declared.calls.Helper.{Helper}
use Rattle.c_typed.specs.declared.calls.Helper.TheVariants.{Mul2, Mul4, Divu2, Divs2, Remu2, Rems2, Divu4, Divs4, Remu4, Rems4, Shl2, Shru2, Shrs2, Shl4, Shru4, Shrs4}
use Rattle.core_code.specs.declared.code.Byte.{Byte}
use Rattle.core_code.specs.declared.code.Byte.TheVariants.{Frame, Result}
use Rattle.pic_world.specs.declared.Root.{Root}
use Rattle.math_helpers.specs.Routines.{helper_code}
use Rattle.math_helpers.specs.Shape.{most_words}
use Rattle.sym_code.specs.declared.code.Sym.{Sym}
use Rattle.select_trace.specs.Helpers.{Layout, Value, Left, Right, Remainder, Spare, Answer}
use Rattle.select_trace.specs.Positions.{dues}
use Rattle.select_trace.specs.Promises.{routine_most}
use Rattle.select_trace.specs.Silent.{plain_code}
use Rattle.select_trace.specs.Wanted.{width_of, task_of, task_code}
use Rattle.select_trace.proofs.Answers.{most_of}
use Rattle.select_trace.proofs.Costs.{fit}

-- A shift has no remainder and no bytes to spare: those are any bytes from one on.
abbrev pub is_shift : Helper → Bool
is_shift Shl2 = true
is_shift Shru2 = true
is_shift Shrs2 = true
is_shift Shl4 = true
is_shift Shru4 = true
is_shift Shrs4 = true
is_shift _ = false

abbrev pub byte_number : (Byte → ℕ) → Root → ℕ → ℕ → ℕ → Bool → Value → ℕ → ℕ
byte_number at root copy w any shift Left k = at (Frame copy k)
byte_number at root copy w any shift Right k = at (Frame copy (w + k))
byte_number at root copy w any false Remainder k = at (Frame copy (2 * w + k))
byte_number at root copy w any false Spare k = at (Frame copy (3 * w + k))
byte_number at root copy w any true Remainder k = any + k
byte_number at root copy w any true Spare k = any + w + k
byte_number at root copy w any shift Answer k = at (Result root k)

abbrev pub layout : (Byte → ℕ) → Root → ℕ → ℕ → Helper → Layout
layout at root copy any h = record { width = width_of h; at = byte_number at root copy (width_of h) any (is_shift h) }

-- how many instructions and labels stand before the loop's label, and how many from there to the loop's end
abbrev pub start_length : Helper → ℕ
start_length Mul2 = 4
start_length Mul4 = 6
start_length Divu2 = 4
start_length Divs2 = 23
start_length Remu2 = 4
start_length Rems2 = 22
start_length Divu4 = 6
start_length Divs4 = 37
start_length Remu4 = 6
start_length Rems4 = 36
start_length Shl2 = 7
start_length Shru2 = 7
start_length Shrs2 = 7
start_length Shl4 = 11
start_length Shru4 = 11
start_length Shrs4 = 11

abbrev pub body_length : Helper → ℕ
body_length Mul2 = 16
body_length Mul4 = 28
body_length Divu2 = 25
body_length Divs2 = 25
body_length Remu2 = 25
body_length Rems2 = 25
body_length Divu4 = 45
body_length Divs4 = 45
body_length Remu4 = 45
body_length Rems4 = 45
body_length Shl2 = 5
body_length Shru2 = 5
body_length Shrs2 = 5
body_length Shl4 = 7
body_length Shru4 = 7
body_length Shrs4 = 7

-- how often the loop goes round
abbrev pub rounds : Helper → ℕ → ℕ
rounds Mul2 count = 16
rounds Mul4 count = 32
rounds Divu2 count = 16
rounds Divs2 count = 16
rounds Remu2 count = 16
rounds Rems2 count = 16
rounds Divu4 count = 32
rounds Divs4 count = 32
rounds Remu4 count = 32
rounds Rems4 count = 32
rounds Shl2 count = count
rounds Shru2 count = count
rounds Shrs2 count = count
rounds Shl4 count = count
rounds Shru4 count = count
rounds Shrs4 count = count

-- at most, where the operator has a value
abbrev pub most_rounds : Helper → ℕ
most_rounds Mul2 = 16
most_rounds Mul4 = 32
most_rounds Divu2 = 16
most_rounds Divs2 = 16
most_rounds Remu2 = 16
most_rounds Rems2 = 16
most_rounds Divu4 = 32
most_rounds Divs4 = 32
most_rounds Remu4 = 32
most_rounds Rems4 = 32
most_rounds Shl2 = 15
most_rounds Shru2 = 15
most_rounds Shrs2 = 15
most_rounds Shl4 = 31
most_rounds Shru4 = 31
most_rounds Shrs4 = 31

-- .. and at most for all operands, since a count is a byte
abbrev pub all_rounds : Helper → ℕ
all_rounds Shl2 = 255
all_rounds Shru2 = 255
all_rounds Shrs2 = 255
all_rounds Shl4 = 255
all_rounds Shru4 = 255
all_rounds Shrs4 = 255
all_rounds h = most_rounds h

abbrev pub start_of : Helper → Root → ℕ → List Sym
start_of h root copy = take (start_length h) (helper_code h root copy)

abbrev pub body_of : Helper → Root → ℕ → List Sym
body_of h root copy = take (body_length h) (drop (start_length h + 1) (helper_code h root copy))

abbrev pub end_of : Helper → Root → ℕ → List Sym
end_of h root copy = drop (start_length h + 1 + body_length h) (helper_code h root copy)

-- the code over bytes by number
pub code_is : (at : Byte → ℕ) (root : Root) (copy any : ℕ) (h : Helper) → plain_code at (helper_code h root copy) ≡ task_code (layout at root copy any h) (task_of h)
code_is at root copy any Mul2 = refl
code_is at root copy any Mul4 = refl
code_is at root copy any Divu2 = refl
code_is at root copy any Divs2 = refl
code_is at root copy any Remu2 = refl
code_is at root copy any Rems2 = refl
code_is at root copy any Divu4 = refl
code_is at root copy any Divs4 = refl
code_is at root copy any Remu4 = refl
code_is at root copy any Rems4 = refl
code_is at root copy any Shl2 = refl
code_is at root copy any Shru2 = refl
code_is at root copy any Shrs2 = refl
code_is at root copy any Shl4 = refl
code_is at root copy any Shru4 = refl
code_is at root copy any Shrs4 = refl

-- what a routine costs, by its parts
pub most_is : (price : ℕ → ℕ) (at : Byte → ℕ) (root : Root) (copy any count : ℕ) (h : Helper) →
    most_of price (layout at root copy any h) (task_of h) count ≡
    dues price 0 (plain_code at (start_of h root copy)) + rounds h count * dues price (start_length h + 1) (plain_code at (body_of h root copy)) + dues price (start_length h + 1 + body_length h) (plain_code at (end_of h root copy))
most_is price at root copy any count Mul2 = refl
most_is price at root copy any count Mul4 = refl
most_is price at root copy any count Divu2 = refl
most_is price at root copy any count Divs2 = refl
most_is price at root copy any count Remu2 = refl
most_is price at root copy any count Rems2 = refl
most_is price at root copy any count Divu4 = refl
most_is price at root copy any count Divs4 = refl
most_is price at root copy any count Remu4 = refl
most_is price at root copy any count Rems4 = refl
most_is price at root copy any count Shl2 = refl
most_is price at root copy any count Shru2 = refl
most_is price at root copy any count Shrs2 = refl
most_is price at root copy any count Shl4 = refl
most_is price at root copy any count Shru4 = refl
most_is price at root copy any count Shrs4 = refl

pub record Parts (h : Helper) (root : Root) (copy : ℕ) : Type 0 where
  pub start_there : drop 0 (helper_code h root copy) ≡ start_of h root copy ++ drop (start_length h) (helper_code h root copy)
  pub body_there : drop (start_length h + 1) (helper_code h root copy) ≡ body_of h root copy ++ end_of h root copy
  pub start_fits : fit false (start_of h root copy) ≡ true
  pub body_fits : fit false (body_of h root copy) ≡ true
  pub end_fits : fit false (end_of h root copy) ≡ true
  pub small : most_words (start_of h root copy) + most_rounds h * most_words (body_of h root copy) + most_words (end_of h root copy) ≤ 2048
  pub always : most_words (start_of h root copy) + all_rounds h * most_words (body_of h root copy) + most_words (end_of h root copy) ≤ routine_most

pub parts : (h : Helper) (root : Root) (copy : ℕ) → Parts h root copy
parts Mul2 root copy = record { start_there = refl; body_there = refl; start_fits = refl; body_fits = refl; end_fits = refl; small = lit≤ tt; always = lit≤ tt }
parts Mul4 root copy = record { start_there = refl; body_there = refl; start_fits = refl; body_fits = refl; end_fits = refl; small = lit≤ tt; always = lit≤ tt }
parts Divu2 root copy = record { start_there = refl; body_there = refl; start_fits = refl; body_fits = refl; end_fits = refl; small = lit≤ tt; always = lit≤ tt }
parts Divs2 root copy = record { start_there = refl; body_there = refl; start_fits = refl; body_fits = refl; end_fits = refl; small = lit≤ tt; always = lit≤ tt }
parts Remu2 root copy = record { start_there = refl; body_there = refl; start_fits = refl; body_fits = refl; end_fits = refl; small = lit≤ tt; always = lit≤ tt }
parts Rems2 root copy = record { start_there = refl; body_there = refl; start_fits = refl; body_fits = refl; end_fits = refl; small = lit≤ tt; always = lit≤ tt }
parts Divu4 root copy = record { start_there = refl; body_there = refl; start_fits = refl; body_fits = refl; end_fits = refl; small = lit≤ tt; always = lit≤ tt }
parts Divs4 root copy = record { start_there = refl; body_there = refl; start_fits = refl; body_fits = refl; end_fits = refl; small = lit≤ tt; always = lit≤ tt }
parts Remu4 root copy = record { start_there = refl; body_there = refl; start_fits = refl; body_fits = refl; end_fits = refl; small = lit≤ tt; always = lit≤ tt }
parts Rems4 root copy = record { start_there = refl; body_there = refl; start_fits = refl; body_fits = refl; end_fits = refl; small = lit≤ tt; always = lit≤ tt }
parts Shl2 root copy = record { start_there = refl; body_there = refl; start_fits = refl; body_fits = refl; end_fits = refl; small = lit≤ tt; always = lit≤ tt }
parts Shru2 root copy = record { start_there = refl; body_there = refl; start_fits = refl; body_fits = refl; end_fits = refl; small = lit≤ tt; always = lit≤ tt }
parts Shrs2 root copy = record { start_there = refl; body_there = refl; start_fits = refl; body_fits = refl; end_fits = refl; small = lit≤ tt; always = lit≤ tt }
parts Shl4 root copy = record { start_there = refl; body_there = refl; start_fits = refl; body_fits = refl; end_fits = refl; small = lit≤ tt; always = lit≤ tt }
parts Shru4 root copy = record { start_there = refl; body_there = refl; start_fits = refl; body_fits = refl; end_fits = refl; small = lit≤ tt; always = lit≤ tt }
parts Shrs4 root copy = record { start_there = refl; body_there = refl; start_fits = refl; body_fits = refl; end_fits = refl; small = lit≤ tt; always = lit≤ tt }
