-- Each of the sixteen routines gives the answer that is wanted.
use Rattle.std.proofs.Common.{◌≡◌, ℕ, ◌*◌, ◌^◌, ◌<◌, refl, sym, subst, arith, true, false, Some}
use Rattle.select_trace.specs.Run.{Machine}
use Rattle.select_trace.specs.Links.{Fine}
use Rattle.select_trace.specs.Helpers.{Layout, Left, Right, Answer, AreApart, Direction, Leftward, Rightward, SignedRightward}
use Rattle.select_trace.specs.Steps.{number_of}
use Rattle.select_trace.specs.Positions.{place, Returns}
use Rattle.select_trace.specs.Products.{ProductRuns}
use Rattle.select_trace.specs.SignedDivision.{DivisionRuns, SignedDivisionRuns}
use Rattle.select_trace.specs.Shifts.{IsTop}
use Rattle.c_ints.specs.declared.types.IntTy.{IntTy}
use Rattle.c_ints.specs.declared.types.IntTy.TheVariants.{Char, SChar, UChar, Short, UShort, Int, UInt, Long, ULong}
use Rattle.c_ints.specs.declared.operators.BinOp.{BinOp}
use Rattle.c_ints.specs.declared.operators.BinOp.TheVariants.{Mul, Div, Rem, Add, Sub, Shl, Shr, Lt, Gt, Le, Ge, Eq, Ne, And, Xor, Or}
use Rattle.c_ints.specs.Range.{bytes_of}
use Rattle.select_trace.specs.Ints.{IsValue}
use Rattle.select_wide.specs.Single.{is_signed}
use Rattle.c_typed.specs.declared.calls.Helper.{Helper}
use Rattle.c_typed.specs.declared.calls.Helper.TheVariants.{Mul2, Mul4, Divu2, Divs2, Remu2, Rems2, Divu4, Divs4, Remu4, Rems4, Shl2, Shru2, Shrs2, Shl4, Shru4, Shrs4}
use Rattle.c_typed.specs.Calls.{by_type, int_helper}
use Rattle.select_trace.specs.Wanted.{Task, Product, Division, SignedDivision, Shift, task_of, task_code, width_of}
use Rattle.select_trace.proofs.Product.{multiply}
use Rattle.select_trace.proofs.SignedDivision.{division, signed_division}
use Rattle.select_trace.proofs.OperatorValues.{op_of}
use Rattle.select_trace.proofs.Operators.{Fits, product_answer, unsigned_answer, signed_answer, shl_answer, shr_unsigned_answer, shr_signed_answer, ShiftRuns, shift_runs, top_of}
use Rattle.select_trace.proofs.Returned.{product_path, product_most, division_path, division_most, signed_division_path, signed_most, shift_returns, shift_most}

-- which operator and which types a task is for
abbrev pub Wants : Task → BinOp → IntTy → Type 0
Wants Product op ty = op ≡ Mul
Wants (Division part) op ty = (op ≡ op_of part) × (is_signed ty ≡ false)
Wants (SignedDivision part) op ty = (op ≡ op_of part) × (is_signed ty ≡ true)
Wants (Shift Leftward) op ty = op ≡ Shl
Wants (Shift Rightward) op ty = (op ≡ Shr) × (is_signed ty ≡ false)
Wants (Shift SignedRightward) op ty = (op ≡ Shr) × (is_signed ty ≡ true)

pub record Wanted (op : BinOp) (ty : IntTy) (h : Helper) : Type 0 where
  pub fits : width_of h ≡ bytes_of ty
  pub task : Wants (task_of h) op ty

at_type : (op : BinOp) (s2 u2 s4 u4 : Helper) → Wanted op Short s2 → Wanted op UShort u2 → Wanted op Int s2 → Wanted op UInt u2 → Wanted op Long s4 → Wanted op ULong u4 → (ty : IntTy) (h : Helper) → by_type s2 u2 s4 u4 ty ≡ Some h → Wanted op ty h
at_type op s2 u2 s4 u4 a b c d e f Char h is = absurd (cc)
at_type op s2 u2 s4 u4 a b c d e f SChar h is = absurd (cc)
at_type op s2 u2 s4 u4 a b c d e f UChar h is = absurd (cc)
at_type op s2 u2 s4 u4 a b c d e f Short h is = subst (λ (x : Helper). Wanted op Short x) (inside is) a
  where
    inside : {x y : Helper} → Some x ≡ Some y → x ≡ y
    inside e = cc
at_type op s2 u2 s4 u4 a b c d e f UShort h is = subst (λ (x : Helper). Wanted op UShort x) (inside is) b
  where
    inside : {x y : Helper} → Some x ≡ Some y → x ≡ y
    inside e = cc
at_type op s2 u2 s4 u4 a b c d e f Int h is = subst (λ (x : Helper). Wanted op Int x) (inside is) c
  where
    inside : {x y : Helper} → Some x ≡ Some y → x ≡ y
    inside e = cc
at_type op s2 u2 s4 u4 a b c d e f UInt h is = subst (λ (x : Helper). Wanted op UInt x) (inside is) d
  where
    inside : {x y : Helper} → Some x ≡ Some y → x ≡ y
    inside e = cc
at_type op s2 u2 s4 u4 a b c d e f Long h is = subst (λ (x : Helper). Wanted op Long x) (inside is) e
  where
    inside : {x y : Helper} → Some x ≡ Some y → x ≡ y
    inside e = cc
at_type op s2 u2 s4 u4 a b c d e f ULong h is = subst (λ (x : Helper). Wanted op ULong x) (inside is) f
  where
    inside : {x y : Helper} → Some x ≡ Some y → x ≡ y
    inside e = cc

pub wanted : (op : BinOp) (ty : IntTy) (h : Helper) → int_helper op false ty ≡ Some h → Wanted op ty h
wanted Mul ty h e = at_type Mul Mul2 Mul2 Mul4 Mul4 (record { fits = refl; task = refl }) (record { fits = refl; task = refl }) (record { fits = refl; task = refl }) (record { fits = refl; task = refl }) (record { fits = refl; task = refl }) (record { fits = refl; task = refl }) ty h e
wanted Div ty h e = at_type Div Divs2 Divu2 Divs4 Divu4 (record { fits = refl; task = (refl, refl) }) (record { fits = refl; task = (refl, refl) }) (record { fits = refl; task = (refl, refl) }) (record { fits = refl; task = (refl, refl) }) (record { fits = refl; task = (refl, refl) }) (record { fits = refl; task = (refl, refl) }) ty h e
wanted Rem ty h e = at_type Rem Rems2 Remu2 Rems4 Remu4 (record { fits = refl; task = (refl, refl) }) (record { fits = refl; task = (refl, refl) }) (record { fits = refl; task = (refl, refl) }) (record { fits = refl; task = (refl, refl) }) (record { fits = refl; task = (refl, refl) }) (record { fits = refl; task = (refl, refl) }) ty h e
wanted Shl ty h e = at_type Shl Shl2 Shl2 Shl4 Shl4 (record { fits = refl; task = refl }) (record { fits = refl; task = refl }) (record { fits = refl; task = refl }) (record { fits = refl; task = refl }) (record { fits = refl; task = refl }) (record { fits = refl; task = refl }) ty h e
wanted Shr ty h e = at_type Shr Shrs2 Shru2 Shrs4 Shru4 (record { fits = refl; task = (refl, refl) }) (record { fits = refl; task = (refl, refl) }) (record { fits = refl; task = (refl, refl) }) (record { fits = refl; task = (refl, refl) }) (record { fits = refl; task = (refl, refl) }) (record { fits = refl; task = (refl, refl) }) ty h e
wanted Add ty h e = absurd (cc)
wanted Sub ty h e = absurd (cc)
wanted Lt ty h e = absurd (cc)
wanted Gt ty h e = absurd (cc)
wanted Le ty h e = absurd (cc)
wanted Ge ty h e = absurd (cc)
wanted Eq ty h e = absurd (cc)
wanted Ne ty h e = absurd (cc)
wanted And ty h e = absurd (cc)
wanted Xor ty h e = absurd (cc)
wanted Or ty h e = absurd (cc)

-- the most that a task costs
abbrev pub most_of : (ℕ → ℕ) → Layout → Task → ℕ → ℕ
most_of price l Product count = product_most price l (8 * l.width)
most_of price l (Division part) count = division_most price l part (8 * l.width)
most_of price l (SignedDivision part) count = signed_most price l part (8 * l.width)
most_of price l (Shift direction) count = shift_most price l direction count

pub record Done (price : ℕ → ℕ) (task : Task) (l : Layout) (t : Machine) : Type 0 where
  pub out : Machine
  pub at : ℕ
  pub returns : Returns price (task_code l task) (place 0 t) (most_of price l task (t.memory (l.at Right 0))) (place at out)
  pub answer : (op : BinOp) (ty : IntTy) → Fits ty l.width → Wants task op ty → IsValue op ty (number_of l t Left) (number_of l t Right) (number_of l out Answer)

-- for the operator that it is
of_op : (ty : IntTy) (l r a : ℕ) (op wanted : BinOp) → op ≡ wanted → IsValue wanted ty l r a → IsValue op ty l r a
of_op ty l r a op wanted e h = subst (λ (x : BinOp). IsValue x ty l r a) (sym e) h

shifted : (price : ℕ → ℕ) (direction : Direction) (l : Layout) → AreApart l → 1 < l.width → (t : Machine) → Fine t →
    ((s a : ℕ) → IsTop (256 ^ l.width) (number_of l t Left) s → ShiftRuns l direction s t a → (op : BinOp) (ty : IntTy) → Fits ty l.width → Wants (Shift direction) op ty → IsValue op ty (number_of l t Left) (number_of l t Right) a) → Done price (Shift direction) l t
shifted price direction l apart wide t ok value =
    let s = top_of l t ok (omega arith) Left in
    let h = shift_runs l direction s.0 (omega arith) apart t ok s.1 in
    let p = shift_returns price l direction s.0 t ok h.0 h.1 in
    record {
      out = p.0;
      at = p.1;
      returns = p.2;
      answer = λ op ty e w. subst (λ (a : ℕ). IsValue op ty (number_of l t Left) (number_of l t Right) a) (sym p.3) (value s.0 h.0 s.1 h.1 op ty e w);
    }

pub done : (price : ℕ → ℕ) (task : Task) (l : Layout) → AreApart l → 1 < l.width → 8 * l.width < 256 → (t : Machine) → Fine t → Done price task l t
done price Product l apart wide narrow t ok =
    let h = multiply l apart (omega arith) narrow t ok in
    let r : ProductRuns l t h.0 = h.1 in
    let p = product_path price l t h.0 ok r in
    record {
      out = h.0;
      at = p.0;
      returns = subst (λ (n : ℕ). Returns price (task_code l Product) (place 0 t) (product_most price l n) (place p.0 h.0)) r.as_bits p.1;
      answer = λ op ty e w. of_op ty _ _ _ op Mul w (product_answer ty l e t h.0 ok r);
    }
done price (Division part) l apart wide narrow t ok =
    let h = division l apart (omega arith) narrow part t ok in
    let r : DivisionRuns l part t h.0 = h.1 in
    let p = division_path price part l t h.0 ok r in
    record {
      out = h.0;
      at = p.0;
      returns = subst (λ (n : ℕ). Returns price (task_code l (Division part)) (place 0 t) (division_most price l part n) (place p.0 h.0)) r.divides.as_bits p.1;
      answer = λ op ty e w. of_op ty _ _ _ op (op_of part) w.0 (unsigned_answer part ty l w.1 e t h.0 ok r);
    }
done price (SignedDivision part) l apart wide narrow t ok =
    let h = signed_division l apart wide narrow part t ok in
    let r : SignedDivisionRuns l part t h.0 = h.1 in
    let p = signed_division_path price part l t h.0 ok r in
    record {
      out = h.0;
      at = p.0;
      returns = subst (λ (n : ℕ). Returns price (task_code l (SignedDivision part)) (place 0 t) (signed_most price l part n) (place p.0 h.0)) r.divides.as_bits p.1;
      answer = λ op ty e w. of_op ty _ _ _ op (op_of part) w.0 (signed_answer part ty l w.1 e t h.0 ok r);
    }
done price (Shift Leftward) l apart wide narrow t ok = shifted price Leftward l apart wide t ok (λ s a top h op ty e w. of_op ty _ _ _ op Shl w (shl_answer ty l e t ok s a h))
done price (Shift Rightward) l apart wide narrow t ok = shifted price Rightward l apart wide t ok (λ s a top h op ty e w. of_op ty _ _ _ op Shr w.0 (shr_unsigned_answer ty l w.1 e t ok s a h))
done price (Shift SignedRightward) l apart wide narrow t ok = shifted price SignedRightward l apart wide t ok (λ s a top h op ty e w. of_op ty _ _ _ op Shr w.0 (shr_signed_answer ty l w.1 e t ok s a top h))

pub wide_of : (h : Helper) → (1 < width_of h) × (8 * width_of h < 256)
wide_of h = grind arith
