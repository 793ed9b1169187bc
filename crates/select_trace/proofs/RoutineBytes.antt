-- The bytes of a routine: its code names no others, and no two of them are one.
use Rattle.std.proofs.Common.{◌≡◌, ℕ, ◌+◌, ◌*◌, ◌<◌, ◌≤◌, Bool, true, false, refl, sym, subst, arith}
use Rattle.c_typed.specs.declared.calls.Helper.{Helper}
use Rattle.c_typed.specs.declared.calls.Helper.TheVariants.{Mul2, Mul4, Divu2, Divs2, Remu2, Rems2, Divu4, Divs4, Remu4, Rems4, Shl2, Shru2, Shrs2, Shl4, Shru4, Shrs4}
use Rattle.core_code.specs.declared.code.Byte.{Byte}
use Rattle.core_code.specs.declared.code.Byte.TheVariants.{Frame, Result}
use Rattle.pic_world.specs.declared.Root.{Root}
use Rattle.math_helpers.specs.Routines.{helper_code}
use Rattle.math_helpers.specs.Shape.{frame_size}
use Rattle.sym_code.specs.Effect.{Setting, root_of}
use Rattle.sym_code.specs.Layout.{address_of}
use Rattle.select_trace.specs.Helpers.{Value, Left, Right, Remainder, Spare, Answer, AreApart}
use Rattle.select_trace.specs.Silent.{number_at, OwnsBytes, IsIn}
use Rattle.select_trace.specs.Wanted.{width_of}
use Rattle.select_trace.proofs.Names.{own_place, same_name}
use Rattle.select_trace.proofs.RoutineParts.{is_shift, byte_number, layout}
use Rattle.select_trace.proofs.Places.{place_small}
use Rattle.select_trace.proofs.Walked.{AreSilent}

pub silent_code : (h : Helper) (root : Root) (copy : ℕ) → AreSilent (λ byte. IsIn root copy (frame_size h) byte 1) (helper_code h root copy)
silent_code Mul2 root copy = search arith
silent_code Mul4 root copy = search arith
silent_code Divu2 root copy = search arith
silent_code Divs2 root copy = search arith
silent_code Remu2 root copy = search arith
silent_code Rems2 root copy = search arith
silent_code Divu4 root copy = search arith
silent_code Divs4 root copy = search arith
silent_code Remu4 root copy = search arith
silent_code Rems4 root copy = search arith
silent_code Shl2 root copy = search arith
silent_code Shru2 root copy = search arith
silent_code Shrs2 root copy = search arith
silent_code Shl4 root copy = search arith
silent_code Shru4 root copy = search arith
silent_code Shrs4 root copy = search arith

-- the sizes of frames
pub two_values : (h : Helper) → 2 * width_of h ≤ frame_size h
two_values h = grind arith

pub four_values : (h : Helper) → is_shift h ≡ false → 4 * width_of h ≤ frame_size h
four_values Mul2 e = omega arith
four_values Mul4 e = omega arith
four_values Divu2 e = omega arith
four_values Divs2 e = omega arith
four_values Remu2 e = omega arith
four_values Rems2 e = omega arith
four_values Divu4 e = omega arith
four_values Divs4 e = omega arith
four_values Remu4 e = omega arith
four_values Rems4 e = omega arith
four_values Shl2 e = absurd (cc)
four_values Shru2 e = absurd (cc)
four_values Shrs2 e = absurd (cc)
four_values Shl4 e = absurd (cc)
four_values Shru4 e = absurd (cc)
four_values Shrs4 e = absurd (cc)

pub four_results : (h : Helper) → width_of h ≤ 4
four_results h = grind arith

module _ (g : Setting) (inside : Bool) (copy size : ℕ) (own : OwnsBytes g inside copy size) where
  abbrev at : Byte → ℕ
  at = number_at g.program.layout

  frames : (a b : ℕ) → a < size → b < size → at (Frame copy a) ≡ at (Frame copy b) → a ≡ b
  frames a b la lb e = inside_frame (same_name g inside copy size own (Frame copy a) (Frame copy b) (refl, omega arith) (refl, omega arith) e)
    where
      inside_frame : {c d x y : ℕ} → Frame c x ≡ Frame d y → x ≡ y
      inside_frame e = cc

  results : (a b : ℕ) → a < 4 → b < 4 → at (Result (root_of inside) a) ≡ at (Result (root_of inside) b) → a ≡ b
  results a b la lb e = inside_result (same_name g inside copy size own (Result (root_of inside) a) (Result (root_of inside) b) (refl, omega arith) (refl, omega arith) e)
    where
      inside_result : {c d : Root} {x y : ℕ} → Result c x ≡ Result d y → x ≡ y
      inside_result e = cc

  mixed : (a b : ℕ) → a < size → b < 4 → at (Frame copy a) ≡ at (Result (root_of inside) b) → ⊥
  mixed a b la lb e = never (same_name g inside copy size own (Frame copy a) (Result (root_of inside) b) (refl, omega arith) (refl, omega arith) e)
    where
      never : {c x y : ℕ} {d : Root} → Frame c x ≡ Result d y → ⊥
      never e = cc

  pub frame_below : (a : ℕ) → a < size → at (Frame copy a) < 512
  frame_below a la = place_small (address_of g.program.layout (Frame copy a)) (own_place g inside copy size own (Frame copy a) (refl, omega arith))

  pub result_below : (a : ℕ) → a < 4 → at (Result (root_of inside) a) < 512
  result_below a la = place_small (address_of g.program.layout (Result (root_of inside) a)) (own_place g inside copy size own (Result (root_of inside) a) (refl, omega arith))

  full_between : (w : ℕ) → 4 * w ≤ size → w ≤ 4 → (v u : Value) → (v ≡ u → ⊥) → (j k : ℕ) → j < w → k < w → byte_number at (root_of inside) copy w 512 false v j ≡ byte_number at (root_of inside) copy w 512 false u k → ⊥
  full_between w le four Left Left ne j k lj lk e = ne refl
  full_between w le four Left Right ne j k lj lk e = let h = frames (j) (w + k) (omega arith) (omega arith) e in omega (arith, h)
  full_between w le four Left Remainder ne j k lj lk e = let h = frames (j) (2 * w + k) (omega arith) (omega arith) e in omega (arith, h)
  full_between w le four Left Spare ne j k lj lk e = let h = frames (j) (3 * w + k) (omega arith) (omega arith) e in omega (arith, h)
  full_between w le four Left Answer ne j k lj lk e = mixed (j) k (omega arith) (omega arith) e
  full_between w le four Right Left ne j k lj lk e = let h = frames (w + j) (k) (omega arith) (omega arith) e in omega (arith, h)
  full_between w le four Right Right ne j k lj lk e = ne refl
  full_between w le four Right Remainder ne j k lj lk e = let h = frames (w + j) (2 * w + k) (omega arith) (omega arith) e in omega (arith, h)
  full_between w le four Right Spare ne j k lj lk e = let h = frames (w + j) (3 * w + k) (omega arith) (omega arith) e in omega (arith, h)
  full_between w le four Right Answer ne j k lj lk e = mixed (w + j) k (omega arith) (omega arith) e
  full_between w le four Remainder Left ne j k lj lk e = let h = frames (2 * w + j) (k) (omega arith) (omega arith) e in omega (arith, h)
  full_between w le four Remainder Right ne j k lj lk e = let h = frames (2 * w + j) (w + k) (omega arith) (omega arith) e in omega (arith, h)
  full_between w le four Remainder Remainder ne j k lj lk e = ne refl
  full_between w le four Remainder Spare ne j k lj lk e = let h = frames (2 * w + j) (3 * w + k) (omega arith) (omega arith) e in omega (arith, h)
  full_between w le four Remainder Answer ne j k lj lk e = mixed (2 * w + j) k (omega arith) (omega arith) e
  full_between w le four Spare Left ne j k lj lk e = let h = frames (3 * w + j) (k) (omega arith) (omega arith) e in omega (arith, h)
  full_between w le four Spare Right ne j k lj lk e = let h = frames (3 * w + j) (w + k) (omega arith) (omega arith) e in omega (arith, h)
  full_between w le four Spare Remainder ne j k lj lk e = let h = frames (3 * w + j) (2 * w + k) (omega arith) (omega arith) e in omega (arith, h)
  full_between w le four Spare Spare ne j k lj lk e = ne refl
  full_between w le four Spare Answer ne j k lj lk e = mixed (3 * w + j) k (omega arith) (omega arith) e
  full_between w le four Answer Left ne j k lj lk e = mixed (k) j (omega arith) (omega arith) (sym e)
  full_between w le four Answer Right ne j k lj lk e = mixed (w + k) j (omega arith) (omega arith) (sym e)
  full_between w le four Answer Remainder ne j k lj lk e = mixed (2 * w + k) j (omega arith) (omega arith) (sym e)
  full_between w le four Answer Spare ne j k lj lk e = mixed (3 * w + k) j (omega arith) (omega arith) (sym e)
  full_between w le four Answer Answer ne j k lj lk e = ne refl

  full_within : (w : ℕ) → 4 * w ≤ size → w ≤ 4 → (v : Value) (j k : ℕ) → j < k → k < w → byte_number at (root_of inside) copy w 512 false v j ≡ byte_number at (root_of inside) copy w 512 false v k → ⊥
  full_within w le four Left j k lj lk e = let h = frames (j) (k) (omega arith) (omega arith) e in omega (arith, h)
  full_within w le four Right j k lj lk e = let h = frames (w + j) (w + k) (omega arith) (omega arith) e in omega (arith, h)
  full_within w le four Remainder j k lj lk e = let h = frames (2 * w + j) (2 * w + k) (omega arith) (omega arith) e in omega (arith, h)
  full_within w le four Spare j k lj lk e = let h = frames (3 * w + j) (3 * w + k) (omega arith) (omega arith) e in omega (arith, h)
  full_within w le four Answer j k lj lk e = let h = results j k (omega arith) (omega arith) e in omega (arith, h)

  shift_between : (w : ℕ) → 2 * w ≤ size → w ≤ 4 → (v u : Value) → (v ≡ u → ⊥) → (j k : ℕ) → j < w → k < w → byte_number at (root_of inside) copy w 512 true v j ≡ byte_number at (root_of inside) copy w 512 true u k → ⊥
  shift_between w le four Left Left ne j k lj lk e = ne refl
  shift_between w le four Left Right ne j k lj lk e = let h = frames (j) (w + k) (omega arith) (omega arith) e in omega (arith, h)
  shift_between w le four Left Remainder ne j k lj lk e = let h = frame_below (j) (omega arith) in omega (arith, h, e)
  shift_between w le four Left Spare ne j k lj lk e = let h = frame_below (j) (omega arith) in omega (arith, h, e)
  shift_between w le four Left Answer ne j k lj lk e = mixed (j) k (omega arith) (omega arith) e
  shift_between w le four Right Left ne j k lj lk e = let h = frames (w + j) (k) (omega arith) (omega arith) e in omega (arith, h)
  shift_between w le four Right Right ne j k lj lk e = ne refl
  shift_between w le four Right Remainder ne j k lj lk e = let h = frame_below (w + j) (omega arith) in omega (arith, h, e)
  shift_between w le four Right Spare ne j k lj lk e = let h = frame_below (w + j) (omega arith) in omega (arith, h, e)
  shift_between w le four Right Answer ne j k lj lk e = mixed (w + j) k (omega arith) (omega arith) e
  shift_between w le four Remainder Left ne j k lj lk e = let h = frame_below (k) (omega arith) in omega (arith, h, e)
  shift_between w le four Remainder Right ne j k lj lk e = let h = frame_below (w + k) (omega arith) in omega (arith, h, e)
  shift_between w le four Remainder Remainder ne j k lj lk e = ne refl
  shift_between w le four Remainder Spare ne j k lj lk e = omega (arith, e)
  shift_between w le four Remainder Answer ne j k lj lk e = let h = result_below k (omega arith) in omega (arith, h, e)
  shift_between w le four Spare Left ne j k lj lk e = let h = frame_below (k) (omega arith) in omega (arith, h, e)
  shift_between w le four Spare Right ne j k lj lk e = let h = frame_below (w + k) (omega arith) in omega (arith, h, e)
  shift_between w le four Spare Remainder ne j k lj lk e = omega (arith, e)
  shift_between w le four Spare Spare ne j k lj lk e = ne refl
  shift_between w le four Spare Answer ne j k lj lk e = let h = result_below k (omega arith) in omega (arith, h, e)
  shift_between w le four Answer Left ne j k lj lk e = mixed (k) j (omega arith) (omega arith) (sym e)
  shift_between w le four Answer Right ne j k lj lk e = mixed (w + k) j (omega arith) (omega arith) (sym e)
  shift_between w le four Answer Remainder ne j k lj lk e = let h = result_below j (omega arith) in omega (arith, h, e)
  shift_between w le four Answer Spare ne j k lj lk e = let h = result_below j (omega arith) in omega (arith, h, e)
  shift_between w le four Answer Answer ne j k lj lk e = ne refl

  shift_within : (w : ℕ) → 2 * w ≤ size → w ≤ 4 → (v : Value) (j k : ℕ) → j < k → k < w → byte_number at (root_of inside) copy w 512 true v j ≡ byte_number at (root_of inside) copy w 512 true v k → ⊥
  shift_within w le four Left j k lj lk e = let h = frames (j) (k) (omega arith) (omega arith) e in omega (arith, h)
  shift_within w le four Right j k lj lk e = let h = frames (w + j) (w + k) (omega arith) (omega arith) e in omega (arith, h)
  shift_within w le four Remainder j k lj lk e = omega (arith, e)
  shift_within w le four Spare j k lj lk e = omega (arith, e)
  shift_within w le four Answer j k lj lk e = let h = results j k (omega arith) (omega arith) e in omega (arith, h)

-- no two bytes of a routine are one
pub apart : (h : Helper) (g : Setting) (inside : Bool) (copy : ℕ) → OwnsBytes g inside copy (frame_size h) → AreApart (layout (number_at g.program.layout) (root_of inside) copy 512 h)
apart h g inside copy own = by (is_shift h) refl
  where
    by : (b : Bool) → is_shift h ≡ b → AreApart (record { width = width_of h; at = byte_number (number_at g.program.layout) (root_of inside) copy (width_of h) 512 (is_shift h) })
    by false e = subst (λ (b : Bool). AreApart (record { width = width_of h; at = byte_number (number_at g.program.layout) (root_of inside) copy (width_of h) 512 b })) (sym e)
        (record { within = full_within g inside copy (frame_size h) own (width_of h) (four_values h e) (four_results h); between = full_between g inside copy (frame_size h) own (width_of h) (four_values h e) (four_results h) })
    by true e = subst (λ (b : Bool). AreApart (record { width = width_of h; at = byte_number (number_at g.program.layout) (root_of inside) copy (width_of h) 512 b })) (sym e)
        (record { within = shift_within g inside copy (frame_size h) own (width_of h) (two_values h) (four_results h); between = shift_between g inside copy (frame_size h) own (width_of h) (two_values h) (four_results h) })
