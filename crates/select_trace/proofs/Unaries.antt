-- Operators on one value, and conversions.
use Rattle.std.proofs.Common.{◌≡◌, ℕ, ◌+◌, ◌*◌, ◌<◌, ◌≤◌, true, false, List, [], length, Option, Some, refl, sym, ap, ◌∙◌, subst, arith, pos}
use Rattle.std.specs.Prelude.{nat_eq, if◌then◌else◌}
use Rattle.std.specs.Ordering.{int_eq}
use Rattle.std.proofs.lemmas.Bool.Decides.{nat_tests}
use Rattle.c_ints.specs.Operators.{cut_to, truth, unary_type, exact_unary}
use Rattle.c_ints.specs.Quantity.{Quantity}
use Rattle.c_ints.specs.Range.{bytes_of, span, cut, pattern}
use Rattle.c_ints.specs.declared.operators.UnOp.{UnOp}
use Rattle.c_ints.specs.declared.operators.UnOp.TheVariants.{Plus, Minus, Not, Bang}
use Rattle.c_ints.specs.declared.types.IntTy.{IntTy}
use Rattle.c_ints.specs.declared.types.IntTy.TheVariants.{Char, SChar, UChar, Short, UShort, Int, UInt, Long, ULong}
use Rattle.pic_world.specs.World.{World}
use Rattle.core_code.specs.Bytes as bytes
use Rattle.core_code.specs.Bytes.{Held, behind, with_bytes}
use Rattle.core_code.specs.Cost.{unary_cost}
use Rattle.core_code.specs.Machine.{Waiting, is_own}
use Rattle.core_code.specs.Operands.{fits_unary}
use Rattle.core_code.specs.Values.{Value, Number, byte_count, byte_of, value_in, number_in, unary_value, unary_pointer}
use Rattle.core_code.specs.declared.code.Byte.{Byte}
use Rattle.math_helpers.specs.Shape.{is_straight}
use Rattle.math_helpers.specs.Wanted.{byte_at}
use Rattle.select_wide.specs.Single.{unary_code}
use Rattle.sym_code.specs.Effect.{Memory, root_of}
use Rattle.sym_code.specs.Machine.{Machine}
use Rattle.sym_code.specs.Programs.{Position}
use Rattle.sym_code.specs.Registers.{Registers}
use Rattle.sym_code.specs.Registers as registers
use Rattle.sym_code.specs.declared.code.BlockName.TheVariants.{Copy}
use Rattle.select_trace.proofs.Standing.{Has}
use Rattle.select_trace.proofs.Placed.{slot}
use Rattle.select_trace.proofs.Sites.{Site, layout}
use Rattle.select_trace.proofs.Live.{is_live, below}
use Rattle.select_trace.proofs.Memory.{Shown, agrees_shown}
use Rattle.select_trace.proofs.Access.{own_valid}
use Rattle.select_trace.proofs.Blocks.{block}
use Rattle.select_trace.proofs.Steps.{Fit}
use Rattle.select_trace.proofs.Tests.{own_part}
use Rattle.select_trace.proofs.Values.{scene, Arrives}
use Rattle.select_trace.specs.Operators.{number_from}
use Rattle.select_trace.specs.Silent.{number_at, OwnsBytes, IsIn, AreStraight}
use Rattle.select_trace.proofs.Means as means
use Rattle.select_trace.proofs.Meanings as meanings
use Rattle.select_trace.proofs.Names.{IsOwnOne}
use Rattle.select_trace.proofs.Single.{unary_runs}
use Rattle.select_trace.proofs.OwnByteSites as sites
use Rattle.select_trace.proofs.ComparisonValues.{eq_value}
use Rattle.select_trace.proofs.Held.{Kind, Counts, Points, kind, IsPointer, Aims, aims, number_is, num_is, shows_number}
use Rattle.select_trace.proofs.Setup.{in_own}
use Rattle.select_trace.proofs.Sizes as sizes
use Rattle.select_trace.proofs.Sizes.{straight_of}
use Rattle.select_trace.proofs.Turns as turns

wide : (ty : IntTy) → 0 < bytes_of ty
wide ty = grind arith

some_value : {a b : Value} → Some a ≡ Some b → a ≡ b
some_value e = cc

zero_cut : (ty : IntTy) → cut ty (pos 0) ≡ pos 0
zero_cut Char = refl
zero_cut SChar = refl
zero_cut UChar = refl
zero_cut Short = refl
zero_cut UShort = refl
zero_cut Int = refl
zero_cut UInt = refl
zero_cut Long = refl
zero_cut ULong = refl

-- a number that isn't 0
not_zero : (ty : IntTy) (n : ℕ) → 0 < n → n < span ty → pattern Int (cut Int (truth (int_eq (cut ty (pos n)) (pos 0)))) ≡ pattern Int (cut Int (truth false))
not_zero ty n lt small =
    sym (eq_value ty n 0 (if nat_eq n 0 then 1 else 0) small (span_above ty) refl ∙ ap (λ z. pattern Int (cut Int (truth (int_eq (cut ty (pos n)) z)))) (zero_cut ty)) ∙ zero_if n lt
  where
    zero_if : (n : ℕ) → 0 < n → ◌≡◌ {A = ℕ} (if nat_eq n 0 then 1 else 0) (pattern Int (cut Int (truth false)))
    zero_if n lt = grind (arith, nat_tests)

    span_above : (ty : IntTy) → 0 < span ty
    span_above Char = omega arith
    span_above SChar = omega arith
    span_above UChar = omega arith
    span_above Short = omega arith
    span_above UShort = omega arith
    span_above Int = omega arith
    span_above UInt = omega arith
    span_above Long = omega arith
    span_above ULong = omega arith

pub two_span : (ty : IntTy) → bytes_of ty ≡ 2 → span ty ≡ 65536
two_span Char e = absurd (omega arith)
two_span SChar e = absurd (omega arith)
two_span UChar e = absurd (omega arith)
two_span Short e = refl
two_span UShort e = refl
two_span Int e = refl
two_span UInt e = refl
two_span Long e = absurd (omega arith)
two_span ULong e = absurd (omega arith)

-- ---- where it begins
module _ (s : Site) (t : Machine) (wc : World Held) (f : ℕ) (pr : Option ℕ) (st : List Waiting) (loops : List ℕ) (ps : List Position) (cm : bytes.Memory) (m : Memory) (fit : Fit s t wc f pr st loops ps cm m) (r : Registers) (fits : registers.Fits r) where
  abbrev P : Byte → Type 0
  P = IsOwnOne wc.inside f (s.q.frame_bytes f)

  abbrev at : Byte → ℕ
  at = number_at (layout s)

  own : OwnsBytes s.g wc.inside f (s.q.frame_bytes f)
  own = turns.own s t wc f pr st loops ps cm m fit r fits

  abbrev In : Byte → ℕ → Type 0
  In b n = IsIn (root_of wc.inside) f (s.q.frame_bytes f) b n

  pub in_is : (b : Byte) (n : ℕ) → is_own s.q f b n ≡ true → In b n
  in_is b n o = in_own s wc.inside f n b fit.root o

  pub lies : (b : Byte) (n : ℕ) → 0 < n → In b n → means.Lies P at b n
  lies b n lt h = sites.lies s.g wc.inside f (s.q.frame_bytes f) own b n lt h

  -- what the operand's bytes show
  pub shown : (x : Byte) (n : ℕ) → is_own s.q f x n ≡ true → (j : ℕ) → j < n → Shown s (cm (behind x j)) (m (slot (layout s) (behind x j)))
  shown x n o j lt = agrees_shown s (behind x j) (cm (behind x j)) (m (slot (layout s) (behind x j))) (fit.agree (behind x j) (own_valid s f pr (below st) (behind x j) (own_part s f n j x o lt)))

  abbrev pub num : Byte → ℕ → ℕ
  num x w = number_from (layout s) m x w

  pub counted : (ty : IntTy) (x : Byte) (n : ℕ) → is_own s.q f x (bytes_of ty) ≡ true → number_in cm x (bytes_of ty) ≡ Some n → n ≡ num x (bytes_of ty)
  counted ty x n o e = number_is s cm x (bytes_of ty) n (λ j. m (slot (layout s) (behind x j))) (shown x (bytes_of ty) o) e ∙ num_is s m x (bytes_of ty)

  pub aimed : (ty : IntTy) (x : Byte) (p : bytes.Place) → is_own s.q f x (bytes_of ty) ≡ true → bytes_of ty ≡ 2 → IsPointer cm x p → Aims s p (num x (bytes_of ty))
  aimed ty x p o e h =
      subst (λ n. Aims s p n) (num_is s m x 2 ∙ ap (num x) (sym e)) (aims s cm x p (λ j. m (slot (layout s) (behind x j))) (shown x 2 (subst (λ n. is_own s.q f x n ≡ true) e o)) h)

  -- ---- operators on one value
  unary_straight : (op : UnOp) (ty : IntTy) (to : Byte) → In to (bytes_of ty) → In to (bytes_of (unary_type op ty)) → AreStraight P (unary_code op ty to)
  unary_straight Plus ty to h k = tt
  unary_straight Minus ty to h k = (means.joined P at _ _ _ _ (meanings.complement P at to (bytes_of ty) (lies to (bytes_of ty) (wide ty) h)) (meanings.increment P at to (bytes_of ty) (lies to (bytes_of ty) (wide ty) h))).straight
  unary_straight Not ty to h k = (meanings.complement P at to (bytes_of ty) (lies to (bytes_of ty) (wide ty) h)).straight
  unary_straight Bang ty to h k = (meanings.bang P at to (bytes_of ty) (lies to (bytes_of ty) (wide ty) h) (lies to 2 (omega arith) k)).straight

  abbrev Unary : UnOp → IntTy → Byte → ℕ → Quantity → Type 0
  Unary op ty to n q = Arrives s wc.inside (is_live f pr (below st)) f ps n r m (n + length (unary_code op ty to)) (with_bytes cm to (bytes_of q.ty) (byte_of (Number q))) (unary_cost op (bytes_of ty))

  abbrev answer : UnOp → IntTy → Byte → ℕ
  answer op ty to = pattern (unary_type op ty) (cut (unary_type op ty) (exact_unary op (cut ty (pos (num to (bytes_of ty))))))

  unary_at : (op : UnOp) (ty : IntTy) (to : Byte) (n : ℕ) (q : Quantity) → Has (block s f) n (unary_code op ty to) → fits_unary op ty ≡ true → is_own s.q f to (bytes_of ty) ≡ true → is_own s.q f to (bytes_of q.ty) ≡ true →
      q.ty ≡ unary_type op ty → answer op ty to ≡ pattern q.ty q.number → Unary op ty to n q
  unary_at op ty to n q h fu o o2 e a = by op h fu (in_is to (bytes_of ty) o) (subst (λ (z : IntTy). In to (bytes_of z)) e (in_is to (bytes_of q.ty) o2)) (subst (λ (z : IntTy). is_own s.q f to (bytes_of z) ≡ true) e o2) e a
    where
      shows : (op : UnOp) → answer op ty to ≡ pattern q.ty q.number → (k : ℕ) → Shown s (byte_of (Number q) k) (byte_at (answer op ty to) k)
      shows op a k = shows_number s q (answer op ty to) a k

      ends : (op : UnOp) (k : ℕ) → sizes.Fits (unary_code op ty to) k → AreStraight P (unary_code op ty to) → is_straight (unary_code op ty to) ≡ true
      ends op k z all = straight_of P (unary_code op ty to) all z.ends

      some : (op : UnOp) (k : ℕ) → sizes.Fits (unary_code op ty to) k → k + 2 ≤ unary_cost op (bytes_of ty) → Has (block s f) n (unary_code op ty to) → fits_unary op ty ≡ true → In to (bytes_of ty) → In to (bytes_of (unary_type op ty)) →
          is_own s.q f to (bytes_of (unary_type op ty)) ≡ true → q.ty ≡ unary_type op ty → answer op ty to ≡ pattern q.ty q.number → Unary op ty to n q
      some op k z le h fu i j o2 e a =
          let all = unary_straight op ty to i j in
          subst (λ (w : IntTy). Arrives s wc.inside (is_live f pr (below st)) f ps n r m (n + length (unary_code op ty to)) (with_bytes cm to (bytes_of w) (byte_of (Number q))) (unary_cost op (bytes_of ty))) (sym e)
          (turns.turned s t wc f pr st loops ps cm m fit r fits n (unary_cost op (bytes_of ty)) (unary_code op ty to) to (bytes_of (unary_type op ty)) (answer op ty to) (byte_of (Number q)) h all (ends op k z all)
          (let x : length (unary_code op ty to) ≤ k = z.most in omega arith)
          (unary_runs s.g s.price wc.inside f (s.q.frame_bytes f) (Copy f) n (scene s f n ps r m) op ty to own fu i j (turns.begins s t wc f pr st loops ps cm m fit r fits n (unary_code op ty to) z.some all h))
          (λ k lt. shows op a k) o2)

      by : (op : UnOp) → Has (block s f) n (unary_code op ty to) → fits_unary op ty ≡ true → In to (bytes_of ty) → In to (bytes_of (unary_type op ty)) → is_own s.q f to (bytes_of (unary_type op ty)) ≡ true → q.ty ≡ unary_type op ty → answer op ty to ≡ pattern q.ty q.number → Unary op ty to n q
      by Plus h fu i j o2 e a =
          subst (λ (w : IntTy). Arrives s wc.inside (is_live f pr (below st)) f ps n r m (n + 0) (with_bytes cm to (bytes_of w) (byte_of (Number q))) 0) (sym e)
          (turns.unmoved s t wc f pr st loops ps cm m fit r fits n 0 [] to (bytes_of (unary_type Plus ty)) (answer Plus ty to) (byte_of (Number q)) refl
          (unary_runs (turns.bare s t wc f pr st loops ps cm m fit r fits) s.price wc.inside f (s.q.frame_bytes f) (Copy f) 0 (turns.bare_scene s t wc f pr st loops ps cm m fit r fits) Plus ty to (turns.bare_own s t wc f pr st loops ps cm m fit r fits) fu i j (turns.bare_begins s t wc f pr st loops ps cm m fit r fits [] refl))
          (λ k lt. shows Plus a k) o2)
      by Minus h fu i j o2 e a = some Minus (bytes_of ty * 1 + bytes_of ty * 2) (sizes.minus_fits to (bytes_of ty) (wide ty)) (let z : 0 < bytes_of ty = wide ty in omega arith) h fu i j o2 e a
      by Not h fu i j o2 e a = some Not (bytes_of ty * 1) (sizes.complement_fits to (bytes_of ty) (wide ty)) (let z : 0 < bytes_of ty = wide ty in omega arith) h fu i j o2 e a
      by Bang h fu i j o2 e a = some Bang (bytes_of ty + 8) (sizes.bang_fits to (bytes_of ty)) (omega arith) h fu i j o2 e a

  pub unary_go : (op : UnOp) (ty : IntTy) (to : Byte) (n : ℕ) (x v : Value) → Has (block s f) n (unary_code op ty to) → fits_unary op ty ≡ true → is_own s.q f to (bytes_of ty) ≡ true → value_in ty cm to ≡ Some x → unary_value op x ≡ Some v → is_own s.q f to (byte_count v) ≡ true
      → Arrives s wc.inside (is_live f pr (below st)) f ps n r m (n + length (unary_code op ty to)) (with_bytes cm to (byte_count v) (byte_of v)) (unary_cost op (bytes_of ty))
  unfolding unary_value
  unary_go op ty to n x v h fu o e u o2 = by (kind ty cm to x e)
    where
      by : Kind ty cm to x → Arrives s wc.inside (is_live f pr (below st)) f ps n r m (n + length (unary_code op ty to)) (with_bytes cm to (byte_count v) (byte_of v)) (unary_cost op (bytes_of ty))
      by (Counts k c is) =
          let e1 : Number (cut_to (unary_type op ty) (exact_unary op (cut ty (pos k)))) ≡ v = some_value (ap (unary_value op) (sym is) ∙ u) in
          let k1 : k ≡ num to (bytes_of ty) = counted ty to k o c in
          put v e1 (ap (λ z. pattern (unary_type op ty) (cut (unary_type op ty) (exact_unary op (cut ty (pos z))))) (sym k1)) o2
        where
          put : (w : Value) → Number (cut_to (unary_type op ty) (exact_unary op (cut ty (pos k)))) ≡ w → answer op ty to ≡ pattern (unary_type op ty) (cut (unary_type op ty) (exact_unary op (cut ty (pos k)))) → is_own s.q f to (byte_count w) ≡ true →
              Arrives s wc.inside (is_live f pr (below st)) f ps n r m (n + length (unary_code op ty to)) (with_bytes cm to (byte_count w) (byte_of w)) (unary_cost op (bytes_of ty))
          put w e1 a o3 =
              subst (λ (z : Value). is_own s.q f to (byte_count z) ≡ true → Arrives s wc.inside (is_live f pr (below st)) f ps n r m (n + length (unary_code op ty to)) (with_bytes cm to (byte_count z) (byte_of z)) (unary_cost op (bytes_of ty))) e1
              (λ o4. unary_at op ty to n (cut_to (unary_type op ty) (exact_unary op (cut ty (pos k)))) h fu o o4 refl a) o3
      by (Points p two is_p is) = pointer op h fu (ap (unary_value op) (sym is) ∙ u)
        where
          pointer : (op : UnOp) → Has (block s f) n (unary_code op ty to) → fits_unary op ty ≡ true → unary_pointer op ≡ Some v → Arrives s wc.inside (is_live f pr (below st)) f ps n r m (n + length (unary_code op ty to)) (with_bytes cm to (byte_count v) (byte_of v)) (unary_cost op (bytes_of ty))
          pointer Plus h fu u = absurd (cc)
          pointer Minus h fu u = absurd (cc)
          pointer Not h fu u = absurd (cc)
          pointer Bang h fu u =
              let a : Aims s p (num to (bytes_of ty)) = aimed ty to p o two is_p in
              subst (λ (z : Value). is_own s.q f to (byte_count z) ≡ true → Arrives s wc.inside (is_live f pr (below st)) f ps n r m (n + length (unary_code Bang ty to)) (with_bytes cm to (byte_count z) (byte_of z)) (unary_cost Bang (bytes_of ty))) (some_value u)
              (λ o4. unary_at Bang ty to n (cut_to Int (truth false)) h fu o o4 refl
              (not_zero ty (num to (bytes_of ty)) (let b = a.above in let i = a.is in omega (arith, b, i)) (let b = a.below in let i = a.is in let z = two_span ty two in omega (arith, b, i, z)))) o2
