-- Conversions.
use Rattle.std.proofs.Common.{◌≡◌, ℕ, zero, suc, ◌+◌, ◌-◌, ◌*◌, ◌<◌, ◌≤◌, Bool, true, false, List, length, Option, Some, None, sym, ap, ◌∙◌, subst, arith, pos}
use Rattle.std.specs.Prelude.{nat_eq, if◌then◌else◌}
use Rattle.std.proofs.lemmas.Bool.Decides.{nat_tests}
use Rattle.c_ints.specs.Operators.{cut_to}
use Rattle.c_ints.specs.Range.{bytes_of, cut, pattern}
use Rattle.c_ints.specs.declared.types.IntTy.{IntTy}
use Rattle.pic_world.specs.World.{World}
use Rattle.core_code.specs.Bytes as bytes
use Rattle.core_code.specs.Bytes.{Held, behind, with_bytes}
use Rattle.core_code.specs.Cost.{widening_cost}
use Rattle.core_code.specs.Machine.{Waiting, is_own}
use Rattle.core_code.specs.Values.{Value, Number, Pointer, byte_count, byte_of, value_in, number_in, converted, keeps_pointer}
use Rattle.core_code.specs.declared.code.Byte.{Byte}
use Rattle.math_helpers.specs.Wanted.{byte_at}
use Rattle.select_wide.specs.Single.{is_signed, widening_code}
use Rattle.sym_code.specs.Effect.{Memory, root_of}
use Rattle.sym_code.specs.Machine.{Machine}
use Rattle.sym_code.specs.Programs.{Position}
use Rattle.sym_code.specs.Registers.{Registers}
use Rattle.sym_code.specs.Registers as registers
use Rattle.sym_code.specs.declared.code.BlockName.TheVariants.{Copy}
use Rattle.select_trace.proofs.Standing.{Has}
use Rattle.select_trace.proofs.Placed.{slot}
use Rattle.select_trace.proofs.Sites.{Site, layout}
use Rattle.select_trace.proofs.Live.{is_live, below}
use Rattle.select_trace.proofs.Memory.{Shown, Agrees, Agree, agrees_shown, agree_bytes}
use Rattle.select_trace.proofs.Access.{own_valid}
use Rattle.select_trace.proofs.Blocks.{block}
use Rattle.select_trace.proofs.Steps.{Fit}
use Rattle.select_trace.proofs.Tests as tests
use Rattle.select_trace.proofs.Tests.{own_part}
use Rattle.select_trace.proofs.Values.{scene, Arrives, own_agrees}
use Rattle.select_trace.specs.Silent.{OwnsBytes, IsIn, AreStraight}
use Rattle.select_trace.specs.Values.{val}
use Rattle.select_trace.proofs.Moves as moves
use Rattle.select_trace.proofs.Moves.{convert_runs, narrowed}
use Rattle.select_trace.proofs.Names.{IsOwnOne}
use Rattle.select_trace.proofs.Numbers.{byte_back}
use Rattle.select_trace.proofs.Held.{Kind, Counts, Points, kind, IsPointer, number_is, shows_number}
use Rattle.select_trace.proofs.Sizes as sizes
use Rattle.select_trace.proofs.Sizes.{straight_of}
use Rattle.select_trace.proofs.Turns as turns
use Rattle.select_trace.proofs.Unaries as unaries

wide : (ty : IntTy) → 0 < bytes_of ty
wide ty = grind arith

some_value : {a b : Value} → Some a ≡ Some b → a ≡ b
some_value e = cc

costs : (n : ℕ) → 0 < n → 3 + n * 2 + 2 ≤ widening_cost n
costs zero lt = absurd (omega arith)
costs (suc n) lt = omega arith

no_pointer : (n : ℕ) (p : bytes.Place) (v : Value) → 2 < n → (if nat_eq n 2 then Some (Pointer p) else None) ≡ Some v → ⊥
no_pointer n p v lt e = by (nat_eq n 2) (other n lt) e
  where
    other : (n : ℕ) → 2 < n → nat_eq n 2 ≡ false
    other n lt = grind (arith, nat_tests)

    by : (b : Bool) → b ≡ false → (if b then Some (Pointer p) else None) ≡ Some v → ⊥
    by true q e = absurd (cc)
    by false q e = absurd (cc)

module _ (s : Site) (t : Machine) (wc : World Held) (f : ℕ) (pr : Option ℕ) (st : List Waiting) (loops : List ℕ) (ps : List Position) (cm : bytes.Memory) (m : Memory) (fit : Fit s t wc f pr st loops ps cm m) (r : Registers) (fits : registers.Fits r) where
  abbrev P : Byte → Type 0
  P = IsOwnOne wc.inside f (s.q.frame_bytes f)

  own : OwnsBytes s.g wc.inside f (s.q.frame_bytes f)
  own = turns.own s t wc f pr st loops ps cm m fit r fits

  in_is : (b : Byte) (n : ℕ) → is_own s.q f b n ≡ true → IsIn (root_of wc.inside) f (s.q.frame_bytes f) b n
  in_is b n o = unaries.in_is s t wc f pr st loops ps cm m fit r fits b n o

  abbrev Widens : IntTy → IntTy → Byte → ℕ → Value → Type 0
  Widens from to x n v = is_own s.q f x (byte_count v) ≡ true → Arrives s wc.inside (is_live f pr (below st)) f ps n r m (n + length (widening_code from to x)) (with_bytes cm x (byte_count v) (byte_of v)) (widening_cost (bytes_of to - bytes_of from))

  number_go : (from to : IntTy) (x : Byte) (n k : ℕ) → bytes_of from < bytes_of to → Has (block s f) n (widening_code from to x) → is_own s.q f x (bytes_of from) ≡ true → number_in cm x (bytes_of from) ≡ Some k → Widens from to x n (Number (cut_to to (cut from (pos k))))
  number_go from to x n k lt h o c o2 =
      let i = in_is x (bytes_of from) o in
      let j = in_is x (bytes_of to) o2 in
      let z : sizes.Fits (widening_code from to x) (3 + (bytes_of to - bytes_of from) * 2) = sizes.widening_fits (is_signed from) _ _ (bytes_of to - bytes_of from) (omega arith) in
      let all : AreStraight P (widening_code from to x) =
      (moves.means_widened s.g s.price wc.inside f (s.q.frame_bytes f) own (Copy f) n (scene s f n ps r m) (is_signed from) x (bytes_of from) (bytes_of to - bytes_of from) (wide from)
      (subst (λ w. IsIn (root_of wc.inside) f (s.q.frame_bytes f) x w) (let e : bytes_of to ≡ bytes_of from + (bytes_of to - bytes_of from) = omega arith in e) j)).straight in
      let e : k ≡ unaries.num s t wc f pr st loops ps cm m fit r fits x (bytes_of from) = unaries.counted s t wc f pr st loops ps cm m fit r fits from x k o c in
      turns.turned s t wc f pr st loops ps cm m fit r fits n (widening_cost (bytes_of to - bytes_of from)) (widening_code from to x) x (bytes_of to) _ (byte_of (Number (cut_to to (cut from (pos k))))) h all (straight_of P (widening_code from to x) all z.ends)
      (let a : length (widening_code from to x) ≤ 3 + (bytes_of to - bytes_of from) * 2 = z.most in let b : 3 + (bytes_of to - bytes_of from) * 2 + 2 ≤ widening_cost (bytes_of to - bytes_of from) = costs (bytes_of to - bytes_of from) (omega arith) in omega arith)
      (convert_runs s.g s.price wc.inside f (s.q.frame_bytes f) (Copy f) n (scene s f n ps r m) from to x own i j (turns.begins s t wc f pr st loops ps cm m fit r fits n (widening_code from to x) z.some all h))
      (λ l ll. shows_number s (cut_to to (cut from (pos k))) _ (ap (λ y. pattern to (cut to (cut from (pos y)))) (sym e)) l) o2

  pub widening_go : (from to : IntTy) (x : Byte) (n : ℕ) (a v : Value) → bytes_of from < bytes_of to → Has (block s f) n (widening_code from to x) → is_own s.q f x (bytes_of from) ≡ true → value_in from cm x ≡ Some a → converted to a ≡ Some v → Widens from to x n v
  unfolding converted
  widening_go from to x n a v lt h o e u o2 = by (kind from cm x a e)
    where
      by : Kind from cm x a → Arrives s wc.inside (is_live f pr (below st)) f ps n r m (n + length (widening_code from to x)) (with_bytes cm x (byte_count v) (byte_of v)) (widening_cost (bytes_of to - bytes_of from))
      by (Counts k c is) = subst (Widens from to x n) (some_value (ap (converted to) (sym is) ∙ u)) (number_go from to x n k lt h o c) o2
      by (Points p two is_p is) = absurd (no_pointer (bytes_of to) p v (omega (arith, two, lt)) (ap (converted to) (sym is) ∙ u))

-- ---- a conversion that takes bytes away
pub cut_go : (s : Site) (f : ℕ) (pr : Option ℕ) (b : ℕ → Bool) (cm : bytes.Memory) (m : Memory) → Agree s (is_live f pr b) cm m → ((k : ℕ) → m k < 256)
    → (from to : IntTy) (x : Byte) (a v : Value) → bytes_of to ≤ bytes_of from → is_own s.q f x (bytes_of from) ≡ true → value_in from cm x ≡ Some a → converted to a ≡ Some v → is_own s.q f x (byte_count v) ≡ true
    → Agree s (is_live f pr b) (with_bytes cm x (byte_count v) (byte_of v)) m
unfolding converted
cut_go s f pr b cm m agree ok from to x a v le o e u o2 = by (kind from cm x a e)
  where
    live : (n j : ℕ) → is_own s.q f x n ≡ true → j < n → Agrees s (behind x j) (cm (behind x j)) (m (slot (layout s) (behind x j)))
    live n j o lt = agree (behind x j) (own_valid s f pr b (behind x j) (own_part s f n j x o lt))

    shown : (j : ℕ) → j < bytes_of from → Shown s (cm (behind x j)) (m (slot (layout s) (behind x j)))
    shown j lt = agrees_shown s (behind x j) (cm (behind x j)) (m (slot (layout s) (behind x j))) (live (bytes_of from) j o lt)

    at_all : (w : Value) → is_own s.q f x (byte_count w) ≡ true → ((k : ℕ) → k < byte_count w → Shown s (byte_of w k) (m (slot (layout s) (behind x k)))) → Agree s (is_live f pr b) (with_bytes cm x (byte_count w) (byte_of w)) m
    at_all w o3 sh = agree_bytes s (is_live f pr b) cm m x (byte_count w) (byte_of w) (λ k lt. own_agrees s f (behind x k) (byte_of w k) (m (slot (layout s) (behind x k))) (own_part s f (byte_count w) k x o3 lt) (sh k lt)) (λ c l no. agree c l)

    number : (k : ℕ) → number_in cm x (bytes_of from) ≡ Some k → is_own s.q f x (bytes_of to) ≡ true → Agree s (is_live f pr b) (with_bytes cm x (bytes_of to) (byte_of (Number (cut_to to (cut from (pos k)))))) m
    number k c o3 =
        let v : ℕ → ℕ = λ j. m (slot (layout s) (behind x j)) in
        let e1 : k ≡ val (λ j. m (slot (layout s) (behind x j))) (bytes_of from) = number_is s cm x (bytes_of from) k (λ j. m (slot (layout s) (behind x j))) shown c in
        let e2 : val (λ j. m (slot (layout s) (behind x j))) (bytes_of to) ≡ pattern to (cut to (cut from (pos k))) = narrowed from to (λ j. m (slot (layout s) (behind x j))) (λ j. ok (slot (layout s) (behind x j))) le ∙ ap (λ y. pattern to (cut to (cut from (pos y)))) (sym e1) in
        at_all (Number (cut_to to (cut from (pos k)))) o3 (λ j lt. sym (byte_back (λ i. m (slot (layout s) (behind x i))) (bytes_of to) j lt (λ i l. ok (slot (layout s) (behind x i)))) ∙ ap (λ y. byte_at y j) e2)

    pointer : (p : bytes.Place) (w : Value) → IsPointer cm x p → bytes_of from ≡ 2 → keeps_pointer to p ≡ Some w → is_own s.q f x (byte_count w) ≡ true → Agree s (is_live f pr b) (with_bytes cm x (byte_count w) (byte_of w)) m
    pointer p w h two k o3 = by_two (nat_eq (bytes_of to) 2) k
      where
        held : (j : ℕ) → j < 2 → Shown s (byte_of (Pointer p) j) (m (slot (layout s) (behind x j)))
        held zero lt = subst (λ y. Shown s y (m (slot (layout s) (behind x 0)))) (ap cm (tests.behind_none x) ∙ h.low) (shown 0 (omega (arith, two)))
        held (suc zero) lt = subst (λ y. Shown s y (m (slot (layout s) (behind x 1)))) h.high (shown 1 (omega (arith, two)))
        held (suc (suc j)) lt = absurd (omega arith)

        by_two : (c : Bool) → (if c then Some (Pointer p) else None) ≡ Some w → Agree s (is_live f pr b) (with_bytes cm x (byte_count w) (byte_of w)) m
        by_two false k = absurd (cc)
        by_two true k = subst (λ (y : Value). is_own s.q f x (byte_count y) ≡ true → Agree s (is_live f pr b) (with_bytes cm x (byte_count y) (byte_of y)) m) (some_value k) (λ o4. at_all (Pointer p) o4 held) o3

    by : Kind from cm x a → Agree s (is_live f pr b) (with_bytes cm x (byte_count v) (byte_of v)) m
    by (Counts k c is) = subst (λ (y : Value). is_own s.q f x (byte_count y) ≡ true → Agree s (is_live f pr b) (with_bytes cm x (byte_count y) (byte_of y)) m) (some_value (ap (converted to) (sym is) ∙ u)) (λ o4. number k c o4) o2
    by (Points p two h is) = pointer p v h two (ap (converted to) (sym is) ∙ u) o2
