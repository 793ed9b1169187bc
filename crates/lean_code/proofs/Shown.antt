-- What flags of the other machine tell stays so.
use Rattle.std.proofs.Common.{◌≡◌, ℕ, zero, suc, Bool, true, false, not, ◌&&◌, if◌then◌else◌, Option, Some, None, refl, sym, ap, ◌∙◌, arith}
use Rattle.std.specs.Prelude.{nat_eq, nat_le, ◌<◌}
use Rattle.std.proofs.lemmas.Bool.{eqb-true}
use Rattle.std.proofs.lemmas.Option.{none-some}
use Rattle.pic_world.specs.Bits.{truth}
use Rattle.sym_code.specs.Effect.{Memory}
use Rattle.sym_code.specs.Registers.{Registers, flags_with, result_with}
use Rattle.sym_code.specs.declared.code.FileOperation.{FileOperation}
use Rattle.sym_code.specs.declared.code.FileOperation.TheVariants as files
use Rattle.lean_code.specs.Rows.{Note, FlagName, Carry, Zero, Shown, Unshown, Sees, Reports, Chooses}
use Rattle.lean_code.specs.Changes.{Ties, no_ties, is_number, flags_in, flag_of, IsShown, same_flag, same_truth, shows, reports, left, leaves_carry}
use Rattle.lean_code.specs.Right.{Claims}
use Rattle.lean_code.proofs.Computing.{Says, says_number, zero_is}
use Rattle.lean_code.proofs.Lists.{never}

-- what is carried and shown, of registers of both machines
pub record AreTied (t : Ties) (r s : Registers) (m : Memory) : Type 0 where
  pub carry : (j : ℕ) → t.carry ≡ Some j → m j ≡ s.w
  pub shown : IsShown t.shown r.w s

pub none_tied : (r s : Registers) (m : Memory) → AreTied no_ties r s m
none_tied r s m = record { carry = λ j h. absurd (none-some j h); shown = tt }

and_l : (a b : Bool) → (a && b) ≡ true → a ≡ true
and_l true b e = refl
and_l false b e = e

and_r : (a b : Bool) → (a && b) ≡ true → b ≡ true
and_r true b e = e
and_r false b e = never e

pub flag_is : (a b : FlagName) → same_flag a b ≡ true → a ≡ b
flag_is Carry Carry e = refl
flag_is Carry Zero e = never e
flag_is Zero Carry e = never e
flag_is Zero Zero e = refl

truth_is : (a b : Bool) → same_truth a b ≡ true → a ≡ b
truth_is true b e = sym e
truth_is false true e = never e
truth_is false false e = refl

if_same : (v : Bool) (a b c e : ℕ) → a ≡ c → b ≡ e → (if v then a else b) ≡ (if v then c else e)
if_same true a b c e p q = p
if_same false a b c e p q = q

-- less is shown, where this is known of W
pub shown_is : (said : Shown) (number : Option ℕ) (has : Shown) (w : ℕ) (s : Registers) → Says number w → shows said number has ≡ true → IsShown has w s → IsShown said w s
shown_is Unshown number has w s says e x = tt
shown_is (Sees flag v) number Unshown w s says e x = never e
shown_is (Sees flag v) number (Sees g u) w s says e x =
    ap (λ (h : FlagName). flag_of h s) (flag_is flag g (and_l (same_flag flag g) (same_truth v u) e)) ∙ x ∙ ap truth (sym (truth_is v u (and_r (same_flag flag g) (same_truth v u) e)))
shown_is (Sees flag v) number (Chooses g c d) w s says e x = never e
shown_is (Sees flag v) number Reports w s says e x = never e
shown_is Reports number Reports w s says e x = x
shown_is Reports number has w s says e x = never e
shown_is (Chooses flag a b) number Reports w s says e x = never e
shown_is (Chooses flag a b) number Unshown w s says e x = never e
shown_is (Chooses flag a b) number (Sees g v) w s says e x =
    let n = if v then a else b in
    (v, ap (λ (h : FlagName). flag_of h s) (flag_is flag g (and_l (same_flag flag g) (is_number number n) e)) ∙ x, says_number number w n says (and_r (same_flag flag g) (is_number number n) e))
shown_is (Chooses flag a b) number (Chooses g c d) w s says e x =
    let more = and_r (same_flag flag g) (nat_eq a c && nat_eq b d) e in (
      x.0,
      ap (λ (h : FlagName). flag_of h s) (flag_is flag g (and_l (same_flag flag g) (nat_eq a c && nat_eq b d) e)) ∙ x.1,
      x.2 ∙ sym (if_same x.0 a b c d (eqb-true a c (and_l (nat_eq a c) (nat_eq b d) more)) (eqb-true b d (and_r (nat_eq a c) (nat_eq b d) more))),
    )

pub claims_tied : (n : Note) (number : Option ℕ) (t : Ties) (r s : Registers) (m : Memory) → Says number r.w → Claims n number t → AreTied t r s m → AreTied (record { carry = n.carry; shown = n.shown }) r s m
claims_tied n number t r s m says c x = record { carry = λ j h. x.carry j (c.carry j h); shown = shown_is n.shown number t.shown r.w s says c.shown x.shown }

-- where nothing is tied, nothing needs to be known of W
pub untied : (n : Note) (number : Option ℕ) → Claims n None no_ties → Claims n number no_ties
untied n number c = record { carry = c.carry; shown = by_shown n.shown c.shown }
  where
    by_shown : (said : Shown) → shows said None Unshown ≡ true → shows said number Unshown ≡ true
    by_shown Unshown e = refl
    by_shown (Sees flag v) e = never e
    by_shown Reports e = never e
    by_shown (Chooses flag a b) e = never e

-- where W stays, or not
pub left_shown : (kept : Bool) (shown : Shown) (w y : ℕ) (s : Registers) → (kept ≡ true → y ≡ w) → IsShown shown w s → IsShown (left kept shown) y s
left_shown true Unshown w y s same x = tt
left_shown true (Sees flag v) w y s same x = x
left_shown true Reports w y s same x = x
left_shown true (Chooses flag a b) w y s same x = (x.0, x.1, same refl ∙ x.2)
left_shown false Unshown w y s same x = tt
left_shown false (Sees flag v) w y s same x = x
left_shown false Reports w y s same x = x
left_shown false (Chooses flag a b) w y s same x = tt

pub same_shown : (shown : Shown) (w y : ℕ) (s : Registers) → y ≡ w → IsShown shown w s → IsShown shown y s
same_shown shown w y s same x = left_shown true shown w y s (λ e. same) x

-- Z says whether the result is 0 that went to W
pub reported : (op : FileOperation) (w y : ℕ) (s : Registers) → IsShown (if (flags_in op).z then Reports else Unshown) w (record (flags_with s op y) { w = result_with s op y })
reported op w y s = by_flags (flags_in op).z refl
  where
    by_flags : (b : Bool) → (flags_in op).z ≡ b → IsShown (if b then Reports else Unshown) w (record (flags_with s op y) { w = result_with s op y })
    by_flags true e = zero_is op s y e
    by_flags false e = tt

-- where that is shown
pub reports_is : (shown : Shown) (w : ℕ) (s : Registers) → reports shown ≡ true → IsShown shown w s → s.z ≡ truth (nat_eq s.w 0)
reports_is Reports w s e x = x
reports_is shown w s e x = never e

-- a flag that is a bit
pub is_off : (i : ℕ) → nat_eq i 0 ≡ true → i ≡ truth false
is_off i e = eqb-true i 0 e

pub is_on : (i : ℕ) → nat_eq i 1 ≡ true → i ≡ truth true
is_on i e = eqb-true i 1 e

pub not_off : (i : ℕ) → nat_eq i 0 ≡ false → i < 2 → i ≡ truth true
not_off zero e l = never (sym e)
not_off (suc zero) e l = refl
not_off (suc (suc i)) e l = absurd (omega arith)

pub not_on : (i : ℕ) → nat_eq i 1 ≡ false → i < 2 → i ≡ truth false
not_on zero e l = refl
not_on (suc zero) e l = never (sym e)
not_on (suc (suc i)) e l = absurd (omega arith)

-- ---- the carry of a difference
-- a number is taken away from one that leaves the same carry
differs_alike : (v : Bool) (a b k w c : ℕ) → c ≡ truth v → w ≡ (if v then a else b) → (nat_le a k && not (nat_le b k)) ≡ true → truth (nat_le w k) ≡ c
differs_alike true a b k w c is chosen e = ap (λ (i : ℕ). truth (nat_le i k)) chosen ∙ ap truth (and_l (nat_le a k) (not (nat_le b k)) e) ∙ sym is
differs_alike false a b k w c is chosen e = ap (λ (i : ℕ). truth (nat_le i k)) chosen ∙ ap truth (is_not (nat_le b k) (and_r (nat_le a k) (not (nat_le b k)) e)) ∙ sym is
  where
    is_not : (a : Bool) → not a ≡ true → a ≡ false
    is_not true e = never e
    is_not false e = refl

pub carry_alike : (op : FileOperation) (byte : Option ℕ) (shown : Shown) (r s : Registers) (v : ℕ) → Says byte v → leaves_carry op byte shown ≡ true → IsShown shown r.w s → (flags_with r op v).c ≡ s.c
unfolding flags_with
carry_alike files.Subwf (Some k) (Chooses Carry a b) r s v says e x = ap (λ (i : ℕ). truth (nat_le r.w i)) (says k refl) ∙ differs_alike x.0 a b k r.w s.c x.1 x.2 e
carry_alike op byte shown r s v says e x = never e
