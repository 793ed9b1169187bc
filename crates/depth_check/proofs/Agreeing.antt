-- What two certificates know of PCLATH, where neither knows what the other one denies.
use Rattle.std.proofs.Common.{◌≡◌, ℕ, Bool, true, false, List, Option, Some, None, refl, sym, ap, ◌∙◌, subst}
use Rattle.std.specs.Prelude.{if◌then◌else◌, not, ◌&&◌, ◌||◌, nat_eq}
use Rattle.std.proofs.lemmas.Bool.{and_parts}
use Rattle.pic_isa.specs.declared.Ins.{Ins}
use Rattle.pic_isa.specs.declared.Ins.TheVariants.{Bcf, Bsf, Call, Clrf, Goto, Retfie, Retlw, Return, Sleep}
use Rattle.depth_check.specs.declared.Facts.{Facts}
use Rattle.depth_check.specs.declared.Row.{Row}
use Rattle.depth_check.specs.Certificate.{Certificate}
use Rattle.depth_check.specs.Facts.{writes, bit_written, known_in, fits, target}
use Rattle.depth_check.specs.Valid.{routine, instruction, is_return, spares_gie, is_allowed, agree, row_holds}
use Rattle.depth_check.proofs.Below.{less_same, fits_of}
use Rattle.depth_check.proofs.Transfer.{left, left_with}

-- ---- one fact
-- where both are known they are the same
abbrev pub Agrees : Option Bool → Option Bool → Type 0
Agrees a b = (x y : Bool) → a ≡ Some x → b ≡ Some y → x ≡ y

pub same_bit : (x y : Bool) → ◌≡◌ {A = Option Bool} (Some x) (Some y) → x ≡ y
same_bit x y e = cc

pub agrees_self : (a : Option Bool) → Agrees a a
agrees_self a x y e f = same_bit x y (sym e ∙ f)

known_some : (x : Bool) (a : Option Bool) → known_in (Some x) a ≡ true → a ≡ Some x
known_some true None h = absurd (cc)
known_some false None h = absurd (cc)
known_some true (Some true) h = refl
known_some true (Some false) h = absurd (cc)
known_some false (Some true) h = absurd (cc)
known_some false (Some false) h = refl

pub agrees_less : (a b u v : Option Bool) → known_in u a ≡ true → known_in v b ≡ true → Agrees a b → Agrees u v
agrees_less a b u v g h same x y e f = same x y (known_some x a (subst (λ z. known_in z a ≡ true) e g)) (known_some y b (subst (λ z. known_in z b ≡ true) f h))

pub written_agrees : (n : ℕ) (i : Ins) (a b : Option Bool) → Agrees a b → Agrees (bit_written n i a) (bit_written n i b)
written_agrees n (Bcf f k) a b same = by (nat_eq k n) where
  by : (t : Bool) → Agrees (if t then Some false else a) (if t then Some false else b)
  by true = agrees_self (Some false)
  by false = same
written_agrees n (Bsf f k) a b same = by (nat_eq k n) where
  by : (t : Bool) → Agrees (if t then Some true else a) (if t then Some true else b)
  by true = agrees_self (Some true)
  by false = same
written_agrees n (Clrf f) a b same = agrees_self (Some false)
written_agrees n _ a b same = agrees_self None

pub chosen_agrees : (t : Bool) (a b u v : Option Bool) → Agrees a b → Agrees u v → Agrees (if t then a else u) (if t then b else v)
chosen_agrees true a b u v g h = g
chosen_agrees false a b u v g h = h

pub inside : (m n : ℕ) → Some m ≡ Some n → m ≡ n
inside m n e = cc

pub same_place : (a3 a4 b3 b4 : Option Bool) (k m n : ℕ) → Agrees a3 b3 → Agrees a4 b4 → target a3 a4 k ≡ Some m → target b3 b4 k ≡ Some n → m ≡ n
same_place None a4 b3 b4 k m n g h e f = absurd (cc)
same_place (Some p) None b3 b4 k m n g h e f = absurd (cc)
same_place (Some p) (Some q) None b4 k m n g h e f = absurd (cc)
same_place (Some p) (Some q) (Some r) None k m n g h e f = absurd (cc)
same_place (Some p) (Some q) (Some r) (Some s) k m n g h e f =
    inside m n (sym e ∙ ap (λ z. target (Some z) (Some q) k) (g p r refl refl) ∙ ap (λ z. target (Some r) (Some z) k) (h q s refl refl) ∙ f)

pub itself : (x : Facts) → fits x x ≡ true
itself x = fits_of x x (less_same x)

pub same_flag : (x y : Bool) → agree x y ≡ true → y ≡ x
same_flag true y e = e
same_flag false true e = absurd (cc)
same_flag false false e = refl

-- what is known where a routine is left is known by the routine
pub left_known : (image : List ℕ) (c : Certificate) (r : Row) → row_holds image c r ≡ true → is_return (instruction image r) ≡ true
    → (known_in (routine c r.routine).out3 r.facts.p3 ≡ true) × (known_in (routine c r.routine).out4 r.facts.p4 ≡ true)
left_known image c r ok h = by (instruction image r) refl h where
  by : (o : Option Ins) → instruction image r ≡ o → is_return o ≡ true → (known_in (routine c r.routine).out3 r.facts.p3 ≡ true) × (known_in (routine c r.routine).out4 r.facts.p4 ≡ true)
  by None e h = absurd (cc)
  by (Some (Retlw k)) e h = left_with image c r ok r.facts (itself r.facts) k e
  by (Some Return) e h = left image c r ok r.facts (itself r.facts) e
  by (Some _) e h = absurd (cc)

-- what writes INTCON is allowed only where interrupts come
pub interrupts_come : (c : Certificate) (n : ℕ) (i : Ins) → writes 11 i ≡ true → is_allowed c n i ≡ true → c.interrupts ≡ true
interrupts_come c n (Call k) w h = absurd (cc)
interrupts_come c n (Goto k) w h = absurd (cc)
interrupts_come c n Retfie w h = absurd (cc)
interrupts_come c n (Retlw k) w h = absurd (cc)
interrupts_come c n Return w h = absurd (cc)
interrupts_come c n Sleep w h = absurd (cc)
interrupts_come c n i w h = parts i w h where
  second : (p q : Bool) → p ≡ true → (not p || q) ≡ true → q ≡ true
  second true q e h = h
  second false q e h = absurd (cc)

  parts : (i : Ins) → writes 11 i ≡ true
      → (not (writes 2 i) && not (writes 0 i) && (not (writes 11 i) || (c.interrupts && (not (routine c n).isr || spares_gie i))) && not ((routine c n).isr && not (nat_eq n 1) && writes c.cell i)) ≡ true
      → c.interrupts ≡ true
  parts i w h =
      let a = and_parts _ (not ((routine c n).isr && not (nat_eq n 1) && writes c.cell i)) h in
      let b = and_parts _ (not (writes 11 i) || (c.interrupts && (not (routine c n).isr || spares_gie i))) a.0 in
      (and_parts c.interrupts (not (routine c n).isr || spares_gie i) (second (writes 11 i) _ w b.1)).0
