-- Runs of bytes of the own frame, by their places in it.
use Rattle.std.proofs.Common.{◌≡◌, ℕ, zero, suc, ◌+◌, ◌-◌, ◌<◌, ◌≤◌, Bool, true, false, not, ◌&&◌, nat_eq, if◌then◌else◌, List, set, get_or, Some, None, refl, sym, ap, ◌∙◌, subst, arith}
use Rattle.std.proofs.lemmas.Bool.{true≢false, and_parts, and_from, eqb-true}
use Rattle.std.proofs.Math.Bool.{and-true, and_assoc}
use Rattle.std.proofs.lemmas.Option.{none-some, cond_some}
use Rattle.core_code.specs.Bytes.{behind}
use Rattle.core_code.specs.declared.code.Byte.{Byte}
use Rattle.core_code.specs.declared.code.Byte.TheVariants.{Static, Frame, Result, Device}
use Rattle.narrow_code.specs.Checked.{put, put_bytes, put_on, same_from}
use Rattle.narrow_code.specs.Drafts.{marks_in}
use Rattle.narrow_code.specs.Marks.{Mark, Same, Differs, is_same, is_cleared, own_mark, agree, cleared}
use Rattle.narrow_code.specs.Right.{is_low_alone}
use Rattle.narrow_pass.specs.Ways.{own_place, is_steady, set_bytes, all_same, all_cleared}

never : {A : Type 0} → false ≡ true → A
never e = absurd (true≢false (sym e))

-- ---- the place of a byte
record OwnPlace (p : ℕ) (byte : Byte) (at : ℕ) : Type 0 where
  owner : ℕ
  is : byte ≡ Frame owner at
  own : nat_eq owner p ≡ true

place_is : (p : ℕ) (byte : Byte) (at : ℕ) → own_place p byte ≡ Some at → OwnPlace p byte at
place_is p (Static object offset) at e = absurd (none-some at e)
place_is p (Frame copy offset) at e = let w = cond_some (nat_eq copy p) offset at e in record { owner = copy; is = ap (Frame copy) w.1; own = w.0 }
place_is p (Result root k) at e = absurd (none-some at e)
place_is p (Device address) at e = absurd (none-some at e)

-- ---- writes
pub put_own : (p : ℕ) (marks : List Mark) (byte : Byte) (at : ℕ) (mark : Mark) → own_place p byte ≡ Some at → set marks at mark ≡ put p marks byte mark
put_own p marks byte at mark e =
    let w = place_is p byte at e in
    subst (λ (b : Byte). set marks at mark ≡ put p marks b mark) (sym w.is) (sym (ap (λ (t : Bool). if t then set marks at mark else marks) w.own))

put_none : (t : Bool) (offset : ℕ) (marks other : List Mark) → (if t then Some offset else None) ≡ None → marks ≡ (if t then other else marks)
put_none true offset marks other e = absurd (none-some offset (sym e))
put_none false offset marks other e = refl

pub put_off : (p : ℕ) (marks : List Mark) (byte : Byte) (mark : Mark) → own_place p byte ≡ None → marks ≡ put p marks byte mark
put_off p marks (Static object offset) mark e = refl
put_off p marks (Frame copy offset) mark e = put_none (nat_eq copy p) offset marks (set marks offset mark) e
put_off p marks (Result root k) mark e = refl
put_off p marks (Device address) mark e = refl

frame_own : (p c at n : ℕ) (marks : List Mark) (mark : ℕ → Mark) → nat_eq c p ≡ true → set_bytes marks at n mark ≡ put_bytes p marks (Frame c at) n mark
frame_own p c at zero marks mark e = refl
frame_own p c at (suc n) marks mark e =
    ap (λ (l : List Mark). set l (at + n) (mark n)) (frame_own p c at n marks mark e)
    ∙ sym (ap (λ (t : Bool). if t then set (put_bytes p marks (Frame c at) n mark) (at + n) (mark n) else put_bytes p marks (Frame c at) n mark) e)

pub bytes_own : (p : ℕ) (marks : List Mark) (byte : Byte) (at n : ℕ) (mark : ℕ → Mark) → own_place p byte ≡ Some at → set_bytes marks at n mark ≡ put_bytes p marks byte n mark
bytes_own p marks byte at n mark e =
    let w = place_is p byte at e in
    subst (λ (b : Byte). set_bytes marks at n mark ≡ put_bytes p marks b n mark) (sym w.is) (frame_own p w.owner at n marks mark w.own)

behind_off : (p : ℕ) (byte : Byte) (n : ℕ) → own_place p byte ≡ None → own_place p (behind byte n) ≡ None
behind_off p (Static object offset) n e = refl
behind_off p (Frame copy offset) n e = by_owner (nat_eq copy p) e
  where
    by_owner : (t : Bool) → (if t then Some offset else None) ≡ None → (if t then Some (offset + n) else None) ≡ None
    by_owner true e = absurd (none-some offset (sym e))
    by_owner false e = refl
behind_off p (Result root k) n e = refl
behind_off p (Device address) n e = refl

pub bytes_off : (p : ℕ) (marks : List Mark) (byte : Byte) (n : ℕ) (mark : ℕ → Mark) → own_place p byte ≡ None → marks ≡ put_bytes p marks byte n mark
bytes_off p marks byte zero mark e = refl
bytes_off p marks byte (suc n) mark e = bytes_off p marks byte n mark e ∙ put_off p (put_bytes p marks byte n mark) (behind byte n) (mark n) (behind_off p byte n e)

-- ---- bytes that are written one behind the other
behind_both : (byte : Byte) (n : ℕ) → behind (behind byte 1) n ≡ behind byte (suc n)
behind_both (Static object offset) n = ap (Static object) (omega arith)
behind_both (Frame copy offset) n = ap (Frame copy) (omega arith)
behind_both (Result root k) n = ap (Result root) (omega arith)
behind_both (Device address) n = refl

behind_none : (byte : Byte) → byte ≡ behind byte 0
behind_none (Static object offset) = ap (Static object) (omega arith)
behind_none (Frame copy offset) = ap (Frame copy) (omega arith)
behind_none (Result root k) = ap (Result root) (omega arith)
behind_none (Device address) = refl

first_more : (p : ℕ) (marks : List Mark) (byte : Byte) (n : ℕ) → put_bytes p (put p marks byte Same) (behind byte 1) n (λ k. Same) ≡ put_bytes p marks byte (suc n) (λ k. Same)
first_more p marks byte zero = ap (λ (b : Byte). put p marks b Same) (behind_none byte)
first_more p marks byte (suc n) =
    ap (λ (l : List Mark). put p l (behind (behind byte 1) n) Same) (first_more p marks byte n)
    ∙ ap (λ (b : Byte). put p (put_bytes p marks byte (suc n) (λ k. Same)) b Same) (behind_both byte n)

pub on_bytes : (p : ℕ) (marks : List Mark) (byte : Byte) (n : ℕ) → put_bytes p marks byte n (λ k. Same) ≡ put_on p marks byte n
on_bytes p marks byte zero = refl
on_bytes p marks byte (suc n) = sym (first_more p marks byte n) ∙ on_bytes p (put p marks byte Same) (behind byte 1) n

-- ---- reads
same_on : (marks : List Mark) (at n : ℕ) → is_same (get_or marks (at + n) Differs) ≡ true → all_same marks at n ≡ true → all_same marks at (suc n) ≡ true
same_on marks at zero e h =
    let none : at + 0 ≡ at = omega arith in
    and_from (is_same (get_or marks at Differs)) true (subst (λ (i : ℕ). is_same (get_or marks i Differs) ≡ true) none e) refl
same_on marks at (suc n) e h =
    let w = and_parts (is_same (get_or marks at Differs)) (all_same marks (at + 1) n) h in
    let place : at + suc n ≡ at + 1 + n = omega arith in
    and_from (is_same (get_or marks at Differs)) (all_same marks (at + 1) (suc n)) w.0
    (same_on marks (at + 1) n (subst (λ (i : ℕ). is_same (get_or marks i Differs) ≡ true) place e) w.1)

pub same_more : (marks : List Mark) (at n : ℕ) → is_same (get_or marks (at + n) Differs) ≡ true → all_same marks at n ≡ true → all_same marks at (n + 1) ≡ true
same_more marks at n e h =
    let more : suc n ≡ n + 1 = omega arith in
    subst (λ (m : ℕ). all_same marks at m ≡ true) more (same_on marks at n e h)

own_is : (own lent : Bool) (mark : Mark) → own ≡ true → is_same mark ≡ true → is_same (if own then (if lent then Same else mark) else Differs) ≡ true
own_is true true mark e h = refl
own_is true false mark e h = h
own_is false lent mark e h = never e

frame_agree : (lent : ℕ → Bool) (p c : ℕ) (marks : List Mark) (at n : ℕ) → nat_eq c p ≡ true → all_same marks at n ≡ true → agree lent p (marks_in marks) (Frame c at) n ≡ true
frame_agree lent p c marks at zero e h = refl
frame_agree lent p c marks at (suc n) e h =
    let w = and_parts (is_same (get_or marks at Differs)) (all_same marks (at + 1) n) h in
    and_from (is_same (own_mark lent p (marks_in marks) (Frame c at))) (agree lent p (marks_in marks) (Frame c (at + 1)) n)
    (own_is (nat_eq c p) (lent c) (get_or marks at Differs) e w.0) (frame_agree lent p c marks (at + 1) n e w.1)

pub agree_own : (lent : ℕ → Bool) (p : ℕ) (marks : List Mark) (byte : Byte) (at n : ℕ) → own_place p byte ≡ Some at → all_same marks at n ≡ true → same_from lent p marks byte n ≡ true
agree_own lent p marks byte at n e h =
    let w = place_is p byte at e in
    subst (λ (b : Byte). agree lent p (marks_in marks) b n ≡ true) (sym w.is) (frame_agree lent p w.owner marks at n w.own h)

pub agree_none : (lent : ℕ → Bool) (p : ℕ) (marks : List Mark) (byte : Byte) (n : ℕ) → n ≡ 0 → same_from lent p marks byte n ≡ true
agree_none lent p marks byte n e = subst (λ (m : ℕ). agree lent p (marks_in marks) byte m ≡ true) (sym e) refl

lent_is : (own lent : Bool) (mark : Mark) → (own && lent) ≡ true → is_same (if own then (if lent then Same else mark) else Differs) ≡ true
lent_is true true mark e = refl
lent_is true false mark e = never e
lent_is false lent mark e = never e

pub agree_steady : (lent : ℕ → Bool) (p : ℕ) (marks : List Mark) (byte : Byte) (n : ℕ) → is_steady lent p byte ≡ true → same_from lent p marks byte n ≡ true
agree_steady lent p marks byte zero e = refl
agree_steady lent p marks (Static object offset) (suc n) e = agree_steady lent p marks (Static object (offset + 1)) n refl
agree_steady lent p marks (Frame copy offset) (suc n) e =
    and_from (is_same (own_mark lent p (marks_in marks) (Frame copy offset))) (agree lent p (marks_in marks) (Frame copy (offset + 1)) n)
    (lent_is (nat_eq copy p) (lent copy) (get_or marks offset Differs) e) (agree_steady lent p marks (Frame copy (offset + 1)) n e)
agree_steady lent p marks (Result root k) (suc n) e = agree_steady lent p marks (Result root (k + 1)) n refl
agree_steady lent p marks (Device address) (suc n) e = agree_steady lent p marks (Device address) n refl

pub both_same : (a b : Bool) → a ≡ true → b ≡ true → (a && b) ≡ true
both_same a b e h = and_from a b e h

-- ---- bytes that are 0
cleared_on : (marks : List Mark) (at n : ℕ) → all_cleared marks at (suc n) ≡ (all_cleared marks at n && is_cleared (get_or marks (at + n) Differs))
cleared_on marks at zero =
    let none : at ≡ at + 0 = omega arith in
    and-true (is_cleared (get_or marks at Differs)) ∙ ap (λ (i : ℕ). is_cleared (get_or marks i Differs)) none
cleared_on marks at (suc n) =
    let place : at + 1 + n ≡ at + suc n = omega arith in
    ap (λ (t : Bool). is_cleared (get_or marks at Differs) && t) (cleared_on marks (at + 1) n)
    ∙ sym (and_assoc (is_cleared (get_or marks at Differs)) (all_cleared marks (at + 1) n) (is_cleared (get_or marks (at + 1 + n) Differs)))
    ∙ ap (λ (i : ℕ). (is_cleared (get_or marks at Differs) && all_cleared marks (at + 1) n) && is_cleared (get_or marks i Differs)) place

pub cleared_more : (marks : List Mark) (at n : ℕ) (all next both : Bool) → all ≡ all_cleared marks at n → next ≡ is_cleared (get_or marks (at + n) Differs) → both ≡ (all && next) → both ≡ all_cleared marks at (n + 1)
cleared_more marks at n all next both e h f =
    let more : suc n ≡ n + 1 = omega arith in
    f ∙ ap (λ (t : Bool). t && next) e ∙ ap (λ (t : Bool). all_cleared marks at n && t) h ∙ sym (cleared_on marks at n) ∙ ap (all_cleared marks at) more

pub alone_one : (lent : ℕ → Bool) (p : ℕ) (marks : List Mark) (byte : Byte) (n : ℕ) → n ≤ 1 → true ≡ is_low_alone lent p (marks_in marks) byte n
alone_one lent p marks byte n h = let none : 0 ≡ n - 1 = omega arith in ap (cleared lent p (marks_in marks) (behind byte 1)) none

own_cleared : (own lent : Bool) (mark : Mark) → own ≡ true → is_cleared (if own then (if lent then Same else mark) else Differs) ≡ (not lent && is_cleared mark)
own_cleared true true mark e = refl
own_cleared true false mark e = refl
own_cleared false lent mark e = never e

frame_cleared : (lent : ℕ → Bool) (p c : ℕ) (marks : List Mark) (at n : ℕ) → nat_eq c p ≡ true → lent c ≡ false → cleared lent p (marks_in marks) (Frame c at) n ≡ all_cleared marks at n
frame_cleared lent p c marks at zero e h = refl
frame_cleared lent p c marks at (suc n) e h =
    ap (λ (t : Bool). t && cleared lent p (marks_in marks) (Frame c (at + 1)) n) (own_cleared (nat_eq c p) (lent c) (get_or marks at Differs) e ∙ ap (λ (t : Bool). not t && is_cleared (get_or marks at Differs)) h)
    ∙ ap (λ (t : Bool). is_cleared (get_or marks at Differs) && t) (frame_cleared lent p c marks (at + 1) n e h)

lent_cleared : (lent : ℕ → Bool) (p c : ℕ) (marks : List Mark) (at n : ℕ) → nat_eq c p ≡ true → lent c ≡ true → cleared lent p (marks_in marks) (Frame c at) (suc n) ≡ false
lent_cleared lent p c marks at n e h = ap (λ (t : Bool). t && cleared lent p (marks_in marks) (Frame c (at + 1)) n) (own_cleared (nat_eq c p) (lent c) (get_or marks at Differs) e ∙ ap (λ (t : Bool). not t && is_cleared (get_or marks at Differs)) h)

frame_alone : (lent : ℕ → Bool) (p c : ℕ) (marks : List Mark) (at n : ℕ) → nat_eq c p ≡ true → cleared lent p (marks_in marks) (Frame c at) (suc n) ≡ (not (lent p) && all_cleared marks at (suc n))
frame_alone lent p c marks at n e = by_lent (lent c) refl
  where
    same : lent c ≡ lent p
    same = ap lent (eqb-true c p e)

    by_lent : (t : Bool) → lent c ≡ t → cleared lent p (marks_in marks) (Frame c at) (suc n) ≡ (not (lent p) && all_cleared marks at (suc n))
    by_lent true h = lent_cleared lent p c marks at n e h ∙ sym (ap (λ (t : Bool). not t && all_cleared marks at (suc n)) (sym same ∙ h))
    by_lent false h = frame_cleared lent p c marks at (suc n) e h ∙ sym (ap (λ (t : Bool). not t && all_cleared marks at (suc n)) (sym same ∙ h))

above_one : (n : ℕ) → 1 < n → (k : ℕ) × (n - 1 ≡ suc k)
above_one n h = (n - 2, omega arith)

own_alone : (lent : ℕ → Bool) (p : ℕ) (marks : List Mark) (byte : Byte) (at n : ℕ) → own_place p byte ≡ Some at → 1 < n → (not (lent p) && all_cleared marks (at + 1) (n - 1)) ≡ is_low_alone lent p (marks_in marks) byte n
own_alone lent p marks byte at n e h =
    let w = place_is p byte at e in
    let k = above_one n h in
    subst (λ (b : Byte). (not (lent p) && all_cleared marks (at + 1) (n - 1)) ≡ is_low_alone lent p (marks_in marks) b n) (sym w.is)
    (subst (λ (m : ℕ). (not (lent p) && all_cleared marks (at + 1) m) ≡ cleared lent p (marks_in marks) (Frame w.owner (at + 1)) m) (sym k.1) (sym (frame_alone lent p w.owner marks (at + 1) k.0 w.own)))

pub alone_own : (lent : ℕ → Bool) (p : ℕ) (marks : List Mark) (byte : Byte) (at n : ℕ) (is rest both : Bool) → own_place p byte ≡ Some at → 1 < n → is ≡ lent p → rest ≡ all_cleared marks (at + 1) (n - 1)
    → both ≡ (not is && rest) → both ≡ is_low_alone lent p (marks_in marks) byte n
alone_own lent p marks byte at n is rest both e h f g i = i ∙ ap (λ (t : Bool). not t && rest) f ∙ ap (λ (t : Bool). not (lent p) && t) g ∙ own_alone lent p marks byte at n e h

cleared_off : (lent : ℕ → Bool) (p : ℕ) (marks : List Mark) (byte : Byte) (k : ℕ) → own_place p byte ≡ None → cleared lent p (marks_in marks) (behind byte 1) (suc k) ≡ false
cleared_off lent p marks (Static object offset) k e = refl
cleared_off lent p marks (Frame copy offset) k e = by_owner (nat_eq copy p) e
  where
    by_owner : (t : Bool) → (if t then Some offset else None) ≡ None
        → (is_cleared (if t then (if lent copy then Same else get_or marks (offset + 1) Differs) else Differs) && cleared lent p (marks_in marks) (Frame copy (offset + 1 + 1)) k) ≡ false
    by_owner true f = absurd (none-some offset (sym f))
    by_owner false f = refl
cleared_off lent p marks (Result root j) k e = refl
cleared_off lent p marks (Device address) k e = refl

pub alone_off : (lent : ℕ → Bool) (p : ℕ) (marks : List Mark) (byte : Byte) (n : ℕ) → own_place p byte ≡ None → 1 < n → false ≡ is_low_alone lent p (marks_in marks) byte n
alone_off lent p marks byte n e h =
    let k = above_one n h in
    sym (ap (cleared lent p (marks_in marks) (behind byte 1)) k.1 ∙ cleared_off lent p marks byte k.0 e)
