-- No byte is hidden of objects and of frames that are lent, one after the other.
use Rattle.std.proofs.Common.{◌≡◌, ℕ, zero, suc, ◌+◌, ◌-◌, ◌<◌, ◌≤◌, Bool, true, false, List, [], ◌∷◌, length, map, take, drop, refl, sym, subst, true≢false, arith}
use Rattle.std.specs.Prelude.{nat_eq, get_or}
use Rattle.std.proofs.lemmas.Bool.{eqb-true}
use Rattle.std.proofs.lemmas.List.{take_all}
use Rattle.pic_map.specs.declared.ObjLine.{ObjLine}
use Rattle.sym_code.specs.Layout.{FrameRange, general_at}
use Rattle.code_place.specs.Layouts.{range_of}
use Rattle.lean_code.specs.Clear.{IsClearRange, AreClearObjects, AreClearFrames}
use Rattle.lean_code.specs.Links.{is_clear}
use Rattle.lean_pass.specs.Views.{lent_by}

-- ---- bytes
pub range_none : (hidden : ℕ → Bool) (address k : ℕ) → k ≡ 0 → IsClearRange hidden address k
range_none hidden address k none offset l = absurd (omega arith)

less_but : (a k : ℕ) → a < k + 1 → nat_eq a k ≡ false → a < k
less_but a k l e = grind arith

pub range_more : (hidden : ℕ → Bool) (address k : ℕ) → is_clear hidden (general_at (address + k)) ≡ true → IsClearRange hidden address k → IsClearRange hidden address (k + 1)
range_more hidden address k here before offset l = by (nat_eq offset k) refl
  where
    by : (b : Bool) → nat_eq offset k ≡ b → is_clear hidden (general_at (address + offset)) ≡ true
    by true e = subst (λ (n : ℕ). is_clear hidden (general_at (address + n)) ≡ true) (sym (eqb-true offset k e)) here
    by false e = before offset (less_but offset k l e)

pub range_all : (hidden : ℕ → Bool) (address k size : ℕ) → size ≤ k → IsClearRange hidden address k → IsClearRange hidden address size
range_all hidden address k size past before offset l = before offset (omega arith)

-- ---- objects and frames
pub objects_end : (hidden : ℕ → Bool) (lines : List ObjLine) → length lines < 1 → AreClearObjects hidden (λ n. true) (map range_of lines)
objects_end hidden [] below n is offset l = absurd (omega arith)
objects_end hidden (line ∷ lines) below n is offset l = absurd (omega (arith, below))

pub objects_on : (hidden : ℕ → Bool) (lines : List ObjLine) (line other : ObjLine) → 1 ≤ length lines → line ≡ get_or lines 0 other → IsClearRange hidden line.address line.size → AreClearObjects hidden (λ n. true) (map range_of (take (length lines - 1) (drop 1 lines)))
    → AreClearObjects hidden (λ n. true) (map range_of lines)
objects_on hidden [] line other some is here rest n each = absurd (omega (arith, some))
objects_on hidden (x ∷ lines) line other some is here rest zero each = subst (λ (y : ObjLine). IsClearRange hidden y.address y.size) is here
objects_on hidden (x ∷ lines) line other some is here rest (suc n) each =
    let whole : take (length (x ∷ lines) - 1) lines ≡ lines = take_all (length (x ∷ lines) - 1) lines (omega arith) in
    subst (λ (left : List ObjLine). AreClearObjects hidden (λ k. true) (map range_of left)) whole rest n each

pub frames_none : (hidden : ℕ → Bool) (lent : ℕ → Bool) → AreClearFrames hidden lent []
frames_none hidden lent c is offset l = absurd (omega arith)

unlent : (c : ℕ) → get_or [] c false ≡ true → {A : Type 0} → A
unlent zero e = absurd (true≢false (sym e))
unlent (suc c) e = absurd (true≢false (sym e))

pub frames_kept : (hidden : ℕ → Bool) (frames : List FrameRange) → AreClearFrames hidden (lent_by []) frames
frames_kept hidden frames c is offset l = unlent c is

pub frames_more : (hidden : ℕ → Bool) (is_lent : Bool) (lent : List Bool) (f : FrameRange) (fs : List FrameRange) → (is_lent ≡ true → IsClearRange hidden f.address f.size) → AreClearFrames hidden (lent_by lent) fs → AreClearFrames hidden (lent_by (is_lent ∷ lent)) (f ∷ fs)
frames_more hidden is_lent lent f fs here rest zero = here
frames_more hidden is_lent lent f fs here rest (suc c) = rest c
