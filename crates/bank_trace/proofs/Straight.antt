-- Instructions that stand one behind the other: no label among them, and the last is no skip.
use Rattle.std.proofs.Common.{◌≡◌, Bool, true, false, not, ◌&&◌, if◌then◌else◌, List, [], ◌∷◌, refl, sym, ap, ◌∙◌}
use Rattle.sym_code.specs.Cost.{time_of}
use Rattle.sym_code.specs.Selects.{is_select, bare}
use Rattle.sym_code.specs.declared.code.BitOperation.TheVariants.{Btfsc, Btfss}
use Rattle.sym_code.specs.declared.code.FileOperation.TheVariants.{Decfsz, Incfsz}
use Rattle.sym_code.specs.declared.code.Sym.{Sym}
use Rattle.sym_code.specs.declared.code.Sym.TheVariants as syms
use Rattle.math_helpers.specs.Shape as shape
use Rattle.math_helpers.specs.Shape.{is_straight}
use Rattle.bank_page.specs.Kinds.{is_label, is_skip}
use Rattle.bank_trace.proofs.Puts.{never}

-- ---- no selects
abbrev pub has_none : List Sym → Bool
has_none [] = true
has_none (s ∷ list) = not (is_select s) && has_none list

pub none_first : (s : Sym) (list : List Sym) → has_none (s ∷ list) ≡ true → is_select s ≡ false
none_first s list e = by_first (is_select s) (has_none list) e
  where
    by_first : (a b : Bool) → (not a && b) ≡ true → a ≡ false
    by_first true b e = never e
    by_first false b e = refl

pub none_later : (s : Sym) (list : List Sym) → has_none (s ∷ list) ≡ true → has_none list ≡ true
none_later s list e = by_first (is_select s) (has_none list) e
  where
    by_first : (a b : Bool) → (not a && b) ≡ true → b ≡ true
    by_first true b e = never e
    by_first false b e = e

pub bare_none : (list : List Sym) → has_none (bare list) ≡ true
bare_none [] = refl
bare_none (s ∷ list) = by_select (is_select s) refl (bare_none list)
  where
    by_select : (b : Bool) → is_select s ≡ b → has_none (bare list) ≡ true → has_none (if not b then s ∷ bare list else bare list) ≡ true
    by_select true e before = before
    by_select false e before = ap (λ (c : Bool). not c && has_none (bare list)) e ∙ before

-- ---- straight
pub same_skip : (s : Sym) → shape.is_skip s ≡ is_skip s
same_skip (syms.File Decfsz file into) = refl
same_skip (syms.File Incfsz file into) = refl
same_skip (syms.File op file into) = refl
same_skip (syms.Bit Btfsc file bit) = refl
same_skip (syms.Bit Btfss file bit) = refl
same_skip (syms.Bit op file bit) = refl
same_skip s = refl

pub straight_once : (s : Sym) (rest : List Sym) → is_straight (s ∷ rest) ≡ true → time_of s ≡ 1
straight_once (syms.Label label) rest e = never e
straight_once (syms.Table table root) rest e = never e
straight_once s rest e = refl

pub straight_first : (s : Sym) (rest : List Sym) → is_straight (s ∷ rest) ≡ true → is_label s ≡ false
straight_first (syms.Label label) rest e = never e
straight_first s rest e = refl

last_by : (s : Sym) → is_straight (s ∷ []) ≡ true → not (shape.is_skip s) ≡ true
last_by (syms.Label label) e = never e
last_by (syms.Table table root) e = never e
last_by s e = e

-- a skip isn't the last
pub straight_last : (s : Sym) → is_straight (s ∷ []) ≡ true → is_skip s ≡ false
straight_last s e = by_skip (is_skip s) (ap not (sym (same_skip s)) ∙ last_by s e)
  where
    by_skip : (b : Bool) → not b ≡ true → b ≡ false
    by_skip true e = never e
    by_skip false e = refl

pub straight_later : (s : Sym) (rest : List Sym) → is_straight (s ∷ rest) ≡ true → is_straight rest ≡ true
straight_later s [] e = refl
straight_later (syms.Label label) (next ∷ rest) e = never e
straight_later (syms.Table table root) (next ∷ rest) e = never e
straight_later s (next ∷ rest) e = e
