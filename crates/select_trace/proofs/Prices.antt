-- What some instructions cost together.
use Rattle.std.proofs.Common.{◌≡◌, ℕ, zero, suc, ◌+◌, ◌*◌, ◌≤◌, Bool, true, false, cond, if◌then◌else◌, List, [], ◌∷◌, ◌++◌, length, refl, ap, ◌∙◌, arith}
use Rattle.std.proofs.lemmas.List.Sums.{sum_by-cons}
use Rattle.core_code.specs.declared.code.Byte.{Byte}
use Rattle.math_helpers.specs.Shape.{breaks, is_straight}
use Rattle.sym_code.specs.Words.{is_common, most_of_operand, most_of_one, most_words}
use Rattle.sym_code.specs.declared.code.Operand.{Operand}
use Rattle.sym_code.specs.declared.code.Operand.TheVariants as operands
use Rattle.sym_code.specs.declared.code.Sym.{Sym}
use Rattle.sym_code.specs.declared.code.Sym.TheVariants as syms
use Rattle.select_code.specs.Pieces.{test_code, ors_code}
use Rattle.select_trace.proofs.Labels.{unlabelled, len_append}

-- an instruction in front of straight code
pub straight_more : (a b : Sym) (x : List Sym) → breaks a ≡ false → is_straight (b ∷ x) ≡ true → is_straight (a ∷ b ∷ x) ≡ true
straight_more (syms.Label l) b x e h = absurd (cc)
straight_more (syms.File a c d) b x e h = h
straight_more (syms.Movwf a) b x e h = h
straight_more (syms.Clrf a) b x e h = h
straight_more (syms.Bit a c d) b x e h = h
straight_more (syms.Literal a c) b x e h = h
straight_more (syms.Plain a) b x e h = h
straight_more (syms.Call a) b x e h = h
straight_more (syms.Goto a) b x e h = h
straight_more (syms.SelectBank a c) b x e h = h
straight_more (syms.SelectPage a c) b x e h = h
straight_more (syms.Table a c) b x e h = absurd (cc)

head_free : (a : Sym) (x : List Sym) → unlabelled (a ∷ x) ≡ true → (breaks a ≡ false) × (unlabelled x ≡ true)
head_free a x e = by (breaks a) e
  where
    by : (b : Bool) → cond b false (unlabelled x) ≡ true → (b ≡ false) × (unlabelled x ≡ true)
    by true e = absurd (cc)
    by false e = (refl, e)

pub straight_append : (x : List Sym) (b : Sym) (y : List Sym) → unlabelled x ≡ true → is_straight (b ∷ y) ≡ true → is_straight (x ++ b ∷ y) ≡ true
straight_append [] b y e h = h
straight_append (a ∷ []) b y e h = straight_more a b y (head_free a [] e).0 h
straight_append (a ∷ c ∷ x) b y e h =
    let f = head_free a (c ∷ x) e in
    straight_more a c (x ++ b ∷ y) f.0 (straight_append (c ∷ x) b y f.1 h)

-- ---- the words of some instructions with all selects that they may need
abbrev pub dear_words : List Sym → ℕ
dear_words [] = 0
dear_words (s ∷ rest) = most_of_one s + dear_words rest

pub most_is : (x : List Sym) → most_words x ≡ dear_words x
most_is [] = refl
most_is (s ∷ rest) = sum_by-cons most_of_one s rest ∙ ap (λ n. most_of_one s + n) (most_is rest)

operand_three : (file : Operand) → most_of_operand file ≤ 3
operand_three (operands.Byte byte) = by (is_common byte)
  where
    by : (t : Bool) → (if t then 1 else 3) ≤ 3
    by true = omega arith
    by false = omega arith
operand_three (operands.Register register) = omega arith
operand_three (operands.Saved saved) = omega arith

pub one_three : (x : Sym) → most_of_one x ≤ 3
one_three (syms.File a c d) = operand_three c
one_three (syms.Movwf a) = operand_three a
one_three (syms.Clrf a) = operand_three a
one_three (syms.Bit a c d) = operand_three c
one_three (syms.Literal a c) = omega arith
one_three (syms.Plain a) = omega arith
one_three (syms.Call a) = omega arith
one_three (syms.Goto a) = omega arith
one_three (syms.Label l) = omega arith
one_three (syms.SelectBank a c) = omega arith
one_three (syms.SelectPage a c) = omega arith
one_three (syms.Table a c) = omega arith

pub dear_three : (x : List Sym) → dear_words x ≤ 3 * length x
dear_three [] = omega arith
dear_three (a ∷ x) =
    let h = one_three a in
    let g = dear_three x in
    omega (arith, h, g)

ors_length : (test : Byte) (k : ℕ) → length (ors_code test k) ≡ k
ors_length test zero = refl
ors_length test (suc k) = let h = ors_length test k in len_append (ors_code test k) _ ∙ omega (arith, h)

-- at most four for each byte, and one where there is none
pub test_length : (test : Byte) (size : ℕ) → 3 * length (test_code test size) ≤ 3 * size + 3
test_length test zero = omega arith
test_length test (suc k) = let h = ors_length test k in omega (arith, h)
