-- Where labels are found: of the labels of a block each has a number that tells where it stands.
use Rattle.std.proofs.Common.{◌≡◌, ◌≢◌, ℕ, zero, suc, ◌+◌, ◌*◌, ◌<◌, ◌≤◌, Bool, true, false, if◌then◌else◌, cond, nat_eq, List, [], ◌∷◌, ◌++◌, length, Some, slice_get, refl, ap, ◌∙◌, subst, arith}
use Rattle.std.proofs.lemmas.Grind.{common_steps}
use Rattle.std.proofs.lemmas.List.{length-append}
use Rattle.sym_code.specs.Programs.{same_label, label_from}
use Rattle.sym_code.specs.declared.code.Label.TheVariants.{Inner, Halt, Restore}
use Rattle.sym_code.specs.declared.code.Sym.{Sym}
use Rattle.sym_code.specs.declared.code.Sym.TheVariants as syms
use Rattle.select_trace.proofs.Standing.{Has, has_join, has_less, none_get}
use Rattle.math_helpers.specs.Shape.{breaks}

-- of a label m that stands at n: low ≤ m, m ≤ 2 n + 1
abbrev pub InBounds : ℕ → ℕ → Sym → Type 0
InBounds low n (syms.Label (Inner m)) = (low ≤ m) × (m ≤ suc (2 * n))
InBounds low n _ = Unit {0}

abbrev pub Bounds : ℕ → ℕ → List Sym → Type 0
Bounds low n [] = Unit {0}
Bounds low n (x ∷ xs) = InBounds low n x × Bounds low (suc n) xs

in_lower : (low low' n : ℕ) (x : Sym) → low' ≤ low → InBounds low n x → InBounds low' n x
in_lower low low' n (syms.Label (Inner m)) le a = let q = a.0 in (omega arith, a.1)
in_lower low low' n (syms.Label Halt) le b = tt
in_lower low low' n (syms.Label Restore) le b = tt
in_lower low low' n (syms.File a c d) le b = tt
in_lower low low' n (syms.Movwf a) le b = tt
in_lower low low' n (syms.Clrf a) le b = tt
in_lower low low' n (syms.Bit a c d) le b = tt
in_lower low low' n (syms.Literal a c) le b = tt
in_lower low low' n (syms.Plain a) le b = tt
in_lower low low' n (syms.Call a) le b = tt
in_lower low low' n (syms.Goto a) le b = tt
in_lower low low' n (syms.SelectBank a c) le b = tt
in_lower low low' n (syms.SelectPage a c) le b = tt
in_lower low low' n (syms.Table a c) le b = tt

pub lower : (low low' n : ℕ) (x : List Sym) → low' ≤ low → Bounds low n x → Bounds low' n x
lower low low' n [] le b = tt
lower low low' n (a ∷ x) le b = (in_lower low low' n a le b.0, lower low low' (suc n) x le b.1)

pub bounds_append : (low n m : ℕ) (x y : List Sym) → m ≡ n + length x → Bounds low n x → Bounds low m y → Bounds low n (x ++ y)
bounds_append low n m [] y e b c = subst (λ k. Bounds low k y) (let q : m ≡ n = e ∙ omega arith in q) c
bounds_append low n m (a ∷ x) y e b c = (b.0, bounds_append low (suc n) m x y (e ∙ omega arith) b.1 c)

-- the second part has bounds of its own
pub bounds_then : (n : ℕ) (low : ℕ) (x y : List Sym) → low ≤ n → Bounds (2 * low) n x → Bounds (2 * (n + length x)) (n + length x) y → Bounds (2 * low) n (x ++ y)
bounds_then n low x y le b c = bounds_append (2 * low) n (n + length x) x y refl b (lower (2 * (n + length x)) (2 * low) (n + length x) y (omega arith) c)

-- ---- code without labels, in which no table is read
abbrev pub unlabelled : List Sym → Bool
unlabelled [] = true
unlabelled (x ∷ xs) = cond (breaks x) false (unlabelled xs)

in_free : (low n : ℕ) (x : Sym) → breaks x ≡ false → InBounds low n x
in_free low n (syms.Label l) f = absurd (cc)
in_free low n (syms.File a c d) b = tt
in_free low n (syms.Movwf a) b = tt
in_free low n (syms.Clrf a) b = tt
in_free low n (syms.Bit a c d) b = tt
in_free low n (syms.Literal a c) b = tt
in_free low n (syms.Plain a) b = tt
in_free low n (syms.Call a) b = tt
in_free low n (syms.Goto a) b = tt
in_free low n (syms.SelectBank a c) b = tt
in_free low n (syms.SelectPage a c) b = tt
in_free low n (syms.Table a c) b = tt

free_head : (b c : Bool) → cond b false c ≡ true → (b ≡ false) × (c ≡ true)
free_head true c e = absurd (cc)
free_head false c e = (refl, e)

pub free_bounds : (low n : ℕ) (x : List Sym) → unlabelled x ≡ true → Bounds low n x
free_bounds low n [] e = tt
free_bounds low n (a ∷ x) e = let h = free_head (breaks a) (unlabelled x) e in (in_free low n a h.0, free_bounds low (suc n) x h.1)

free_join : (b c d : Bool) → cond b false c ≡ true → (c ≡ true → d ≡ true) → cond b false d ≡ true
free_join true c d e f = absurd (cc)
free_join false c d e f = f e

pub free_append : (x y : List Sym) → unlabelled x ≡ true → unlabelled y ≡ true → unlabelled (x ++ y) ≡ true
free_append [] y e f = f
free_append (a ∷ x) y e f = free_join (breaks a) (unlabelled x) (unlabelled (x ++ y)) e (λ h. free_append x y h f)

pub free_cond : (b : Bool) (x y : List Sym) → unlabelled x ≡ true → unlabelled y ≡ true → unlabelled (cond b x y) ≡ true
free_cond true x y e f = e
free_cond false x y e f = f

-- ---- labels that are not there
abbrev pub is_named : ℕ → Sym → Bool
is_named m (syms.Label l) = same_label l (Inner m)
is_named m _ = false

abbrev pub Absent : ℕ → List Sym → Type 0
Absent m [] = Unit {0}
Absent m (x ∷ xs) = (is_named m x ≡ false) × Absent m xs

pub absent_append : (m : ℕ) (x y : List Sym) → Absent m x → Absent m y → Absent m (x ++ y)
absent_append m [] y a b = b
absent_append m (z ∷ x) y a b = (a.0, absent_append m x y a.1 b)

free_named : (m : ℕ) (x : Sym) → breaks x ≡ false → is_named m x ≡ false
free_named m (syms.Label l) f = absurd (cc)
free_named m (syms.File a c d) b = refl
free_named m (syms.Movwf a) b = refl
free_named m (syms.Clrf a) b = refl
free_named m (syms.Bit a c d) b = refl
free_named m (syms.Literal a c) b = refl
free_named m (syms.Plain a) b = refl
free_named m (syms.Call a) b = refl
free_named m (syms.Goto a) b = refl
free_named m (syms.SelectBank a c) b = refl
free_named m (syms.SelectPage a c) b = refl
free_named m (syms.Table a c) b = refl

pub free_absent : (m : ℕ) (x : List Sym) → unlabelled x ≡ true → Absent m x
free_absent m [] e = tt
free_absent m (a ∷ x) e = let h = free_head (breaks a) (unlabelled x) e in (free_named m a h.0, free_absent m x h.1)

pub differs : (k m : ℕ) → k ≢ m → nat_eq k m ≡ false
differs k m e = grind (arith, common_steps)

under_in : (low n m : ℕ) (x : Sym) → m < low → InBounds low n x → is_named m x ≡ false
under_in low n m (syms.Label (Inner k)) lt b = let q = b.0 in differs k m (λ e. omega arith)
under_in low n m (syms.Label Halt) lt b = refl
under_in low n m (syms.Label Restore) lt b = refl
under_in low n m (syms.File a c d) lt b = refl
under_in low n m (syms.Movwf a) lt b = refl
under_in low n m (syms.Clrf a) lt b = refl
under_in low n m (syms.Bit a c d) lt b = refl
under_in low n m (syms.Literal a c) lt b = refl
under_in low n m (syms.Plain a) lt b = refl
under_in low n m (syms.Call a) lt b = refl
under_in low n m (syms.Goto a) lt b = refl
under_in low n m (syms.SelectBank a c) lt b = refl
under_in low n m (syms.SelectPage a c) lt b = refl
under_in low n m (syms.Table a c) lt b = refl

-- labels behind have greater numbers
pub absent_under : (low n m : ℕ) (x : List Sym) → m < low → Bounds low n x → Absent m x
absent_under low n m [] lt b = tt
absent_under low n m (a ∷ x) lt b = (under_in low n m a lt b.0, absent_under low (suc n) m x lt b.1)

over_in : (low n m : ℕ) (x : Sym) → suc (2 * n) < m → InBounds low n x → is_named m x ≡ false
over_in low n m (syms.Label (Inner k)) lt b = let q = b.1 in differs k m (λ e. omega arith)
over_in low n m (syms.Label Halt) lt b = refl
over_in low n m (syms.Label Restore) lt b = refl
over_in low n m (syms.File a c d) lt b = refl
over_in low n m (syms.Movwf a) lt b = refl
over_in low n m (syms.Clrf a) lt b = refl
over_in low n m (syms.Bit a c d) lt b = refl
over_in low n m (syms.Literal a c) lt b = refl
over_in low n m (syms.Plain a) lt b = refl
over_in low n m (syms.Call a) lt b = refl
over_in low n m (syms.Goto a) lt b = refl
over_in low n m (syms.SelectBank a c) lt b = refl
over_in low n m (syms.SelectPage a c) lt b = refl
over_in low n m (syms.Table a c) lt b = refl

-- ---- labels that are found
pub is_same : (m : ℕ) → nat_eq m m ≡ true
is_same m = grind (arith, common_steps)

from_next : (x : Sym) (b : List Sym) (m j : ℕ) → label_from (x ∷ b) (Inner m) j ≡ (if is_named m x then Some j else label_from b (Inner m) (j + 1))
from_next (syms.Label l) b m j = refl
from_next (syms.File a c d) b m j = refl
from_next (syms.Movwf a) b m j = refl
from_next (syms.Clrf a) b m j = refl
from_next (syms.Bit a c d) b m j = refl
from_next (syms.Literal a c) b m j = refl
from_next (syms.Plain a) b m j = refl
from_next (syms.Call a) b m j = refl
from_next (syms.Goto a) b m j = refl
from_next (syms.SelectBank a c) b m j = refl
from_next (syms.SelectPage a c) b m j = refl
from_next (syms.Table a c) b m j = refl

from_other : (x : Sym) (b : List Sym) (m j : ℕ) → is_named m x ≡ false → label_from (x ∷ b) (Inner m) j ≡ label_from b (Inner m) (suc j)
from_other x b m j e = from_next x b m j ∙ ap (λ t. if t then Some j else label_from b (Inner m) (j + 1)) e ∙ ap (label_from b (Inner m)) (omega arith)

some_sym : (a x : Sym) → Some a ≡ Some x → a ≡ x
some_sym a x e = cc

here : (b : List Sym) (x : List Sym) (m j : ℕ) → Absent m x → Has b 0 (x ++ syms.Label (Inner m) ∷ []) → label_from b (Inner m) j ≡ Some (j + length x)
here [] [] m j a h = absurd (none_get 0 _ h.0)
here [] (y ∷ x) m j a h = absurd (none_get 0 _ h.0)
here (c ∷ b) [] m j a h =
    let e : c ≡ syms.Label (Inner m) = some_sym c _ h.0 in
    ap (λ y. label_from (y ∷ b) (Inner m) j) e ∙ ap (λ t. if t then Some j else label_from b (Inner m) (j + 1)) (is_same m) ∙ ap Some (omega arith)
here (c ∷ b) (y ∷ x) m j a h =
    let e : c ≡ y = some_sym c y h.0 in
    from_other c b m j (ap (is_named m) e ∙ a.0) ∙ here b x m (suc j) a.1 (has_less c b 0 (x ++ syms.Label (Inner m) ∷ []) h.1) ∙ ap Some (omega arith)

-- a label is found where it stands, if it is at 2 n or more, and the code from n up to it has none of it
found : (b : List Sym) (low j n : ℕ) (x : List Sym) (m : ℕ) → Bounds low j b → 2 * (j + n) ≤ m → Absent m x → Has b n (x ++ syms.Label (Inner m) ∷ []) → label_from b (Inner m) j ≡ Some (j + n + length x)
found b low j zero x m bs le a h = here b x m j a h ∙ ap Some (omega arith)
found [] low j (suc n) [] m bs le a h = absurd (none_get (suc n) _ h.0)
found [] low j (suc n) (y ∷ x) m bs le a h = absurd (none_get (suc n) y h.0)
found (c ∷ b) low j (suc n) x m bs le a h =
    from_other c b m j (over_in low j m c (omega arith) bs.0)
    ∙ found b low (suc j) n x m bs.1 (omega arith) a (has_less c b n (x ++ syms.Label (Inner m) ∷ []) h)
    ∙ ap Some (omega arith)

-- where the code that begins at n has the label of a number from 2 n on first
pub found_at : (b : List Sym) (n : ℕ) (x : List Sym) (m : ℕ) → Bounds 0 0 b → 2 * n ≤ m → Absent m x → Has b n x → slice_get b (n + length x) ≡ Some (syms.Label (Inner m)) → label_from b (Inner m) 0 ≡ Some (n + length x)
found_at b n x m bs le a h e = found b 0 0 n x m bs (omega arith) a (has_join b n x (syms.Label (Inner m) ∷ []) h (e, tt)) ∙ ap Some (omega arith)

pub len_append : (x y : List Sym) → length (x ++ y) ≡ length x + length y
len_append x y = length-append x y
