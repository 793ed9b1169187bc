-- Each instruction that counts is one at least: it stays, or nothing comes to it.
use Rattle.std.proofs.Common.{◌≡◌, ℕ, zero, suc, ◌≤◌, Bool, true, false, not, ◌&&◌, if◌then◌else◌, List, [], ◌∷◌, slice_get, Option, Some, None, refl, sym, ap, ◌∙◌, subst, true≢false, arith}
use Rattle.std.proofs.lemmas.Option.{none-some}
use Rattle.sym_code.specs.Marks.{is_marked}
use Rattle.sym_code.specs.declared.code.Sym.{Sym}
use Rattle.lean_code.specs.Admissible.{loses_mark, keeps_marks}
use Rattle.lean_code.specs.Links.{counts}
use Rattle.lean_code.specs.Rows.{Row, old_of, is_reached, is_dropped, olds}

pub never : {A : Type 0} → false ≡ true → A
never e = absurd (true≢false (sym e))

and_l : (a b : Bool) → (a && b) ≡ true → a ≡ true
and_l true b e = refl
and_l false b e = e

and_r : (a b : Bool) → (a && b) ≡ true → b ≡ true
and_r true b e = e
and_r false b e = never e

same_sym : (a b : Sym) → Some a ≡ Some b → a ≡ b
same_sym a b e = cc

-- ---- what surely stays
-- Where nothing comes an instruction costs nothing, so it may be one at least.
abbrev pub surely : Option Row → ℕ
surely None = 1
surely (Some row) = if is_reached row then counts (Some row) else 1

surely_if : (reached : Bool) (n : ℕ) → reached ≡ true → (if reached then n else 1) ≤ n
surely_if true n e = omega arith
surely_if false n e = never e

pub surely_is : (rows : List Row) (j : ℕ) (row : Row) → slice_get rows j ≡ Some row → is_reached row ≡ true → surely (slice_get rows j) ≤ counts (Some row)
surely_is rows j row there reached = subst (λ (o : Option Row). surely o ≤ counts (Some row)) (sym there) (surely_if (is_reached row) (counts (Some row)) reached)

-- ---- what counts
stays : (reached dropped marked : Bool) → marked ≡ true → not (reached && (dropped && marked)) ≡ true → 1 ≤ (if reached then (if dropped then 0 else 1) else 1)
stays true true true is e = never e
stays true true false is e = never is
stays true false marked is e = omega arith
stays false dropped marked is e = omega arith

pub marked_counts : (variables : ℕ → ℕ) (rows : List Row) (j : ℕ) (s : Sym) → keeps_marks variables rows ≡ true → slice_get (olds rows) j ≡ Some s → is_marked variables s ≡ true → 1 ≤ surely (slice_get rows j)
marked_counts variables [] j s e got marked = absurd (none-some s got)
marked_counts variables (row ∷ rows) zero s e got marked =
    stays (is_reached row) (is_dropped row) (is_marked variables (old_of row)) (ap (is_marked variables) (same_sym (old_of row) s got) ∙ marked) (and_l (not (loses_mark variables row)) (keeps_marks variables rows) e)
marked_counts variables (row ∷ rows) (suc j) s e got marked = marked_counts variables rows j s (and_r (not (loses_mark variables row)) (keeps_marks variables rows) e) got marked
