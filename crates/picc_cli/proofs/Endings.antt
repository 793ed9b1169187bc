-- Statuses, counts of faults and printed lines, whatever the command is.
use Rattle.std.proofs.Common.{◌≡◌, ℕ, ◌<◌, ◌≤◌, ◌⊎◌, inl, inr, ⊎_elim, Option, Some, None, List, [], ◌++◌, length, refl, sym, ap, ◌∙◌, subst, arith, option_map, append-nil}
use Rattle.std.proofs.lemmas.Bool.{cases_lt}
use Rattle.std.proofs.Math.Seq.{take-length}
use Rattle.host_io.specs.Host.{Kind, PrintsPrefix, IsCounted}
use Rattle.host_lines.specs.Said.{GivesUp, Says}

-- ---- statuses
pub number_apart : {P : Type 0} (m n result : ℕ) → m < n → result ≡ m → result ≡ n → P
number_apart m n result h a b = absurd (omega arith)

pub up_apart : {P : Type 0} (n result : ℕ) → n < 3 → result ≡ n → GivesUp result → P
up_apart n result h e (inl three) = absurd (omega arith)
up_apart n result h e (inr nine) = absurd (omega arith)

pub add_nothing : (o : Option (List ℕ)) → option_map (λ text. text ++ []) o ≡ o
add_nothing None = refl
add_nothing (Some text) = ap Some (append-nil text)

pub whole_line : (o : Option (List ℕ)) (line : List ℕ) → PrintsPrefix o (option_map (λ text. text ++ line) o) line
whole_line o line = (length line, omega arith, ap (λ l. option_map (λ text. text ++ l) o) (sym (take-length line)))

-- ---- faults
-- one that was counted late was counted
pub counted_later : (kind : Kind) (first before now : ℕ) → first ≤ before → IsCounted kind before now → IsCounted kind first now
counted_later kind first before now low (inl more) = inl (omega arith)
counted_later kind first before now low (inr (last, same)) =
    ⊎_elim
    (λ h. inl (omega arith))
    (λ h. let e : before ≡ first = omega arith in inr (subst (λ n. kind.last ≡ Some n) e last, same ∙ e))
    (cases_lt first before)

pub quiet_nine : (result : ℕ) → (result ≡ 3 → ⊥) → GivesUp result → result ≡ 9
quiet_nine result never (inl three) = absurd (never three)
quiet_nine result never (inr nine) = nine

pub quiet_ends : (n result : ℕ) → (result ≡ 3 → ⊥) → GivesUp result → (result ≡ n) ⊎ (result ≡ 9)
quiet_ends n result never (inl three) = absurd (never three)
quiet_ends n result never (inr nine) = inr nine

-- what is printed whole is printed, and so is a prefix
pub said_prefix : (kind : Kind) (before now : ℕ) (p q : Option (List ℕ)) (line : List ℕ) (status result : ℕ) → Says kind before now p q line status result → PrintsPrefix p q line
said_prefix kind before now p q line status result (inl s) = subst (λ r. PrintsPrefix p r line) (sym s.printed) (whole_line p line)
said_prefix kind before now p q line status result (inr u) = u.printed
