-- Costs of a micro-step by the test whether it counts, against prices by the same test.
use Rattle.std.proofs.Common.{◌≡◌, ℕ, zero, suc, ◌+◌, ◌-◌, ◌*◌, ◌<◌, ◌≤◌, nat_eq, nat_lt, Bool, true, false, if◌then◌else◌, List, [], ◌∷◌, refl, sym, subst, arith}
use Rattle.std.proofs.lemmas.Grind.{common_steps}
use Rattle.c_typed.specs.Trees as tree
use Rattle.c_typed.specs.Trees.{Place}
use Rattle.c_typed.specs.Types.{form_of, type_bytes}
use Rattle.c_typed.specs.Words.{computed_words}
use Rattle.c_typed.specs.declared.statement.TCase.{TCase}
use Rattle.c_typed.specs.declared.types.Ty.{Ty}
use Rattle.src_rules.specs.Runs.{one_if}
use Rattle.src_rules.specs.Standing.{stepped}
use Rattle.src_values.specs.Control.{Got, Pending, In}
use Rattle.src_values.specs.Counting.{counted_if}
use Rattle.src_values.specs.Data.{Datum}
use Rattle.src_values.specs.Values.{byte_count, written_bytes}
use Rattle.src_values.specs.declared.objects.Pointer.TheVariants.{Null, Into}
use Rattle.src_values.specs.declared.objects.Spot.{Spot}
use Rattle.src_values.specs.declared.objects.Spot.TheVariants as spots
use Rattle.lower_trace.proofs.Costs.{either, skimmed_cost}
use Rattle.lower_trace.proofs.ListBytes as blank
use Rattle.lower_trace.proofs.Prices.{fetch_room, counted_room, compared_most, skim_end, skim_most, some_line, step_room}
use Rattle.lower_trace.proofs.SwitchCases.{compare_most}

-- ---- one byte more, or all are done
pub either_room : (b : Bool) (more done rest : ℕ) → more ≤ step_room → done ≤ rest → either b more done ≤ (if b then step_room else rest)
either_room true more done rest a b = a
either_room false more done rest a b = b

-- of the read of a value's byte
pub either_fetch : (b : Bool) (more done rest : ℕ) → more ≤ fetch_room → done ≤ rest → either b more done ≤ (if b then fetch_room else rest)
either_fetch true more done rest a b = a
either_fetch false more done rest a b = b

pub same_fetch : (b : Bool) (q rest : ℕ) → q ≤ fetch_room → q ≤ rest → q ≤ (if b then fetch_room else rest)
same_fetch true q rest a b = a
same_fetch false q rest a b = b

pub same_room : (b : Bool) (q rest : ℕ) → q ≤ step_room → q ≤ rest → q ≤ (if b then step_room else rest)
same_room true q rest a b = a
same_room false q rest a b = b

pub one_or_none : (b : Bool) → (if b then 1 else 0) ≤ one_if b
one_or_none true = omega arith
one_or_none false = omega arith

pub one_most : (b : Bool) → (if b then 1 else 0) ≤ 1
one_most true = omega arith
one_most false = omega arith

-- ---- bytes that are written
-- Behind the start of a place that is no bit all bytes of the value are written.
abbrev pub IsNoBit : Spot → Type 0
IsNoBit (spots.Bit register bit) = ⊥
IsNoBit _ = Unit {0}

pub all_written : (start : Spot) (at : ℕ) (v : Datum) → IsNoBit start → written_bytes (stepped at start) v ≡ byte_count v
all_written (spots.Device address) at v plain = refl
all_written (spots.Bit register bit) at v plain = absurd plain
all_written (spots.Memory Null) at v plain = refl
all_written (spots.Memory (Into object offset)) at v plain = refl

pub write_room : (spot : Spot) (v : Datum) (at more done rest : ℕ) → written_bytes spot v ≡ byte_count v → more ≤ step_room → done ≤ rest → either (nat_lt at (byte_count v)) more done ≤ (if nat_lt at (written_bytes spot v) then step_room else rest)
write_room spot v at more done rest same a b =
    subst (λ n. either (nat_lt at (byte_count v)) more done ≤ (if nat_lt at n then step_room else rest)) (sym same) (either_room (nat_lt at (byte_count v)) more done rest a b)

pub write_one : (spot : Spot) (v : Datum) (at : ℕ) → written_bytes spot v ≡ byte_count v → (if nat_lt at (written_bytes spot v) then 1 else 0) ≤ one_if (nat_lt at (byte_count v))
write_one spot v at same = subst (λ n. (if nat_lt at n then 1 else 0) ≤ one_if (nat_lt at (byte_count v))) (sym same) (one_or_none (nat_lt at (byte_count v)))

less_true : (a b : ℕ) → a < b → nat_lt a b ≡ true
less_true a b h = grind (arith, common_steps)

less_false : (a b : ℕ) → b ≤ a → nat_lt a b ≡ false
less_false a b h = grind (arith, common_steps)

true_less : (a b : ℕ) → nat_lt a b ≡ true → a < b
true_less a b h = grind (arith, common_steps)

false_less : (a b : ℕ) → nat_lt a b ≡ false → b ≤ a
false_less a b h = grind (arith, common_steps)

pub more_room : (spot : Spot) (v : Datum) (at q rest : ℕ) → written_bytes spot v ≡ byte_count v → at < byte_count v → q ≤ step_room → q ≤ (if nat_lt at (written_bytes spot v) then step_room else rest)
more_room spot v at q rest same more a =
    subst (λ n. q ≤ (if nat_lt at n then step_room else rest)) (sym same) (subst (λ b. q ≤ (if b then step_room else rest)) (sym (less_true at (byte_count v) more)) a)

pub done_one : (spot : Spot) (v : Datum) (at n : ℕ) → written_bytes spot v ≡ byte_count v → byte_count v ≤ at → (if nat_lt at (written_bytes spot v) then 1 else 0) ≤ n
done_one spot v at n same done =
    subst (λ m. (if nat_lt at m then 1 else 0) ≤ n) (sym same) (subst (λ b. (if b then 1 else 0) ≤ n) (sym (less_false at (byte_count v) done)) (omega arith))

-- ---- bytes without an item
few_left : (n : ℕ) → 4 * blank.some_left n ≤ step_room
few_left zero = omega arith
few_left (suc n) = omega arith

none_left : (n : ℕ) → n ≡ 0 → 4 * blank.some_left n ≤ 0
none_left zero e = omega arith
none_left (suc n) e = absurd (omega arith)

one_left : (n : ℕ) → 0 < n → 1 ≤ blank.some_left n
one_left zero h = absurd (omega arith)
one_left (suc n) h = omega arith

blank_room_by : (b : Bool) (covered left line : ℕ) → nat_lt covered left ≡ b → 4 * blank.some_left (left - covered) ≤ counted_room (counted_if b line)
blank_room_by true covered left line e = few_left (left - covered)
blank_room_by false covered left line e = let le = false_less covered left e in none_left (left - covered) (omega arith)

pub blank_room : (covered left line : ℕ) → 4 * blank.some_left (left - covered) ≤ counted_room (counted_if (nat_lt covered left) line)
blank_room covered left line = blank_room_by (nat_lt covered left) covered left line refl

blank_one_by : (b : Bool) (covered left line : ℕ) → nat_lt covered left ≡ b → some_line (counted_if b line) ≤ blank.some_left (left - covered)
blank_one_by true covered left line e = let lt = true_less covered left e in one_left (left - covered) (omega arith)
blank_one_by false covered left line e = omega arith

pub blank_one : (covered left line : ℕ) → some_line (counted_if (nat_lt covered left) line) ≤ blank.some_left (left - covered)
blank_one covered left line = blank_one_by (nat_lt covered left) covered left line refl

-- ---- labels that are compared
pub compare_room : (bytes : ℕ) (labels : List TCase) → bytes ≤ 96 → compare_most bytes labels ≤ compared_most labels
compare_room bytes [] few = omega arith
compare_room bytes (label ∷ labels) few = omega arith

-- ---- structures that are read for nothing
not_none : (n : ℕ) → 0 < n → nat_eq n 0 ≡ false
not_none n h = grind (arith, common_steps)

end_room : (sizes : List ℕ) (place : Place) (bytes q : ℕ) → 0 < bytes → q ≤ 20 + 6 * bytes → q ≤ skim_end sizes place bytes
end_room sizes place bytes q some low = subst (λ b. q ≤ (if b then computed_words (form_of place) else 20 + 6 * bytes)) (sym (not_none bytes some)) low

pub skim_room : (sizes : List ℕ) (place : Place) (ty : Ty) (line : ℕ) (got : Got) (k : List Pending) (left q : ℕ) → 0 < type_bytes sizes ty → q ≤ 20 + 6 * type_bytes sizes ty → q ≤ step_room → q ≤ skim_most sizes left (In (tree.Read place ty line) got ∷ k)
skim_room sizes place ty line got k zero q some low all = end_room sizes place (type_bytes sizes ty) q some low
skim_room sizes place ty line got k (suc left) q some low all = all

pub pointed_room : (sizes : List ℕ) (place : Place) (ty : Ty) (line : ℕ) (got : Got) (k : List Pending) (left : ℕ) → 0 < type_bytes sizes ty → skimmed_cost (type_bytes sizes ty) left ≤ skim_most sizes left (In (tree.Read place ty line) got ∷ k)
pointed_room sizes place ty line got k zero some = end_room sizes place (type_bytes sizes ty) (20 + 6 * type_bytes sizes ty) some (omega arith)
pointed_room sizes place ty line got k (suc left) some = omega arith
