-- A map after one more entry, where of two with one number the first counts.
use Rattle.std.proofs.Common.{◌≡◌, ℕ, Bool, true, false, cond, nat_eq, Option, Some, None, refl, sym, ap, ◌∙◌}
use Rattle.std.specs.BTreeMap.{BTreeMap, Updates, get}
use Rattle.std.specs.Cmp.{unsigned_tied}
use Rattle.std.specs.Option.{option_or}
use Rattle.std.specs.Ordering.{nat_cmp}
use Rattle.std.proofs.lemmas.Bool.{eqb-true}
use Rattle.code_place.specs.Places.{at_if}

pub or_none : (o : Option ℕ) → option_or o None ≡ o
or_none None = refl
or_none (Some x) = refl

chosen : (holds : Bool) (at : ℕ) (old : Option ℕ) → (holds ≡ true → old ≡ None) → cond holds (Some at) old ≡ option_or old (at_if holds at)
chosen true at old none = sym (ap (λ o. option_or o (Some at)) (none refl))
chosen false at old none = sym (or_none old)

-- the number is new
pub put_new : (old new : BTreeMap ℕ ℕ) (number at : ℕ) → get nat_cmp old number ≡ None → Updates nat_cmp old new number (Some at) → (asked : ℕ) → get nat_cmp new asked ≡ option_or (get nat_cmp old asked) (at_if (nat_eq number asked) at)
put_new old new number at none put asked =
    put.0 asked ∙ (ap (λ b. cond b (Some at) (get nat_cmp old asked)) (unsigned_tied number asked) ∙ chosen (nat_eq number asked) at (get nat_cmp old asked) (λ e. ap (get nat_cmp old) (sym (eqb-true number asked e)) ∙ none))

kept : (holds : Bool) (at x : ℕ) (old : Option ℕ) → (holds ≡ true → old ≡ Some x) → old ≡ option_or old (at_if holds at)
kept true at x old some = some refl ∙ sym (ap (λ o. option_or o (Some at)) (some refl))
kept false at x old some = sym (or_none old)

-- it has a place already
pub put_again : (old : BTreeMap ℕ ℕ) (number at x : ℕ) → get nat_cmp old number ≡ Some x → (asked : ℕ) → get nat_cmp old asked ≡ option_or (get nat_cmp old asked) (at_if (nat_eq number asked) at)
put_again old number at x some asked = kept (nat_eq number asked) at x (get nat_cmp old asked) (λ e. ap (get nat_cmp old) (sym (eqb-true number asked e)) ∙ some)
