-- Lists of instructions whose targets are there, and lists whose labels are found.
use Rattle.std.proofs.Common.{◌≡◌, ℕ, Bool, true, false, ◌&&◌, ◌||◌, nat_lt, List, [], ◌∷◌, ◌++◌, Option, IsSome, refl, ap}
use Rattle.std.proofs.lemmas.Bool.{eq-eqb}
use Rattle.sym_code.specs.Programs.{same_label}
use Rattle.sym_code.specs.declared.code.BlockName.TheVariants as names
use Rattle.sym_code.specs.declared.code.Label.{Label}
use Rattle.sym_code.specs.declared.code.Label.TheVariants as labels
use Rattle.sym_code.specs.declared.code.Sym.{Sym}
use Rattle.sym_code.specs.declared.code.Sym.TheVariants as syms
use Rattle.sym_code.specs.declared.code.Target.{Target}
use Rattle.sym_code.specs.declared.code.Target.TheVariants as targets
use Rattle.code_place.specs.Places.{label_of, is_label}
use Rattle.program_code.specs.Calling.{names_below, all_names_below}
use Rattle.program_code.specs.Targets.{HasTarget, HaveTargets}

-- ---- tests
pub and_both : (a b : Bool) → (a && b) ≡ true → (a ≡ true) × (b ≡ true)
and_both true b e = (refl, e)
and_both false b e = absurd (cc)

pub false_true : false ≡ true → ⊥
false_true e = absurd (cc)

pub or_second : (a b : Bool) → b ≡ true → (a || b) ≡ true
or_second true b e = refl
or_second false b e = e

-- ---- labels that stand in a list
abbrev pub has_label : Label → List Sym → Bool
has_label label [] = false
has_label label (s ∷ list) = is_label label (label_of s) || has_label label list

pub has_left : (label : Label) (xs ys : List Sym) → has_label label xs ≡ true → has_label label (xs ++ ys) ≡ true
has_left label [] ys h = absurd (cc)
has_left label (x ∷ xs) ys h = by (is_label label (label_of x)) h (has_left label xs ys) where
  by : (b : Bool) → (b || has_label label xs) ≡ true → (has_label label xs ≡ true → has_label label (xs ++ ys) ≡ true) → (b || has_label label (xs ++ ys)) ≡ true
  by true h below = refl
  by false h below = below h

pub has_right : (label : Label) (xs ys : List Sym) → has_label label ys ≡ true → has_label label (xs ++ ys) ≡ true
has_right label [] ys h = h
has_right label (x ∷ xs) ys h = or_second (is_label label (label_of x)) (has_label label (xs ++ ys)) (has_right label xs ys h)

pub label_itself : (label : Label) → same_label label label ≡ true
label_itself (labels.Inner n) = eq-eqb n n refl
label_itself labels.Halt = refl
label_itself labels.Restore = refl

-- ---- labels that are found
abbrev pub LabelFound : (Target → Option ℕ) → Sym → Type 0
LabelFound target (syms.Label label) = IsSome (target (targets.Label label))
LabelFound target _ = Unit {0}

abbrev pub LabelsFound : (Target → Option ℕ) → List Sym → Type 0
LabelsFound target [] = Unit {0}
LabelsFound target (s ∷ list) = LabelFound target s × LabelsFound target list

module _ (target : Target → Option ℕ) where
  pub left_found : (xs ys : List Sym) → LabelsFound target (xs ++ ys) → LabelsFound target xs
  left_found [] ys h = tt
  left_found (x ∷ xs) ys h = (h.0, left_found xs ys h.1)

  pub right_found : (xs ys : List Sym) → LabelsFound target (xs ++ ys) → LabelsFound target ys
  right_found [] ys h = h
  right_found (x ∷ xs) ys h = right_found xs ys h.1

  pub both_targets : (xs ys : List Sym) → HaveTargets target xs → HaveTargets target ys → HaveTargets target (xs ++ ys)
  both_targets [] ys h k = k
  both_targets (x ∷ xs) ys h k = (h.0, both_targets xs ys h.1 k)

  found_one : (s : Sym) → ((label : Label) → is_label label (label_of s) ≡ true → IsSome (target (targets.Label label))) → LabelFound target s
  found_one (syms.Label label) h = h label (label_itself label)
  found_one (syms.SelectBank bit on) h = tt
  found_one (syms.SelectPage bit to) h = tt
  found_one (syms.Table table root) h = tt
  found_one (syms.File op file into) h = tt
  found_one (syms.Movwf file) h = tt
  found_one (syms.Clrf file) h = tt
  found_one (syms.Bit op file bit) h = tt
  found_one (syms.Literal op value) h = tt
  found_one (syms.Plain op) h = tt
  found_one (syms.Call to) h = tt
  found_one (syms.Goto to) h = tt

  -- where each label that stands in a list is found, the labels of the list are
  pub all_found : (list : List Sym) → ((label : Label) → has_label label list ≡ true → IsSome (target (targets.Label label))) → LabelsFound target list
  all_found [] h = tt
  all_found (s ∷ list) h =
      (found_one s (λ label is. h label (ap (λ b. b || has_label label list) is)), all_found list (λ label is. h label (or_second (is_label label (label_of s)) (has_label label list) is)))

  -- ---- code that names nothing but blocks of copies
  module _ (limit : ℕ) (there : (copy : ℕ) → nat_lt copy limit ≡ true → IsSome (target (targets.Block (names.Copy copy)))) where
    named_one : (s : Sym) → names_below limit s ≡ true → HasTarget target s
    named_one (syms.Call (targets.Block (names.Copy copy))) h = there copy h
    named_one (syms.Call (targets.Block names.Start)) h = absurd (cc)
    named_one (syms.Call (targets.Label label)) h = absurd (cc)
    named_one (syms.Goto to) h = absurd (cc)
    named_one (syms.SelectPage bit to) h = absurd (cc)
    named_one (syms.Table table root) h = absurd (cc)
    named_one (syms.Label label) h = tt
    named_one (syms.SelectBank bit on) h = tt
    named_one (syms.File op file into) h = tt
    named_one (syms.Movwf file) h = tt
    named_one (syms.Clrf file) h = tt
    named_one (syms.Bit op file bit) h = tt
    named_one (syms.Literal op value) h = tt
    named_one (syms.Plain op) h = tt

    pub named_below : (list : List Sym) → all_names_below limit list ≡ true → HaveTargets target list
    named_below [] h = tt
    named_below (s ∷ list) h = let g = and_both (names_below limit s) (all_names_below limit list) h in (named_one s g.0, named_below list g.1)
