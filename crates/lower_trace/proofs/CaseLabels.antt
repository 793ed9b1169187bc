-- What is known of each label of a switch: it leads into the body, and it is a number of the switch's type.
use Rattle.std.proofs.Common.{◌≡◌, ℕ, ◌≤◌, Bool, true, false, ◌||◌, nat_eq, nat_le, not, List, [], ◌∷◌, ◌++◌, map, Option, Some, None, refl, sym, ap, ◌∙◌, subst}
use Rattle.std.specs.Prelude.{option_to_list}
use Rattle.c_ints.specs.Range.{IsInRange}
use Rattle.c_ints.specs.declared.types.IntTy.{IntTy}
use Rattle.c_typed.specs.Sameness.{same_type}
use Rattle.c_typed.specs.Sound.{cases_fit, default_fits, is_label, count_of}
use Rattle.c_typed.specs.Trees.{Expression, Statements}
use Rattle.c_typed.specs.declared.statement.TCase.{TCase}
use Rattle.c_typed.specs.declared.types.Ty.TheVariants as types
use Rattle.lower_stmt.specs.Labels.{has, target_of}
use Rattle.src_rules.proofs.Values.{same_int_is}
use Rattle.lower_trace.proofs.CodeLeft.{Switched, labels_in}
use Rattle.lower_trace.proofs.Operations.{true_le}
use Rattle.lower_trace.proofs.Written.{and_left, and_right, nat_same}

pub record IsLabel (ty : IntTy) (x : Switched) (label : TCase) : Type 0 where
  pub few : label.target ≤ count_of x.body
  pub same : label.value.ty ≡ ty
  pub range : IsInRange label.value.ty label.value.number
  pub there : has (labels_in x) label.target ≡ true

-- The labels are numbers of their types.
abbrev pub AreInRange : List TCase → Type 0
AreInRange [] = Unit {0}
AreInRange (label ∷ labels) = IsInRange label.value.ty label.value.number × AreInRange labels

-- Any recursion over the labels that says so serves.
pub ranges_of : (P : List TCase → Type 0) (labels : List TCase) → ((c : TCase) (cs : List TCase) → P (c ∷ cs) → IsInRange c.value.ty c.value.number × P cs) → P labels → AreInRange labels
ranges_of P [] f h = tt
ranges_of P (c ∷ cs) f h = let r = f c cs h in (r.0, ranges_of P cs f r.1)

abbrev pub AreLabels : IntTy → Switched → List TCase → Type 0
AreLabels ty x [] = Unit {0}
AreLabels ty x (label ∷ labels) = IsLabel ty x label × AreLabels ty x labels

-- `default` stands in the body, if there is one
abbrev pub HasDefault : Switched → Option ℕ → Type 0
HasDefault x None = Unit {0}
HasDefault x (Some target) = (target ≤ count_of x.body) × (has (labels_in x) target ≡ true)

-- ---- where labels stand
or_here : (a b : Bool) → a ≡ true → (a || b) ≡ true
or_here true b e = refl
or_here false b e = absurd (cc)

or_there : (a b : Bool) → b ≡ true → (a || b) ≡ true
or_there true b e = refl
or_there false b e = e

has_front : (n : ℕ) (more : List ℕ) → has (n ∷ more) n ≡ true
has_front n more = or_here (nat_eq n n) (has more n) (nat_same n)

has_behind : (xs more : List ℕ) (n : ℕ) → has more n ≡ true → has (xs ++ more) n ≡ true
has_behind [] more n e = e
has_behind (x ∷ xs) more n e = or_there (nat_eq x n) (has (xs ++ more) n) (has_behind xs more n e)

has_case : (before rest : List TCase) (label : TCase) (more : List ℕ) → has (map target_of (before ++ label ∷ rest) ++ more) label.target ≡ true
has_case [] rest label more = has_front label.target (map target_of rest ++ more)
has_case (c ∷ before) rest label more = or_there (nat_eq c.target label.target) (has (map target_of (before ++ label ∷ rest) ++ more) label.target) (has_case before rest label more)

-- ---- one label of those that fit
fits_case : (ty : IntTy) (count : ℕ) (before rest : List TCase) (label : TCase) → cases_fit (types.Int ty) count (before ++ label ∷ rest) ≡ true → (label.value.ty ≡ ty) × (label.target ≤ count)
fits_case ty count [] rest label e =
    let r = and_right (same_type (types.Int label.value.ty) (types.Int ty)) _ e in
    (same_int_is label.value.ty ty (and_left (same_type (types.Int label.value.ty) (types.Int ty)) _ e), true_le label.target count (and_left (nat_le label.target count) _ r))
fits_case ty count (c ∷ before) rest label e =
    let r = and_right (same_type (types.Int c.value.ty) (types.Int ty)) _ e in
    let s = and_right (nat_le c.target count) _ r in
    fits_case ty count before rest label (and_right (not (is_label c.value.number (before ++ label ∷ rest))) _ s)

range_case : (before rest : List TCase) (label : TCase) → AreInRange (before ++ label ∷ rest) → IsInRange label.value.ty label.value.number
range_case [] rest label h = h.0
range_case (c ∷ before) rest label h = range_case before rest label h.1

label_is : (ty : IntTy) (e : Expression) (default : Option ℕ) (ss : Statements) (before rest : List TCase) (label : TCase) → cases_fit (types.Int ty) (count_of ss) (before ++ label ∷ rest) ≡ true → AreInRange (before ++ label ∷ rest)
    → IsLabel ty (record { value = e; cases = before ++ label ∷ rest; default = default; body = ss }) label
label_is ty e default ss before rest label fit numbers =
    let f = fits_case ty (count_of ss) before rest label fit in
    record { few = f.1; same = f.0; range = range_case before rest label numbers; there = has_case before rest label (option_to_list default) }

behind_one : (before rest : List TCase) (label : TCase) → (before ++ label ∷ []) ++ rest ≡ before ++ label ∷ rest
behind_one [] rest label = refl
behind_one (c ∷ before) rest label = ap (λ y. c ∷ y) (behind_one before rest label)

-- The labels that are left of a switch are labels of it.
pub labels_are : (ty : IntTy) (e : Expression) (cases : List TCase) (default : Option ℕ) (ss : Statements) (before labels : List TCase) → before ++ labels ≡ cases → cases_fit (types.Int ty) (count_of ss) cases ≡ true → AreInRange cases
    → AreLabels ty (record { value = e; cases = cases; default = default; body = ss }) labels
labels_are ty e cases default ss before [] is fit numbers = tt
labels_are ty e cases default ss before (label ∷ labels) is fit numbers = (
  subst (λ y. IsLabel ty (record { value = e; cases = y; default = default; body = ss }) label) is
      (label_is ty e default ss before labels label (subst (λ y. cases_fit (types.Int ty) (count_of ss) y ≡ true) (sym is) fit) (subst AreInRange (sym is) numbers)),
  labels_are ty e cases default ss (before ++ label ∷ []) labels (behind_one before labels label ∙ is) fit numbers,
)

pub default_is : (e : Expression) (cases : List TCase) (default : Option ℕ) (ss : Statements) → default_fits (count_of ss) default ≡ true → HasDefault (record { value = e; cases = cases; default = default; body = ss }) default
default_is e cases None ss fit = tt
default_is e cases (Some target) ss fit = (true_le target (count_of ss) fit, has_behind (map target_of cases) (target ∷ []) target (has_front target []))
