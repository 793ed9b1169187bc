-- A routine jumps to labels of its own alone.
use Rattle.std.proofs.Common.{◌≡◌, ℕ, Bool, true, false, ◌&&◌, ◌||◌, nat_eq, List, [], ◌∷◌, Option, IsSome, refl, subst}
use Rattle.std.proofs.lemmas.Bool.{eqb-true}
use Rattle.c_typed.specs.declared.calls.Helper.{Helper}
use Rattle.c_typed.specs.declared.calls.Helper.TheVariants.{Mul2, Mul4, Divu2, Divs2, Remu2, Rems2, Divu4, Divs4, Remu4, Rems4, Shl2, Shru2, Shrs2, Shl4, Shru4, Shrs4}
use Rattle.math_helpers.specs.Routines.{helper_code}
use Rattle.pic_world.specs.declared.Root.{Root}
use Rattle.sym_code.specs.declared.code.Label.TheVariants as labels
use Rattle.sym_code.specs.declared.code.Sym.{Sym}
use Rattle.sym_code.specs.declared.code.Sym.TheVariants as syms
use Rattle.sym_code.specs.declared.code.Target.{Target}
use Rattle.sym_code.specs.declared.code.Target.TheVariants as targets
use Rattle.program_code.specs.Targets.{HasTarget, HaveTargets}
use Rattle.program_code.proofs.NamedTargets.{and_both, LabelFound, LabelsFound}

-- the inner label of that number
abbrev is_mark : ℕ → Sym → Bool
is_mark number (syms.Label (labels.Inner other)) = nat_eq other number
is_mark number _ = false

abbrev has_mark : ℕ → List Sym → Bool
has_mark number [] = false
has_mark number (s ∷ list) = is_mark number s || has_mark number list

-- an instruction that names no target but an inner label of the whole
abbrev stays : List Sym → Sym → Bool
stays whole (syms.Goto (targets.Label (labels.Inner number))) = has_mark number whole
stays whole (syms.Goto to) = false
stays whole (syms.Call to) = false
stays whole (syms.SelectPage bit to) = false
stays whole (syms.Table table root) = false
stays whole _ = true

abbrev all_stay : List Sym → List Sym → Bool
all_stay whole [] = true
all_stay whole (s ∷ list) = stays whole s && all_stay whole list

module _ (target : Target → Option ℕ) where
  abbrev Found : ℕ → Type 0
  Found number = IsSome (target (targets.Label (labels.Inner number)))

  mark_found : (number : ℕ) (s : Sym) → LabelFound target s → is_mark number s ≡ true → Found number
  mark_found number (syms.Label (labels.Inner other)) h e = subst Found (eqb-true other number e) h
  mark_found number (syms.Label labels.Halt) h e = absurd (cc)
  mark_found number (syms.Label labels.Restore) h e = absurd (cc)
  mark_found number (syms.SelectBank bit on) h e = absurd (cc)
  mark_found number (syms.SelectPage bit to) h e = absurd (cc)
  mark_found number (syms.Table table root) h e = absurd (cc)
  mark_found number (syms.File op file into) h e = absurd (cc)
  mark_found number (syms.Movwf file) h e = absurd (cc)
  mark_found number (syms.Clrf file) h e = absurd (cc)
  mark_found number (syms.Bit op file bit) h e = absurd (cc)
  mark_found number (syms.Literal op value) h e = absurd (cc)
  mark_found number (syms.Plain op) h e = absurd (cc)
  mark_found number (syms.Call to) h e = absurd (cc)
  mark_found number (syms.Goto to) h e = absurd (cc)

  marks_found : (number : ℕ) (list : List Sym) → LabelsFound target list → has_mark number list ≡ true → Found number
  marks_found number [] h e = absurd (cc)
  marks_found number (s ∷ list) h e = by (is_mark number s) refl e (marks_found number list h.1) where
    by : (b : Bool) → is_mark number s ≡ b → (b || has_mark number list) ≡ true → (has_mark number list ≡ true → Found number) → Found number
    by true is all below = mark_found number s h.0 is
    by false is all below = below all

  stays_has : (whole : List Sym) (s : Sym) → LabelsFound target whole → stays whole s ≡ true → HasTarget target s
  stays_has whole (syms.Goto (targets.Label (labels.Inner number))) h e = marks_found number whole h e
  stays_has whole (syms.Goto (targets.Label labels.Halt)) h e = absurd (cc)
  stays_has whole (syms.Goto (targets.Label labels.Restore)) h e = absurd (cc)
  stays_has whole (syms.Goto (targets.Block name)) h e = absurd (cc)
  stays_has whole (syms.Call to) h e = absurd (cc)
  stays_has whole (syms.SelectPage bit to) h e = absurd (cc)
  stays_has whole (syms.Table table root) h e = absurd (cc)
  stays_has whole (syms.Label label) h e = tt
  stays_has whole (syms.SelectBank bit on) h e = tt
  stays_has whole (syms.File op file into) h e = tt
  stays_has whole (syms.Movwf file) h e = tt
  stays_has whole (syms.Clrf file) h e = tt
  stays_has whole (syms.Bit op file bit) h e = tt
  stays_has whole (syms.Literal op value) h e = tt
  stays_has whole (syms.Plain op) h e = tt

  stay_have : (whole list : List Sym) → LabelsFound target whole → all_stay whole list ≡ true → HaveTargets target list
  stay_have whole [] h e = tt
  stay_have whole (s ∷ list) h e = let g = and_both (stays whole s) (all_stay whole list) e in (stays_has whole s h g.0, stay_have whole list h g.1)

  all_of : (h : Helper) (root : Root) (copy : ℕ) → all_stay (helper_code h root copy) (helper_code h root copy) ≡ true
  all_of Mul2 root copy = refl
  all_of Mul4 root copy = refl
  all_of Divu2 root copy = refl
  all_of Divs2 root copy = refl
  all_of Remu2 root copy = refl
  all_of Rems2 root copy = refl
  all_of Divu4 root copy = refl
  all_of Divs4 root copy = refl
  all_of Remu4 root copy = refl
  all_of Rems4 root copy = refl
  all_of Shl2 root copy = refl
  all_of Shru2 root copy = refl
  all_of Shrs2 root copy = refl
  all_of Shl4 root copy = refl
  all_of Shru4 root copy = refl
  all_of Shrs4 root copy = refl

  pub routine_have : (h : Helper) (root : Root) (copy : ℕ) → LabelsFound target (helper_code h root copy) → HaveTargets target (helper_code h root copy)
  routine_have h root copy found = stay_have (helper_code h root copy) (helper_code h root copy) found (all_of h root copy)
