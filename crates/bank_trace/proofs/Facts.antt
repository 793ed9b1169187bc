-- What is known by flow facts at each place of a list.
use Rattle.std.proofs.Common.{◌≡◌, ℕ, zero, suc, Bool, true, false, if◌then◌else◌, List, [], ◌∷◌, Option, Some, None, slice_get, refl, sym, ap, ◌∙◌, subst}
use Rattle.std.proofs.lemmas.Option.{same_Some, none-some}
use Rattle.sym_code.specs.Programs.{labels_in_front}
use Rattle.sym_code.specs.declared.code.BankBit.TheVariants.{Rp0, Rp1}
use Rattle.sym_code.specs.declared.code.BlockName.{BlockName}
use Rattle.sym_code.specs.declared.code.Label.{Label}
use Rattle.sym_code.specs.declared.code.Sym.{Sym}
use Rattle.sym_code.specs.declared.code.Sym.TheVariants as syms
use Rattle.bank_page.specs.Kinds.{is_skip}
use Rattle.bank_page.specs.Selected.{Place, Free, Behind, Broken, place_after, walk}
use Rattle.bank_page.specs.declared.known.Known.{Known}
use Rattle.flow_facts.specs.Facts.{Fact, Facts, at_label}
use Rattle.flow_facts.specs.Walk.{fact_after, behind_after, holds_of, all_hold, leads}
use Rattle.bank_trace.proofs.Lists.{calm_at, never, settle, settle_zero, settle_label}
use Rattle.bank_trace.proofs.Holding.{Bits, HoldsFact, holds_given, both_first, both_last}

-- what is known before an instruction, and whether that stands behind a skip
pub record Spot : Type 0 where
  pub fact : Fact
  pub behind : Bool

abbrev pub spot_front : Facts → BlockName → Spot
spot_front f own = record { fact = f.front own; behind = false }

abbrev pub spot_after : Facts → BlockName → Spot → Sym → Spot
spot_after f own spot s = record { fact = fact_after f own spot.fact spot.behind s; behind = behind_after spot.behind s }

module _ (f : Facts) (own : BlockName) where
  -- before an index, where this is before the list
  abbrev pub spot_at : Spot → List Sym → ℕ → Spot
  spot_at spot [] j = spot
  spot_at spot (s ∷ list) zero = spot
  spot_at spot (s ∷ list) (suc j) = spot_at (spot_after f own spot s) list j

  pub spot_zero : (spot : Spot) (list : List Sym) → spot_at spot list 0 ≡ spot
  spot_zero spot [] = refl
  spot_zero spot (s ∷ list) = refl

  pub spot_next : (spot : Spot) (list : List Sym) (j : ℕ) (s : Sym) → slice_get list j ≡ Some s → spot_at spot list (suc j) ≡ spot_after f own (spot_at spot list j) s
  spot_next spot [] j s e = absurd (none-some s e)
  spot_next spot (x ∷ list) zero s e = spot_zero (spot_after f own spot x) list ∙ ap (spot_after f own spot) (same_Some x s e)
  spot_next spot (x ∷ list) (suc j) s e = spot_next (spot_after f own spot x) list j s e

  -- behind the end nothing more is learned
  pub spot_past : (spot : Spot) (list : List Sym) (j : ℕ) → slice_get list j ≡ None → spot_at spot list (suc j) ≡ spot_at spot list j
  spot_past spot [] j e = refl
  spot_past spot (x ∷ list) zero e = absurd (none-some x (sym e))
  spot_past spot (x ∷ list) (suc j) e = spot_past (spot_after f own spot x) list j e

  pub passes_at : (test : Known → Sym → Bool) (spot : Spot) (list : List Sym) (j : ℕ) (s : Sym) → all_hold test f own spot.fact spot.behind list ≡ true → slice_get list j ≡ Some s → holds_of test (spot_at spot list j).fact s ≡ true
  passes_at test spot [] j s p e = absurd (none-some s e)
  passes_at test spot (x ∷ list) zero s p e =
      subst (λ y. holds_of test spot.fact y ≡ true) (same_Some x s e) (both_first (holds_of test spot.fact x) (all_hold test f own (fact_after f own spot.fact spot.behind x) (behind_after spot.behind x) list) p)
  passes_at test spot (x ∷ list) (suc j) s p e =
      passes_at test (spot_after f own spot x) list j s (both_last (holds_of test spot.fact x) (all_hold test f own (fact_after f own spot.fact spot.behind x) (behind_after spot.behind x) list) p) e

  -- ---- behind labels
  label_after : (fact : Fact) (behind : Bool) (label : Label) → fact_after f own fact behind (syms.Label label) ≡ at_label f own label
  label_after None behind label = refl
  label_after (Some known) behind label = refl

  module _ (pages : BlockName → ℕ) (b : Bits) where
    into_label : (fact : Fact) (behind : Bool) (label : Label) → holds_of (leads f own) fact (syms.Label label) ≡ true → HoldsFact pages fact b → HoldsFact pages (fact_after f own fact behind (syms.Label label)) b
    into_label None behind label e h = absurd h
    into_label (Some known) behind label e h = holds_given pages (Some known) (at_label f own label) b e h

    -- what holds at a place holds behind the labels there
    pub fact_settles : (spot : Spot) (list : List Sym) (j : ℕ) → all_hold (leads f own) f own spot.fact spot.behind list ≡ true → HoldsFact pages (spot_at spot list j).fact b → HoldsFact pages (spot_at spot list (settle list j)).fact b
    fact_settles spot [] j p h = h
    fact_settles spot (syms.Label label ∷ list) zero p h =
        let s = syms.Label label in
        let first = both_first (holds_of (leads f own) spot.fact s) (all_hold (leads f own) f own (fact_after f own spot.fact spot.behind s) (behind_after spot.behind s) list) p in
        let later = both_last (holds_of (leads f own) spot.fact s) (all_hold (leads f own) f own (fact_after f own spot.fact spot.behind s) (behind_after spot.behind s) list) p in
        subst (λ n. HoldsFact pages (spot_at (spot_after f own spot s) list n).fact b) (settle_zero list)
        (fact_settles (spot_after f own spot s) list zero later (subst (λ (x : Spot). HoldsFact pages x.fact b) (sym (spot_zero (spot_after f own spot s) list)) (into_label spot.fact spot.behind label first h)))
    fact_settles spot (s ∷ list) zero p h = h
    fact_settles spot (s ∷ list) (suc j) p h =
        fact_settles (spot_after f own spot s) list j (both_last (holds_of (leads f own) spot.fact s) (all_hold (leads f own) f own (fact_after f own spot.fact spot.behind s) (behind_after spot.behind s) list) p) h

    -- what holds where one jumps to a label
    pub fact_at_label : (spot : Spot) (list : List Sym) (j : ℕ) (label : Label) → all_hold (leads f own) f own spot.fact spot.behind list ≡ true → slice_get list j ≡ Some (syms.Label label)
        → HoldsFact pages (at_label f own label) b → HoldsFact pages (spot_at spot list (settle list j)).fact b
    fact_at_label spot list j label p e h =
        let here = spot_at spot list j in
        let next : (spot_at spot list (suc j)).fact ≡ at_label f own label = ap (λ (x : Spot). x.fact) (spot_next spot list j (syms.Label label) e) ∙ label_after here.fact here.behind label in
        subst (λ n. HoldsFact pages (spot_at spot list n).fact b) (settle_label list j label e) (fact_settles spot list (suc j) p (subst (λ (x : Fact). HoldsFact pages x b) (sym next) h))

  pub behind_settles : (spot : Spot) (list : List Sym) (j : ℕ) → (spot_at spot list j).behind ≡ true → (spot_at spot list (settle list j)).behind ≡ true
  behind_settles spot [] j h = h
  behind_settles spot (syms.Label label ∷ list) zero h =
      let next = spot_after f own spot (syms.Label label) in
      subst (λ n. (spot_at next list n).behind ≡ true) (settle_zero list) (behind_settles next list zero (ap (λ (x : Spot). x.behind) (spot_zero next list) ∙ h))
  behind_settles spot (s ∷ list) zero h = h
  behind_settles spot (s ∷ list) (suc j) h = behind_settles (spot_after f own spot s) list j h

-- ---- skips
walk_broken : (list : List Sym) → walk Broken list ≡ Broken
walk_broken [] = refl
walk_broken (s ∷ list) = walk_broken list

calm_front : (list : List Sym) → (walk Behind list ≡ Broken → ⊥) → calm_at (slice_get list (labels_in_front list)) ≡ true
calm_front [] h = refl
calm_front (syms.Label label ∷ list) h = calm_front list h
calm_front (syms.SelectBank Rp0 on ∷ list) h = absurd (h (walk_broken list))
calm_front (syms.SelectBank Rp1 on ∷ list) h = absurd (h (walk_broken list))
calm_front (syms.SelectPage bit target ∷ list) h = absurd (h (walk_broken list))
calm_front (s ∷ list) h = refl

abbrev pub skip_at : Option Sym → Bool
skip_at None = false
skip_at (Some s) = is_skip s

at_skip : (place : Place) (s : Sym) (list : List Sym) → is_skip s ≡ true → (walk place (s ∷ list) ≡ Broken → ⊥) → walk Behind list ≡ Broken → ⊥
at_skip Broken s list e h = λ broken. h (walk_broken list)
at_skip Free s list e h = subst (λ place. walk place list ≡ Broken → ⊥) (ap (λ (b : Bool). if b then Behind else Free) e) h
at_skip Behind (syms.File op file into) list e h = subst (λ place. walk place list ≡ Broken → ⊥) (ap (λ (b : Bool). if b then Behind else Free) e) h
at_skip Behind (syms.Bit op file bit) list e h = subst (λ place. walk place list ≡ Broken → ⊥) (ap (λ (b : Bool). if b then Behind else Free) e) h
at_skip Behind s list e h = never e

-- between a skip and the instruction behind it stands no select
pub calm_behind : (place : Place) (list : List Sym) (j : ℕ) → (walk place list ≡ Broken → ⊥) → skip_at (slice_get list j) ≡ true → calm_at (slice_get list (settle list (suc j))) ≡ true
calm_behind place [] j h e = never e
calm_behind place (s ∷ list) zero h e = subst (λ n. calm_at (slice_get list n) ≡ true) (sym (settle_zero list)) (calm_front list (at_skip place s list e h))
calm_behind place (s ∷ list) (suc j) h e = calm_behind (place_after place s) list j h e
