-- Where a target has an address, it stands there.
use Rattle.std.proofs.Common.{◌≡◌, ℕ, suc, ◌+◌, ◌⊎◌, inl, inr, ⊎_elim, true, false, List, [], ◌∷◌, take, Option, Some, None, slice_get, refl, ap, ◌∙◌, arith}
use Rattle.std.specs.Option.{option_or}
use Rattle.std.proofs.lemmas.Bool.{eqb-true}
use Rattle.std.proofs.lemmas.List.Sums.{sum_by-cons}
use Rattle.std.proofs.lemmas.Option.{none-some, cond_some}
use Rattle.sym_code.specs.Programs.{same_name, same_label}
use Rattle.sym_code.specs.declared.code.BlockName.{BlockName}
use Rattle.sym_code.specs.declared.code.BlockName.TheVariants as names
use Rattle.sym_code.specs.declared.code.Label.{Label}
use Rattle.sym_code.specs.declared.code.Label.TheVariants as labels
use Rattle.sym_code.specs.declared.code.Sym.{Sym}
use Rattle.sym_code.specs.declared.code.Sym.TheVariants as syms
use Rattle.sym_code.specs.declared.code.SymBlock.{SymBlock}
use Rattle.sym_code.specs.declared.code.Target.TheVariants as targets
use Rattle.code_place.specs.Places.{label_of, is_label, at_if, label_at, first_place, block_place, label_place, LabelStands, LabelStandsIn, BlockStands, TargetsStand}
use Rattle.sym_code.specs.Words.{words_of_one, words_in}

untrue : false ≡ true → ⊥
untrue e = cc

-- names that are told to be the same are
same_block : (a b : BlockName) → same_name a b ≡ true → a ≡ b
same_block names.Start names.Start e = refl
same_block names.Start (names.Copy d) e = absurd (untrue e)
same_block (names.Copy c) names.Start e = absurd (untrue e)
same_block (names.Copy c) (names.Copy d) e = ap names.Copy (eqb-true c d e)

same_as : (a b : Label) → same_label a b ≡ true → a ≡ b
same_as (labels.Inner n) (labels.Inner m) e = ap labels.Inner (eqb-true n m e)
same_as (labels.Inner n) labels.Halt e = absurd (untrue e)
same_as (labels.Inner n) labels.Restore e = absurd (untrue e)
same_as labels.Halt (labels.Inner m) e = absurd (untrue e)
same_as labels.Halt labels.Halt e = refl
same_as labels.Halt labels.Restore e = absurd (untrue e)
same_as labels.Restore (labels.Inner m) e = absurd (untrue e)
same_as labels.Restore labels.Halt e = absurd (untrue e)
same_as labels.Restore labels.Restore e = refl

is_that : (label : Label) (s : Sym) → is_label label (label_of s) ≡ true → s ≡ syms.Label label
is_that label (syms.Label here) e = ap syms.Label (same_as here label e)
is_that label (syms.SelectBank bit on) e = absurd (untrue e)
is_that label (syms.SelectPage bit target) e = absurd (untrue e)
is_that label (syms.File op file into) e = absurd (untrue e)
is_that label (syms.Movwf file) e = absurd (untrue e)
is_that label (syms.Clrf file) e = absurd (untrue e)
is_that label (syms.Bit op file b) e = absurd (untrue e)
is_that label (syms.Literal op value) e = absurd (untrue e)
is_that label (syms.Plain op) e = absurd (untrue e)
is_that label (syms.Call target) e = absurd (untrue e)
is_that label (syms.Goto target) e = absurd (untrue e)
is_that label (syms.Table table root) e = absurd (untrue e)

either : (a b : Option ℕ) (p : ℕ) → option_or a b ≡ Some p → (a ≡ Some p) ⊎ (b ≡ Some p)
either None b p e = inr e
either (Some x) b p e = inl e

label_stands : (label : Label) (start : ℕ) (list : List Sym) (p : ℕ) → label_at label start list ≡ Some p → LabelStands label start list p
label_stands label start [] p e = absurd (none-some p e)
label_stands label start (s ∷ list) p e =
    ⊎_elim
    (λ here.
    let is = cond_some (is_label label (label_of s)) start p here in
    (0, ap Some (is_that label s is.0), omega (arith, is.1)))
    (λ later.
    let found = label_stands label (start + words_of_one s) list p later in
    let more : words_in (s ∷ take found.0 list) ≡ words_of_one s + words_in (take found.0 list) = sum_by-cons words_of_one s (take found.0 list) in
    (suc found.0, found.1, omega (arith, found.2, more)))
    (either (at_if (is_label label (label_of s)) start) (label_at label (start + words_of_one s) list) p e)

-- the first place is that of one of the blocks
first_stands : (place : SymBlock → ℕ → Option ℕ) (blocks : List SymBlock) (at : List ℕ) (p : ℕ) → first_place place blocks at ≡ Some p → (k : ℕ) × (block : SymBlock) × (start : ℕ) × (slice_get blocks k ≡ Some block) × (slice_get at k ≡ Some start) × (place block start ≡ Some p)
first_stands place [] at p e = absurd (none-some p e)
first_stands place (b ∷ blocks) [] p e = absurd (none-some p e)
first_stands place (b ∷ blocks) (a ∷ at) p e =
    ⊎_elim
    (λ here. (0, b, a, refl, refl, here))
    (λ later. let found = first_stands place blocks at p later in (suc found.0, found.1, found.2, found.3, found.4, found.5))
    (either (place b a) (first_place place blocks at) p e)

block_stands : (blocks : List SymBlock) (at : List ℕ) (name : BlockName) (p : ℕ) → block_place blocks at name ≡ Some p → BlockStands blocks at name p
block_stands blocks at name p e =
    let found = first_stands (λ block start. at_if (same_name block.name name) start) blocks at p e in
    let is = cond_some (same_name found.1.name name) found.2 p found.5 in
    (found.0, found.1, found.3, found.4 ∙ ap Some is.1, same_block found.1.name name is.0)

label_stands_in : (blocks : List SymBlock) (at : List ℕ) (label : Label) (p : ℕ) → label_place blocks at label ≡ Some p → LabelStandsIn blocks at label p
label_stands_in blocks at label p e =
    let found = first_stands (λ block start. label_at label start block.list.items) blocks at p e in
    (found.0, found.1, found.2, found.3, found.4, label_stands label found.2 found.1.list.items p found.5)

pub targets_stand : (blocks : List SymBlock) (at : List ℕ) → TargetsStand blocks at
targets_stand blocks at block start (targets.Block name) address e = block_stands blocks at name address e
targets_stand blocks at block start (targets.Label (labels.Inner number)) address e = label_stands (labels.Inner number) start block.list.items address e
targets_stand blocks at block start (targets.Label labels.Halt) address e = label_stands_in blocks at labels.Halt address e
targets_stand blocks at block start (targets.Label labels.Restore) address e = label_stands_in blocks at labels.Restore address e
