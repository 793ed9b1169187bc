-- Labels and blocks that stand somewhere have addresses.
use Rattle.std.proofs.Common.{◌≡◌, ℕ, zero, suc, ◌+◌, Bool, true, false, ◌||◌, List, [], ◌∷◌, Option, Some, None, IsSome, slice_get, refl, sym, subst}
use Rattle.std.specs.Option.{option_or}
use Rattle.std.proofs.lemmas.Bool.{eq-eqb}
use Rattle.std.proofs.lemmas.Option.{same_Some}
use Rattle.pic_map.specs.declared.Placed.{Placed}
use Rattle.sym_code.specs.Programs.{same_name}
use Rattle.sym_code.specs.Words.{words_of_one}
use Rattle.sym_code.specs.declared.code.BlockName.{BlockName}
use Rattle.sym_code.specs.declared.code.BlockName.TheVariants as names
use Rattle.sym_code.specs.declared.code.Label.{Label}
use Rattle.sym_code.specs.declared.code.Sym.{Sym}
use Rattle.sym_code.specs.declared.code.Sym.TheVariants as syms
use Rattle.sym_code.specs.declared.code.SymBlock.{SymBlock}
use Rattle.sym_code.specs.declared.code.Target.{Target}
use Rattle.code_place.specs.Places.{label_of, is_label, at_if, label_at, first_place, block_place, label_place, target_for, HasAddress, HaveAddresses}
use Rattle.code_place.specs.Sizes.{Stands, Fit}
use Rattle.program_code.specs.There.{HasOperand, HaveOperands}
use Rattle.program_code.specs.Targets.{HasTarget, HaveTargets, AllIsThere}
use Rattle.program_code.proofs.NamedTargets.{has_label}

or_left : (o other : Option ℕ) → IsSome o → IsSome (option_or o other)
or_left None other h = absurd (cc)
or_left (Some n) other h = refl

or_right : (o other : Option ℕ) → IsSome other → IsSome (option_or o other)
or_right None other h = h
or_right (Some n) other h = refl

-- a label of a list has an address
pub label_found : (label : Label) (at : ℕ) (list : List Sym) → has_label label list ≡ true → IsSome (label_at label at list)
label_found label at [] h = absurd (cc)
label_found label at (s ∷ list) h = by (is_label label (label_of s)) h (label_found label (at + words_of_one s) list) where
  by : (b : Bool) → (b || has_label label list) ≡ true → (has_label label list ≡ true → IsSome (label_at label (at + words_of_one s) list)) → IsSome (option_or (at_if b at) (label_at label (at + words_of_one s) list))
  by true all below = refl
  by false all below = below all

place_found : (place : SymBlock → ℕ → Option ℕ) (blocks : List SymBlock) (at : List ℕ) (k : ℕ) (block : SymBlock) (start : ℕ) → slice_get blocks k ≡ Some block → slice_get at k ≡ Some start → IsSome (place block start) → IsSome (first_place place blocks at)
place_found place [] at k block start found here h = absurd (cc)
place_found place (b ∷ blocks) [] k block start found here h = absurd (cc)
place_found place (b ∷ blocks) (s ∷ at) zero block start found here h =
    let same = same_Some b block found in
    let stands = same_Some s start here in
    or_left (place b s) (first_place place blocks at) (subst (λ (c : SymBlock). IsSome (place c s)) (sym same) (subst (λ (n : ℕ). IsSome (place block n)) (sym stands) h))
place_found place (b ∷ blocks) (s ∷ at) (suc k) block start found here h = or_right (place b s) (first_place place blocks at) (place_found place blocks at k block start found here h)

at_there : (b : Bool) (n : ℕ) → b ≡ true → IsSome (at_if b n)
at_there true n e = refl
at_there false n e = absurd (cc)

name_itself : (name : BlockName) → same_name name name ≡ true
name_itself names.Start = refl
name_itself (names.Copy c) = eq-eqb c c refl

pub record HasPlace (at : List ℕ) (k : ℕ) : Type 0 where
  pub start : ℕ
  pub here : slice_get at k ≡ Some start

-- a block that has room has an address
pub has_place : (blocks : List SymBlock) (at : List ℕ) → Fit blocks at → (k : ℕ) (block : SymBlock) → slice_get blocks k ≡ Some block → HasPlace at k
has_place blocks at fit k block found = by (slice_get at k) refl (fit k block found) where
  by : (o : Option ℕ) → slice_get at k ≡ o → Stands block o (slice_get at (k + 1)) → HasPlace at k
  by None e h = absurd h
  by (Some start) e h = record { start = start; here = e }

module _ (blocks : List SymBlock) (at : List ℕ) (fit : Fit blocks at) (k : ℕ) (block : SymBlock) (found : slice_get blocks k ≡ Some block) where
  pub block_found : IsSome (block_place blocks at block.name)
  block_found =
      let is = has_place blocks at fit k block found in
      place_found (λ b start. at_if (same_name b.name block.name) start) blocks at k block is.start found is.here (at_there (same_name block.name block.name) is.start (name_itself block.name))

  pub label_placed : (label : Label) → has_label label block.list.items ≡ true → IsSome (label_place blocks at label)
  label_placed label has =
      let is = has_place blocks at fit k block found in
      place_found (λ b start. label_at label start b.list.items) blocks at k block is.start found is.here (label_found label is.start block.list.items has)

-- ---- targets and bytes together
one_there : (placed : Placed) (target : Target → Option ℕ) (s : Sym) → HasTarget target s → HasOperand placed s → HasAddress placed target s
one_there placed target (syms.Label label) t o = tt
one_there placed target (syms.SelectBank bit on) t o = tt
one_there placed target (syms.SelectPage bit to) t o = t
one_there placed target (syms.Table table root) t o = t
one_there placed target (syms.File op file into) t o = o
one_there placed target (syms.Movwf file) t o = o
one_there placed target (syms.Clrf file) t o = o
one_there placed target (syms.Bit op file b) t o = o
one_there placed target (syms.Literal op value) t o = o
one_there placed target (syms.Plain op) t o = tt
one_there placed target (syms.Call to) t o = t
one_there placed target (syms.Goto to) t o = t

each_there : (placed : Placed) (target : Target → Option ℕ) (list : List Sym) → HaveTargets target list → HaveOperands placed list → HaveAddresses placed target list
each_there placed target [] t o = tt
each_there placed target (s ∷ list) t o = (one_there placed target s t.0 o.0, each_there placed target list t.1 o.1)

pub all_is_there : AllIsThere
all_is_there placed blocks at t o k block start found here = each_there placed (target_for blocks at block start) block.list.items (t k block start found here) (o k block found)
