-- What is given of the blocks, at each of their names.
use Rattle.std.proofs.Common.{◌≡◌, ℕ, zero, suc, ◌+◌, ◌<◌, Bool, true, false, if◌then◌else◌, List, [], ◌∷◌, All, Option, Some, None, slice_get, refl, sym, subst, arith}
use Rattle.std.specs.Option.{option_or}
use Rattle.std.proofs.lemmas.Option.{none-some, same_Some, slice_get_within, get_or_from_slice_get}
use Rattle.pic_map.specs.declared.Placed.{Placed}
use Rattle.sym_code.specs.Layout.{all_near}
use Rattle.sym_code.specs.Programs.{same_name, block_in}
use Rattle.sym_code.specs.Touching.{touches}
use Rattle.sym_code.specs.declared.code.BlockName.{BlockName}
use Rattle.sym_code.specs.declared.code.Sym.{Sym}
use Rattle.sym_code.specs.declared.code.Sym.TheVariants as syms
use Rattle.sym_code.specs.declared.code.SymBlock.{SymBlock}
use Rattle.sym_code.specs.declared.code.Target.{Target}
use Rattle.code_place.specs.Instructions.{known}
use Rattle.code_place.specs.Layouts.{layout_of, page_of}
use Rattle.code_place.specs.Places.{at_if, block_place, target_for, HasAddress, HaveAddresses, BlocksHaveAddresses}
use Rattle.code_place.specs.Sizes.{Stands, Fit}
use Rattle.bank_page.specs.Near.{none_sets_rp1, StaysNear, KeepNear}
use Rattle.bank_page.specs.Selected.{NoSelectBehindSkip, IsApart}
use Rattle.flow_facts.specs.Facts.{Facts}
use Rattle.flow_facts.specs.Walk.{is_right, all_hold, holds_in, leads, all_lead, Reaches}
use Rattle.bank_trace.proofs.Holding.{same_names, both_first, both_last}
use Rattle.bank_trace.proofs.Sites.{IsNamed}

-- ---- of each block, so of the block of a name
abbrev pub Each : (SymBlock → Type 0) → List SymBlock → Type 0
Each P blocks = (k : ℕ) (block : SymBlock) → slice_get blocks k ≡ Some block → P block

pub each_all : (P : SymBlock → Type 0) (blocks : List SymBlock) → All P blocks → Each P blocks
each_all P blocks all k block e = subst P (get_or_from_slice_get blocks k block block e) (all k block (slice_get_within blocks k block e))

pub of_name : (P : SymBlock → Type 0) (Q : BlockName → List Sym → Type 0) → ((block : SymBlock) → P block → Q block.name block.list.items) → ((name : BlockName) → Q name [])
    → (blocks : List SymBlock) → Each P blocks → (name : BlockName) → Q name (block_in blocks name)
of_name P Q one none [] each name = none name
of_name P Q one none (block ∷ blocks) each name = by_name (same_name block.name name) refl (of_name P Q one none blocks (λ k b e. each (suc k) b e) name)
  where
    by_name : (c : Bool) → same_name block.name name ≡ c → Q name (block_in blocks name) → Q name (if c then block.list.items else block_in blocks name)
    by_name true is later = subst (λ n. Q n block.list.items) (same_names block.name name is) (one block (each 0 block refl))
    by_name false is later = later

-- ---- pages
abbrev Starts : List SymBlock → List ℕ → Type 0
Starts blocks at = (k : ℕ) (block : SymBlock) → slice_get blocks k ≡ Some block → (start : ℕ) × (slice_get at k ≡ Some start) × (start < 8192)

has_start : (block : SymBlock) (o next : Option ℕ) → Stands block o next → (start : ℕ) × (o ≡ Some start) × (start < 8192)
has_start block None next h = absurd h
has_start block (Some start) next h = (start, refl, h.0)

starts : (blocks : List SymBlock) (at : List ℕ) → Fit blocks at → Starts blocks at
starts blocks at fit k block e = has_start block (slice_get at k) (slice_get at (k + 1)) (fit k block e)

place_within : (name : BlockName) (blocks : List SymBlock) (at : List ℕ) → Starts blocks at → known (block_place blocks at name) < 8192
place_within name [] at h = omega arith
place_within name (block ∷ blocks) [] h = omega arith
place_within name (block ∷ blocks) (start ∷ at) h = by_name (same_name block.name name) (place_within name blocks at (λ k b e. h (suc k) b e))
  where
    by_name : (c : Bool) → known (block_place blocks at name) < 8192 → known (option_or (at_if c start) (block_place blocks at name)) < 8192
    by_name true later = let first = h 0 block refl in subst (λ n. n < 8192) (sym (same_Some start first.0 first.1)) first.2
    by_name false later = later

pub page_within : (blocks : List SymBlock) (at : List ℕ) → Fit blocks at → (name : BlockName) → page_of blocks at name < 4
page_within blocks at fit name = let h = place_within name blocks at (starts blocks at fit) in omega arith

-- ---- names
abbrev AreNamed : Placed → List Sym → Type 0
AreNamed placed list = (j : ℕ) (s : Sym) → slice_get list j ≡ Some s → IsNamed placed (touches s)

is_named : (placed : Placed) (target : Target → Option ℕ) (s : Sym) → HasAddress placed target s → IsNamed placed (touches s)
is_named placed target (syms.File op file into) h = h
is_named placed target (syms.Movwf file) h = h
is_named placed target (syms.Clrf file) h = h
is_named placed target (syms.Bit op file bit) h = h
is_named placed target s h = tt

are_named : (placed : Placed) (target : Target → Option ℕ) (list : List Sym) → HaveAddresses placed target list → AreNamed placed list
are_named placed target [] h j s e = absurd (none-some s e)
are_named placed target (x ∷ list) h zero s e = subst (λ y. IsNamed placed (touches y)) (same_Some x s e) (is_named placed target x h.0)
are_named placed target (x ∷ list) h (suc j) s e = are_named placed target list h.1 j s e

each_named : (placed : Placed) (blocks : List SymBlock) (at : List ℕ) → Fit blocks at → BlocksHaveAddresses placed blocks at → Each (λ block. AreNamed placed block.list.items) blocks
each_named placed blocks at fit named k block e =
    let start = starts blocks at fit k block e in
    are_named placed (target_for blocks at block start.0) block.list.items (named k block start.0 e start.1)

pub named_at : (placed : Placed) (blocks : List SymBlock) (at : List ℕ) → Fit blocks at → BlocksHaveAddresses placed blocks at → (name : BlockName) → AreNamed placed (block_in blocks name)
named_at placed blocks at fit named =
    of_name (λ block. AreNamed placed block.list.items) (λ name list. AreNamed placed list) (λ block h. h) (λ name j s e. absurd (none-some s e)) blocks (each_named placed blocks at fit named)

-- ---- facts
pub apart_at : (blocks : List SymBlock) → All IsApart blocks → (name : BlockName) → NoSelectBehindSkip (block_in blocks name)
apart_at blocks all = of_name IsApart (λ name list. NoSelectBehindSkip list) (λ block h. h) (λ name e. absurd (cc)) blocks (each_all IsApart blocks all)

pub near_at : (placed : Placed) (blocks : List SymBlock) → KeepNear placed blocks → all_near (layout_of placed) ≡ true → (name : BlockName) → none_sets_rp1 (block_in blocks name) ≡ true
near_at placed blocks near low = of_name StaysNear (λ name list. none_sets_rp1 list ≡ true) (λ block h. h) (λ name. refl) blocks (each_all StaysNear blocks (near low))

pub reaches_at : (placed : Placed) (f : Facts) (blocks : List SymBlock) → All (Reaches placed f) blocks → (name : BlockName) → all_hold (is_right placed f name) f name (f.front name) false (block_in blocks name) ≡ true
reaches_at placed f blocks all =
    of_name (Reaches placed f) (λ name list. all_hold (is_right placed f name) f name (f.front name) false list ≡ true) (λ block h. h) (λ name. refl) blocks (each_all (Reaches placed f) blocks all)

abbrev LeadsAlong : Facts → SymBlock → Type 0
LeadsAlong f block = holds_in (leads f) f block ≡ true

each_lead : (f : Facts) (blocks : List SymBlock) → all_lead f blocks ≡ true → Each (LeadsAlong f) blocks
each_lead f [] all k block e = absurd (none-some block e)
each_lead f (b ∷ blocks) all zero block e = subst (LeadsAlong f) (same_Some b block e) (both_first (holds_in (leads f) f b) (all_lead f blocks) all)
each_lead f (b ∷ blocks) all (suc k) block e = each_lead f blocks (both_last (holds_in (leads f) f b) (all_lead f blocks) all) k block e

pub lead_at : (f : Facts) (blocks : List SymBlock) → all_lead f blocks ≡ true → (name : BlockName) → all_hold (leads f name) f name (f.front name) false (block_in blocks name) ≡ true
lead_at f blocks all =
    of_name (LeadsAlong f) (λ name list. all_hold (leads f name) f name (f.front name) false list ≡ true) (λ block h. h) (λ name. refl) blocks (each_lead f blocks all)
