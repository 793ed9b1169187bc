-- The maps of places after one more block, and what they say of a block's targets.
use Rattle.std.proofs.Common.{◌≡◌, ℕ, ◌+◌, ◌<◌, List, length, get_or, take, refl, sym, ap, ◌∙◌}
use Rattle.std.specs.BTreeMap.{BTreeMap}
use Rattle.std.specs.Option.{option_or}
use Rattle.sym_code.specs.Programs.{same_name}
use Rattle.sym_code.specs.declared.code.BlockName.{BlockName}
use Rattle.sym_code.specs.declared.code.Label.TheVariants as labels
use Rattle.sym_code.specs.declared.code.SymBlock.{SymBlock}
use Rattle.sym_code.specs.declared.code.Target.{Target}
use Rattle.sym_code.specs.declared.code.Target.TheVariants as targets
use Rattle.code_place.specs.Marks.{block_in, target_in, target_by, AreMarks, AreInner}
use Rattle.code_place.specs.Places.{at_if, label_at, target_for}
use Rattle.code_place.specs.declared.marks.Marks.{Marks}
use Rattle.code_place.proofs.Places.{one_more}

pub marks_more : (ys blocks : List SymBlock) (at : List ℕ) (i : ℕ) (block : SymBlock) (start : ℕ) (old named new : Marks) → ys ≡ blocks → i < length ys → block ≡ get_or ys i block → i < length at → start ≡ get_or at i start → AreMarks (take i blocks) at old
    → ((asked : BlockName) → block_in named asked ≡ option_or (block_in old asked) (at_if (same_name block.name asked) start)) → named.halt ≡ old.halt → named.restore ≡ old.restore
    → ((asked : BlockName) → block_in new asked ≡ block_in named asked) → new.halt ≡ option_or named.halt (label_at labels.Halt start block.list.items) → new.restore ≡ option_or named.restore (label_at labels.Restore start block.list.items)
    → AreMarks (take (i + 1) blocks) at new
marks_more ys blocks at i block start old named new same below read inside is before by_name same_halt same_restore as_named halt restore = (
  λ name. as_named name ∙ (by_name name ∙ (ap (λ o. option_or o (at_if (same_name block.name name) start)) (before.0 name) ∙ sym (one_more (λ b s. at_if (same_name b.name name) s) ys blocks at i block start same below read inside is))),
  halt ∙ (ap (λ o. option_or o (label_at labels.Halt start block.list.items)) (same_halt ∙ before.1) ∙ sym (one_more (λ b s. label_at labels.Halt s b.list.items) ys blocks at i block start same below read inside is)),
  restore ∙ (ap (λ o. option_or o (label_at labels.Restore start block.list.items)) (same_restore ∙ before.2) ∙ sym (one_more (λ b s. label_at labels.Restore s b.list.items) ys blocks at i block start same below read inside is)),
)

-- the map of inner labels has those of the block
at_inner : (marks : Marks) (inner : BTreeMap ℕ ℕ) (block : SymBlock) (start : ℕ) → AreInner block start inner → (target : Target) → target_in marks inner target ≡ target_by marks block start target
at_inner marks inner block start are (targets.Block name) = refl
at_inner marks inner block start are (targets.Label (labels.Inner number)) = are number
at_inner marks inner block start are (targets.Label labels.Halt) = refl
at_inner marks inner block start are (targets.Label labels.Restore) = refl

pub by_inner : (marks : Marks) (inner : BTreeMap ℕ ℕ) (block : SymBlock) (start : ℕ) → AreInner block start inner → target_in marks inner ≡ target_by marks block start
by_inner marks inner block start are = λ i target. at_inner marks inner block start are target i

-- and the maps of the program those of the program
at_marks : (marks : Marks) (blocks : List SymBlock) (at : List ℕ) (block : SymBlock) (start : ℕ) → AreMarks blocks at marks → (target : Target) → target_by marks block start target ≡ target_for blocks at block start target
at_marks marks blocks at block start are (targets.Block name) = are.0 name
at_marks marks blocks at block start are (targets.Label (labels.Inner number)) = refl
at_marks marks blocks at block start are (targets.Label labels.Halt) = are.1
at_marks marks blocks at block start are (targets.Label labels.Restore) = are.2

pub by_marks : (marks : Marks) (blocks : List SymBlock) (at : List ℕ) (block : SymBlock) (start : ℕ) → AreMarks blocks at marks → target_by marks block start ≡ target_for blocks at block start
by_marks marks blocks at block start are = λ i target. at_marks marks blocks at block start are target i
