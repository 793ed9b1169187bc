-- Blocks that were left as they are, by their names.
use Rattle.std.proofs.Common.{◌≡◌, Bool, true, false, if◌then◌else◌, List, [], ◌∷◌, refl, ap, true≢false}
use Rattle.std.specs.List.{AllZip}
use Rattle.sym_code.specs.Programs.{same_name, block_in}
use Rattle.sym_code.specs.declared.code.BlockName.{BlockName}
use Rattle.sym_code.specs.declared.code.SymBlock.{SymBlock}
use Rattle.lean_pass.specs.Made.{IsAsGiven}
use Rattle.headline_trace.proofs.LeanCounted.{never}

pub kept_named : (given lean : List SymBlock) → AllZip IsAsGiven given lean → (name : BlockName) → block_in lean name ≡ block_in given name
kept_named [] [] all name = refl
kept_named [] (b ∷ lean) all name = absurd all
kept_named (g ∷ given) [] all name = absurd all
kept_named (g ∷ given) (b ∷ lean) all name = by (same_name b.name name) (same_name g.name name) (ap (λ (n : BlockName). same_name n name) all.0.name) (kept_named given lean all.1 name)
  where
    by : (s t : Bool) → s ≡ t → block_in lean name ≡ block_in given name → (if s then b.list.items else block_in lean name) ≡ (if t then g.list.items else block_in given name)
    by true true is later = all.0.code
    by false false is later = later
    by true false is later = absurd (true≢false is)
    by false true is later = never is
