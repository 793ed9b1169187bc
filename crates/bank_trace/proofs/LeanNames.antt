-- The block of a name is one of those that were tested, or it has no rows.
use Rattle.std.proofs.Common.{◌≡◌, Bool, true, false, if◌then◌else◌, List, [], ◌∷◌, refl}
use Rattle.sym_code.specs.Programs.{same_name}
use Rattle.sym_code.specs.declared.code.BlockName.{BlockName}
use Rattle.lean_code.specs.Checked.{ListedBlock, rows_in, block_in}
use Rattle.lean_code.specs.Steady.{is_steady, are_steady}
use Rattle.bank_trace.specs.LeanPrices.{BlocksAreSteady}
use Rattle.bank_trace.proofs.LeanRows.{and_first, and_last}

steady_named : (blocks : List ListedBlock) (name : BlockName) → are_steady blocks ≡ true → is_steady (rows_in (block_in blocks name).rows) ≡ true
steady_named [] name e = refl
steady_named (b ∷ bs) name e = by (same_name b.name name) (steady_named bs name (and_last (is_steady (rows_in b.rows)) (are_steady bs) e))
  where
    by : (t : Bool) → is_steady (rows_in (block_in bs name).rows) ≡ true → is_steady (rows_in (if t then b else block_in bs name).rows) ≡ true
    by true later = and_first (is_steady (rows_in b.rows)) (are_steady bs) e
    by false later = later

pub blocks_are_steady : BlocksAreSteady
blocks_are_steady k limit old_page new_page e name = steady_named k.blocks name e
