-- Instructions of a well formed list.
use Rattle.std.proofs.Common.{◌≡◌, ℕ, suc, zero, ◌<◌, true, false, Bool, ◌&&◌, List, [], ◌∷◌, length, get_or, refl, arith}
use Rattle.sym_code.specs.WellFormed.{is_well_formed, are_well_formed}
use Rattle.sym_code.specs.declared.code.Sym.{Sym}

left_of : (a b : Bool) → (a && b) ≡ true → a ≡ true
left_of true b p = refl
left_of false b p = p

right_of : (a b : Bool) → (a && b) ≡ true → b ≡ true
right_of true b p = p
right_of false true p = refl
right_of false false p = p

-- each instruction of a well formed list is well formed
pub well_formed_at : (list : List Sym) (i : ℕ) (d : Sym) → are_well_formed list ≡ true → i < length list → is_well_formed (get_or list i d) ≡ true
well_formed_at [] i d all below = absurd (omega (arith, below))
well_formed_at (s ∷ list) zero d all below = left_of (is_well_formed s) (are_well_formed list) all
well_formed_at (s ∷ list) (suc i) d all below = well_formed_at list i d (right_of (is_well_formed s) (are_well_formed list) all) (omega (arith, below))
