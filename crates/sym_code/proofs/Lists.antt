-- One more instruction keeps what all keep.
use Rattle.std.proofs.Common.{◌≡◌, Bool, true, false, ◌&&◌, List, [], ◌∷◌, ◌++◌, refl, ap, ◌∙◌}
use Rattle.sym_code.specs.declared.code.Sym.{Sym}
use Rattle.sym_code.specs.WellFormed.{is_well_formed, are_well_formed}

both : (a b : Bool) → a ≡ true → b ≡ true → (a && b) ≡ true
both a b p q = ap (λ x. x && b) p ∙ q

left_of : (a b : Bool) → (a && b) ≡ true → a ≡ true
left_of true b p = refl
left_of false b p = p

right_of : (a b : Bool) → (a && b) ≡ true → b ≡ true
right_of true b p = p
right_of false true p = refl
right_of false false p = p

-- `are_well_formed` of one more
pub well_formed_more : (list : List Sym) (s : Sym) → are_well_formed list ≡ true → is_well_formed s ≡ true → are_well_formed (list ++ (s ∷ [])) ≡ true
well_formed_more [] s p q = both (is_well_formed s) true q refl
well_formed_more (x ∷ list) s p q = both (is_well_formed x) (are_well_formed (list ++ (s ∷ []))) (left_of (is_well_formed x) (are_well_formed list) p) (well_formed_more list s (right_of (is_well_formed x) (are_well_formed list) p) q)
