-- An array that waited stands once it is made.
use Rattle.std.proofs.Common.{◌≡◌, ℕ, Bool, true, false, not, ◌&&◌, List, [], ◌∷◌, refl, ap, ◌∙◌}
use Rattle.std.proofs.lemmas.Bool.{false≢true}
use Rattle.c_typed.specs.declared.types.Qualified.{Qualified}
use Rattle.c_typed.specs.declared.types.Ty.{Ty}
use Rattle.c_typed.specs.declared.types.Ty.TheVariants.{Void, Int, Pointer, Array, Struct}
use Rattle.type_rules.specs.Known.{Waiting, Whole, OneArray, TwoArrays, Never, is_waiting, Known, given}
use Rattle.type_rules.specs.Rows.{array_of, is_complete}
use Rattle.type_rules.specs.Specifiers.{Named, grown_by, grown, remade}
use Rattle.typed_laws.specs.Going.{Goes}
use Rattle.typed_laws.specs.Tables.{at, Stands, Orderly}
use Rattle.typed_laws.proofs.Steps.{goes_given, goes_on}
use Rattle.typed_laws.proofs.Structures.{array_goes}

-- Rows complete nothing.
complete_at : (known : Known) (ts us : List Qualified) (ty : Ty) → is_complete (at known ts) ty ≡ true → is_complete (at known us) ty ≡ true
complete_at known ts us Void h = h
complete_at known ts us (Int i) h = h
complete_at known ts us (Pointer row) h = h
complete_at known ts us (Array row n size) h = h
complete_at known ts us (Struct number) h = h

both_right : (a b : Bool) → a && b ≡ true → b ≡ true
both_right true b h = h
both_right false b h = absurd (false≢true h)

module _ (known : Known) where
  grown_goes : (ts : List Qualified) → Orderly (at known ts) → (n : ℕ) (inner : Named) → Stands (at known ts) (inner.ty).ty → Goes known ts (λ us w. Stands (at known us) (w.ty).ty) (grown n inner (at known ts))
  grown_goes ts o n inner h = by_test (not (is_waiting inner.waiting) && is_complete (at known ts) (inner.ty).ty) (both_right (not (is_waiting inner.waiting)) (is_complete (at known ts) (inner.ty).ty))
    where
      by_test : (b : Bool) → (b ≡ true → is_complete (at known ts) (inner.ty).ty ≡ true) → Goes known ts (λ us w. Stands (at known us) (w.ty).ty) (grown_by b n inner (at known ts))
      by_test false e = goes_given known _ _ ts o h
      by_test true e = goes_on known (λ us q. is_complete (at known us) (inner.ty).ty ≡ true → Stands (at known us) q.ty) _ ts (array_of inner.ty n (at known ts)) (λ ty. given (record { ty = ty; waiting = Whole })) (array_goes known ts o inner.ty n h)
          (λ q us adds ordered stands. goes_given known _ _ us ordered (stands (complete_at known ts us (inner.ty).ty (e refl))))

  pub remade_goes : (ts : List Qualified) → Orderly (at known ts) → (ty : Qualified) (waiting : Waiting) → Stands (at known ts) ty.ty → Goes known ts (λ us w. Stands (at known us) (w.ty).ty) (remade ty waiting (at known ts))
  remade_goes ts o ty Whole h = goes_given known _ _ ts o h
  remade_goes ts o ty (OneArray n) h = grown_goes ts o n (record { ty = ty; waiting = Whole }) h
  remade_goes ts o ty (TwoArrays n m) h = goes_on known (λ us w. Stands (at known us) (w.ty).ty) _ ts (grown m (record { ty = ty; waiting = Whole }) (at known ts)) (grown n) (grown_goes ts o m (record { ty = ty; waiting = Whole }) h)
      (λ inner us adds ordered stands. grown_goes us ordered n inner stands)
  remade_goes ts o ty Never h = goes_given known _ _ ts o h
