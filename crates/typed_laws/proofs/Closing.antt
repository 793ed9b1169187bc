-- An array without a length takes it from its initializer.
use Rattle.std.proofs.Common.{◌≡◌, ℕ, ◌*◌, ◌<◌, ◌≤◌, Bool, true, false, not, ◌&&◌, ◌||◌, if◌then◌else◌, nat_eq, nat_le, List, [], ◌∷◌, Option, Some, refl, sym, ap, ◌∙◌, subst, arith}
use native.Mathlib.Nat.{mul_comm}
use Rattle.std.proofs.lemmas.Bool.{and_parts, and_from, or_left, or_right, false≢true}
use Rattle.std.proofs.lemmas.Grind.{common_steps}
use Rattle.c_typed.specs.Fits.{is_open}
use Rattle.c_typed.specs.Sameness.{same_flag, same_qualified, is_array}
use Rattle.c_typed.specs.Types.{kept}
use Rattle.c_typed.specs.declared.types.Qualified.{Qualified}
use Rattle.c_typed.specs.declared.types.Ty.{Ty}
use Rattle.c_typed.specs.declared.types.Ty.TheVariants.{Void, Int, Pointer, Array, Struct}
use Rattle.type_rules.specs.Faults as kind
use Rattle.type_rules.specs.Initializers.{is_unsized}
use Rattle.type_rules.specs.Known.{Known, given, tried, go_on}
use Rattle.type_rules.specs.Objects.{sized, closed_array, closed_by, closed}
use Rattle.type_rules.specs.Rows.{plain, like, place_of_row, target_of, bytes_of, is_complete}
use Rattle.typed_laws.specs.Going.{Goes}
use Rattle.typed_laws.specs.Living.{LocalTo}
use Rattle.typed_laws.specs.Objects.{IsDeclaredAs, IsClosed}
use Rattle.typed_laws.specs.Tables.{at, IsElement, Stands, Orderly, Adds}
use Rattle.typed_laws.proofs.Chains.{kept_exact}
use Rattle.typed_laws.proofs.Meeting.{target_is}
use Rattle.typed_laws.proofs.Operators.{not_false}
use Rattle.typed_laws.proofs.Parts.{element_small}
use Rattle.typed_laws.proofs.Same.{same_nat, same_nat_refl, same_flag_refl, same_qualified_refl}
use Rattle.typed_laws.proofs.Steps.{goes_given, goes_on, goes_test, goes_wanted}
use Rattle.typed_laws.proofs.Structures.{array_exact}

-- the same type
itself : (q : Qualified) → LocalTo q q
itself q = or_left (same_qualified q q) _ (same_qualified_refl q)

plain_is : (q : Qualified) → q.constant ≡ false → q.volatile ≡ false → plain q.ty ≡ q
plain_is q c v = λ i. record { ty = q.ty; constant = sym c i; volatile = sym v i }

le_test : (m n : ℕ) → nat_le m n ≡ true → m ≤ n
le_test m n h = grind (arith, common_steps)

module _ (known : Known) (ts : List Qualified) (o : Orderly (at known ts)) where
  stays : (ty : Ty) (c v begun : Bool) (count : Option ℕ) → is_unsized ty ≡ false → IsDeclaredAs (at known ts) begun (record { ty = ty; constant = c; volatile = v }) → is_complete (at known ts) ty ≡ true
      → IsClosed (at known ts) (at known ts) (record { ty = ty; constant = c; volatile = v }) count (record { ty = ty; constant = c; volatile = v })
  stays ty c v begun count sized h complete = record {
    sized = record { stands = h.stands; complete = complete; small = h.small };
    constant = refl;
    to = itself (record { ty = ty; constant = c; volatile = v });
    same = λ e. refl;
    many = λ e. absurd (false≢true (sym sized ∙ e));
    room = λ e. absurd (false≢true (sym sized ∙ e));
  }

  array_closed : (row m size : ℕ) (c v : Bool) (count : Option ℕ) (line : ℕ) → nat_eq m 0 ≡ true → Stands (at known ts) (Array row m size) → ((n : ℕ) → count ≡ Some n → 0 < n)
      → Goes known ts (λ us w. IsClosed (at known ts) (at known us) (record { ty = Array row m size; constant = c; volatile = v }) count w) (closed_array (record { ty = Array row m size; constant = c; volatile = v }) row count line (at known ts))
  array_closed row m size c v count line empty stands some = goes_wanted known _ ts count kind.Initializer line _
      (λ n is. goes_on known _ _ ts _ (λ whole. λ k. go_on (λ u. given whole) (tried ((not (sized k whole n), kind.Size) ∷ []) line k))
      (array_exact known ts o (like (record { ty = Array row m size; constant = c; volatile = v }) (target_of (at known ts) row).ty) n target_stands)
      (λ w us adds ordered facts. goes_test known _ us (not (sized (at known us) w n)) kind.Size line _
      (λ free. goes_given known _ _ us ordered (ends n is us adds ordered w facts (not_false (sized (at known us) w n) free)))))
    where
      target : target_of (at known ts) row ≡ stands.0
      target = target_is (at known ts) row stands.0 stands.1

      element : IsElement (at known ts) stands.0 m size
      element = stands.2

      target_stands : Stands (at known ts) (target_of (at known ts) row).ty
      target_stands = subst (λ (z : Qualified). Stands (at known ts) z.ty) (sym target) (o.rows row stands.0 stands.1)

      target_complete : is_complete (at known ts) (target_of (at known ts) row).ty ≡ true
      target_complete = ap (λ (z : Qualified). is_complete (at known ts) z.ty) target ∙ element.stands

      row_is : place_of_row ts (plain (target_of (at known ts) row).ty) ≡ row
      row_is = ap (λ (z : Qualified). place_of_row ts (plain z.ty)) target ∙ (ap (place_of_row ts) (plain_is stands.0 element.constant element.volatile) ∙ o.distinct row stands.0 stands.1)

      size_is : size ≡ 0
      size_is = element.whole ∙ ap (λ k. kept (k * bytes_of (at known ts) (stands.0).ty)) (same_nat m 0 empty) ∙ ap kept (none (bytes_of (at known ts) (stands.0).ty))
        where
          none : (k : ℕ) → 0 * k ≡ 0
          none k = omega arith

      open_is : (n s : ℕ) → is_open (Array (place_of_row ts (plain (target_of (at known ts) row).ty)) n s) (Array row m size) ≡ true
      open_is n s = and_from (nat_eq (place_of_row ts (plain (target_of (at known ts) row).ty)) row) (nat_eq m 0 && nat_eq size 0)
          (ap (λ k. nat_eq k row) row_is ∙ same_nat_refl row) (and_from (nat_eq m 0) (nat_eq size 0) empty (ap (λ k. nat_eq k 0) size_is))

      ends : (n : ℕ) → count ≡ Some n → (us : List Qualified) → Adds ts us → Orderly (at known us) → (w : Qualified)
          → (w ≡ like (like (record { ty = Array row m size; constant = c; volatile = v }) (target_of (at known ts) row).ty) (Array (place_of_row ts (plain (target_of (at known ts) row).ty)) n (kept (n * bytes_of (at known ts) (target_of (at known ts) row).ty)))) × (is_complete (at known us) (target_of (at known ts) row).ty ≡ true → Stands (at known us) w.ty)
          → sized (at known us) w n ≡ true → IsClosed (at known ts) (at known us) (record { ty = Array row m size; constant = c; volatile = v }) count w
      ends n is us adds ordered w facts fits = subst (IsClosed (at known ts) (at known us) (record { ty = Array row m size; constant = c; volatile = v }) count) (sym facts.0) (record {
        sized = record {
          stands = subst (λ (z : Qualified). Stands (at known us) z.ty) facts.0 (facts.1 target_complete);
          complete = some_complete n (some n is);
          small = small;
        };
        constant = refl;
        to = or_right (same_qualified (record { ty = Array (place_of_row ts (plain (target_of (at known ts) row).ty)) n (kept (n * bytes_of (at known ts) (target_of (at known ts) row).ty)); constant = c; volatile = v }) (record { ty = Array row m size; constant = c; volatile = v })) (true && (is_open (Array (place_of_row ts (plain (target_of (at known ts) row).ty)) n (kept (n * bytes_of (at known ts) (target_of (at known ts) row).ty))) (Array row m size) && (same_flag c c && same_flag v v))) (and_from (is_open (Array (place_of_row ts (plain (target_of (at known ts) row).ty)) n (kept (n * bytes_of (at known ts) (target_of (at known ts) row).ty))) (Array row m size)) (same_flag c c && same_flag v v) (open_is n (kept (n * bytes_of (at known ts) (target_of (at known ts) row).ty)))
            (and_from (same_flag c c) (same_flag v v) (same_flag_refl c) (same_flag_refl v)));
        same = λ e. absurd (false≢true (sym e ∙ empty));
        many = λ e. refl;
        room = λ e. (n, is, few, exact ∙ mul_comm n (bytes_of (at known ts) (target_of (at known ts) row).ty));
      })
        where
          some_complete : (n : ℕ) → 0 < n → not (nat_eq n 0) ≡ true
          some_complete n h = grind (arith, common_steps)

          small : kept (n * bytes_of (at known ts) (target_of (at known ts) row).ty) ≤ 65535
          small = le_test (kept (n * bytes_of (at known ts) (target_of (at known ts) row).ty)) 65535
              (ap (λ (z : Qualified). nat_le (bytes_of (at known us) z.ty) 65535) (sym facts.0) ∙ (and_parts (nat_le n 65535) (nat_le (bytes_of (at known us) w.ty) 65535) fits).1)

          few : bytes_of (at known ts) (target_of (at known ts) row).ty ≤ 65535
          few = element_small n (bytes_of (at known ts) (target_of (at known ts) row).ty) (kept (n * bytes_of (at known ts) (target_of (at known ts) row).ty)) (some n is) refl small

          exact : kept (n * bytes_of (at known ts) (target_of (at known ts) row).ty) ≡ n * bytes_of (at known ts) (target_of (at known ts) row).ty
          exact = kept_exact (n * bytes_of (at known ts) (target_of (at known ts) row).ty) (omega (arith, small))

  array_or : (b : Bool) (row m size : ℕ) (c v begun : Bool) (count : Option ℕ) (line : ℕ) → nat_eq m 0 ≡ b → IsDeclaredAs (at known ts) begun (record { ty = Array row m size; constant = c; volatile = v }) → (b ≡ true → (n : ℕ) → count ≡ Some n → 0 < n)
      → Goes known ts (λ us w. IsClosed (at known ts) (at known us) (record { ty = Array row m size; constant = c; volatile = v }) count w)
      ((if b then closed_array (record { ty = Array row m size; constant = c; volatile = v }) row count line else given (record { ty = Array row m size; constant = c; volatile = v })) (at known ts))
  array_or true row m size c v begun count line e h some = array_closed row m size c v count line e h.stands (some refl)
  array_or false row m size c v begun count line e h some = goes_given known _ _ ts o (stays (Array row m size) c v begun count e h (ap not e))

  any_complete : (ty : Ty) (begun : Bool) → is_array ty ≡ false → ((begun && is_array ty) || is_complete (at known ts) ty) ≡ true → is_complete (at known ts) ty ≡ true
  any_complete ty true other h = by_test (is_array ty) other h
    where
      by_test : (b : Bool) → b ≡ false → (b || is_complete (at known ts) ty) ≡ true → is_complete (at known ts) ty ≡ true
      by_test true e g = absurd (false≢true (sym e))
      by_test false e g = g
  any_complete ty false other h = h

  closed_type : (ty : Ty) (c v begun : Bool) (count : Option ℕ) (line : ℕ) → IsDeclaredAs (at known ts) begun (record { ty = ty; constant = c; volatile = v }) → (is_unsized ty ≡ true → (n : ℕ) → count ≡ Some n → 0 < n)
      → Goes known ts (λ us w. IsClosed (at known ts) (at known us) (record { ty = ty; constant = c; volatile = v }) count w) (closed_by ty (record { ty = ty; constant = c; volatile = v }) count line (at known ts))
  closed_type Void c v begun count line h some = goes_given known _ _ ts o (stays Void c v begun count refl h (any_complete Void begun refl h.whole))
  closed_type (Int i) c v begun count line h some = goes_given known _ _ ts o (stays (Int i) c v begun count refl h refl)
  closed_type (Pointer row) c v begun count line h some = goes_given known _ _ ts o (stays (Pointer row) c v begun count refl h refl)
  closed_type (Array row m size) c v begun count line h some = array_or (nat_eq m 0) row m size c v begun count line refl h some
  closed_type (Struct number) c v begun count line h some = goes_given known _ _ ts o (stays (Struct number) c v begun count refl h (any_complete (Struct number) begun refl h.whole))

  pub closed_goes : (q : Qualified) (begun : Bool) (count : Option ℕ) (line : ℕ) → IsDeclaredAs (at known ts) begun q → (is_unsized q.ty ≡ true → (n : ℕ) → count ≡ Some n → 0 < n) → Goes known ts (λ us w. IsClosed (at known ts) (at known us) q count w) (closed q count line (at known ts))
  closed_goes q begun count line h some = closed_type q.ty q.constant q.volatile begun count line h some
