-- A row is found where those before it are below its address.
use Rattle.std.proofs.Common.{◌≡◌, ℕ, zero, suc, ◌+◌, ◌<◌, ◌≤◌, Bool, true, false, List, [], ◌∷◌, length, Some, None, refl, sym, ap, ◌∙◌, subst, arith}
use Rattle.std.specs.Prelude.{if◌then◌else◌, nat_eq, nat_lt, nat_le, slice_get, ◌&&◌}
use Rattle.std.proofs.lemmas.Bool.{and_parts, ne_eqb, ltb-true, ltb-false, leb-true, lt-ltb}
use Rattle.depth_check.specs.declared.Row.{Row}
use Rattle.depth_check.specs.Valid.{row_at, is_rising}
use Rattle.depth_check.specs.Ordered.{is_row_before, rows_before, row_if}

pub before_most : (rows : List Row) (at : ℕ) → rows_before rows at ≤ length rows
before_most [] at = omega arith
before_most (r ∷ rows) at = by (nat_lt r.at at) (before_most rows at) where
  by : (b : Bool) → rows_before rows at ≤ length rows → (if b then 1 + rows_before rows at else 0) ≤ suc (length rows)
  by true h = omega arith
  by false h = omega arith

-- all from a row on are at its address and above
above : (low : ℕ) (rows : List Row) (k : ℕ) (at : ℕ) → is_rising low rows ≡ true → is_row_before at (slice_get rows k) ≡ true → low < at
above low [] k at h e = absurd (cc)
above low (r ∷ rows) zero at h e =
    let a = and_parts _ (is_rising (r.at + 1) rows) h in
    let b = and_parts (nat_le low r.at) (nat_lt r.at 8192) a.0 in
    let l = leb-true low r.at b.0 in let m = ltb-true r.at at e in omega (arith, l, m)
above low (r ∷ rows) (suc k) at h e =
    let a = and_parts _ (is_rising (r.at + 1) rows) h in
    let b = and_parts (nat_le low r.at) (nat_lt r.at 8192) a.0 in
    let l = leb-true low r.at b.0 in let m = above (r.at + 1) rows k at a.1 e in omega (arith, l, m)

-- a row below the address is one of those
pub is_before : (low : ℕ) (rows : List Row) (k at : ℕ) → is_rising low rows ≡ true → is_row_before at (slice_get rows k) ≡ true → k < rows_before rows at
is_before low [] k at h e = absurd (cc)
is_before low (r ∷ rows) zero at h e = subst (λ b. 0 < (if b then 1 + rows_before rows at else 0)) (sym e) (omega arith)
is_before low (r ∷ rows) (suc k) at h e =
    let a = and_parts _ (is_rising (r.at + 1) rows) h in
    let m = above (r.at + 1) rows k at a.1 e in
    let i = is_before (r.at + 1) rows k at a.1 e in
    subst (λ b. suc k < (if b then 1 + rows_before rows at else 0)) (sym (lt-ltb r.at at (omega (arith, m)))) (omega (arith, i))

-- and one that isn't is none of them
pub not_before : (rows : List Row) (k at : ℕ) → k < length rows → is_row_before at (slice_get rows k) ≡ false → rows_before rows at ≤ k
not_before [] k at lt e = absurd (omega arith)
not_before (r ∷ rows) zero at lt e = subst (λ b. (if b then 1 + rows_before rows at else 0) ≤ 0) (sym e) (omega arith)
not_before (r ∷ rows) (suc k) at lt e = by (nat_lt r.at at) (not_before rows k at (omega arith) e) where
  by : (b : Bool) → rows_before rows at ≤ k → (if b then 1 + rows_before rows at else 0) ≤ suc k
  by true h = omega arith
  by false h = omega arith

none_at : (low : ℕ) (rows : List Row) (at : ℕ) → is_rising low rows ≡ true → at < low → row_at rows at ≡ None
none_at low [] at h lt = refl
none_at low (r ∷ rows) at h lt =
    let a = and_parts _ (is_rising (r.at + 1) rows) h in
    let b = and_parts (nat_le low r.at) (nat_lt r.at 8192) a.0 in
    let l = leb-true low r.at b.0 in
    ap (λ z. if z then Some r else row_at rows at) (ne_eqb r.at at (λ e. omega (arith, l, e))) ∙ none_at (r.at + 1) rows at a.1 (omega (arith, l))

pub there : (low : ℕ) (rows : List Row) (at : ℕ) → is_rising low rows ≡ true → row_at rows at ≡ row_if at (slice_get rows (rows_before rows at))
there low [] at h = refl
there low (r ∷ rows) at h = by (nat_lt r.at at) refl (there (r.at + 1) rows at a.1) where
  a : ((nat_le low r.at && nat_lt r.at 8192) ≡ true) × (is_rising (r.at + 1) rows ≡ true)
  a = and_parts (nat_le low r.at && nat_lt r.at 8192) (is_rising (r.at + 1) rows) h

  next : (k : ℕ) → slice_get (r ∷ rows) (1 + k) ≡ slice_get rows k
  next k = ap (slice_get (r ∷ rows)) (one k) where
    one : (k : ℕ) → 1 + k ≡ suc k
    one k = omega arith

  by : (b : Bool) → nat_lt r.at at ≡ b → row_at rows at ≡ row_if at (slice_get rows (rows_before rows at)) → (if nat_eq r.at at then Some r else row_at rows at) ≡ row_if at (slice_get (r ∷ rows) (if b then 1 + rows_before rows at else 0))
  by true e more = ap (λ z. if z then Some r else row_at rows at) (ne_eqb r.at at (λ q. let l = ltb-true r.at at e in omega (arith, l, q))) ∙ more ∙ ap (row_if at) (sym (next (rows_before rows at)))
  by false e more = ap (λ z. if nat_eq r.at at then Some r else z) (none_above (nat_eq r.at at) refl e) where
    none_above : (b : Bool) → nat_eq r.at at ≡ b → nat_lt r.at at ≡ false → row_at rows at ≡ None
    none_above b q e = none_at (r.at + 1) rows at a.1 (let l = ltb-false r.at at e in omega (arith, l))
