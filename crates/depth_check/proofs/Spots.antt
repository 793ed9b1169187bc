-- The tables of a search by address, and how much is left to find.
use Rattle.std.proofs.Common.{◌≡◌, ℕ, zero, suc, ◌+◌, ◌<◌, ◌≤◌, Bool, true, false, List, [], ◌∷◌, length, Option, Some, None, refl, ap, replicate, arith}
use Rattle.std.specs.Prelude.{◌&&◌, nat_eq, slice_index_or, slice_set}
use Rattle.std.proofs.lemmas.Bool.{eqb-true, eqb-false}
use Rattle.depth_check.specs.declared.Facts.{Facts}
use Rattle.depth_check.specs.declared.tables.Spot.{Spot}
use Rattle.depth_check.specs.declared.tables.Out.{Out}
use Rattle.depth_check.specs.Facts.{known_in, implies, fits}
use Rattle.depth_check.specs.Search.{common, meet, knows}
use Rattle.depth_check.specs.Found.{known_size, flag_size, facts_size, spot_size, out_size, spots_size, outs_size}

-- ---- a table at an address
pub index_same : {X : Type 0} (d : X) (xs : List X) (k : ℕ) (v : X) → k < length xs → slice_index_or (slice_set xs k v) k d ≡ v
index_same d [] k v lt = absurd (omega arith)
index_same d (x ∷ xs) zero v lt = refl
index_same d (x ∷ xs) (suc k) v lt = index_same d xs k v (omega arith)

pub index_other : {X : Type 0} (d : X) (xs : List X) (k j : ℕ) (v : X) → nat_eq k j ≡ false → slice_index_or (slice_set xs k v) j d ≡ slice_index_or xs j d
index_other d [] k j v e = refl
index_other d (x ∷ xs) zero zero v e = absurd (cc)
index_other d (x ∷ xs) zero (suc j) v e = refl
index_other d (x ∷ xs) (suc k) zero v e = refl
index_other d (x ∷ xs) (suc k) (suc j) v e = index_other d xs k j v (eq_pred k j e) where
  eq_pred : (k j : ℕ) → nat_eq (suc k) (suc j) ≡ false → nat_eq k j ≡ false
  eq_pred k j e = by (nat_eq k j) refl where
    by : (b : Bool) → nat_eq k j ≡ b → b ≡ false
    by true h = absurd (eqb-false (suc k) (suc j) e (ap suc (eqb-true k j h)))
    by false h = refl

pub index_length : {X : Type 0} (xs : List X) (k : ℕ) (v : X) → length (slice_set xs k v) ≡ length xs
index_length [] k v = refl
index_length (x ∷ xs) zero v = refl
index_length (x ∷ xs) (suc k) v = ap suc (index_length xs k v)

pub index_none : {X : Type 0} (d : X) (k n : ℕ) → slice_index_or (replicate k d) n d ≡ d
index_none d zero n = refl
index_none d (suc k) zero = refl
index_none d (suc k) (suc n) = index_none d k n

pub set_same : {X : Type 0} (xs : List (Option X)) (k : ℕ) (v : Option X) → k < length xs → slice_index_or (slice_set xs k v) k None ≡ v
set_same xs k v lt = index_same None xs k v lt

pub set_other : {X : Type 0} (xs : List (Option X)) (k j : ℕ) (v : Option X) → nat_eq k j ≡ false → slice_index_or (slice_set xs k v) j None ≡ slice_index_or xs j None
set_other xs k j v e = index_other None xs k j v e

pub set_length : {X : Type 0} (xs : List (Option X)) (k : ℕ) (v : Option X) → length (slice_set xs k v) ≡ length xs
set_length xs k v = index_length xs k v

pub within : {X : Type 0} (xs : List (Option X)) (k : ℕ) (v : X) → slice_index_or xs k None ≡ Some v → k < length xs
within [] k v e = absurd (cc)
within (x ∷ xs) zero v e = omega arith
within (x ∷ xs) (suc k) v e = let h = within xs k v e in omega arith

-- ---- what is left
pub set_spots_size : (xs : List (Option Spot)) (k : ℕ) (v : Option Spot) → k < length xs → spots_size (slice_set xs k v) + spot_size (slice_index_or xs k None) ≡ spots_size xs + spot_size v
set_spots_size [] k v lt = absurd (omega arith)
set_spots_size (x ∷ xs) zero v lt = omega arith
set_spots_size (x ∷ xs) (suc k) v lt = let h = set_spots_size xs k v (omega arith) in omega arith

pub set_outs_size : (xs : List (Option Out)) (k : ℕ) (v : Option Out) → k < length xs → outs_size (slice_set xs k v) + out_size (slice_index_or xs k None) ≡ outs_size xs + out_size v
set_outs_size [] k v lt = absurd (omega arith)
set_outs_size (x ∷ xs) zero v lt = omega arith
set_outs_size (x ∷ xs) (suc k) v lt = let h = set_outs_size xs k v (omega arith) in omega arith

known_most : (a : Option Bool) → known_size a ≤ 1
known_most None = omega arith
known_most (Some b) = omega arith

flag_most : (b : Bool) → flag_size b ≤ 1
flag_most true = omega arith
flag_most false = omega arith

pub facts_most : (x : Facts) → facts_size x ≤ 5
facts_most x =
    let a = known_most x.p3 in let b = known_most x.p4 in let c = flag_most x.orig in let d = flag_most x.w_orig in let e = flag_most x.saved in
    omega arith

pub two_most : (a b : Option Bool) → known_size a + known_size b ≤ 2
two_most a b = let x = known_most a in let y = known_most b in omega arith

-- what is known both here and there is no more; less where there is no such known value there
common_size : (a b : Option Bool) → known_size (common a b) ≤ known_size a
common_size None b = omega arith
common_size (Some true) None = omega arith
common_size (Some true) (Some true) = omega arith
common_size (Some true) (Some false) = omega arith
common_size (Some false) None = omega arith
common_size (Some false) (Some true) = omega arith
common_size (Some false) (Some false) = omega arith

common_less : (a b : Option Bool) → known_in a b ≡ false → known_size (common a b) < known_size a
common_less None b e = absurd (cc)
common_less (Some true) None e = omega arith
common_less (Some true) (Some true) e = absurd (cc)
common_less (Some true) (Some false) e = omega arith
common_less (Some false) None e = omega arith
common_less (Some false) (Some true) e = omega arith
common_less (Some false) (Some false) e = absurd (cc)

both_size : (a b : Bool) → flag_size (a && b) ≤ flag_size a
both_size true true = omega arith
both_size true false = omega arith
both_size false b = omega arith

both_less : (a b : Bool) → implies a b ≡ false → flag_size (a && b) < flag_size a
both_less true true e = absurd (cc)
both_less true false e = omega arith
both_less false b e = absurd (cc)

pub meet_least : (x y : Facts) → facts_size (meet x y) ≤ facts_size x
meet_least x y =
    let a = common_size x.p3 y.p3 in let b = common_size x.p4 y.p4 in let c = both_size x.orig y.orig in let d = both_size x.w_orig y.w_orig in let e = both_size x.saved y.saved in
    omega arith

pub meet_less : (x y : Facts) → fits y x ≡ false → facts_size (meet x y) < facts_size x
meet_less x y h = by (known_in x.p3 y.p3) (known_in x.p4 y.p4) (implies x.orig y.orig) (implies x.w_orig y.w_orig) (implies x.saved y.saved) refl refl refl refl refl h where
  a : known_size (common x.p3 y.p3) ≤ known_size x.p3
  a = common_size x.p3 y.p3

  b : known_size (common x.p4 y.p4) ≤ known_size x.p4
  b = common_size x.p4 y.p4

  c : flag_size (x.orig && y.orig) ≤ flag_size x.orig
  c = both_size x.orig y.orig

  d : flag_size (x.w_orig && y.w_orig) ≤ flag_size x.w_orig
  d = both_size x.w_orig y.w_orig

  e : flag_size (x.saved && y.saved) ≤ flag_size x.saved
  e = both_size x.saved y.saved

  by : (p q r s t : Bool) → known_in x.p3 y.p3 ≡ p → known_in x.p4 y.p4 ≡ q → implies x.orig y.orig ≡ r → implies x.w_orig y.w_orig ≡ s → implies x.saved y.saved ≡ t
      → (p && q && r && s && t) ≡ false → facts_size (meet x y) < facts_size x
  by false q r s t i j k l m h = let z = common_less x.p3 y.p3 i in omega (arith, a, b, c, d, e, z)
  by true false r s t i j k l m h = let z = common_less x.p4 y.p4 j in omega (arith, a, b, c, d, e, z)
  by true true false s t i j k l m h = let z = both_less x.orig y.orig k in omega (arith, a, b, c, d, e, z)
  by true true true false t i j k l m h = let z = both_less x.w_orig y.w_orig l in omega (arith, a, b, c, d, e, z)
  by true true true true false i j k l m h = let z = both_less x.saved y.saved m in omega (arith, a, b, c, d, e, z)
  by true true true true true i j k l m h = absurd (cc)

pub out_less : (x : Facts) (o : Out) → knows x o ≡ false → known_size (common o.p3 x.p3) + known_size (common o.p4 x.p4) < known_size o.p3 + known_size o.p4
out_less x o h = by (known_in o.p3 x.p3) (known_in o.p4 x.p4) refl refl h where
  a : known_size (common o.p3 x.p3) ≤ known_size o.p3
  a = common_size o.p3 x.p3

  b : known_size (common o.p4 x.p4) ≤ known_size o.p4
  b = common_size o.p4 x.p4

  by : (p q : Bool) → known_in o.p3 x.p3 ≡ p → known_in o.p4 x.p4 ≡ q → (p && q) ≡ false → known_size (common o.p3 x.p3) + known_size (common o.p4 x.p4) < known_size o.p3 + known_size o.p4
  by false q i j h = let z = common_less o.p3 x.p3 i in omega (arith, a, b, z)
  by true false i j h = let z = common_less o.p4 x.p4 j in omega (arith, a, b, z)
  by true true i j h = absurd (cc)
