-- What was put without a change was there before.
use Rattle.std.proofs.Common.{◌≡◌, ℕ, ◌<◌, Bool, true, false, length, Option, Some, None, refl, subst}
use Rattle.std.specs.Prelude.{if◌then◌else◌}
use Rattle.std.proofs.lemmas.Bool.{lt-ltb}
use Rattle.depth_check.specs.declared.Facts.{Facts}
use Rattle.depth_check.specs.declared.tables.Spot.{Spot}
use Rattle.depth_check.specs.declared.tables.Out.{Out}
use Rattle.depth_check.specs.Facts.{fits}
use Rattle.depth_check.specs.Search.{Tables, spot_at, out_at, common, meet, with_spot, placed, put, with_out, knows, left, leave}

pub record WasThere (t : Tables) (at : ℕ) (x : Facts) : Type 0 where
  pub spot : Spot
  pub is : spot_at t at ≡ Some spot
  pub fit : fits x spot.facts ≡ true

pub put_quiet : (t : Tables) (at : ℕ) (s : Spot) → at < length t.spots → (put t at s).changed ≡ false → WasThere t at s.facts
put_quiet t at s lt q = at_any (spot_at t at) refl (subst (λ b. (if b then placed t at s (spot_at t at) else t).changed ≡ false) (lt-ltb at (length t.spots) lt) q) where
  at_old : (old : Spot) → spot_at t at ≡ Some old → (b : Bool) → fits s.facts old.facts ≡ b → (if b then t else with_spot t at (record old { facts = meet old.facts s.facts })).changed ≡ false → WasThere t at s.facts
  at_old old e true h q = record { spot = old; is = e; fit = h }
  at_old old e false h q = absurd (cc)

  at_any : (o : Option Spot) → spot_at t at ≡ o → (placed t at s o).changed ≡ false → WasThere t at s.facts
  at_any None e q = absurd (cc)
  at_any (Some old) e q = at_old old e (fits s.facts old.facts) refl q

pub record WasLeft (t : Tables) (entry : ℕ) (x : Facts) : Type 0 where
  pub out : Out
  pub is : out_at t entry ≡ Some out
  pub fit : knows x out ≡ true

pub leave_quiet : (t : Tables) (entry : ℕ) (x : Facts) → entry < length t.outs → (leave t entry x).changed ≡ false → WasLeft t entry x
leave_quiet t entry x lt q = at_any (out_at t entry) refl (subst (λ b. (if b then left t entry x (out_at t entry) else t).changed ≡ false) (lt-ltb entry (length t.outs) lt) q) where
  at_old : (o : Out) → out_at t entry ≡ Some o → (b : Bool) → knows x o ≡ b → (if b then t else with_out t entry (record { p3 = common o.p3 x.p3; p4 = common o.p4 x.p4 })).changed ≡ false → WasLeft t entry x
  at_old o e true h q = record { out = o; is = e; fit = h }
  at_old o e false h q = absurd (cc)

  at_any : (r : Option Out) → out_at t entry ≡ r → (left t entry x r).changed ≡ false → WasLeft t entry x
  at_any None e q = absurd (cc)
  at_any (Some o) e q = at_old o e (knows x o) refl q
