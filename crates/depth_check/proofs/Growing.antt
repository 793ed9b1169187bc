-- A step of a search finds what each valid certificate has, and leaves less to be found.
use Rattle.std.proofs.Common.{◌≡◌, ℕ, ◌<◌, Bool, true, false, List, [], length, Option, Some, None, inl, inr, refl, sym, ap, ◌∙◌, subst, ⊎_elim, arith}
use Rattle.std.specs.Prelude.{if◌then◌else◌, not, ◌&&◌, nat_eq, nat_lt, ◌⊎◌}
use Rattle.std.proofs.lemmas.Bool.{or_cases, or_left, or_right, eqb-true, ltb-true}
use Rattle.depth_check.specs.declared.Facts.{Facts}
use Rattle.depth_check.specs.declared.Row.{Row}
use Rattle.depth_check.specs.declared.tables.Spot.{Spot}
use Rattle.depth_check.specs.declared.tables.Out.{Out}
use Rattle.depth_check.specs.Certificate.{Certificate}
use Rattle.depth_check.specs.Facts.{fits}
use Rattle.depth_check.specs.Valid.{routine, row_at, is_bare}
use Rattle.depth_check.specs.Search.{Tables, spot_at, out_at, common, meet, with_spot, placed, put, with_out, knows, left, leave}
use Rattle.depth_check.specs.Found.{spot_size, out_size, facts_size, number, IsPlaced, Owns, IsLeft, is_bare_spot, IsUnder, Moves, Goes}
use Rattle.depth_check.proofs.Below.{less_of, fits_of, meet_above, common_above}
use Rattle.depth_check.proofs.Complete.{same_row}
use Rattle.depth_check.proofs.Spots.{set_same, set_other, set_length, set_spots_size, set_outs_size, facts_most, two_most, meet_less, out_less}

pub inside : {X : Type 0} (a b : X) → Some a ≡ Some b → a ≡ b
inside a b e = cc

-- ---- one after the other
pub moves_same : (t : Tables) → Moves t t
moves_same t = record { interrupts = refl; cell = refl; spots = refl; outs = refl; quiet = λ e. (e, refl); least = omega arith; less = λ e. inl e }

pub moves_then : (t u v : Tables) → Moves t u → Moves u v → Moves t v
moves_then t u v f g = record {
  interrupts = g.interrupts ∙ f.interrupts;
  cell = g.cell ∙ f.cell;
  spots = g.spots ∙ f.spots;
  outs = g.outs ∙ f.outs;
  quiet = λ e. let b = g.quiet e in let a = f.quiet b.0 in (a.0, b.1 ∙ a.1);
  least = (let a = f.least in let b = g.least in omega arith);
  less = λ e. ⊎_elim
      (λ h. ⊎_elim (λ k. inl k) (λ k. inr (let b = g.least in omega arith)) (f.less h))
      (λ h. inr (let a = f.least in omega arith)) (g.less e);
}

pub goes_same : (image : List ℕ) (t : Tables) → Goes image t t
goes_same image t = record { moves = moves_same t; keeps = λ c v k i u. u }

pub goes_then : (image : List ℕ) (t u v : Tables) → Goes image t u → Goes image u v → Goes image t v
goes_then image t u v f g = record {
  moves = moves_then t u v f.moves g.moves;
  keeps = λ c w k i h. g.keeps c w (k ∙ sym f.moves.cell) (i ∙ sym f.moves.interrupts) (f.keeps c w k i h);
}

-- ---- a row is put
-- it is in the certificate, its routine was found, and a row there stays in its routine
pub record Fits (image : List ℕ) (c : Certificate) (t : Tables) (at : ℕ) (s : Spot) : Type 0 where
  pub placed : IsPlaced c at s
  pub owner : (s.entry ≡ at) ⊎ Owns t s.entry
  pub bare : is_bare_spot c.interrupts s ≡ true

module _ (image : List ℕ) (t : Tables) (at : ℕ) (s : Spot) (lt : at < length t.spots) where
  abbrev new : Tables
  new = with_spot t at s

  here : spot_at new at ≡ Some s
  here = set_same t.spots at (Some s) lt

  there : (k : ℕ) → nat_eq at k ≡ false → spot_at new k ≡ spot_at t k
  there k e = set_other t.spots at k (Some s) e

  owns_after : (entry : ℕ) → ((y : Spot) → spot_at t at ≡ Some y → s.entry ≡ y.entry) → Owns t entry → Owns new entry
  owns_after entry same o = by (nat_eq at entry) refl where
    by : (b : Bool) → nat_eq at entry ≡ b → Owns new entry
    by true e = let k = eqb-true at entry e in
        record { spot = s; is = subst (λ z. spot_at new z ≡ Some s) k here; same = same o.spot (subst (λ z. spot_at t z ≡ Some o.spot) (sym k) o.is) ∙ o.same }
    by false e = record { spot = o.spot; is = there entry e ∙ o.is; same = o.same }

  module _ (c : Certificate) (same : (y : Spot) → spot_at t at ≡ Some y → s.entry ≡ y.entry) (u : IsUnder image c t) (f : Fits image c t at s) where
    owns_new : Owns new s.entry
    owns_new = ⊎_elim (λ e. subst (Owns new) (sym e) (record { spot = s; is = here; same = e })) (λ o. owns_after s.entry same o) f.owner

    -- what holds of the row put, and of each row before, holds of each row now
    each : (P : ℕ → Spot → Type 0) → P at s → ((k : ℕ) (y : Spot) → spot_at t k ≡ Some y → P k y) → (k : ℕ) (y : Spot) → spot_at new k ≡ Some y → P k y
    each P p old k y e = by (nat_eq at k) refl where
      by : (b : Bool) → nat_eq at k ≡ b → P k y
      by true h = let q = eqb-true at k h in
          subst (λ z. P z y) q (subst (P at) (inside s y (sym here ∙ subst (λ z. spot_at new z ≡ Some y) (sym q) e)) p)
      by false h = old k y (sym (there k h) ∙ e)

    left_after : (entry : ℕ) (o : Out) → IsLeft image c t entry o → IsLeft image c new entry o
    left_after entry o l = by (nat_eq at l.at) refl where
      by : (b : Bool) → nat_eq at l.at ≡ b → IsLeft image c new entry o
      by true e = let k = eqb-true at l.at e in
          record {
            at = l.at;
            spot = s;
            is = subst (λ z. spot_at new z ≡ Some s) k here;
            same = same l.spot (subst (λ z. spot_at t z ≡ Some l.spot) (sym k) l.is) ∙ l.same;
            leaves = l.leaves;
            p3 = l.p3;
            p4 = l.p4;
          }
      by false e = record { at = l.at; spot = l.spot; is = there l.at e ∙ l.is; same = l.same; leaves = l.leaves; p3 = l.p3; p4 = l.p4 }

    pub under_spot : IsUnder image c new
    under_spot = record {
      placed = each (λ k y. IsPlaced c k y) f.placed u.placed;
      owned = each (λ k y. Owns new y.entry) owns_new (λ k y e. owns_after y.entry same (u.owned k y e));
      bare = each (λ k y. is_bare_spot c.interrupts y ≡ true) f.bare u.bare;
      left = λ entry o e. left_after entry o (u.left entry o e);
    }

  pub spot_moves : facts_size s.facts < spot_size (spot_at t at) → Moves t new
  spot_moves small = record {
    interrupts = refl;
    cell = refl;
    spots = set_length t.spots at (Some s);
    outs = refl;
    quiet = λ e. absurd (cc);
    least = (let z = set_spots_size t.spots at (Some s) lt in omega (arith, z, small));
    less = λ e. inr (let z = set_spots_size t.spots at (Some s) lt in omega (arith, z, small));
  }

-- two rows of the search at one address are rows of one routine
pub same_spot : (c : Certificate) (at : ℕ) (a b : Spot) → IsPlaced c at a → IsPlaced c at b → a.entry ≡ b.entry
same_spot c at a b p q = sym p.entry_is ∙ ap (λ (r : Row). (routine c r.routine).entry) (same_row (row_at c.rows at) p.row q.row p.is q.is) ∙ q.entry_is

bare_meet : (k : Bool) (a b : Spot) → is_bare_spot k a ≡ true → is_bare_spot k (record a { facts = meet a.facts b.facts }) ≡ true
bare_meet k a b h = ⊎_elim
    (λ e. or_left (k && nat_eq a.entry 4) (is_bare (meet a.facts b.facts)) e)
    (λ e. or_right (k && nat_eq a.entry 4) (is_bare (meet a.facts b.facts)) (flags a.facts.orig a.facts.w_orig a.facts.saved b.facts.orig b.facts.w_orig b.facts.saved e))
    (or_cases (k && nat_eq a.entry 4) (is_bare a.facts) h) where
      flags : (p q r x y z : Bool) → (not p && not q && not r) ≡ true → (not (p && x) && not (q && y) && not (r && z)) ≡ true
      flags false false false x y z e = refl
      flags true q r x y z e = absurd (cc)
      flags false true r x y z e = absurd (cc)
      flags false false true x y z e = absurd (cc)

meet_fits : (image : List ℕ) (c : Certificate) (t : Tables) (at : ℕ) (s old : Spot) → spot_at t at ≡ Some old → IsUnder image c t → Fits image c t at s → Fits image c t at (record old { facts = meet old.facts s.facts })
meet_fits image c t at s old e u f =
    let p = u.placed at old e in
    let q = f.placed in
    let r = same_row (row_at c.rows at) q.row p.row q.is p.is in
    let m = meet_above old.facts s.facts p.row.facts (less_of old.facts p.row.facts p.fit) (less_of s.facts p.row.facts (subst (λ (z : Row). fits s.facts z.facts ≡ true) r q.fit)) in
    record {
      placed = record { row = p.row; is = p.is; number_is = p.number_is; entry_is = p.entry_is; isr_is = p.isr_is; fit = fits_of (meet old.facts s.facts) p.row.facts m };
      owner = inr (u.owned at old e);
      bare = bare_meet c.interrupts old s (u.bare at old e);
    }

pub put_moves : (t : Tables) (at : ℕ) (s : Spot) → Moves t (put t at s)
put_moves t at s = by (nat_lt at (length t.spots)) refl where
  at_old : (lt : at < length t.spots) (old : Spot) → spot_at t at ≡ Some old → (b : Bool) → fits s.facts old.facts ≡ b → Moves t (if b then t else with_spot t at (record old { facts = meet old.facts s.facts }))
  at_old lt old e true h = moves_same t
  at_old lt old e false h = spot_moves [] t at (record old { facts = meet old.facts s.facts }) lt (subst (λ o. facts_size (meet old.facts s.facts) < spot_size o) (sym e) (meet_less old.facts s.facts h))

  at_any : (lt : at < length t.spots) (o : Option Spot) → spot_at t at ≡ o → Moves t (placed t at s o)
  at_any lt None e = spot_moves [] t at s lt (subst (λ o. facts_size s.facts < spot_size o) (sym e) (let m = facts_most s.facts in omega (arith, m)))
  at_any lt (Some old) e = at_old lt old e (fits s.facts old.facts) refl

  by : (b : Bool) → nat_lt at (length t.spots) ≡ b → Moves t (if b then placed t at s (spot_at t at) else t)
  by true e = at_any (ltb-true at (length t.spots) e) (spot_at t at) refl
  by false e = moves_same t

pub put_keeps : (image : List ℕ) (c : Certificate) (t : Tables) (at : ℕ) (s : Spot) → IsUnder image c t → Fits image c t at s → IsUnder image c (put t at s)
put_keeps image c t at s u f = by (nat_lt at (length t.spots)) refl where
  at_old : (lt : at < length t.spots) (old : Spot) → spot_at t at ≡ Some old → (b : Bool) → IsUnder image c (if b then t else with_spot t at (record old { facts = meet old.facts s.facts }))
  at_old lt old e true = u
  at_old lt old e false = under_spot image t at (record old { facts = meet old.facts s.facts }) lt c (λ y q. ap (λ (z : Spot). z.entry) (inside old y (sym e ∙ q))) u (meet_fits image c t at s old e u f)

  at_any : (lt : at < length t.spots) (o : Option Spot) → spot_at t at ≡ o → IsUnder image c (placed t at s o)
  at_any lt None e = under_spot image t at s lt c (λ y q. absurd (cc)) u f
  at_any lt (Some old) e = at_old lt old e (fits s.facts old.facts)

  by : (b : Bool) → nat_lt at (length t.spots) ≡ b → IsUnder image c (if b then placed t at s (spot_at t at) else t)
  by true e = at_any (ltb-true at (length t.spots) e) (spot_at t at) refl
  by false e = u

-- a routine that was found stays found
pub owns_put : (t : Tables) (at : ℕ) (s : Spot) (entry : ℕ) → Owns t entry → Owns (put t at s) entry
owns_put t at s entry o = by (nat_lt at (length t.spots)) refl where
  at_old : (lt : at < length t.spots) (old : Spot) → spot_at t at ≡ Some old → (b : Bool) → Owns (if b then t else with_spot t at (record old { facts = meet old.facts s.facts })) entry
  at_old lt old e true = o
  at_old lt old e false = owns_after [] t at (record old { facts = meet old.facts s.facts }) lt entry (λ y q. ap (λ (z : Spot). z.entry) (inside old y (sym e ∙ q))) o

  at_any : (lt : at < length t.spots) (r : Option Spot) → spot_at t at ≡ r → Owns (placed t at s r) entry
  at_any lt None e = owns_after [] t at s lt entry (λ y q. absurd (cc)) o
  at_any lt (Some old) e = at_old lt old e (fits s.facts old.facts)

  by : (b : Bool) → nat_lt at (length t.spots) ≡ b → Owns (if b then placed t at s (spot_at t at) else t) entry
  by true e = at_any (ltb-true at (length t.spots) e) (spot_at t at) refl
  by false e = o

-- ---- a routine is left
module _ (image : List ℕ) (t : Tables) (entry : ℕ) (o : Out) (lt : entry < length t.outs) where
  abbrev now : Tables
  now = with_out t entry o

  out_here : out_at now entry ≡ Some o
  out_here = set_same t.outs entry (Some o) lt

  left_same : (c : Certificate) (k : ℕ) (p : Out) → IsLeft image c t k p → IsLeft image c now k p
  left_same c k p l = record { at = l.at; spot = l.spot; is = l.is; same = l.same; leaves = l.leaves; p3 = l.p3; p4 = l.p4 }

  pub under_out : (c : Certificate) → IsUnder image c t → IsLeft image c t entry o → IsUnder image c now
  under_out c u l = record {
    placed = u.placed;
    owned = λ at s e. let q = u.owned at s e in record { spot = q.spot; is = q.is; same = q.same };
    bare = u.bare;
    left = λ k p e. by k p e (nat_eq entry k) refl;
  } where
    by : (k : ℕ) (p : Out) → out_at now k ≡ Some p → (b : Bool) → nat_eq entry k ≡ b → IsLeft image c now k p
    by k p e true h =
        let q = eqb-true entry k h in
        left_same c k p (subst (λ z. IsLeft image c t z p) q (subst (IsLeft image c t entry) (inside o p (sym out_here ∙ subst (λ z. out_at now z ≡ Some p) (sym q) e)) l))
    by k p e false h = left_same c k p (u.left k p (sym (set_other t.outs entry k (Some o) h) ∙ e))

  pub out_moves : out_size (Some o) < out_size (out_at t entry) → Moves t now
  out_moves small = record {
    interrupts = refl;
    cell = refl;
    spots = refl;
    outs = set_length t.outs entry (Some o);
    quiet = λ e. absurd (cc);
    least = (let z = set_outs_size t.outs entry (Some o) lt in omega (arith, z, small));
    less = λ e. inr (let z = set_outs_size t.outs entry (Some o) lt in omega (arith, z, small));
  }

left_common : (image : List ℕ) (c : Certificate) (t : Tables) (entry : ℕ) (x : Facts) (o : Out) → IsLeft image c t entry o → IsLeft image c t entry (record { p3 = x.p3; p4 = x.p4 })
    → IsLeft image c t entry (record { p3 = common o.p3 x.p3; p4 = common o.p4 x.p4 })
left_common image c t entry x o a b = record {
  at = a.at;
  spot = a.spot;
  is = a.is;
  same = a.same;
  leaves = a.leaves;
  p3 = common_above o.p3 x.p3 (routine c (number c entry)).out3 a.p3 b.p3;
  p4 = common_above o.p4 x.p4 (routine c (number c entry)).out4 a.p4 b.p4;
}

pub leave_moves : (t : Tables) (entry : ℕ) (x : Facts) → Moves t (leave t entry x)
leave_moves t entry x = by (nat_lt entry (length t.outs)) refl where
  at_old : (lt : entry < length t.outs) (o : Out) → out_at t entry ≡ Some o → (b : Bool) → knows x o ≡ b → Moves t (if b then t else with_out t entry (record { p3 = common o.p3 x.p3; p4 = common o.p4 x.p4 }))
  at_old lt o e true h = moves_same t
  at_old lt o e false h = out_moves [] t entry (record { p3 = common o.p3 x.p3; p4 = common o.p4 x.p4 }) lt
      (subst (λ r. out_size (Some (record { p3 = common o.p3 x.p3; p4 = common o.p4 x.p4 })) < out_size r) (sym e) (out_less x o h))

  at_any : (lt : entry < length t.outs) (r : Option Out) → out_at t entry ≡ r → Moves t (left t entry x r)
  at_any lt None e = out_moves [] t entry (record { p3 = x.p3; p4 = x.p4 }) lt
      (subst (λ r. out_size (Some (record { p3 = x.p3; p4 = x.p4 })) < out_size r) (sym e) (let m = two_most x.p3 x.p4 in omega (arith, m)))
  at_any lt (Some o) e = at_old lt o e (knows x o) refl

  by : (b : Bool) → nat_lt entry (length t.outs) ≡ b → Moves t (if b then left t entry x (out_at t entry) else t)
  by true e = at_any (ltb-true entry (length t.outs) e) (out_at t entry) refl
  by false e = moves_same t

pub leave_keeps : (image : List ℕ) (c : Certificate) (t : Tables) (entry : ℕ) (x : Facts) → IsUnder image c t → IsLeft image c t entry (record { p3 = x.p3; p4 = x.p4 }) → IsUnder image c (leave t entry x)
leave_keeps image c t entry x u l = by (nat_lt entry (length t.outs)) refl where
  at_old : (lt : entry < length t.outs) (o : Out) → out_at t entry ≡ Some o → (b : Bool) → IsUnder image c (if b then t else with_out t entry (record { p3 = common o.p3 x.p3; p4 = common o.p4 x.p4 }))
  at_old lt o e true = u
  at_old lt o e false = under_out image t entry (record { p3 = common o.p3 x.p3; p4 = common o.p4 x.p4 }) lt c u (left_common image c t entry x o (u.left entry o e) l)

  at_any : (lt : entry < length t.outs) (r : Option Out) → out_at t entry ≡ r → IsUnder image c (left t entry x r)
  at_any lt None e = under_out image t entry (record { p3 = x.p3; p4 = x.p4 }) lt c u l
  at_any lt (Some o) e = at_old lt o e (knows x o)

  by : (b : Bool) → nat_lt entry (length t.outs) ≡ b → IsUnder image c (if b then left t entry x (out_at t entry) else t)
  by true e = at_any (ltb-true entry (length t.outs) e) (out_at t entry) refl
  by false e = u
