-- What a search finds tells at least as much as any valid certificate: facts.
use Rattle.std.proofs.Common.{◌≡◌, ℕ, Bool, true, false, Option, Some, None, refl, ap, ◌∙◌, ⊎_elim}
use Rattle.std.specs.Prelude.{if◌then◌else◌, ◌&&◌, nat_eq}
use Rattle.std.proofs.lemmas.Bool.{and_parts, and_from, or_cases, or_left, or_right}
use Rattle.pic_isa.specs.declared.Ins.{Ins}
use Rattle.pic_isa.specs.declared.Ins.TheVariants.{Clrf, Movf, Bcf, Bsf}
use Rattle.depth_check.specs.declared.Facts.{Facts}
use Rattle.depth_check.specs.Search.{common, meet}
use Rattle.depth_check.specs.Facts.{writes, writes_w, is_movwf, bit_written, loads, after, is_known, known_in, implies, fits, target}

-- ---- one fact
pub known_same : (k : Option Bool) → known_in k k ≡ true
known_same None = refl
known_same (Some true) = refl
known_same (Some false) = refl

pub known_trans : (a b c : Option Bool) → known_in a b ≡ true → known_in b c ≡ true → known_in a c ≡ true
known_trans None b c x y = refl
known_trans (Some p) None c x y = absurd (cc)
known_trans (Some true) (Some true) c x y = y
known_trans (Some true) (Some false) c x y = absurd (cc)
known_trans (Some false) (Some true) c x y = absurd (cc)
known_trans (Some false) (Some false) c x y = y

pub implies_same : (b : Bool) → implies b b ≡ true
implies_same true = refl
implies_same false = refl

pub implies_from : (a b : Bool) → (a ≡ true → b ≡ true) → implies a b ≡ true
implies_from true b f = f refl
implies_from false b f = refl

implies_to : (a b : Bool) → implies a b ≡ true → a ≡ true → b ≡ true
implies_to true b e h = e
implies_to false b e h = absurd (cc)

-- ---- facts
pub record Less (x y : Facts) : Type 0 where
  -- y is known where x is
  pub p3 : known_in y.p3 x.p3 ≡ true
  pub p4 : known_in y.p4 x.p4 ≡ true
  pub orig : y.orig ≡ true → x.orig ≡ true
  pub w_orig : y.w_orig ≡ true → x.w_orig ≡ true
  pub saved : y.saved ≡ true → x.saved ≡ true

pub less_of : (x y : Facts) → fits x y ≡ true → Less x y
less_of x y e =
    let a = and_parts _ (implies y.saved x.saved) e in
    let b = and_parts _ (implies y.w_orig x.w_orig) a.0 in
    let c = and_parts _ (implies y.orig x.orig) b.0 in
    let d = and_parts (known_in y.p3 x.p3) (known_in y.p4 x.p4) c.0 in
    record { p3 = d.0; p4 = d.1; orig = implies_to y.orig x.orig c.1; w_orig = implies_to y.w_orig x.w_orig b.1; saved = implies_to y.saved x.saved a.1 }

pub fits_of : (x y : Facts) → Less x y → fits x y ≡ true
fits_of x y l = and_from _ _ (and_from _ _ (and_from _ _ (and_from _ _ l.p3 l.p4) (implies_from y.orig x.orig l.orig)) (implies_from y.w_orig x.w_orig l.w_orig)) (implies_from y.saved x.saved l.saved)

pub less_same : (x : Facts) → Less x x
less_same x = record { p3 = known_same x.p3; p4 = known_same x.p4; orig = λ e. e; w_orig = λ e. e; saved = λ e. e }

pub less_trans : (x y z : Facts) → Less x y → Less y z → Less x z
less_trans x y z a b = record {
  p3 = known_trans z.p3 y.p3 x.p3 b.p3 a.p3;
  p4 = known_trans z.p4 y.p4 x.p4 b.p4 a.p4;
  orig = λ e. a.orig (b.orig e);
  w_orig = λ e. a.w_orig (b.w_orig e);
  saved = λ e. a.saved (b.saved e);
}

-- ---- an instruction keeps the order
written_less : (n : ℕ) (i : Ins) (a b : Option Bool) → known_in a b ≡ true → known_in (bit_written n i a) (bit_written n i b) ≡ true
written_less n (Bcf f k) a b e = by (nat_eq k n) where
  by : (t : Bool) → known_in (if t then Some false else a) (if t then Some false else b) ≡ true
  by true = refl
  by false = e
written_less n (Bsf f k) a b e = by (nat_eq k n) where
  by : (t : Bool) → known_in (if t then Some true else a) (if t then Some true else b) ≡ true
  by true = refl
  by false = e
written_less n (Clrf f) a b e = refl
written_less n _ a b e = refl

loads_less : (cell : ℕ) (i : Ins) (x y : Facts) → Less x y → loads cell i y ≡ true → loads cell i x ≡ true
loads_less cell (Movf f d) x y l e = ⊎_elim
    (λ h. let p = and_parts (nat_eq f 10) y.orig h in or_left (nat_eq f 10 && x.orig) (nat_eq f cell && x.saved) (and_from (nat_eq f 10) x.orig p.0 (l.orig p.1)))
    (λ h. let p = and_parts (nat_eq f cell) y.saved h in or_right (nat_eq f 10 && x.orig) (nat_eq f cell && x.saved) (and_from (nat_eq f cell) x.saved p.0 (l.saved p.1)))
    (or_cases (nat_eq f 10 && y.orig) (nat_eq f cell && y.saved) e)
loads_less cell _ x y l e = absurd (cc)

held_less : (i : Ins) (x y : Facts) → Less x y → (is_movwf i && y.w_orig) ≡ true → (is_movwf i && x.w_orig) ≡ true
held_less i x y l e = let p = and_parts (is_movwf i) y.w_orig e in and_from (is_movwf i) x.w_orig p.0 (l.w_orig p.1)

chosen_known : (t : Bool) (a b c d : Option Bool) → known_in a b ≡ true → known_in c d ≡ true → known_in (if t then a else c) (if t then b else d) ≡ true
chosen_known true a b c d e f = e
chosen_known false a b c d e f = f

chosen_true : (t a b c d : Bool) → (a ≡ true → b ≡ true) → (c ≡ true → d ≡ true) → (if t then a else c) ≡ true → (if t then b else d) ≡ true
chosen_true true a b c d e f = e
chosen_true false a b c d e f = f

pub after_less : (cell : ℕ) (i : Ins) (x y : Facts) → Less x y → Less (after cell i x) (after cell i y)
after_less cell i x y l = record {
  p3 = chosen_known (writes 10 i) (bit_written 3 i y.p3) (bit_written 3 i x.p3) y.p3 x.p3 (written_less 3 i y.p3 x.p3 l.p3) l.p3;
  p4 = chosen_known (writes 10 i) (bit_written 4 i y.p4) (bit_written 4 i x.p4) y.p4 x.p4 (written_less 4 i y.p4 x.p4 l.p4) l.p4;
  orig = chosen_true (writes 10 i) (is_movwf i && y.w_orig) (is_movwf i && x.w_orig) y.orig x.orig (held_less i x y l) l.orig;
  w_orig = chosen_true (writes_w i) (loads cell i y) (loads cell i x) y.w_orig x.w_orig (loads_less cell i x y l) l.w_orig;
  saved = chosen_true (writes cell i) (is_movwf i && y.w_orig) (is_movwf i && x.w_orig) y.saved x.saved (held_less i x y l) l.saved;
}

-- ---- where a certificate knows the target, the search knows the same one
pub same_target : (a3 a4 b3 b4 : Option Bool) (k at : ℕ) → known_in a3 b3 ≡ true → known_in a4 b4 ≡ true → target a3 a4 k ≡ Some at → target b3 b4 k ≡ Some at
same_target None a4 b3 b4 k at e f h = absurd (cc)
same_target (Some p) None b3 b4 k at e f h = absurd (cc)
same_target (Some p) (Some q) None b4 k at e f h = absurd (cc)
same_target (Some p) (Some q) (Some r) None k at e f h = absurd (cc)
same_target (Some p) (Some q) (Some r) (Some s) k at e f h = ap (λ b. target (Some b) (Some s) k) (equal p r e) ∙ ap (λ b. target (Some p) (Some b) k) (equal q s f) ∙ h where
  equal : (p r : Bool) → is_known p (Some r) ≡ true → r ≡ p
  equal true true e = refl
  equal true false e = absurd (cc)
  equal false true e = absurd (cc)
  equal false false e = refl

-- ---- what two have in common is below both, and above what is below both
pub common_above : (a b c : Option Bool) → known_in c a ≡ true → known_in c b ≡ true → known_in c (common a b) ≡ true
common_above a b None e f = refl
common_above None b (Some p) e f = absurd (cc)
common_above (Some q) None (Some p) e f = absurd (cc)
common_above (Some true) (Some true) (Some p) e f = e
common_above (Some false) (Some false) (Some p) e f = e
common_above (Some true) (Some false) (Some true) e f = absurd (cc)
common_above (Some true) (Some false) (Some false) e f = absurd (cc)
common_above (Some false) (Some true) (Some true) e f = absurd (cc)
common_above (Some false) (Some true) (Some false) e f = absurd (cc)

-- facts that fit a row on each of two ways fit it together
pub meet_above : (x y r : Facts) → Less x r → Less y r → Less (meet x y) r
meet_above x y r a b = record {
  p3 = common_above x.p3 y.p3 r.p3 a.p3 b.p3;
  p4 = common_above x.p4 y.p4 r.p4 a.p4 b.p4;
  orig = λ e. and_from x.orig y.orig (a.orig e) (b.orig e);
  w_orig = λ e. and_from x.w_orig y.w_orig (a.w_orig e) (b.w_orig e);
  saved = λ e. and_from x.saved y.saved (a.saved e) (b.saved e);
}
