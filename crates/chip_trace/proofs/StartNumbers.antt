-- The general bytes of static objects: each byte of each object has one of its own.
use Rattle.std.proofs.Common.{◌≡◌, ℕ, ◌+◌, ◌/◌, ◌%◌, ◌<◌, ◌≤◌, Bool, true, false, length, refl, sym, ap, ◌∙◌, subst, ⊎_elim, arith}
use Rattle.std.specs.Prelude.{not, ◌&&◌, ◌||◌, nat_eq, nat_lt, nat_le, unwrap_or}
use Rattle.std.proofs.lemmas.Bool.{agree_below, agree_below_at, eqb-true, eqb-false, ltb-true, leb-true, lt-ltb, le-leb, cases_lt}
use Rattle.std.proofs.lemmas.List.{get_or_past}
use Rattle.core_code.specs.declared.code.Byte.TheVariants.{Static}
use Rattle.pic_chip.specs.Address as chip
use Rattle.pic_chip.specs.Address.{Place, Pcl, Status, Fsr, Pclath, Intcon, Pir1, Pie1, General, Device, Nothing, place, in_every_bank}
use Rattle.sym_code.specs.Layout.{DataLayout, object, address_of, general_at, general_in, is_whole, lies_in, IsLaidOut, no_range}
use Rattle.chip_trace.proofs.Sound.{both, left_of, right_of}
use Rattle.chip_trace.proofs.StartStores.{number_of}

abbrev in_region : ℕ → Bool
in_region a = (nat_le 0x20 a && nat_lt a 0x70) || (nat_le 0xa0 a && nat_lt a 0xf0) || (nat_le 0x110 a && nat_lt a 0x170) || (nat_le 0x190 a && nat_lt a 0x1f0)

abbrev is_general : Place → Bool
is_general (General k) = true
is_general _ = false

general_of : (p : Place) → is_general p ≡ true → p ≡ General (unwrap_or (general_in p) 0)
general_of (General k) e = refl
general_of Pcl e = absurd (cc)
general_of Status e = absurd (cc)
general_of Fsr e = absurd (cc)
general_of Pclath e = absurd (cc)
general_of Intcon e = absurd (cc)
general_of Pir1 e = absurd (cc)
general_of Pie1 e = absurd (cc)
general_of (Device a) e = absurd (cc)
general_of Nothing e = absurd (cc)

abbrev pub number_at : ℕ → ℕ
number_at a = unwrap_or (general_in (place (a / 128) (a % 128))) 0

-- what is known of an address of a general byte that isn't in every bank
pub record IsGeneral (a : ℕ) : Type 0 where
  pub place_is : place (a / 128) (a % 128) ≡ General (number_at a)
  pub banked : in_every_bank (a % 128) ≡ false
  pub named : nat_eq (a % 128) 0 ≡ false
  pub small : number_at a < 368
  pub back : chip.address_of (number_at a) ≡ a
  pub below : a < 512

implied : (a b : Bool) → (not a || b) ≡ true → a ≡ true → b ≡ true
implied true b h e = h
implied false b h e = absurd (cc)

not_true : (a : Bool) → not a ≡ true → a ≡ false
not_true true e = absurd (cc)
not_true false e = refl

region_below : (a : ℕ) → in_region a ≡ true → a < 512
region_below a e = ⊎_elim (λ lt. lt) (λ ge. far ge) (cases_lt a 512) where
  off : (c d : ℕ) → d ≤ 512 → 512 ≤ a → (nat_le c a && nat_lt a d) ≡ false
  off c d le ge = by (nat_le c a) (nat_lt a d) refl where
    by : (x y : Bool) → nat_lt a d ≡ y → (x && y) ≡ false
    by true false q = refl
    by false y q = refl
    by true true q = let lt = ltb-true a d q in absurd (omega arith)

  far : 512 ≤ a → a < 512
  far ge =
      let p : in_region a ≡ false = rw (off 0x20 0x70 (omega arith) ge, off 0xa0 0xf0 (omega arith) ge, off 0x110 0x170 (omega arith) ge, off 0x190 0x1f0 (omega arith) ge) refl in
      let q = sym e ∙ p in absurd (cc)

general : (a : ℕ) → in_region a ≡ true → IsGeneral a
general a e =
    let lt = region_below a e in
    let p : ℕ → Bool = λ n. is_general (place (n / 128) (n % 128)) in
    let v : ℕ → Bool = λ n. not (in_every_bank (n % 128)) in
    let z : ℕ → Bool = λ n. not (nat_eq (n % 128) 0) in
    let k : ℕ → Bool = λ n. nat_lt (number_at n) 368 in
    let b : ℕ → Bool = λ n. nat_eq (chip.address_of (number_at n)) n in
    let of : (t : ℕ → Bool) → agree_below (λ n. not (in_region n) || t n) (λ n. true) 512 ≡ true → t a ≡ true = λ t all. implied (in_region a) (t a) (agree_below_at (λ n. not (in_region n) || t n) (λ n. true) 512 a all lt) e in
    record {
      place_is = general_of (place (a / 128) (a % 128)) (of p refl);
      banked = not_true (in_every_bank (a % 128)) (of v refl);
      named = not_true (nat_eq (a % 128) 0) (of z refl);
      small = ltb-true (number_at a) 368 (of k refl);
      back = eqb-true (chip.address_of (number_at a)) a (of b refl);
      below = lt;
    }

-- ---- a byte of a whole object
four : (a b c d e f g h : Bool) → (a ≡ true → e ≡ true) → (b ≡ true → f ≡ true) → (c ≡ true → g ≡ true) → (d ≡ true → h ≡ true) → (a || b || c || d) ≡ true → (e || f || g || h) ≡ true
four true b c d e f g h p q r s y = rw (p refl) refl
four false b c d true f g h p q r s y = refl
four false true c d false f g h p q r s y = rw (q refl) refl
four false false c d false true g h p q r s y = refl
four false false true d false false g h p q r s y = rw (r refl) refl
four false false false d false false true h p q r s y = refl
four false false false true false false false h p q r s y = s refl
four false false false false false false false h p q r s y = absurd (cc)

lies : (first behind address size o : ℕ) → o < size → lies_in first behind address size ≡ true → (nat_le first (address + o) && nat_lt (address + o) behind) ≡ true
lies first behind address size o lt e =
    let a = leb-true first address (left_of (nat_le first address) (nat_le (address + size) behind) e) in
    let b = leb-true (address + size) behind (right_of (nat_le first address) (nat_le (address + size) behind) e) in
    both (nat_le first (address + o)) (nat_lt (address + o) behind) (le-leb first (address + o) (omega arith)) (lt-ltb (address + o) behind (omega arith))

whole_region : (address size o : ℕ) → o < size → is_whole address size ≡ true → in_region (address + o) ≡ true
whole_region address size o lt e =
    four (lies_in 0x20 0x70 address size) (lies_in 0xa0 0xf0 address size) (lies_in 0x110 0x170 address size) (lies_in 0x190 0x1f0 address size)
    (nat_le 0x20 (address + o) && nat_lt (address + o) 0x70) (nat_le 0xa0 (address + o) && nat_lt (address + o) 0xf0) (nat_le 0x110 (address + o) && nat_lt (address + o) 0x170) (nat_le 0x190 (address + o) && nat_lt (address + o) 0x1f0)
    (lies 0x20 0x70 address size o lt) (lies 0xa0 0xf0 address size o lt) (lies 0x110 0x170 address size o lt) (lies 0x190 0x1f0 address size o lt) e

module _ (reaches : ℕ → ℕ → Bool) (l : DataLayout) (laid : IsLaidOut reaches l) where
  -- an object that has a byte is there
  there : (n o : ℕ) → o < (object l n).size → n < length l.objects
  there n o lt = ⊎_elim (λ y. y) (λ ge. let e : (object l n).size ≡ 0 = ap (λ r. r.size) (get_or_past l.objects n no_range ge) in absurd (omega arith)) (cases_lt n (length l.objects))

  pub byte_general : (n o : ℕ) → o < (object l n).size → IsGeneral ((object l n).address + o)
  byte_general n o lt = general ((object l n).address + o) (whole_region (object l n).address (object l n).size o lt (laid.objects n (there n o lt)))

  pub number_is : (n o : ℕ) → number_of l (Static n o) ≡ number_at ((object l n).address + o)
  unfolding general_at address_of
  number_is n o = refl

  pub small : (n o : ℕ) → o < (object l n).size → number_of l (Static n o) < 368
  small n o lt = subst (λ k. k < 368) (sym (number_is n o)) (byte_general n o lt).small

  pub once : (n o m p : ℕ) → o < (object l n).size → p < (object l m).size → number_of l (Static n o) ≡ number_of l (Static m p) → (n ≡ m) × (o ≡ p)
  once n o m p lo lp e = by (nat_eq n m) refl where
    same : (object l n).address + o ≡ (object l m).address + p
    same = sym (byte_general n o lo).back ∙ ap chip.address_of (sym (number_is n o) ∙ e ∙ number_is m p) ∙ (byte_general m p lp).back

    either : (x y : Bool) → nat_le ((object l n).address + (object l n).size) (object l m).address ≡ x → nat_le ((object l m).address + (object l m).size) (object l n).address ≡ y → (x || y) ≡ true → ⊥
    either true y e1 e2 q = let a = leb-true ((object l n).address + (object l n).size) (object l m).address e1 in let s = same in omega arith
    either false true e1 e2 q = let a = leb-true ((object l m).address + (object l m).size) (object l n).address e2 in let s = same in omega arith
    either false false e1 e2 q = cc

    by : (b : Bool) → nat_eq n m ≡ b → (n ≡ m) × (o ≡ p)
    by true q =
        let f = eqb-true n m q in
        let s = same in
        let a : (object l n).address ≡ (object l m).address = ap (λ k. (object l k).address) f in
        (f, omega arith)
    by false q = absurd (either _ _ refl refl (laid.objects_apart n m (there n o lo) (there m p lp) (eqb-false n m q)))
