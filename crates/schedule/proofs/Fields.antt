-- The fields of a line: what is read is spelled so, and what is spelled so is read.
use Rattle.std.proofs.Common.{◌≡◌, ◌≢◌, ℕ, ◌+◌, ◌-◌, ◌*◌, ◌<◌, ◌≤◌, Bool, true, false, ◌&&◌, ◌||◌, Option, Some, None, List, [], ◌∷◌, ◌++◌, length, take, drop, refl, sym, ap, ◌∙◌, subst, arith, nat_eq, nat_lt, nat_le, add-one}
use Rattle.std.specs.Prelude.{if◌then◌else◌, codes}
use Rattle.std.specs.List.{list_all}
use Rattle.std.specs.Str.{bytes_eq}
use Rattle.std.proofs.lemmas.Bool.{eqb-true, eqb-false, ne_eqb, and_parts, lt-ltb, le-ltb, ltb-true, ltb-false}
use Rattle.std.proofs.lemmas.List.{take-append-drop, take_at, drop_at, length-take-le}
use Rattle.std.proofs.lemmas.List.Sums.{AllPass-from_list_all, list_all-from_AllPass}
use Rattle.std.proofs.lemmas.Option.{cond_some}
use Rattle.std.proofs.lemmas.Slice.Eq.{bytes_eq-Decides}
use Rattle.pic_world.specs.declared.Arrival.{Arrival}
use Rattle.pic_world.specs.declared.Flag.{Flag}
use Rattle.pic_world.specs.declared.Flag.TheVariants.{Rbif, Intf, Tmr0if, Tmr1if, Tmr2if, Ccp1if, Sspif, Txif, Rcif, Adif, Pspif}
use Rattle.pic_world.specs.Arrivals.{flags}
use Rattle.schedule.specs.ScriptFile.{byte_value, AreBytes, is_digit, number_onto, IsTime, flag_word}
use Rattle.schedule.specs.Reading.{byte_onto, bytes_in, digits_length, time_onto, flag_among, flag_in, arrival_of, arrival_in}

pub guarded : {A : Type 0} (b : Bool) (o : Option A) (p : A) → (if b then None else o) ≡ Some p → (b ≡ false) × (o ≡ Some p)
guarded true o p e = absurd (cc e)
guarded false o p e = (refl, e)

-- ---- input
onto_is : (o : Option ℕ) (p : Option (List ℕ)) (bytes : List ℕ) → byte_onto o p ≡ Some bytes → (b : ℕ) × (rest : List ℕ) × (o ≡ Some b) × (p ≡ Some rest) × (b ∷ rest ≡ bytes)
onto_is None p bytes e = absurd (cc e)
onto_is (Some b) None bytes e = absurd (cc e)
onto_is (Some b) (Some rest) bytes e = (b, rest, refl, refl, cc e)

cons_are : (space high low : ℕ) (tail bytes rest : List ℕ) (b : ℕ) → space ≡ 32 → byte_value high low ≡ Some b → AreBytes tail rest → b ∷ rest ≡ bytes → AreBytes (space ∷ high ∷ low ∷ tail) bytes
cons_are space high low tail [] rest b e f g h = absurd (cc h)
cons_are space high low tail (c ∷ bytes) rest b e f g h =
    let first : b ≡ c = cc h in
    let others : rest ≡ bytes = cc h in
    (e, f ∙ ap Some first, subst (AreBytes tail) others g)

pub bytes_are : (tail bytes : List ℕ) → bytes_in tail ≡ Some bytes → AreBytes tail bytes
unfolding bytes_in
bytes_are [] [] e = tt
bytes_are [] (b ∷ bytes) e = absurd (cc e)
bytes_are (c ∷ []) bytes e = absurd (cc e)
bytes_are (c ∷ d ∷ []) bytes e = absurd (cc e)
bytes_are (space ∷ high ∷ low ∷ tail) bytes e =
    let t = cond_some_option (nat_eq space 32) (byte_onto (byte_value high low) (bytes_in tail)) bytes e in
    let (b, rest, f, g, h) = onto_is (byte_value high low) (bytes_in tail) bytes t.1 in
    cons_are space high low tail bytes rest b (eqb-true space 32 t.0) f (bytes_are tail rest g) h
  where
    cond_some_option : {A : Type 0} (b : Bool) (o : Option A) (p : A) → (if b then o else None) ≡ Some p → (b ≡ true) × (o ≡ Some p)
    cond_some_option true o p h = (refl, h)
    cond_some_option false o p h = absurd (cc h)

pub bytes_again : (tail bytes : List ℕ) → AreBytes tail bytes → bytes_in tail ≡ Some bytes
unfolding bytes_in
bytes_again [] [] h = refl
bytes_again [] (b ∷ bytes) h = absurd h
bytes_again (c ∷ []) [] h = absurd h
bytes_again (c ∷ []) (b ∷ bytes) h = absurd h
bytes_again (c ∷ d ∷ []) [] h = absurd h
bytes_again (c ∷ d ∷ []) (b ∷ bytes) h = absurd h
bytes_again (space ∷ high ∷ low ∷ tail) [] h = absurd h
bytes_again (space ∷ high ∷ low ∷ tail) (b ∷ bytes) h =
    let is_space : nat_eq space 32 ≡ true = ap (λ s. nat_eq s 32) h.0 in
    rw (is_space, h.1, bytes_again tail bytes h.2) refl

-- ---- times
pub time_is : (n : ℕ) (digits : List ℕ) (t : ℕ) → n ≤ 4294967295 → time_onto n digits ≡ Some t → (number_onto n digits ≡ t) × (t ≤ 4294967295)
unfolding time_onto number_onto
time_is n [] t h e = let same : n ≡ t = cc e in (same, omega (arith, h, same))
time_is n (c ∷ digits) t h e =
    let g = guarded (nat_lt 4294967295 (10 * n + (c - 48))) (time_onto (10 * n + (c - 48)) digits) t e in
    time_is (10 * n + (c - 48)) digits t (ltb-false 4294967295 (10 * n + (c - 48)) g.0) g.1

pub grows : (n : ℕ) (digits : List ℕ) → n ≤ number_onto n digits
unfolding number_onto
grows n [] = omega arith
grows n (c ∷ digits) = let h = grows (10 * n + (c - 48)) digits in omega (arith, h)

pub time_again : (n : ℕ) (digits : List ℕ) (t : ℕ) → number_onto n digits ≡ t → t ≤ 4294967295 → time_onto n digits ≡ Some t
unfolding time_onto number_onto
time_again n [] t e h = ap Some e
time_again n (c ∷ digits) t e h =
    let more = grows (10 * n + (c - 48)) digits in
    let small : nat_lt 4294967295 (10 * n + (c - 48)) ≡ false = le-ltb 4294967295 (10 * n + (c - 48)) (omega (arith, more, e, h)) in
    rw small (time_again (10 * n + (c - 48)) digits t e h)

-- ---- flags
pub among_is : (fs : List Flag) (tail : List ℕ) (f : Flag) → flag_among fs tail ≡ Some f → tail ≡ flag_word f
among_is [] tail f e = absurd (cc e)
among_is (g ∷ fs) tail f e = by_test (bytes_eq tail (flag_word g)) refl (among_is fs tail f) e
  where
    by_test : (b : Bool) → bytes_eq tail (flag_word g) ≡ b → (flag_among fs tail ≡ Some f → tail ≡ flag_word f) → (if b then Some g else flag_among fs tail) ≡ Some f → tail ≡ flag_word f
    by_test true is later h = let same : g ≡ f = cc h in (bytes_eq-Decides tail (flag_word g)).0 is ∙ ap flag_word same
    by_test false is later h = later h

pub flag_is : (tail : List ℕ) (f : Flag) → flag_in tail ≡ Some f → tail ≡ flag_word f
flag_is = among_is flags

pub flag_again : (f : Flag) → flag_in (flag_word f) ≡ Some f
flag_again Rbif = refl
flag_again Intf = refl
flag_again Tmr0if = refl
flag_again Tmr1if = refl
flag_again Tmr2if = refl
flag_again Ccp1if = refl
flag_again Sspif = refl
flag_again Txif = refl
flag_again Rcif = refl
flag_again Adif = refl
flag_again Pspif = refl

-- ---- digits
digits_within : (text : List ℕ) → digits_length text ≤ length text
unfolding digits_length
digits_within [] = omega arith
digits_within (c ∷ text) = by_test (digits_within text) (is_digit c)
  where
    by_test : digits_length text ≤ length text → (b : Bool) → (if b then digits_length text + 1 else 0) ≤ length (c ∷ text)
    by_test h true = omega (arith, h)
    by_test h false = omega arith

all_digits : (text : List ℕ) → list_all is_digit (take (digits_length text) text) ≡ true
unfolding digits_length
all_digits [] = refl
all_digits (c ∷ text) = by_test (all_digits text) (is_digit c) refl
  where
    by_test : list_all is_digit (take (digits_length text) text) ≡ true → (b : Bool) → is_digit c ≡ b → list_all is_digit (take (if b then digits_length text + 1 else 0) (c ∷ text)) ≡ true
    by_test h true e = ap (λ k. list_all is_digit (take k (c ∷ text))) (add-one (digits_length text)) ∙ rw (e, h) refl
    by_test h false e = refl

length_of_digits : (digits rest : List ℕ) → list_all is_digit digits ≡ true → digits_length (digits ++ 32 ∷ rest) ≡ length digits
unfolding digits_length
length_of_digits [] rest h = refl
length_of_digits (c ∷ digits) rest h =
    let parts = and_parts (is_digit c) (list_all is_digit digits) h in
    let later = length_of_digits digits rest parts.1 in
    rw parts.0 (omega (arith, later))

before_flag : (digits : List ℕ) (f : Flag) → list_all is_digit digits ≡ true → digits_length (digits ++ flag_word f) ≡ length digits
before_flag digits Rbif h = length_of_digits digits (codes "RBIF") h
before_flag digits Intf h = length_of_digits digits (codes "INTF") h
before_flag digits Tmr0if h = length_of_digits digits (codes "TMR0IF") h
before_flag digits Tmr1if h = length_of_digits digits (codes "TMR1IF") h
before_flag digits Tmr2if h = length_of_digits digits (codes "TMR2IF") h
before_flag digits Ccp1if h = length_of_digits digits (codes "CCP1IF") h
before_flag digits Sspif h = length_of_digits digits (codes "SSPIF") h
before_flag digits Txif h = length_of_digits digits (codes "TXIF") h
before_flag digits Rcif h = length_of_digits digits (codes "RCIF") h
before_flag digits Adif h = length_of_digits digits (codes "ADIF") h
before_flag digits Pspif h = length_of_digits digits (codes "PSPIF") h

-- ---- arrivals
abbrev pub IsArrivalText : List ℕ → Arrival → Type 0
IsArrivalText text a = (digits : List ℕ) × (text ≡ digits ++ flag_word a.flag) × IsTime digits a.t

parts_of : (o : Option ℕ) (p : Option Flag) (a : Arrival) → arrival_of o p ≡ Some a → (o ≡ Some a.t) × (p ≡ Some a.flag)
parts_of None p a e = absurd (cc e)
parts_of (Some t) None a e = absurd (cc e)
parts_of (Some t) (Some f) a e =
    let same : record { t = t; flag = f } ≡ a = cc e in
    (ap (λ x. Some x.t) same, ap (λ x. Some x.flag) same)

either_false : (a b : Bool) → (a || b) ≡ false → (a ≡ false) × (b ≡ false)
either_false true b e = absurd (cc e)
either_false false true e = absurd (cc e)
either_false false false e = (refl, refl)

pub arrival_is : (text : List ℕ) (a : Arrival) → arrival_in text ≡ Some a → IsArrivalText text a
unfolding arrival_in
arrival_is text a e =
    let n = digits_length text in
    let g = guarded (nat_eq n 0 || nat_lt 10 n) (arrival_of (time_onto 0 (take n text)) (flag_in (drop n text))) a e in
    let t = either_false (nat_eq n 0) (nat_lt 10 n) g.0 in
    let p = parts_of (time_onto 0 (take n text)) (flag_in (drop n text)) a g.1 in
    let within = digits_within text in
    let long : length (take n text) ≡ n = length-take-le n text within in
    let some : n ≢ 0 = eqb-false n 0 t.0 in
    let most : n ≤ 10 = ltb-false 10 n t.1 in
    let time = time_is 0 (take n text) a.t (omega arith) p.0 in
    let small = time.1 in (
      take n text,
      sym (take-append-drop n text) ∙ ap (λ x. take n text ++ x) (flag_is (drop n text) a.flag p.1),
      record {
        some = omega (arith, long, some);
        most = omega (arith, long, most);
        all = AllPass-from_list_all is_digit (take n text) (all_digits text);
        value = time.0;
        within = omega (arith, small);
      },
    )

pub arrival_again : (digits : List ℕ) (a : Arrival) → IsTime digits a.t → arrival_in (digits ++ flag_word a.flag) ≡ Some a
unfolding arrival_in
arrival_again digits a h =
    let text = digits ++ flag_word a.flag in
    let n : digits_length text ≡ length digits = before_flag digits a.flag (list_all-from_AllPass is_digit digits h.all) in
    let some = h.some in
    let most = h.most in
    let within = h.within in
    let not_none : nat_eq (length digits) 0 ≡ false = ne_eqb (length digits) 0 (omega (arith, some)) in
    let not_more : nat_lt 10 (length digits) ≡ false = le-ltb 10 (length digits) (omega (arith, most)) in
    ap (λ n. if nat_eq n 0 || nat_lt 10 n then None else arrival_of (time_onto 0 (take n text)) (flag_in (drop n text))) n
    ∙ rw (not_none, not_more, take_at digits (flag_word a.flag) (length digits) refl, drop_at digits (flag_word a.flag) (length digits) refl, time_again 0 digits a.t h.value (omega (arith, within)), flag_again a.flag) refl
