-- The fields of a line: what is read is spelled so, and what is spelled so is read.
use Rattle.std.proofs.Common.{◌≡◌, ◌≢◌, ℕ, ◌+◌, ◌-◌, ◌*◌, ◌/◌, ◌%◌, ◌<◌, ◌≤◌, Bool, true, false, ◌&&◌, Option, Some, None, unwrap_or, List, [], ◌∷◌, ◌++◌, length, take, drop, refl, sym, ap, ◌∙◌, subst, arith, nat_eq, nat_lt, nat_le, append_assoc, ⊎_elim, inl, inr, add-one}
use Rattle.std.specs.Prelude.{if◌then◌else◌, ◌⊎◌}
use Rattle.std.specs.List.{list_all}
use Rattle.std.specs.Option.{option_map, option_and_then}
use Rattle.std.specs.Cmp.Lexicographic.{pointwise}
use Rattle.std.proofs.lemmas.Bool.{agree_below_at, eqb-true, eqb-false, ne_eqb, and_parts, lt-ltb, le-ltb, ltb-true, leb-true}
use Rattle.std.proofs.lemmas.List.{take-append-drop, take_at, drop_at, length-take-le}
use Rattle.std.proofs.lemmas.List.Sums.{AllPass-from_list_all, list_all-from_AllPass}
use Rattle.std.proofs.lemmas.Option.{cond_some}
use Rattle.std.proofs.lemmas.Slice.Eq.{bytes_eq-Decides}
use Rattle.text_lines.specs.Text.{digit_value, bytes_of, pair_onto}
use Rattle.text_lines.specs.Front.{after}
use Rattle.text_lines.proofs.Words.{after_is, after_again}
use Rattle.pic_map.specs.Decimal.{number_text}
use Rattle.pic_map.specs.MapFile.{IsAddress, IsName, HasPlace, IsPointLine, is_name_byte}
use Rattle.pic_map.specs.Reading.{below, number_of, address_of, is_digit, size_of, both, place_of, name_length, NameAndPlace, placed_of, point_of}

-- ---- numbers below a limit
pub below_is : (limit : ℕ) (o : Option ℕ) (n : ℕ) → below limit o ≡ Some n → (o ≡ Some n) × (n < limit)
below_is limit None n h = absurd (cc h)
below_is limit (Some m) n h =
    let parts = cond_some (nat_lt m limit) m n h in
    (ap Some parts.1, subst (λ k. k < limit) parts.1 (ltb-true m limit parts.0))

-- ---- addresses
chosen : (b : Bool) (x h : ℕ) (o : Option ℕ) → (if b then Some x else o) ≡ Some h → ((b ≡ true) × (x ≡ h)) ⊎ (o ≡ Some h)
chosen true x h o e = inl (refl, cc e)
chosen false x h o e = inr e

digit_small : (c h : ℕ) → digit_value c ≡ Some h → h < 16
digit_small c h e =
    ⊎_elim (λ t. let low = leb-true 48 c (and_parts (nat_le 48 c) (nat_le c 57) t.0).0 in let high = leb-true c 57 (and_parts (nat_le 48 c) (nat_le c 57) t.0).1 in let same = t.1 in omega (arith, low, high, same))
    (λ f.
    ⊎_elim (λ t. let low = leb-true 65 c (and_parts (nat_le 65 c) (nat_le c 70) t.0).0 in let high = leb-true c 70 (and_parts (nat_le 65 c) (nat_le c 70) t.0).1 in let same = t.1 in omega (arith, low, high, same))
    (λ g.
    let t = cond_some (nat_le 97 c && nat_le c 102) (c - 87) h g in
    let low = leb-true 97 c (and_parts (nat_le 97 c) (nat_le c 102) t.0).0 in let high = leb-true c 102 (and_parts (nat_le 97 c) (nat_le c 102) t.0).1 in let same = t.1 in omega (arith, low, high, same))
    (chosen (nat_le 65 c && nat_le c 70) (c - 55) h (if nat_le 97 c && nat_le c 102 then Some (c - 87) else None) f))
    (chosen (nat_le 48 c && nat_le c 57) (c - 48) h (if nat_le 65 c && nat_le c 70 then Some (c - 55) else if nat_le 97 c && nat_le c 102 then Some (c - 87) else None) e)

pair_is : (o p : Option ℕ) (q : Option (List ℕ)) (bytes : List ℕ) → pair_onto o p q ≡ Some bytes
    → (h : ℕ) × (l : ℕ) × (rest : List ℕ) × (o ≡ Some h) × (p ≡ Some l) × (q ≡ Some rest) × (bytes ≡ (16 * h + l) ∷ rest)
pair_is (Some h) (Some l) (Some rest) bytes e = (h, l, rest, refl, refl, refl, (cc e))
pair_is None p q bytes e = absurd (cc e)
pair_is (Some h) None q bytes e = absurd (cc e)
pair_is (Some h) (Some l) None bytes e = absurd (cc e)

number_is : (o : Option (List ℕ)) (n : ℕ) → number_of o ≡ Some n → (high : ℕ) × (low : ℕ) × (o ≡ Some (high ∷ low ∷ [])) × (256 * high + low ≡ n)
number_is None n e = absurd (cc e)
number_is (Some []) n e = absurd (cc e)
number_is (Some (h ∷ [])) n e = absurd (cc e)
number_is (Some (h ∷ l ∷ [])) n e = (h, l, refl, (cc e))
number_is (Some (h ∷ l ∷ x ∷ rest)) n e = absurd (cc e)

pub address_is : (limit a b c d n : ℕ) → address_of limit (a ∷ b ∷ c ∷ d ∷ []) ≡ Some n → IsAddress (a ∷ b ∷ c ∷ d ∷ []) n × (n < limit)
unfolding bytes_of
address_is limit a b c d n h =
    let parts = below_is limit (number_of (bytes_of (a ∷ b ∷ c ∷ d ∷ []))) n h in
    let (high, low, e, sum) = number_is (bytes_of (a ∷ b ∷ c ∷ d ∷ [])) n parts.0 in
    let (h1, l1, rest, e1, e2, e3, e4) = pair_is (digit_value a) (digit_value b) (pair_onto (digit_value c) (digit_value d) (Some [])) (high ∷ low ∷ []) e in
    let (h2, l2, none, f1, f2, f3, f4) = pair_is (digit_value c) (digit_value d) (Some []) rest e3 in
    let second : low ∷ [] ≡ (16 * h2 + l2) ∷ none = cc (e4, f4) in
    let low_is : low ≡ 16 * h2 + l2 = cc second in
    let s1 = digit_small c h2 f1 in
    let s2 = digit_small d l2 f2 in
    let hi : high ≡ n / 256 = omega (arith, sum, low_is, s1, s2) in
    let lo : low ≡ n % 256 = omega (arith, sum, low_is, s1, s2) in
    (e ∙ ap (λ x. Some (x ∷ low ∷ [])) hi ∙ ap (λ x. Some ((n / 256) ∷ x ∷ [])) lo, parts.1)

-- an address has four digits
abbrev pub IsFour : List ℕ → Type 0
IsFour digits = (a : ℕ) × (b : ℕ) × (c : ℕ) × (d : ℕ) × (digits ≡ a ∷ b ∷ c ∷ d ∷ [])

pub four_digits : (digits : List ℕ) (x y : ℕ) → bytes_of digits ≡ Some (x ∷ y ∷ []) → IsFour digits
unfolding bytes_of
four_digits [] x y e = absurd (cc e)
four_digits (a ∷ []) x y e = absurd (cc e)
four_digits (a ∷ b ∷ []) x y e =
    let (h, l, rest, e1, e2, e3, e4) = pair_is (digit_value a) (digit_value b) (Some []) (x ∷ y ∷ []) e in
    absurd (cc (e3, e4))
four_digits (a ∷ b ∷ c ∷ []) x y e =
    let (h, l, rest, e1, e2, e3, e4) = pair_is (digit_value a) (digit_value b) None (x ∷ y ∷ []) e in
    absurd (cc e3)
four_digits (a ∷ b ∷ c ∷ d ∷ []) x y e = (a, b, c, d, refl)
four_digits (a ∷ b ∷ c ∷ d ∷ f ∷ []) x y e =
    let (h, l, rest, e1, e2, e3, e4) = pair_is (digit_value a) (digit_value b) (pair_onto (digit_value c) (digit_value d) None) (x ∷ y ∷ []) e in
    let (h2, l2, rest2, f1, f2, f3, f4) = pair_is (digit_value c) (digit_value d) None rest e3 in
    absurd (cc f3)
four_digits (a ∷ b ∷ c ∷ d ∷ f ∷ g ∷ more) x y e =
    let (h, l, rest, e1, e2, e3, e4) = pair_is (digit_value a) (digit_value b) (pair_onto (digit_value c) (digit_value d) (bytes_of (f ∷ g ∷ more))) (x ∷ y ∷ []) e in
    let (h2, l2, rest2, f1, f2, f3, f4) = pair_is (digit_value c) (digit_value d) (bytes_of (f ∷ g ∷ more)) rest e3 in
    let (h3, l3, rest3, g1, g2, g3, g4) = pair_is (digit_value f) (digit_value g) (bytes_of more) rest2 f3 in
    absurd (cc (e4, f4, g4))

pub address_again : (limit a b c d n : ℕ) → IsAddress (a ∷ b ∷ c ∷ d ∷ []) n → n < limit → address_of limit (a ∷ b ∷ c ∷ d ∷ []) ≡ Some n
address_again limit a b c d n e h =
    let whole : 256 * (n / 256) + n % 256 ≡ n = omega arith in
    rw (e, whole, lt-ltb n limit h) refl

-- ---- sizes
digit_is : (a : ℕ) → is_digit a ≡ true → (48 ≤ a) × (a ≤ 57)
digit_is a h = let t = and_parts (nat_le 48 a) (nat_le a 57) h in (leb-true 48 a t.0, leb-true a 57 t.1)

digits_on : (n d e : ℕ) → d ≡ 48 + n → d ≡ e → 48 + n ≡ e
digits_on n d e h k = sym h ∙ k

one_digit : (a n : ℕ) → (48 ≤ a) × (a ≤ 57) → a - 48 ≡ n → a ∷ [] ≡ number_text n
one_digit a n t e =
    let l = t.0 in
    let h = t.1 in
    let small : nat_lt n 10 ≡ true = lt-ltb n 10 (omega (arith, l, h, e)) in
    rw small (ap (λ d. d ∷ []) (omega (arith, l, h, e)))

two_digits : (a b n : ℕ) → 48 < a → a ≤ 57 → (48 ≤ b) × (b ≤ 57) → 10 * (a - 48) + (b - 48) ≡ n → a ∷ b ∷ [] ≡ number_text n
two_digits a b n l h t e =
    let m = t.0 in
    let k = t.1 in
    let big : nat_lt n 10 ≡ false = le-ltb n 10 (omega (arith, l, h, m, k, e)) in
    let small : nat_lt n 100 ≡ true = lt-ltb n 100 (omega (arith, l, h, m, k, e)) in
    let one : a ≡ 48 + n / 10 = omega (arith, l, h, m, k, e) in
    let two : b ≡ 48 + n % 10 = omega (arith, l, h, m, k, e) in
    rw (big, small) (ap (λ d. d ∷ b ∷ []) one ∙ ap (λ d. (48 + n / 10) ∷ d ∷ []) two)

three_digits : (a b c n : ℕ) → 48 < a → a ≤ 57 → (48 ≤ b) × (b ≤ 57) → (48 ≤ c) × (c ≤ 57) → 100 * (a - 48) + 10 * (b - 48) + (c - 48) ≡ n → a ∷ b ∷ c ∷ [] ≡ number_text n
three_digits a b c n l h t s e =
    let m = t.0 in
    let k = t.1 in
    let p = s.0 in
    let q = s.1 in
    let big : nat_lt n 10 ≡ false = le-ltb n 10 (omega (arith, l, h, m, k, p, q, e)) in
    let bigger : nat_lt n 100 ≡ false = le-ltb n 100 (omega (arith, l, h, m, k, p, q, e)) in
    let one : a ≡ 48 + n / 100 = omega (arith, l, h, m, k, p, q, e) in
    let two : b ≡ 48 + n / 10 % 10 = omega (arith, l, h, m, k, p, q, e) in
    let three : c ≡ 48 + n % 10 = omega (arith, l, h, m, k, p, q, e) in
    rw (big, bigger) (ap (λ d. d ∷ b ∷ c ∷ []) one ∙ ap (λ d. (48 + n / 100) ∷ d ∷ c ∷ []) two ∙ ap (λ d. (48 + n / 100) ∷ (48 + n / 10 % 10) ∷ d ∷ []) three)

chosen_size : (b : Bool) (o : Option ℕ) (n : ℕ) → (if b then o else None) ≡ Some n → (b ≡ true) × (o ≡ Some n)
chosen_size true o n e = (refl, e)
chosen_size false o n e = absurd (cc e)

pub size_is : (digits : List ℕ) (n : ℕ) → size_of digits ≡ Some n → (digits ≡ number_text n) × (n ≤ 352)
unfolding size_of
size_is [] n h = absurd (cc h)
size_is (a ∷ []) n h =
    let t = cond_some (is_digit a) (a - 48) n h in
    let d = digit_is a t.0 in
    let l = d.0 in
    let m = d.1 in
    let e = t.1 in
    (one_digit a n d t.1, omega (arith, l, m, e))
size_is (a ∷ b ∷ []) n h =
    let t = cond_some (nat_lt 48 a && is_digit a && is_digit b) (10 * (a - 48) + (b - 48)) n h in
    let u = and_parts (nat_lt 48 a && is_digit a) (is_digit b) t.0 in
    let v = and_parts (nat_lt 48 a) (is_digit a) u.0 in
    let first = (digit_is a v.1).1 in
    let second = digit_is b u.1 in
    let s = second.1 in
    let e = t.1 in
    (two_digits a b n (ltb-true 48 a v.0) first second t.1, omega (arith, first, s, e))
size_is (a ∷ b ∷ c ∷ []) n h =
    let t = chosen_size (nat_lt 48 a && is_digit a && is_digit b && is_digit c) (below 353 (Some (100 * (a - 48) + 10 * (b - 48) + (c - 48)))) n h in
    let s = below_is 353 (Some (100 * (a - 48) + 10 * (b - 48) + (c - 48))) n t.1 in
    let w = and_parts (nat_lt 48 a && is_digit a && is_digit b) (is_digit c) t.0 in
    let u = and_parts (nat_lt 48 a && is_digit a) (is_digit b) w.0 in
    let v = and_parts (nat_lt 48 a) (is_digit a) u.0 in
    let most = s.1 in
    (three_digits a b c n (ltb-true 48 a v.0) (digit_is a v.1).1 (digit_is b u.1) (digit_is c w.1) (cc s.0), omega (arith, most))
size_is (a ∷ b ∷ c ∷ d ∷ more) n h = absurd (cc h)

some_of : (o : Option ℕ) (n : ℕ) → nat_eq (unwrap_or o 999) n ≡ true → n < 353 → o ≡ Some n
some_of (Some m) n e h = ap Some (eqb-true m n e)
some_of None n e h = let l : 999 ≡ n = eqb-true 999 n e in absurd (omega (arith, l, h))

pub size_again : (n : ℕ) → n < 353 → size_of (number_text n) ≡ Some n
unfolding size_of
size_again n h = some_of (size_of (number_text n)) n (agree_below_at (λ n. nat_eq (unwrap_or (size_of (number_text n)) 999) n) (λ n. true) 353 n refl h) h

-- ---- places
pub place_is : (tail : List ℕ) (p : ℕ × ℕ) → place_of tail ≡ Some p → HasPlace tail p.0 p.1
unfolding place_of
place_is [] p h = absurd (cc h)
place_is (s ∷ []) p h = absurd (cc h)
place_is (s ∷ a ∷ []) p h = absurd (cc h)
place_is (s ∷ a ∷ b ∷ []) p h = absurd (cc h)
place_is (s ∷ a ∷ b ∷ c ∷ []) p h = absurd (cc h)
place_is (s ∷ a ∷ b ∷ c ∷ d ∷ []) p h = absurd (cc h)
place_is (s ∷ a ∷ b ∷ c ∷ d ∷ t ∷ digits) p h =
    let u = chosen_place (nat_eq s 32 && nat_eq t 32) (both (address_of 0x200 (a ∷ b ∷ c ∷ d ∷ [])) (size_of digits)) p h in
    let spaces = and_parts (nat_eq s 32) (nat_eq t 32) u.0 in
    let parts = both_is (address_of 0x200 (a ∷ b ∷ c ∷ d ∷ [])) (size_of digits) p u.1 in
    let address = address_is 0x200 a b c d p.0 parts.0 in
    let size = size_is digits p.1 parts.1 in
    record {
      digits = a ∷ b ∷ c ∷ d ∷ [];
      spelled = ap (λ x. x ∷ a ∷ b ∷ c ∷ d ∷ t ∷ digits) (eqb-true s 32 spaces.0) ∙ ap (λ x. 32 ∷ a ∷ b ∷ c ∷ d ∷ x ∷ digits) (eqb-true t 32 spaces.1) ∙ ap (λ x. 32 ∷ a ∷ b ∷ c ∷ d ∷ 32 ∷ x) size.0;
      at = address.0;
      within = address.1;
      most = size.1;
    }
  where
    chosen_place : (b : Bool) (o : Option (ℕ × ℕ)) (p : ℕ × ℕ) → (if b then o else None) ≡ Some p → (b ≡ true) × (o ≡ Some p)
    chosen_place true o p e = (refl, e)
    chosen_place false o p e = absurd (cc e)

    both_is : (x y : Option ℕ) (p : ℕ × ℕ) → both x y ≡ Some p → (x ≡ Some p.0) × (y ≡ Some p.1)
    both_is None y p e = absurd (cc e)
    both_is (Some x) None p e = absurd (cc e)
    both_is (Some x) (Some y) p e = let same : (x, y) ≡ p = cc e in (ap (λ q. Some q.0) same, ap (λ q. Some q.1) same)

read_place : (a b c d address size : ℕ) (digits : List ℕ) → address_of 0x200 (a ∷ b ∷ c ∷ d ∷ []) ≡ Some address → size_of digits ≡ Some size
    → place_of (32 ∷ a ∷ b ∷ c ∷ d ∷ 32 ∷ digits) ≡ Some (address, size)
unfolding place_of
read_place a b c d address size digits first second = ap (λ x. both x (size_of digits)) first ∙ ap (λ y. both (Some address) y) second

pub place_again : (tail : List ℕ) (address size : ℕ) → HasPlace tail address size → place_of tail ≡ Some (address, size)
place_again tail address size h =
    let (a, b, c, d, e) = four_digits h.digits (address / 256) (address % 256) h.at in
    let within = h.within in
    let most = h.most in
    ap place_of (h.spelled ∙ ap (λ t. 32 ∷ (t ++ 32 ∷ number_text size)) e)
    ∙ read_place a b c d address size (number_text size) (address_again 0x200 a b c d address (subst (λ t. IsAddress t address) e h.at) within) (size_again size (omega (arith, most)))

-- ---- names with their places
name_within : (text : List ℕ) → name_length text ≤ length text
unfolding name_length
name_within [] = omega arith
name_within (c ∷ text) = by_test (name_within text) (is_name_byte c)
  where
    by_test : name_length text ≤ length text → (b : Bool) → (if b then name_length text + 1 else 0) ≤ length (c ∷ text)
    by_test h true = omega (arith, h)
    by_test h false = omega arith

all_names : (text : List ℕ) → list_all is_name_byte (take (name_length text) text) ≡ true
unfolding name_length
all_names [] = refl
all_names (c ∷ text) = by_test (all_names text) (is_name_byte c) refl
  where
    by_test : list_all is_name_byte (take (name_length text) text) ≡ true → (b : Bool) → is_name_byte c ≡ b → list_all is_name_byte (take (if b then name_length text + 1 else 0) (c ∷ text)) ≡ true
    by_test h true e = ap (λ k. list_all is_name_byte (take k (c ∷ text))) (add-one (name_length text)) ∙ rw (e, h) refl
    by_test h false e = refl

length_of_name : (name rest : List ℕ) → list_all is_name_byte name ≡ true → name_length (name ++ 32 ∷ rest) ≡ length name
unfolding name_length
length_of_name [] rest h = refl
length_of_name (c ∷ name) rest h =
    let parts = and_parts (is_name_byte c) (list_all is_name_byte name) h in
    let later = length_of_name name rest parts.1 in
    rw parts.0 (omega (arith, later))

pub guarded : {A : Type 0} (b : Bool) (o : Option A) (p : A) → (if b then None else o) ≡ Some p → (b ≡ false) × (o ≡ Some p)
guarded true o p e = absurd (cc e)
guarded false o p e = (refl, e)

pub mapped : {A B : Type 0} (f : A → B) (o : Option A) (p : B) → option_map f o ≡ Some p → (q : A) × (o ≡ Some q) × (f q ≡ p)
mapped f None p e = absurd (cc e)
mapped f (Some q) p e = (q, refl, cc e)

abbrev pub made : List ℕ → ℕ × ℕ → NameAndPlace
made name p = record { name = name; address = p.0; size = p.1 }

-- a text that begins with this
abbrev pub IsNameAndPlace : List ℕ → NameAndPlace → Type 0
IsNameAndPlace text p = (tail : List ℕ) × (text ≡ p.name ++ tail) × IsName p.name × HasPlace tail p.address p.size

pub placed_is : (text : List ℕ) (p : NameAndPlace) → placed_of text ≡ Some p → IsNameAndPlace text p
unfolding placed_of
placed_is text p h =
    let n = name_length text in
    let t = guarded (nat_eq n 0) (option_map (made (take n text)) (place_of (drop n text))) p h in
    let (q, e, f) = mapped (made (take n text)) (place_of (drop n text)) p t.1 in
    let within = name_within text in
    let long : length (take n text) ≡ n = length-take-le n text within in
    let some : n ≢ 0 = eqb-false n 0 t.0 in
    subst (IsNameAndPlace text) f (
      drop n text,
      sym (take-append-drop n text),
      record { some = omega (arith, long, some); bytes = AllPass-from_list_all is_name_byte (take n text) (all_names text) },
      place_is (drop n text) q e,
    )

pub placed_again : (name tail : List ℕ) (address size : ℕ) → IsName name → HasPlace tail address size → placed_of (name ++ tail) ≡ Some (record { name = name; address = address; size = size })
unfolding placed_of
placed_again name tail address size h k =
    let n : name_length (name ++ tail) ≡ length name = ap (λ t. name_length (name ++ t)) k.spelled ∙ length_of_name name (k.digits ++ 32 ∷ number_text size) (list_all-from_AllPass is_name_byte name h.bytes) in
    let some = h.some in
    let not_none : nat_eq (length name) 0 ≡ false = ne_eqb (length name) 0 (omega (arith, some)) in
    ap (λ n. if nat_eq n 0 then None else option_map (made (take n (name ++ tail))) (place_of (drop n (name ++ tail)))) n
    ∙ rw (not_none, take_at name tail (length name) refl, drop_at name tail (length name) refl, place_again tail address size k) refl

-- ---- points
address_all : (limit : ℕ) (digits : List ℕ) (n : ℕ) → address_of limit digits ≡ Some n → IsAddress digits n × (n < limit)
address_all limit [] n h = absurd (cc h)
address_all limit (a ∷ []) n h = absurd (cc h)
address_all limit (a ∷ b ∷ []) n h = absurd (cc h)
address_all limit (a ∷ b ∷ c ∷ []) n h = absurd (cc h)
address_all limit (a ∷ b ∷ c ∷ d ∷ []) n h = address_is limit a b c d n h
address_all limit (a ∷ b ∷ c ∷ d ∷ e ∷ more) n h = absurd (cc h)

bound : {A B : Type 0} (f : A → Option B) (o : Option A) (y : B) → option_and_then f o ≡ Some y → (x : A) × (o ≡ Some x) × (f x ≡ Some y)
bound f None y e = absurd (cc e)
bound f (Some x) y e = (x, refl, e)

pub point_is : (word line : List ℕ) (n : ℕ) → point_of (word ++ 32 ∷ []) line ≡ Some n → IsPointLine word line n
unfolding point_of
point_is word line n h =
    let (digits, e, f) = bound (address_of 0x2000) (after (word ++ 32 ∷ []) line) n h in
    let address = address_all 0x2000 digits n f in
    record { digits = digits; spelled = after_is (word ++ 32 ∷ []) line digits e ∙ append_assoc word (32 ∷ []) digits; at = address.0; within = address.1 }

pub point_again : (word line : List ℕ) (n : ℕ) → IsPointLine word line n → point_of (word ++ 32 ∷ []) line ≡ Some n
unfolding point_of
point_again word line n h =
    let (a, b, c, d, e) = four_digits h.digits (n / 256) (n % 256) h.at in
    ap (λ l. option_and_then (address_of 0x2000) (after (word ++ 32 ∷ []) l)) (h.spelled ∙ sym (append_assoc word (32 ∷ []) h.digits))
    ∙ ap (option_and_then (address_of 0x2000)) (after_again (word ++ 32 ∷ []) h.digits)
    ∙ ap (address_of 0x2000) e ∙ address_again 0x2000 a b c d n (subst (λ t. IsAddress t n) e h.at) h.within
