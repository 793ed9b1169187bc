-- What is read of lines is what they give, where each address is below 4400h and given once.
use Rattle.std.proofs.Common.{◌≡◌, ℕ, zero, suc, ◌+◌, ◌*◌, ◌%◌, ◌<◌, ◌≤◌, Bool, true, false, ◌&&◌, Option, Some, None, Result, Ok, Err, List, [], ◌∷◌, ◌++◌, length, take, slice_index, refl, sym, ap, ◌∙◌, subst, arith, nat_eq, nat_lt, ⊎_elim, append_assoc, append-nil}
use Rattle.std.specs.Prelude.{if◌then◌else◌}
use Rattle.std.specs.List.{sum}
use Rattle.std.proofs.lemmas.Bool.{cases_eq, eq-eqb, ne_eqb, eqb-true, ltb-false, ltb-true}
use Rattle.text_lines.specs.Text.{bytes_of}
use Rattle.hex_image.specs.HexFile.{HexRecord, has_kind, fields, fields_in, record_of, Given, from_address, in_front, with_record, given_by, times}
use Rattle.hex_image.specs.Reading as reading
use Rattle.hex_image.specs.Reading.{Told, Data, End, Upper, told, pairs_in, line_bytes, placed, Next, under, after_record, after_line, go_on, read_on}
use Rattle.hex_image.specs.declared.read.HexError.{HexError}
use Rattle.hex_image.specs.declared.read.HexError.TheVariants.{BadRecord, Twice, Outside}
use Rattle.hex_image.proofs.Bytes.{times-append}
use Rattle.hex_image.proofs.Marking.{times_same}

-- each address is below 4400h and given once at most
pub record AreSingle (given : List Given) : Type 0 where
  pub below : (address : ℕ) → 0x4400 ≤ address → times given address ≡ 0
  pub once : (address : ℕ) → times given address ≤ 1

pub nothing_single : AreSingle []
unfolding times
nothing_single = record { below = λ a h. refl; once = λ a. omega arith }

front_single : (xs ys : List Given) → AreSingle (xs ++ ys) → AreSingle xs
front_single xs ys h = record {
  below = λ a l. let both = times-append xs ys a in let none = h.below a l in omega (arith, both, none);
  once = λ a. let both = times-append xs ys a in let one = h.once a in omega (arith, both, one);
}

-- ---- bytes from an address on
abbrev PlacesRight : List Given → List Given → Result (List Given) HexError → Type 0
PlacesRight given front (Ok g) = (g ≡ given ++ front) × AreSingle g
PlacesRight given front (Err e) = AreSingle (given ++ front) → ⊥

times_here : (given rest : List Given) (address byte : ℕ) → times (given ++ (address, byte) ∷ rest) address ≡ times given address + (1 + times rest address)
unfolding times
times_here given rest address byte =
    let both = times-append given ((address, byte) ∷ rest) address in
    let same : nat_eq address address ≡ true = eq-eqb address address refl in
    both ∙ rw same refl

one_more_single : (given : List Given) (address byte : ℕ) → AreSingle given → address < 0x4400 → times given address ≡ 0 → AreSingle (given ++ (address, byte) ∷ [])
unfolding times
one_more_single given address byte single h free = record {
  below = λ a l. times_same given address byte a (λ e. let no : a ≡ address = e in absurd (omega (arith, no, h, l))) ∙ single.below a l;
  once = λ a.
      ⊎_elim
      (λ same.
      let here = times_here given [] address byte in
      let there : times (given ++ (address, byte) ∷ []) a ≡ 1 = ap (times (given ++ (address, byte) ∷ [])) same ∙ here ∙ rw free refl in
      omega (arith, there))
      (λ other. let e = times_same given address byte a other in let one = single.once a in omega (arith, e, one))
      (cases_eq a address);
}

places_right : (k : ℕ) (given : List Given) (address : ℕ) (bytes : List ℕ) → AreSingle given → PlacesRight given (from_address address bytes) (placed k given address bytes)
unfolding placed from_address
places_right k given address [] single = (sym (append-nil given), single)
places_right k given address (b ∷ bytes) single =
    by_tests (nat_lt address 0x4400) (nat_lt 0 (times given address)) refl refl
    (λ s. places_right k (given ++ (address, b) ∷ []) (address + 1) bytes s)
  where
    rest : List Given
    rest = from_address (address + 1) bytes

    joined : (r : Result (List Given) HexError) → PlacesRight (given ++ (address, b) ∷ []) rest r → PlacesRight given ((address, b) ∷ rest) r
    joined (Ok g) h = (h.0 ∙ append_assoc given ((address, b) ∷ []) rest, h.1)
    joined (Err e) h = λ s. h (subst AreSingle (sym (append_assoc given ((address, b) ∷ []) rest)) s)

    by_tests : (x y : Bool) → nat_lt address 0x4400 ≡ x → nat_lt 0 (times given address) ≡ y
        → (AreSingle (given ++ (address, b) ∷ []) → PlacesRight (given ++ (address, b) ∷ []) rest (placed k (given ++ (address, b) ∷ []) (address + 1) bytes))
        → PlacesRight given ((address, b) ∷ rest)
        (if x then (if y then Err (Twice k address) else placed k (given ++ (address, b) ∷ []) (address + 1) bytes) else Err (Outside k address))
    by_tests false y e f on = λ s.
        let high = ltb-false address 0x4400 e in
        let here = times_here given rest address b in
        let none = s.below address high in
        omega (arith, here, none)
    by_tests true true e f on = λ s.
        let some = ltb-true 0 (times given address) f in
        let here = times_here given rest address b in
        let one = s.once address in
        omega (arith, here, one, some)
    by_tests true false e f on =
        let low = ltb-true address 0x4400 e in
        let free = ltb-false 0 (times given address) f in
        joined (placed k (given ++ (address, b) ∷ []) (address + 1) bytes) (on (one_more_single given address b single low (omega (arith, free))))

-- ---- a record
abbrev pub told_of : HexRecord → Told
told_of r =
    if nat_eq r.kind 1 then End else
    if nat_eq r.kind 4 then Upper (256 * slice_index r.bytes 0 + slice_index r.bytes 1) else
    Data r.address r.bytes

abbrev RecordRight : Option HexRecord → Result Told HexError → Type 0
RecordRight None (Ok t) = ⊥
RecordRight None (Err e) = Unit {0}
RecordRight (Some r) (Ok t) = t ≡ told_of r
RecordRight (Some r) (Err e) = ⊥

abbrev made : ℕ → ℕ → ℕ → List ℕ → Option HexRecord
made kind count address more = if has_kind kind count then Some (record { kind = kind; address = address; bytes = take count more }) else None

kind_right : (k kind count address : ℕ) (more : List ℕ) → length more ≡ count + 1 → RecordRight (made kind count address more) (told k kind address (take count more))
kind_right k zero count address more h = refl
kind_right k (suc zero) zero address more h = refl
kind_right k (suc zero) (suc count) address [] h = absurd (omega (arith, h))
kind_right k (suc zero) (suc count) address (m ∷ more) h = let some : nat_eq (suc count) 0 ≡ false = ne_eqb (suc count) 0 (omega arith) in rw some tt
kind_right k (suc (suc zero)) count address more h = tt
kind_right k (suc (suc (suc zero))) count address more h = tt
kind_right k (suc (suc (suc (suc zero)))) zero address more h = tt
kind_right k (suc (suc (suc (suc zero)))) (suc zero) address [] h = absurd (omega (arith, h))
kind_right k (suc (suc (suc (suc zero)))) (suc zero) address (m ∷ more) h = tt
kind_right k (suc (suc (suc (suc zero)))) (suc (suc zero)) address [] h = absurd (omega (arith, h))
kind_right k (suc (suc (suc (suc zero)))) (suc (suc zero)) address (m ∷ []) h = absurd (omega (arith, h))
kind_right k (suc (suc (suc (suc zero)))) (suc (suc zero)) address (m ∷ n ∷ more) h = refl
kind_right k (suc (suc (suc (suc zero)))) (suc (suc (suc count))) address [] h = absurd (omega (arith, h))
kind_right k (suc (suc (suc (suc zero)))) (suc (suc (suc count))) address (m ∷ []) h = absurd (omega (arith, h))
kind_right k (suc (suc (suc (suc zero)))) (suc (suc (suc count))) address (m ∷ n ∷ []) h = absurd (omega (arith, h))
kind_right k (suc (suc (suc (suc zero)))) (suc (suc (suc count))) address (m ∷ n ∷ o ∷ more) h = let most : nat_eq (suc (suc (suc count))) 2 ≡ false = ne_eqb (suc (suc (suc count))) 2 (omega arith) in rw most tt
kind_right k (suc (suc (suc (suc (suc kind))))) count address more h =
    let no_data : nat_eq (suc (suc (suc (suc (suc kind))))) 0 ≡ false = ne_eqb (suc (suc (suc (suc (suc kind))))) 0 (omega arith) in
    let no_end : nat_eq (suc (suc (suc (suc (suc kind))))) 1 ≡ false = ne_eqb (suc (suc (suc (suc (suc kind))))) 1 (omega arith) in
    let no_upper : nat_eq (suc (suc (suc (suc (suc kind))))) 4 ≡ false = ne_eqb (suc (suc (suc (suc (suc kind))))) 4 (omega arith) in
    rw (no_data, no_end, no_upper) tt

record_right : (k : ℕ) (bytes : List ℕ) → RecordRight (fields bytes) (reading.record_of k bytes)
unfolding reading.record_of
record_right k [] = tt
record_right k (a ∷ []) = tt
record_right k (a ∷ b ∷ []) = tt
record_right k (a ∷ b ∷ c ∷ []) = tt
record_right k (count ∷ high ∷ low ∷ kind ∷ more) = by_tests (nat_eq (length more) (count + 1)) (nat_eq (sum (count ∷ high ∷ low ∷ kind ∷ more) % 256) 0) refl
  where
    by_tests : (x y : Bool) → nat_eq (length more) (count + 1) ≡ x
        → RecordRight (if x && y && has_kind kind count then Some (record { kind = kind; address = 256 * high + low; bytes = take count more }) else None)
        (if x then (if y then told k kind (256 * high + low) (take count more) else Err (reading.wrong_sum k (count ∷ high ∷ low ∷ kind ∷ more))) else Err (BadRecord k))
    by_tests false y e = tt
    by_tests true false e = tt
    by_tests true true e = kind_right k kind count (256 * high + low) more (eqb-true (length more) (count + 1) e)

line_right : (k first : ℕ) (digits : List ℕ) → RecordRight (record_of first digits) (reading.told_in k (line_bytes k first digits))
line_right k first digits = by_test (nat_eq first 58) (bytes_of digits)
  where
    by_test : (b : Bool) (o : Option (List ℕ)) → RecordRight (if b then fields_in o else None) (reading.told_in k (if b then pairs_in k o else Err (BadRecord k)))
    by_test false o = tt
    by_test true None = tt
    by_test true (Some bytes) = record_right k bytes

-- ---- lines
abbrev pub LinesRight : List Given → Option (List Given) → Result (List Given) HexError → Type 0
LinesRight given (Some more) (Ok g) = (g ≡ given ++ more) × AreSingle g
LinesRight given (Some more) (Err e) = AreSingle (given ++ more) → ⊥
LinesRight given None (Ok g) = ⊥
LinesRight given None (Err e) = Unit {0}

abbrev Rest : Type 0
Rest = ℕ → List Given → Result (List Given) HexError

behind_bytes : (k upper address : ℕ) (given front : List Given) (o : Option (List Given)) (p : Result (List Given) HexError) (rest : Rest)
    → PlacesRight given front p → ((g : List Given) → AreSingle g → LinesRight g o (rest upper g))
    → LinesRight given (in_front front o) (go_on (under upper p) rest)
behind_bytes k upper address given front None (Ok g) rest h on = nothing (rest upper g) (on g h.1)
  where
    nothing : (r : Result (List Given) HexError) → LinesRight g None r → LinesRight given None r
    nothing (Ok x) e = e
    nothing (Err x) e = tt
behind_bytes k upper address given front None (Err e) rest h on = tt
behind_bytes k upper address given front (Some more) (Ok g) rest h on = joined (rest upper g) (on g h.1)
  where
    same : g ++ more ≡ given ++ (front ++ more)
    same = ap (λ x. x ++ more) h.0 ∙ append_assoc given front more

    joined : (r : Result (List Given) HexError) → LinesRight g (Some more) r → LinesRight given (Some (front ++ more)) r
    joined (Ok x) e = (e.0 ∙ same, e.1)
    joined (Err x) e = λ s. e (subst AreSingle (sym same) s)
behind_bytes k upper address given front (Some more) (Err e) rest h on = λ s. h (front_single (given ++ front) more (subst AreSingle (sym (append_assoc given front more)) s))

behind_record : (k upper : ℕ) (given : List Given) (r : Option HexRecord) (t : Result Told HexError) (lines : ℕ → Option (List Given)) (rest : Rest)
    → AreSingle given → RecordRight r t → ((u : ℕ) (g : List Given) → AreSingle g → LinesRight g (lines u) (rest u g))
    → LinesRight given (with_record r lines upper) (go_on (after_record k upper given t) rest)
behind_record k upper given None (Ok t) lines rest single h on = absurd h
behind_record k upper given None (Err e) lines rest single h on = tt
behind_record k upper given (Some r) (Err e) lines rest single h on = absurd h
behind_record k upper given (Some r) (Ok t) lines rest single h on =
    subst (λ t. LinesRight given (with_record (Some r) lines upper) (go_on (after_record k upper given (Ok t)) rest)) (sym h) (by_tests (nat_eq r.kind 1) (nat_eq r.kind 4))
  where
    by_tests : (x y : Bool)
        → LinesRight given (if x then Some [] else if y then lines (256 * slice_index r.bytes 0 + slice_index r.bytes 1) else in_front (from_address (65536 * upper + r.address) r.bytes) (lines upper))
        (go_on (after_record k upper given (Ok (if x then End else if y then Upper (256 * slice_index r.bytes 0 + slice_index r.bytes 1) else Data r.address r.bytes))) rest)
    by_tests true y = (sym (append-nil given), single)
    by_tests false true = on (256 * slice_index r.bytes 0 + slice_index r.bytes 1) given single
    by_tests false false =
        behind_bytes k upper (65536 * upper + r.address) given (from_address (65536 * upper + r.address) r.bytes) (lines upper) (placed k given (65536 * upper + r.address) r.bytes) rest
        (places_right k given (65536 * upper + r.address) r.bytes single) (on upper)

pub lines_right : (k upper : ℕ) (given : List Given) (lines : List (List ℕ)) → AreSingle given → LinesRight given (given_by lines upper) (read_on k upper given lines)
unfolding given_by read_on after_line
lines_right k upper given [] single = tt
lines_right k upper given ([] ∷ lines) single = lines_right (k + 1) upper given lines single
lines_right k upper given ((first ∷ digits) ∷ lines) single =
    behind_record k upper given (record_of first digits) (reading.told_in k (line_bytes k first digits)) (given_by lines) (λ u g. read_on (k + 1) u g lines) single (line_right k first digits)
    (λ u g s. lines_right (k + 1) u g lines s)
