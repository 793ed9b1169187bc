-- What is found in the tables of registers and bits: a table's rule is computed over the whole
-- table, as an equation of two lists, and then holds of each row that is found.
use Rattle.std.proofs.Common.{◌≡◌, ℕ, ◌<◌, Bool, true, false, Option, Some, IfSome, List, [], ◌∷◌, map, refl, ap, ◌∙◌, nat_eq, nat_lt}
use Rattle.std.proofs.lemmas.Bool.{eqb-true, ltb-true}
use Rattle.std.proofs.lemmas.Slice.Eq.{bytes_eq-Decides}
use Rattle.std.specs.Prelude.{if◌then◌else◌}
use Rattle.std.specs.Str.{bytes_eq}
use Rattle.pic_world.specs.Registers.{Register, Bit, registers, bits, register_in, register_named, name_in, name_at, bit_in, bit_named, is_register}

-- the first of a list, or else
first_or : {A : Type 0} → A → List A → A
first_or x [] = x
first_or x (y ∷ ys) = y

rest : {A : Type 0} → List A → List A
rest [] = []
rest (y ∷ ys) = ys

heads : {A : Type 0} {x y : A} {xs ys : List A} → x ∷ xs ≡ y ∷ ys → x ≡ y
unfolding first_or
heads {x = x} e = ap (first_or x) e

tails : {A : Type 0} {x y : A} {xs ys : List A} → x ∷ xs ≡ y ∷ ys → xs ≡ ys
unfolding rest
tails e = ap rest e

named_row : (back : ℕ → Option (List ℕ)) (rs : List Register) → map (λ r. back r.1) rs ≡ map (λ r. Some r.0) rs → (name : List ℕ) → IfSome (register_in rs name) (λ address. back address ≡ Some name)
named_row back [] e name = tt
named_row back (r ∷ rs) e name = by_test (bytes_eq r.0 name) refl (named_row back rs (tails e) name)
  where
    by_test : (b : Bool) → bytes_eq r.0 name ≡ b → IfSome (register_in rs name) (λ address. back address ≡ Some name) → IfSome (if b then Some r.1 else register_in rs name) (λ address. back address ≡ Some name)
    by_test true is later = heads e ∙ ap Some ((bytes_eq-Decides r.0 name).0 is)
    by_test false is later = later

-- the register of a name has that name
pub named_back : (name : List ℕ) → IfSome (register_named name) (λ address. name_at address ≡ Some name)
named_back = named_row name_at registers refl

name_row : (back : List ℕ → Option ℕ) (rs : List Register) → map (λ r. back r.0) rs ≡ map (λ r. Some r.1) rs → (address : ℕ) → IfSome (name_in rs address) (λ name. back name ≡ Some address)
name_row back [] e address = tt
name_row back (r ∷ rs) e address = by_test (nat_eq r.1 address) refl (name_row back rs (tails e) address)
  where
    by_test : (b : Bool) → nat_eq r.1 address ≡ b → IfSome (name_in rs address) (λ name. back name ≡ Some address) → IfSome (if b then Some r.0 else name_in rs address) (λ name. back name ≡ Some address)
    by_test true is later = heads e ∙ ap Some (eqb-true r.1 address is)
    by_test false is later = later

-- the name at an address is that register's
pub name_back : (address : ℕ) → IfSome (name_at address) (λ name. register_named name ≡ Some address)
name_back = name_row register_named registers refl

bit_row : (holds : Bit → Bool) (P : ℕ → ℕ → Type 0) → ((b : Bit) → holds b ≡ true → P b.1 b.2) → (bs : List Bit) → map holds bs ≡ map (λ b. true) bs → (name : List ℕ) → IfSome (bit_in bs name) (λ found. P found.0 found.1)
bit_row holds P means [] e name = tt
bit_row holds P means (b ∷ bs) e name = by_test (bytes_eq b.0 name) (bit_row holds P means bs (tails e) name)
  where
    by_test : (t : Bool) → IfSome (bit_in bs name) (λ found. P found.0 found.1) → IfSome (if t then Some (b.1, b.2) else bit_in bs name) (λ found. P found.0 found.1)
    by_test true later = means b (heads e)
    by_test false later = later

pub bit_place : (name : List ℕ) → IfSome (bit_named name) (λ found. found.1 < 8)
bit_place = bit_row (λ b. nat_lt b.2 8) (λ register place. place < 8) (λ b. ltb-true b.2 8) bits refl

pub bit_register : (name : List ℕ) → IfSome (bit_named name) (λ found. is_register found.0 ≡ true)
bit_register = bit_row (λ b. is_register b.1) (λ register place. is_register register ≡ true) (λ b is. is) bits refl
