-- What the definitions on offsets, bytes and counts come to.
use Rattle.std.proofs.Common.{◌≡◌, ℕ, suc, ◌+◌, ◌/◌, ◌%◌, List, [], ◌∷◌, ◌++◌, refl, ap, arith}
use Rattle.std.proofs.lemmas.List.{append-nil}
use Rattle.std.specs.Prelude.{min, nat_eq, if◌then◌else◌}
use Rattle.core_code.specs.Tree as code
use Rattle.core_code.specs.declared.code.Byte.{Byte}
use Rattle.core_puts.specs.Bytes.{beyond, little_beyond, byte_at, behind}
use Rattle.core_puts.specs.Puts.{test_size, copies, sets, zeros}

pub beyond_is : (base bytes : ℕ) → beyond base bytes ≡ min (base + bytes) 0xffff
unfolding beyond
beyond_is base bytes = refl

pub little_beyond_is : (base bytes : ℕ) → little_beyond base bytes ≡ min (base + bytes) 0xff
unfolding little_beyond
little_beyond_is base bytes = refl

pub test_size_is : (size : ℕ) → test_size size ≡ min size 0xff
unfolding test_size
test_size_is size = refl

pub byte_at_is : (number place : ℕ) → byte_at number place ≡ (if nat_eq place 0 then number % 0x100 else if nat_eq place 1 then number / 0x100 % 0x100 else if nat_eq place 2 then number / 0x10000 % 0x100 else if nat_eq place 3 then number / 0x1000000 % 0x100 else 0)
unfolding byte_at
byte_at_is number place = refl

plus_one : (k : ℕ) → k + 1 ≡ suc k
plus_one k = omega arith

pub copies_none : (to from : Byte) → copies to from 0 ≡ []
unfolding copies
copies_none to from = refl

pub copies_more : (to from : Byte) (k : ℕ) → copies to from (k + 1) ≡ copies to from k ++ code.Copy (behind to k) (behind from k) ∷ []
unfolding copies
copies_more to from k = ap (copies to from) (plus_one k)

pub sets_none : (to : Byte) (number : ℕ) → sets to number 0 ≡ []
unfolding sets
sets_none to number = refl

pub sets_more : (to : Byte) (number k : ℕ) → sets to number (k + 1) ≡ sets to number k ++ code.Set (behind to k) (byte_at number k) ∷ []
unfolding sets
sets_more to number k = ap (sets to number) (plus_one k)

pub zeros_none : (to : Byte) → zeros to 0 ≡ []
unfolding zeros
zeros_none to = refl

pub zeros_more : (to : Byte) (k : ℕ) → zeros to (k + 1) ≡ zeros to k ++ code.Set (behind to k) 0 ∷ []
unfolding zeros
zeros_more to k = ap (zeros to) (plus_one k)

pub append_nothing : (ts : List code.Tree) → ts ++ [] ≡ ts
append_nothing ts = append-nil ts
