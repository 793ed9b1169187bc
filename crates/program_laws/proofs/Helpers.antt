-- The names of helpers: as a map file has them, none as a text has it, and no two are one.
use Rattle.std.proofs.Common.{◌≡◌, ℕ, ◌<◌, true, false, List, [], ◌∷◌, length, Option, Some, refl, sym, ap, ◌∙◌, arith}
use Rattle.std.specs.List.{find, list_all}
use Rattle.std.specs.Str.{bytes_eq}
use Rattle.std.proofs.lemmas.List.Sums.{AllPass-from_list_all}
use Rattle.c_token.specs.Longest.{is_word}
use Rattle.c_typed.specs.declared.calls.Helper.{Helper}
use Rattle.c_typed.specs.declared.calls.Helper.TheVariants.{Mul2, Mul4, Divu2, Divs2, Remu2, Rems2, Divu4, Divs4, Remu4, Rems4, Shl2, Shru2, Shrs2, Shl4, Shru4, Shrs4}
use Rattle.pic_map.specs.MapFile.{is_name_byte, IsName}
use Rattle.ram_place.specs.Helpers.{name}

pub no_word : (h : Helper) → is_word (name h) ≡ false
no_word Mul2 = refl
no_word Mul4 = refl
no_word Divu2 = refl
no_word Divs2 = refl
no_word Remu2 = refl
no_word Rems2 = refl
no_word Divu4 = refl
no_word Divs4 = refl
no_word Remu4 = refl
no_word Rems4 = refl
no_word Shl2 = refl
no_word Shru2 = refl
no_word Shrs2 = refl
no_word Shl4 = refl
no_word Shru4 = refl
no_word Shrs4 = refl

name_by : (bytes : List ℕ) → 0 < length bytes → list_all is_name_byte bytes ≡ true → IsName bytes
name_by bytes some all = record { some = some; bytes = AllPass-from_list_all is_name_byte bytes all }

pub helper_name : (h : Helper) → IsName (name h)
helper_name Mul2 = name_by (name Mul2) (omega arith) refl
helper_name Mul4 = name_by (name Mul4) (omega arith) refl
helper_name Divu2 = name_by (name Divu2) (omega arith) refl
helper_name Divs2 = name_by (name Divs2) (omega arith) refl
helper_name Remu2 = name_by (name Remu2) (omega arith) refl
helper_name Rems2 = name_by (name Rems2) (omega arith) refl
helper_name Divu4 = name_by (name Divu4) (omega arith) refl
helper_name Divs4 = name_by (name Divs4) (omega arith) refl
helper_name Remu4 = name_by (name Remu4) (omega arith) refl
helper_name Rems4 = name_by (name Rems4) (omega arith) refl
helper_name Shl2 = name_by (name Shl2) (omega arith) refl
helper_name Shru2 = name_by (name Shru2) (omega arith) refl
helper_name Shrs2 = name_by (name Shrs2) (omega arith) refl
helper_name Shl4 = name_by (name Shl4) (omega arith) refl
helper_name Shru4 = name_by (name Shru4) (omega arith) refl
helper_name Shrs4 = name_by (name Shrs4) (omega arith) refl

-- the helper of a name
all_helpers : List Helper
all_helpers = Mul2 ∷ Mul4 ∷ Divu2 ∷ Divs2 ∷ Remu2 ∷ Rems2 ∷ Divu4 ∷ Divs4 ∷ Remu4 ∷ Rems4 ∷ Shl2 ∷ Shru2 ∷ Shrs2 ∷ Shl4 ∷ Shru4 ∷ Shrs4 ∷ []

helper_of : List ℕ → Option Helper
helper_of bytes = find (λ h. bytes_eq (name h) bytes) all_helpers

found_again : (h : Helper) → helper_of (name h) ≡ Some h
unfolding helper_of all_helpers
found_again Mul2 = refl
found_again Mul4 = refl
found_again Divu2 = refl
found_again Divs2 = refl
found_again Remu2 = refl
found_again Rems2 = refl
found_again Divu4 = refl
found_again Divs4 = refl
found_again Remu4 = refl
found_again Rems4 = refl
found_again Shl2 = refl
found_again Shru2 = refl
found_again Shrs2 = refl
found_again Shl4 = refl
found_again Shru4 = refl
found_again Shrs4 = refl

some_is : (a b : Helper) → Some a ≡ Some b → a ≡ b
some_is a b e = cc

pub helpers_differ : (a b : Helper) → name a ≡ name b → a ≡ b
helpers_differ a b e = some_is a b (sym (found_again a) ∙ ap helper_of e ∙ found_again b)
