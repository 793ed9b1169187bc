-- In a routine nothing stands behind a jump or return but a label, where the jump isn't skipped.
use Rattle.std.proofs.Common.{◌≡◌, ℕ, Bool, true, false, not, ◌&&◌, if◌then◌else◌, List, [], ◌∷◌, refl}
use Rattle.c_typed.specs.declared.calls.Helper.{Helper}
use Rattle.c_typed.specs.declared.calls.Helper.TheVariants.{Mul2, Mul4, Divu2, Divs2, Remu2, Rems2, Divu4, Divs4, Remu4, Rems4, Shl2, Shru2, Shrs2, Shl4, Shru4, Shrs4}
use Rattle.pic_world.specs.declared.Root.{Root}
use Rattle.sym_code.specs.declared.code.Sym.{Sym}
use Rattle.math_helpers.specs.Routines.{helper_code}
use Rattle.bank_page.specs.Kinds.{is_label, is_skip}
use Rattle.bank_page.specs.Known.{ends}

abbrev pub label_first : List Sym → Bool
label_first [] = true
label_first (s ∷ rest) = is_label s

abbrev pub is_tight : Bool → List Sym → Bool
is_tight behind [] = true
is_tight behind (s ∷ rest) = (if ends s && not behind then label_first rest else true) && is_tight (is_skip s) rest

pub tight_code : (h : Helper) (root : Root) (copy : ℕ) → is_tight false (helper_code h root copy) ≡ true
tight_code Mul2 root copy = refl
tight_code Mul4 root copy = refl
tight_code Divu2 root copy = refl
tight_code Divs2 root copy = refl
tight_code Remu2 root copy = refl
tight_code Rems2 root copy = refl
tight_code Divu4 root copy = refl
tight_code Divs4 root copy = refl
tight_code Remu4 root copy = refl
tight_code Rems4 root copy = refl
tight_code Shl2 root copy = refl
tight_code Shru2 root copy = refl
tight_code Shrs2 root copy = refl
tight_code Shl4 root copy = refl
tight_code Shru4 root copy = refl
tight_code Shrs4 root copy = refl
