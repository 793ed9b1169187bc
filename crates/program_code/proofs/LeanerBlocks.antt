-- Block by block, what the pass gives is made of what it was given.
use Rattle.std.proofs.Common.{◌≡◌, ℕ, Bool, true, List, [], ◌∷◌, Option, None, refl, sym, ap, ◌∙◌, subst}
use Rattle.std.specs.List.{AllZip}
use Rattle.core_code.specs.Bytes.{Object}
use Rattle.sym_code.specs.Layout.{DataLayout}
use Rattle.sym_code.specs.declared.code.BlockName.{BlockName}
use Rattle.sym_code.specs.declared.code.BlockName.TheVariants.{Start}
use Rattle.sym_code.specs.declared.code.Sym.{Sym}
use Rattle.sym_code.specs.declared.code.Sym.TheVariants as syms
use Rattle.sym_code.specs.declared.code.SymBlock.{SymBlock}
use Rattle.lean_code.proofs.Admitting.{kept_is_same}
use Rattle.lean_code.specs.Checked.{Sketch, IsBlockOf}
use Rattle.lean_code.specs.Admissible.{keeps_all, puts_bytes, ends_by_word, rows_at, IsAdmissible}
use Rattle.lean_code.specs.Rows.{Keeps, Row, At, olds, puts}
use Rattle.lean_pass.specs.Made.{IsAsGiven, IsLean, Kept, Made}
use Rattle.program_code.specs.Leaner.{IsLeaner, BlocksAreLeaner}

-- ---- the given blocks
-- rows by which all stays as it is
abbrev kept_rows : List Sym → List Row
kept_rows [] = []
kept_rows (s ∷ list) = At s Keeps None ∷ kept_rows list

kept_olds : (list : List Sym) → list ≡ olds (kept_rows list)
kept_olds [] = refl
kept_olds (s ∷ list) = ap (λ l. s ∷ l) (kept_olds list)

kept_puts : (list : List Sym) → list ≡ puts (kept_rows list)
kept_puts [] = refl
kept_puts (syms.Label label ∷ list) = ap (λ l. syms.Label label ∷ l) (kept_puts list)
kept_puts (s ∷ list) = ap (λ l. s ∷ l) (kept_puts list)

kept_bytes : (list : List Sym) → puts_bytes (kept_rows list) ≡ true
kept_bytes [] = refl
kept_bytes (s ∷ list) = kept_bytes list

as_given : (given block : SymBlock) → IsAsGiven given block → IsLeaner given block
as_given given block is = record {
  name = is.name;
  rows = kept_rows given.list.items;
  before = kept_olds given.list.items;
  after = is.code ∙ kept_puts given.list.items;
  numbers = kept_bytes given.list.items;
  start = λ name. is.code;
  ends = λ e. ap (ends_by_word true) is.code ∙ e;
}

all_as_given : (given lean : List SymBlock) → AllZip IsAsGiven given lean → AllZip IsLeaner given lean
all_as_given [] [] z = z
all_as_given [] (b ∷ lean) z = z
all_as_given (g ∷ given) [] z = z
all_as_given (g ∷ given) (b ∷ lean) z = (as_given g b z.0, all_as_given given lean z.1)

-- ---- those of a certificate
module _ (variables : ℕ → ℕ) (lent : Object → Bool) (k : Sketch) (admissible : IsAdmissible variables lent k) where
  by_rows : (given block : SymBlock) → IsBlockOf k given block → IsLeaner given block
  by_rows given block is = record {
    name = is.name;
    rows = rows_at k given.name;
    before = is.before;
    after = is.after;
    numbers = admissible.numbers given.name;
    start = λ name. is.after ∙ kept_is_same (rows_at k given.name) (ap (λ (n : BlockName). keeps_all (rows_at k n)) name ∙ admissible.start) ∙ sym is.before;
    ends = λ e. ap (ends_by_word true) is.after ∙ admissible.ends given.name;
  }

  all_by_rows : (given lean : List SymBlock) → AllZip (IsBlockOf k) given lean → AllZip IsLeaner given lean
  all_by_rows [] [] z = z
  all_by_rows [] (b ∷ lean) z = z
  all_by_rows (g ∷ given) [] z = z
  all_by_rows (g ∷ given) (b ∷ lean) z = (by_rows g b z.0, all_by_rows given lean z.1)

pub blocks_are_leaner : BlocksAreLeaner
blocks_are_leaner l handler variables lent given lean (Kept as_was) = all_as_given given lean as_was
blocks_are_leaner l handler variables lent given lean (Made k layout same made steady admissible rows) = all_by_rows variables lent k admissible given lean made.blocks
