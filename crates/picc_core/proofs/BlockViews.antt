-- The views of blocks: one block more, or none; and all of a program together.
use Rattle.std.proofs.Common.{◌≡◌, ℕ, List, [], ◌∷◌, ◌++◌, Option, refl, sym, ap, ◌∙◌, append-nil}
use Rattle.std.specs.List.Sorted.{IsNonDecreasingBy, IsPermutation}
use Rattle.call_graph.specs.Numbers.{handler_at}
use Rattle.call_graph.specs.declared.types.FnCopy.{FnCopy}
use Rattle.core_code.specs.declared.code.CoreProgram.{CoreProgram}
use Rattle.isr_save.specs.Start.{start_code}
use Rattle.sym_code.specs.declared.code.BlockName.{BlockName}
use Rattle.sym_code.specs.declared.code.BlockName.TheVariants.{Start}
use Rattle.sym_code.specs.declared.code.Sym.{Sym}
use Rattle.sym_code.specs.declared.code.SymBlock.{SymBlock}
use Rattle.select_wide.specs.Blocks.{blocks_from, views_of}
use Rattle.program_code.specs.Joined.{helpers_from, IsJoined}
use Rattle.program_code.specs.Order.{block_rank}

abbrev Views : Type 0
Views = List (BlockName × List Sym)

-- one block more
pub helper_put : (bs : List SymBlock) (b : SymBlock) → views_of (bs ++ b ∷ []) ≡ views_of bs ++ (b.name, b.list.items) ∷ []
helper_put [] b = refl
helper_put (c ∷ bs) b = ap (λ (l : Views). (c.name, c.list.items) ∷ l) (helper_put bs b)

pub none_put : (bs : List SymBlock) → views_of bs ≡ views_of bs ++ []
none_put bs = sym (append-nil (views_of bs))

-- what is put together is whole
pub are_joined : (core : CoreProgram) (copies listed : List FnCopy) (blocks selected made order : List SymBlock) (start : SymBlock) (handler : Option ℕ) → listed ≡ copies → blocks ≡ start ∷ order → IsPermutation made order
    → IsNonDecreasingBy (block_rank copies) order → views_of selected ≡ blocks_from core.bodies.items copies 0 copies → views_of made ≡ views_of selected ++ helpers_from 0 listed → start.name ≡ Start
    → start.list.items ≡ start_code handler core.statics.items → handler ≡ handler_at copies → IsJoined core copies blocks
are_joined core copies listed blocks selected made order start handler same_list whole same sorted chosen helped named exact is = record {
  start = start;
  made = made;
  order = order;
  whole = whole;
  same = same;
  sorted = sorted;
  views = helped ∙ ap (λ (l : Views). l ++ helpers_from 0 listed) chosen ∙ ap (λ (xs : List FnCopy). blocks_from core.bodies.items copies 0 copies ++ helpers_from 0 xs) same_list;
  name = named;
  exact = exact ∙ ap (λ (h : Option ℕ). start_code h core.statics.items) is;
}
