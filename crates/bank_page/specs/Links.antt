-- What selects keep: code with its selects follows the same code without them.
use Rattle.std.specs.Prelude.{ℕ, zero, suc, ◌+◌, ◌≡◌, true, false, List, [], ◌∷◌, Option, if◌then◌else◌}
use Rattle.std.specs.List.{All}
use Rattle.pic_map.specs.declared.Placed.{Placed}
use Rattle.pic_world.specs.World.{Outside}
use Rattle.run_links.specs.Runs.{Goes, Follows, IsSlow}
use Rattle.sym_code.specs.Correct.{AreEntries}
use Rattle.sym_code.specs.Cost.{time_of, times_in}
use Rattle.sym_code.specs.Effect.{Setting, Memory}
use Rattle.sym_code.specs.Machine.{Entry, sym_start}
use Rattle.sym_code.specs.Programs.{block_in}
use Rattle.sym_code.specs.Registers.{Registers, Fits}
use Rattle.sym_code.specs.Runs.{run_of}
use Rattle.sym_code.specs.declared.code.BlockName.{BlockName}
use Rattle.sym_code.specs.declared.code.Sym.{Sym}
use Rattle.sym_code.specs.declared.code.SymBlock.{SymBlock}
use Rattle.code_place.specs.Layouts.{program_of, page_of}
use Rattle.code_place.specs.Places.{BlocksHaveAddresses}
use Rattle.code_place.specs.Sizes.{Fit}
use Rattle.sym_code.specs.Selects.{is_select}
use Rattle.bank_page.specs.Kinds.{is_label}
use Rattle.bank_page.specs.Near.{KeepNear}
use Rattle.sym_code.specs.Selects.{bare}
use Rattle.bank_page.specs.Selected.{Reaches, IsApart}

-- ---- prices
-- What the instruction of a number costs together with the selects before it, in a list where so many selects stand before the
-- first one. The number counts no selects.
abbrev pub price_from : ℕ → List Sym → ℕ → ℕ
price_from selects [] n = 1
price_from selects (s ∷ rest) zero =
    if is_select s then price_from (selects + 1) rest zero else (if is_label s then 1 else time_of s + selects)
price_from selects (s ∷ rest) (suc n) =
    if is_select s then price_from (selects + 1) rest (suc n) else price_from (if is_label s then selects else 0) rest n

abbrev pub price_in : (BlockName → List Sym) → BlockName → ℕ → ℕ
price_in block name n = price_from 0 (block name) n

-- ---- what is given
-- Blocks with their selects: by what is known on every way through a block each access finds its bank selected, and each jump and
-- call its page; between a skip and the instruction behind it stands none. All that is named has an address: a result is one of
-- four bytes, which stand in every bank. And where objects and frames end below 100h, no select sets RP1.
pub record HasSelects (given made : List SymBlock) (handler : Option ℕ) (placed : Placed) (at : List ℕ) (g h : Setting) : Type 0 where
  pub given_code : g.program ≡ program_of given handler placed
  pub made_code : h.program ≡ program_of made handler placed
  pub without : g.banked ≡ false
  pub with : h.banked ≡ true
  pub pages : h.page_of ≡ page_of made at
  pub fit : Fit made at
  pub named : BlocksHaveAddresses placed made at
  pub limits : h.limit ≡ g.limit
  pub leaves : h.leaves ≡ g.leaves
  pub same : (name : BlockName) → bare (block_in made name) ≡ block_in given name
  pub apart : All IsApart made
  pub reaches : All (Reaches placed) made
  pub near : KeepNear placed made

-- ---- what is kept
abbrev pub SelectsKeep : Setting → Setting → Type 0
SelectsKeep g h =
    (o : Outside) (e : Entry) (r : Registers) (m : Memory) → AreEntries e → Fits r → (n : ℕ)
    → Goes (run_of g (price_in h.program.block) e o (sym_start g.program r m)) n
    → (link : Follows (λ event. event) (run_of g (price_in h.program.block) e o (sym_start g.program r m)) (run_of h (times_in h.program.block) e o (sym_start h.program r m)) n)
    × IsSlow (λ event. event) (run_of g (price_in h.program.block) e o (sym_start g.program r m)) (run_of h (times_in h.program.block) e o (sym_start h.program r m)) n link

-- what selects promise
abbrev pub Chooses : Type 0
Chooses =
    (given made : List SymBlock) (handler : Option ℕ) (placed : Placed) (at : List ℕ) (g h : Setting)
    → HasSelects given made handler placed at g h → SelectsKeep g h
