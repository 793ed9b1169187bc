-- What becomes of the block of a name.
use Rattle.std.proofs.Common.{◌≡◌, Bool, true, false, if◌then◌else◌, List, [], ◌∷◌, refl, ap, ◌∙◌}
use Rattle.std.specs.List.{AllZip}
use Rattle.std.proofs.lemmas.Bool.{eqb-true}
use Rattle.pic_map.specs.declared.Placed.{Placed}
use Rattle.sym_code.specs.Programs.{same_name, block_in}
use Rattle.sym_code.specs.declared.code.BlockName.{BlockName}
use Rattle.sym_code.specs.declared.code.BlockName.TheVariants as names
use Rattle.sym_code.specs.declared.code.SymBlock.{SymBlock}
use Rattle.bank_page.specs.Selected.{front, IsExact}
use Rattle.bank_page.specs.Step.{selected_from}
use Rattle.bank_trace.proofs.Puts.{never}

same_names : (a b : BlockName) → same_name a b ≡ true → a ≡ b
same_names names.Start names.Start e = refl
same_names names.Start (names.Copy c) e = never e
same_names (names.Copy c) names.Start e = never e
same_names (names.Copy c) (names.Copy d) e = ap names.Copy (eqb-true c d e)

pub exact_at : (placed : Placed) (given made : List SymBlock) → AllZip (IsExact placed) given made → (name : BlockName) → block_in made name ≡ selected_from placed name front (block_in given name)
exact_at placed [] [] each name = refl
exact_at placed [] (m ∷ made) each name = absurd each
exact_at placed (g ∷ given) [] each name = absurd each
exact_at placed (g ∷ given) (m ∷ made) each name =
    ap (λ (n : BlockName). if same_name n name then m.list.items else block_in made name) each.0.name ∙ by_name (same_name g.name name) refl (exact_at placed given made each.1 name)
  where
    by_name : (c : Bool) → same_name g.name name ≡ c → block_in made name ≡ selected_from placed name front (block_in given name)
        → (if c then m.list.items else block_in made name) ≡ selected_from placed name front (if c then g.list.items else block_in given name)
    by_name true is later = each.0.code ∙ ap (λ (n : BlockName). selected_from placed n front g.list.items) (same_names g.name name is)
    by_name false is later = later
