-- The blocks of a program that a certificate makes.
use Rattle.std.proofs.Common.{◌≡◌, ◌/◌, true, false, List, sym, subst, ap, ◌∙◌}
use Rattle.std.specs.List.{All}
use Rattle.sym_code.specs.Layout.{frame}
use Rattle.sym_code.specs.Programs.{block_in}
use Rattle.sym_code.specs.declared.code.BlockName.TheVariants.{Copy}
use Rattle.sym_code.specs.declared.code.Sym.{Sym}
use Rattle.code_place.specs.Layouts.{layout_of}
use Rattle.math_helpers.proofs.Shapes.{code_is_own}
use Rattle.math_helpers.specs.Routines.{helper_code}
use Rattle.math_helpers.specs.Shape.{IsOwn, frame_size, ArePriced}
use Rattle.select_wide.specs.Links.{AreDear}
use Rattle.bank_page.specs.Links.{price_in}
use Rattle.bank_trace.proofs.Owned.{AllTame, all_tame}
use Rattle.bank_trace.proofs.Tight.{is_tight, tight_code}
use Rattle.bank_trace.proofs.WholePrices.{blocks_are_dear, list_is_priced}
use Rattle.lean_code.specs.Rows.{olds, puts}
use Rattle.bank_trace.specs.LeanPrices.{carried_by, LeanBlocksAreDear, LeanRoutinesArePriced}
use Rattle.bank_trace.proofs.LeanWhole.{lean_is_dear, lean_is_priced}
use Rattle.bank_trace.proofs.LeanRoutines.{tame_made, tight_made}

pub lean_blocks_are_dear : LeanBlocksAreDear
lean_blocks_are_dear x placed lean made has whole name is steady =
    lean_is_dear (layout_of placed) (price_in (block_in made) name) (x.rows name) steady
    (subst (λ (l : List Sym). AreDear (layout_of placed) (price_in (block_in made) name) l) is (blocks_are_dear placed lean made has whole name))

pub lean_routines_are_priced : LeanRoutinesArePriced
lean_routines_are_priced x placed lean made has h root c code is steady whole fits =
    let rows = x.rows (Copy c) in
    let bank = (frame (layout_of placed) c).address / 128 in
    let price = price_in (block_in made) (Copy c) in
    let tight : is_tight false (olds rows) ≡ true = ap (is_tight false) code ∙ tight_code h root c in
    let made_priced : ArePriced price (puts rows) =
    list_is_priced placed lean made has c (frame_size h) (puts rows) is whole fits
    (λ there. tame_made placed (Copy c) bank root c (frame_size h) there rows (subst (λ (l : List Sym). All (IsOwn root c (frame_size h)) l) (sym code) (code_is_own h root c)) (subst (λ (l : List Sym). AllTame placed (Copy c) bank l) (sym code) (all_tame placed root c (frame_size h) bank (Copy c) there (helper_code h root c) (code_is_own h root c))))
    (tight_made rows steady tight) in
    subst (λ (l : List Sym). ArePriced (carried_by rows price) l) code (lean_is_priced price rows steady made_priced)
