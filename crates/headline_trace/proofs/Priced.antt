-- Leaner code follows the code that was selected, at prices within its bounds.
use Rattle.std.proofs.Common.{ℕ, List, refl, arith}
use Rattle.std.proofs.lemmas.Option.{slice_get_within}
use Rattle.bank_page.specs.Links.{price_in}
use Rattle.bank_trace.specs.SelectPrices.{AreSelected}
use Rattle.c_typed.specs.Trees.{Program}
use Rattle.call_graph.specs.Numbers.{handler_at}
use Rattle.call_graph.specs.declared.types.FnCopy.{FnCopy}
use Rattle.code_place.specs.Layouts.{layout_of, page_of}
use Rattle.core_code.specs.declared.code.CoreProgram.{CoreProgram}
use Rattle.headline_trace.specs.Linked.{bare_setting}
use Rattle.headline_trace.specs.LeanLinks.{AreFollowed}
use Rattle.headline_trace.proofs.LeanFollowed.{lean_blocks_follow}
use Rattle.lower_stmt.specs.Programs.{core_of}
use Rattle.pic_map.specs.declared.Placed.{Placed}
use Rattle.sym_code.specs.Machine.{sym_start}
use Rattle.sym_code.specs.Programs.{block_in}
use Rattle.sym_code.specs.Runs.{weighed_of}
use Rattle.sym_code.specs.declared.code.BlockName.TheVariants.{Copy}
use Rattle.sym_code.specs.declared.code.SymBlock.{SymBlock}
use Rattle.program_code.specs.Passed.{IsPassed}
use Rattle.headline_trace.specs.Selection.{LeanIsHad, limit_of}
use Rattle.headline_trace.proofs.Cheaper.{led_cheaper}
use Rattle.headline_trace.proofs.Chosen.{routine_block}
use Rattle.headline_trace.proofs.Laid.{frames_long, frames_whole, routine_room}
use Rattle.headline_trace.proofs.Selects.{whole_same}
use Rattle.headline_trace.proofs.Thinned.{kept}

module _ (p : Program) (copies : List FnCopy) (core : CoreProgram) (given made : List SymBlock) (placed : Placed) (at : List ℕ) (passed : IsPassed p copies core given made placed at) where
  are_selected : AreSelected placed passed.lean passed.whole
  are_selected = record { each = passed.blocks.exact; same = whole_same p copies core given made placed at passed }

  -- by the prices with all selects
  pub followed : AreFollowed (layout_of placed) (handler_at copies) (core_of p copies).variable_bytes passed.blocks.lent given passed.lean (price_in (block_in passed.whole))
  followed = lean_blocks_follow (layout_of placed) (handler_at copies) (core_of p copies).variable_bytes passed.blocks.lent given passed.lean passed.blocks.leaner (price_in (block_in passed.whole))

pub lean_had : LeanIsHad
lean_had p copies core given made placed at passed placing =
    let f = followed p copies core given made placed at passed in
    let selected = are_selected p copies core given made placed at passed in
    record {
      price = f.price;
      sure = f.sure;
      hidden = f.hidden;
      clear = f.clear;
      keeps = λ o e r m n goes stays.
          let g = bare_setting given made (handler_at copies) placed at (limit_of copies) in
          let h = bare_setting passed.lean made (handler_at copies) placed at (limit_of copies) in
          led_cheaper h (price_in (block_in made)) (price_in (block_in passed.whole)) (λ name. (kept p copies core given made placed at passed).prices name) e o (sym_start h.program r m)
          (weighed_of g f.price f.sure e o (sym_start g.program r m)) n (f.keeps (page_of made at) (limit_of copies) o e r m n goes stays);
      prices = λ c copy is user. f.dear placed passed.whole refl selected (frames_whole p copies placed placing) (Copy c);
      routine_prices = λ c copy h is routine.
          let lt = slice_get_within copies c copy is in
          let long = frames_long p copies placed placing in
          f.priced placed passed.whole refl selected h copy.root c (routine_block core copies given passed.blocks.joined c copy h is routine) (frames_whole p copies placed placing c (omega arith)) (routine_room p copies placed placing c copy h is routine);
      sures = λ c copy is user n s there marked. f.sures (Copy c) n s there marked;
    }
