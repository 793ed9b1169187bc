use Rattle.std.proofs.Common.{List, ap, ◌∙◌}
use Rattle.sym_code.specs.declared.code.BlockName.TheVariants as names
use Rattle.lean_code.specs.Checked as listed
use Rattle.code_place.specs.Layouts.{layout_of}
use Rattle.lean_pass.specs.Tests.{finds_word}
use Rattle.lean_pass.specs.Views.{rows_of, block_of, blocks_of, sketch_of}
use Rattle.lean_pass.specs.declared.rows.LeanBlock.{LeanBlock}
use Rattle.lean_pass.specs.declared.rows.Row.{Row}
use Rattle.lean_pass.proofs.Whole.{main_lands_is}
use Rattle.lean_pass.proofs.owners.Ground.main_lands.Goals as goal

pub returns : goal.returns
returns c =
    c.finds_word.ensures ∙ ap (λ (l : List Row). finds_word (rows_of l)) c.deref-2.ensures.value
    ∙ main_lands_is (sketch_of (layout_of c.args.self.now.placed.now) c.args.sketch.now) (block_of c.block_named-main.result.now)
    (c.block_named-main.ensures ∙ ap (λ (l : List LeanBlock). listed.block_in (blocks_of l) (names.Copy 0)) c.deref.ensures.value)
