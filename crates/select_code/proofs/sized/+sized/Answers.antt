use Rattle.std.proofs.Common.{◌&&◌, sym, ap, ◌∙◌, arith}
use Rattle.select_code.specs.Sized.{is_byte_sized}
use Rattle.core_code.specs.View.{tree_of}
use Rattle.select_code.proofs.Parts.{sized_taken}
use Rattle.select_code.proofs.sized.+sized.Goals as goal
use Rattle.select_code.proofs.sized.+sized.Goals.{are_byte_sized-then-all, are_byte_sized-else-all}

pub are_byte_sized-loop-part-preserved : goal.are_byte_sized-loop-part-preserved
are_byte_sized-loop-part-preserved t c =
    let x = c.part-item.result in
    let all_before = c.loop-part.invariant in
    let e = sized_taken c.args.loops c.args.parts.now c.loop-part.part-index x (omega arith) c.part-item.is in
    elim c.if-all.branch [
      | are_byte_sized-then-all w ↦ w.all-is ∙ w.is_byte_sized-all.ensures ∙ ap (λ b. b && is_byte_sized c.args.loops (tree_of x)) (sym w.if-all.true ∙ all_before) ∙ sym e
      | are_byte_sized-else-all w ↦ w.all-is ∙ w.if-all.false ∙ ap (λ b. b && is_byte_sized c.args.loops (tree_of x)) (sym w.if-all.false ∙ all_before) ∙ sym e
    ]
