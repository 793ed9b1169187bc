-- What follows of the clauses of the passes, put together.
use Rattle.std.proofs.Common.{sym, subst}
use Rattle.std.specs.Prelude.{List}
use Rattle.call_graph.specs.Numbers.{handler_at}
use Rattle.chip_trace.specs.Arriving.{HasVectorFor, HasHalt}
use Rattle.isr_save.specs.Start.{start_code}
use Rattle.src_rules.proofs.Starts.{sound_runs}
use Rattle.sym_code.specs.declared.code.Sym.{Sym}
use Rattle.headline_trace.specs.Passed.{BodiesAreHad, StartIsHad, LayoutIsHad, LayoutServes}
use Rattle.headline_trace.proofs.Apart.{laid_out}
use Rattle.headline_trace.proofs.Fronts.{start_first, start_code_is, vector_for, halt_there}
use Rattle.headline_trace.proofs.Laid.{layout_is}
use Rattle.headline_trace.proofs.Narrower.{core_body}
use Rattle.headline_trace.proofs.Thinned.{start_kept}

pub bodies_had : BodiesAreHad
bodies_had p copies core given made placed at passed c copy is user =
    core_body p copies (sound_runs p passed.blocks.sound passed.blocks.roots passed.blocks.numbers) passed.blocks.lowered core passed.blocks.bodies passed.blocks.code c copy is user

pub start_had : StartIsHad
start_had p copies core given made placed at passed =
    let start = start_kept p copies core given made placed at passed in
    let code = start_code (handler_at copies) core.statics.items in
    let is = sym (start_code_is placed code made start) in (
      start_first placed code made start,
      subst (λ (l : List Sym). HasVectorFor l (handler_at copies)) is (vector_for placed (handler_at copies) core.statics.items),
      subst (λ (l : List Sym). HasHalt l) is (halt_there placed (handler_at copies) core.statics.items),
    )

pub layout_had : LayoutIsHad
layout_had p copies placed placing = layout_is p copies placed placing

pub layout_serves : LayoutServes
layout_serves p copies placed placing objects clear frames reaches live = laid_out p copies placed placing reaches live objects clear frames
