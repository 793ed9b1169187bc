use Rattle.std.proofs.Common.{◌≡◌, ◌<◌, ℕ, false, length, get_or, sym, ◌∙◌, below_more, arith}
use Rattle.std.specs.Global.{Global}
use Rattle.std.specs.declared.vec.Vec.{Vec}
use Rattle.std.proofs.lemmas.Bool.{false≢true}
use Rattle.std.proofs.lemmas.List.{get_or_read, length-map}
use Rattle.c_typed.specs.Chains.{ReachesItself}
use Rattle.call_graph.specs.Rows.{rows_of}
use Rattle.call_graph.proofs.Ways.{caller_within}
use Rattle.call_graph.proofs.levels.recursive.Goals as goal

pub loop-number-preserved : goal.loop-number-preserved
loop-number-preserved c =
    let graph = rows_of c.args.rows.now in
    let number : ℕ = c.loop-number.number in
    let count = length-map c.args.rows.now (λ (v : Vec ℕ Global). v.items) in
    let within : number < length graph = omega (arith, count) in
    let size = c.in_ok-marks.ensures.length in
    let here : number < length c.in_ok-marks.marks.items = omega (arith, size) in
    let read : c.index.result.now ≡ get_or c.in_ok-marks.marks.items number false = get_or_read c.in_ok-marks.marks.items number c.index.result.now here c.index.ensures false in
    below_more (λ (f : ℕ). ReachesItself graph f → ⊥) number c.loop-number.invariant (λ w. false≢true (sym c.if-index.false ∙ (read ∙ (c.in_ok-marks.ensures.exact number within).1 w)))

pub returns : goal.returns
returns c = λ f w. c.loop-number.invariant f (
    let within = caller_within (rows_of c.args.rows.now) f w.0 w.2.0 in
    let count = length-map c.args.rows.now (λ (v : Vec ℕ Global). v.items) in
    omega (arith, within, count)) w
