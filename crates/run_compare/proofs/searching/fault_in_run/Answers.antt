use Rattle.std.proofs.Common.{subst, Some}
use Rattle.c_typed.specs.Views.{program_of}
use Rattle.pic_map.specs.MapView.{content_of}
use Rattle.run_compare.proofs.Searched.{ran_fault, ran_rest}
use Rattle.run_compare.proofs.searching.fault_in_run.Goals as goal
use Rattle.run_compare.specs.Searching.{RanBy}
use Rattle.src_memory.specs.Seen.{outside_by}

pub returns-in-Some : goal.returns-in-Some
returns-in-Some c =
    let p = program_of c.args.program.now in
    let outside = outside_by c.args.off.now.by_length in
    subst (λ n. RanBy p outside n c.args.off.now.events c.args.off.now.runs (Some c.in-Some.fault)) c.steps_at-most.ensures.value
    (ran_fault p (content_of c.args.map.now) outside _ c.args.off.now.events c.args.off.now.runs c.in-Some.fault c.in_ok-run.run' (λ s program outside given few. c.in_ok-run.ensures.begins s program given few) c.in-Some.ensures.looked)

pub returns : goal.returns
returns c =
    let p = program_of c.args.program.now in
    let outside = outside_by c.args.off.now.by_length in
    subst (λ n. RanBy p outside n c.args.off.now.events c.args.off.now.runs c.to_end.result) c.steps_at-most.ensures.value
    (ran_rest p (content_of c.args.map.now) outside _ c.args.off.now.events c.args.off.now.runs c.to_end.result c.in_ok-run.run' c.look.new.self (λ s program outside given few. c.in_ok-run.ensures.begins s program given few) c.in-None.ensures.looked c.in-None.ensures.goes c.to_end.ensures)
