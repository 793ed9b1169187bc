use Rattle.std.proofs.Common.{◌∙◌, ℕ, List, take, ap, option_map, arith}
use Rattle.std.proofs.lemmas.Grind.{common_steps}
use Rattle.std.proofs.lemmas.List.{take_rest}
use Rattle.host_io.specs.Host.{append}
use Rattle.host_io.proofs.Growth.{grows_more}
use Rattle.host_io.proofs.whole.write_all.Goals as goal

pub loop-done-preserved : goal.loop-done-preserved
loop-done-preserved g c =
    let so_far = c.loop-done.invariant in
    let appended = c.in_ok-done.ensures.appended ∙ ap (λ (rest : List ℕ). option_map (append (g.H.Host.open_file c.loop-done.host) (take c.in_ok-done.field-0 rest)) (g.H.Host.contents c.loop-done.host)) (take_rest c.args.bytes.now c.loop-done.done) in
    record {
      within = grind (arith, common_steps);
      grown = grows_more _ (g.H.Host.open_file c.loop-done.host) _ (g.H.Host.contents c.loop-done.host) _ _ _ _ so_far.same_file so_far.grown appended;
      same_file = c.write.ensures.same_file ∙ so_far.same_file;
      same_printed = c.write.ensures.same_printed ∙ so_far.same_printed;
      same_kind = c.write.ensures.same_kind ∙ so_far.same_kind;
      same_faults = grind (arith, common_steps);
    }
