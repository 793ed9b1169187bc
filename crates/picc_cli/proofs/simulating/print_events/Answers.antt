use Rattle.std.proofs.Common.{◌∙◌, arith}
use Rattle.pic_map.specs.MapView.{content_of}
use Rattle.picc_cli.proofs.ChipNames.{one_shown}
use Rattle.picc_cli.proofs.EventLines.{more_shown, more_printed, line_broken}
use Rattle.host_lines.proofs.Prefixes.{on_err}
use Rattle.picc_cli.proofs.simulating.print_events.Goals as goal

pub returns-in_err-print_event-clause-prefix : goal.returns-in_err-print_event-clause-prefix
returns-in_err-print_event-clause-prefix g c =
    on_err _ (line_broken (content_of c.args.map.now) c.args.trace.now.events c.loop-i.i c.get.result _ _ _ (omega arith) c.get.ensures c.loop-i.invariant.printed
    c.in_err-print_event.ensures.prefix)

pub print_event-requires : goal.print_event-requires
print_event-requires g c = one_shown (content_of c.args.map.now) c.args.trace.now.events c.loop-i.i c.get.result (omega arith) c.get.ensures c.requires

pub loop-i-preserved : goal.loop-i-preserved
loop-i-preserved g c =
    let so_far = c.loop-i.invariant in
    let printed = c.in_ok-print_event.ensures.all in
    record {
      shown = more_shown (content_of c.args.map.now) c.args.trace.now.events c.loop-i.i c.get.result (omega arith) c.get.ensures so_far.shown printed.0;
      printed = more_printed (content_of c.args.map.now) c.args.trace.now.events c.loop-i.i c.get.result _ _ _ (omega arith) c.get.ensures so_far.printed printed.1;
      same_file = c.print_event.ensures.same_file ∙ so_far.same_file;
      same_contents = c.print_event.ensures.same_contents ∙ so_far.same_contents;
      same_kind = c.print_event.ensures.same_kind ∙ so_far.same_kind;
      same_faults = c.in_ok-print_event.ensures.cause.ok ∙ so_far.same_faults;
    }
