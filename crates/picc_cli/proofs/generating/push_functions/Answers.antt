use Rattle.picc_cli.proofs.Generated.{functions_by_parts}
use Rattle.picc_cli.proofs.generating.push_functions.Goals as goal

pub loop-i-preserved : goal.loop-i-preserved
loop-i-preserved c =
    functions_by_parts c.args.text.now.items c.loop-i.text.items c.push_counted.new.text.items c.push_counted-in-loop-i.new.text.items c.extend_from_slice.new.self.items c.loop-i.i
    c.loop-i.invariant c.in_ok-push_counted.ensures c.in_ok-push_counted-2.ensures c.in_ok-extend_from_slice.ensures.items
