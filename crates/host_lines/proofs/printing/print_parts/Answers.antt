use Rattle.std.proofs.lemmas.Result.{on_err_weaker}
use Rattle.host_lines.proofs.Prefixes.{on_err, second_prefix, third_prefix}
use Rattle.host_lines.proofs.printing.print_parts.Goals as goal

pub returns-in_err-print-2-clause-prefix : goal.returns-in_err-print-2-clause-prefix
returns-in_err-print-2-clause-prefix g c =
    on_err c.from_residual-in_err-print-2.result
    (second_prefix _ _ _ c.args.first.now c.args.second.now c.args.third.now _ _ c.as_bytes.ensures.value c.in_ok-print.ensures.all
    c.as_bytes-2.ensures.value c.in_err-print-2.ensures.prefix)

pub returns-clause-prefix : goal.returns-clause-prefix
returns-clause-prefix g c =
    on_err_weaker c.print-3.result
    (third_prefix _ _ _ _ c.args.first.now c.args.second.now c.args.third.now _ _ _ c.as_bytes.ensures.value c.in_ok-print.ensures.all
    c.as_bytes-2.ensures.value c.in_ok-print-2.ensures.all c.as_bytes-3.ensures.value)
    c.print-3.ensures.prefix
