use Rattle.picc_cli.proofs.dispatch.run.Goals as goal

pub returns-in-Some-Build-clause-complete : goal.returns-in-Some-Build-clause-complete
returns-in-Some-Build-clause-complete g c =
    let command = rw c.in-Some-Build.is at c.in-Some-Build.field-0-is in
    rw (c.in-Some-Build.is, command) c.build_files.ensures.complete

pub returns-in-Some-Trace-clause-complete : goal.returns-in-Some-Trace-clause-complete
returns-in-Some-Trace-clause-complete g c =
    let command = rw c.in-Some-Trace.is at c.in-Some-Trace.field-0-is in
    rw (c.in-Some-Trace.is, command) c.trace.ensures.complete

pub returns-in-Some-Agree-clause-complete : goal.returns-in-Some-Agree-clause-complete
returns-in-Some-Agree-clause-complete g c =
    let command = rw c.in-Some-Agree.is at c.in-Some-Agree.field-0-is in
    rw (c.in-Some-Agree.is, command) c.compare.ensures.complete

pub returns-in-Some-Check-clause-complete : goal.returns-in-Some-Check-clause-complete
returns-in-Some-Check-clause-complete g c =
    let command = rw c.in-Some-Check.is at c.in-Some-Check.field-0-is in
    rw (c.in-Some-Check.is, command) c.check.ensures.complete
