use Rattle.std.proofs.Common.{◌≡◌, Ok, Err}
use Rattle.picc_cli.proofs.InputFiles.{few_in, map_bad}
use Rattle.picc_cli.proofs.inputs.map_in.Goals as goal

pub returns-in-Ok-read_map-clause-few : goal.returns-in-Ok-read_map-clause-few
returns-in-Ok-read_map-clause-few g c = few_in _ _ c.in-Ok-read_map.map c.deref.ensures.value c.in-Ok-read_map.ensures.found c.in-Ok.ensures.short

pub returns-in-Err-BadLine-clause-none : goal.returns-in-Err-BadLine-clause-none
returns-in-Err-BadLine-clause-none g c =
    let first = rw c.in-Err-BadLine.field-0-is at c.in-Err-BadLine.ensures.bad_line in
    let only = rw c.in-Err-BadLine.field-0-is at c.in-Err-BadLine.ensures.only in
    map_bad _ _ _ _ c.in-Err-BadLine.line c.in-Ok.ensures.found c.in-Ok.ensures.short c.deref.ensures.value first
    (λ content file. let both : Ok content ≡ Err c.in-Err-BadLine.line = only content file in cc)
