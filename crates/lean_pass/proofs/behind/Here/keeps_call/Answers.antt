use Rattle.std.proofs.Common.{sym, ap, ◌∙◌}
use Rattle.sym_code.specs.declared.code.Target.{Target}
use Rattle.lean_code.specs.Checked as listed
use Rattle.lean_pass.specs.Behind.{sketch_at, block_at, note_at}
use Rattle.lean_pass.specs.Views.{rows_of, block_of}
use Rattle.lean_pass.proofs.Cuts.{call_is}
use Rattle.lean_pass.proofs.behind.Here.keeps_call.Goals as goal

pub returns-in-Block : goal.returns-in-Block
returns-in-Block c =
    c.calls.ensures
    ∙ call_is (sketch_at c.args.self.now) (block_at c.args.self.now) (note_at c.args.self.now) (rows_of c.args.rest.now) c.in-Block.name (block_of c.block_named.result.now) c.block_named.ensures
    ∙ ap (λ (t : Target). listed.keeps_call (sketch_at c.args.self.now) (block_at c.args.self.now) (note_at c.args.self.now) (rows_of c.args.rest.now) t) (sym c.in-Block.is)
