use Rattle.std.proofs.Common.{sym, ◌∙◌}
use Rattle.sym_code.specs.Selects.{is_select}
use Rattle.bank_page.specs.Kinds.{is_label}
use Rattle.bank_page.specs.Needs.{needs_in}
use Rattle.bank_page.proofs.Steps.{no_needs}
use Rattle.bank_page.proofs.selecting.put_next.Goals as goal

pub unreachable-requires : goal.unreachable-requires
unreachable-requires c =
    no_needs (is_select c.args.sym) (is_label c.args.sym) (needs_in c.args.placed.now c.args.list.now) (sym c.is_select.ensures ∙ c.if-is_select.false) (sym c.is_label.ensures ∙ c.if-is_label.false) (sym c.needs_in.ensures ∙ c.in_default.is) c.requires.ready
