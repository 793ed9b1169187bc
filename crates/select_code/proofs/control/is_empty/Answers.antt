use Rattle.std.proofs.Common.{sym, ap, ◌∙◌, arith, vec_len}
use Rattle.core_code.proofs.Views.{tree_many}
use Rattle.core_code.specs.View.{tree_of}
use Rattle.select_code.specs.Selected.{is_nothing}
use Rattle.select_code.proofs.Others.{no_list}
use Rattle.select_code.proofs.Parts.{none_of}
use Rattle.select_code.proofs.control.is_empty.Goals as goal

pub returns-in-Many : goal.returns-in-Many
returns-in-Many c =
    let v = c.in-Many.parts in
    let k = v.ok.0 in
    c.is_empty.ensures ∙ none_of v.items (vec_len v) (omega (arith, k)) ∙ ap is_nothing (sym (ap tree_of c.in-Many.is ∙ tree_many v))

pub returns-in_default : goal.returns-in_default
returns-in_default c = no_list c.args.c.now c.in_default.not-Many
