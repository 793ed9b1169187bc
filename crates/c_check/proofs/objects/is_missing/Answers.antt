use Rattle.std.proofs.Common.{not, ◌&&◌, ◌||◌, ap, ◌∙◌}
use Rattle.c_typed.specs.Sameness.{is_array}
use Rattle.c_tables.specs.Tables.{waiting_of}
use Rattle.type_rules.specs.Known.{is_waiting}
use Rattle.c_check.proofs.objects.is_missing.Goals as goal

pub returns : goal.returns
returns c = λ known.
    c.either.ensures ∙ ap (λ w. w || not c.either-usable.result) c.is_waiting.ensures ∙ ap (λ u. is_waiting (waiting_of c.args.waiting) || not u)
    (c.either-usable.ensures ∙ ap (λ o. o || c.is_complete-complete.result) (c.both-open.ensures ∙ ap (λ a. c.args.given && a) c.is_array.ensures)
    ∙ ap (λ k. (c.args.given && is_array c.args.ty) || k) (c.is_complete-complete.ensures known))
