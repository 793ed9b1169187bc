use Rattle.std.proofs.Common.{ℕ, List, ap, subst, ◌∙◌}
use Rattle.std.proofs.lemmas.Result.{err_from_is_err_and}
use Rattle.c_nodes.specs.ProgramViews.{equals_of}
use Rattle.type_rules.specs.Declarations.{init_in}
use Rattle.type_rules.specs.Objects.{static_rule}
use Rattle.c_tables.specs.Answers.{Learns}
use Rattle.c_tables.specs.Tables.{known_of}
use Rattle.c_outline.specs.Views.{outline_of, specified_of}
use Rattle.c_check.proofs.Declared.{object_first, object_next, object_last}
use Rattle.c_check.proofs.declaration.file_object.Goals as goal

pub returns-in_err-refuse_again : goal.returns-in_err-refuse_again
returns-in_err-refuse_again c =
    let p = err_from_is_err_and c.from_residual.result c.from_residual.ensures.1 in
    let known = known_of c.args.checker.now in
    rw (p.1, p.2) (object_first (specified_of c.args.specified) (outline_of c.args.outline.now) (init_in (equals_of c.args.init.now)) c.args.name.now c.args.line known _ (c.in_err-refuse_again.ensures known))

pub returns-in_err-ty : goal.returns-in_err-ty
returns-in_err-ty c =
    let p = err_from_is_err_and c.from_residual-in_err-ty.result c.from_residual-in_err-ty.ensures.1 in
    let known = known_of c.args.checker.now in
    rw (p.1, p.2) (object_next (specified_of c.args.specified) (outline_of c.args.outline.now) (init_in (equals_of c.args.init.now)) c.args.name.now c.args.line known c.is_given.result _ c.is_given.ensures.value (c.in_ok-refuse_again.ensures known) (c.in_err-ty.ensures known))

pub returns : goal.returns
returns c =
    let known = known_of c.args.checker.now in
    object_last (specified_of c.args.specified) (outline_of c.args.outline.now) (init_in (equals_of c.args.init.now)) c.args.name.now c.args.line known c.is_given.result c.in_ok-ty.ty c.static_object.result (known_of c.static_object.new.checker) c.is_given.ensures.value (c.in_ok-refuse_again.ensures known) (c.in_ok-ty.ensures known)
    (subst (Learns c.static_object.result (known_of c.static_object.new.checker))
    (ap (λ i. static_rule i c.in_ok-map_name.map_name.items c.args.name.now c.in_ok-ty.ty c.args.line known) c.value_given.ensures
    ∙ ap (λ (n : List ℕ). static_rule (init_in (equals_of c.args.init.now)) n c.args.name.now c.in_ok-ty.ty c.args.line known) (c.in_ok-map_name.ensures.items_if_clones_equal (λ x y h. h)))
    c.static_object.ensures)
