use Rattle.std.proofs.Common.{List, map, ap, sym, subst, ◌∙◌}
use Rattle.std.proofs.lemmas.Result.{err_from_is_err_and}
use Rattle.c_typed.specs.declared.types.Ty.{Ty}
use Rattle.type_rules.specs.Declarations.{set_defined}
use Rattle.type_rules.specs.Known.{go_on, ◌>>=◌}
use Rattle.type_rules.specs.Names.{innermost_in}
use Rattle.c_tables.specs.Answers.{Refuses}
use Rattle.c_tables.specs.Tables.{known_of}
use Rattle.c_tables.proofs.Steps.{then_refuses}
use Rattle.c_outline.specs.Views.{param_of}
use Rattle.c_check.specs.StatementViews.{function_known}
use Rattle.c_check.proofs.Declared.{function_is}
use Rattle.c_check.proofs.declaration.declare_function.Goals as goal

pub returns-in_err-function : goal.returns-in_err-function
returns-in_err-function c =
    let p = err_from_is_err_and c.from_residual-in_err-function.result c.from_residual-in_err-function.ensures.1 in
    let known = known_of c.args.checker.now in
    let e = c.in_err-function.field-0.0 in
    let found = innermost_in known.scopes c.args.name.now in
    rw (p.1, p.2) (subst (Refuses e)
    (ap (λ (ts : List Ty). (function_known found c.args.name.now c.args.returns ts c.args.bad c.args.defines c.args.line >>= set_defined c.args.defines) known) c.in_ok-types.ensures ∙ sym (function_is c.args.name.now c.args.returns (map param_of c.args.params.now) c.args.bad c.args.defines c.args.line known))
    (then_refuses (function_known found c.args.name.now c.args.returns c.in_ok-types.types.items c.args.bad c.args.defines c.args.line) (set_defined c.args.defines) known e c.in_err-function.ensures))

pub returns-then-defines : goal.returns-then-defines
returns-then-defines c =
    let known = known_of c.args.checker.now in
    let mid = known_of c.function_number.new.checker in
    let found = innermost_in known.scopes c.args.name.now in
    function_is c.args.name.now c.args.returns (map param_of c.args.params.now) c.args.bad c.args.defines c.args.line known
    ∙ sym (ap (λ (ts : List Ty). (function_known found c.args.name.now c.args.returns ts c.args.bad c.args.defines c.args.line >>= set_defined c.args.defines) known) c.in_ok-types.ensures)
    ∙ ap (go_on (set_defined c.args.defines)) c.in_ok-function.ensures
    ∙ ap (λ d. set_defined d c.in_ok-function.function mid) c.if-defines.true
    ∙ c.set_defined.ensures mid
