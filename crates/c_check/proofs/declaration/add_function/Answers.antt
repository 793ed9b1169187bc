use Rattle.std.proofs.Common.{ap, sym, subst, ◌∙◌}
use Rattle.std.proofs.lemmas.Result.{err_from_is_err_and}
use Rattle.type_rules.specs.Declarations.{new_function}
use Rattle.type_rules.specs.Known.{FunctionName, given, go_on, ◌>>=◌}
use Rattle.type_rules.specs.Names.{bind}
use Rattle.c_tables.specs.Answers.{Refuses}
use Rattle.c_tables.specs.Tables.{functions_in, known_of}
use Rattle.c_tables.proofs.Steps.{then_refuses}
use Rattle.c_check.proofs.declaration.add_function.Goals as goal

pub returns-in_err-function : goal.returns-in_err-function
returns-in_err-function c =
    let p = err_from_is_err_and c.from_residual.result c.from_residual.ensures.1 in
    let known = known_of c.args.checker.now in
    rw (p.1, p.2) (then_refuses (new_function c.args.name.now c.args.returns c.args.params.items) (λ number. bind c.args.name.now (FunctionName number) >>= (λ _. given number)) known c.in_err-function.field-0.0 (c.in_err-function.ensures known))

pub returns-in_err-bind : goal.returns-in_err-bind
returns-in_err-bind c =
    let p = err_from_is_err_and c.from_residual-in_err-bind.result c.from_residual-in_err-bind.ensures.1 in
    let known = known_of c.args.checker.now in
    let mid = functions_in c.add.new.self known in
    let n = c.in_ok-function.function in
    rw (p.1, p.2) (subst (Refuses c.in_err-bind.field-0.0) (sym (ap (go_on (λ number. bind c.args.name.now (FunctionName number) >>= (λ _. given number))) (c.in_ok-function.ensures known)))
    (then_refuses (bind c.args.name.now (FunctionName n)) (λ _. given n) mid c.in_err-bind.field-0.0 (c.in_err-bind.ensures mid)))

pub returns : goal.returns
returns c =
    let known = known_of c.args.checker.now in
    let mid = functions_in c.add.new.self known in
    let n = c.in_ok-function.function in
    ap (go_on (λ number. bind c.args.name.now (FunctionName number) >>= (λ _. given number))) (c.in_ok-function.ensures known) ∙ ap (go_on (λ _. given n)) (c.in_ok-bind.ensures mid)
