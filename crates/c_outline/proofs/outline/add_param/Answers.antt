use Rattle.std.proofs.Common.{◌≡◌, length, map, arith}
use Rattle.std.proofs.lemmas.Result.{err_from_is_err_and}
use Rattle.c_tables.specs.Tables.{known_of}
use Rattle.c_outline.specs.Views.{outline_of, param_of, specified_of}
use Rattle.c_outline.proofs.Taken.{length_mapped, popped}
use Rattle.c_outline.proofs.Outlining.{param_put, param_unbound}
use Rattle.c_outline.proofs.outline.add_param.Goals as goal

pub returns-in_err-bind_param : goal.returns-in_err-bind_param
returns-in_err-bind_param c =
    let p = err_from_is_err_and c.from_residual-in_err-bind_param.result c.from_residual-in_err-bind_param.ensures.1 in
    let place : c.len-index.result ≡ length (map param_of c.args.list.now.params.items) = (omega (arith, c.len-index.ensures, length_mapped param_of c.args.list.now.params.items, c.args.list.now.params.ok.0)) in
    rw (p.1, p.2) (param_unbound (map param_of c.args.list.now.params.items) (specified_of c.args.specified) (outline_of c.args.outline.now) c.args.name.now c.args.line c.in_ok-ty.ty (known_of c.args.checker.now) c.in_err-bind_param.field-0.0 c.in_ok-ty.ensures.tests c.in_ok-ty.ensures.ty (rw (place, c.is_register-fixed.ensures) at (c.in_err-bind_param.ensures (known_of c.args.checker.now))))

pub returns : goal.returns
returns c =
    let place : c.len-index.result ≡ length (map param_of c.args.list.now.params.items) = (omega (arith, c.len-index.ensures, length_mapped param_of c.args.list.now.params.items, c.args.list.now.params.ok.0)) in
    let put = popped param_of c.push.new.self.items c.args.list.now.params.items _ c.in_ok-push.ensures.items in
    rw (put, c.in_ok-name.ensures.ok, c.is_register-fixed.ensures) (param_put (map param_of c.args.list.now.params.items) (specified_of c.args.specified) (outline_of c.args.outline.now) c.args.name.now c.args.line c.in_ok-ty.ty (known_of c.args.checker.now) _ c.in_ok-ty.ensures.tests c.in_ok-ty.ensures.ty (rw (place, c.is_register-fixed.ensures) at (c.in_ok-bind_param.ensures (known_of c.args.checker.now))))
