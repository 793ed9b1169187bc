use Rattle.std.proofs.Common.{List, Ok, sym, ap}
use Rattle.c_typed.specs.Trees.{VariableTree}
use Rattle.c_typed.specs.Views.{variable_of}
use Rattle.c_typed.specs.declared.program.Variable.{Variable}
use Rattle.type_rules.specs.Known.{Known}
use Rattle.c_tables.specs.Tables.{body_of}
use Rattle.c_tables.proofs.Rows.{seen_changed, seen_unchanged}
use Rattle.c_tables.proofs.body.Body.complete_local.Goals as goal

pub returns-in-Some : goal.returns-in-Some
returns-in-Some c = λ known.
    let entry = c.in-Some.entry.now in
    let with_locals : List VariableTree → Known = λ l. record known { body = record (body_of c.args.self.now) { locals = l } } in
    ap (λ l. Ok (with_locals l, with_locals l))
    (sym (seen_changed variable_of c.args.self.now.locals.items c.args.local (record { name = entry.name; ty = c.args.ty; line = entry.line }) entry (λ v. record v { ty = c.args.ty }) c.in-Some.ensures.item.3.0
    (ap (λ (e : Variable). variable_of (record { name = e.name; ty = c.args.ty; line = e.line })) c.in-Some.ensures.item.1)))

pub returns-in_default : goal.returns-in_default
returns-in_default c = λ known.
    let with_locals : List VariableTree → Known = λ l. record known { body = record (body_of c.args.self.now) { locals = l } } in
    ap (λ l. Ok (with_locals l, with_locals l)) (sym (seen_unchanged variable_of c.args.self.now.locals.items c.args.local (λ v. record v { ty = c.args.ty }) c.in_default.ensures.item.3))
