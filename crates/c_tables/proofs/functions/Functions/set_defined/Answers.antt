use Rattle.std.proofs.Common.{List, Ok, true, sym, ap}
use Rattle.type_rules.specs.Known as rule
use Rattle.type_rules.specs.Known.{Known}
use Rattle.c_tables.specs.Tables.{functions_in, signature_of}
use Rattle.c_tables.specs.declared.functions.Signature.{Signature}
use Rattle.c_tables.proofs.Rows.{seen_changed, seen_unchanged}
use Rattle.c_tables.proofs.functions.Functions.set_defined.Goals as goal

pub returns-in-Some : goal.returns-in-Some
returns-in-Some c = λ known.
    let s = c.in-Some.signature.now in
    let with_signatures : List rule.Signature → Known = λ l. record (functions_in c.args.self.now known) { signatures = l } in
    ap (λ l. Ok (with_signatures l, with_signatures l))
    (sym (seen_changed signature_of c.args.self.now.declared.items c.args.function (record { result = s.result; params = s.params; definition = s.definition; defined = true }) s (λ r. record r { defined = true }) c.in-Some.ensures.item.3.0
    (ap (λ (e : Signature). signature_of (record { result = e.result; params = e.params; definition = e.definition; defined = true })) c.in-Some.ensures.item.1)))

pub returns-in_default : goal.returns-in_default
returns-in_default c = λ known.
    let with_signatures : List rule.Signature → Known = λ l. record (functions_in c.args.self.now known) { signatures = l } in
    ap (λ l. Ok (with_signatures l, with_signatures l)) (sym (seen_unchanged signature_of c.args.self.now.declared.items c.args.function (λ r. record r { defined = true }) c.in_default.ensures.item.3))
