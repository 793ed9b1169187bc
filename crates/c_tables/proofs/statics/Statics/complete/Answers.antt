use Rattle.std.proofs.Common.{List, Ok, sym, ap}
use Rattle.c_typed.specs.Trees.{StaticTree}
use Rattle.c_typed.specs.Views.{static_of}
use Rattle.c_typed.specs.declared.program.Static.{Static}
use Rattle.type_rules.specs.Known.{Known}
use Rattle.c_tables.proofs.Rows.{seen_changed, seen_unchanged}
use Rattle.c_tables.proofs.statics.Statics.complete.Goals as goal

pub returns-in-Some : goal.returns-in-Some
returns-in-Some c = λ known.
    let s = c.in-Some.entry.now in
    let with_statics : List StaticTree → Known = λ l. record known { statics = l } in
    ap (λ l. Ok (with_statics l, with_statics l))
    (sym (seen_changed static_of c.args.self.now.entries.items c.args.object (record { name = s.name; ty = c.args.ty; initial = c.args.«initial»; line = s.line }) s (λ r. record r { ty = c.args.ty; initial = (c.args.«initial»).items }) c.in-Some.ensures.item.3.0
    (ap (λ (e : Static). static_of (record { name = e.name; ty = c.args.ty; initial = c.args.«initial»; line = e.line })) c.in-Some.ensures.item.1)))

pub returns-in_default : goal.returns-in_default
returns-in_default c = λ known.
    let with_statics : List StaticTree → Known = λ l. record known { statics = l } in
    ap (λ l. Ok (with_statics l, with_statics l)) (sym (seen_unchanged static_of c.args.self.now.entries.items c.args.object (λ r. record r { ty = c.args.ty; initial = (c.args.«initial»).items }) c.in_default.ensures.item.3))
