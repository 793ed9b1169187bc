use Rattle.std.proofs.Common.{ℕ, Ok, length, sym, ap, ◌∙◌}
use Rattle.type_rules.specs.Known.{Known}
use Rattle.c_tables.specs.Tables.{body_of}
use Rattle.c_tables.proofs.Rows.{one_more}
use Rattle.c_tables.proofs.body.Body.next_declarator.Goals as goal

pub returns : goal.returns
returns c = λ known.
    let before = c.args.self.now in
    let with_declarators : ℕ → Known = λ n. record known { body = record (body_of before) { declarators = n } } in
    ap (λ (n : ℕ). Ok (length before.declarators.items, with_declarators n)) (sym (one_more before.declarators.items c.push.new.self.items _ c.in_ok-push.ensures.items))
    ∙ ap (λ (n : ℕ). Ok (n, with_declarators (length c.push.new.self.items))) (sym (c.len-declarator.ensures ∙ before.declarators.ok.0))
