use Rattle.std.proofs.Common.{Ok, map, to_z, of_z, w64, [], ◌∷◌, ◌++◌, refl, sym, ap, subst, ◌∙◌}
use Rattle.std.proofs.lemmas.List.{length-map}
use Rattle.c_nodes.specs.Views.{cond_of}
use Rattle.c_typed.specs.Views.{statement_of}
use Rattle.c_tables.specs.Tables.{known_of}
use Rattle.c_check.specs.StatementViews.{body_of, case_rule, Labels}
use Rattle.c_check.proofs.Labels.{case_again, case_once, kept_number, seen_more}
use Rattle.c_check.proofs.switch.case.Goals as goal

pub returns-then-not-is_new : goal.returns-then-not-is_new
returns-then-not-is_new c =
    subst (λ r. Labels r (record { ty = c.args.body.now.ty; cases = c.args.body.now.cases; seen = c.insert_full.new.self; default = c.args.body.now.default; statements = c.args.body.now.statements }) c.args.body.now.ty (known_of c.constant_value.new.checker) (case_rule (cond_of c.args.value.now) c.args.line c.args.body.now.ty (body_of c.args.body.now) (known_of c.args.checker.now)))
    (sym c.refused.ensures)
    (case_again (cond_of c.args.value.now) c.args.line c.args.body.now.ty (body_of c.args.body.now) (known_of c.args.checker.now) (known_of c.constant_value.new.checker) c.in_ok-found.found c.convert-value.result (to_z w64 (of_z w64 c.number.result)) c.args.body.now.seen.keys c.in_ok-is_new.is_new c.in_ok-found.ensures c.convert-value.ensures.value (kept_number c.number.result c.number.ensures.least c.number.ensures.greatest ∙ c.number.ensures.value) c.requires.sees c.in_ok-is_new.ensures.added c.if-not-is_new.true)

pub returns : goal.returns
returns c = (
  case_once (cond_of c.args.value.now) c.args.line c.args.body.now.ty (body_of c.args.body.now) (known_of c.args.checker.now) (known_of c.constant_value.new.checker) c.in_ok-found.found c.convert-value.result (to_z w64 (of_z w64 c.number.result)) c.args.body.now.seen.keys c.in_ok-is_new.is_new c.in_ok-found.ensures c.convert-value.ensures.value (kept_number c.number.result c.number.ensures.least c.number.ensures.greatest ∙ c.number.ensures.value) c.requires.sees c.in_ok-is_new.ensures.added c.if-not-is_new.false
      ∙ ap (λ cases. Ok (record { cases = cases; default = c.args.body.now.default; statements = map statement_of c.args.body.now.statements.items }, known_of c.constant_value.new.checker))
      (ap (λ t. c.args.body.now.cases.items ++ record { value = c.convert-value.result; target = t; line = c.args.line } ∷ []) (length-map c.args.body.now.statements.items statement_of ∙ sym c.requires.target) ∙ sym c.in_ok-push.ensures.items),
  refl,
  seen_more c.args.body.now.seen.keys c.insert_full.new.self.keys c.args.body.now.cases.items c.push.new.self.items (record { value = c.convert-value.result; target = c.args.target; line = c.args.line }) (to_z w64 (of_z w64 c.number.result)) c.in_ok-is_new.is_new c.requires.sees c.in_ok-is_new.ensures.keys c.in_ok-is_new.ensures.added c.if-not-is_new.false c.in_ok-push.ensures.items (kept_number c.number.result c.number.ensures.least c.number.ensures.greatest ∙ c.number.ensures.value),
)
