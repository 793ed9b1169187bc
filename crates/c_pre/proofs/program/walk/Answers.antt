use Rattle.std.proofs.Common.{◌∙◌, sym, refl, arith, length, []}
use Rattle.std.proofs.lemmas.Result.{err_from_is_err_and}
use Rattle.c_token.specs.declared.token.Tok.{Tok}
use Rattle.c_token.specs.declared.token.TokKind.TheVariants as kind
use Rattle.std.specs.Prelude.{false}
use Rattle.c_pre.specs.Directive.{table_of}
use Rattle.c_pre.specs.Items.{items}
use Rattle.c_pre.proofs.Frees.{more_known, one_token, one_free, line_fits}
use Rattle.c_pre.proofs.Walking.{walks_outside, walks_line, walks_line_error, walks_token_error, walks_end, view_kept}
use Rattle.c_pre.proofs.program.walk.Goals as goal

nothing : Tok
nothing = record { kind = kind.Name; start = 0; end = 0; line = 0; first = false }

pub loop-at-preserved-then-is_hash : goal.loop-at-preserved-then-is_hash
unfolding nothing
loop-at-preserved-then-is_hash c =
    let l = c.in_ok-is_good.ensures in (
      l.indexed,
      line_fits c.args.raw.now c.loop-at.at c.line_length-count.result c.loop-at-test.true c.line_length-count.ensures.bound,
      more_known c.loop-at.free.items (length c.loop-at.definitions.list.items) _ c.loop-at.invariant.2 l.grows,
      walks_line c.args.text.now c.args.raw.now (items c.args.text.now c.args.raw.now 0 []) (table_of c.loop-at.definitions.list.items) (table_of c.take_line.new.definitions.list.items)
          c.loop-at.free.items c.loop-at.wrong _ c.loop-at.at c.line_length-count.result nothing c.in_ok-is_good.is_good
          c.loop-at.invariant.3 c.loop-at-test.true (sym c.is_hash.ensures ∙ c.if-is_hash.true) c.line_length-count.ensures.count l.takes
          (view_kept c.loop-at.free.items c.loop-at.definitions.list.items c.take_line.new.definitions.list.items l.keeps c.loop-at.invariant.2) c.first_wrong-wrong.ensures,
    )

pub loop-at-preserved : goal.loop-at-preserved
unfolding nothing
loop-at-preserved c = (
  c.loop-at.invariant.0,
  omega arith,
  one_free c.loop-at.free.items c.take_token.new.free.items _ (length c.loop-at.definitions.list.items) c.in_ok-take_token.ensures.kept c.loop-at.invariant.2
      (one_token c.args.raw.now c.loop-at.at c.loop-at-test.true) (omega (arith, c.len.ensures, c.loop-at.definitions.list.ok.0)),
  walks_outside c.args.text.now c.args.raw.now (items c.args.text.now c.args.raw.now 0 []) c.loop-at.definitions.list.items c.loop-at.free.items c.take_token.new.free.items _ c.loop-at.wrong c.loop-at.at nothing
      c.loop-at.invariant.3 c.loop-at-test.true (sym c.is_hash.ensures ∙ c.if-is_hash.false) c.in_ok-take_token.ensures.no_word c.in_ok-take_token.ensures.kept refl refl (omega (arith, c.len.ensures, c.loop-at.definitions.list.ok.0)),
)

pub returns-in_err-is_good-clause-word : goal.returns-in_err-is_good-clause-word
unfolding nothing
returns-in_err-is_good-clause-word c =
    let p = err_from_is_err_and c.from_residual.result c.from_residual.ensures.1 in
    rw (p.1, p.2)
    (walks_line_error c.args.text.now c.args.raw.now (items c.args.text.now c.args.raw.now 0 []) (table_of c.loop-at.definitions.list.items) (table_of c.take_line.new.definitions.list.items)
    c.loop-at.free.items c.loop-at.wrong c.loop-at.at c.line_length-count.result nothing c.in_err-is_good.field-0.0
    c.loop-at.invariant.3 c.loop-at-test.true (sym c.is_hash.ensures ∙ c.if-is_hash.true) c.line_length-count.ensures.count c.in_err-is_good.ensures.takes)

pub returns-in_err-take_token-clause-word : goal.returns-in_err-take_token-clause-word
unfolding nothing
returns-in_err-take_token-clause-word c =
    let p = err_from_is_err_and c.from_residual-in_err-take_token.result c.from_residual-in_err-take_token.ensures.1 in
    rw (p.1, p.2)
    (walks_token_error c.args.text.now c.args.raw.now (items c.args.text.now c.args.raw.now 0 []) (table_of c.loop-at.definitions.list.items)
    c.loop-at.free.items c.loop-at.wrong c.loop-at.at nothing c.in_err-take_token.field-0.0
    c.loop-at.invariant.3 c.loop-at-test.true (sym c.is_hash.ensures ∙ c.if-is_hash.false) c.in_err-take_token.ensures.word)

pub returns-clause-walks : goal.returns-clause-walks
returns-clause-walks c =
    walks_end c.args.text.now c.args.raw.now (items c.args.text.now c.args.raw.now 0 []) (table_of c.loop-at.definitions.list.items) c.loop-at.free.items c.loop-at.wrong c.loop-at.at c.loop-at.invariant.3 c.loop-at-test.false
