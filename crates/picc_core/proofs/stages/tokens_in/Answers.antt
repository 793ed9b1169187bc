use Rattle.std.proofs.Common.{◌≡◌, List, Ok, ap, subst, ◌∙◌}
use Rattle.c_token.specs.declared.token.Tok.{Tok}
use Rattle.c_pre.specs.Items.{program_of}
use Rattle.c_parse.specs.Marks.{marked}
use Rattle.picc_core.proofs.Telling.{all_left}
use Rattle.picc_core.proofs.stages.tokens_in.Goals as goal

pub returns-clause-answer : goal.returns-clause-answer
returns-clause-answer c =
    let text = c.args.text.now in
    let all = subst (λ (l : List Tok). program_of text l ≡ Ok c.in_ok-left.left.items) c.deref.ensures.value c.in_ok-left.ensures.given in
    let named = c.in_ok-mark.ensures.marked ∙ ap (marked text) c.deref-2.ensures.value in
    all_left text c.in_ok-raw.raw.items c.in_ok-left.left.items c.in_ok-mark.field-0.items c.if-text-gt-LONGEST.false c.in_ok-raw.ensures.tokens all named
