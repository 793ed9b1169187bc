use Rattle.std.proofs.Common.{◌≡◌, ℕ, Option, Some, None, IfSome, IfNone, ◌∙◌, subst}
use Rattle.std.proofs.lemmas.Option.{none-some}
use Rattle.pic_isa.specs.Table.{IsRowOf, IsWellFormed, HasWord}
use Rattle.pic_isa.specs.declared.Ins.{Ins}
use Rattle.pic_isa.proofs.Rows.{finds}
use Rattle.pic_isa.proofs.decode.Goals as goal

pub returns-clause-row : goal.returns-clause-row
returns-clause-row c = λ i. ((λ e. subst (λ r. IfSome r (IsRowOf c.args.word)) e c.decode_word.ensures.row), (λ h. c.decode_word.ensures.same ∙ finds i c.args.word h.0 h.1))

nowhere : (r : Option Ins) (word : ℕ) → ((i : Ins) → IsWellFormed i → HasWord i word → r ≡ Some i) → IfNone r ((i : Ins) → IsWellFormed i → HasWord i word → ⊥)
nowhere None word h = λ i fits has. none-some i (h i fits has)
nowhere (Some x) word h = tt

pub returns-clause-none : goal.returns-clause-none
returns-clause-none c = nowhere c.decode_word.result c.args.word (λ i fits has. c.decode_word.ensures.same ∙ finds i c.args.word fits has)
