use Rattle.std.proofs.Common.{false}
use Rattle.std.proofs.lemmas.Result.{IfOk-weaker}
use Rattle.narrow_pass.proofs.Keeping.{answer_bytes, answer_keeps, answer_narrowed}
use Rattle.narrow_pass.proofs.pass.test_low_bytes.Goals as goal

pub returns-clause-keeps : goal.returns-clause-keeps
returns-clause-keeps c = IfOk-weaker c.answered.result _ _ (λ made is. answer_keeps false c.args.p.now made is) c.answered.ensures.answer

pub returns-clause-bytes : goal.returns-clause-bytes
returns-clause-bytes c = IfOk-weaker c.answered.result _ _ (λ made is. answer_bytes false c.args.p.now made is) c.answered.ensures.answer

pub returns-clause-narrowed : goal.returns-clause-narrowed
returns-clause-narrowed c = IfOk-weaker c.answered.result _ _ (λ made is. answer_narrowed false c.args.p.now made is) c.answered.ensures.answer
