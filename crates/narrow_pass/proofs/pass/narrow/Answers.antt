use Rattle.std.proofs.Common.{true}
use Rattle.std.proofs.lemmas.Result.{IfOk-weaker}
use Rattle.narrow_pass.proofs.Keeping.{answer_bytes, answer_free, answer_keeps, answer_narrowed, answer_places, answer_transfers}
use Rattle.narrow_pass.proofs.pass.narrow.Goals as goal

pub returns-clause-keeps : goal.returns-clause-keeps
returns-clause-keeps c = IfOk-weaker c.answered.result _ _ (λ made is. answer_keeps true c.args.p.now made is) c.answered.ensures.answer

pub returns-clause-places : goal.returns-clause-places
returns-clause-places c = IfOk-weaker c.answered.result _ _ (λ made is. answer_places c.args.p.now made is) c.answered.ensures.answer

pub returns-clause-transfers : goal.returns-clause-transfers
returns-clause-transfers c = IfOk-weaker c.answered.result _ _ (λ made is. answer_transfers c.args.p.now made is) c.answered.ensures.answer

pub returns-clause-free : goal.returns-clause-free
returns-clause-free c = IfOk-weaker c.answered.result _ _ (λ made is. answer_free c.args.p.now made is) c.answered.ensures.answer

pub returns-clause-bytes : goal.returns-clause-bytes
returns-clause-bytes c = IfOk-weaker c.answered.result _ _ (λ made is. answer_bytes true c.args.p.now made is) c.answered.ensures.answer

pub returns-clause-narrowed : goal.returns-clause-narrowed
returns-clause-narrowed c = IfOk-weaker c.answered.result _ _ (λ made is. answer_narrowed true c.args.p.now made is) c.answered.ensures.answer
