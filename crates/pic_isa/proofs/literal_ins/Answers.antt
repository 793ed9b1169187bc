use Rattle.std.proofs.Common.{◌≡◌, ◌/◌, ◌%◌, arith, refl, ⊎_elim}
use Rattle.std.proofs.lemmas.Bool.{cases_lt}
use Rattle.pic_isa.proofs.literal_ins.Goals as goal

pub returns-in-4-clause-same : goal.returns-in-4-clause-same
returns-in-4-clause-same c =
    ⊎_elim
    (λ l.
    ⊎_elim
    (λ k. let e : c.args.word / 256 % 16 ≡ 4 = omega arith in rw e refl)
    (λ k. let e : c.args.word / 256 % 16 ≡ 5 = omega arith in rw e refl)
    (cases_lt (c.args.word / 256 % 16) 5))
    (λ l.
    ⊎_elim
    (λ k. let e : c.args.word / 256 % 16 ≡ 6 = omega arith in rw e refl)
    (λ k. let e : c.args.word / 256 % 16 ≡ 7 = omega arith in rw e refl)
    (cases_lt (c.args.word / 256 % 16) 7))
    (cases_lt (c.args.word / 256 % 16) 6)

pub returns-in-12-clause-same : goal.returns-in-12-clause-same
returns-in-12-clause-same c =
    ⊎_elim
    (λ k. let e : c.args.word / 256 % 16 ≡ 12 = omega arith in rw e refl)
    (λ k. let e : c.args.word / 256 % 16 ≡ 13 = omega arith in rw e refl)
    (cases_lt (c.args.word / 256 % 16) 13)

pub returns-in_default-clause-same : goal.returns-in_default-clause-same
returns-in_default-clause-same c =
    ⊎_elim
    (λ k. let e : c.args.word / 256 % 16 ≡ 14 = omega arith in rw e refl)
    (λ k. let e : c.args.word / 256 % 16 ≡ 15 = omega arith in rw e refl)
    (cases_lt (c.args.word / 256 % 16) 15)
