-- What a call answers, from what it calls: a refusal, a value that is made, and memory that runs out.
use Rattle.std.proofs.Common.{◌≡◌, Result, Ok, Err, sym, ap, subst}
use Rattle.type_rules.specs.Faults.{Fault}
use Rattle.type_rules.specs.Known.{Known}
use Rattle.c_tables.specs.Answers.{Refuses}
use Rattle.c_tables.specs.declared.error.CheckError.{CheckError}
use Rattle.c_tables.specs.declared.error.CheckError.TheVariants as errors

pub made : {A B : Type 0} (view : A → B) (said : Result (B × Known) Fault) (x : A) (b : B) (after : Known) → said ≡ Ok (b, after) → view x ≡ b → said ≡ Ok (view x, after)
made view said x b after h e = subst (λ y. said ≡ Ok (y, after)) (sym e) h

-- What is met can only be refused for want of memory.
pub only_memory : {B C : Type 0} (e : CheckError) (x : C) (met : Result C Fault) (said : Result B Fault) → Refuses e met → met ≡ Ok x → Refuses e said
only_memory errors.NoMemory x met said h p = h
only_memory (errors.Kind kind line) x met said h p = cc

value_said : {A : Type 0} → A → Result (A × Known) Fault → A
value_said other (Ok x) = x.0
value_said other (Err fault) = other

-- what a rule that is met gives
pub given_is : {A : Type 0} (a b : A) (known after : Known) → ◌≡◌ {A = Result (A × Known) Fault} (Ok (a, known)) (Ok (b, after)) → b ≡ a
unfolding value_said
given_is a b known after h = sym (ap (value_said b) h)
