-- A text is accepted for the second chip, or refused in one way; and so it is for the first one.
use Rattle.std.proofs.Common.{◌≡◌, ℕ, zero, suc, ◌<◌, ◌≤◌, Bool, true, false, List, [], ◌∷◌, refl, sym, ap, ◌∙◌, subst, arith}
use Rattle.std.specs.Prelude.{nat_eq, ◌||◌, Some, slice_get}
use Rattle.std.proofs.lemmas.Bool.{eq-eqb}
use Rattle.c_typed.specs.Trees.{Program}
use Rattle.named_registers.specs.Foreign.{IsFirstForeign}
use Rattle.named_registers.specs.Registers.{Naming, program_registers, is_named_in, names_register}
use Rattle.pic_chip.specs.SmallAddress.{is_small_register}
use Rattle.picc_core.specs.Compiled.{plain, HasOneAnswerOf, IsForeignBy}
use Rattle.picc_core.specs.Decided.{IsAcceptedBy}
use Rattle.picc_core.specs.Limits.{second_chip, AreAcceptedWithin}
use Rattle.picc_core.specs.SecondChip.{second, AreAcceptedSecond}
use Rattle.picc_core.proofs.OneAnswer.{one_answer}
use Rattle.picc_core.proofs.OneTyping.{one_typing}
use Rattle.picc_core.proofs.OneWithin.{within_answer}

either_way : (a b : Bool) → b ≡ true → (a || b) ≡ true
either_way true b is = refl
either_way false b is = is

this_way : (a b : Bool) → a ≡ true → (a || b) ≡ true
this_way true b is = refl
this_way false b is = absurd (cc)

-- what a node of a list names is named in it
named_in : (list : List Naming) (k : ℕ) (n : Naming) → slice_get list k ≡ Some n → is_named_in list n.register ≡ true
named_in [] k n is = absurd (cc)
named_in (x ∷ list) zero n is = this_way (nat_eq x.register n.register) (is_named_in list n.register) (eq-eqb x.register n.register (ap (λ (m : Naming). m.register) (same_naming x n is)))
  where
    same_naming : (a b : Naming) → Some a ≡ Some b → a ≡ b
    same_naming a b e = cc
named_in (x ∷ list) (suc k) n is = either_way (nat_eq x.register n.register) (is_named_in list n.register) (named_in list k n is)

both : (b : Bool) → b ≡ true → b ≡ false → ⊥
both true on off = cc
both false on off = cc

-- a program of which the chip has each register names none that it doesn't have
none_foreign : (p : Program) (line : ℕ) → ((address : ℕ) → names_register p address ≡ true → is_small_register address ≡ true) → IsFirstForeign is_small_register p (Some line) → ⊥
none_foreign p line registers first =
    let n = first.0.1 in both (is_small_register n.register) (registers n.register (named_in (program_registers p) first.0.0 n first.0.2)) first.0.3

one_line : (p : Program) (line other : ℕ) → IsFirstForeign is_small_register p (Some line) → IsFirstForeign is_small_register p (Some other) → line ≡ other
one_line p line other here there =
    let low = here.1 there.0.0 there.0.1 there.0.2 there.0.3 in
    let high = there.1 here.0.0 here.0.1 here.0.2 here.0.3 in
    let first = here.0.4 in
    let second = there.0.4 in
    omega (arith, low, high, first, second)

module _ (text : List ℕ) where
  taken : IsAcceptedBy AreAcceptedSecond text → IsAcceptedBy (AreAcceptedWithin second_chip) text
  taken is = record { program = is.program; typed = is.typed; copies = is.copies; accepted = is.accepted.within }

  foreign_taken : (line : ℕ) → IsForeignBy second text line → IsAcceptedBy (AreAcceptedWithin second_chip) text
  foreign_taken line is = record { program = is.program; typed = is.typed; copies = is.lacks.copies; accepted = is.lacks.accepted }

pub one_second : (text : List ℕ) → HasOneAnswerOf second text
one_second text =
    let answer = within_answer second_chip text in
    record {
      refused = record {
        either = λ r accepts tells. answer.either r (taken text accepts) tells;
        refusal = answer.refusal;
      };
      register = λ line accepts foreign.
          let same = (one_typing text).program foreign.program accepts.program foreign.typed accepts.typed in
          none_foreign accepts.program line accepts.accepted.registers (subst (λ (p : Program). IsFirstForeign is_small_register p (Some line)) same foreign.lacks.first);
      either = λ r line tells foreign. answer.either r (foreign_taken text line foreign) tells;
      line = λ line other here there.
          let same = (one_typing text).program there.program here.program there.typed here.typed in
          one_line here.program line other here.lacks.first (subst (λ (p : Program). IsFirstForeign is_small_register p (Some other)) same there.lacks.first);
    }

-- the first chip has each register
pub one_plain : (text : List ℕ) → HasOneAnswerOf plain text
one_plain text = record {
  refused = one_answer text;
  register = λ line accepts foreign. foreign.lacks;
  either = λ r line tells foreign. foreign.lacks;
  line = λ line other here there. absurd here.lacks;
}
