-- A text is accepted, or refused in one way: by the limits of the whole chip.
use Rattle.std.proofs.Common.{ℕ, inl, List, refl}
use Rattle.c_typed.specs.Trees.{Program}
use Rattle.call_graph.specs.declared.types.FnCopy.{FnCopy}
use Rattle.code_place.proofs.Placing.{within_of}
use Rattle.code_place.specs.Pages.{addresses}
use Rattle.program_code.specs.Stated.{sizes}
use Rattle.picc_core.specs.Accepted.{AreAccepted, IsFirstRefusal, PassesPages}
use Rattle.picc_core.specs.Answers.{IsRefusedAs, IsRefusedBy, Tells, TellsBy}
use Rattle.picc_core.specs.Decided.{IsAcceptedBy, IsAcceptedText, HasOneAnswer}
use Rattle.picc_core.specs.Limits.{AreAcceptedWithin, IsFirstRefusalWithin, PassesWords, whole_chip}
use Rattle.picc_core.specs.declared.refusal.Refusal.{Refusal}
use Rattle.picc_core.specs.declared.refusal.Refusal.TheVariants.{Lex, Word, Directive, Syntax, Typing, Recursion, Roots, Depth, Ram, Code, Page, Limit}
use Rattle.picc_core.proofs.OneWithin.{within_answer}
use Rattle.picc_core.proofs.OnlyBlocks.{none_over}
use Rattle.picc_core.proofs.Sums.{few}

-- what is accepted is so within these limits
accepted : (p : Program) (copies : List FnCopy) → AreAccepted p copies → AreAcceptedWithin whole_chip p copies
accepted p copies all =
    let is = all.accepted in
    let blocks = sizes p all.order in
    record {
      accepted = all;
      within = record {
        memory = is.memory;
        blocks = λ number words over. none_over p copies all.order number words is.in_order is.pages over;
        order = all.order;
        in_order = is.in_order;
        words = few blocks (addresses blocks) refl (within_of (addresses blocks) blocks refl is.pages is.code);
      };
    }

taken : (text : List ℕ) → IsAcceptedText text → IsAcceptedBy (AreAcceptedWithin whole_chip) text
taken text is = record { program = is.program; typed = is.typed; copies = is.copies; accepted = accepted is.program is.copies is.accepted }

-- and what is refused
passes : (p : Program) (copies : List FnCopy) (words : ℕ) → PassesPages p copies words → PassesWords whole_chip p copies words
passes p copies words is = record {
  blocks = λ number more over. none_over p copies is.order number more is.in_order is.pages over;
  order = is.order;
  in_order = is.in_order;
  pages = is.pages;
  passes = inl is.passes;
  total = is.total;
}

first : (p : Program) (r : Refusal) → IsFirstRefusal p r → IsFirstRefusalWithin whole_chip p r
first p (Roots kind) is = is
first p (Recursion name) is = is
first p (Depth depth) is = is
first p (Ram name) is = is
first p (Page name words) is = is
first p (Code words) (copies, known, memory, is) = (copies, known, memory, passes p copies words is)
first p (Lex line) is = absurd is
first p (Word line) is = absurd is
first p (Directive line) is = absurd is
first p (Syntax line) is = absurd is
first p (Typing kind line) is = absurd is
first p (Limit kind line) is = absurd is

refused : (text : List ℕ) (r : Refusal) → IsRefusedAs text r → IsRefusedBy (IsFirstRefusalWithin whole_chip) text r
refused text r is = record { program = is.program; typed = is.typed; first = first is.program r is.first }

told : (text : List ℕ) (r : Refusal) → Tells text r → TellsBy (IsFirstRefusalWithin whole_chip) text r
told text (Lex line) is = is
told text (Word line) is = is
told text (Directive line) is = is
told text (Limit kind line) is = is
told text (Syntax line) is = is
told text (Typing kind line) is = is
told text (Roots kind) is = refused text (Roots kind) is
told text (Recursion name) is = refused text (Recursion name) is
told text (Depth depth) is = refused text (Depth depth) is
told text (Ram name) is = refused text (Ram name) is
told text (Page name words) is = refused text (Page name words) is
told text (Code words) is = refused text (Code words) is

pub one_answer : (text : List ℕ) → HasOneAnswer text
one_answer text =
    let is = within_answer whole_chip text in
    record {
      either = λ r accepts tells. is.either r (taken text accepts) (told text r tells);
      refusal = λ r s tells also. is.refusal r s (told text r tells) (told text s also);
    }
