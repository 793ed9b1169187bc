-- A text is accepted, or refused in one way: two refusals that are told of it say the same.
use Rattle.std.specs.Prelude.{ℕ, ◌≡◌, List}
use Rattle.c_typed.specs.Trees.{Program}
use Rattle.call_graph.specs.declared.types.FnCopy.{FnCopy}
use Rattle.picc_core.specs.Accepted.{AreAccepted, IsFirstRefusal}
use Rattle.picc_core.specs.Answers.{First, TellsBy}
use Rattle.picc_core.specs.Typed.{IsTypedAs}
use Rattle.picc_core.specs.declared.refusal.Refusal.{Refusal}
use Rattle.picc_core.specs.declared.refusal.Refusal.TheVariants.{Lex, Word, Directive, Syntax, Typing, Recursion, Roots, Depth, Ram, Code, Page, Limit}

-- The text has a typed program, and all rules behind those on types accept that, with these copies of its functions.
pub record IsAcceptedBy (Are : Program → List FnCopy → Type 0) (text : List ℕ) : Type 0 where
  pub program : Program
  pub typed : IsTypedAs text program
  pub copies : List FnCopy
  pub accepted : Are program copies

-- by what any program is asked for
abbrev pub IsAcceptedText : List ℕ → Type 0
IsAcceptedText = IsAcceptedBy AreAccepted

-- Two refusals say the same. The line of `Syntax` is free.
abbrev pub SayTheSame : Refusal → Refusal → Type 0
SayTheSame (Lex line) (Lex other) = line ≡ other
SayTheSame (Word line) (Word other) = line ≡ other
SayTheSame (Directive line) (Directive other) = line ≡ other
SayTheSame (Syntax line) (Syntax other) = Unit {0}
SayTheSame (Typing kind line) (Typing also other) = (kind ≡ also) × (line ≡ other)
SayTheSame (Recursion name) (Recursion other) = name.items ≡ other.items
SayTheSame (Roots kind) (Roots other) = kind ≡ other
SayTheSame (Depth depth) (Depth other) = depth ≡ other
SayTheSame (Ram name) (Ram other) = name.items ≡ other.items
SayTheSame (Code words) (Code other) = words ≡ other
SayTheSame (Page name words) (Page other more) = (name.items ≡ other.items) × (words ≡ more)
SayTheSame (Limit kind line) (Limit also other) = (kind ≡ also) × (line ≡ other)
SayTheSame _ _ = ⊥

-- What is accepted isn't refused, and of what is refused one thing is told.
pub record HasOneAnswerBy (Are : Program → List FnCopy → Type 0) (Is : First) (text : List ℕ) : Type 0 where
  pub either : (r : Refusal) → IsAcceptedBy Are text → TellsBy Is text r → ⊥
  pub refusal : (r s : Refusal) → TellsBy Is text r → TellsBy Is text s → SayTheSame r s

abbrev pub HasOneAnswer : List ℕ → Type 0
HasOneAnswer = HasOneAnswerBy AreAccepted IsFirstRefusal
