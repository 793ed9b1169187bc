-- What the answers of the stages say of a text.
use Rattle.std.specs.Prelude.{ℕ, ◌≡◌, ◌⊎◌, List, Result, Err}
use Rattle.c_tables.specs.Answers.{fault_of}
use Rattle.c_typed.specs.Trees.{Program}
use Rattle.picc_core.specs.Accepted.{IsFirstRefusal}
use Rattle.picc_core.specs.Texts.{program_tokens, HasNoTree}
use Rattle.picc_core.specs.Typed.{IsTypedAs, IsMistyped}
use Rattle.picc_core.specs.declared.refusal.CompileError.{CompileError}
use Rattle.picc_core.specs.declared.refusal.CompileError.TheVariants.{NoMemory, Refused}
use Rattle.picc_core.specs.declared.refusal.Refusal.{Refusal}
use Rattle.picc_core.specs.declared.refusal.Refusal.TheVariants.{Lex, Word, Directive, Syntax, Typing, Recursion, Roots, Depth, Ram, Code, Page, Limit}

-- which refusals of a program of sound types are the first, by what a build accepts
abbrev pub First : Type 1
First = Program → Refusal → Type 0

-- the text has a typed program, of which this is the first refusal
pub record IsRefusedBy (Is : First) (text : List ℕ) (refusal : Refusal) : Type 0 where
  pub program : Program
  pub typed : IsTypedAs text program
  pub first : Is program refusal

-- What a refusal tells of the text. Those of its tokens are told exactly where they are the first; `Syntax` where there is no
-- tree; `Typing` where the tree breaks this rule first; and all others of the text's typed program, where they are the first of it.
abbrev pub TellsBy : First → List ℕ → Refusal → Type 0
TellsBy Is text (Lex line) = program_tokens text ≡ Err (Refused (Lex line))
TellsBy Is text (Word line) = program_tokens text ≡ Err (Refused (Word line))
TellsBy Is text (Directive line) = program_tokens text ≡ Err (Refused (Directive line))
TellsBy Is text (Limit kind line) = program_tokens text ≡ Err (Refused (Limit kind line))
TellsBy Is text (Syntax line) = HasNoTree text
TellsBy Is text (Typing kind line) = IsMistyped text (fault_of kind line)
TellsBy Is text (Roots kind) = IsRefusedBy Is text (Roots kind)
TellsBy Is text (Recursion function) = IsRefusedBy Is text (Recursion function)
TellsBy Is text (Depth depth) = IsRefusedBy Is text (Depth depth)
TellsBy Is text (Ram object) = IsRefusedBy Is text (Ram object)
TellsBy Is text (Page function words) = IsRefusedBy Is text (Page function words)
TellsBy Is text (Code words) = IsRefusedBy Is text (Code words)

-- Want of memory tells nothing.
abbrev pub TellsErrorBy : First → List ℕ → CompileError → Type 0
TellsErrorBy Is text NoMemory = Unit {0}
TellsErrorBy Is text (Refused refusal) = TellsBy Is text refusal

-- What an error behind the types tells of the typed program.
abbrev pub TellsProgramBy : First → Program → CompileError → Type 0
TellsProgramBy Is p NoMemory = Unit {0}
TellsProgramBy Is p (Refused refusal) = Is p refusal

-- ---- by what any program is asked for
abbrev pub IsRefusedAs : List ℕ → Refusal → Type 0
IsRefusedAs = IsRefusedBy IsFirstRefusal

abbrev pub Tells : List ℕ → Refusal → Type 0
Tells = TellsBy IsFirstRefusal

abbrev pub TellsError : List ℕ → CompileError → Type 0
TellsError = TellsErrorBy IsFirstRefusal

abbrev pub TellsProgram : Program → CompileError → Type 0
TellsProgram = TellsProgramBy IsFirstRefusal

-- What an error of the call graph tells of the typed program: no limit has a part in it.
abbrev pub IsOfGraph : Program → Refusal → Type 0
IsOfGraph p (Roots kind) = IsFirstRefusal p (Roots kind)
IsOfGraph p (Recursion name) = IsFirstRefusal p (Recursion name)
IsOfGraph p (Depth depth) = IsFirstRefusal p (Depth depth)
IsOfGraph p _ = ⊥

abbrev pub TellsGraph : Program → CompileError → Type 0
TellsGraph p NoMemory = Unit {0}
TellsGraph p (Refused refusal) = IsOfGraph p refusal

-- The error is of the text's tokens, its tree or its types, or want of memory: what is accepted behind these has no part in it.
abbrev pub IsEarly : CompileError → Type 0
IsEarly NoMemory = Unit {0}
IsEarly (Refused (Lex line)) = Unit {0}
IsEarly (Refused (Word line)) = Unit {0}
IsEarly (Refused (Directive line)) = Unit {0}
IsEarly (Refused (Syntax line)) = Unit {0}
IsEarly (Refused (Typing kind line)) = Unit {0}
IsEarly (Refused (Limit kind line)) = Unit {0}
IsEarly (Refused (Roots kind)) = ⊥
IsEarly (Refused (Recursion function)) = ⊥
IsEarly (Refused (Depth depth)) = ⊥
IsEarly (Refused (Ram object)) = ⊥
IsEarly (Refused (Page function words)) = ⊥
IsEarly (Refused (Code words)) = ⊥

-- it is this refusal, unless memory runs out
abbrev pub IsRefusedUnless : {T : Type 0} → Result T CompileError → Refusal → Type 0
IsRefusedUnless result refusal = (result ≡ Err (Refused refusal)) ⊎ (result ≡ Err NoMemory)
