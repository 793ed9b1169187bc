-- What is told within the limits of the whole chip is told without limits.
use Rattle.std.proofs.Common.{◌≡◌, ℕ, zero, suc, ◌+◌, ◌<◌, ◌≤◌, ◌⊎◌, inl, inr, ⊎_elim, List, [], ◌∷◌, length, slice_index, sum, Result, Ok, Err, IfErr, refl, arith}
use Rattle.std.proofs.lemmas.Bool.{cases_lt}
use Rattle.c_typed.specs.Trees.{Program}
use Rattle.call_graph.specs.declared.types.FnCopy.{FnCopy}
use Rattle.code_place.proofs.Placing.{within_of}
use Rattle.code_place.specs.Pages.{addresses, AreWithinPages, AreInMemory, PassesMemory}
use Rattle.program_code.specs.Stated.{sizes}
use Rattle.picc_core.specs.Accepted.{IsFirstRefusal, PassesPages}
use Rattle.picc_core.specs.Answers.{IsRefusedBy, Tells, TellsBy, TellsError, TellsErrorBy}
use Rattle.picc_core.specs.Limits.{IsFirstRefusalWithin, PassesWords, whole_chip}
use Rattle.picc_core.specs.declared.known.Front.{Front}
use Rattle.picc_core.specs.declared.refusal.CompileError.{CompileError}
use Rattle.picc_core.specs.declared.refusal.CompileError.TheVariants.{NoMemory, Refused}
use Rattle.picc_core.specs.declared.refusal.Refusal.{Refusal}
use Rattle.picc_core.specs.declared.refusal.Refusal.TheVariants.{Lex, Word, Directive, Syntax, Typing, Recursion, Roots, Depth, Ram, Code, Page, Limit}
use Rattle.picc_core.proofs.Sums.{few}

-- blocks begin in the memory, or one begins behind it
in_or_behind : (at : List ℕ) → AreInMemory at ⊎ PassesMemory at
in_or_behind [] = inl (λ k below. absurd (omega (arith, below)))
in_or_behind (a ∷ at) =
    ⊎_elim
    (λ low. ⊎_elim (λ rest. inl (both low rest)) (λ over. inr (suc over.0, let l = over.1 in omega (arith, l), over.2)) (in_or_behind at))
    (λ high. inr (0, omega arith, high))
    (cases_lt a 8192)
  where
    both : a < 8192 → AreInMemory at → (k : ℕ) → k < length (a ∷ at) → slice_index (a ∷ at) k < 8192
    both low rest zero below = low
    both low rest (suc k) below = rest k (omega (arith, below))

-- blocks of more words than the memory has pass it
many_pass : (blocks : List ℕ) → AreWithinPages blocks → 8192 < sum blocks → PassesMemory (addresses blocks)
many_pass blocks within many =
    ⊎_elim
    (λ inside. absurd (let low = few blocks (addresses blocks) refl (within_of (addresses blocks) blocks refl within inside) in omega (arith, low, many)))
    (λ over. over)
    (in_or_behind (addresses blocks))

passes : (p : Program) (copies : List FnCopy) (words : ℕ) → PassesWords whole_chip p copies words → PassesPages p copies words
passes p copies words is =
    record {
      order = is.order;
      in_order = is.in_order;
      pages = is.pages;
      passes = ⊎_elim (λ over. over) (λ many. many_pass (sizes p is.order) is.pages many) is.passes;
      total = is.total;
    }

first : (p : Program) (r : Refusal) → IsFirstRefusalWithin whole_chip p r → IsFirstRefusal p r
first p (Roots kind) is = is
first p (Recursion name) is = is
first p (Depth depth) is = is
first p (Ram name) is = is
first p (Page name words) is = is
first p (Code words) (copies, known, memory, is) = (copies, known, memory, passes p copies words is)
first p (Lex line) is = absurd is
first p (Word line) is = absurd is
first p (Directive line) is = absurd is
first p (Syntax line) is = absurd is
first p (Typing kind line) is = absurd is
first p (Limit kind line) is = absurd is

refused : (text : List ℕ) (r : Refusal) → IsRefusedBy (IsFirstRefusalWithin whole_chip) text r → IsRefusedBy IsFirstRefusal text r
refused text r is = record { program = is.program; typed = is.typed; first = first is.program r is.first }

told : (text : List ℕ) (r : Refusal) → TellsBy (IsFirstRefusalWithin whole_chip) text r → Tells text r
told text (Lex line) is = is
told text (Word line) is = is
told text (Directive line) is = is
told text (Limit kind line) is = is
told text (Syntax line) is = is
told text (Typing kind line) is = is
told text (Roots kind) is = refused text (Roots kind) is
told text (Recursion name) is = refused text (Recursion name) is
told text (Depth depth) is = refused text (Depth depth) is
told text (Ram name) is = refused text (Ram name) is
told text (Page name words) is = refused text (Page name words) is
told text (Code words) is = refused text (Code words) is

error_told : (text : List ℕ) (e : CompileError) → TellsErrorBy (IsFirstRefusalWithin whole_chip) text e → TellsError text e
error_told text NoMemory is = tt
error_told text (Refused refusal) is = told text refusal is

pub front_told : (text : List ℕ) (answer : Result Front CompileError) → IfErr answer (TellsErrorBy (IsFirstRefusalWithin whole_chip) text) → IfErr answer (TellsError text)
front_told text (Ok front) is = tt
front_told text (Err e) is = error_told text e is
