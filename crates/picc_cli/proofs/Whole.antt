-- What holds of the front of a text that was read holds of the whole text: the rest shows only that the text is too long.
use Rattle.std.proofs.Common.{◌≡◌, ℕ, ◌<◌, ◌≤◌, ⊎_elim, List, length, take, refl, sym, ap, ◌∙◌, subst, arith, min, Err}
use Rattle.std.proofs.lemmas.Bool.{cases_lt, lt-ltb}
use Rattle.std.proofs.lemmas.List.{length-take, take_all}
use Rattle.c_tables.specs.Answers.{fault_of}
use Rattle.picc_core.proofs.Trees.{typed_tree, mistyped_tree, refused_tree}
use Rattle.picc_core.specs.Answers.{First, TellsBy}
use Rattle.picc_core.specs.Compiled.{Build}
use Rattle.picc_core.specs.Decided.{IsAcceptedText}
use Rattle.picc_core.specs.Texts.{tokens_left, within_limits, program_tokens, HasTree, HasNoTree}
use Rattle.picc_core.specs.declared.refusal.CompileError.TheVariants.{Refused}
use Rattle.picc_core.specs.declared.refusal.LimitKind.TheVariants as kinds
use Rattle.picc_core.specs.declared.refusal.Refusal.{Refusal}
use Rattle.picc_core.specs.declared.refusal.Refusal.TheVariants.{Lex, Word, Directive, Syntax, Typing, Recursion, Roots, Depth, Ram, Code, Page, Limit}
use Rattle.picc_cli.specs.declared.building.Outcome.{Outcome}
use Rattle.picc_cli.specs.declared.building.Outcome.TheVariants as outcomes
use Rattle.picc_cli.specs.Outcome.{TellsWhyBy}

too_long : (text : List ℕ) → 262144 < length text → tokens_left text ≡ Err (Refused (Limit kinds.Text 0))
unfolding tokens_left
too_long text h = let e = lt-ltb 262144 (length text) h in rw e refl

long_tokens : (text : List ℕ) → 262144 < length text → program_tokens text ≡ Err (Refused (Limit kinds.Text 0))
long_tokens text h = ap within_limits (too_long text h)

no_tree : (text : List ℕ) → 262144 < length text → HasTree text → ⊥
no_tree text h t = let both = sym (long_tokens text h) ∙ t.tokens in cc

some_tokens : {P : Type 0} (text : List ℕ) → 262144 < length text → HasNoTree text → P
some_tokens text h t = let both = sym (long_tokens text h) ∙ t.tokens in absurd (cc)

-- both are too long
module _ (text bytes : List ℕ) (h : 262144 < length text) (k : 262144 < length bytes) where
  same : program_tokens text ≡ program_tokens bytes
  same = long_tokens text h ∙ sym (long_tokens bytes k)

  long_tells : (Is : First) (refusal : Refusal) → TellsBy Is bytes refusal → TellsBy Is text refusal
  long_tells Is (Lex line) t = same ∙ t
  long_tells Is (Word line) t = same ∙ t
  long_tells Is (Directive line) t = same ∙ t
  long_tells Is (Limit kind line) t = same ∙ t
  long_tells Is (Syntax line) t = some_tokens bytes k t
  long_tells Is (Typing kind line) t = absurd (no_tree bytes k (mistyped_tree bytes (fault_of kind line) t))
  long_tells Is (Roots kind) t = absurd (no_tree bytes k (refused_tree bytes (Roots kind) t))
  long_tells Is (Recursion function) t = absurd (no_tree bytes k (refused_tree bytes (Recursion function) t))
  long_tells Is (Depth depth) t = absurd (no_tree bytes k (refused_tree bytes (Depth depth) t))
  long_tells Is (Ram object) t = absurd (no_tree bytes k (refused_tree bytes (Ram object) t))
  long_tells Is (Page function words) t = absurd (no_tree bytes k (refused_tree bytes (Page function words) t))
  long_tells Is (Code words) t = absurd (no_tree bytes k (refused_tree bytes (Code words) t))

  long_why : (b : Build) (why : Outcome) → TellsWhyBy b bytes why → TellsWhyBy b text why
  long_why b (outcomes.Refused refusal) t = long_tells b.RefusesFirst refusal t
  long_why b (outcomes.Register line) t = absurd (no_tree bytes k (typed_tree bytes t.program t.typed))
  long_why b outcomes.Built t = t
  long_why b outcomes.CannotRead t = t
  long_why b outcomes.CannotWriteHex t = t
  long_why b outcomes.CannotWriteMap t = t
  long_why b outcomes.NoMemory t = t

pub tree_whole : (text bytes : List ℕ) → take 262145 text ≡ bytes → HasTree bytes → bytes ≡ text
tree_whole text bytes e t =
    let long : length bytes ≡ min 262145 (length text) = ap (length {A = ℕ}) (sym e) ∙ length-take 262145 text in
    ⊎_elim
    (λ h. absurd (no_tree bytes h t))
    (λ l. sym e ∙ take_all 262145 text (omega arith))
    (cases_lt 262144 (length bytes))

pub accepted_whole : (text bytes : List ℕ) → take 262145 text ≡ bytes → IsAcceptedText bytes → IsAcceptedText text
accepted_whole text bytes e is = subst IsAcceptedText (tree_whole text bytes e (typed_tree bytes is.program is.typed)) is

pub why_whole : (b : Build) (text bytes : List ℕ) (why : Outcome) → (length text ≤ 262145 → bytes ≡ text) → take 262145 text ≡ bytes → TellsWhyBy b bytes why → TellsWhyBy b text why
why_whole b text bytes why short e t =
    ⊎_elim
    (λ h. let long : length bytes ≡ min 262145 (length text) = ap (length {A = ℕ}) (sym e) ∙ length-take 262145 text in
    long_why text bytes (omega arith) (omega arith) b why t)
    (λ l. subst (λ read. TellsWhyBy b read why) (short l) t)
    (cases_lt 262145 (length text))
