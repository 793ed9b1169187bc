-- The names of an accepted text: those of its tokens, and so those of its typed program.
use Rattle.std.proofs.Common.{◌≡◌, ℕ, Bool, true, false, if◌then◌else◌, nat_lt, List, length, Option, Some, None, Result, Ok, Err, refl, subst}
use Rattle.c_token.specs.Text.{tokens_of}
use Rattle.c_token.specs.declared.token.LexError.{LexError}
use Rattle.c_token.specs.declared.token.Tok.{Tok}
use Rattle.c_pre.specs.Items.{program_of}
use Rattle.c_pre.specs.declared.PreError.{PreError}
use Rattle.c_parse.specs.Limits.{first_over}
use Rattle.c_parse.specs.Marks.{marked}
use Rattle.c_typed.specs.Trees.{Program}
use Rattle.parse_expr.specs.Reader.{symbols_in}
use Rattle.parse_expr.specs.declared.error.ParseError.{ParseError}
use Rattle.program_laws.proofs.Marked.{tokens_words}
use Rattle.program_laws.proofs.Units.{judged_named}
use Rattle.program_laws.specs.Named.{AreWords, AreNamed}
use Rattle.picc_core.specs.Texts.{longest, behind_directives, behind_tokens, tokens_left, limited, within_limits}
use Rattle.picc_core.specs.Typed.{IsTypedAs}
use Rattle.picc_core.specs.declared.refusal.CompileError.{CompileError}
use Rattle.picc_core.specs.declared.refusal.CompileError.TheVariants.{Refused}
use Rattle.picc_core.specs.declared.refusal.LimitKind.TheVariants.{Text}
use Rattle.picc_core.specs.declared.refusal.Refusal.TheVariants.{Limit}

same_ok : (as_ bs : List Tok) → ◌≡◌ {A = Result (List Tok) CompileError} (Ok as_) (Ok bs) → as_ ≡ bs
same_ok as_ bs e = cc e

-- the tokens within the limits are those that are left
unlimited : (left : Result (List Tok) CompileError) (toks : List Tok) → within_limits left ≡ Ok toks → left ≡ Ok toks
unlimited (Err e) toks is = absurd (cc is)
unlimited (Ok ts) toks is = by (first_over 0 0 ts) is
  where
    by : (o : Option ParseError) → limited ts o ≡ Ok toks → ◌≡◌ {A = Result (List Tok) CompileError} (Ok ts) (Ok toks)
    by None e = e
    by (Some x) e = absurd (cc e)

module _ (text : List ℕ) (toks : List Tok) where
  behind_pre : (raw : List Tok) → tokens_of text ≡ Ok raw → (r : Result (List Tok) PreError) → program_of text raw ≡ r → behind_directives text r ≡ Ok toks → AreWords (symbols_in text toks)
  behind_pre raw is (Err x) was e = absurd (cc e)
  behind_pre raw is (Ok left) was e = subst (λ (l : List Tok). AreWords (symbols_in text l)) (same_ok (marked text left) toks e) (tokens_words text raw left is was)

  behind_lex : (r : Result (List Tok) LexError) → tokens_of text ≡ r → behind_tokens text r ≡ Ok toks → AreWords (symbols_in text toks)
  behind_lex (Err x) is e = absurd (cc e)
  behind_lex (Ok raw) is e = behind_pre raw is (program_of text raw) refl e

  left_words : tokens_left text ≡ Ok toks → AreWords (symbols_in text toks)
  unfolding tokens_left
  left_words e = by (nat_lt longest (length text)) e
    where
      by : (b : Bool) → (if b then Err (Refused (Limit Text 0)) else behind_tokens text (tokens_of text)) ≡ Ok toks → AreWords (symbols_in text toks)
      by true is = absurd (cc is)
      by false is = behind_lex (tokens_of text) refl is

-- The typed program of a text has names that are spelled as names, and no two functions have one name.
pub program_named : (text : List ℕ) (p : Program) → IsTypedAs text p → AreNamed p
program_named text p typed =
    let of = typed.of_text in
    judged_named typed.tree p of.grammar (subst AreWords of.spelled (left_words text of.toks (unlimited (tokens_left text) of.toks of.tokens))) typed.judged
