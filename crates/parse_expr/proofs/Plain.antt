-- What tells a symbol that is no name, marked or not, and no text: its kind and its line.
use Rattle.std.proofs.Common.{◌≡◌, ℕ, zero, suc, Bool, true, false, List, [], ◌∷◌, Option, Some, None, refl, sym, ap, ◌∙◌, if◌then◌else◌}
use Rattle.std.proofs.lemmas.Bool.{eqb-true}
use Rattle.std.proofs.lemmas.Option.{same_Some}
use Rattle.c_token.specs.declared.token.Tok.{Tok}
use Rattle.c_token.specs.declared.token.TokKind.{TokKind}
use Rattle.c_token.specs.declared.token.TokKind.TheVariants as kinds
use Rattle.c_token.specs.declared.token.Keyword.{Keyword}
use Rattle.c_token.specs.declared.token.Keyword.TheVariants as words
use Rattle.c_token.specs.declared.token.Punct.{Punct}
use Rattle.c_token.specs.declared.token.Punct.TheVariants as marks
use Rattle.c_pre.specs.Words.{word_of}
use Rattle.c_nodes.specs.Words.{Symbol, plain, key, punct}
use Rattle.c_nodes.specs.Kinds.{number_of, number_of_word, is_punct, is_key}
use Rattle.parse_expr.specs.Reader.{spells, symbol_in, symbols_in}
use Rattle.parse_expr.proofs.Knots.{IsPlain, ArePlain}

-- ---- numbers tell punctuators, and keywords

abbrev nth : {A : Type 0} → ℕ → List A → Option A
nth n [] = None
nth zero (x ∷ xs) = Some x
nth (suc n) (x ∷ xs) = nth n xs

abbrev all_marks : List Punct
all_marks = marks.LeftBracket ∷ marks.RightBracket ∷ marks.LeftParenthesis ∷ marks.RightParenthesis ∷ marks.LeftBrace ∷ marks.RightBrace ∷ marks.Dot ∷ marks.Arrow ∷ marks.Increment ∷ marks.Decrement ∷ marks.Ampersand ∷ marks.Star ∷ marks.Plus ∷ marks.Minus ∷ marks.Tilde ∷ marks.Not ∷ marks.Slash ∷ marks.Percent ∷ marks.ShiftLeft ∷ marks.ShiftRight ∷ marks.Less ∷ marks.Greater ∷ marks.LessEqual ∷ marks.GreaterEqual ∷ marks.Equal ∷ marks.NotEqual ∷ marks.Caret ∷ marks.Bar ∷ marks.And ∷ marks.Or ∷ marks.Question ∷ marks.Colon ∷ marks.Semicolon ∷ marks.Assign ∷ marks.StarAssign ∷ marks.SlashAssign ∷ marks.PercentAssign ∷ marks.PlusAssign ∷ marks.MinusAssign ∷ marks.ShiftLeftAssign ∷ marks.ShiftRightAssign ∷ marks.AmpersandAssign ∷ marks.CaretAssign ∷ marks.BarAssign ∷ marks.Comma ∷ marks.Hash ∷ []

mark_at : (p : Punct) → nth (number_of p) all_marks ≡ Some p
mark_at marks.LeftBracket = refl
mark_at _ = refl

abbrev all_words : List Keyword
all_words = words.Auto ∷ words.Break ∷ words.Case ∷ words.Char ∷ words.Const ∷ words.Continue ∷ words.Default ∷ words.Do ∷ words.Else ∷ words.Enum ∷ words.For ∷ words.If ∷ words.Int ∷ words.Interrupt ∷ words.Long ∷ words.Register ∷ words.Return ∷ words.Short ∷ words.Signed ∷ words.Sizeof ∷ words.Static ∷ words.Struct ∷ words.Switch ∷ words.Typedef ∷ words.Unsigned ∷ words.Void ∷ words.Volatile ∷ words.While ∷ []

word_at : (w : Keyword) → nth (number_of_word w) all_words ≡ Some w
word_at words.Auto = refl
word_at _ = refl

pub mark_is : (p q : Punct) → number_of p ≡ number_of q → p ≡ q
mark_is p q e = same_Some p q (sym (mark_at p) ∙ ap (λ (n : ℕ). nth n all_marks) e ∙ mark_at q)

pub word_is : (v w : Keyword) → number_of_word v ≡ number_of_word w → v ≡ w
word_is v w e = same_Some v w (sym (word_at v) ∙ ap (λ (n : ℕ). nth n all_words) e ∙ word_at w)

pub punct_kind : (p : Punct) (k : TokKind) → is_punct p k ≡ true → k ≡ kinds.Punct p
punct_kind p (kinds.Punct q) h = ap (λ (r : Punct). kinds.Punct r) (mark_is q p (eqb-true (number_of q) (number_of p) h))
punct_kind p _ h = absurd cc

pub key_kind : (w : Keyword) (k : TokKind) → is_key w k ≡ true → k ≡ kinds.Keyword w
key_kind w (kinds.Keyword v) h = ap (λ (r : Keyword). kinds.Keyword r) (word_is v w (eqb-true (number_of_word v) (number_of_word w) h))
key_kind w _ h = absurd cc

-- ---- a plain symbol is its kind and its line

plain_is : (s : Symbol) (k : TokKind) → IsPlain s → spells k ≡ false → s.kind ≡ k → s ≡ plain k s.line
plain_is s k is without e =
    ap (λ (j : TokKind). record { kind = j; bytes = s.bytes; line = s.line }) e
    ∙ ap (λ (b : List ℕ). record { kind = k; bytes = b; line = s.line }) (is (ap spells e ∙ without))

pub punct_is : (p : Punct) (s : Symbol) → IsPlain s → is_punct p s.kind ≡ true → s ≡ punct p s.line
punct_is p s is h = plain_is s (kinds.Punct p) is refl (punct_kind p s.kind h)

pub key_is : (w : Keyword) (s : Symbol) → IsPlain s → is_key w s.kind ≡ true → s ≡ key w s.line
key_is w s is h = plain_is s (kinds.Keyword w) is refl (key_kind w s.kind h)

-- ---- the symbols of tokens are plain

no_bytes : (b : Bool) (bytes : List ℕ) → b ≡ false → (if b then bytes else []) ≡ []
no_bytes true bytes h = absurd cc
no_bytes false bytes h = refl

symbol_plain : (text : List ℕ) (t : Tok) → IsPlain (symbol_in text t)
symbol_plain text t = no_bytes (spells t.kind) (word_of text t)

pub symbols_plain : (text : List ℕ) (toks : List Tok) → ArePlain (symbols_in text toks)
symbols_plain text [] = tt
symbols_plain text (t ∷ toks) = (symbol_plain text t, symbols_plain text toks)
