-- What a test on a token tells of the symbol of a string.
use Rattle.std.proofs.Common.{◌≡◌, ℕ, true, if◌then◌else◌, List, [], refl, ap}
use Rattle.c_token.specs.declared.token.Tok.{Tok}
use Rattle.c_token.specs.declared.token.TokKind.{TokKind}
use Rattle.c_token.specs.declared.token.TokKind.TheVariants as kinds
use Rattle.c_pre.specs.Words.{word_of}
use Rattle.c_nodes.specs.Words.{Symbol}
use Rattle.c_nodes.specs.Kinds.{is_text}
use Rattle.parse_expr.specs.Reader.{symbol_in, spells}

kind_is : (k : TokKind) → is_text k ≡ true → k ≡ kinds.Text
kind_is kinds.Name h = cc
kind_is kinds.TypeName h = cc
kind_is (kinds.Keyword w) h = cc
kind_is (kinds.Int value base u l) h = cc
kind_is (kinds.Char value) h = cc
kind_is kinds.Text h = refl
kind_is (kinds.Punct p) h = cc

as_symbol : List ℕ → Tok → TokKind → Symbol
as_symbol text t k = record { kind = k; bytes = if spells k then word_of text t else []; line = t.line }

pub text_is : (text : List ℕ) (t : Tok) → is_text t.kind ≡ true → symbol_in text t ≡ record { kind = kinds.Text; bytes = word_of text t; line = t.line }
unfolding as_symbol
text_is text t h = ap (as_symbol text t) (kind_is t.kind h)
