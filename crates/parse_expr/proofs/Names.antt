-- What tests on a token tell of its symbol.
use Rattle.std.proofs.Common.{◌≡◌, ℕ, true, if◌then◌else◌, List, [], refl, ap}
use Rattle.c_token.specs.declared.token.Tok.{Tok}
use Rattle.c_token.specs.declared.token.TokKind.{TokKind}
use Rattle.c_token.specs.declared.token.TokKind.TheVariants as kinds
use Rattle.c_pre.specs.Words.{word_of}
use Rattle.c_nodes.specs.Words.{Symbol}
use Rattle.c_nodes.specs.Kinds.{is_name, is_type_name}
use Rattle.parse_expr.specs.Reader.{symbol_in, spells}

kind_is : (k : TokKind) → is_name k ≡ true → k ≡ kinds.Name
kind_is kinds.Name h = refl
kind_is kinds.TypeName h = cc
kind_is (kinds.Keyword w) h = cc
kind_is (kinds.Int value base u l) h = cc
kind_is (kinds.Char value) h = cc
kind_is kinds.Text h = cc
kind_is (kinds.Punct p) h = cc

as_symbol : List ℕ → Tok → TokKind → Symbol
as_symbol text t k = record { kind = k; bytes = if spells k then word_of text t else []; line = t.line }

pub name_is : (text : List ℕ) (t : Tok) → is_name t.kind ≡ true → symbol_in text t ≡ record { kind = kinds.Name; bytes = word_of text t; line = t.line }
unfolding as_symbol
name_is text t h = ap (as_symbol text t) (kind_is t.kind h)

type_kind_is : (k : TokKind) → is_type_name k ≡ true → k ≡ kinds.TypeName
type_kind_is kinds.Name h = cc
type_kind_is kinds.TypeName h = refl
type_kind_is (kinds.Keyword w) h = cc
type_kind_is (kinds.Int value base u l) h = cc
type_kind_is (kinds.Char value) h = cc
type_kind_is kinds.Text h = cc
type_kind_is (kinds.Punct p) h = cc

pub type_name_is : (text : List ℕ) (t : Tok) → is_type_name t.kind ≡ true → symbol_in text t ≡ record { kind = kinds.TypeName; bytes = word_of text t; line = t.line }
unfolding as_symbol
type_name_is text t h = ap (as_symbol text t) (type_kind_is t.kind h)
