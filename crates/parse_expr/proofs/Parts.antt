-- The readers of the code are those of the grammar, where they take parts in another order.
use Rattle.std.proofs.Common.{◌≡◌, ℕ, suc, ◌+◌, add-one, ◌==◌, Bool, true, false, ◌&&◌, if◌then◌else◌, [], ◌∷◌, Option, Some, None, refl}
use Rattle.c_token.specs.declared.token.TokKind.{TokKind}
use Rattle.c_token.specs.declared.token.TokKind.TheVariants as kinds
use Rattle.c_token.specs.declared.token.Keyword.TheVariants as words
use Rattle.c_token.specs.declared.token.Punct.{Punct}
use Rattle.c_token.specs.declared.token.Punct.TheVariants as marks
use Rattle.c_nodes.specs.Words.{Symbol, Symbols}
use Rattle.c_nodes.specs.Kinds.{level_of, is_punct, is_key, is_prefix, is_prefix_mark}
use Rattle.c_nodes.specs.Trees.{Tree}
use Rattle.parse_expr.specs.Reader.{◌>>=◌, Reader, symbol_at, type_opens, specs_come, got}
use Rattle.parse_expr.specs.Reading.{Inner, right_by, prefix_by, cast_by}
use Rattle.parse_expr.specs.Parts.{plain_prefix_at}

-- behind an operator
abbrev pub right_on : Reader Tree → Option (Symbol × Symbols) → Option (Option ((Symbol × Tree) × Symbols))
right_on next None = Some None
right_on next (Some x) = got (next x.1 >>= λ b. Some ((x.0, b.0), b.1))

right_cases : (k : ℕ) (next : Reader Tree) (s : Symbol) (rest : Symbols) (b : Bool) → (if b then got (next rest >>= λ b. Some ((s, b.0), b.1)) else Some None) ≡ right_on next (if b then Some (s, rest) else None)
right_cases k next s rest true = refl
right_cases k next s rest false = refl

pub right_parts : (k : ℕ) (next : Reader Tree) (toks : Symbols) → right_by (suc k) next toks ≡ right_on next (symbol_at (λ t. level_of t == k + 1) toks)
unfolding right_by symbol_at
right_parts k next [] = refl
right_parts k next (s ∷ rest) = rw (add-one k) (right_cases k next s rest (level_of s.kind == suc k))

-- `(` is no prefix operator and no `sizeof`
no_prefix_mark : (p : Punct) → is_punct marks.LeftParenthesis (kinds.Punct p) ≡ true → is_prefix_mark p ≡ false
no_prefix_mark marks.LeftParenthesis h = refl
no_prefix_mark _ h = cc

no_prefix : (k : TokKind) → is_punct marks.LeftParenthesis k ≡ true → (is_prefix k ≡ false) × (is_key words.Sizeof k ≡ false)
no_prefix (kinds.Punct p) h = (no_prefix_mark p h, refl)
no_prefix _ h = (cc, cc)

prefix_cases : (inner : Inner) (s : Symbol) (rest : Symbols) (b : Bool) → is_punct marks.LeftParenthesis s.kind ≡ b → prefix_by inner (s ∷ rest) ≡ (if b && specs_come rest then got (cast_by inner (s ∷ rest)) else plain_prefix_at (s ∷ rest))
unfolding prefix_by type_opens plain_prefix_at
prefix_cases inner s rest true h = let no = no_prefix s.kind h in rw (h, no.0, no.1) refl
prefix_cases inner s rest false h = rw h refl

pub prefix_parts : (inner : Inner) (toks : Symbols) → prefix_by inner toks ≡ (if type_opens toks then got (cast_by inner toks) else plain_prefix_at toks)
unfolding prefix_by type_opens plain_prefix_at
prefix_parts inner [] = refl
prefix_parts inner (s ∷ rest) = prefix_cases inner s rest (is_punct marks.LeftParenthesis s.kind) refl
