-- Where a part of a declaration or of a `do` can't be read, neither can the whole.
use Rattle.std.proofs.Common.{◌≡◌, ℕ, List, Some, refl}
use Rattle.c_token.specs.declared.token.Keyword.TheVariants as words
use Rattle.c_token.specs.declared.token.Punct.TheVariants as marks
use Rattle.c_nodes.specs.Words.{Symbols}
use Rattle.c_nodes.specs.Trees.{SpecTrees}
use Rattle.c_nodes.specs.Programs.{BegunTree, ConditionTree, StatementTree}
use Rattle.parse_expr.specs.declared.error.ParseError.{ParseError}
use Rattle.parse_expr.specs.declared.error.ParseError.TheVariants as errors
use Rattle.parse_expr.specs.Reader.{Reader, Fails, punct_at, key_at, all_that}
use Rattle.c_parse.specs.Reading.{next_begun_by, declared_behind, condition_by, do_by}

-- behind the first declarator
pub declared_err : (x : ParseError) (n : ℕ) (specs : SpecTrees) (b : BegunTree) (bs : List (ℕ × BegunTree)) (toks rest : Symbols) → all_that (next_begun_by n) toks ≡ Some (bs, rest) → Fails x (punct_at marks.Semicolon rest) → Fails x (declared_behind n specs b toks)
unfolding declared_behind
declared_err errors.NoMemory n specs b bs toks rest h k = tt
declared_err (errors.Nesting line) n specs b bs toks rest h k = k
declared_err (errors.Run line) n specs b bs toks rest h k = k
declared_err (errors.Syntax line) n specs b bs toks rest h k = rw (h, k) refl

-- at the end of a `do`
pub do_err : (x : ParseError) (n : ℕ) (next : Reader StatementTree) (k : ℕ) (toks : Symbols) (s : StatementTree × Symbols) (w : ℕ × Symbols) (e : ConditionTree × Symbols) → next toks ≡ Some s → key_at words.While s.1 ≡ Some w → condition_by n w.1 ≡ Some e → Fails x (punct_at marks.Semicolon e.1) → Fails x (do_by n next k toks)
unfolding do_by
do_err errors.NoMemory n next k toks s w e body word condition f = tt
do_err (errors.Nesting line) n next k toks s w e body word condition f = f
do_err (errors.Run line) n next k toks s w e body word condition f = f
do_err (errors.Syntax line) n next k toks s w e body word condition f = rw (body, word, condition, f) refl
