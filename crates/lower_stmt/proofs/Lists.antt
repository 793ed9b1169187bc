-- What lists give, one element after the other, and what a count of bytes gives with one byte more.
use Rattle.std.proofs.Common.{◌≡◌, ℕ, ◌+◌, List, [], ◌∷◌, ◌++◌, map, refl, add-one}
use Rattle.std.specs.Prelude.{if◌then◌else◌}
use Rattle.std.proofs.lemmas.List.{append-nil, map-append}
use Rattle.c_typed.specs.Trees.{Item}
use Rattle.c_typed.specs.Views.{statement_of, statements_of}
use Rattle.c_typed.specs.declared.program.Initial.{Initial}
use Rattle.c_typed.specs.declared.statement.TStmt.{TStmt}
use Rattle.core_code.specs.Tree as core
use Rattle.core_code.specs.Tree.{Tree}
use Rattle.core_code.specs.View.{tree_of, trees_in}
use Rattle.core_code.specs.declared.code.Core.{Core}
use Rattle.core_code.specs.declared.code.Byte.{Byte}
use Rattle.core_puts.specs.Bytes.{behind}
use Rattle.lower_stmt.specs.Declarators.{text_code, rest_code, is_covered}
use Rattle.lower_stmt.specs.FirstBytes.{bytes_in, byte_at}
use Rattle.lower_stmt.specs.Ground.{Ground}
use Rattle.lower_stmt.specs.Statements.{stmt_code, stmts_code}
use Rattle.lower_stmt.specs.declared.jumps.Jumps.{Jumps}
use Rattle.std.specs.Prelude.{slice_index}

pub trees_both : (a b : List Core) → trees_in (a ++ b) ≡ trees_in a ++ trees_in b
trees_both a b = map-append tree_of a b

abbrev pub stmt_code_in : Ground → Jumps → TStmt → List Tree
stmt_code_in g j s = stmt_code g j (statement_of s)

abbrev pub stmts_code_in : Ground → Jumps → List TStmt → List Tree
stmts_code_in g j ss = stmts_code g j (statements_of (map statement_of ss))

pub stmts_none : (g : Ground) (j : Jumps) → stmts_code_in g j [] ≡ []
unfolding stmts_code
stmts_none g j = refl

pub stmts_more : (g : Ground) (j : Jumps) (s : TStmt) (ss : List TStmt) → stmts_code_in g j (s ∷ ss) ≡ stmt_code_in g j s ++ stmts_code_in g j ss
unfolding stmts_code
stmts_more g j s ss = refl

pub text_none : (to : Byte) (bytes : List ℕ) → text_code to bytes 0 ≡ []
unfolding text_code
text_none to bytes = refl

pub text_more : (to : Byte) (bytes : List ℕ) (place : ℕ) → text_code to bytes (place + 1) ≡ text_code to bytes place ++ core.Set (behind to place) (slice_index bytes place) ∷ []
unfolding text_code
text_more to bytes place = rw add-one refl

pub rest_none : (g : Ground) (to : Byte) (items : List Item) → rest_code g to items 0 ≡ []
unfolding rest_code
rest_none g to items = refl

pub rest_more : (g : Ground) (to : Byte) (items : List Item) (place : ℕ) → rest_code g to items (place + 1) ≡ rest_code g to items place ++ (if is_covered g items place then [] else core.Set (behind to place) 0 ∷ [])
unfolding rest_code
rest_more g to items place = rw add-one refl

pub bytes_none : (values : List Initial) → bytes_in values 0 ≡ []
unfolding bytes_in
bytes_none values = refl

pub bytes_more : (values : List Initial) (offset : ℕ) → bytes_in values (offset + 1) ≡ bytes_in values offset ++ byte_at values offset ∷ []
unfolding bytes_in
bytes_more values offset = rw add-one refl

pub ruleset texts = (text_none, text_more, append-nil)

pub ruleset rests = (rest_none, rest_more, append-nil)

pub ruleset first_bytes = (bytes_none, bytes_more)
