-- The directives that the language has (ISO/IEC 9899:1990, 6.8, in a small part): a lone `#`,
-- `#include` of one of three headers, and `#define` of a name without parameters.
use Rattle.std.specs.Prelude.{ℕ, Bool, true, false, ◌&&◌, not, ◌==◌, if◌then◌else◌, List, [], ◌∷◌, codes, Option, Some, None, map, ◌≡◌}
use Rattle.std.specs.List.{position_from}
use Rattle.std.specs.Str.{bytes_eq}
use Rattle.c_token.specs.declared.token.Tok.{Tok}
use Rattle.c_pre.specs.declared.directive.Definition.{Definition}
use Rattle.c_pre.specs.declared.directive.Line.{Line}
use Rattle.c_pre.specs.declared.directive.Line.TheVariants as line
use Rattle.c_pre.specs.Words.{word_of, is_excluded, is_name, is_opening}

-- the definitions so far, in order: each name's bytes with its list of tokens
abbrev pub Table : Type 0
Table = List (List ℕ × List Tok)

-- what a directive line says: nothing that matters, a definition, or no directive of the language
pub data Said : Type 0 where
  Nothing : Said
  Defines : List ℕ → List Tok → Said
  Wrong : Said

-- which definition a word has
unfoldable pub position_of : Table → List ℕ → Option ℕ
position_of table word = position_from (λ e. bytes_eq e.0 word) 0 table

abbrev pub names_header : List ℕ → Bool
names_header bytes =
    if bytes_eq (codes "<htc.h>") bytes then true
    else if bytes_eq (codes "<pic.h>") bytes then true
    else bytes_eq (codes "<xc.h>") bytes

-- `<htc.h>`, `<pic.h>` or `<xc.h>`, with nothing between its tokens
unfoldable pub is_header : List ℕ → List Tok → Bool
is_header text (less ∷ name ∷ dot ∷ h ∷ greater ∷ []) = names_header (word_of text (record less { end = greater.end }))
is_header text _ = false

-- a name that isn't excluded
abbrev pub may_be_defined : List ℕ → Tok → Bool
may_be_defined text t = is_name t.kind && not (is_excluded text t)

-- an opening parenthesis directly behind the name would begin a list of parameters
abbrev pub has_parameters : Tok → List Tok → Bool
has_parameters name [] = false
has_parameters name (t ∷ ts) = is_opening t.kind && (t.start == name.end)

-- behind `#define`: the name and its list
unfoldable pub definition_in : List ℕ → List Tok → Option (List ℕ × List Tok)
definition_in text [] = None
definition_in text (name ∷ list) =
    if may_be_defined text name && not (has_parameters name list) then Some (word_of text name, list) else None

-- What a line says behind its `#`.
abbrev pub defining : Option (List ℕ × List Tok) → Said
defining None = Wrong
defining (Some d) = Defines d.0 d.1

unfoldable pub line_of : List ℕ → List Tok → Said
line_of text [] = Nothing
line_of text (t ∷ ts) =
    if bytes_eq (codes "include") (word_of text t) then (if is_header text ts then Nothing else Wrong)
    else if bytes_eq (codes "define") (word_of text t) then defining (definition_in text ts)
    else Wrong

-- a definition and a line as the code holds them
abbrev pub entry_of : Definition → List ℕ × List Tok
entry_of d = (d.name.now, d.list.now)

abbrev pub table_of : List Definition → Table
table_of definitions = map entry_of definitions

abbrev pub said : Line → Said
said line.Nothing = Nothing
said (line.Defines d) = Defines d.name.now d.list.now
said line.Wrong = Wrong

abbrev pub ShowsEntry : Option Definition → Option (List ℕ × List Tok) → Type 0
ShowsEntry None entry = entry ≡ None
ShowsEntry (Some d) entry = entry ≡ Some (entry_of d)
