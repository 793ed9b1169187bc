-- Tokens whose names were looked up before they are replaced.
use Rattle.std.specs.Prelude.{ℕ, zero, suc, ◌+◌, ◌-◌, Bool, true, false, ◌&&◌, not, nat_lt, if◌then◌else◌, List, [], ◌∷◌, ◌++◌, length, map, Option, Some, None, slice_index_or, slice_set, reverse, ◌≡◌}
use Rattle.std.specs.List.{flat_map}
use Rattle.std.specs.Ordering.{nat_cmp}
use Rattle.std.specs.Cmp.Lexicographic.{slice_cmp}
use Rattle.std.specs.BTreeMap.{get_by}
use Rattle.std.specs.declared.vec.Vec.{Vec}
use Rattle.std.specs.declared.alloc.Global.{Global}
use Rattle.c_token.specs.declared.token.Tok.{Tok}
use Rattle.c_pre.specs.declared.names.Named.{Named}
use Rattle.c_pre.specs.declared.names.Definitions.{Definitions}
use Rattle.c_pre.specs.declared.replace.Frame.{Frame}
use Rattle.c_pre.specs.Words.{word_of, is_name}
use Rattle.c_pre.specs.Directive.{Table, position_of, table_of}
use Rattle.c_pre.specs.Replace.{Event, Left, Replaced, at_line, unmarked}

-- each name has its place in the list of definitions, and no other name has one
abbrev pub IsIndexed : Definitions → Type 0
IsIndexed d = (name : List ℕ) → get_by (λ k. slice_cmp nat_cmp name k.now) d.places ≡ position_of (table_of d.list.items) name

-- which definition a token's name has
abbrev pub place_of : List ℕ → Table → Tok → Option ℕ
place_of text table t = if is_name t.kind then position_of table (word_of text t) else None

abbrev pub named : List ℕ → Table → Tok → Named
named text table t = record { token = t; definition = place_of text table t }

-- the lists of definitions, in order
abbrev pub Lists : Type 0
Lists = List (List Named)

-- the lists of a table's definitions, whose names were looked up in the whole table
abbrev pub looked_up : List ℕ → Table → Table → Lists
looked_up text whole table = map (λ e. map (named text whole) e.1) table

-- the lists as the code holds them
abbrev pub lists_of : List (Vec Named Global) → Lists
lists_of vs = map (λ v. v.items) vs

-- The definition that is replaced: it is one of those that have a mark in `busy`, which are the ones
-- known at the place, and its replacement isn't under way.
abbrev pub open_at : List Bool → Option ℕ → Option ℕ
open_at busy None = None
open_at busy (Some k) = if nat_lt k (length busy) && not (slice_index_or busy k false) then Some k else None

abbrev pub tokens_at : Lists → ℕ → List Named
tokens_at lists k = slice_index_or lists k []

-- Replacing one token, as in the definition of the replacement: only the definition is at hand.
abbrev pub replace_named : (List Bool → List Named → List Event) → Lists → List Bool → ℕ → Named → Option ℕ → List Event
replace_named again lists busy line w None = Left (at_line line w.token) ∷ []
replace_named again lists busy line w (Some k) = Replaced line ∷ again (slice_set busy k true) (tokens_at lists k)

unfoldable pub replace_list : ℕ → Lists → ℕ → List Bool → List Named → List Event
replace_list zero lists line busy ws = map (λ w. Left (at_line line w.token)) ws
replace_list (suc depth) lists line busy ws =
    flat_map (λ w. replace_named (replace_list depth lists line) lists busy line w (open_at busy w.definition)) ws

-- what lists that wait, the innermost first, still become
unfoldable pub pending : ℕ → Lists → ℕ → List Bool → List Frame → List Event
pending depth lists line busy [] = []
pending depth lists line busy (f ∷ below) =
    replace_list depth lists line busy f.rest.now ++ pending (suc depth) lists line (unmarked busy f.definition) below

-- What waits, the outermost list first: the lists, and the marks of what is under way.
abbrev pub waiting : Lists → ℕ → List Bool → List Frame → List Event
waiting lists line busy stack = pending (length lists + 1 - length stack) lists line busy (reverse stack)

-- the marks that are left when all lists that wait, the innermost first, have ended
abbrev pub cleared : List Bool → List Frame → List Bool
cleared busy [] = busy
cleared busy (f ∷ below) = cleared (unmarked busy f.definition) below
