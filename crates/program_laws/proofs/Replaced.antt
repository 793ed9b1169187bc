-- Directives and the replacement of names leave tokens of the text, on other lines perhaps.
use Rattle.std.proofs.Common.{◌≡◌, ℕ, zero, suc, Bool, true, false, if◌then◌else◌, List, [], ◌∷◌, ◌++◌, length, take, map, replicate, Option, Some, None, Result, Ok, Err, subst}
use Rattle.std.specs.Prelude.{slice_set, codes}
use Rattle.std.specs.Str.{bytes_eq}
use Rattle.std.specs.List.{flat_map}
use Rattle.c_token.specs.declared.token.Tok.{Tok}
use Rattle.c_pre.specs.Directive.{Table, Said, Nothing, Defines, Wrong, position_of, is_header, defining, definition_in, line_of}
use Rattle.c_pre.specs.Items.{Item, Outside, List_of, Bad, defined, after_definition, after_line, line_length, items, first_word, first_bad, free_tokens, judged, program_of}
use Rattle.c_pre.specs.Replace.{Event, Left, Replaced, at_line, list_at, open_definition, replace_one, replace, events_of, with_token, limited}
use Rattle.c_pre.specs.Words.{word_of, is_hash, same_words}
use Rattle.c_pre.specs.declared.PreError.{PreError}
use Rattle.program_laws.proofs.Fronts.{Spelt}

module _ (text : List ℕ) where
  abbrev pub Good : List Tok → Type 0
  Good [] = Unit {0}
  Good (t ∷ ts) = Spelt text t × Good ts

  abbrev GoodTable : Table → Type 0
  GoodTable [] = Unit {0}
  GoodTable (e ∷ es) = Good e.1 × GoodTable es

  good_take : (n : ℕ) (ts : List Tok) → Good ts → Good (take n ts)
  good_take zero [] good = tt
  good_take zero (t ∷ ts) good = tt
  good_take (suc n) [] good = tt
  good_take (suc n) (t ∷ ts) good = (good.0, good_take n ts good.1)

  -- ---- directives

  abbrev GoodSaid : Said → Type 0
  GoodSaid Nothing = Unit {0}
  GoodSaid (Defines name list) = Good list
  GoodSaid Wrong = Unit {0}

  said_if : (b : Bool) (s r : Said) → GoodSaid s → GoodSaid r → GoodSaid (if b then s else r)
  said_if true s r f g = f
  said_if false s r f g = g

  defining_if : (b : Bool) (name : List ℕ) (list : List Tok) → Good list → GoodSaid (defining (if b then Some (name, list) else None))
  defining_if true name list good = good
  defining_if false name list good = tt

  definition_good : (ts : List Tok) → Good ts → GoodSaid (defining (definition_in text ts))
  unfolding definition_in
  definition_good [] good = tt
  definition_good (name ∷ list) good = defining_if _ _ list good.1

  line_good : (ts : List Tok) → Good ts → GoodSaid (line_of text ts)
  unfolding line_of
  line_good [] good = tt
  line_good (t ∷ ts) good = said_if (bytes_eq (codes "include") (word_of text t)) (if is_header text ts then Nothing else Wrong) (if bytes_eq (codes "define") (word_of text t) then defining (definition_in text ts) else Wrong)
      (said_if (is_header text ts) Nothing Wrong tt tt) (said_if (bytes_eq (codes "define") (word_of text t)) (defining (definition_in text ts)) Wrong (definition_good ts good.1) tt)

  -- ---- items

  abbrev GoodItem : Item → Type 0
  GoodItem (Outside table t) = GoodTable table × Spelt text t
  GoodItem (List_of list) = Unit {0}
  GoodItem (Bad line) = Unit {0}

  abbrev GoodItems : List Item → Type 0
  GoodItems [] = Unit {0}
  GoodItems (i ∷ is) = GoodItem i × GoodItems is

  table_last : (table : Table) (name : List ℕ) (list : List Tok) → GoodTable table → Good list → GoodTable (table ++ (name, list) ∷ [])
  table_last [] name list good here = (here, tt)
  table_last (e ∷ es) name list good here = (good.0, table_last es name list good.1 here)

  abbrev GoodGrown : Option Table → Type 0
  GoodGrown None = Unit {0}
  GoodGrown (Some table) = GoodTable table

  grown_if : (b : Bool) (table : Table) → GoodTable table → GoodGrown (if b then Some table else None)
  grown_if true table good = good
  grown_if false table good = tt

  defined_good : (table : Table) (name : List ℕ) (list : List Tok) (place : Option ℕ) → GoodTable table → Good list → GoodGrown (defined text table name list place)
  defined_good table name list None good here = table_last table name list good here
  defined_good table name list (Some k) good here = grown_if (same_words text (list_at table k) list) table good

  after_definition_good : (again : Table → List Item) (table : Table) (line : ℕ) (list : List Tok) (grown : Option Table) → ((t : Table) → GoodTable t → GoodItems (again t)) → GoodTable table → GoodGrown grown
      → GoodItems (after_definition again table line list grown)
  after_definition_good again table line list None each good here = (tt, each table good)
  after_definition_good again table line list (Some grown) each good here = (tt, each grown here)

  after_line_good : (again : Table → List Item) (table : Table) (line : ℕ) (said : Said) → ((t : Table) → GoodTable t → GoodItems (again t)) → GoodTable table → GoodSaid said → GoodItems (after_line text again table line said)
  after_line_good again table line Nothing each good here = each table good
  after_line_good again table line Wrong each good here = (tt, each table good)
  after_line_good again table line (Defines name list) each good here =
      after_definition_good again table line list (defined text table name list (position_of table name)) each good (defined_good table name list (position_of table name) good here)

  items_if : (b : Bool) (xs ys : List Item) → GoodItems xs → GoodItems ys → GoodItems (if b then xs else ys)
  items_if true xs ys f g = f
  items_if false xs ys f g = g

  items_good : (ts : List Tok) (passed : ℕ) (table : Table) → Good ts → GoodTable table → GoodItems (items text ts passed table)
  unfolding items
  items_good [] passed table good known = tt
  items_good (t ∷ ts) (suc passed) table good known = items_good ts passed table good.1 known
  items_good (t ∷ ts) zero table good known =
      items_if (is_hash t.kind) (after_line text (items text ts (line_length ts)) table t.line (line_of text (take (line_length ts) ts))) (Outside table t ∷ items text ts zero table)
      (after_line_good (items text ts (line_length ts)) table t.line (line_of text (take (line_length ts) ts)) (λ u g. items_good ts (line_length ts) u good.1 g) known (line_good (take (line_length ts) ts) (good_take (line_length ts) ts good.1)))
      ((known, good.0), items_good ts zero table good.1 known)

  -- ---- replacement

  abbrev GoodEvent : Event → Type 0
  GoodEvent (Left t) = Spelt text t
  GoodEvent (Replaced line) = Unit {0}

  abbrev GoodEvents : List Event → Type 0
  GoodEvents [] = Unit {0}
  GoodEvents (e ∷ es) = GoodEvent e × GoodEvents es

  joined_good : (xs ys : List Event) → GoodEvents xs → GoodEvents ys → GoodEvents (xs ++ ys)
  joined_good [] ys f g = g
  joined_good (x ∷ xs) ys f g = (f.0, joined_good xs ys f.1 g)

  lefts_good : (line : ℕ) (ts : List Tok) → Good ts → GoodEvents (map (λ t. Left (at_line line t)) ts)
  lefts_good line [] good = tt
  lefts_good line (t ∷ ts) good = (good.0, lefts_good line ts good.1)

  flat_good : (f : Tok → List Event) → ((t : Tok) → Spelt text t → GoodEvents (f t)) → (ts : List Tok) → Good ts → GoodEvents (flat_map f ts)
  flat_good f each [] good = tt
  flat_good f each (t ∷ ts) good = joined_good (f t) (flat_map f ts) (each t good.0) (flat_good f each ts good.1)

  list_good : (table : Table) (k : ℕ) → GoodTable table → Good (list_at table k)
  list_good [] zero good = tt
  list_good [] (suc k) good = tt
  list_good (e ∷ es) zero good = good.0
  list_good (e ∷ es) (suc k) good = list_good es k good.1

  one_good : (again : List Bool → List Tok → List Event) (table : Table) (busy : List Bool) (line : ℕ) (t : Tok) (found : Option ℕ) → ((b : List Bool) (ts : List Tok) → Good ts → GoodEvents (again b ts)) → GoodTable table → Spelt text t
      → GoodEvents (replace_one again table busy line t found)
  one_good again table busy line t None each known good = (good, tt)
  one_good again table busy line t (Some k) each known good = (tt, each (slice_set busy k true) (list_at table k) (list_good table k known))

  replace_good : (depth : ℕ) (table : Table) (line : ℕ) (busy : List Bool) (ts : List Tok) → GoodTable table → Good ts → GoodEvents (replace depth text table line busy ts)
  unfolding replace
  replace_good zero table line busy ts known good = lefts_good line ts good
  replace_good (suc depth) table line busy ts known good = flat_good (λ t. replace_one (replace depth text table line) table busy line t (open_definition text table busy t))
      (λ t g. one_good (replace depth text table line) table busy line t (open_definition text table busy t) (λ b us h. replace_good depth table line b us known h) known g) ts good

  -- ---- the tokens that are left

  abbrev GoodFree : List (Table × ℕ × List Tok) → Type 0
  GoodFree [] = Unit {0}
  GoodFree (x ∷ xs) = (GoodTable x.0 × Good x.2) × GoodFree xs

  free_good : (is : List Item) → GoodItems is → GoodFree (free_tokens is)
  unfolding free_tokens
  free_good [] good = tt
  free_good (Outside table t ∷ is) good = ((good.0.0, (good.0.1, tt)), free_good is good.1)
  free_good (List_of list ∷ is) good = free_good is good.1
  free_good (Bad line ∷ is) good = free_good is good.1

  all_good : (xs : List (Table × ℕ × List Tok)) → GoodFree xs → GoodEvents (flat_map (events_of text) xs)
  all_good [] good = tt
  all_good (x ∷ xs) good = joined_good (events_of text x) (flat_map (events_of text) xs) (replace_good (length x.0) x.0 x.1 (replicate (length x.0) false) x.2 good.0.0 good.0.1) (all_good xs good.1)

  abbrev OkGood : Result (List Tok) PreError → Type 0
  OkGood (Ok ts) = Good ts
  OkGood (Err e) = Unit {0}

  with_good : (t : Tok) (r : Result (List Tok) PreError) → Spelt text t → OkGood r → OkGood (with_token t r)
  with_good t (Ok ts) good rest = (good, rest)
  with_good t (Err e) good rest = tt

  limited_good : (room : ℕ) (es : List Event) → GoodEvents es → OkGood (limited room es)
  unfolding limited
  limited_good zero [] good = tt
  limited_good (suc room) [] good = tt
  limited_good zero (Left t ∷ es) good = tt
  limited_good zero (Replaced line ∷ es) good = tt
  limited_good (suc room) (Left t ∷ es) good = with_good t (limited room es) good.0 (limited_good room es good.1)
  limited_good (suc room) (Replaced line ∷ es) good = limited_good room es good.1

  judged_good : (word bad : Option ℕ) (r : Result (List Tok) PreError) → OkGood r → OkGood (judged word bad r)
  judged_good (Some line) bad r good = tt
  judged_good None (Some line) r good = tt
  judged_good None None r good = good

  pub program_good : (raw toks : List Tok) → Good raw → program_of text raw ≡ Ok toks → Good toks
  program_good raw toks good is = by (program_of text raw) (judged_good (first_word text (items text raw 0 [])) (first_bad (items text raw 0 [])) _
      (limited_good 262144 (flat_map (events_of text) (free_tokens (items text raw 0 []))) (all_good (free_tokens (items text raw 0 [])) (free_good (items text raw 0 []) (items_good raw 0 [] good tt))))) is
    where
      same_ok : (a b : List Tok) → ◌≡◌ {A = Result (List Tok) PreError} (Ok a) (Ok b) → a ≡ b
      same_ok a b e = cc e

      by : (r : Result (List Tok) PreError) → OkGood r → r ≡ Ok toks → Good toks
      by (Ok ts) h e = subst Good (same_ok ts toks e) h
      by (Err x) h e = absurd (cc e)
