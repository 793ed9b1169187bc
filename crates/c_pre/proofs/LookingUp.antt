-- Lists whose names were looked up are replaced like their tokens.
use Rattle.std.proofs.Common.{ℕ, zero, suc, ◌+◌, ◌<◌, ◌≤◌, ◌≡◌, Bool, true, false, cond, Option, Some, None, List, [], ◌∷◌, ◌++◌, length, take, map, get_or, set, replicate, ap, ap₂, refl, sym, ◌∙◌, nat_lt}
use Rattle.std.specs.Prelude.{◌&&◌, not}
use Rattle.std.proofs.lemmas.List.{length-map, length-set, length-replicate, map-append, take_all, take_more, take-map}
use Rattle.std.specs.declared.vec.Vec.{Vec}
use Rattle.std.specs.declared.alloc.Global.{Global}
use Rattle.c_token.specs.declared.token.Tok.{Tok}
use Rattle.c_pre.specs.declared.names.Named.{Named}
use Rattle.c_pre.specs.declared.directive.Definition.{Definition}
use Rattle.c_pre.specs.Words.{word_of, is_name}
use Rattle.c_pre.specs.Directive.{Table, table_of, entry_of, position_of}
use Rattle.c_pre.specs.Replace.{Event, Left, Replaced, at_line, if_open, open_definition, list_at, replace_one, replace}
use Rattle.c_pre.specs.LookedUp.{Lists, named, looked_up, lists_of, open_at, tokens_at, replace_named, replace_list}
use Rattle.c_pre.proofs.Tables.{within, front_place}

-- which definition is replaced

open_within : (busy : List Bool) (o : Option ℕ) → open_at busy o ≡ if_open busy (within (length busy) o)
open_within busy None = refl
open_within busy (Some k) = known (nat_lt k (length busy))
  where
    either : (b : Bool) → cond (true && not b) (Some k) None ≡ cond b None (Some k)
    either true = refl
    either false = refl

    known : (a : Bool) → cond (a && not (get_or busy k false)) (Some k) None ≡ if_open busy (cond a (Some k) None)
    known true = either (get_or busy k false)
    known false = refl

same_open : (text : List ℕ) (whole : Table) (k : ℕ) (busy : List Bool) (t : Tok) → length busy ≡ length (take k whole) → open_at busy (named text whole t).definition ≡ open_definition text (take k whole) busy t
unfolding open_definition
same_open text whole k busy t h = by (is_name t.kind)
  where
    by : (b : Bool) → open_at busy (cond b (position_of whole (word_of text t)) None) ≡ cond b (if_open busy (position_of (take k whole) (word_of text t))) None
    by true =
        open_within busy (position_of whole (word_of text t))
        ∙ ap (λ n. if_open busy (within n (position_of whole (word_of text t)))) h
        ∙ ap (if_open busy) (sym (front_place whole k (word_of text t)))
    by false = refl

-- what becomes of a list

tokens_found : (text : List ℕ) (whole table : Table) (k : ℕ) → tokens_at (looked_up text whole table) k ≡ map (named text whole) (list_at table k)
tokens_found text whole [] k = refl
tokens_found text whole (e ∷ es) zero = refl
tokens_found text whole (e ∷ es) (suc k) = tokens_found text whole es k

all_left : (text : List ℕ) (whole : Table) (line : ℕ) (ts : List Tok) → map (λ w. Left (at_line line w.token)) (map (named text whole) ts) ≡ map (λ t. Left (at_line line t)) ts
all_left text whole line [] = refl
all_left text whole line (t ∷ ts) = ap (λ es. Left (at_line line t) ∷ es) (all_left text whole line ts)

same_one : (again : List Bool → List Named → List Event) (plain : List Bool → List Tok → List Event) (lists : Lists) (table : Table) (busy : List Bool) (line : ℕ) (w : Named) (o : Option ℕ) → ((k : ℕ) → again (set busy k true) (tokens_at lists k) ≡ plain (set busy k true) (list_at table k)) → replace_named again lists busy line w o ≡ replace_one plain table busy line w.token o
same_one again plain lists table busy line w None h = refl
same_one again plain lists table busy line w (Some k) h = ap (λ es. Replaced line ∷ es) (h k)

same_events : (text : List ℕ) (whole : Table) (k line depth : ℕ) (busy : List Bool) (ts : List Tok) → length busy ≡ length (take k whole) → replace_list depth (looked_up text whole (take k whole)) line busy (map (named text whole) ts) ≡ replace depth text (take k whole) line busy ts
unfolding replace_list replace
same_events text whole k line zero busy ts h = all_left text whole line ts
same_events text whole k line (suc depth) busy [] h = refl
same_events text whole k line (suc depth) busy (t ∷ ts) h =
    let lists = looked_up text whole (take k whole) in
    ap₂ (λ xs ys. xs ++ ys)
    (ap (replace_named (replace_list depth lists line) lists busy line (named text whole t)) (same_open text whole k busy t h)
    ∙ same_one (replace_list depth lists line) (replace depth text (take k whole) line) lists (take k whole) busy line (named text whole t) (open_definition text (take k whole) busy t)
    (λ j. ap (replace_list depth lists line (set busy j true)) (tokens_found text whole (take k whole) j)
    ∙ same_events text whole k line depth (set busy j true) (list_at (take k whole) j) (length-set busy j true ∙ h)))
    (same_events text whole k line (suc depth) busy ts h)

-- as the code holds them

front_lists : (text : List ℕ) (whole : Table) (vs : List (Vec Named Global)) (k : ℕ) → lists_of vs ≡ looked_up text whole whole → lists_of (take k vs) ≡ looked_up text whole (take k whole)
front_lists text whole vs k e =
    sym (take-map (λ (v : Vec Named Global). v.items) k vs) ∙ ap (take k) e ∙ take-map (λ (x : List ℕ × List Tok). map (named text whole) x.1) k whole

pub lists_count : (text : List ℕ) (ds : List Definition) (vs : List (Vec Named Global)) → lists_of vs ≡ looked_up text (table_of ds) (table_of ds) → length vs ≡ length ds
lists_count text ds vs e =
    sym (length-map vs (λ (v : Vec Named Global). v.items)) ∙ ap length e
    ∙ length-map (table_of ds) (λ (x : List ℕ × List Tok). map (named text (table_of ds)) x.1) ∙ length-map ds entry_of

-- one token outside directives
pub same_item : (text : List ℕ) (ds : List Definition) (vs : List (Vec Named Global)) (k line : ℕ) (t : Tok) → lists_of vs ≡ looked_up text (table_of ds) (table_of ds) → replace_list (length (take k vs)) (lists_of (take k vs)) line (replicate (length (take k vs)) false) (named text (table_of ds) t ∷ []) ≡ replace (length (take k ds)) text (table_of (take k ds)) line (replicate (length (take k ds)) false) (t ∷ [])
same_item text ds vs k line t e =
    let whole = table_of ds in
    let front = front_lists text whole vs k e in
    let count : length (take k vs) ≡ length (take k whole) =
    sym (length-map (take k vs) (λ (v : Vec Named Global). v.items)) ∙ ap length front ∙ length-map (take k whole) (λ (x : List ℕ × List Tok). map (named text whole) x.1) in
    ap₂ (λ (n : ℕ) (lists : Lists). replace_list n lists line (replicate n false) (named text whole t ∷ [])) count front
    ∙ same_events text whole k line (length (take k whole)) (replicate (length (take k whole)) false) (t ∷ []) (length-replicate (length (take k whole)) false)
    ∙ ap (λ (table : Table). replace (length table) text table line (replicate (length table) false) (t ∷ [])) (take-map entry_of k ds)
    ∙ ap (λ (n : ℕ). replace n text (table_of (take k ds)) line (replicate n false) (t ∷ [])) (length-map (take k ds) entry_of)

-- a list more
pub more_lists : (text : List ℕ) (whole : Table) (ds : List Definition) (vs new : List (Vec Named Global)) (v : Vec Named Global) (i : ℕ) (d : Definition) → lists_of vs ≡ looked_up text whole (table_of (take i ds)) → i < length ds → v.items ≡ map (named text whole) (get_or ds i d).list.now → new ≡ vs ++ v ∷ [] → lists_of new ≡ looked_up text whole (table_of (take (i + 1) ds))
more_lists text whole ds vs new v i d l h e n =
    ap lists_of n ∙ map-append (λ (x : Vec Named Global). x.items) vs (v ∷ [])
    ∙ ap₂ (λ (xs : Lists) (x : List Named). xs ++ x ∷ []) l e
    ∙ sym (ap (λ (xs : List Definition). looked_up text whole (table_of xs)) (take_more ds i d h)
    ∙ ap (looked_up text whole) (map-append entry_of (take i ds) (get_or ds i d ∷ []))
    ∙ map-append (λ (x : List ℕ × List Tok). map (named text whole) x.1) (table_of (take i ds)) (entry_of (get_or ds i d) ∷ []))

pub all_lists : (text : List ℕ) (ds : List Definition) (vs : List (Vec Named Global)) (i : ℕ) → lists_of vs ≡ looked_up text (table_of ds) (table_of (take i ds)) → length ds ≤ i → lists_of vs ≡ looked_up text (table_of ds) (table_of ds)
all_lists text ds vs i l h = l ∙ ap (λ (xs : List Definition). looked_up text (table_of ds) (table_of xs)) (take_all i ds h)
