-- The loop that replaces the names of the tokens outside directives.
use Rattle.std.proofs.Common.{ℕ, zero, suc, ◌+◌, ◌<◌, ◌≤◌, ◌≡◌, Bool, false, Option, Some, None, Result, Ok, Err, List, [], ◌∷◌, ◌++◌, length, take, drop, get_or, replicate, arith, ap, ap₂, sym, ◌∙◌, refl, append-nil, drop-cons, add-one}
use Rattle.std.specs.Prelude.{All}
use Rattle.std.specs.List.{flat_map}
use Rattle.std.proofs.lemmas.List.{drop_all, length-map, length-take}
use Rattle.std.specs.declared.vec.Vec.{Vec}
use Rattle.std.specs.declared.alloc.Global.{Global}
use Rattle.c_pre.specs.declared.names.Named.{Named}
use Rattle.c_pre.specs.LookedUp.{named, looked_up, lists_of, replace_list}
use Rattle.c_pre.proofs.LookingUp.{lists_count, same_item}
use Rattle.c_token.specs.declared.token.Tok.{Tok}
use Rattle.c_pre.specs.declared.PreError.{PreError}
use Rattle.c_pre.specs.declared.PreError.TheVariants as error
use Rattle.c_pre.specs.declared.program.Free.{Free}
use Rattle.c_pre.specs.declared.replace.Output.{Output}
use Rattle.c_pre.specs.declared.directive.Definition.{Definition}
use Rattle.c_pre.specs.Directive.{Table, table_of, entry_of}
use Rattle.c_pre.specs.Replace.{Event, events_of, replace, limited, with_tokens, total, Unless}
use Rattle.c_pre.specs.Items.{items, first_word, first_bad, free_tokens, free_view, or_else, judged, program_of, Walks, IsFree, IsWordOf, IsError, events}
use Rattle.c_pre.proofs.Walking.{map_front}

-- what is left of the tokens outside directives, after the first `i` of them
abbrev pub Finishes : List ℕ → List Definition → List Free → Output → ℕ → Type 0
Finishes text ds fs output i =
    All (IsFree (length ds)) fs × (limited 262144 (events text (table_of ds) fs) ≡ total output (events text (table_of ds) (drop i fs)))

with_nothing : (r : Result (List Tok) PreError) → with_tokens [] r ≡ r
with_nothing (Ok ts) = refl
with_nothing (Err e) = refl

pub finishes_first : (text : List ℕ) (ds : List Definition) (fs : List Free) (output : Output) → All (IsFree (length ds)) fs → output.tokens.items ≡ [] → output.room ≡ 262144 → Finishes text ds fs output 0
finishes_first text ds fs output a e r =
    (a, sym (ap₂ (λ (ts : List Tok) (n : ℕ). with_tokens ts (limited n (events text (table_of ds) fs))) e r ∙ with_nothing (limited 262144 (events text (table_of ds) fs))))

known_length : (ds : List Definition) (k : ℕ) → k ≤ length ds → length (take k (table_of ds)) ≡ length (take k ds)
known_length ds k h = ap length (map_front k ds) ∙ length-map (take k ds) entry_of

-- the events of one token, as the code replaces it
pub one_item : (text : List ℕ) (ds : List Definition) (f : Free) → f.known ≤ length ds → events_of text (take f.known (table_of ds), f.line, f.token.now) ≡ replace (length (take f.known ds)) text (table_of (take f.known ds)) f.line (replicate (length (take f.known ds)) false) f.token.now
one_item text ds f h = ap₂ (λ (n : ℕ) (table : Table). replace n text table f.line (replicate n false) f.token.now) (known_length ds f.known h) (map_front f.known ds)

next_item : (text : List ℕ) (ds : List Definition) (fs : List Free) (i : ℕ) (d : Free) → i < length fs → events text (table_of ds) (drop i fs) ≡ events_of text (take (get_or fs i d).known (table_of ds), (get_or fs i d).line, (get_or fs i d).token.now) ++ events text (table_of ds) (drop (i + 1) fs)
next_item text ds fs i d h =
    ap (events text (table_of ds)) (drop-cons fs i d h)
    ∙ ap (λ k. events_of text (take (get_or fs i d).known (table_of ds), (get_or fs i d).line, (get_or fs i d).token.now) ++ events text (table_of ds) (drop k fs)) (sym (add-one i))

pub finishes_on : (text : List ℕ) (ds : List Definition) (fs : List Free) (old new : Output) (i : ℕ) (d : Free) (made : List Event) → Finishes text ds fs old i → i < length fs → made ≡ replace (length (take (get_or fs i d).known ds)) text (table_of (take (get_or fs i d).known ds)) (get_or fs i d).line (replicate (length (take (get_or fs i d).known ds)) false) (get_or fs i d).token.now → ((es : List Event) → total old (made ++ es) ≡ total new es) → Finishes text ds fs new (i + 1)
finishes_on text ds fs old new i d made k h m p = (
  k.0,
  k.1 ∙ ap (total old) (next_item text ds fs i d h)
      ∙ ap (λ xs. total old (xs ++ events text (table_of ds) (drop (i + 1) fs))) (one_item text ds (get_or fs i d) (k.0 i d h).1 ∙ sym m)
      ∙ p (events text (table_of ds) (drop (i + 1) fs)),
)

pub finishes_end : (text : List ℕ) (ds : List Definition) (fs : List Free) (output : Output) (i : ℕ) → Finishes text ds fs output i → length fs ≤ i → limited 262144 (events text (table_of ds) fs) ≡ Ok output.tokens.items
unfolding limited
finishes_end text ds fs output i k h =
    k.1 ∙ ap (λ (xs : List Free). total output (events text (table_of ds) xs)) (drop_all i fs h) ∙ ap Ok (append-nil output.tokens.items)

-- what the walk found decides

pub decided_word : (text : List ℕ) (raw : List Tok) (e : PreError) → IsWordOf e (first_word text (items text raw 0 [])) → IsError e (program_of text raw)
decided_word text raw error.NoMemory w = tt
decided_word text raw (error.Word l) w = ap (λ o. judged o (first_bad (items text raw 0 [])) (limited 262144 (flat_map (events_of text) (free_tokens (items text raw 0 []))))) w
decided_word text raw (error.Directive l) w = absurd w
decided_word text raw (error.Tokens l) w = absurd w

no_word_left : (text : List ℕ) → first_word text [] ≡ None
unfolding first_word
no_word_left text = refl

no_bad_left : first_bad [] ≡ None
unfolding first_bad
no_bad_left = refl

no_token_left : free_tokens [] ≡ []
unfolding free_tokens
no_token_left = refl

or_none : (o : Option ℕ) → or_else o None ≡ o
or_none None = refl
or_none (Some l) = refl

-- no word is excluded: a bad line decides, or the limit
pub decided : (text : List ℕ) (raw : List Tok) (table : Table) (fs : List Free) (wrong : Option ℕ) → Walks text (items text raw 0 []) table fs wrong [] → program_of text raw ≡ judged None wrong (limited 262144 (events text table fs))
decided text raw table fs wrong w =
    ap₂ (λ o b. judged o b (limited 262144 (flat_map (events_of text) (free_tokens (items text raw 0 []))))) (w.0 ∙ no_word_left text) (w.1 ∙ ap (or_else wrong) no_bad_left ∙ or_none wrong)
    ∙ ap (λ xs. judged None wrong (limited 262144 (flat_map (events_of text) xs))) (w.2 ∙ ap (λ xs. free_view table fs ++ xs) no_token_left ∙ append-nil (free_view table fs))

pub decided_bad : (text : List ℕ) (raw : List Tok) (table : Table) (fs : List Free) (wrong : Option ℕ) (l : ℕ) → Walks text (items text raw 0 []) table fs wrong [] → wrong ≡ Some l → program_of text raw ≡ Err (error.Directive l)
decided_bad text raw table fs wrong l w e = decided text raw table fs wrong w ∙ ap (λ o. judged None o (limited 262144 (events text table fs))) e

pub decided_good : (text : List ℕ) (raw : List Tok) (table : Table) (fs : List Free) (wrong : Option ℕ) → Walks text (items text raw 0 []) table fs wrong [] → wrong ≡ None → program_of text raw ≡ limited 262144 (events text table fs)
decided_good text raw table fs wrong w e = decided text raw table fs wrong w ∙ ap (λ o. judged None o (limited 262144 (events text table fs))) e

stopped : (text : List ℕ) (ds : List Definition) (fs : List Free) (old : Output) (i : ℕ) (d : Free) (made : List Event) (x : PreError) → Finishes text ds fs old i → i < length fs → made ≡ replace (length (take (get_or fs i d).known ds)) text (table_of (take (get_or fs i d).known ds)) (get_or fs i d).line (replicate (length (take (get_or fs i d).known ds)) false) (get_or fs i d).token.now → ((es : List Event) → total old (made ++ es) ≡ Err x) → limited 262144 (events text (table_of ds) fs) ≡ Err x
stopped text ds fs old i d made x k h m p =
    k.1 ∙ ap (total old) (next_item text ds fs i d h)
    ∙ ap (λ xs. total old (xs ++ events text (table_of ds) (drop (i + 1) fs))) (one_item text ds (get_or fs i d) (k.0 i d h).1 ∙ sym m)
    ∙ p (events text (table_of ds) (drop (i + 1) fs))

pub finishes_stop : (text : List ℕ) (ds : List Definition) (fs : List Free) (old : Output) (i : ℕ) (d : Free) (made : List Event) (x : PreError) → Finishes text ds fs old i → i < length fs → made ≡ replace (length (take (get_or fs i d).known ds)) text (table_of (take (get_or fs i d).known ds)) (get_or fs i d).line (replicate (length (take (get_or fs i d).known ds)) false) (get_or fs i d).token.now → Unless x ((es : List Event) → total old (made ++ es) ≡ Err x) → IsError x (limited 262144 (events text (table_of ds) fs))
finishes_stop text ds fs old i d made error.NoMemory k h m p = tt
finishes_stop text ds fs old i d made (error.Word l) k h m p = stopped text ds fs old i d made (error.Word l) k h m p
finishes_stop text ds fs old i d made (error.Directive l) k h m p = stopped text ds fs old i d made (error.Directive l) k h m p
finishes_stop text ds fs old i d made (error.Tokens l) k h m p = stopped text ds fs old i d made (error.Tokens l) k h m p

-- the token of an item, its name looked up

alone : (xs : List Tok) (d : Tok) → length xs ≡ 1 → get_or xs 0 d ∷ [] ≡ xs
alone [] d h = absurd (omega arith)
alone (x ∷ []) d h = refl
alone (x ∷ y ∷ xs) d h = absurd (omega arith)

pub made_of_item : (text : List ℕ) (ds : List Definition) (fs : List Free) (i : ℕ) (f : Free) (vs held : List (Vec Named Global)) (w : Named) (d : Tok) → All (IsFree (length ds)) fs → i < length fs → lists_of vs ≡ looked_up text (table_of ds) (table_of ds) → held ≡ vs → w ≡ named text (table_of ds) (get_or (get_or fs i f).token.now 0 d) → replace_list (length (take (get_or fs i f).known held)) (lists_of (take (get_or fs i f).known held)) (get_or fs i f).line (replicate (length (take (get_or fs i f).known held)) false) (w ∷ []) ≡ replace (length (take (get_or fs i f).known ds)) text (table_of (take (get_or fs i f).known ds)) (get_or fs i f).line (replicate (length (take (get_or fs i f).known ds)) false) (get_or fs i f).token.now
made_of_item text ds fs i f vs held w d a h e v n =
    let g = get_or fs i f in
    ap₂ (λ (xs : List (Vec Named Global)) (x : Named). replace_list (length (take g.known xs)) (lists_of (take g.known xs)) g.line (replicate (length (take g.known xs)) false) (x ∷ [])) v n
    ∙ same_item text ds vs g.known g.line (get_or g.token.now 0 d) e
    ∙ ap (replace (length (take g.known ds)) text (table_of (take g.known ds)) g.line (replicate (length (take g.known ds)) false)) (alone g.token.now d (a i f h).0)

-- the marks of the definitions that are known at an item

front_marks : {A : Type 0} (k n : ℕ) (vs : List A) → length vs ≡ n → take k (replicate n false) ≡ replicate (length (take k vs)) false
front_marks zero n vs h = refl
front_marks (suc k) zero [] h = refl
front_marks (suc k) (suc n) [] h = absurd (omega arith)
front_marks (suc k) zero (v ∷ vs) h = absurd (omega arith)
front_marks (suc k) (suc n) (v ∷ vs) h = ap (λ bs. false ∷ bs) (front_marks k n vs (omega arith))

pub marks_at_item : (text : List ℕ) (ds : List Definition) (vs held : List (Vec Named Global)) (k : ℕ) (busy marks : List Bool) → lists_of vs ≡ looked_up text (table_of ds) (table_of ds) → held ≡ vs → busy ≡ replicate (length ds) false → marks ≡ busy → take k marks ≡ replicate (length (take k held)) false
marks_at_item text ds vs held k busy marks e v b m =
    ap (take k) (m ∙ b) ∙ front_marks k (length ds) vs (lists_count text ds vs e) ∙ ap (λ (xs : List (Vec Named Global)). replicate (length (take k xs)) false) (sym v)

filled : (k n : ℕ) → k ≤ n → replicate k false ++ drop k (replicate n false) ≡ replicate n false
filled zero n h = refl
filled (suc k) zero h = absurd (omega arith)
filled (suc k) (suc n) h = ap (λ bs. false ∷ bs) (filled k n (omega arith))

pub marks_after_item : (text : List ℕ) (ds : List Definition) (vs held : List (Vec Named Global)) (k : ℕ) (busy given : List Bool) → lists_of vs ≡ looked_up text (table_of ds) (table_of ds) → held ≡ vs → busy ≡ replicate (length ds) false → k ≤ length ds → given ≡ replicate (length (take k held)) false → given ++ drop k busy ≡ replicate (length ds) false
marks_after_item text ds vs held k busy given e v b h g =
    let count : length (take k held) ≡ k = omega (arith, length-take k held, ap length v, lists_count text ds vs e, h) in
    ap₂ (λ (xs ys : List Bool). xs ++ drop k ys) (g ∙ ap (λ j. replicate j false) count) b ∙ filled k (length ds) h
