-- The walk over a text's tokens: what stands at a place, and what the code keeps.
use Rattle.std.proofs.Common.{ℕ, zero, suc, ◌+◌, ◌-◌, ◌<◌, ◌≤◌, ◌≡◌, Bool, true, false, cond, Option, Some, None, Result, Ok, Err, List, [], ◌∷◌, ◌++◌, length, take, drop, get_or, arith, ap, ap₂, sym, ◌∙◌, subst, refl, append_assoc, drop-cons, add-one, length-drop}
use Rattle.std.specs.Prelude.{All}
use Rattle.std.proofs.lemmas.List.{drop_all, drop-drop, take_all, map-append, length-map}
use Rattle.c_token.specs.declared.token.Tok.{Tok}
use Rattle.c_pre.specs.declared.PreError.{PreError}
use Rattle.c_pre.specs.declared.PreError.TheVariants as error
use Rattle.c_pre.specs.declared.program.Free.{Free}
use Rattle.c_pre.specs.declared.directive.Definition.{Definition}
use Rattle.c_pre.specs.Words.{is_hash}
use Rattle.c_pre.specs.Directive.{Table, table_of, entry_of, line_of}
use Rattle.c_pre.specs.Items.{Item, Outside, Bad, after_line, line_length, items, first_excluded, or_else, first_word, first_bad, free_tokens, free_view, Takes, Walks, IsWordOf, IsFree}

-- a front of a longer front
take_shorter : {A : Type 0} (k n : ℕ) (xs : List A) → k ≤ n → take k (take n xs) ≡ take k xs
take_shorter zero n xs h = refl
take_shorter (suc k) zero xs h = absurd (omega arith)
take_shorter (suc k) (suc n) [] h = refl
take_shorter (suc k) (suc n) (x ∷ xs) h = ap (λ ys. x ∷ ys) (take_shorter k n xs (omega arith))

pub items_passed : (text : List ℕ) (ts : List Tok) (n : ℕ) (table : Table) → items text ts n table ≡ items text (drop n ts) 0 table
unfolding items
items_passed text ts zero table = refl
items_passed text [] (suc n) table = refl
items_passed text (t ∷ ts) (suc n) table = items_passed text ts n table

here : (raw : List Tok) (at : ℕ) (d : Tok) → at < length raw → drop at raw ≡ get_or raw at d ∷ drop (at + 1) raw
here raw at d h = drop-cons raw at d h ∙ ap (λ k. get_or raw at d ∷ drop k raw) (sym (add-one at))

pub item_outside : (text : List ℕ) (raw : List Tok) (at : ℕ) (d : Tok) (table : Table) → at < length raw → is_hash (get_or raw at d).kind ≡ false → items text (drop at raw) 0 table ≡ Outside table (get_or raw at d) ∷ items text (drop (at + 1) raw) 0 table
unfolding items
item_outside text raw at d table h e =
    let t = get_or raw at d in
    let ts = drop (at + 1) raw in
    ap (λ xs. items text xs 0 table) (here raw at d h)
    ∙ ap (λ b. cond b (after_line text (items text ts (line_length ts)) table t.line (line_of text (take (line_length ts) ts))) (Outside table t ∷ items text ts 0 table)) e

pub item_line : (text : List ℕ) (raw : List Tok) (at : ℕ) (d : Tok) (table : Table) → at < length raw → is_hash (get_or raw at d).kind ≡ true → items text (drop at raw) 0 table ≡ after_line text (items text (drop (at + 1) raw) (line_length (drop (at + 1) raw))) table (get_or raw at d).line (line_of text (take (line_length (drop (at + 1) raw)) (drop (at + 1) raw)))
unfolding items
item_line text raw at d table h e =
    let t = get_or raw at d in
    let ts = drop (at + 1) raw in
    ap (λ xs. items text xs 0 table) (here raw at d h)
    ∙ ap (λ b. cond b (after_line text (items text ts (line_length ts)) table t.line (line_of text (take (line_length ts) ts))) (Outside table t ∷ items text ts 0 table)) e

word_outside : (text : List ℕ) (table : Table) (t : Tok) (is : List Item) → first_word text (Outside table t ∷ is) ≡ or_else (first_excluded text (t ∷ [])) (first_word text is)
unfolding first_word
word_outside text table t is = refl

bad_outside : (table : Table) (t : Tok) (is : List Item) → first_bad (Outside table t ∷ is) ≡ first_bad is
unfolding first_bad
bad_outside table t is = refl

free_outside : (table : Table) (t : Tok) (is : List Item) → free_tokens (Outside table t ∷ is) ≡ (table, t.line, t ∷ []) ∷ free_tokens is
unfolding free_tokens
free_outside table t is = refl

word_bad : (text : List ℕ) (line : ℕ) (is : List Item) → first_word text (Bad line ∷ is) ≡ first_word text is
unfolding first_word
word_bad text line is = refl

bad_bad : (line : ℕ) (is : List Item) → first_bad (Bad line ∷ is) ≡ Some line
unfolding first_bad
bad_bad line is = refl

free_bad : (line : ℕ) (is : List Item) → free_tokens (Bad line ∷ is) ≡ free_tokens is
unfolding free_tokens
free_bad line is = refl

pub just_one : (raw : List Tok) (at : ℕ) (d : Tok) → at < length raw → take (at + 1 - at) (drop at raw) ≡ get_or raw at d ∷ []
just_one raw at d h = ap₂ (λ n xs. take n xs) (let s : at + 1 - at ≡ 1 = omega arith in s) (here raw at d h)

whole_table : (ds : List Definition) → take (length ds) (table_of ds) ≡ table_of ds
whole_table ds = take_all (length ds) (table_of ds) (omega (arith, length-map ds entry_of))

-- a token outside directives was taken
pub walks_outside : (text : List ℕ) (raw : List Tok) (all : List Item) (ds : List Definition) (fs new : List Free) (f : Free) (wrong : Option ℕ) (at : ℕ) (d : Tok) → Walks text all (table_of ds) fs wrong (items text (drop at raw) 0 (table_of ds)) → at < length raw → is_hash (get_or raw at d).kind ≡ false → first_excluded text (take (at + 1 - at) (drop at raw)) ≡ None → new ≡ fs ++ f ∷ [] → f.token.now ≡ take (at + 1 - at) (drop at raw) → f.line ≡ (get_or raw at d).line → f.known ≡ length ds → Walks text all (table_of ds) new wrong (items text (drop (at + 1) raw) 0 (table_of ds))
walks_outside text raw all ds fs new f wrong at d w h k none e token line known =
    let t = get_or raw at d in
    let rest = items text (drop (at + 1) raw) 0 (table_of ds) in
    let i = item_outside text raw at d (table_of ds) h k in
    let view : free_view (table_of ds) new ≡ free_view (table_of ds) fs ++ (table_of ds, t.line, t ∷ []) ∷ [] =
    ap (free_view (table_of ds)) e ∙ map-append (λ (g : Free). (take g.known (table_of ds), g.line, g.token.now)) fs (f ∷ [])
    ∙ ap (λ x. free_view (table_of ds) fs ++ x ∷ []) (ap₂ (λ n l. (take n (table_of ds), l, f.token.now)) known line ∙ ap₂ (λ (a : Table) (b : List Tok). (a, t.line, b)) (whole_table ds) (token ∙ just_one raw at d h)) in (
      w.0 ∙ ap (first_word text) i ∙ word_outside text (table_of ds) t rest ∙ ap (λ o. or_else o (first_word text rest)) (ap (first_excluded text) (sym (just_one raw at d h)) ∙ none),
      w.1 ∙ ap (or_else wrong) (ap first_bad i ∙ bad_outside (table_of ds) t rest),
      w.2 ∙ ap (λ xs. free_view (table_of ds) fs ++ xs) (ap free_tokens i ∙ free_outside (table_of ds) t rest)
          ∙ sym (append_assoc (free_view (table_of ds) fs) ((table_of ds, t.line, t ∷ []) ∷ []) (free_tokens rest))
          ∙ ap (λ xs. xs ++ free_tokens rest) (sym view),
    )

-- the tokens so far have the same definitions when more come
pub view_grows : (fs : List Free) (old new : Table) (n : ℕ) → take n new ≡ old → All (λ f. f.known ≤ n) fs → free_view old fs ≡ free_view new fs
view_grows [] old new n e a = refl
view_grows (f ∷ fs) old new n e a =
    ap₂ (λ (x : Table) (xs : List (Table × ℕ × List Tok)). (x, f.line, f.token.now) ∷ xs)
    (ap (take f.known) (sym e) ∙ take_shorter f.known n new (a 0 f (omega arith)))
    (view_grows fs old new n e (λ k x h. a (suc k) x (omega arith)))

line_end : (raw : List Tok) (at n : ℕ) → drop n (drop (at + 1) raw) ≡ drop (at + (1 + n)) raw
line_end raw at n = drop-drop n (at + 1) raw ∙ ap (λ k. drop k raw) (omega arith)

-- a good directive line was taken
pub walks_good : (text : List ℕ) (raw : List Tok) (all : List Item) (old new : Table) (fs : List Free) (wrong : Option ℕ) (at n : ℕ) (d : Tok) → Walks text all old fs wrong (items text (drop at raw) 0 old) → at < length raw → is_hash (get_or raw at d).kind ≡ true → n ≡ line_length (drop (at + 1) raw) → Takes text (line_of text (take n (drop (at + 1) raw))) old new (Ok true) → free_view old fs ≡ free_view new fs → Walks text all new fs wrong (items text (drop (at + (1 + n)) raw) 0 new)
walks_good text raw all old new fs wrong at n d w h k e takes view =
    let again = λ (t : Table). items text (drop (at + 1) raw) n t in
    let i : items text (drop at raw) 0 old ≡ after_line text again old (get_or raw at d).line (line_of text (take n (drop (at + 1) raw))) =
    item_line text raw at d old h k ∙ ap (λ m. after_line text (items text (drop (at + 1) raw) m) old (get_or raw at d).line (line_of text (take m (drop (at + 1) raw)))) (sym e) in
    let later : again new ≡ items text (drop (at + (1 + n)) raw) 0 new = items_passed text (drop (at + 1) raw) n new ∙ ap (λ xs. items text xs 0 new) (line_end raw at n) in
    let s = takes again (get_or raw at d).line in (
      w.0 ∙ ap (first_word text) i ∙ s.0 ∙ ap (first_word text) later,
      w.1 ∙ ap (or_else wrong) (ap first_bad i ∙ s.1 ∙ ap first_bad later),
      w.2 ∙ ap₂ (λ xs ys. xs ++ ys) view (ap free_tokens i ∙ s.2 ∙ ap free_tokens later),
    )

once_bad : (wrong : Option ℕ) (line : ℕ) (later : Option ℕ) → or_else wrong (Some line) ≡ or_else (or_else wrong (Some line)) later
once_bad None line later = refl
once_bad (Some l) line later = refl

-- a bad directive line was taken
pub walks_bad : (text : List ℕ) (raw : List Tok) (all : List Item) (old new : Table) (fs : List Free) (wrong : Option ℕ) (at n : ℕ) (d : Tok) → Walks text all old fs wrong (items text (drop at raw) 0 old) → at < length raw → is_hash (get_or raw at d).kind ≡ true → n ≡ line_length (drop (at + 1) raw) → Takes text (line_of text (take n (drop (at + 1) raw))) old new (Ok false) → free_view old fs ≡ free_view new fs → Walks text all new fs (or_else wrong (Some (get_or raw at d).line)) (items text (drop (at + (1 + n)) raw) 0 new)
walks_bad text raw all old new fs wrong at n d w h k e takes view =
    let again = λ (t : Table). items text (drop (at + 1) raw) n t in
    let line = (get_or raw at d).line in
    let later : again new ≡ items text (drop (at + (1 + n)) raw) 0 new = items_passed text (drop (at + 1) raw) n new ∙ ap (λ xs. items text xs 0 new) (line_end raw at n) in
    let i : items text (drop at raw) 0 old ≡ Bad line ∷ items text (drop (at + (1 + n)) raw) 0 new =
    item_line text raw at d old h k ∙ ap (λ m. after_line text (items text (drop (at + 1) raw) m) old line (line_of text (take m (drop (at + 1) raw)))) (sym e) ∙ takes again line ∙ ap (λ xs. Bad line ∷ xs) later in
    let rest = items text (drop (at + (1 + n)) raw) 0 new in (
      w.0 ∙ ap (first_word text) i ∙ word_bad text line rest,
      w.1 ∙ ap (or_else wrong) (ap first_bad i ∙ bad_bad line rest) ∙ once_bad wrong line (first_bad rest),
      w.2 ∙ ap₂ (λ xs ys. xs ++ ys) view (ap free_tokens i ∙ free_bad line rest),
    )

-- an excluded word stands in a directive line
pub walks_word : (text : List ℕ) (raw : List Tok) (all : List Item) (old new : Table) (fs : List Free) (wrong : Option ℕ) (at n : ℕ) (d : Tok) (l : ℕ) → Walks text all old fs wrong (items text (drop at raw) 0 old) → at < length raw → is_hash (get_or raw at d).kind ≡ true → n ≡ line_length (drop (at + 1) raw) → Takes text (line_of text (take n (drop (at + 1) raw))) old new (Err (error.Word l)) → first_word text all ≡ Some l
walks_word text raw all old new fs wrong at n d l w h k e takes =
    let again = λ (t : Table). items text (drop (at + 1) raw) n t in
    let line = (get_or raw at d).line in
    w.0 ∙ ap (first_word text) (item_line text raw at d old h k ∙ ap (λ m. after_line text (items text (drop (at + 1) raw) m) old line (line_of text (take m (drop (at + 1) raw)))) (sym e)) ∙ takes again line

-- an excluded word stands outside directives
pub walks_outside_word : (text : List ℕ) (raw : List Tok) (all : List Item) (table : Table) (fs : List Free) (wrong : Option ℕ) (at : ℕ) (d : Tok) (l : ℕ) → Walks text all table fs wrong (items text (drop at raw) 0 table) → at < length raw → is_hash (get_or raw at d).kind ≡ false → first_excluded text (take (at + 1 - at) (drop at raw)) ≡ Some l → first_word text all ≡ Some l
walks_outside_word text raw all table fs wrong at d l w h k some =
    let t = get_or raw at d in
    let rest = items text (drop (at + 1) raw) 0 table in
    w.0 ∙ ap (first_word text) (item_outside text raw at d table h k) ∙ word_outside text table t rest ∙ ap (λ o. or_else o (first_word text rest)) (ap (first_excluded text) (sym (just_one raw at d h)) ∙ some)

-- all tokens were taken
pub walks_end : (text : List ℕ) (raw : List Tok) (all : List Item) (table : Table) (fs : List Free) (wrong : Option ℕ) (at : ℕ) → Walks text all table fs wrong (items text (drop at raw) 0 table) → length raw ≤ at → Walks text all table fs wrong []
unfolding items
walks_end text raw all table fs wrong at w h =
    let e = drop_all at raw h in
    subst (λ (xs : List Tok). Walks text all table fs wrong (items text xs 0 table)) e w

tail_whole : (raw : List Tok) (n : ℕ) → take (length raw - n) (drop n raw) ≡ drop n raw
tail_whole raw n = take_all (length raw - n) (drop n raw) (omega (arith, length-drop n raw))

-- what the code says of a line, for the lemmas above
counted : (raw : List Tok) (at n : ℕ) → n ≡ line_length (take (length raw - (at + 1)) (drop (at + 1) raw)) → n ≡ line_length (drop (at + 1) raw)
counted raw at n e = e ∙ ap line_length (tail_whole raw (at + 1))

line_taken : (text : List ℕ) (raw : List Tok) (at n : ℕ) (old new : Table) (r : Result Bool PreError) → Takes text (line_of text (take (at + 1 + n - (at + 1)) (drop (at + 1) raw))) old new r → Takes text (line_of text (take n (drop (at + 1) raw))) old new r
line_taken text raw at n old new r t = subst (λ (k : ℕ). Takes text (line_of text (take k (drop (at + 1) raw))) old new r) (omega arith) t

pub walks_line : (text : List ℕ) (raw : List Tok) (all : List Item) (old new : Table) (fs : List Free) (wrong later : Option ℕ) (at n : ℕ) (d : Tok) (b : Bool) → Walks text all old fs wrong (items text (drop at raw) 0 old) → at < length raw → is_hash (get_or raw at d).kind ≡ true → n ≡ line_length (take (length raw - (at + 1)) (drop (at + 1) raw)) → Takes text (line_of text (take (at + 1 + n - (at + 1)) (drop (at + 1) raw))) old new (Ok b) → free_view old fs ≡ free_view new fs → later ≡ cond b wrong (or_else wrong (Some (get_or raw at d).line)) → Walks text all new fs later (items text (drop (at + (1 + n)) raw) 0 new)
walks_line text raw all old new fs wrong later at n d true w h k e t view l =
    subst (λ (o : Option ℕ). Walks text all new fs o (items text (drop (at + (1 + n)) raw) 0 new)) (sym l) (walks_good text raw all old new fs wrong at n d w h k (counted raw at n e) (line_taken text raw at n old new (Ok true) t) view)
walks_line text raw all old new fs wrong later at n d false w h k e t view l =
    subst (λ (o : Option ℕ). Walks text all new fs o (items text (drop (at + (1 + n)) raw) 0 new)) (sym l) (walks_bad text raw all old new fs wrong at n d w h k (counted raw at n e) (line_taken text raw at n old new (Ok false) t) view)

pub walks_line_error : (text : List ℕ) (raw : List Tok) (all : List Item) (old new : Table) (fs : List Free) (wrong : Option ℕ) (at n : ℕ) (d : Tok) (x : PreError) → Walks text all old fs wrong (items text (drop at raw) 0 old) → at < length raw → is_hash (get_or raw at d).kind ≡ true → n ≡ line_length (take (length raw - (at + 1)) (drop (at + 1) raw)) → Takes text (line_of text (take (at + 1 + n - (at + 1)) (drop (at + 1) raw))) old new (Err x) → IsWordOf x (first_word text all)
walks_line_error text raw all old new fs wrong at n d error.NoMemory w h k e t = tt
walks_line_error text raw all old new fs wrong at n d (error.Word l) w h k e t = walks_word text raw all old new fs wrong at n d l w h k (counted raw at n e) (line_taken text raw at n old new (Err (error.Word l)) t)
walks_line_error text raw all old new fs wrong at n d (error.Directive l) w h k e t = t
walks_line_error text raw all old new fs wrong at n d (error.Tokens l) w h k e t = t

pub walks_token_error : (text : List ℕ) (raw : List Tok) (all : List Item) (table : Table) (fs : List Free) (wrong : Option ℕ) (at : ℕ) (d : Tok) (x : PreError) → Walks text all table fs wrong (items text (drop at raw) 0 table) → at < length raw → is_hash (get_or raw at d).kind ≡ false → IsWordOf x (first_excluded text (take (at + 1 - at) (drop at raw))) → IsWordOf x (first_word text all)
walks_token_error text raw all table fs wrong at d error.NoMemory w h k e = tt
walks_token_error text raw all table fs wrong at d (error.Word l) w h k e = walks_outside_word text raw all table fs wrong at d l w h k e
walks_token_error text raw all table fs wrong at d (error.Directive l) w h k e = e
walks_token_error text raw all table fs wrong at d (error.Tokens l) w h k e = e

pub map_front : (n : ℕ) (ds : List Definition) → take n (table_of ds) ≡ table_of (take n ds)
map_front zero ds = refl
map_front (suc n) [] = refl
map_front (suc n) (x ∷ ds) = ap (λ xs. entry_of x ∷ xs) (map_front n ds)

pub view_kept : (fs : List Free) (ds new : List Definition) → take (length ds) new ≡ ds → All (IsFree (length ds)) fs → free_view (table_of ds) fs ≡ free_view (table_of new) fs
view_kept fs ds new e a = view_grows fs (table_of ds) (table_of new) (length ds) (map_front (length ds) new ∙ ap table_of e) (λ k x h. (a k x h).1)
