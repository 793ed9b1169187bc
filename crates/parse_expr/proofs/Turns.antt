-- One turn of the reader between `?` and `:`, over the code's fronts and what waits.
use Rattle.std.proofs.Common.{◌≡◌, ℕ, suc, ◌+◌, ◌-◌, List, [], ◌∷◌, ◌++◌, reverse, length, map, take, Option, Some, None, sym, ap, ◌∙◌, length-append, append-nil, arith}
use Rattle.std.proofs.lemmas.List.{map-append, reverse-append}
use Rattle.std.specs.Option.{option_to_list}
use Rattle.c_token.specs.declared.token.Tok.{Tok}
use Rattle.c_token.specs.declared.token.Punct.TheVariants as marks
use Rattle.c_nodes.specs.Words.{Symbols}
use Rattle.c_nodes.specs.Trees.{Tree}
use Rattle.c_nodes.specs.Lists.{chosen}
use Rattle.c_nodes.specs.Views.{binary_of}
use Rattle.parse_expr.specs.declared.error.ParseError.{ParseError}
use Rattle.parse_expr.specs.declared.front.Front.{Front}
use Rattle.parse_expr.specs.declared.front.Waiting.{Waiting}
use Rattle.parse_expr.specs.Reader.{Fails, punct_at, symbols_in}
use Rattle.parse_expr.specs.Reading.{at, tier_by}
use Rattle.parse_expr.specs.Waiting.{no_front, value_by, front_by, WaitingParts, with_choice, closed_by}
use Rattle.parse_expr.specs.WaitingViews.{front_of, waiting_of}
use Rattle.parse_expr.proofs.Whole.{left_to_read, at_first, at_question, at_value, at_end, at_colon, colon_err, nothing_waits}

-- the waiting choices and the one that is read are those that were entered, and what is left to read gives what the whole gives
abbrev pub Kept : ℕ → ℕ → List Waiting → Front → Symbols → Option (Tree × Symbols) → Type 0
Kept fuel left waiting front toks total = (left + length waiting + 1 ≡ fuel) × (left_to_read left (map waiting_of waiting) (front_of front) toks ≡ total)

pub first_turn : (n : ℕ) (waiting : List Waiting) (front : Front) (text : List ℕ) (toks : List Tok)
    → (n ≡ 0 → ⊥) → waiting ≡ [] → front_of front ≡ no_front → Kept n (n - 1) waiting front (symbols_in text toks) ((at n).expr (symbols_in text toks))
first_turn n waiting front text toks some none new =
    let s = symbols_in text toks in
    let shorter = ap length none in (
      omega (arith, some, shorter),
      ap (λ ws. left_to_read (n - 1) (map waiting_of ws) (front_of front) s) none ∙ ap (λ f. left_to_read (n - 1) [] f s) new ∙ at_first n text toks some,
    )

pub question_turn : (fuel n : ℕ) (waiting now : List Waiting) (w : Waiting) (front fresh : Front) (text : List ℕ) (rest after behind : List Tok) (c : Tree) (q : ℕ) (total : Option (Tree × Symbols))
    → (n ≡ 0 → ⊥) → tier_by (at n) 10 (symbols_in text rest) ≡ Some (c, symbols_in text after) → punct_at marks.Question (symbols_in text after) ≡ Some (q, symbols_in text behind)
    → waiting_of w ≡ record { front = front_of front; condition = c; question = q } → now ≡ waiting ++ w ∷ [] → front_of fresh ≡ no_front
    → Kept fuel n waiting front (symbols_in text rest) total → Kept fuel (n - 1) now fresh (symbols_in text behind) total
question_turn fuel n waiting now w front fresh text rest after behind c q total some read comes is pushed new kept =
    let v : WaitingParts = record { front = front_of front; condition = c; question = q } in
    let s = symbols_in text behind in
    let seen : map waiting_of now ≡ map waiting_of waiting ++ v ∷ [] = ap (map waiting_of) pushed ∙ map-append waiting_of waiting (w ∷ []) ∙ ap (λ x. map waiting_of waiting ++ x ∷ []) is in
    let longer = ap length pushed in
    let count = length-append waiting (w ∷ []) in
    let before = kept.0 in (
      omega (arith, some, before, longer, count),
      ap (λ ws. left_to_read (n - 1) ws (front_of fresh) s) seen ∙ ap (λ f. left_to_read (n - 1) (map waiting_of waiting ++ v ∷ []) f s) new
          ∙ at_question n (map waiting_of waiting) (front_of front) text rest after behind c q total some read comes kept.1,
    )

pub value_turn : (fuel n : ℕ) (waiting : List Waiting) (front more : Front) (text : List ℕ) (rest after behind : List Tok) (c : Tree) (total : Option (Tree × Symbols))
    → tier_by (at n) 10 (symbols_in text rest) ≡ Some (c, symbols_in text after) → punct_at marks.Question (symbols_in text after) ≡ None
    → value_by (at n) (front_of front) (chosen (front_of front).choices c) (symbols_in text after) ≡ front_by (at n) (front_of more) (symbols_in text behind)
    → Kept fuel n waiting front (symbols_in text rest) total → Kept fuel n waiting more (symbols_in text behind) total
value_turn fuel n waiting front more text rest after behind c total read none goes kept =
    (kept.0, at_value n (map waiting_of waiting) (front_of front) (front_of more) text rest after behind c total read none goes kept.1)

-- the last that waits
top_waits : (old now : List Waiting) (top : Waiting) → old ≡ now ++ option_to_list (Some top) → reverse (map waiting_of old) ≡ waiting_of top ∷ reverse (map waiting_of now)
top_waits old now top popped =
    ap (λ ws. reverse (map waiting_of ws)) popped ∙ ap reverse (map-append waiting_of now (top ∷ [])) ∙ reverse-append (map waiting_of now) (waiting_of top ∷ [])

-- nothing waits
pub none_left : (old now : List Waiting) (n : ℕ) → old ≡ now ++ option_to_list None → now ≡ take (n - 1) old → n ≡ 0 → old ≡ []
none_left old now n popped rest e =
    let m : n - 1 ≡ 0 = omega (arith, e) in
    popped ∙ append-nil now ∙ rest ∙ ap (λ k. take k old) m

-- its `:` is wanted
closing : (n : ℕ) (waiting below : List Waiting) (top : Waiting) (front : Front) (text : List ℕ) (rest after : List Tok) (c e : Tree) (total : Option (Tree × Symbols))
    → tier_by (at n) 10 (symbols_in text rest) ≡ Some (c, symbols_in text after) → punct_at marks.Question (symbols_in text after) ≡ None
    → value_by (at n) (front_of front) (chosen (front_of front).choices c) (symbols_in text after) ≡ Some (e, symbols_in text after)
    → waiting ≡ below ++ option_to_list (Some top) → left_to_read n (map waiting_of waiting) (front_of front) (symbols_in text rest) ≡ total
    → closed_by (suc n) (waiting_of top ∷ reverse (map waiting_of below)) e (symbols_in text after) ≡ total
closing n waiting below top front text rest after c e total read none whole popped so_far =
    ap (λ ws. closed_by (suc n) ws e (symbols_in text after)) (sym (top_waits waiting below top popped))
    ∙ at_end n (map waiting_of waiting) (front_of front) text rest after c e total read none whole so_far

pub colon_turn : (fuel n : ℕ) (waiting below : List Waiting) (top : Waiting) (front fresh : Front) (text : List ℕ) (rest after behind : List Tok) (c e : Tree) (k : ℕ) (total : Option (Tree × Symbols))
    → tier_by (at n) 10 (symbols_in text rest) ≡ Some (c, symbols_in text after) → punct_at marks.Question (symbols_in text after) ≡ None
    → value_by (at n) (front_of front) (chosen (front_of front).choices c) (symbols_in text after) ≡ Some (e, symbols_in text after)
    → waiting ≡ below ++ option_to_list (Some top) → punct_at marks.Colon (symbols_in text after) ≡ Some (k, symbols_in text behind)
    → front_of fresh ≡ with_choice (front_of top.front) (binary_of top.condition, top.question, e, k)
    → Kept fuel n waiting front (symbols_in text rest) total → Kept fuel (n + 1) below fresh (symbols_in text behind) total
colon_turn fuel n waiting below top front fresh text rest after behind c e k total read none whole popped comes new kept =
    let s = symbols_in text behind in
    let number : n + 1 ≡ suc n = omega arith in
    let shorter = ap length popped in
    let count = length-append below (top ∷ []) in
    let before = kept.0 in (
      omega (arith, before, shorter, count),
      ap (λ m. left_to_read m (map waiting_of below) (front_of fresh) s) number ∙ ap (λ f. left_to_read (suc n) (map waiting_of below) f s) new
          ∙ at_colon n (map waiting_of below) (waiting_of top) text after behind e k total comes (closing n waiting below top front text rest after c e total read none whole popped kept.1),
    )

pub colon_missing : (x : ParseError) (fuel n : ℕ) (waiting below : List Waiting) (top : Waiting) (front : Front) (text : List ℕ) (rest after : List Tok) (c e : Tree) (total : Option (Tree × Symbols))
    → tier_by (at n) 10 (symbols_in text rest) ≡ Some (c, symbols_in text after) → punct_at marks.Question (symbols_in text after) ≡ None
    → value_by (at n) (front_of front) (chosen (front_of front).choices c) (symbols_in text after) ≡ Some (e, symbols_in text after)
    → waiting ≡ below ++ option_to_list (Some top) → Fails x (punct_at marks.Colon (symbols_in text after))
    → Kept fuel n waiting front (symbols_in text rest) total → Fails x total
colon_missing x fuel n waiting below top front text rest after c e total read none whole popped missing kept =
    colon_err x n (map waiting_of below) (waiting_of top) (symbols_in text after) e total missing (closing n waiting below top front text rest after c e total read none whole popped kept.1)

pub last_turn : (fuel n : ℕ) (waiting : List Waiting) (front : Front) (text : List ℕ) (rest after : List Tok) (c e : Tree) (total : Option (Tree × Symbols))
    → tier_by (at n) 10 (symbols_in text rest) ≡ Some (c, symbols_in text after) → punct_at marks.Question (symbols_in text after) ≡ None
    → value_by (at n) (front_of front) (chosen (front_of front).choices c) (symbols_in text after) ≡ Some (e, symbols_in text after)
    → waiting ≡ [] → Kept fuel n waiting front (symbols_in text rest) total → total ≡ Some (e, symbols_in text after)
last_turn fuel n waiting front text rest after c e total read none whole empty kept =
    let s = symbols_in text after in
    nothing_waits (suc n) e s total (ap (λ ws. closed_by (suc n) (reverse (map waiting_of ws)) e s) (sym empty) ∙ at_end n (map waiting_of waiting) (front_of front) text rest after c e total read none whole kept.1)
