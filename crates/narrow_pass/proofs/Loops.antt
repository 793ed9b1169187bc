-- The loop that is so many loops out.
use Rattle.std.proofs.Common.{◌≡◌, ℕ, zero, suc, ◌+◌, ◌-◌, ◌<◌, ◌≤◌, true, List, [], ◌∷◌, ◌++◌, length, map, take, get_or, reverse, refl, sym, ap, ◌∙◌, subst, arith}
use Rattle.std.proofs.lemmas.List.{take_more, get_or-reverse, length-reverse, reverse-append, get_or-map, length-map}
use Rattle.narrow_code.specs.Checked.{Turn, all_below, may_exit, may_repeat}
use Rattle.narrow_code.specs.Marks.{Mark}
use Rattle.narrow_pass.specs.Ways.{marks_of, turn_of, turns_of}
use Rattle.narrow_pass.specs.declared.turns.Turn as kept

exits_past : (turns : List Turn) (n : ℕ) (here : List Mark) → length turns ≤ n → may_exit turns n here ≡ true
exits_past [] n here h = refl
exits_past (turn ∷ turns) zero here h = absurd (omega (arith, h))
exits_past (turn ∷ turns) (suc n) here h = exits_past turns n here (omega (arith, h))

repeats_past : (turns : List Turn) (n : ℕ) (here : List Mark) → length turns ≤ n → may_repeat turns n here ≡ true
repeats_past [] n here h = refl
repeats_past (turn ∷ turns) zero here h = absurd (omega (arith, h))
repeats_past (turn ∷ turns) (suc n) here h = repeats_past turns n here (omega (arith, h))

exits_at : (turns : List Turn) (n : ℕ) (d : Turn) (here : List Mark) → n < length turns → all_below (get_or turns n d).behind here ≡ true → may_exit turns n here ≡ true
exits_at [] n d here h e = absurd (omega (arith, h))
exits_at (turn ∷ turns) zero d here h e = e
exits_at (turn ∷ turns) (suc n) d here h e = exits_at turns n d here (omega (arith, h)) e

repeats_at : (turns : List Turn) (n : ℕ) (d : Turn) (here : List Mark) → n < length turns → all_below (get_or turns n d).front here ≡ true → may_repeat turns n here ≡ true
repeats_at [] n d here h e = absurd (omega (arith, h))
repeats_at (turn ∷ turns) zero d here h e = e
repeats_at (turn ∷ turns) (suc n) d here h e = repeats_at turns n d here (omega (arith, h)) e

long : (list : List kept.Turn) → length (turns_of list) ≡ length list
long list = length-reverse (map turn_of list) ∙ length-map list turn_of

-- the one at this place from the back
turn_is : (list : List kept.Turn) (n : ℕ) (t : kept.Turn) → n < length list → t ≡ get_or list (length list - 1 - n) t → turn_of t ≡ get_or (turns_of list) n (turn_of t)
turn_is list n t h e =
    let l = length-map list turn_of in
    ap turn_of e
    ∙ sym (get_or-map turn_of list (length list - 1 - n) t (turn_of t) (omega (arith, h)))
    ∙ ap (λ (m : ℕ). get_or (map turn_of list) (m - 1 - n) (turn_of t)) (sym l)
    ∙ sym (get_or-reverse (map turn_of list) n (turn_of t) (omega (arith, h, l)))

pub exit_past : (list : List kept.Turn) (n : ℕ) (here : List Mark) → length list ≤ n → may_exit (turns_of list) n here ≡ true
exit_past list n here h = exits_past (turns_of list) n here (omega (arith, h, long list))

pub repeat_past : (list : List kept.Turn) (n : ℕ) (here : List Mark) → length list ≤ n → may_repeat (turns_of list) n here ≡ true
repeat_past list n here h = repeats_past (turns_of list) n here (omega (arith, h, long list))

pub exit_at : (list : List kept.Turn) (n : ℕ) (t : kept.Turn) (here : List Mark) → n < length list → t ≡ get_or list (length list - 1 - n) t → all_below (marks_of t.behind.items) here ≡ true → may_exit (turns_of list) n here ≡ true
exit_at list n t here h e b =
    exits_at (turns_of list) n (turn_of t) here (omega (arith, h, long list)) (subst (λ (u : Turn). all_below u.behind here ≡ true) (turn_is list n t h e) b)

pub repeat_at : (list : List kept.Turn) (n : ℕ) (t : kept.Turn) (here : List Mark) → n < length list → t ≡ get_or list (length list - 1 - n) t → all_below (marks_of t.front.items) here ≡ true → may_repeat (turns_of list) n here ≡ true
repeat_at list n t here h e b =
    repeats_at (turns_of list) n (turn_of t) here (omega (arith, h, long list)) (subst (λ (u : Turn). all_below u.front here ≡ true) (turn_is list n t h e) b)

-- ---- one more loop
more_turns : (list : List kept.Turn) (x : kept.Turn) → map turn_of (list ++ x ∷ []) ≡ map turn_of list ++ turn_of x ∷ []
more_turns [] x = refl
more_turns (y ∷ list) x = ap (λ (l : List Turn). turn_of y ∷ l) (more_turns list x)

pub turns_more : (given made : List kept.Turn) (i : ℕ) (turn x : kept.Turn) → i < length given → turn ≡ get_or given i turn → turn_of x ≡ turn_of turn
    → map turn_of made ≡ map turn_of (take i given) → map turn_of (made ++ x ∷ []) ≡ map turn_of (take (i + 1) given)
turns_more given made i turn x below is same before =
    more_turns made x ∙ ap (λ (l : List Turn). l ++ turn_of x ∷ []) before ∙ ap (λ (b : Turn). map turn_of (take i given) ++ b ∷ []) same
    ∙ sym (more_turns (take i given) turn) ∙ ap (λ (b : kept.Turn). map turn_of (take i given ++ b ∷ [])) is ∙ sym (ap (λ (l : List kept.Turn). map turn_of l) (take_more given i turn below))

pub inside_is : (list made : List kept.Turn) (one turn : kept.Turn) → map turn_of made ≡ map turn_of list → turn_of one ≡ turn_of turn → turns_of (made ++ one ∷ []) ≡ turn_of turn ∷ turns_of list
inside_is list made one turn e f =
    ap (λ (l : List Turn). reverse l) (more_turns made one ∙ ap (λ (l : List Turn). l ++ turn_of one ∷ []) e) ∙ reverse-append (map turn_of list) (turn_of one ∷ [])
    ∙ ap (λ (t : Turn). t ∷ turns_of list) f
