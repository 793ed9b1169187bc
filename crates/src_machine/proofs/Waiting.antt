-- The copies that wait, of the stack that the code has.
use Rattle.std.specs.Prelude.{get_or, take}
use Rattle.std.proofs.Common.{◌≡◌, ◌≤◌, ℕ, zero, suc, ◌-◌, length, arith, Bool, true, false, not, ◌&&◌, ◌||◌, List, [], ◌∷◌, ◌++◌, reverse, refl, sym, ap, ◌∙◌}
use Rattle.std.proofs.lemmas.List.{reverse-append}
use Rattle.src_machine.specs.Seen.{calls_from}
use Rattle.src_values.specs.Control.{Focus, Eval, Find, Holds, Found, Run, Past, Fetch, Skim, Write, PutBit, CopyRead, CopyWrite, Spell, Blank, Calls, Leaves, Compares, Over, callers, running}
use Rattle.src_values.specs.Objects.{is_among, same_copy}
use Rattle.src_values.specs.Seen.{frames_in, frames_behind, is_over, has_values}
use Rattle.src_values.specs.declared.control.Pending.{Pending}
use Rattle.src_values.specs.declared.control.Pending.TheVariants as frames
use Rattle.src_values.specs.declared.objects.CopyOf.{CopyOf}

-- whose the values on top are counts for nothing
pub callers_of_call : (x : Focus) (b : Bool) (k : List Pending) → callers (frames_behind x b k) ≡ callers (frames_in x k)
callers_of_call x false k = refl
callers_of_call x true [] = refl
callers_of_call x true (frames.In e got ∷ k) = refl
callers_of_call x true (frames.Value v ∷ k) = callers_of_call x true k
callers_of_call x true (frames.To place ∷ k) = refl
callers_of_call x true (frames.Doing code stage ∷ k) = refl
callers_of_call x true (frames.Before ss at ∷ k) = refl
callers_of_call x true (frames.Ended ∷ k) = refl
callers_of_call x true (frames.Returns copy ∷ k) = refl
callers_of_call x true (frames.Resumes copy ∷ k) = refl

no_one : (a b : Bool) → b ≡ (a && false) || b
no_one true b = refl
no_one false b = refl

one_first : (a b : Bool) → a || b ≡ (a && true) || b
one_first true b = refl
one_first false b = refl

pub among_running : (c d : CopyOf) (x : Focus) (more : List CopyOf) → is_among (running d x more) c ≡ (same_copy d c && not (is_over x)) || is_among more c
among_running c d Over more = no_one (same_copy d c) (is_among more c)
among_running c d (Eval e) more = one_first (same_copy d c) (is_among more c)
among_running c d (Find place) more = one_first (same_copy d c) (is_among more c)
among_running c d (Holds v) more = one_first (same_copy d c) (is_among more c)
among_running c d (Found spot) more = one_first (same_copy d c) (is_among more c)
among_running c d (Run t) more = one_first (same_copy d c) (is_among more c)
among_running c d Past more = one_first (same_copy d c) (is_among more c)
among_running c d (Fetch spot read) more = one_first (same_copy d c) (is_among more c)
among_running c d (Skim spot left byte) more = one_first (same_copy d c) (is_among more c)
among_running c d (Write spot v at) more = one_first (same_copy d c) (is_among more c)
among_running c d (PutBit register number v old) more = one_first (same_copy d c) (is_among more c)
among_running c d (CopyRead to from left) more = one_first (same_copy d c) (is_among more c)
among_running c d (CopyWrite to from byte left) more = one_first (same_copy d c) (is_among more c)
among_running c d (Spell spot text left) more = one_first (same_copy d c) (is_among more c)
among_running c d (Blank at left) more = one_first (same_copy d c) (is_among more c)
among_running c d Calls more = one_first (same_copy d c) (is_among more c)
among_running c d (Leaves v) more = one_first (same_copy d c) (is_among more c)
among_running c d (Compares v labels) more = one_first (same_copy d c) (is_among more c)

pub waits_by : (x : Focus) (top : Pending) (k : List Pending) (c : CopyOf) → is_among (callers (frames_in x (top ∷ k))) c ≡ calls_from x top c || is_among (callers (frames_in x k)) c
waits_by x (frames.In e got) k c = ap (λ ds. is_among ds c) (callers_of_call x (has_values got) k)
waits_by x (frames.Value v) k c = refl
waits_by x (frames.To place) k c = refl
waits_by x (frames.Doing code stage) k c = refl
waits_by x (frames.Before ss at) k c = refl
waits_by x frames.Ended k c = refl
waits_by x (frames.Returns d) k c = refl
waits_by x (frames.Resumes d) k c = among_running c d x _

-- below what is at hand and no caller in this copy
pub goes_below : (x : Focus) (top : Pending) (below : List Pending) (c : CopyOf) (b : Bool) → calls_from x top c ≡ false → is_among (callers (frames_in x (reverse (below ++ top ∷ [])))) c ≡ b → is_among (callers (frames_in x (reverse below))) c ≡ b
goes_below x top below c b other h =
    sym (ap (λ k. is_among (callers (frames_in x k)) c) (reverse-append below (top ∷ [])) ∙ waits_by x top (reverse below) c ∙ ap (λ y. y || is_among (callers (frames_in x (reverse below))) c) other) ∙ h

pub found_above : (x : Focus) (top : Pending) (below : List Pending) (c : CopyOf) (b : Bool) → calls_from x top c ≡ true → is_among (callers (frames_in x (reverse (below ++ top ∷ [])))) c ≡ b → true ≡ b
found_above x top below c b same h =
    sym (ap (λ k. is_among (callers (frames_in x k)) c) (reverse-append below (top ∷ [])) ∙ waits_by x top (reverse below) c ∙ ap (λ y. y || is_among (callers (frames_in x (reverse below))) c) same) ∙ h

last_at : (xs : List Pending) (n : ℕ) (x : Pending) → length xs ≡ suc n → x ≡ get_or xs n x → take n xs ++ x ∷ [] ≡ xs
last_at [] n x l e = absurd (omega (arith, l))
last_at (y ∷ []) zero x l e = ap (λ z. z ∷ []) e
last_at (y ∷ z ∷ zs) zero x l e = absurd (omega (arith, l))
last_at (y ∷ []) (suc n) x l e = absurd (omega (arith, l))
last_at (y ∷ z ∷ zs) (suc n) x l e = ap (λ r. y ∷ r) (last_at (z ∷ zs) n x (omega (arith, l)) e)

-- a list with its last frame apart
pub last_apart : (xs : List Pending) (x : Pending) → 1 ≤ length xs → x ≡ get_or xs (length xs - 1) x → take (length xs - 1) xs ++ x ∷ [] ≡ xs
last_apart xs x some e = last_at xs (length xs - 1) x (omega (arith, some)) e

pub waits_below : (x : Focus) (xs : List Pending) (top : Pending) (c : CopyOf) (b : Bool) → 1 ≤ length xs → top ≡ get_or xs (length xs - 1) top → calls_from x top c ≡ false
    → is_among (callers (frames_in x (reverse xs))) c ≡ b → is_among (callers (frames_in x (reverse (take (length xs - 1) xs)))) c ≡ b
waits_below x xs top c b some e other h =
    goes_below x top (take (length xs - 1) xs) c b other (ap (λ ys. is_among (callers (frames_in x (reverse ys))) c) (last_apart xs top some e) ∙ h)

pub waits_here : (x : Focus) (xs : List Pending) (top : Pending) (c : CopyOf) (b : Bool) → 1 ≤ length xs → top ≡ get_or xs (length xs - 1) top → calls_from x top c ≡ true
    → is_among (callers (frames_in x (reverse xs))) c ≡ b → true ≡ b
waits_here x xs top c b some e same h =
    found_above x top (take (length xs - 1) xs) c b same (ap (λ ys. is_among (callers (frames_in x (reverse ys))) c) (last_apart xs top some e) ∙ h)
