-- A program has few tokens: tokens left and names replaced are together at most 262,144.
use Rattle.std.proofs.Common.{◌≡◌, ℕ, zero, suc, ◌≤◌, List, [], ◌∷◌, length, Option, Some, None, Result, Ok, Err, refl, sym, ap, ◌∙◌, arith}
use Rattle.std.specs.Prelude.{IfOk}
use Rattle.std.specs.List.{flat_map}
use Rattle.std.specs.declared.alloc.Global.{Global}
use Rattle.std.specs.declared.vec.Vec.{Vec}
use Rattle.c_token.specs.declared.token.Tok.{Tok}
use Rattle.c_pre.specs.Items.{items, first_word, first_bad, free_tokens, judged, program_of, Gives}
use Rattle.c_pre.specs.Replace.{Event, Left, Replaced, events_of, with_token, limited}
use Rattle.c_pre.specs.declared.PreError.{PreError}

ok_is : {A E : Type 0} (r : Result A E) (x y : A) → r ≡ Ok x → r ≡ Ok y → x ≡ y
ok_is r x y here there = let both = sym here ∙ there in cc

limited_few : (room : ℕ) (es : List Event) (toks : List Tok) → limited room es ≡ Ok toks → length toks ≤ room
unfolding limited
limited_few room [] toks is = let none = ap length (ok_is (limited room []) [] toks refl is) in omega (arith, none)
limited_few zero (Left t ∷ es) toks is = absurd (cc)
limited_few zero (Replaced line ∷ es) toks is = absurd (cc)
limited_few (suc room) (Left t ∷ es) toks is = by (limited room es) (λ ts. limited_few room es ts) is
  where
    by : (r : Result (List Tok) PreError) → ((ts : List Tok) → r ≡ Ok ts → length ts ≤ room) → with_token t r ≡ Ok toks → length toks ≤ suc room
    by (Ok ts) few all = let low = few ts refl in let long = ap length (ok_is (with_token t (Ok ts)) (t ∷ ts) toks refl all) in omega (arith, low, long)
    by (Err e) few all = absurd (cc)
limited_few (suc room) (Replaced line ∷ es) toks is = let low = limited_few room es toks is in omega (arith, low)

judged_ok : (word bad : Option ℕ) (r : Result (List Tok) PreError) (toks : List Tok) → judged word bad r ≡ Ok toks → r ≡ Ok toks
judged_ok (Some line) bad r toks is = absurd (cc)
judged_ok None (Some line) r toks is = absurd (cc)
judged_ok None None r toks is = is

pub program_few : (text : List ℕ) (raw toks : List Tok) → program_of text raw ≡ Ok toks → length toks ≤ 262144
program_few text raw toks is =
    limited_few 262144 (flat_map (events_of text) (free_tokens (items text raw 0 []))) toks
    (judged_ok (first_word text (items text raw 0 [])) (first_bad (items text raw 0 [])) (limited 262144 (flat_map (events_of text) (free_tokens (items text raw 0 [])))) toks is)

pub few : (text : List ℕ) (raw : List Tok) (r : Result (Vec Tok Global) PreError) → Gives r (program_of text raw) → IfOk r (λ toks. length toks.items ≤ 262144)
few text raw (Ok toks) is = program_few text raw toks.items is
few text raw (Err e) is = _
