-- What readers take: laws that hold of every reader, and those of the smallest parts.
use Rattle.std.proofs.Common.{◌≡◌, ℕ, zero, suc, Bool, true, false, if◌then◌else◌, List, [], ◌∷◌, ◌++◌, length, map, Option, Some, None, refl, sym, ap, subst, ◌∙◌, append_assoc}
use Rattle.std.proofs.lemmas.Bool.{and_from}
use Rattle.std.proofs.lemmas.Option.{same_Some}
use Rattle.c_token.specs.declared.token.TokKind.{TokKind}
use Rattle.c_token.specs.declared.token.Keyword.{Keyword}
use Rattle.c_token.specs.declared.token.Punct.{Punct}
use Rattle.c_token.specs.declared.token.Punct.TheVariants as marks
use Rattle.c_nodes.specs.Words.{Symbol, Symbols, key, punct, flat, spelled_comma}
use Rattle.c_nodes.specs.Kinds.{is_punct, is_key, is_qualifier}
use Rattle.c_nodes.specs.Trees.{are_stars, are_pointers}
use Rattle.parse_expr.specs.Reader.{◌>>=◌, Reader, Step, symbol_at, punct_at, key_at, comma_on, comma_at, got, collect_on, collect, all_that, with_symbol, stars_at, pointers_at}
use Rattle.parse_expr.proofs.Knots.{ArePlain, Takes, Sound, SoundStep}
use Rattle.parse_expr.proofs.Plain.{punct_is, key_is}

-- ---- tokens taken one part behind the other

-- a list is what is spelled, and the rest
pub record Splits (toks spelling rest : Symbols) : Type 0 where
  pub is : toks ≡ spelling ++ rest

pub join : {toks a b middle rest : Symbols} → Splits toks a middle → Splits middle b rest → Splits toks (a ++ b) rest
join {toks} {a} {b} {middle} {rest} s t = record { is = s.is ∙ ap (λ (l : Symbols). a ++ l) t.is ∙ sym (append_assoc a b rest) }

-- the same, spelled otherwise
pub splits_as : {toks a b rest : Symbols} → Splits toks a rest → b ≡ a → Splits toks b rest
splits_as {toks} {a} {b} {rest} s e = subst (λ (l : Symbols). Splits toks l rest) (sym e) s

pub part : {A : Type 0} {spell : A → Symbols} {Is : A → Type 0} {toks : Symbols} {x : A × Symbols} → Takes spell Is toks x → Splits toks (spell x.0) x.1
part t = record { is = t.parts }

-- what a reader ends with
pub take : {A : Type 0} {spell : A → Symbols} {Is : A → Type 0} {toks rest : Symbols} {x : A × Symbols} (a : A) → Splits toks (spell a) rest → Is a → ArePlain rest → Some (a, rest) ≡ Some x → Takes spell Is toks x
take {A} {spell} {Is} {toks} {rest} {x} a split is plain e = subst (Takes spell Is toks) (same_Some (a, rest) x e) (record { parts = split.is; tree = is; plain = plain })

-- one token
pub one : (s : Symbol) (rest : Symbols) → Splits (s ∷ rest) (s ∷ []) rest
one s rest = record { is = refl }

pub taken_as : {A : Type 0} {spell : A → Symbols} {Is : A → Type 0} {x : A × Symbols} (s t : Symbol) (toks : Symbols) → s ≡ t → Takes spell Is (t ∷ toks) x → Takes spell Is (s ∷ toks) x
taken_as {A} {spell} {Is} {x} s t toks e takes = subst (λ (u : Symbol). Takes spell Is (u ∷ toks) x) (sym e) takes

-- what is more than asked of what was taken
pub weaken : {A : Type 0} {spell : A → Symbols} {Is As : A → Type 0} {toks : Symbols} {x : A × Symbols} → (Is x.0 → As x.0) → Takes spell Is toks x → Takes spell As toks x
weaken more t = record { parts = t.parts; tree = more t.tree; plain = t.plain }

-- ---- taking readers apart

pub bind_ok : {A B : Type 0} (r : Option A) (f : A → Option B) (y : B) → (r >>= f) ≡ Some y → (x : A) × (r ≡ Some x) × (f x ≡ Some y)
bind_ok (Some x) f y e = (x, refl, e)
bind_ok None f y e = absurd cc

-- a reader and what goes on with what it read
pub record Then {A B : Type 0} (spell : A → Symbols) (Is : A → Type 0) (toks : Symbols) (f : A × Symbols → Option B) (y : B) : Type 0 where
  pub read : A × Symbols
  pub takes : Takes spell Is toks read
  pub on : f read ≡ Some y

pub sound_then : {A B : Type 0} {spell : A → Symbols} {Is : A → Type 0} {r : Reader A} → Sound spell Is r → (toks : Symbols) → ArePlain toks → (f : A × Symbols → Option B) (y : B) → (r toks >>= f) ≡ Some y → Then spell Is toks f y
sound_then {r = r} sound toks plain f y e =
    let a = bind_ok (r toks) f y e in
    record { read = a.0; takes = sound toks plain a.0 a.1; on = a.2 }

-- a test, and what follows in both cases
pub cases_if : {A T : Type 0} (b : Bool) (p q y : A) → (b ≡ true → p ≡ y → T) → (b ≡ false → q ≡ y → T) → (if b then p else q) ≡ y → T
cases_if true p q y pass fail e = pass refl e
cases_if false p q y pass fail e = fail refl e

-- a part that may be missing, and what follows in both cases
pub cases_option : {A B T : Type 0} (r : Option A) (f : Option A → B) (y : B) → ((x : A) → r ≡ Some x → f (Some x) ≡ y → T) → (r ≡ None → f None ≡ y → T) → f r ≡ y → T
cases_option (Some x) f y some none e = some x refl e
cases_option None f y some none e = none refl e

pub got_ok : {A : Type 0} (r : Option (A × Symbols)) (x : A × Symbols) → got r ≡ Some (Some x) → r ≡ Some x
got_ok (Some z) x e = same_Some (Some z) (Some x) e
got_ok None x e = absurd cc

-- ---- one token

pub symbol_takes : (test : TokKind → Bool) → Sound (λ s. s ∷ []) (λ s. test s.kind ≡ true) (symbol_at test)
unfolding symbol_at
symbol_takes test [] plain x e = absurd cc
symbol_takes test (s ∷ rest) plain x e = cases_if (test s.kind) (Some (s, rest)) None (Some x)
    (λ is e2. take s (record { is = refl }) is plain.1 e2)
    (λ is e2. absurd cc) e

abbrev pub Nothing : {A : Type 0} → A → Type 0
Nothing a = Unit {0}

pub punct_takes : (p : Punct) → Sound (λ n. punct p n ∷ []) Nothing (punct_at p)
unfolding punct_at
punct_takes p [] plain x e = absurd cc
punct_takes p (s ∷ rest) plain x e = cases_if (is_punct p s.kind) (Some (s.line, rest)) None (Some x)
    (λ is e2. take s.line (record { is = ap (λ (t : Symbol). t ∷ rest) (punct_is p s plain.0 is) }) tt plain.1 e2)
    (λ is e2. absurd cc) e

pub key_takes : (w : Keyword) → Sound (λ n. key w n ∷ []) Nothing (key_at w)
unfolding key_at
key_takes w [] plain x e = absurd cc
key_takes w (s ∷ rest) plain x e = cases_if (is_key w s.kind) (Some (s.line, rest)) None (Some x)
    (λ is e2. take s.line (record { is = ap (λ (t : Symbol). t ∷ rest) (key_is w s plain.0 is) }) tt plain.1 e2)
    (λ is e2. absurd cc) e

-- a comma, or none
pub comma_takes : (toks : Symbols) → ArePlain toks → Takes spelled_comma Nothing toks (comma_at toks)
unfolding comma_at
comma_takes toks plain = elim (punct_at marks.Comma toks) as (λ q. punct_at marks.Comma toks ≡ q → Takes spelled_comma Nothing toks (comma_on toks q)) [
  | None ↦ λ is. record { parts = refl; tree = tt; plain = plain }
  | Some c ↦ λ is. let t = punct_takes marks.Comma toks plain c is in record { parts = t.parts; tree = tt; plain = t.plain }
] refl

-- ---- lists

abbrev pub Each : {A : Type 0} → (A → Type 0) → List A → Type 0
Each Is [] = Unit {0}
Each Is (x ∷ xs) = Is x × Each Is xs

abbrev pub spelled_all : {A : Type 0} → (A → Symbols) → List A → Symbols
spelled_all spell xs = flat (map spell xs)

pub collect_takes : {A : Type 0} (spell : A → Symbols) (Is : A → Type 0) (step : Step A) → SoundStep spell Is step → (n : ℕ) → Sound (spelled_all spell) (Each Is) (collect step n)
unfolding collect
collect_takes spell Is step sound zero toks plain x e = take [] (record { is = refl }) tt plain e
collect_takes spell Is step sound (suc n) toks plain x e =
    let a = bind_ok (step toks) (collect_on (collect step n) toks) x e in
    cases_option a.0 (collect_on (collect step n) toks) (Some x)
    (λ z is e2.
    let t = sound toks plain z (a.1 ∙ ap (λ o. Some o) is) in
    let l = sound_then (collect_takes spell Is step sound n) z.1 t.plain _ x e2 in
    take (z.0 ∷ l.read.0) (join (part t) (part l.takes)) (t.tree, l.takes.tree) l.takes.plain l.on)
    (λ is e2. take [] (record { is = refl }) tt plain e2) a.2

pub all_take : {A : Type 0} (spell : A → Symbols) (Is : A → Type 0) (step : Step A) → SoundStep spell Is step → Sound (spelled_all spell) (Each Is) (all_that step)
all_take spell Is step sound toks plain x e = collect_takes spell Is step sound (length toks) toks plain x e

-- ---- pointers

pub stars_take : (toks : Symbols) → ArePlain toks → Takes (λ ps. ps) (λ ps. are_stars ps ≡ true) toks (stars_at toks)
unfolding stars_at
stars_take [] plain = record { parts = refl; tree = refl; plain = tt }
stars_take (s ∷ rest) plain =
    let star = (if is_punct marks.Star s.kind then true else is_qualifier s.kind) in
    let r = stars_take rest plain.1 in
    elim star as (λ b. star ≡ b → Takes {A = Symbols} (λ ps. ps) (λ ps. are_stars ps ≡ true) (s ∷ rest) (if b then with_symbol s (stars_at rest) else ([], s ∷ rest))) [
      | true ↦ λ is. record { parts = ap (λ (l : Symbols). s ∷ l) r.parts; tree = and_from star (are_stars (stars_at rest).0) is r.tree; plain = r.plain }
      | false ↦ λ is. record { parts = refl; tree = refl; plain = plain }
    ] refl

pub pointers_take : (toks : Symbols) → ArePlain toks → Takes (λ ps. ps) (λ ps. are_pointers ps ≡ true) toks (pointers_at toks)
unfolding pointers_at
pointers_take [] plain = record { parts = refl; tree = refl; plain = tt }
pointers_take (s ∷ rest) plain =
    let star = is_punct marks.Star s.kind in
    let r = stars_take rest plain.1 in
    elim star as (λ b. star ≡ b → Takes {A = Symbols} (λ ps. ps) (λ ps. are_pointers ps ≡ true) (s ∷ rest) (if b then with_symbol s (stars_at rest) else ([], s ∷ rest))) [
      | true ↦ λ is. record { parts = ap (λ (l : Symbols). s ∷ l) r.parts; tree = and_from star (are_stars (stars_at rest).0) is r.tree; plain = r.plain }
      | false ↦ λ is. record { parts = refl; tree = refl; plain = plain }
    ] refl
