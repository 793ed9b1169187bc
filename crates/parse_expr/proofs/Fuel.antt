-- What may be read where brackets may still be entered, and where none may.
use Rattle.std.proofs.Common.{◌≡◌, ℕ, suc, ◌-◌, Option, None, Result, refl, sym, ap, subst, arith}
use Rattle.c_nodes.specs.Words.{Symbols}
use Rattle.parse_expr.specs.declared.error.ParseError.{ParseError}
use Rattle.parse_expr.specs.declared.error.ParseError.TheVariants as errors
use Rattle.parse_expr.specs.Reader.{Fails, Gives}
use Rattle.parse_expr.specs.Reading.{Inner, at, expr_by, cond_by, type_name_by, members_by, params_by, enumerators_by}

-- where reading gives nothing, an error that says so is right
pub fails : {Y : Type 0} (e : ParseError) (read : Option Y) → Fails {Y = ℕ} e None → read ≡ None → Fails e read
fails errors.NoMemory read h none = tt
fails (errors.Nesting line) read h none = h
fails (errors.Run line) read h none = h
fails (errors.Syntax line) read h none = none

pub gives : {X Y : Type 0} (view : X → Y) (result : Result X ParseError) (read other : Option Y) → read ≡ other → Gives view result other → Gives view result read
gives view result read other same h = subst (λ r. Gives view result r) (sym same) h

one_more : (n : ℕ) → (n ≡ 0 → ⊥) → n ≡ suc (n - 1)
one_more n h = omega (arith, h)

pub no_expr : (n : ℕ) (toks : Symbols) → n ≡ 0 → (at n).expr toks ≡ None
unfolding at
no_expr n toks h = rw h refl

pub no_size : (n : ℕ) (toks : Symbols) → n ≡ 0 → (at n).size toks ≡ None
unfolding at
no_size n toks h = rw h refl

pub no_type_name : (n : ℕ) (toks : Symbols) → n ≡ 0 → (at n).type_name toks ≡ None
unfolding at
no_type_name n toks h = rw h refl

pub no_members : (n : ℕ) (toks : Symbols) → n ≡ 0 → (at n).members toks ≡ None
unfolding at
no_members n toks h = rw h refl

pub no_params : (n : ℕ) (toks : Symbols) → n ≡ 0 → (at n).params toks ≡ None
unfolding at
no_params n toks h = rw h refl

pub no_enumerators : (n : ℕ) (toks : Symbols) → n ≡ 0 → (at n).enumerators toks ≡ None
unfolding at
no_enumerators n toks h = rw h refl

less : (n m : ℕ) → n ≡ suc m → at n ≡ record { expr = expr_by (at m); size = cond_by (at m); type_name = type_name_by (at m); members = members_by (at m); params = params_by (at m); enumerators = enumerators_by (at m) }
unfolding at
less n m h = rw h refl

pub less_expr : (n : ℕ) (toks : Symbols) → (n ≡ 0 → ⊥) → (at n).expr toks ≡ expr_by (at (n - 1)) toks
less_expr n toks h = ap (λ (i : Inner). i.expr toks) (less n (n - 1) (one_more n h))

pub less_size : (n : ℕ) (toks : Symbols) → (n ≡ 0 → ⊥) → (at n).size toks ≡ cond_by (at (n - 1)) toks
less_size n toks h = ap (λ (i : Inner). i.size toks) (less n (n - 1) (one_more n h))

pub less_type_name : (n : ℕ) (toks : Symbols) → (n ≡ 0 → ⊥) → (at n).type_name toks ≡ type_name_by (at (n - 1)) toks
less_type_name n toks h = ap (λ (i : Inner). i.type_name toks) (less n (n - 1) (one_more n h))

pub less_members : (n : ℕ) (toks : Symbols) → (n ≡ 0 → ⊥) → (at n).members toks ≡ members_by (at (n - 1)) toks
less_members n toks h = ap (λ (i : Inner). i.members toks) (less n (n - 1) (one_more n h))

pub less_params : (n : ℕ) (toks : Symbols) → (n ≡ 0 → ⊥) → (at n).params toks ≡ params_by (at (n - 1)) toks
less_params n toks h = ap (λ (i : Inner). i.params toks) (less n (n - 1) (one_more n h))

pub less_enumerators : (n : ℕ) (toks : Symbols) → (n ≡ 0 → ⊥) → (at n).enumerators toks ≡ enumerators_by (at (n - 1)) toks
less_enumerators n toks h = ap (λ (i : Inner). i.enumerators toks) (less n (n - 1) (one_more n h))
