-- Of lists whose skips are paired the one behind the other is such a list.
use Rattle.std.proofs.Common.{◌≡◌, ℕ, zero, suc, Bool, true, false, ◌&&◌, ◌||◌, if◌then◌else◌, List, [], ◌∷◌, ◌++◌, is_none, refl}
use Rattle.core_code.specs.declared.code.Byte.{Byte}
use Rattle.select_wide.specs.Pieces.{rising}
use Rattle.sym_code.specs.declared.code.Sym.{Sym}
use Rattle.bank_page.specs.Kinds.{is_skip, byte_of}
use Rattle.program_code.specs.Paired.{is_steady, is_home, goes_quiet, goes_home, goes_alone, is_paired, are_paired}

pub both : (a b : Bool) → (a && b) ≡ true → (a ≡ true) × (b ≡ true)
both true b e = (refl, e)
both false b e = absurd (cc)

pub and_true : (a b : Bool) → a ≡ true → b ≡ true → (a && b) ≡ true
and_true true b e h = h
and_true false b e h = absurd (cc)

-- one of the last two of three holds
pub or_second : (a b d : Bool) → b ≡ true → (a || (b || d)) ≡ true
or_second true b d e = refl
or_second false true d e = refl
or_second false false d e = absurd (cc)

pub or_third : (a b d : Bool) → d ≡ true → (a || (b || d)) ≡ true
or_third true b d e = refl
or_third false true d e = refl
or_third false false d e = e

-- each side is carried over
and_on : (a b d : Bool) → (b ≡ true → d ≡ true) → (a && b) ≡ true → (a && d) ≡ true
and_on true b d f e = f e
and_on false b d f e = absurd (cc)

or_on : (a b c d x y : Bool) → (a ≡ true → d ≡ true) → (b ≡ true → x ≡ true) → (c ≡ true → y ≡ true) → (a || (b || c)) ≡ true → (d || (x || y)) ≡ true
or_on true b c d x y f g h e = by d (f refl) where
  by : (k : Bool) → k ≡ true → (k || (x || y)) ≡ true
  by true k = refl
  by false k = absurd (cc)
or_on false true c d x y f g h e = or_second d x y (g refl)
or_on false false c d x y f g h e = or_third d x y (h e)

if_on : (k a b : Bool) → (a ≡ true → b ≡ true) → (if k then a else true) ≡ true → (if k then b else true) ≡ true
if_on true a b f e = f e
if_on false a b f e = refl

-- ---- with more behind
quiet_on : (xs ys : List Sym) → goes_quiet xs ≡ true → goes_quiet (xs ++ ys) ≡ true
quiet_on [] ys e = absurd (cc)
quiet_on (s ∷ xs) ys e =
    and_on (is_steady s) (is_none (byte_of s) && (if is_skip s then goes_quiet xs else true)) (is_none (byte_of s) && (if is_skip s then goes_quiet (xs ++ ys) else true))
    (and_on (is_none (byte_of s)) (if is_skip s then goes_quiet xs else true) (if is_skip s then goes_quiet (xs ++ ys) else true) (if_on (is_skip s) (goes_quiet xs) (goes_quiet (xs ++ ys)) (quiet_on xs ys))) e

home_on : (home : Byte → Bool) (xs ys : List Sym) → goes_home home xs ≡ true → goes_home home (xs ++ ys) ≡ true
home_on home [] ys e = absurd (cc)
home_on home (s ∷ xs) ys e =
    and_on (is_steady s) (is_home home (byte_of s) && (if is_skip s then goes_home home xs else true)) (is_home home (byte_of s) && (if is_skip s then goes_home home (xs ++ ys) else true))
    (and_on (is_home home (byte_of s)) (if is_skip s then goes_home home xs else true) (if is_skip s then goes_home home (xs ++ ys) else true) (if_on (is_skip s) (goes_home home xs) (goes_home home (xs ++ ys)) (home_on home xs ys))) e

alone_on : (xs ys : List Sym) → goes_alone xs ≡ true → goes_alone (xs ++ ys) ≡ true
alone_on [] ys e = absurd (cc)
alone_on (s ∷ xs) ys e = e

paired_on : (home : Byte → Bool) (s : Sym) (xs ys : List Sym) → is_paired home s xs ≡ true → is_paired home s (xs ++ ys) ≡ true
paired_on home s xs ys e =
    and_on (is_steady s) (goes_quiet xs || (goes_home home (s ∷ xs) || (is_none (byte_of s) && goes_alone xs))) (goes_quiet (xs ++ ys) || (goes_home home (s ∷ xs ++ ys) || (is_none (byte_of s) && goes_alone (xs ++ ys))))
    (or_on (goes_quiet xs) (goes_home home (s ∷ xs)) (is_none (byte_of s) && goes_alone xs) (goes_quiet (xs ++ ys)) (goes_home home (s ∷ xs ++ ys)) (is_none (byte_of s) && goes_alone (xs ++ ys))
    (quiet_on xs ys) (home_on home (s ∷ xs) ys) (and_on (is_none (byte_of s)) (goes_alone xs) (goes_alone (xs ++ ys)) (alone_on xs ys))) e

module _ (home : Byte → Bool) where
  abbrev pub Paired : List Sym → Type 0
  Paired list = are_paired home list ≡ true

  pub joined : (xs ys : List Sym) → Paired xs → Paired ys → Paired (xs ++ ys)
  joined [] ys p q = q
  joined (s ∷ xs) ys p q =
      let parts = both (if is_skip s then is_paired home s xs else true) (are_paired home xs) p in
      and_true (if is_skip s then is_paired home s (xs ++ ys) else true) (are_paired home (xs ++ ys))
      (if_on (is_skip s) (is_paired home s xs) (is_paired home s (xs ++ ys)) (paired_on home s xs ys) parts.0) (joined xs ys parts.1 q)

  pub either : (b : Bool) (xs ys : List Sym) → Paired xs → Paired ys → Paired (if b then xs else ys)
  either true xs ys p q = p
  either false xs ys p q = q

  pub up : (code : ℕ → List Sym) → ((k : ℕ) → Paired (code k)) → (n : ℕ) → Paired (rising code n)
  up code p zero = refl
  up code p (suc k) = joined (rising code k) (code k) (up code p k) (p k)
