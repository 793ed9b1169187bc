-- Sums: terms in order, each once, with its factor, and a number at the end.
use Rattle.std.specs.Prelude.{ℕ, ◌+◌, ◌*◌, ◌%◌, ◌&&◌, nat_eq, nat_lt, if◌then◌else◌}
use Rattle.value_terms.specs.Terms.{Term, Num, Plus}
use Rattle.value_terms.specs.Equality.{same_term, rank, is_amount}

unfoldable pub simple : ℕ → Term → Term → Term
simple f t r = if nat_eq f 0 then r else Plus f t r

abbrev pub insert : ℕ → Term → Term → Term
insert f t (Plus g u s) =
    if same_term t u then simple ((f + g) % 256) t s else
    if nat_lt (rank t) (rank u) then Plus f t (Plus g u s) else Plus g u (insert f t s)
insert f t r = simple f t r

abbrev pub add_number : ℕ → Term → Term
add_number k (Num j) = Num ((k + j) % 256)
add_number k (Plus f t r) = Plus f t (add_number k r)
add_number k t = Plus 1 t (Num k)

abbrev pub as_sum : Term → Term
as_sum (Num k) = Num k
as_sum (Plus f t r) = Plus f t r
as_sum t = Plus 1 t (Num 0)

abbrev pub plus : ℕ → Term → Term → Term
plus f (Num k) r = add_number (f * k % 256) r
plus f (Plus g t s) r = plus (f * g % 256) t (plus f s r)
plus f t r = insert f t r

-- a sum of one term with the factor 1 is that term
abbrev pub tidy : Term → Term
tidy (Plus f t r) = if nat_eq f 1 && is_amount r 0 then t else Plus f t r
tidy t = t

-- f * a + b
unfoldable pub sum_of : ℕ → Term → Term → Term
sum_of f a b = tidy (plus f a (as_sum b))

-- 255 - a
unfoldable pub opposite : Term → Term
opposite a = sum_of 255 a (Num 255)

-- 1 - a
unfoldable pub negated : Term → Term
negated a = sum_of 255 a (Num 1)

-- the number of a sum, and the sum with 0 in its place
abbrev pub offset : Term → ℕ
offset (Num k) = k % 256
offset (Plus f t r) = offset r
offset t = 0

abbrev pub base : Term → Term
base (Num k) = Num 0
base (Plus f t r) = Plus f t (base r)
base t = Plus 1 t (Num 0)
