-- The terms that the code has, as pure data.
use Rattle.std.specs.Prelude.{◌≡◌, ℕ, IfOk}
use Rattle.std.specs.Global.{Global}
use Rattle.std.specs.Prelude.{Result}
use Rattle.std.specs.declared.alloc.AllocError.{AllocError}
use Rattle.std_alloc.specs.declared.rc.counts.Rc.{Rc}
use Rattle.value_terms.specs.declared.term.Node.{Node}
use Rattle.value_terms.specs.declared.term.Node.TheVariants.{Number, Place, Sum', One', Two', Three'}
use Rattle.value_terms.specs.Terms.{Term, Num, Atom, Plus, Apply, Join, Triple, Environment, value}

abbrev pub term_of : Node → Term
term_of (Number k) = Num k
term_of (Place kind number) = Atom kind number
term_of (Sum' f p t q r) = Plus f (term_of t) (term_of r)
term_of (One' op p t) = Apply op (term_of t)
term_of (Two' op p a q b) = Join op (term_of a) (term_of b)
term_of (Three' op p a q b r c) = Triple op (term_of a) (term_of b) (term_of c)

abbrev pub shown : Rc Node Global → Term
shown t = term_of t.value

-- what a builder answers is the term, unless memory runs out
abbrev pub Makes : Result (Rc Node Global) AllocError → Term → Type 0
Makes result t = IfOk result (λ made. shown made ≡ t)

-- .. and it has this value, whatever stands in the places
abbrev pub Values : Result (Rc Node Global) AllocError → (Environment → ℕ) → Type 0
Values result v = IfOk result (λ made. (e : Environment) → value e (shown made) ≡ v e)
