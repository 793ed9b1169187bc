-- Rules one behind the other, and the names that are held behind them.
use Rattle.std.proofs.Common.{ℕ, Bool, true, false, if◌then◌else◌, List, Option, Some, None, Result, Ok, Err}
use Rattle.type_rules.specs.Faults.{Kind, Fault, Tests, first_broken}
use Rattle.type_rules.specs.Known.{Known, Rule, told, tried, wanted, go_on}
use Rattle.program_laws.specs.Named.{Held, Stays}

pub stays_given : {A : Type 0} {whose : List ℕ} (x : A) (k : Known) → Held whose k → Stays whose (Ok (x, k))
unfolding Stays
stays_given x k held = held

pub stays_broken : (A : Type 0) (whose : List ℕ) (fault : Fault) → Stays {A = A} whose (Err fault)
unfolding Stays
stays_broken A whose fault = tt

pub stays_on : {A B : Type 0} (whose : List ℕ) (r : Result (A × Known) Fault) (second : A → Rule B) → Stays whose r → ((x : A) (k : Known) → Held whose k → Stays whose (second x k)) → Stays whose (go_on second r)
unfolding Stays
stays_on whose (Ok x) second h more = more x.0 x.1 h
stays_on whose (Err fault) second h more = tt

-- the body of a function, and what follows it
pub stays_over : {A B : Type 0} (whose outside : List ℕ) (r : Result (A × Known) Fault) (second : A → Rule B) → Stays whose r → ((x : A) (k : Known) → Held whose k → Stays outside (second x k)) → Stays outside (go_on second r)
unfolding Stays
stays_over whose outside (Ok x) second h more = more x.0 x.1 h
stays_over whose outside (Err fault) second h more = tt

-- tests, and nothing behind them
stays_told : (whose : List ℕ) (found : Option Kind) (line : ℕ) (known : Known) → Held whose known → Stays whose (told found line known)
unfolding Stays
stays_told whose None line known held = held
stays_told whose (Some kind) line known held = tt

pub stays_tests : (whose : List ℕ) (tests : Tests) (line : ℕ) (known : Known) → Held whose known → Stays whose (tried tests line known)
stays_tests whose tests line known held = stays_told whose (first_broken tests) line known held

stays_behind : {B : Type 0} (whose : List ℕ) (found : Option Kind) (line : ℕ) (known : Known) (second : Known → Rule B) → Stays whose (second known known) → Stays whose (go_on second (told found line known))
unfolding Stays
stays_behind whose None line known second h = h
stays_behind whose (Some kind) line known second h = tt

pub stays_tried : {B : Type 0} (whose : List ℕ) (tests : Tests) (line : ℕ) (known : Known) (second : Known → Rule B) → Stays whose (second known known) → Stays whose (go_on second (tried tests line known))
stays_tried whose tests line known second h = stays_behind whose (first_broken tests) line known second h

pub stays_wanted : {A B : Type 0} (whose : List ℕ) (kind : Kind) (line : ℕ) (found : Option A) (known : Known) (second : A → Rule B) → ((x : A) → Stays whose (second x known)) → Stays whose (go_on second (wanted kind line found known))
unfolding Stays
stays_wanted whose kind line None known second more = tt
stays_wanted whose kind line (Some x) known second more = more x

-- one rule or another
pub stays_if : {A : Type 0} (whose : List ℕ) (b : Bool) (first second : Rule A) (known : Known) → Stays whose (first known) → Stays whose (second known) → Stays whose ((if b then first else second) known)
stays_if whose true first second known f g = f
stays_if whose false first second known f g = g
