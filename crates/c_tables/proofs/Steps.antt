-- Rules one behind the other and the calls that answer them: each path of `?`, tests of a node, and what has to be there.
use Rattle.std.proofs.Common.{◌≡◌, ℕ, Bool, true, false, [], ◌∷◌, Option, Some, None, Result, Ok, Err, refl, sym, ap, subst, ◌∙◌}
use Rattle.std.specs.Result.{IsErrAnd}
use Rattle.type_rules.specs.Faults as rule
use Rattle.type_rules.specs.Faults.{Fault, Tests}
use Rattle.type_rules.specs.Known.{Known, Rule, tried, wanted, go_on, ◌>>=◌}
use Rattle.c_tables.specs.Answers.{Refuses, Answers, Learns}
use Rattle.c_tables.specs.declared.error.CheckError.{CheckError}
use Rattle.c_tables.specs.declared.error.CheckError.TheVariants as errors

-- ---- one rule behind another

pub then_ok : {A B : Type 0} (first : Rule A) (second : A → Rule B) (known mid : Known) (a : A) (said : Result (B × Known) Fault) → first known ≡ Ok (a, mid) → second a mid ≡ said → (first >>= second) known ≡ said
then_ok first second known mid a said e rest = ap (go_on second) e ∙ rest

pub then_err : {A B : Type 0} (first : Rule A) (second : A → Rule B) (known : Known) (fault : Fault) → first known ≡ Err fault → (first >>= second) known ≡ Err fault
then_err first second known fault e = ap (go_on second) e

-- What the first rule refuses, the whole does.
pub then_refuses : {A B : Type 0} (first : Rule A) (second : A → Rule B) (known : Known) (e : CheckError) → Refuses e (first known) → Refuses e ((first >>= second) known)
then_refuses first second known errors.NoMemory h = h
then_refuses first second known (errors.Kind kind line) h = ap (go_on second) h

-- The first rule is met, and the call answers what follows it.
pub then_answers : {A B X : Type 0} (view : X → B) (result : Result X CheckError) (after : Known) (first : Rule A) (second : A → Rule B) (known mid : Known) (a : A) → first known ≡ Ok (a, mid) → Answers view result after (second a mid) → Answers view result after ((first >>= second) known)
then_answers view result after first second known mid a e h = subst (Answers view result after) (sym (ap (go_on second) e)) h

pub then_learns : {A : Type 0} (result : Result Unit CheckError) (after : Known) (first : Rule A) (second : A → Rule Known) (known mid : Known) (a : A) → first known ≡ Ok (a, mid) → Learns result after (second a mid) → Learns result after ((first >>= second) known)
then_learns result after first second known mid a e h = subst (Learns result after) (sym (ap (go_on second) e)) h

-- ---- what a call answers

pub answered : {A B : Type 0} (view : A → B) (result : Result A CheckError) (after : Known) (said : Result (B × Known) Fault) (x : A) → Answers view result after said → result ≡ Ok x → said ≡ Ok (view x, after)
answered view result after said x h e = subst (λ r. Answers view r after said) e h

pub unanswered : {A B : Type 0} (view : A → B) (result : Result A CheckError) (after : Known) (said : Result (B × Known) Fault) (fault : CheckError) → Answers view result after said → result ≡ Err fault → Refuses fault said
unanswered view result after said fault h e = subst (λ r. Answers view r after said) e h

pub learnt : (result : Result Unit CheckError) (after : Known) (said : Result (Known × Known) Fault) (x : Unit) → Learns result after said → result ≡ Ok x → said ≡ Ok (after, after)
learnt result after said x h e = subst (λ r. Learns r after said) e h

pub unlearnt : (result : Result Unit CheckError) (after : Known) (said : Result (Known × Known) Fault) (fault : CheckError) → Learns result after said → result ≡ Err fault → Refuses fault said
unlearnt result after said fault h e = subst (λ r. Learns r after said) e h

-- A call is refused, and `?` hands that on: so is the whole rule.
pub handed_on : {A B X : Type 0} (view : X → A) (result : Result X CheckError) (after : Known) (first : Rule A) (second : A → Rule B) (known : Known) (fault : CheckError) → Answers view result after (first known) → result ≡ Err fault → Refuses fault ((first >>= second) known)
handed_on view result after first second known fault h e = then_refuses first second known fault (unanswered view result after (first known) fault h e)

pub handed_on_test : {B : Type 0} (result : Result Unit CheckError) (after : Known) (first : Rule Known) (second : Known → Rule B) (known : Known) (fault : CheckError) → Learns result after (first known) → result ≡ Err fault → Refuses fault ((first >>= second) known)
handed_on_test result after first second known fault h e = then_refuses first second known fault (unlearnt result after (first known) fault h e)

-- A call is answered, and the call behind it answers what the rule goes on with.
pub goes_on : {A B X Y : Type 0} (view : X → A) (result : Result X CheckError) (mid : Known) (first : Rule A) (second : A → Rule B) (known : Known) (x : X) (shown : Y → B) (answer : Result Y CheckError) (after : Known) → Answers view result mid (first known) → result ≡ Ok x → Answers shown answer after (second (view x) mid) → Answers shown answer after ((first >>= second) known)
goes_on view result mid first second known x shown answer after h e rest = then_answers shown answer after first second known mid (view x) (answered view result mid (first known) x h e) rest

pub goes_on_test : {B Y : Type 0} (result : Result Unit CheckError) (mid : Known) (first : Rule Known) (second : Known → Rule B) (known : Known) (x : Unit) (shown : Y → B) (answer : Result Y CheckError) (after : Known) → Learns result mid (first known) → result ≡ Ok x → Answers shown answer after (second mid mid) → Answers shown answer after ((first >>= second) known)
goes_on_test result mid first second known x shown answer after h e rest = then_answers shown answer after first second known mid mid (learnt result mid (first known) x h e) rest

-- ---- the tests of a node

pub tried_none : (line : ℕ) (known : Known) → tried [] line known ≡ Ok (known, known)
tried_none line known = refl

pub tried_true : (broken : Bool) (kind : rule.Kind) (tests : Tests) (line : ℕ) (known : Known) → broken ≡ true → tried ((broken, kind) ∷ tests) line known ≡ Err (record { kind = kind; line = line })
tried_true true kind tests line known h = refl
tried_true false kind tests line known h = cc

pub tried_false : (broken : Bool) (kind : rule.Kind) (tests : Tests) (line : ℕ) (known : Known) → broken ≡ false → tried ((broken, kind) ∷ tests) line known ≡ tried tests line known
tried_false true kind tests line known h = cc
tried_false false kind tests line known h = refl

-- the same of a test with more behind it
pub then_tried_true : {B : Type 0} (broken : Bool) (kind : rule.Kind) (tests : Tests) (line : ℕ) (second : Known → Rule B) (known : Known) → broken ≡ true → (tried ((broken, kind) ∷ tests) line >>= second) known ≡ Err (record { kind = kind; line = line })
then_tried_true broken kind tests line second known h = ap (go_on second) (tried_true broken kind tests line known h)

pub then_tried_false : {B : Type 0} (broken : Bool) (kind : rule.Kind) (line : ℕ) (second : Known → Rule B) (known : Known) → broken ≡ false → (tried ((broken, kind) ∷ []) line >>= second) known ≡ second known known
then_tried_false broken kind line second known h = ap (go_on second) (tried_false broken kind [] line known h)

-- ---- what has to be there

pub wanted_some : {A : Type 0} (kind : rule.Kind) (line : ℕ) (found : Option A) (x : A) (known : Known) → found ≡ Some x → wanted kind line found known ≡ Ok (x, known)
wanted_some kind line found x known h = ap (λ o. wanted kind line o known) h

pub wanted_none : {A : Type 0} (kind : rule.Kind) (line : ℕ) (found : Option A) (known : Known) → found ≡ None → wanted kind line found known ≡ Err (record { kind = kind; line = line })
wanted_none kind line found known h = ap (λ o. wanted kind line o known) h

pub then_wanted_some : {A B : Type 0} (kind : rule.Kind) (line : ℕ) (found : Option A) (x : A) (second : A → Rule B) (known : Known) → found ≡ Some x → (wanted kind line found >>= second) known ≡ second x known
then_wanted_some kind line found x second known h = ap (λ o. (wanted kind line o >>= second) known) h

pub then_wanted_none : {A B : Type 0} (kind : rule.Kind) (line : ℕ) (found : Option A) (second : A → Rule B) (known : Known) → found ≡ None → (wanted kind line found >>= second) known ≡ Err (record { kind = kind; line = line })
then_wanted_none kind line found second known h = ap (λ o. (wanted kind line o >>= second) known) h

-- ---- memory that ran out

-- Where a rule can't be broken, a call that answers it and is refused ran out of memory.
pub out_of_memory : {A B : Type 0} (e : CheckError) (x : A × Known) (said : Result (B × Known) Fault) → Refuses e (Ok x) → Refuses e said
out_of_memory errors.NoMemory x said h = h
out_of_memory (errors.Kind kind line) x said h = cc

-- ---- `?` where the errors are of one type

pub passed_on : {B X : Type 0} (view : X → B) (result : Result X CheckError) (after : Known) (said : Result (B × Known) Fault) (e : CheckError) → IsErrAnd result (λ y. y ≡ e) → Refuses e said → Answers view result after said
passed_on view (Ok x) after said e h refuses = absurd h
passed_on view (Err y) after said e h refuses = subst (λ z. Refuses z said) (sym h) refuses

pub passed_on_test : (result : Result Unit CheckError) (after : Known) (said : Result (Known × Known) Fault) (e : CheckError) → IsErrAnd result (λ y. y ≡ e) → Refuses e said → Learns result after said
passed_on_test (Ok x) after said e h refuses = absurd h
passed_on_test (Err y) after said e h refuses = subst (λ z. Refuses z said) (sym h) refuses
