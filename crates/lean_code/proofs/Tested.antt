-- What the tests of lists and notes tell.
use Rattle.std.proofs.Common.{◌≡◌, ℕ, zero, suc, Bool, true, false, not, ◌&&◌, ◌||◌, if◌then◌else◌, List, [], ◌∷◌, drop, Option, Some, None, option_map, refl, sym, ap, ◌∙◌, subst}
use Rattle.std.specs.Prelude.{nat_eq}
use Rattle.std.proofs.lemmas.Bool.{eqb-true}
use Rattle.std.proofs.lemmas.Option.{none-some}
use Rattle.sym_code.specs.declared.code.LiteralOperation.{LiteralOperation}
use Rattle.sym_code.specs.declared.code.LiteralOperation.TheVariants as literals
use Rattle.lean_code.specs.Rows as rows_of
use Rattle.lean_code.specs.Rows.{Facts, Apart, Note, Row, is_label, note_ahead}
use Rattle.lean_code.specs.Changes.{Ties, no_ties, shows, Weaker, CoversFlags, Aim, ToByte, Through, same_byte, other_byte, is_number}
use Rattle.lean_code.specs.Right.{Claims, Expects, ExpectsBy, Leads, PassesBoth, Passes, Same, Comes, Enters, with_flag}
use Rattle.lean_code.specs.Checked.{among, all_of, KnownByte, number_in, ListedFacts, ListedApart, ListedNote, ListedRow, Listed, facts_in, apart_in, note_in, rows_in, is_twin, gives_number, gives_known, gives_twins, gives, covers_flags, covers_bytes, same_number, claims, expects_by, expects, ahead, past, leads, passes_both, passes, comes, enters, same, same_side, same_operation, is_operation, all_known, all_twins}
use Rattle.lean_code.proofs.Lists.{never}
use Rattle.lean_code.proofs.Facts.{not_false}
use Rattle.lean_code.proofs.KeptRows.{flag_bytes}

-- ---- Bool
pub and_l : (a b : Bool) → (a && b) ≡ true → a ≡ true
and_l true b e = refl
and_l false b e = e

pub and_r : (a b : Bool) → (a && b) ≡ true → b ≡ true
and_r true b e = e
and_r false b e = never e

pub is_not : (a : Bool) → not a ≡ true → a ≡ false
is_not true e = never e
is_not false e = refl

pub not_both : (a b : Bool) → not (a && b) ≡ true → a ≡ true → b ≡ false
not_both true b e k = is_not b e
not_both false b e k = never k

pub or_not : (a b : Bool) → (a || not b) ≡ true → a ≡ false → b ≡ false
or_not true b e k = never (sym k)
or_not false b e k = is_not b e

pub not_or : (a b : Bool) → (not a || b) ≡ true → a ≡ true → b ≡ true
not_or true b e k = e
not_or false b e k = never k

pub sides : (a b : Bool) → same_side a b ≡ true → a ≡ b
sides true b e = sym e
sides false b e = sym (is_not b e)

-- ---- lists
pub all_is : (test : ℕ → Bool) (bs : List ℕ) → all_of test bs ≡ true → (a : ℕ) → among a bs ≡ true → test a ≡ true
all_is test [] e a k = never k
all_is test (b ∷ bs) e a k = by_case (nat_eq a b) refl (all_is test bs (and_r (test b) (all_of test bs) e) a) k
  where
    by_case : (c : Bool) → nat_eq a b ≡ c → (among a bs ≡ true → test a ≡ true) → (c || among a bs) ≡ true → test a ≡ true
    by_case true is more k = ap test (eqb-true a b is) ∙ and_l (test b) (all_of test bs) e
    by_case false is more k = more k

-- what isn't so of a byte that is listed isn't listed
pub all_not : (test : ℕ → Bool) (bs : List ℕ) → all_of test bs ≡ true → (a : ℕ) → test a ≡ false → among a bs ≡ false
all_not test bs e a k = not_false (among a bs) (λ h. sym k ∙ all_is test bs e a h)

pub number_is : (o : Option ℕ) (n : ℕ) → is_number o n ≡ true → o ≡ Some n
number_is None n e = never e
number_is (Some k) n e = ap Some (eqb-true k n e)

pub known_is : (has : ℕ → Option ℕ) (bs : List KnownByte) → gives_known has bs ≡ true → (a n : ℕ) → number_in a bs ≡ Some n → has a ≡ Some n
known_is has [] e a n k = absurd (none-some n k)
known_is has (b ∷ bs) e a n k = by_case (nat_eq a b.byte) refl (known_is has bs (and_r (is_number (has b.byte) b.number) (gives_known has bs) e) a n) k
  where
    by_case : (c : Bool) → nat_eq a b.byte ≡ c → (number_in a bs ≡ Some n → has a ≡ Some n) → (if c then Some b.number else number_in a bs) ≡ Some n → has a ≡ Some n
    by_case true is more k = ap has (eqb-true a b.byte is) ∙ number_is (has b.byte) b.number (and_l (is_number (has b.byte) b.number) (gives_known has bs) e) ∙ k
    by_case false is more k = more k

pub known_all : (test : ℕ → Bool) (bs : List KnownByte) → all_known test bs ≡ true → (a n : ℕ) → number_in a bs ≡ Some n → test a ≡ true
known_all test [] e a n k = absurd (none-some n k)
known_all test (b ∷ bs) e a n k = by_case (nat_eq a b.byte) refl (known_all test bs (and_r (test b.byte) (all_known test bs) e) a n) k
  where
    by_case : (c : Bool) → nat_eq a b.byte ≡ c → (number_in a bs ≡ Some n → test a ≡ true) → (if c then Some b.number else number_in a bs) ≡ Some n → test a ≡ true
    by_case true is more k = ap test (eqb-true a b.byte is) ∙ and_l (test b.byte) (all_known test bs) e
    by_case false is more k = more k

pub twins_is : (has : ℕ → ℕ → Bool) (bs : List KnownByte) → gives_twins has bs ≡ true → (a c : ℕ) → is_twin bs a c ≡ true → has a c ≡ true
twins_is has [] e a c k = never k
twins_is has (b ∷ bs) e a c k = by_case (nat_eq a b.byte) refl (twins_is has bs (and_r (has b.byte b.number) (gives_twins has bs) e) a c) k
  where
    by_case : (h : Bool) → nat_eq a b.byte ≡ h → (is_twin bs a c ≡ true → has a c ≡ true) → is_number (if h then Some b.number else number_in a bs) c ≡ true → has a c ≡ true
    by_case true is more k = ap (λ (i : ℕ). has i c) (eqb-true a b.byte is) ∙ ap (has b.byte) (sym (eqb-true b.number c k)) ∙ and_l (has b.byte b.number) (gives_twins has bs) e
    by_case false is more k = more k

pub twins_all : (test : ℕ → Bool) (bs : List KnownByte) → all_twins test bs ≡ true → (a c : ℕ) → is_twin bs a c ≡ true → (test a ≡ true) × (test c ≡ true)
twins_all test [] e a c k = never k
twins_all test (b ∷ bs) e a c k = by_case (nat_eq a b.byte) refl (twins_all test bs (and_r (test b.byte && test b.number) (all_twins test bs) e) a c) k
  where
    here : (test b.byte && test b.number) ≡ true
    here = and_l (test b.byte && test b.number) (all_twins test bs) e

    by_case : (h : Bool) → nat_eq a b.byte ≡ h → (is_twin bs a c ≡ true → (test a ≡ true) × (test c ≡ true)) → is_number (if h then Some b.number else number_in a bs) c ≡ true → (test a ≡ true) × (test c ≡ true)
    by_case true is more k = (ap test (eqb-true a b.byte is) ∙ and_l (test b.byte) (test b.number) here, ap test (sym (eqb-true b.number c k)) ∙ and_r (test b.byte) (test b.number) here)
    by_case false is more k = more k

-- ---- notes
pub gives_is : (f : Facts) (n : ListedFacts) → gives f n ≡ true → Weaker (facts_in n) f
gives_is f n e =
    let known = gives_known f.known n.known in
    let all_twins = gives_twins f.twin n.twins in
    let carry = not n.carry_bit || f.carry_bit in
    let last = not n.zero_bit || f.zero_bit in
    let bits = carry && last in
    let twins = all_twins && bits in
    let zero = not n.zero || f.zero in
    let one = and_r (gives_number f.number n.number) (all_of f.held n.held && (zero && (known && twins))) e in
    let two = and_r (all_of f.held n.held) (zero && (known && twins)) one in
    let three = and_r zero (known && twins) two in
    let four = and_r known twins three in
    let five = and_r all_twins bits four in
    record {
      number = number_of n.number (and_l (gives_number f.number n.number) (all_of f.held n.held && (zero && (known && twins))) e);
      held = λ a k. all_is f.held n.held (and_l (all_of f.held n.held) (zero && (known && twins)) one) a k;
      zero = λ k. not_or n.zero f.zero (and_l zero (known && twins) two) k;
      known = λ a i k. known_is f.known n.known (and_l known twins three) a i k;
      twin = λ a c k. twins_is f.twin n.twins (and_l all_twins bits four) a c k;
      carry_bit = λ k. not_or n.carry_bit f.carry_bit (and_l carry last five) k;
      zero_bit = λ k. not_or n.zero_bit f.zero_bit (and_r carry last five) k;
    }
  where
    number_of : (o : Option ℕ) → gives_number f.number o ≡ true → (i : ℕ) → o ≡ Some i → f.number ≡ Some i
    number_of None e i k = absurd (none-some i k)
    number_of (Some j) e i k = number_is f.number j e ∙ k

pub flags_are : (b : ListedApart) (d : Apart) → covers_flags b d ≡ true → CoversFlags (apart_in b) d
flags_are b d e =
    let one = and_r (b.w || not d.w) ((b.z || not d.z) && ((b.dc || not d.dc) && (b.c || not d.c))) e in
    let two = and_r (b.z || not d.z) ((b.dc || not d.dc) && (b.c || not d.c)) one in
    record {
      w = or_not b.w d.w (and_l (b.w || not d.w) ((b.z || not d.z) && ((b.dc || not d.dc) && (b.c || not d.c))) e);
      z = or_not b.z d.z (and_l (b.z || not d.z) ((b.dc || not d.dc) && (b.c || not d.c)) one);
      dc = or_not b.dc d.dc (and_l (b.dc || not d.dc) (b.c || not d.c) two);
      c = or_not b.c d.c (and_r (b.dc || not d.dc) (b.c || not d.c) two);
    }

-- all that may differ is among the candidates
abbrev pub Within : Apart → List ℕ → Type 0
Within d candidates = (a : ℕ) → d.bytes a ≡ true → among a candidates ≡ true

pub bytes_are : (b : List ℕ) (d : Apart) (candidates : List ℕ) → Within d candidates → covers_bytes b d.bytes candidates ≡ true → (a : ℕ) → among a b ≡ false → d.bytes a ≡ false
bytes_are b d candidates within e a k =
    not_false (d.bytes a) (λ h. sym k ∙ not_or (d.bytes a) (among a b) (all_is (λ j. not (d.bytes j) || among j b) candidates e a (within a h)) h)

numbers_are : (a b : Option ℕ) → same_number a b ≡ true → (j : ℕ) → a ≡ Some j → b ≡ Some j
numbers_are None b e = λ j h. absurd (none-some j h)
numbers_are (Some a) b e = λ j h. number_is b a e ∙ h

pub claims_are : (n : ListedNote) (number : Option ℕ) (t : Ties) → claims n number t ≡ true → Claims (note_in n) number t
claims_are n number t e =
    record { carry = numbers_are n.carry t.carry (and_l (same_number n.carry t.carry) (shows n.shown number t.shown) e); shown = and_r (same_number n.carry t.carry) (shows n.shown number t.shown) e }

pub expects_by_is : (c : Ties) (q : Option (Option ListedNote)) (f : Facts) (d : Apart) (candidates : List ℕ) → Within d candidates → expects_by c q f d candidates ≡ true → ExpectsBy c (option_map (option_map note_in) q) f d
expects_by_is c None f d candidates within e = tt
expects_by_is c (Some None) f d candidates within e = never e
expects_by_is c (Some (Some n)) f d candidates within e =
    let one = gives f n.facts in
    let two = covers_flags n.apart d in
    let three = covers_bytes n.apart.bytes d.bytes candidates in
    let four = claims n f.number c in
    let more = and_r one (two && (three && four)) e in
    let last = and_r two (three && four) more in (
      gives_is f n.facts (and_l one (two && (three && four)) e),
      record { flags = flags_are n.apart d (and_l two (three && four) more); bytes = bytes_are n.apart.bytes d candidates within (and_l three four last) },
      claims_are n f.number c (and_r three four last),
    )

pub expects_is : (q : Option (Option ListedNote)) (f : Facts) (d : Apart) (candidates : List ℕ) → Within d candidates → expects q f d candidates ≡ true → Expects (option_map (option_map note_in) q) f d
expects_is q f d candidates within e = expects_by_is no_ties q f d candidates within e

pub ahead_is : (rows : List ListedRow) → note_ahead (rows_in rows) ≡ option_map (option_map note_in) (ahead rows)
ahead_is [] = refl
ahead_is (Listed s act n ∷ rows) = by_case (is_label s) (ahead_is rows)
  where
    by_case : (c : Bool) → note_ahead (rows_in rows) ≡ option_map (option_map note_in) (ahead rows) → (if c then note_ahead (rows_in rows) else Some (option_map note_in n)) ≡ option_map (option_map note_in) (if c then ahead rows else Some n)
    by_case true e = e
    by_case false e = refl

pub past_is : (rows : List ListedRow) → rows_of.past (rows_in rows) ≡ rows_in (past rows)
past_is [] = refl
past_is (Listed s act n ∷ rows) = by_case (is_label s) (past_is rows)
  where
    by_case : (c : Bool) → rows_of.past (rows_in rows) ≡ rows_in (past rows) → (if c then rows_of.past (rows_in rows) else rows_in rows) ≡ rows_in (if c then past rows else rows)
    by_case true e = e
    by_case false e = refl

pub drop_is : (i : ℕ) (rows : List ListedRow) → drop i (rows_in rows) ≡ rows_in (drop i rows)
drop_is zero rows = refl
drop_is (suc i) [] = refl
drop_is (suc i) (row ∷ rows) = drop_is i rows

pub expects_at : (rows : List ListedRow) (f : Facts) (d : Apart) (candidates : List ℕ) → Within d candidates → expects (ahead rows) f d candidates ≡ true → Expects (note_ahead (rows_in rows)) f d
expects_at rows f d candidates within e = subst (λ (q : Option (Option Note)). Expects q f d) (sym (ahead_is rows)) (expects_is (ahead rows) f d candidates within e)

pub expects_by_at : (c : Ties) (rows : List ListedRow) (f : Facts) (d : Apart) (candidates : List ℕ) → Within d candidates → expects_by c (ahead rows) f d candidates ≡ true → ExpectsBy c (note_ahead (rows_in rows)) f d
expects_by_at c rows f d candidates within e = subst (λ (q : Option (Option Note)). ExpectsBy c q f d) (sym (ahead_is rows)) (expects_by_is c (ahead rows) f d candidates within e)

pub expects_past : (rows : List ListedRow) (f : Facts) (d : Apart) (candidates : List ℕ) → Within d candidates → expects (ahead (past rows)) f d candidates ≡ true → Expects (note_ahead (rows_of.past (rows_in rows))) f d
expects_past rows f d candidates within e = subst (λ (l : List Row). Expects (note_ahead l) f d) (sym (past_is rows)) (expects_at (past rows) f d candidates within e)

pub leads_is : (rest : List ListedRow) (way : Option Bool) (f : Facts) (d : Apart) (candidates : List ℕ) → Within d candidates → leads rest way f d candidates ≡ true → Leads (rows_in rest) way f d
leads_is rest (Some false) f d candidates within e = expects_at rest f d candidates within e
leads_is rest (Some true) f d candidates within e =
    let one = expects (ahead (past rest)) f d candidates in
    let keeps = rows_of.keeps_first (rows_in rest) in
    (expects_past rest f d candidates within (and_l one keeps e), and_r one keeps e)
leads_is rest None f d candidates within e =
    let one = expects (ahead rest) f d candidates in
    let two = expects (ahead (past rest)) f d candidates in
    let keeps = rows_of.keeps_first (rows_in rest) in
    let more = and_r one (two && keeps) e in
    record { runs = expects_at rest f d candidates within (and_l one (two && keeps) e); skips = expects_past rest f d candidates within (and_l two keeps more); keeps = and_r two keeps more }

expects_by_past : (c : Ties) (rest : List ListedRow) (f : Facts) (d : Apart) (candidates : List ℕ) → Within d candidates → expects_by c (ahead (past rest)) f d candidates ≡ true → ExpectsBy c (note_ahead (rows_of.past (rows_in rest))) f d
expects_by_past c rest f d candidates within e = subst (λ (l : List Row). ExpectsBy c (note_ahead l) f d) (sym (past_is rest)) (expects_by_at c (past rest) f d candidates within e)

pub passes_both_is : (on over : Ties) (rest : List ListedRow) (f : Facts) (d : Apart) (candidates : List ℕ) → Within d candidates → passes_both on over rest f d candidates ≡ true → PassesBoth on over (rows_in rest) f d
passes_both_is on over rest f d candidates within e =
    let one = expects_by on (ahead rest) f d candidates in
    let two = expects_by over (ahead (past rest)) f d candidates in
    let drops = rows_of.drops_first (rows_in rest) in
    let more = and_r one (two && drops) e in
    record {
      runs = expects_by_at on rest f d candidates within (and_l one (two && drops) e);
      skips = expects_by_past over rest f d candidates within (and_l two drops more);
      drops = and_r two drops more;
    }

pub passes_is : (c : Ties) (rest : List ListedRow) (way : Option Bool) (f : Facts) (d : Apart) (candidates : List ℕ) → Within d candidates → passes c rest way f d candidates ≡ true → Passes c (rows_in rest) way f d
passes_is c rest (Some false) f d candidates within e = expects_by_at c rest f d candidates within e
passes_is c rest (Some true) f d candidates within e =
    let one = expects_by c (ahead (past rest)) f d candidates in
    let drops = rows_of.drops_first (rows_in rest) in
    (expects_by_past c rest f d candidates within (and_l one drops e), and_r one drops e)
passes_is c rest None f d candidates within e = passes_both_is c c rest f d candidates within e

pub same_is : (hidden : ℕ → Bool) (a : Aim) (d : ListedApart) (outer : List ℕ) → same hidden a d.bytes outer ≡ true → Same hidden a (apart_in d) (λ j. among j outer)
same_is hidden (ToByte k) d outer e = (is_not (among k d.bytes) (and_l (not (among k d.bytes)) (not (among k outer)) e), is_not (among k outer) (and_r (not (among k d.bytes)) (not (among k outer)) e))
same_is hidden Through d outer e =
    λ a k. (all_not hidden d.bytes (and_l (all_of hidden d.bytes) (all_of hidden outer) e) a k, all_not hidden outer (and_r (all_of hidden d.bytes) (all_of hidden outer) e) a k)
same_is hidden a d outer e = tt

pub enters_is : (q : Option (Option ListedNote)) (n : ListedNote) → enters q n ≡ true → Enters (option_map (option_map note_in) q) (note_in n)
enters_is None n e = tt
enters_is (Some None) n e = never e
enters_is (Some (Some k)) n e =
    let one = gives (facts_in n.facts) k.facts in
    let two = covers_flags k.apart (apart_in n.apart) in
    let three = claims k None no_ties in
    let more = and_r one (two && three) e in
    (gives_is (facts_in n.facts) k.facts (and_l one (two && three) e), flags_are k.apart (apart_in n.apart) (and_l two three more), claims_are k None no_ties (and_r two three more))

pub comes_is : (q : Option (Option ListedNote)) (k : ListedNote) (across : List ℕ) → comes q k across ≡ true → Comes (option_map (option_map note_in) q) (note_in k) (λ a. among a across)
comes_is None k across e = tt
comes_is (Some None) k across e = never e
comes_is (Some (Some n)) k across e =
    let one = gives (facts_in k.facts) n.facts in
    let two = covers_flags n.apart (apart_in k.apart) in
    let three = all_of (λ a. among a n.apart.bytes) k.apart.bytes in
    let four = all_of (λ a. among a n.apart.bytes) across in
    let five = claims n None no_ties in
    let more = and_r one (two && (three && (four && five))) e in
    let last = and_r two (three && (four && five)) more in
    let end = and_r three (four && five) last in (
      gives_is (facts_in k.facts) n.facts (and_l one (two && (three && (four && five))) e),
      flags_are n.apart (apart_in k.apart) (and_l two (three && (four && five)) more),
      claims_are n None no_ties (and_r four five end),
      λ a h. (all_not (λ j. among j n.apart.bytes) k.apart.bytes (and_l three (four && five) last) a h, all_not (λ j. among j n.apart.bytes) across (and_l four five end) a h),
    )

-- ---- candidates
pub within_same : (a : Aim) (d : Apart) (candidates : List ℕ) → Within d candidates → Within (same_byte a d) candidates
within_same (ToByte k) d candidates within b e = within b (by_case (nat_eq b k) (d.bytes b) e)
  where
    by_case : (c h : Bool) → (if c then false else h) ≡ true → h ≡ true
    by_case true h e = never e
    by_case false h e = e
within_same a d candidates within b e = within b e

pub within_other : (i : ℕ) (d : Apart) (bytes : List ℕ) → Within d bytes → Within (other_byte i d) (i ∷ bytes)
within_other i d bytes within b e = by_case (nat_eq b i) (d.bytes b) (within b) e
  where
    by_case : (c h : Bool) → (h ≡ true → among b bytes ≡ true) → (if c then true else h) ≡ true → (c || among b bytes) ≡ true
    by_case true h w e = refl
    by_case false h w e = w e

pub within_more : (i : ℕ) (d : Apart) (bytes : List ℕ) → Within d bytes → Within d (i ∷ bytes)
within_more i d bytes within b e = by_case (nat_eq b i)
  where
    by_case : (c : Bool) → (c || among b bytes) ≡ true
    by_case true = refl
    by_case false = within b e

pub within_flag : (b : ℕ) (v : Bool) (d : Apart) (bytes : List ℕ) → Within d bytes → Within (with_flag b v d) bytes
within_flag b v d bytes within a e = within a (sym (flag_bytes b v d a) ∙ e)

pub operation_is : (a b : LiteralOperation) → same_operation a b ≡ true → a ≡ b
operation_is literals.Addlw literals.Addlw e = refl
operation_is literals.Andlw literals.Andlw e = refl
operation_is literals.Iorlw literals.Iorlw e = refl
operation_is literals.Movlw literals.Movlw e = refl
operation_is literals.Sublw literals.Sublw e = refl
operation_is literals.Xorlw literals.Xorlw e = refl
operation_is a b e = never e

pub some_operation : (o : Option LiteralOperation) (new : LiteralOperation) → is_operation o new ≡ true → o ≡ Some new
some_operation None new e = never e
some_operation (Some op) new e = ap Some (operation_is op new e)
