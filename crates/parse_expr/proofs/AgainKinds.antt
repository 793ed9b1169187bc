-- Which tokens stop a tree, and which begin one: the tests on kinds that readers make.
use Rattle.std.proofs.Common.{◌≡◌, ℕ, zero, suc, ◌<◌, ◌≤◌, nat_le, nat_lt, Bool, true, false, leb, ltb, ◌&&◌, if◌then◌else◌, List, [], ◌∷◌, refl, ap, ◌∙◌, arith, inl, inr}
use Rattle.std.proofs.lemmas.Bool.{le-leb, lt-leb, lt-ltb, cases_lt}
use Rattle.c_token.specs.declared.token.TokKind.{TokKind}
use Rattle.c_token.specs.declared.token.TokKind.TheVariants as kinds
use Rattle.c_token.specs.declared.token.Keyword.{Keyword}
use Rattle.c_token.specs.declared.token.Keyword.TheVariants as words
use Rattle.c_token.specs.declared.token.Punct.TheVariants as marks
use Rattle.c_nodes.specs.Words.{Symbol, Symbols, punct}
use Rattle.c_nodes.specs.Kinds.{is_punct, is_key, is_leaf, level_of, is_assignment, is_prefix, is_step, is_field, is_spec, is_spec_word, is_specifying, begins_spec, is_type_name}
use Rattle.parse_expr.specs.Reader.{front_is, spells}
use Rattle.parse_expr.proofs.Knots.{goes_on, begins_expr, Stops}

-- ---- the tests of what goes on, one by one

pub record Quiet (k : ℕ) (t : TokKind) : Type 0 where
  pub bracket : is_punct marks.LeftBracket t ≡ false
  pub parenthesis : is_punct marks.LeftParenthesis t ≡ false
  pub field : is_field t ≡ false
  pub step : is_step t ≡ false
  pub question : 11 ≤ k → is_punct marks.Question t ≡ false
  pub assignment : 12 ≤ k → is_assignment t ≡ false
  pub operator : 0 < level_of t → k < level_of t

all_false : (a b c d q m l : Bool) → (if a then true else if b then true else if c then true else if d then true else if q then true else if m then true else l) ≡ false → (a ≡ false) × (b ≡ false) × (c ≡ false) × (d ≡ false) × (q ≡ false) × (m ≡ false) × (l ≡ false)
all_false true b c d q m l h = absurd cc
all_false false true c d q m l h = absurd cc
all_false false false true d q m l h = absurd cc
all_false false false false true q m l h = absurd cc
all_false false false false false true m l h = absurd cc
all_false false false false false false true l h = absurd cc
all_false false false false false false false l h = (refl, refl, refl, refl, refl, refl, h)

second_false : (a b : Bool) → a ≡ true → (a && b) ≡ false → b ≡ false
second_false true b e h = h
second_false false b e h = absurd cc

above : (k l : ℕ) → (nat_lt 0 l && nat_le l k) ≡ false → 0 < l → k < l
above k l h pos =
    let lower : leb l k ≡ false = second_false (ltb 0 l) (leb l k) (lt-ltb 0 l pos) h in
    elim (cases_lt k l) [ inl lt ↦ lt | inr ge ↦ absurd (let upper = le-leb l k ge in cc) ]

pub quiet : (k : ℕ) (t : TokKind) → goes_on k t ≡ false → Quiet k t
quiet k t h =
    let p = all_false (is_punct marks.LeftBracket t) (is_punct marks.LeftParenthesis t) (is_field t) (is_step t) (nat_le 11 k && is_punct marks.Question t) (nat_le 12 k && is_assignment t) (nat_lt 0 (level_of t) && nat_le (level_of t) k) h in
    record {
      bracket = p.0;
      parenthesis = p.1;
      field = p.2;
      step = p.3;
      question = λ le. second_false (leb 11 k) (is_punct marks.Question t) (le-leb 11 k le) p.4;
      assignment = λ le. second_false (leb 12 k) (is_assignment t) (le-leb 12 k le) p.5;
      operator = λ pos. above k (level_of t) p.6 pos;
    }

none_true : (a b c d q m l : Bool) → a ≡ false → b ≡ false → c ≡ false → d ≡ false → q ≡ false → m ≡ false → l ≡ false → (if a then true else if b then true else if c then true else if d then true else if q then true else if m then true else l) ≡ false
none_true a b c d q m l ea eb ec ed eq em el = rw (ea, eb, ec, ed, eq, em, el) refl

neither : (a b : Bool) → b ≡ false → (a && b) ≡ false
neither true b h = h
neither false b h = refl

from_on : (n k : ℕ) (b : Bool) → (n ≤ k → b ≡ false) → (nat_le n k && b) ≡ false
from_on n k b h = elim (cases_lt k n) [ inl lt ↦ rw (lt-leb n k lt) refl | inr ge ↦ neither (leb n k) b (h ge) ]

below_it : (k l : ℕ) → (0 < l → k < l) → (nat_lt 0 l && nat_le l k) ≡ false
below_it k zero h = refl
below_it k (suc l) h = neither (ltb 0 (suc l)) (leb (suc l) k) (lt-leb (suc l) k (h (omega arith)))

pub quiet_again : (k : ℕ) (t : TokKind) → Quiet k t → goes_on k t ≡ false
quiet_again k t q = none_true (is_punct marks.LeftBracket t) (is_punct marks.LeftParenthesis t) (is_field t) (is_step t) (nat_le 11 k && is_punct marks.Question t) (nat_le 12 k && is_assignment t) (nat_lt 0 (level_of t) && nat_le (level_of t) k) q.bracket q.parenthesis q.field q.step (from_on 11 k (is_punct marks.Question t) q.question) (from_on 12 k (is_assignment t) q.assignment) (below_it k (level_of t) q.operator)

-- what stops a tree stops one that binds tighter
pub stops_below : (j k : ℕ) (rest : Symbols) → j ≤ k → Stops k rest → Stops j rest
stops_below j k [] le h = refl
stops_below j k (s ∷ rest) le h =
    let q = quiet k s.kind h in
    quiet_again j s.kind record { bracket = q.bracket; parenthesis = q.parenthesis; field = q.field; step = q.step; question = λ e. q.question (omega arith); assignment = λ e. q.assignment (omega arith); operator = λ pos. let lt : k < level_of s.kind = q.operator pos in omega arith }

-- ---- operators

abbrev pub IsOperator : TokKind → Type 0
IsOperator t = (is_punct marks.LeftBracket t ≡ false) × (is_punct marks.LeftParenthesis t ≡ false) × (is_field t ≡ false) × (is_step t ≡ false) × (is_punct marks.Question t ≡ false) × (is_assignment t ≡ false)

is_operator : (t : TokKind) → nat_lt 0 (level_of t) ≡ true → IsOperator t
is_operator (kinds.Punct marks.Star) h = (refl, refl, refl, refl, refl, refl)
is_operator (kinds.Punct marks.Slash) h = (refl, refl, refl, refl, refl, refl)
is_operator (kinds.Punct marks.Percent) h = (refl, refl, refl, refl, refl, refl)
is_operator (kinds.Punct marks.Plus) h = (refl, refl, refl, refl, refl, refl)
is_operator (kinds.Punct marks.Minus) h = (refl, refl, refl, refl, refl, refl)
is_operator (kinds.Punct marks.ShiftLeft) h = (refl, refl, refl, refl, refl, refl)
is_operator (kinds.Punct marks.ShiftRight) h = (refl, refl, refl, refl, refl, refl)
is_operator (kinds.Punct marks.Less) h = (refl, refl, refl, refl, refl, refl)
is_operator (kinds.Punct marks.Greater) h = (refl, refl, refl, refl, refl, refl)
is_operator (kinds.Punct marks.LessEqual) h = (refl, refl, refl, refl, refl, refl)
is_operator (kinds.Punct marks.GreaterEqual) h = (refl, refl, refl, refl, refl, refl)
is_operator (kinds.Punct marks.Equal) h = (refl, refl, refl, refl, refl, refl)
is_operator (kinds.Punct marks.NotEqual) h = (refl, refl, refl, refl, refl, refl)
is_operator (kinds.Punct marks.Ampersand) h = (refl, refl, refl, refl, refl, refl)
is_operator (kinds.Punct marks.Caret) h = (refl, refl, refl, refl, refl, refl)
is_operator (kinds.Punct marks.Bar) h = (refl, refl, refl, refl, refl, refl)
is_operator (kinds.Punct marks.And) h = (refl, refl, refl, refl, refl, refl)
is_operator (kinds.Punct marks.Or) h = (refl, refl, refl, refl, refl, refl)
is_operator (kinds.Punct marks.Comma) h = (refl, refl, refl, refl, refl, refl)
is_operator _ h = absurd cc

-- an operator is neither a name nor a text, and so has no bytes in a text
pub operator_spells : (t : TokKind) → 0 < level_of t → spells t ≡ false
operator_spells kinds.Name h = absurd (omega arith)
operator_spells kinds.TypeName h = absurd (omega arith)
operator_spells kinds.Text h = absurd (omega arith)
operator_spells _ h = refl

-- the sign of an operator stops what binds tighter
pub stops_operator : (j : ℕ) (s : Symbol) (rest : Symbols) → j < level_of s.kind → Stops j (s ∷ rest)
stops_operator j s rest lt =
    let o = is_operator s.kind (lt-ltb 0 (level_of s.kind) (omega arith)) in
    quiet_again j s.kind record { bracket = o.0; parenthesis = o.1; field = o.2; step = o.3; question = λ e. o.4; assignment = λ e. o.5; operator = λ pos. lt }

-- the comma is the one operator that no tier has
pub comma_level : (t : TokKind) → is_punct marks.Comma t ≡ true → level_of t ≡ 13
comma_level (kinds.Punct marks.Comma) h = refl
comma_level _ h = absurd cc

comma_alone : (t : TokKind) → nat_le 11 (level_of t) ≡ true → t ≡ kinds.Punct marks.Comma
comma_alone (kinds.Punct marks.Comma) h = refl
comma_alone _ h = absurd cc

-- an operator that is no comma is one of the tiers
pub tier_most : (t : TokKind) → level_of t ≤ 12 → level_of t ≤ 10
tier_most t le = elim (cases_lt (level_of t) 11) [
  | inl lt ↦ omega arith
  | inr ge ↦ absurd (let is = ap level_of (comma_alone t (le-leb 11 (level_of t) ge)) in omega arith)
]

-- so an operator above the tiers is a comma, of which its line is all
pub is_comma : (s : Symbol) → 11 ≤ level_of s.kind → s.bytes ≡ [] → s ≡ punct marks.Comma s.line
is_comma s le e = ap (λ (t : TokKind). record { kind = t; bytes = s.bytes; line = s.line }) (comma_alone s.kind (le-leb 11 (level_of s.kind) le)) ∙ ap (λ (b : List ℕ). record { kind = kinds.Punct marks.Comma; bytes = b; line = s.line }) e

-- the operator of an assignment stops what stands on its left
assignment_stops : (t : TokKind) → is_assignment t ≡ true → goes_on 11 t ≡ false
assignment_stops (kinds.Punct marks.Assign) h = refl
assignment_stops (kinds.Punct marks.StarAssign) h = refl
assignment_stops (kinds.Punct marks.SlashAssign) h = refl
assignment_stops (kinds.Punct marks.PercentAssign) h = refl
assignment_stops (kinds.Punct marks.PlusAssign) h = refl
assignment_stops (kinds.Punct marks.MinusAssign) h = refl
assignment_stops (kinds.Punct marks.ShiftLeftAssign) h = refl
assignment_stops (kinds.Punct marks.ShiftRightAssign) h = refl
assignment_stops (kinds.Punct marks.AmpersandAssign) h = refl
assignment_stops (kinds.Punct marks.CaretAssign) h = refl
assignment_stops (kinds.Punct marks.BarAssign) h = refl
assignment_stops _ h = absurd cc

pub stops_assignment : (s : Symbol) (rest : Symbols) → is_assignment s.kind ≡ true → Stops 11 (s ∷ rest)
stops_assignment s rest h = assignment_stops s.kind h

-- ---- first tokens

-- what the first token of an expression is not
pub record Begins (t : TokKind) : Type 0 where
  pub spec : is_spec t ≡ false
  pub closing : is_punct marks.RightParenthesis t ≡ false
  pub bracket : is_punct marks.RightBracket t ≡ false

begins : (t : TokKind) → begins_expr t ≡ true → Begins t
begins kinds.Name h = record { spec = refl; closing = refl; bracket = refl }
begins (kinds.Int v b u l) h = record { spec = refl; closing = refl; bracket = refl }
begins (kinds.Char v) h = record { spec = refl; closing = refl; bracket = refl }
begins (kinds.Keyword words.Sizeof) h = record { spec = refl; closing = refl; bracket = refl }
begins (kinds.Punct marks.LeftParenthesis) h = record { spec = refl; closing = refl; bracket = refl }
begins (kinds.Punct marks.Increment) h = record { spec = refl; closing = refl; bracket = refl }
begins (kinds.Punct marks.Decrement) h = record { spec = refl; closing = refl; bracket = refl }
begins (kinds.Punct marks.Ampersand) h = record { spec = refl; closing = refl; bracket = refl }
begins (kinds.Punct marks.Star) h = record { spec = refl; closing = refl; bracket = refl }
begins (kinds.Punct marks.Plus) h = record { spec = refl; closing = refl; bracket = refl }
begins (kinds.Punct marks.Minus) h = record { spec = refl; closing = refl; bracket = refl }
begins (kinds.Punct marks.Tilde) h = record { spec = refl; closing = refl; bracket = refl }
begins (kinds.Punct marks.Not) h = record { spec = refl; closing = refl; bracket = refl }
begins _ h = absurd cc

-- a test that no expression begins with
pub front_not : (test : TokKind → Bool) (toks : Symbols) → ((t : TokKind) → begins_expr t ≡ true → test t ≡ false) → front_is begins_expr toks ≡ true → front_is test toks ≡ false
front_not test [] never h = absurd cc
front_not test (s ∷ toks) never h = never s.kind h

pub no_spec : (t : TokKind) → begins_expr t ≡ true → is_spec t ≡ false
no_spec t h = let b = begins t h in b.spec

pub no_closing : (t : TokKind) → begins_expr t ≡ true → is_punct marks.RightParenthesis t ≡ false
no_closing t h = let b = begins t h in b.closing

pub no_bracket : (t : TokKind) → begins_expr t ≡ true → is_punct marks.RightBracket t ≡ false
no_bracket t h = let b = begins t h in b.bracket

-- what begins an operand without a prefix
pub record Primary (t : TokKind) : Type 0 where
  pub prefix : is_prefix t ≡ false
  pub measure : is_key words.Sizeof t ≡ false

abbrev pub begins_primary : TokKind → Bool
begins_primary t = if is_leaf t then true else is_punct marks.LeftParenthesis t

pub primary : (t : TokKind) → begins_primary t ≡ true → Primary t
primary kinds.Name h = record { prefix = refl; measure = refl }
primary (kinds.Int v b u l) h = record { prefix = refl; measure = refl }
primary (kinds.Char v) h = record { prefix = refl; measure = refl }
primary (kinds.Punct marks.LeftParenthesis) h = record { prefix = refl; measure = refl }
primary _ h = absurd cc

pub leaf_opens : (t : TokKind) → is_leaf t ≡ true → is_punct marks.LeftParenthesis t ≡ false
leaf_opens kinds.Name h = refl
leaf_opens (kinds.Int v b u l) h = refl
leaf_opens (kinds.Char v) h = refl
leaf_opens _ h = absurd cc

pub prefix_opens : (t : TokKind) → is_prefix t ≡ true → is_punct marks.LeftParenthesis t ≡ false
prefix_opens (kinds.Punct marks.LeftParenthesis) h = absurd cc
prefix_opens (kinds.Punct _) h = refl
prefix_opens _ h = absurd cc

pub prefix_begins : (t : TokKind) → is_prefix t ≡ true → begins_expr t ≡ true
prefix_begins (kinds.Punct marks.Increment) h = refl
prefix_begins (kinds.Punct marks.Decrement) h = refl
prefix_begins (kinds.Punct marks.Ampersand) h = refl
prefix_begins (kinds.Punct marks.Star) h = refl
prefix_begins (kinds.Punct marks.Plus) h = refl
prefix_begins (kinds.Punct marks.Minus) h = refl
prefix_begins (kinds.Punct marks.Tilde) h = refl
prefix_begins (kinds.Punct marks.Not) h = refl
prefix_begins _ h = absurd cc

-- what a postfix begins with
pub record Dotted (t : TokKind) : Type 0 where
  pub bracket : is_punct marks.LeftBracket t ≡ false
  pub parenthesis : is_punct marks.LeftParenthesis t ≡ false

pub field_only : (t : TokKind) → is_field t ≡ true → Dotted t
field_only (kinds.Punct marks.Dot) h = record { bracket = refl; parenthesis = refl }
field_only (kinds.Punct marks.Arrow) h = record { bracket = refl; parenthesis = refl }
field_only _ h = absurd cc

pub record Stepped (t : TokKind) : Type 0 where
  pub bracket : is_punct marks.LeftBracket t ≡ false
  pub parenthesis : is_punct marks.LeftParenthesis t ≡ false
  pub field : is_field t ≡ false

pub step_only : (t : TokKind) → is_step t ≡ true → Stepped t
step_only (kinds.Punct marks.Increment) h = record { bracket = refl; parenthesis = refl; field = refl }
step_only (kinds.Punct marks.Decrement) h = record { bracket = refl; parenthesis = refl; field = refl }
step_only _ h = absurd cc

word_begins : (w : Keyword) → is_specifying w ≡ true → begins_spec w ≡ true
word_begins words.Struct h = refl
word_begins words.Enum h = refl
word_begins _ h = h

pub spec_word : (t : TokKind) → is_spec_word t ≡ true → is_spec t ≡ true
spec_word (kinds.Keyword w) h = word_begins w h
spec_word _ h = absurd cc

pub type_name_begins : (t : TokKind) → is_type_name t ≡ true → is_spec t ≡ true
type_name_begins kinds.TypeName h = refl
type_name_begins _ h = absurd cc
