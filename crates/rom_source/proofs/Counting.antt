-- A micro-step that reads no table counts in the one program where it counts in the other.
use Rattle.std.proofs.Common.{◌≡◌, ℕ, zero, suc, ◌<◌, Bool, true, false, List, [], ◌∷◌, length, Option, Some, None, is_some, refl, sym, ap, ◌∙◌, ⊎_elim}
use Rattle.std.proofs.lemmas.Bool.{and_parts, or_cases, false≢true}
use Rattle.std.specs.Prelude.{nat_lt, slice_get}
use Rattle.c_typed.specs.Fits.{rule_holds, is_memory, is_reached, is_indexed}
use Rattle.c_typed.specs.Rules.{address_fits, start_fits, is_start}
use Rattle.c_typed.specs.Sameness.{pointed, is_the}
use Rattle.c_typed.specs.Trees as tree
use Rattle.c_typed.specs.Trees.{Expression, Place, Item, Statement, Program, FunctionTree}
use Rattle.c_typed.specs.Types.{place_type, type_bytes}
use Rattle.c_typed.specs.declared.types.Qualified.{Qualified}
use Rattle.c_typed.specs.declared.types.Ty.{Ty}
use Rattle.c_typed.specs.declared.types.Ty.TheVariants as types
use Rattle.pic_world.specs.World.{Outside, World}
use Rattle.rom_source.proofs.Acting.{type_same, covered_from_same, plain_fetch, IsCommon}
use Rattle.rom_source.proofs.Adding.{added_expression, added_place, added_statement}
use Rattle.rom_source.proofs.Links.{Left, Right, Link, Plain, Index, Converted, given, opened, added_got, added_focus, asking, made, with_parts, IsMade, IsPlain, Agree}
use Rattle.rom_tables.specs.Tables.{tables_of}
use Rattle.src_rules.specs.Parts.{Obeys}
use Rattle.src_rules.specs.Standing.{FocusStands, StackStands}
use Rattle.src_rules.specs.Step.{is_some_line}
use Rattle.src_values.specs.Control as control
use Rattle.src_values.specs.Control.{Focus, Got, Nothing, Chosen, One, At, AtWith, Stage, Pending, In, To, Doing, Before, Returns, Resumes, line_at, read_type}
use Rattle.src_values.specs.Counting.{counted_if, found_counts_in, found_counts_to, found_counts, value_counts_in, value_counts_to, value_counts, statement_counts, past_counts, any_left, blank_counts_for, blank_counts, counted_line}
use Rattle.src_values.specs.Data.{Datum}
use Rattle.src_values.specs.Memory.{Memory}
use Rattle.src_values.specs.Values.{written_bytes}
use Rattle.src_values.specs.declared.objects.Byte.{Byte}
use Rattle.src_values.specs.declared.objects.CopyOf.{CopyOf}

-- ---- an address leads to something
some_the : (p : Program) (x : Option Qualified) (place : Qualified) → is_the x place ≡ true → is_some x ≡ true
some_the p None place e = e
some_the p (Some y) place e = refl

some_start : (p : Program) (place : Qualified) (ty : Ty) (x : Option Qualified) → is_start p place ty x ≡ true → is_some (pointed p ty) ≡ true
some_start p place ty None e = absurd (false≢true e)
some_start p place ty (Some y) e = some_the p (pointed p ty) y e

by_address : (p : Program) (memory reached : Bool) (place : Qualified) (ty : Ty) → address_fits p memory reached place ty ≡ true → is_some (pointed p ty) ≡ true
by_address p memory reached place ty e = some_the p (pointed p ty) place (and_parts _ _ e).0

by_start : (p : Program) (indexed reached : Bool) (place : Qualified) (ty : Ty) → start_fits p indexed reached place ty ≡ true → is_some (pointed p ty) ≡ true
by_start p indexed reached place ty e = some_start p place ty _ (and_parts _ _ e).0

pub address_leads : (p : Program) (place : Place) (ty : Ty) (line : ℕ) → Obeys p (tree.Address place ty line) → is_some (pointed p ty) ≡ true
unfolding rule_holds
address_leads p place ty line h =
    ⊎_elim (by_address p (is_memory place) (is_reached place) (place_type place) ty) (by_start p (is_indexed h.0) (is_reached place) (place_type place) ty)
    (or_cases (address_fits p (is_memory place) (is_reached place) (place_type place) ty) (start_fits p (is_indexed h.0) (is_reached place) (place_type place) ty) h.1)

pub place_type_added : (ts : List ℕ) (first : ℕ) (place : Place) → place_type (added_place ts first place) ≡ place_type place
unfolding added_expression
place_type_added ts first (tree.Name object ty line) = refl
place_type_added ts first (tree.Bit register number line) = refl
place_type_added ts first (tree.Member whole member offset ty line) = refl
place_type_added ts first (tree.Deref pointer ty line) = refl

-- ---- lines
line_if : (b : Bool) (line other : ℕ) → is_some_line (counted_if b line) ≡ is_some_line (counted_if b other)
line_if true line other = refl
line_if false line other = refl

line_left : (left line other : ℕ) → is_some_line (any_left left line) ≡ is_some_line (any_left left other)
line_left zero line other = refl
line_left (suc left) line other = refl

module _ (p : Program) (rows : List Qualified) (fs : List FunctionTree) (mk : IsMade p rows fs) (o : Outside) where
  abbrev q : Program
  q = with_parts p rows fs

  abbrev ts : List ℕ
  ts = tables_of p

  abbrev first : ℕ
  first = length p.functions

  pointed_by : (row : ℕ) (x : Option Qualified) → slice_get p.targets row ≡ x → is_some x ≡ true → slice_get rows row ≡ slice_get p.targets row
  pointed_by row None is e = absurd (false≢true e)
  pointed_by row (Some y) is e = mk.rows_stay row y is ∙ sym is

  pub pointed_same : (ty : Ty) → is_some (pointed p ty) ≡ true → pointed q ty ≡ pointed p ty
  pointed_same types.Void e = refl
  pointed_same (types.Int t) e = refl
  pointed_same (types.Pointer row) e = pointed_by row (slice_get p.targets row) refl e
  pointed_same (types.Array a b c) e = refl
  pointed_same (types.Struct n) e = refl

  found_in_counts : (c : CopyOf) (e : Expression) (got : Got) (ls : List Link) → StackStands p c (In e got ∷ given ls) → found_counts_in q (opened ts first e) (added_got ts first got) ≡ found_counts_in p e got
  unfolding added_expression
  found_in_counts c (tree.Address place ty line) Nothing ls k = rw (place_type_added ts first place, pointed_same ty (address_leads p place ty line k.0.0)) refl
  found_in_counts c (tree.StructAssign place from size line) (At there) ls k = refl
  found_in_counts c _ _ ls k = refl

  found_to_counts : (place : Place) → found_counts_to (added_place ts first place) ≡ found_counts_to place
  unfolding added_expression
  found_to_counts (tree.Name object ty line) = refl
  found_to_counts (tree.Bit register number line) = refl
  found_to_counts (tree.Member whole member offset ty line) = refl
  found_to_counts (tree.Deref pointer ty line) = refl

  asking_found : (b : Bool) (e : Expression) (line : ℕ) (f : ℕ) (es : tree.Expressions) (ty : Ty) (at : ℕ) (k : List Pending) → found_counts q (asking ts first b e line (tree.Call f es ty at) k) ≡ None
  asking_found true e line f es ty at k = refl
  asking_found false e line f es ty at k = refl

  found_same_counts : (c : CopyOf) (ls : List Link) → StackStands p c (given ls) → found_counts q (made ts first ls) ≡ found_counts p (given ls)
  unfolding given made
  found_same_counts c [] k = refl
  found_same_counts c (Plain (In e got) ∷ ls) k = found_in_counts c e got ls k
  found_same_counts c (Plain (To place) ∷ ls) k = found_to_counts place
  found_same_counts c (Plain (Doing t stage) ∷ ls) k = refl
  found_same_counts c (Plain (Before ss) ∷ ls) k = refl
  found_same_counts c (Plain (Returns d) ∷ ls) k = refl
  found_same_counts c (Plain (Resumes d x) ∷ ls) k = refl
  found_same_counts c (Index Left a ∷ ls) k = asking_found _ _ _ _ _ _ _ _
  found_same_counts c (Index Right a ∷ ls) k = asking_found _ _ _ _ _ _ _ _
  found_same_counts c (Converted side a e ty at ∷ ls) k = asking_found _ _ _ _ _ _ _ _

  value_in_counts : (e : Expression) (got : Got) (v : Datum) → value_counts_in (opened ts first e) (added_got ts first got) v ≡ value_counts_in e got v
  unfolding added_expression
  value_in_counts (tree.Cast operand ty line) Nothing v = refl
  value_in_counts (tree.Unary op operand ty line) Nothing v = refl
  value_in_counts (tree.Binary op left right ty line) (One u) v = refl
  value_in_counts (tree.Offset op left right size ty line) (One u) v = refl
  value_in_counts (tree.Difference left right size line) (One u) v = refl
  value_in_counts (tree.Logical op left right line) Nothing v = refl
  value_in_counts (tree.Logical op left right line) (One u) v = refl
  value_in_counts (tree.Conditional condition chosen otherwise ty line) Nothing v = refl
  value_in_counts (tree.Comma left right ty line) Nothing v = refl
  value_in_counts (tree.Assign place value ty line) (At spot) v = refl
  value_in_counts (tree.Update op place value operation size ty line) (AtWith spot u) v = refl
  value_in_counts (tree.Step op place operation size ty line) (At spot) v = refl
  value_in_counts _ _ v = refl

  value_to_counts : (place : Place) → value_counts_to (added_place ts first place) ≡ value_counts_to place
  unfolding added_expression
  value_to_counts (tree.Name object ty line) = refl
  value_to_counts (tree.Bit register number line) = refl
  value_to_counts (tree.Member whole member offset ty line) = refl
  value_to_counts (tree.Deref pointer ty line) = refl

  value_same_counts : (v : Datum) (ls : List Link) → IsPlain ls → value_counts v (made ts first ls) ≡ value_counts v (given ls)
  unfolding given made
  value_same_counts v [] d = refl
  value_same_counts v (Plain (In e got) ∷ ls) d = value_in_counts e got v
  value_same_counts v (Plain (To place) ∷ ls) d = value_to_counts place
  value_same_counts v (Plain (Doing t stage) ∷ ls) d = refl
  value_same_counts v (Plain (Before ss) ∷ ls) d = refl
  value_same_counts v (Plain (Returns d') ∷ ls) d = refl
  value_same_counts v (Plain (Resumes d' x) ∷ ls) d = refl
  value_same_counts v (Index side a ∷ ls) d = absurd d
  value_same_counts v (Converted side a e ty at ∷ ls) d = absurd d

  statement_same_counts : (t : Statement) → statement_counts (added_statement ts first t) ≡ statement_counts t
  unfolding added_statement
  statement_same_counts (tree.Block ss line) = refl
  statement_same_counts (tree.Empty line) = refl
  statement_same_counts (tree.Expr e line) = refl
  statement_same_counts (tree.Declare local line) = refl
  statement_same_counts (tree.InitScalar local e line) = refl
  statement_same_counts (tree.InitList local list line) = refl
  statement_same_counts (tree.If chain otherwise line) = refl
  statement_same_counts (tree.Loop shape begin condition step body line) = refl
  statement_same_counts (tree.Switch e cases default ss line) = refl
  statement_same_counts (tree.Break line) = refl
  statement_same_counts (tree.Continue line) = refl
  statement_same_counts (tree.Return e line) = refl

  asking_past : (c : CopyOf) (b : Bool) (e : Expression) (line : ℕ) (call : Expression) (k : List Pending) → past_counts q c (asking ts first b e line call k) ≡ None
  asking_past c true e line call k = refl
  asking_past c false e line call k = refl

  past_same_counts : (c : CopyOf) (ls : List Link) → is_some_line (past_counts q c (made ts first ls)) ≡ is_some_line (past_counts p c (given ls))
  unfolding given made
  past_same_counts c [] = refl
  past_same_counts c (Plain (In e got) ∷ ls) = refl
  past_same_counts c (Plain (To place) ∷ ls) = refl
  past_same_counts c (Plain (Doing t stage) ∷ ls) = refl
  past_same_counts c (Plain (Before ss) ∷ ls) = refl
  past_same_counts c (Plain (Returns d') ∷ ls) = refl
  past_same_counts c (Plain (Resumes d' x) ∷ ls) = refl
  past_same_counts c (Index side a ∷ ls) = ap is_some_line (asking_past c _ _ _ _ _)
  past_same_counts c (Converted side a e ty at ∷ ls) = ap is_some_line (asking_past c _ _ _ _ _)

  blank_for_counts : (t : Statement) (at left : ℕ) → blank_counts_for q (added_statement ts first t) at left ≡ blank_counts_for p t at left
  unfolding added_statement
  blank_for_counts (tree.InitList local all line) at left = ap (λ k. counted_if (nat_lt k left) line) (covered_from_same ts first p.sizes all at left)
  blank_for_counts _ at left = refl

  asking_blank : (at left : ℕ) (b : Bool) (e : Expression) (line : ℕ) (call : Expression) (k : List Pending) → blank_counts q at left (asking ts first b e line call k) ≡ None
  asking_blank at left true e line call k = refl
  asking_blank at left false e line call k = refl

  blank_same_counts : (at left : ℕ) (ls : List Link) → blank_counts q at left (made ts first ls) ≡ blank_counts p at left (given ls)
  unfolding given made
  blank_same_counts at left [] = refl
  blank_same_counts at left (Plain (In e got) ∷ ls) = refl
  blank_same_counts at left (Plain (To place) ∷ ls) = refl
  blank_same_counts at left (Plain (Doing t stage) ∷ ls) = blank_for_counts t at left
  blank_same_counts at left (Plain (Before ss) ∷ ls) = refl
  blank_same_counts at left (Plain (Returns d') ∷ ls) = refl
  blank_same_counts at left (Plain (Resumes d' x) ∷ ls) = refl
  blank_same_counts at left (Index side a ∷ ls) = asking_blank at left _ _ _ _ _
  blank_same_counts at left (Converted side a e ty at' ∷ ls) = asking_blank at left _ _ _ _ _

  module _ (c : CopyOf) (small : c.function < length p.functions) (m n : Memory) (agree : Agree p m n) (w : World Byte) where
    pub counts_same : (x : Focus) (ls : List Link) → IsCommon p x ls → FocusStands p c x (given ls) → StackStands p c (given ls)
        → is_some_line (counted_line q c (added_focus ts first x) (made ts first ls)) ≡ is_some_line (counted_line p c x (given ls))
    unfolding counted_line
    counts_same (control.Eval e) ls d f k = refl
    counts_same (control.Find place) ls d f k = refl
    counts_same (control.Holds v) ls d f k = ap is_some_line (value_same_counts v ls d)
    counts_same (control.Found spot) ls d f k = ap is_some_line (found_same_counts c ls k)
    counts_same (control.Run t) ls d f k = ap is_some_line (statement_same_counts t)
    counts_same control.Past ls d f k = past_same_counts c ls
    counts_same (control.Fetch spot read) ls d f k =
        ap (λ ty. is_some_line (counted_if (nat_lt (length read) (type_bytes p.sizes ty)) (line_at (made ts first ls)))) (type_same p rows fs mk o ls (plain_fetch p rows fs mk o c small m n agree w spot read ls f))
        ∙ line_if (nat_lt (length read) (type_bytes p.sizes (read_type (given ls)))) (line_at (made ts first ls)) (line_at (given ls))
    counts_same (control.Skim spot left byte) ls d f k = line_left left (line_at (made ts first ls)) (line_at (given ls))
    counts_same (control.Write spot v at) ls d f k = line_if (nat_lt at (written_bytes spot v)) (line_at (made ts first ls)) (line_at (given ls))
    counts_same (control.PutBit register number v old) ls d f k = refl
    counts_same (control.CopyRead there from left) ls d f k = line_left left (line_at (made ts first ls)) (line_at (given ls))
    counts_same (control.CopyWrite there from byte left) ls d f k = refl
    counts_same (control.Spell spot text left) ls d f k = line_left left (line_at (made ts first ls)) (line_at (given ls))
    counts_same (control.Blank at left) ls d f k = ap is_some_line (blank_same_counts at left ls)
    counts_same control.Calls ls d f k = refl
    counts_same (control.Leaves v) ls d f k = refl
    counts_same (control.Compares v labels) ls d f k = refl
    counts_same control.Over ls d f k = refl
