-- Accesses, statements and calls: each micro-step of the given program that reads no table is the outlined program's.
use Rattle.std.proofs.Common.{◌≡◌, ℕ, zero, suc, ◌+◌, ◌-◌, ◌<◌, Bool, true, false, List, [], ◌∷◌, ◌++◌, length, Option, Some, None, refl, sym, ap, subst}
use Rattle.std.specs.Prelude.{if◌then◌else◌, nat_lt, map}
use Rattle.c_typed.specs.Trees as tree
use Rattle.c_typed.specs.Trees.{Expression, Expressions, Place, Item, Statement, Statements, Arm, Arms, LastArm, Program, FunctionTree}
use Rattle.c_typed.specs.Types.{type_of, type_bytes, item_start}
use Rattle.c_typed.specs.Words.{item_bytes}
use Rattle.c_typed.specs.declared.statement.LoopForm.{LoopForm}
use Rattle.c_typed.specs.declared.types.Qualified.{Qualified}
use Rattle.c_typed.specs.declared.types.Ty.{Ty}
use Rattle.pic_world.specs.World.{Outside, World, Ended, noted, left, device_value}
use Rattle.rom_source.proofs.Accesses.{agree_cleared, agree_fresh, agree_values, SameTaking, SamePutting, take_same, put_same, device_put_same}
use Rattle.rom_source.proofs.Adding.{added_expression, added_arguments, added_item, added_option, added_statement, added_statements}
use Rattle.rom_source.proofs.Given.{give_same, compares_same, loops_same, next_same, arms_same, unwound_given, unwound_made, unwound_proper}
use Rattle.rom_source.proofs.Links.{Left, Right, Link, Plain, Index, Converted, given, opened, added_got, added_stage, added_focus, made, with_parts, IsMade, AreLinks, Agree, IsPlain, unwound_links}
use Rattle.rom_source.proofs.Same.{Same, Stays, to, one, one_as, eval_same, find_same, found_same}
use Rattle.rom_source.proofs.Values.{same_active, same_local, own_bytes}
use Rattle.rom_tables.specs.Outlined.{read_of}
use Rattle.rom_tables.specs.Tables.{tables_of}
use Rattle.src_rules.specs.Accesses.{goes, after_taking, after_putting, fetched, fetch_as, fetch, skim, is_any, items, stored_in, stored_for, stored, put_bit, write_at, write, copy_read, copy_write, spell, first_or_zero, behind_first, blank_at, blank_for, blank}
use Rattle.src_rules.specs.Standing.{IsReached, FocusStands, StackStands, FetchStands, SkimStands, WriteStands, CopyStands, SpellStands}
use Rattle.src_rules.specs.State.{state, Outcome, Went}
use Rattle.src_rules.specs.Statements.{loops, break_at, continue_at, unwound, turned, proceed, handed, leave, begin}
use Rattle.src_rules.specs.Step.{copy_of, body_of, has_missing, call_in, call, act, with_values}
use Rattle.src_values.specs.Accesses.{Taking, Takes, Breaks, Putting, Puts, Refuses, take_byte, device_taken, put_byte}
use Rattle.src_values.specs.Control as control
use Rattle.src_values.specs.Control.{Focus, Eval, Find, Holds, Found, Got, Nothing, Chosen, One, At, AtWith, Stores, Copies, Args, Passed, Called, Stage, Tests, Begins, Steps, Turns, Picks, InArm, Chooses, Fills, AtItem, Items, Blanks, Pending, In, To, Doing, Before, Returns, Resumes, active, line_at, read_type}
use Rattle.src_values.specs.Data as datum
use Rattle.src_values.specs.Data.{Datum}
use Rattle.src_values.specs.Lists.{is_covered, covered_from}
use Rattle.src_values.specs.Memory.{Setting, Memory, cleared, fresh}
use Rattle.src_values.specs.Objects.{function_at, behind, local_of, object_bytes, next_byte}
use Rattle.src_values.specs.Values.{byte_of, number_in, value_from, fits_behind, written_bytes, answer_of}
use Rattle.src_values.specs.declared.objects.Byte.{Byte}
use Rattle.src_values.specs.declared.objects.Byte.TheVariants as bytes
use Rattle.src_values.specs.declared.objects.CopyOf.{CopyOf}
use Rattle.src_values.specs.declared.objects.Object.{Object}
use Rattle.src_values.specs.declared.objects.Spot.{Spot}
use Rattle.src_values.specs.declared.objects.Spot.TheVariants as spots

-- ---- outlined trees have the types of the given ones
module _ (ts : List ℕ) (first : ℕ) where
  pub type_opened : (e : Expression) → type_of (opened ts first e) ≡ type_of e
  unfolding added_expression
  type_opened (tree.Constant value line) = refl
  type_opened (tree.Read place ty line) = refl
  type_opened (tree.Address place ty line) = refl
  type_opened (tree.Convert operand ty line) = refl
  type_opened (tree.Cast operand ty line) = refl
  type_opened (tree.Unary op operand ty line) = refl
  type_opened (tree.Binary op left right ty line) = refl
  type_opened (tree.Offset op left right size ty line) = refl
  type_opened (tree.Difference left right size line) = refl
  type_opened (tree.Logical op left right line) = refl
  type_opened (tree.Conditional condition chosen otherwise ty line) = refl
  type_opened (tree.Comma left right ty line) = refl
  type_opened (tree.Assign place value ty line) = refl
  type_opened (tree.StructAssign place from size line) = refl
  type_opened (tree.Update op place value operation size ty line) = refl
  type_opened (tree.Step op place operation size ty line) = refl
  type_opened (tree.Call f values ty line) = refl

  read_of_type : (a b : Option ℕ) (place : Place) (given_place : Place) (ty : Ty) (line : ℕ) → type_of (read_of first a b place ty line) ≡ ty
  read_of_type (Some t) b place given_place ty line = refl
  read_of_type None (Some t) place given_place ty line = refl
  read_of_type None None place given_place ty line = refl

  pub type_added : (e : Expression) → type_of (added_expression ts first e) ≡ type_of e
  unfolding added_expression
  type_added (tree.Read place ty line) = read_of_type _ _ _ place ty line
  type_added e = type_opened e

  answer_opened : (e : Expression) (spot : Spot) (v : Datum) → answer_of (opened ts first e) spot v ≡ answer_of e spot v
  unfolding added_expression
  answer_opened (tree.Step op place operation size ty line) spot v = refl
  answer_opened e spot v = refl

  item_start_same : (i : Item) → item_start (added_item ts first i) ≡ item_start i
  item_start_same (tree.Scalar offset e) = refl
  item_start_same (tree.Struct offset from size) = refl
  item_start_same (tree.Text offset text size) = refl

  item_bytes_same : (sizes : List ℕ) (i : Item) → item_bytes sizes (added_item ts first i) ≡ item_bytes sizes i
  item_bytes_same sizes (tree.Scalar offset e) = ap (type_bytes sizes) (type_added e)
  item_bytes_same sizes (tree.Struct offset from size) = refl
  item_bytes_same sizes (tree.Text offset text size) = refl

  covered_same : (sizes : List ℕ) (all : List Item) (at : ℕ) → is_covered sizes (map (added_item ts first) all) at ≡ is_covered sizes all at
  unfolding is_covered
  covered_same sizes [] at = refl
  covered_same sizes (i ∷ all) at = rw (item_start_same i, item_bytes_same sizes i, covered_same sizes all at) refl

  pub covered_from_same : (sizes : List ℕ) (all : List Item) (at left : ℕ) → covered_from sizes (map (added_item ts first) all) at left ≡ covered_from sizes all at left
  covered_from_same sizes all at zero = refl
  covered_from_same sizes all at (suc left) = rw (covered_same sizes all at, covered_from_same sizes all (at + 1) left) refl

-- no read of a table begins, and no value goes to the index of one
abbrev pub IsCommon : Program → Focus → List Link → Type 0
IsCommon p (Eval e) ls = Stays p e
IsCommon p (Holds v) ls = IsPlain ls
IsCommon p _ ls = Unit {0}

module _ (p : Program) (rows : List Qualified) (fs : List FunctionTree) (mk : IsMade p rows fs) (o : Outside) where
  abbrev q : Program
  q = with_parts p rows fs

  abbrev ts : List ℕ
  ts = tables_of p

  abbrev first : ℕ
  first = length p.functions

  abbrev s : Setting
  s = record { program = p; outside = o }

  abbrev r : Setting
  r = record { program = q; outside = o }

  pub type_same : (ls : List Link) → IsPlain ls → read_type (made ts first ls) ≡ read_type (given ls)
  unfolding given made
  type_same [] d = refl
  type_same (Plain (In e got) ∷ ls) d = type_opened ts first e
  type_same (Plain (To place) ∷ ls) d = refl
  type_same (Plain (Doing t stage) ∷ ls) d = refl
  type_same (Plain (Before ss) ∷ ls) d = refl
  type_same (Plain (Returns d') ∷ ls) d = refl
  type_same (Plain (Resumes d' x) ∷ ls) d = refl
  type_same (Index side a ∷ ls) d = absurd d
  type_same (Converted side a e ty at ∷ ls) d = absurd d

  -- ---- accesses go on
  module _ (c : CopyOf) (small : c.function < length p.functions) (m n : Memory) (agree : Agree p m n) (w : World Byte) where
    abbrev go : (x : Focus) (ls : List Link) → AreLinks p ls → Same p (goes c x (given ls) m w) (goes c (added_focus ts first x) (made ts first ls) n w)
    go = one p rows fs mk o c small m n agree w

    taking_same : (t u : Taking) (next : Byte → Focus) (ls : List Link) (line other : ℕ) → SameTaking t u → ((byte : Byte) → next byte ≡ added_focus ts first (next byte)) → AreLinks p ls
        → Same p (after_taking t next c (given ls) m line) (after_taking u next c (made ts first ls) n other)
    taking_same (Takes byte w event) u next ls line other h is z =
        subst (λ u. Same p (Went (state c (next byte) (given ls) m w) event) (after_taking u next c (made ts first ls) n other)) (sym h) (to p rows fs mk o c (next byte) (next byte) ls m n w event small (is byte) z agree)
    taking_same (Breaks kind) u next ls line other h is z = tt

    putting_same : (t u : Putting) (x : Focus) (ls : List Link) (line other : ℕ) → SamePutting p t u → x ≡ added_focus ts first x → AreLinks p ls
        → Same p (after_putting t x c (given ls) line) (after_putting u x c (made ts first ls) other)
    putting_same (Puts m w event) u x ls line other h is z =
        subst (λ u. Same p (Went (state c x (given ls) m w) event) (after_putting u x c (made ts first ls) other)) (sym h.1) (to p rows fs mk o c x x ls m h.0 w event small is z h.2)
    putting_same (Refuses kind) u x ls line other h is z = tt

    taken : (fits : Byte → Bool) (spot : Spot) (x : Focus) (ls : List Link) → x ≡ added_focus ts first x
        → SameTaking (take_byte s (active c x (given ls)) c.root fits spot m w) (take_byte r (active c x (made ts first ls)) c.root fits spot n w)
    taken fits spot x ls is =
        subst (λ live. SameTaking (take_byte s (active c x (given ls)) c.root fits spot m w) (take_byte r live c.root fits spot n w)) (sym (same_active ts first c x x ls is))
        (take_same p rows fs mk o (active c x (given ls)) c.root fits spot m n w agree)

    put : (spot : Spot) (byte : Byte) (x : Focus) (ls : List Link) → x ≡ added_focus ts first x
        → SamePutting p (put_byte s (active c x (given ls)) c.root spot byte m w) (put_byte r (active c x (made ts first ls)) c.root spot byte n w)
    put spot byte x ls is =
        subst (λ live. SamePutting p (put_byte s (active c x (given ls)) c.root spot byte m w) (put_byte r live c.root spot byte n w)) (sym (same_active ts first c x x ls is))
        (put_same p rows fs mk o (active c x (given ls)) c.root spot byte m n w agree)

    fetched_same : (v : Datum) (ls : List Link) → IsPlain ls → AreLinks p ls → Same p (fetched v (given ls) c m w) (fetched v (made ts first ls) c n w)
    unfolding given made AreLinks added_expression
    fetched_same v [] d z = go (Holds v) [] z
    fetched_same v (Plain (In (tree.Read place ty line) (At spot)) ∷ ls) d z = go (Holds v) ls z.1
    fetched_same v (Plain (In e got) ∷ ls) d z = go (Holds v) (Plain (In e got) ∷ ls) z
    fetched_same v (Plain (To place) ∷ ls) d z = go (Holds v) (Plain (To place) ∷ ls) z
    fetched_same v (Plain (Doing t stage) ∷ ls) d z = go (Holds v) (Plain (Doing t stage) ∷ ls) z
    fetched_same v (Plain (Before ss) ∷ ls) d z = go (Holds v) (Plain (Before ss) ∷ ls) z
    fetched_same v (Plain (Returns d') ∷ ls) d z = go (Holds v) (Plain (Returns d') ∷ ls) z
    fetched_same v (Plain (Resumes d' x) ∷ ls) d z = go (Holds v) (Plain (Resumes d' x) ∷ ls) z
    fetched_same v (Index side a ∷ ls) d z = absurd d
    fetched_same v (Converted side a e ty at ∷ ls) d z = absurd d

    if_same : (t : Bool) (a b d e : Outcome) → Same p a b → Same p d e → Same p (if t then a else d) (if t then b else e)
    if_same true a b d e h g = h
    if_same false a b d e h g = g

    fetch_as_same : (ty : Ty) (spot : Spot) (read : List Byte) (ls : List Link) → IsPlain ls → AreLinks p ls → Same p (fetch_as ty s spot read (given ls) c m w) (fetch_as ty r spot read (made ts first ls) c n w)
    fetch_as_same ty spot read ls d z =
        if_same (nat_lt (length read) (type_bytes p.sizes ty)) _ _ _ _
        (taking_same _ _ (λ byte. control.Fetch (next_byte spot) (read ++ byte ∷ [])) ls _ _ (taken (fits_behind ty read) spot (control.Fetch spot read) ls refl) (λ byte. refl) z)
        (fetched_same (value_from ty read) ls d z)

    fetch_same : (spot : Spot) (read : List Byte) (ls : List Link) → IsPlain ls → AreLinks p ls → Same p (fetch s spot read (given ls) c m w) (fetch r spot read (made ts first ls) c n w)
    fetch_same spot read ls d z =
        subst (λ ty. Same p (fetch s spot read (given ls) c m w) (fetch_as ty r spot read (made ts first ls) c n w)) (sym (type_same ls d)) (fetch_as_same (read_type (given ls)) spot read ls d z)

    skim_same : (spot : Spot) (left : ℕ) (byte : Option Byte) (ls : List Link) → IsPlain ls → AreLinks p ls → Same p (skim s spot left byte (given ls) c m w) (skim r spot left byte (made ts first ls) c n w)
    skim_same spot zero byte ls d z = fetched_same datum.Missing ls d z
    skim_same spot (suc left) byte ls d z = taking_same _ _ (λ next. control.Skim (next_byte spot) left (Some next)) ls _ _ (taken is_any spot (control.Skim spot (suc left) byte) ls refl) (λ byte. refl) z

    -- ---- lists
    items_same : (local : ℕ) (all rest : List Item) (line : ℕ) (a b : Object) (ls : List Link) → b ≡ a → object_bytes q a ≡ object_bytes p a → AreLinks p ls
        → Same p (items s (tree.InitList local all line) a rest (given ls) c m w) (items r (tree.InitList local (map (added_item ts first) all) line) b (map (added_item ts first) rest) (made ts first ls) c n w)
    unfolding given made AreLinks added_statement
    items_same local all rest line a b ls e g z = subst (λ y. Same p (items s (tree.InitList local all line) a rest (given ls) c m w) (items r (tree.InitList local (map (added_item ts first) all) line) y (map (added_item ts first) rest) (made ts first ls) c n w)) (sym e) (by rest)
      where
        by : (rest : List Item) → Same p (items s (tree.InitList local all line) a rest (given ls) c m w) (items r (tree.InitList local (map (added_item ts first) all) line) a (map (added_item ts first) rest) (made ts first ls) c n w)
        by [] = one_as p rows fs mk o c small m n agree w (control.Blank 0 (object_bytes p a)) (control.Blank 0 (object_bytes q a)) (Plain (Doing (tree.InitList local all line) Blanks) ∷ ls) (ap (control.Blank 0) g) (tt, z)
        by (tree.Scalar offset value ∷ rest) = go (Eval value) (Plain (Doing (tree.InitList local all line) (AtItem (tree.Scalar offset value) rest)) ∷ ls) (tt, z)
        by (tree.Struct offset from size ∷ rest) = go (Find from) (Plain (Doing (tree.InitList local all line) (AtItem (tree.Struct offset from size) rest)) ∷ ls) (tt, z)
        by (tree.Text offset text size ∷ rest) = go (control.Spell (behind a offset) text size) (Plain (Doing (tree.InitList local all line) (Items (tree.Text offset text size) rest)) ∷ ls) (tt, z)

    list_same : (local : ℕ) (all rest : List Item) (line : ℕ) (ls : List Link) → AreLinks p ls
        → Same p (items s (tree.InitList local all line) (local_of p c local) rest (given ls) c m w) (items r (tree.InitList local (map (added_item ts first) all) line) (local_of q c local) (map (added_item ts first) rest) (made ts first ls) c n w)
    list_same local all rest line ls z =
        items_same local all rest line (local_of p c local) (local_of q c local) ls (same_local p rows fs mk c local small) (own_bytes p rows fs mk (local_of p c local) small) z

    -- ---- what follows a write
    stored_in_same : (e : Expression) (got : Got) (ls : List Link) → AreLinks p ls → Same p (stored_in e got (given ls) c m w) (stored_in (opened ts first e) (added_got ts first got) (made ts first ls) c n w)
    stored_in_same e (Stores spot v) ls z = one_as p rows fs mk o c small m n agree w (Holds (answer_of e spot v)) (Holds (answer_of (opened ts first e) spot v)) ls (ap Holds (answer_opened ts first e spot v)) z
    stored_in_same e Copies ls z = go (Holds datum.Missing) ls z
    stored_in_same e _ ls z = tt

    stored_for_same : (t : Statement) (stage : Stage) (ls : List Link) → AreLinks p ls → Same p (stored_for s t stage (given ls) c m w) (stored_for r (added_statement ts first t) (added_stage ts first stage) (made ts first ls) c n w)
    unfolding added_statement
    stored_for_same (tree.InitScalar local e line) Fills ls z = go control.Past ls z
    stored_for_same (tree.InitList local all line) (Items item rest) ls z = list_same local all rest line ls z
    stored_for_same (tree.InitList local all line) Blanks ls z = go control.Past ls z
    stored_for_same _ _ ls z = tt

    stored_same : (ls : List Link) → IsPlain ls → AreLinks p ls → Same p (stored s (given ls) c m w) (stored r (made ts first ls) c n w)
    unfolding given made AreLinks
    stored_same [] d z = tt
    stored_same (Plain (In e got) ∷ ls) d z = stored_in_same e got ls z.1
    stored_same (Plain (To place) ∷ ls) d z = tt
    stored_same (Plain (Doing t stage) ∷ ls) d z = stored_for_same t stage ls z.1
    stored_same (Plain (Before ss) ∷ ls) d z = tt
    stored_same (Plain (Returns d') ∷ ls) d z = tt
    stored_same (Plain (Resumes d' x) ∷ ls) d z = tt
    stored_same (Index side a ∷ ls) d z = absurd d
    stored_same (Converted side a e ty at ∷ ls) d z = absurd d

    -- ---- writes
    write_at_same : (spot : Spot) (v : Datum) (at : ℕ) (ls : List Link) → AreLinks p ls → Same p (write_at s spot v at (given ls) c m w) (write_at r spot v at (made ts first ls) c n w)
    write_at_same (spots.Bit register number) v at ls z =
        taking_same (device_taken s register (device_value o register w) w) (device_taken s register (device_value o register w) w) (λ byte. control.PutBit register number v (number_in byte)) ls (line_at (given ls)) (line_at (made ts first ls)) refl (λ byte. refl) z
    write_at_same (spots.Device address) v at ls z = putting_same _ _ (control.Write (next_byte (spots.Device address)) v (at + 1)) ls _ _ (put (spots.Device address) (byte_of v at) (control.Write (spots.Device address) v at) ls refl) refl z
    write_at_same (spots.Memory x) v at ls z = putting_same _ _ (control.Write (next_byte (spots.Memory x)) v (at + 1)) ls _ _ (put (spots.Memory x) (byte_of v at) (control.Write (spots.Memory x) v at) ls refl) refl z

    write_same : (spot : Spot) (v : Datum) (at : ℕ) (ls : List Link) → IsPlain ls → AreLinks p ls → Same p (write s spot v at (given ls) c m w) (write r spot v at (made ts first ls) c n w)
    write_same spot v at ls d z = if_same (nat_lt at (written_bytes spot v)) _ _ _ _ (write_at_same spot v at ls z) (stored_same ls d z)

    put_bit_same : (register number : ℕ) (v : Datum) (old : ℕ) (ls : List Link) → AreLinks p ls → Same p (put_bit s register number v old (given ls) c m w) (put_bit r register number v old (made ts first ls) c n w)
    put_bit_same register number v old ls z =
        putting_same _ _ (control.Write (spots.Bit register number) v 1) ls _ _ (device_put_same p rows fs mk o [] c.root register _ m n w agree) refl z

    copy_read_same : (there from : Spot) (left : ℕ) (ls : List Link) → IsPlain ls → AreLinks p ls → Same p (copy_read s there from left (given ls) c m w) (copy_read r there from left (made ts first ls) c n w)
    copy_read_same there from zero ls d z = stored_same ls d z
    copy_read_same there from (suc left) ls d z = taking_same _ _ (λ byte. control.CopyWrite there from byte left) ls _ _ (taken is_any from (control.CopyRead there from (suc left)) ls refl) (λ byte. refl) z

    copy_write_same : (there from : Spot) (byte : Byte) (left : ℕ) (ls : List Link) → AreLinks p ls → Same p (copy_write s there from byte left (given ls) c m w) (copy_write r there from byte left (made ts first ls) c n w)
    copy_write_same there from byte left ls z = putting_same _ _ (control.CopyRead (next_byte there) (next_byte from) left) ls _ _ (put there byte (control.CopyWrite there from byte left) ls refl) refl z

    spell_same : (spot : Spot) (text : List ℕ) (left : ℕ) (ls : List Link) → IsPlain ls → AreLinks p ls → Same p (spell s spot text left (given ls) c m w) (spell r spot text left (made ts first ls) c n w)
    spell_same spot text zero ls d z = stored_same ls d z
    spell_same spot text (suc left) ls d z =
        putting_same _ _ (control.Spell (next_byte spot) (behind_first text) left) ls _ _ (put spot (bytes.Number (first_or_zero text)) (control.Spell spot text (suc left)) ls refl) refl z

    blank_at_same : (a b : Object) (at left : ℕ) (ls : List Link) → b ≡ a → IsPlain ls → AreLinks p ls → Same p (blank_at s a at left (given ls) c m w) (blank_at r b at left (made ts first ls) c n w)
    blank_at_same a b at left ls e d z = subst (λ y. Same p (blank_at s a at left (given ls) c m w) (blank_at r y at left (made ts first ls) c n w)) (sym e) (by left)
      where
        by : (left : ℕ) → Same p (blank_at s a at left (given ls) c m w) (blank_at r a at left (made ts first ls) c n w)
        by zero = stored_same ls d z
        by (suc left) = putting_same _ _ (control.Blank (at + 1) left) ls _ _ (put (behind a at) (bytes.Number 0) (control.Blank at (suc left)) ls refl) refl z

    blank_for_same : (t : Statement) (at left : ℕ) (ls : List Link) → IsPlain ls → AreLinks p ls → Same p (blank_for s t at left (given ls) c m w) (blank_for r (added_statement ts first t) at left (made ts first ls) c n w)
    unfolding added_statement
    blank_for_same (tree.InitList local all line) at left ls d z =
        subst (λ k. Same p (blank_for s (tree.InitList local all line) at left (given ls) c m w) (blank_at r (local_of q c local) (at + k) (left - k) (made ts first ls) c n w)) (sym (covered_from_same ts first p.sizes all at left))
        (blank_at_same (local_of p c local) (local_of q c local) (at + covered_from p.sizes all at left) (left - covered_from p.sizes all at left) ls (same_local p rows fs mk c local small) d z)
    blank_for_same _ at left ls d z = tt

    blank_same : (at left : ℕ) (ls : List Link) → AreLinks p ls → Same p (blank s at left (given ls) c m w) (blank r at left (made ts first ls) c n w)
    unfolding given made
    blank_same at left [] z = tt
    blank_same at left (Plain (In e got) ∷ ls) z = tt
    blank_same at left (Plain (To place) ∷ ls) z = tt
    blank_same at left (Plain (Doing t stage) ∷ ls) z = blank_for_same t at left (Plain (Doing t stage) ∷ ls) tt z
    blank_same at left (Plain (Before ss) ∷ ls) z = tt
    blank_same at left (Plain (Returns d') ∷ ls) z = tt
    blank_same at left (Plain (Resumes d' x) ∷ ls) z = tt
    blank_same at left (Index side a ∷ ls) z = tt
    blank_same at left (Converted side a e ty at' ∷ ls) z = tt

    -- ---- calls
    body_same : (f : ℕ) → f < length p.functions → (function_at q f).body ≡ added_statements ts first (function_at p f).body
    body_same f l = ap (λ (g : FunctionTree). g.body) (mk.functions f l)

    call_in_same : (e : Expression) (got : Got) (ls : List Link) → StackStands p c (In e got ∷ given ls) → AreLinks p ls → Same p (call_in p e got (given ls) c m w) (call_in q (opened ts first e) (added_got ts first got) (made ts first ls) c n w)
    unfolding given made AreLinks added_expression
    call_in_same (tree.Call f values ty line) (Passed vs) ls k z =
        if_same (has_missing vs) _ _ _ _ tt
        (subst (λ b. Same p (goes (copy_of c.root f) control.Past (body_of p f (Returns c ∷ In (tree.Call f values ty line) Called ∷ given ls)) (with_values (fresh m (copy_of c.root f)) (copy_of c.root f) 0 vs) w)
        (goes (copy_of c.root f) control.Past (Before b ∷ Returns c ∷ In (tree.Call f (added_arguments ts first values) ty line) Called ∷ made ts first ls) (with_values (fresh n (copy_of c.root f)) (copy_of c.root f) 0 vs) w))
        (sym (body_same f k.0.1))
        (to p rows fs mk o (copy_of c.root f) control.Past control.Past (Plain (Before (function_at p f).body) ∷ Plain (Returns c) ∷ Plain (In (tree.Call f values ty line) Called) ∷ ls)
        (with_values (fresh m (copy_of c.root f)) (copy_of c.root f) 0 vs) (with_values (fresh n (copy_of c.root f)) (copy_of c.root f) 0 vs) w None k.0.1 refl (tt, (small, (tt, z)))
        (agree_values p _ _ (copy_of c.root f) 0 vs (agree_fresh p m n (copy_of c.root f) agree))))
    call_in_same _ _ ls k z = tt

    call_same : (ls : List Link) → StackStands p c (given ls) → AreLinks p ls → Same p (call p (given ls) c m w) (call q (made ts first ls) c n w)
    unfolding given made AreLinks
    call_same [] k z = tt
    call_same (Plain (In e got) ∷ ls) k z = call_in_same e got ls k z.1
    call_same (Plain (To place) ∷ ls) k z = tt
    call_same (Plain (Doing t stage) ∷ ls) k z = tt
    call_same (Plain (Before ss) ∷ ls) k z = tt
    call_same (Plain (Returns d') ∷ ls) k z = tt
    call_same (Plain (Resumes d' x) ∷ ls) k z = tt
    call_same (Index Left a ∷ ls) k z = tt
    call_same (Index Right a ∷ ls) k z = tt
    call_same (Converted side a e ty at ∷ ls) k z = tt

    handed_same : (v : Datum) (d : CopyOf) (ls : List Link) → d.function < length p.functions → AreLinks p ls → Same p (handed v d (given ls) m w) (handed v d (made ts first ls) n w)
    unfolding given made AreLinks added_expression
    handed_same v d (Plain (In (tree.Call f values ty line) Called) ∷ ls) l z = to p rows fs mk o d (Holds v) (Holds v) ls m n w None l refl z.1 agree
    handed_same v d [] l z = tt
    handed_same v d (Plain (In e got) ∷ ls) l z = tt
    handed_same v d (Plain (To place) ∷ ls) l z = tt
    handed_same v d (Plain (Doing t stage) ∷ ls) l z = tt
    handed_same v d (Plain (Before ss) ∷ ls) l z = tt
    handed_same v d (Plain (Returns d') ∷ ls) l z = tt
    handed_same v d (Plain (Resumes d' x) ∷ ls) l z = tt
    handed_same v d (Index Left a ∷ ls) l z = tt
    handed_same v d (Index Right a ∷ ls) l z = tt
    handed_same v d (Converted side a e ty at ∷ ls) l z = tt

    leave_same : (v : Datum) (ls : List Link) → AreLinks p ls → Same p (leave v (given ls) m w) (leave v (made ts first ls) n w)
    unfolding given made AreLinks
    leave_same v [] z = tt
    leave_same v (Plain (In e got) ∷ ls) z = tt
    leave_same v (Plain (To place) ∷ ls) z = tt
    leave_same v (Plain (Doing t stage) ∷ ls) z = tt
    leave_same v (Plain (Before ss) ∷ ls) z = tt
    leave_same v (Plain (Returns d') ∷ ls) z = handed_same v d' ls z.0 z.1
    leave_same v (Plain (Resumes d' x) ∷ ls) z = tt
    leave_same v (Index side a ∷ ls) z = tt
    leave_same v (Converted side a e ty at ∷ ls) z = tt

    -- ---- statements
    turned_same : (t : Statement) (stage : Stage) (ls : List Link) → AreLinks p ls → Same p (turned t stage (given ls) c m w) (turned (added_statement ts first t) (added_stage ts first stage) (made ts first ls) c n w)
    unfolding added_statement
    turned_same (tree.Loop shape begin condition step body line) Turns ls z = next_same p rows fs mk o c small m n agree w (tree.Loop shape begin condition step body line) step condition body ls z
    turned_same (tree.Switch e cases default ss line) Turns ls z = go control.Past ls z
    turned_same (tree.If chain otherwise line) (InArm more) ls z = go control.Past ls z
    turned_same _ _ ls z = tt

    before_same : (ss : Statements) (ls : List Link) → AreLinks p ls → Same p (proceed (Before ss ∷ given ls) c m w) (proceed (Before (added_statements ts first ss) ∷ made ts first ls) c n w)
    unfolding given made AreLinks added_statement
    before_same tree.NoStatement ls z = go control.Past ls z
    before_same (tree.AndStatement t ss) ls z = go (control.Run t) (Plain (Before ss) ∷ ls) (tt, z)

    proceed_same : (ls : List Link) → AreLinks p ls → Same p (proceed (given ls) c m w) (proceed (made ts first ls) c n w)
    unfolding given made AreLinks
    proceed_same [] z = to p rows fs mk o c control.Over control.Over [] m n (noted Ended w) (Some Ended) small refl z agree
    proceed_same (Plain (In e got) ∷ ls) z = tt
    proceed_same (Plain (To place) ∷ ls) z = tt
    proceed_same (Plain (Doing t stage) ∷ ls) z = turned_same t stage ls z.1
    proceed_same (Plain (Before ss) ∷ ls) z = before_same ss ls z.1
    proceed_same (Plain (Returns d') ∷ ls) z = go (control.Leaves datum.Missing) (Plain (Returns d') ∷ ls) z
    proceed_same (Plain (Resumes d' x) ∷ ls) z = to p rows fs mk o d' x (added_focus ts first x) ls m n (left w) None z.0 refl z.1 agree
    proceed_same (Index side a ∷ ls) z = tt
    proceed_same (Converted side a e ty at ∷ ls) z = tt

    break_same : (ls : List Link) → AreLinks p ls → Same p (break_at (given ls) c m w) (break_at (made ts first ls) c n w)
    unfolding given made AreLinks
    break_same [] z = tt
    break_same (Plain (In e got) ∷ ls) z = tt
    break_same (Plain (To place) ∷ ls) z = tt
    break_same (Plain (Doing t Turns) ∷ ls) z = go control.Past ls z.1
    break_same (Plain (Doing t (InArm more)) ∷ ls) z = break_same ls z.1
    break_same (Plain (Doing t stage) ∷ ls) z = tt
    break_same (Plain (Before ss) ∷ ls) z = break_same ls z.1
    break_same (Plain (Returns d') ∷ ls) z = tt
    break_same (Plain (Resumes d' x) ∷ ls) z = tt
    break_same (Index side a ∷ ls) z = tt
    break_same (Converted side a e ty at ∷ ls) z = tt

    continue_same : (ls : List Link) → AreLinks p ls → Same p (continue_at (given ls) c m w) (continue_at (made ts first ls) c n w)
    unfolding given made AreLinks added_statement
    continue_same [] z = tt
    continue_same (Plain (In e got) ∷ ls) z = tt
    continue_same (Plain (To place) ∷ ls) z = tt
    continue_same (Plain (Doing (tree.Loop shape begin condition step body line) Turns) ∷ ls) z = go control.Past (Plain (Doing (tree.Loop shape begin condition step body line) Turns) ∷ ls) z
    continue_same (Plain (Doing (tree.Switch e cases default ss line) Turns) ∷ ls) z = continue_same ls z.1
    continue_same (Plain (Doing t (InArm more)) ∷ ls) z = continue_same ls z.1
    continue_same (Plain (Doing t stage) ∷ ls) z = tt
    continue_same (Plain (Before ss) ∷ ls) z = continue_same ls z.1
    continue_same (Plain (Returns d') ∷ ls) z = tt
    continue_same (Plain (Resumes d' x) ∷ ls) z = tt
    continue_same (Index side a ∷ ls) z = tt
    continue_same (Converted side a e ty at ∷ ls) z = tt

    return_same : (ls : List Link) → AreLinks p ls → Same p (proceed (unwound (given ls)) c m w) (proceed (unwound (made ts first ls)) c n w)
    return_same ls z =
        subst (λ k. Same p (proceed (unwound (given ls)) c m w) (proceed k c n w)) (sym (unwound_made p rows fs mk o c small m n agree w ls))
        (subst (λ k. Same p (proceed k c m w) (proceed (made ts first (unwound_links ls)) c n w)) (sym (unwound_given p rows fs mk o c small m n agree w ls)) (proceed_same (unwound_links ls) (unwound_proper p rows fs mk o c small m n agree w ls z)))

    loop_same : (shape : LoopForm) (begin condition step : Option Expression) (body : Statement) (line : ℕ) (ls : List Link) → AreLinks p ls
        → Same p (loops shape (tree.Loop shape begin condition step body line) begin condition body (given ls) c m w)
        (loops shape (tree.Loop shape (added_option ts first begin) (added_option ts first condition) (added_option ts first step) (added_statement ts first body) line) (added_option ts first begin) (added_option ts first condition) (added_statement ts first body) (made ts first ls) c n w)
    unfolding added_statement
    loop_same shape begin condition step body line ls z = loops_same p rows fs mk o c small m n agree w shape (tree.Loop shape begin condition step body line) begin condition body ls z

  -- ---- a statement begins
  module _ (c : CopyOf) (small : c.function < length p.functions) (m n : Memory) (agree : Agree p m n) (w : World Byte) where
    emptied : (local : ℕ) → Agree p (cleared m (local_of p c local)) (cleared n (local_of q c local))
    emptied local = subst (λ z. Agree p (cleared m (local_of p c local)) (cleared n z)) (sym (same_local p rows fs mk c local small)) (agree_cleared p m n (local_of p c local) agree)

    begin_same : (t : Statement) (ls : List Link) → AreLinks p ls → Same p (begin s t (given ls) c m w) (begin r (added_statement ts first t) (made ts first ls) c n w)
    unfolding given made AreLinks added_statement
    begin_same (tree.Block ss line) ls z = one p rows fs mk o c small m n agree w control.Past (Plain (Before ss) ∷ ls) (tt, z)
    begin_same (tree.Empty line) ls z = one p rows fs mk o c small m n agree w control.Past ls z
    begin_same (tree.Expr e line) ls z = one p rows fs mk o c small m n agree w (Eval e) (Plain (Doing (tree.Expr e line) Tests) ∷ ls) (tt, z)
    begin_same (tree.Declare local line) ls z =
        one p rows fs mk o c small (cleared m (local_of p c local)) (cleared n (local_of q c local)) (emptied local) w control.Past ls z
    begin_same (tree.InitScalar local e line) ls z =
        one p rows fs mk o c small (cleared m (local_of p c local)) (cleared n (local_of q c local)) (emptied local) w (Eval e) (Plain (Doing (tree.InitScalar local e line) Tests) ∷ ls) (tt, z)
    begin_same (tree.InitList local all line) ls z = list_same c small (cleared m (local_of p c local)) (cleared n (local_of q c local)) (emptied local) w local all all line ls z
    begin_same (tree.If chain otherwise line) ls z = arms_same p rows fs mk o c small m n agree w (tree.If chain otherwise line) chain otherwise ls z
    begin_same (tree.Loop shape begin condition step body line) ls z = loop_same c small m n agree w shape begin condition step body line ls z
    begin_same (tree.Switch e cases default ss line) ls z = one p rows fs mk o c small m n agree w (Eval e) (Plain (Doing (tree.Switch e cases default ss line) Tests) ∷ ls) (tt, z)
    begin_same (tree.Break line) ls z = break_same c small m n agree w ls z
    begin_same (tree.Continue line) ls z = continue_same c small m n agree w ls z
    begin_same (tree.Return None line) ls z = return_same c small m n agree w ls z
    begin_same (tree.Return (Some e) line) ls z = one p rows fs mk o c small m n agree w (Eval e) (Plain (Doing (tree.Return (Some e) line) Tests) ∷ ls) (tt, z)

    -- ---- accesses are those of a node that stands on top
    pub plain_fetch : (spot : Spot) (read : List Byte) (ls : List Link) → FetchStands p (given ls) spot read → IsPlain ls
    unfolding given
    plain_fetch spot read [] f = tt
    plain_fetch spot read (Plain x ∷ ls) f = tt
    plain_fetch spot read (Index Left a ∷ ls) f = absurd f.node
    plain_fetch spot read (Index Right a ∷ ls) f = absurd f.node
    plain_fetch spot read (Converted side a e ty at ∷ ls) f = absurd f.node

    plain_skim : (spot : Spot) (left : ℕ) (ls : List Link) → SkimStands p (given ls) spot left → IsPlain ls
    unfolding given
    plain_skim spot left [] f = tt
    plain_skim spot left (Plain x ∷ ls) f = tt
    plain_skim spot left (Index Left a ∷ ls) f = absurd f.node
    plain_skim spot left (Index Right a ∷ ls) f = absurd f.node
    plain_skim spot left (Converted side a e ty at ∷ ls) f = absurd f.node

    plain_write : (spot : Spot) (v : Datum) (at : ℕ) (ls : List Link) → WriteStands p c (given ls) spot v at → IsPlain ls
    unfolding given
    plain_write spot v at [] f = tt
    plain_write spot v at (Plain x ∷ ls) f = tt
    plain_write spot v at (Index Left a ∷ ls) f = absurd f.node
    plain_write spot v at (Index Right a ∷ ls) f = absurd f.node
    plain_write spot v at (Converted side a e ty at' ∷ ls) f = absurd f.node

    plain_copy : (there from : Spot) (left : ℕ) (ls : List Link) → CopyStands p c (given ls) there from left → IsPlain ls
    unfolding given
    plain_copy there from left [] f = tt
    plain_copy there from left (Plain x ∷ ls) f = tt
    plain_copy there from left (Index Left a ∷ ls) f = absurd f.node
    plain_copy there from left (Index Right a ∷ ls) f = absurd f.node
    plain_copy there from left (Converted side a e ty at ∷ ls) f = absurd f.node

    plain_spell : (spot : Spot) (text : List ℕ) (left : ℕ) (ls : List Link) → SpellStands p c (given ls) spot text left → IsPlain ls
    unfolding given
    plain_spell spot text left [] f = tt
    plain_spell spot text left (Plain x ∷ ls) f = tt
    plain_spell spot text left (Index Left a ∷ ls) f = absurd f.node
    plain_spell spot text left (Index Right a ∷ ls) f = absurd f.node
    plain_spell spot text left (Converted side a e ty at ∷ ls) f = absurd f.node

    -- ---- a micro-step
    pub act_same : (x : Focus) (ls : List Link) → IsCommon p x ls → IsReached p c → FocusStands p c x (given ls) → StackStands p c (given ls) → AreLinks p ls
        → Same p (act s x (given ls) c m w) (act r (added_focus ts first x) (made ts first ls) c n w)
    unfolding act
    act_same (Eval e) ls d reached f k z = eval_same p rows fs mk o c small m n agree w e ls d z
    act_same (Find place) ls d reached f k z = find_same p rows fs mk o c small m n agree w place ls z
    act_same (Holds v) ls d reached f k z = give_same p rows fs mk o c small m n agree w v ls d k f z
    act_same (Found spot) ls d reached f k z = found_same p rows fs mk o c small m n agree w spot ls reached k f z
    act_same (control.Run t) ls d reached f k z = begin_same t ls z
    act_same control.Past ls d reached f k z = proceed_same c small m n agree w ls z
    act_same (control.Fetch spot read) ls d reached f k z = fetch_same c small m n agree w spot read ls (plain_fetch spot read ls f) z
    act_same (control.Skim spot left byte) ls d reached f k z = skim_same c small m n agree w spot left byte ls (plain_skim spot left ls f) z
    act_same (control.Write spot v at) ls d reached f k z = write_same c small m n agree w spot v at ls (plain_write spot v at ls f) z
    act_same (control.PutBit register number v old) ls d reached f k z = put_bit_same c small m n agree w register number v old ls z
    act_same (control.CopyRead there from left) ls d reached f k z = copy_read_same c small m n agree w there from left ls (plain_copy there from left ls f) z
    act_same (control.CopyWrite there from byte left) ls d reached f k z = copy_write_same c small m n agree w there from byte left ls z
    act_same (control.Spell spot text left) ls d reached f k z = spell_same c small m n agree w spot text left ls (plain_spell spot text left ls f) z
    act_same (control.Blank at left) ls d reached f k z = blank_same c small m n agree w at left ls z
    act_same control.Calls ls d reached f k z = call_same c small m n agree w ls k z
    act_same (control.Leaves v) ls d reached f k z = leave_same c small m n agree w v ls z
    act_same (control.Compares v labels) ls d reached f k z = compares_same p rows fs mk o c small m n agree w v labels ls z
    act_same control.Over ls d reached f k z = refl
