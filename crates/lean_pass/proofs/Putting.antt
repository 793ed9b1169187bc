-- What is made of rows, of a block and of a program.
use Rattle.std.proofs.Common.{◌≡◌, ℕ, zero, suc, ◌+◌, ◌<◌, ◌≤◌, Bool, true, false, not, ◌&&◌, ◌||◌, if◌then◌else◌, List, [], ◌∷◌, ◌++◌, length, get_or, take, slice_get, Option, Some, None, refl, sym, ap, ◌∙◌, subst, append-nil, append_assoc, true≢false, arith}
use Rattle.std.specs.List.{All, AllZip}
use Rattle.std.specs.Prelude.{nat_eq, slice_index_or}
use Rattle.std.proofs.lemmas.Option.{none-some}
use Rattle.std.proofs.lemmas.List.{take_more, take_all}
use Rattle.std.proofs.lemmas.List.Elements.{AllZip-push}
use Rattle.core_code.specs.Bytes.{Object}
use Rattle.sym_code.specs.Layout.{DataLayout}
use Rattle.sym_code.specs.Programs.{same_name, block_in}
use Rattle.sym_code.specs.WellFormed.{is_well_formed, are_well_formed}
use Rattle.sym_code.specs.declared.code.BlockName.{BlockName}
use Rattle.sym_code.specs.declared.code.BlockName.TheVariants as names
use Rattle.sym_code.specs.declared.code.Sym.{Sym}
use Rattle.sym_code.specs.declared.code.Sym.TheVariants as syms
use Rattle.sym_code.specs.declared.code.SymBlock.{SymBlock}
use Rattle.lean_code.specs.Rows as certified
use Rattle.lean_code.specs.Rows.{olds, puts, is_label}
use Rattle.lean_code.specs.Checked as listed
use Rattle.lean_code.specs.Admissible.{are_admissible, AreByRows}
use Rattle.lean_code.specs.Clear.{IsClear}
use Rattle.lean_code.specs.Steady.{are_steady}
use Rattle.lean_code.proofs.Admitting.{tested_is_admissible}
use Rattle.lean_code.specs.Checked.{rows_in, row_in, ListedBlock}
use Rattle.lean_pass.specs.Made.{IsSeen, put_of, is_named, are_distinct, Serves, IsAsGiven, IsLean, Kept, Made, HasName}
use Rattle.lean_pass.specs.Views.{act_of, row_of, rows_of, block_of, blocks_of, sketch_of, hidden_by}
use Rattle.lean_pass.specs.declared.rows.Act.{Act}
use Rattle.lean_pass.specs.declared.rows.Act.TheVariants as acts
use Rattle.lean_pass.specs.declared.rows.FlagName.TheVariants as flags
use Rattle.lean_pass.specs.declared.rows.LeanBlock.{LeanBlock}
use Rattle.lean_pass.specs.declared.rows.Row.{Row}
use Rattle.lean_pass.specs.declared.rows.Sketch.{Sketch}

never : {A : Type 0} → false ≡ true → A
never e = absurd (true≢false (sym e))

and_first : (a b : Bool) → (a && b) ≡ true → a ≡ true
and_first true b e = refl
and_first false b e = e

and_last : (a b : Bool) → (a && b) ≡ true → b ≡ true
and_last true b e = e
and_last false b e = never e

or_first : (a b : Bool) → (a || b) ≡ false → a ≡ false
or_first true b e = absurd (true≢false e)
or_first false b e = refl

or_last : (a b : Bool) → (a || b) ≡ false → b ≡ false
or_last true b e = absurd (true≢false e)
or_last false b e = e

is_not : (a : Bool) → not a ≡ true → a ≡ false
is_not true e = never e
is_not false e = refl

same_block : (a b : LeanBlock) → Some a ≡ Some b → a ≡ b
same_block a b e = cc

-- ---- an instruction
put_as : (s : Sym) (act : Act) → certified.put_of s (act_of act) ≡ put_of s act
put_as (syms.Label label) acts.Keeps = refl
put_as (syms.Label label) acts.Drops = refl
put_as (syms.Label label) (acts.Puts op value) = refl
put_as (syms.Label label) acts.Narrows = refl
put_as (syms.Label label) acts.Clears = refl
put_as (syms.Label label) (acts.Reads before) = refl
put_as (syms.Label label) (acts.Tests flag turned) = refl
put_as s acts.Keeps = refl
put_as s acts.Drops = refl
put_as s (acts.Puts op value) = refl
put_as s acts.Narrows = refl
put_as s acts.Clears = refl
put_as s (acts.Reads before) = refl
put_as s (acts.Tests flag turned) = refl

abbrev formed_if : Option Sym → Bool
formed_if None = true
formed_if (Some s) = is_well_formed s

formed_by : (s : Sym) (act : Act) → is_well_formed s ≡ true → formed_if (put_of s act) ≡ true
formed_by (syms.Label label) act e = refl
formed_by s acts.Keeps e = e
formed_by s acts.Drops e = refl
formed_by s (acts.Puts op value) e = refl
formed_by s acts.Narrows e = e
formed_by s acts.Clears e = e
formed_by s (acts.Reads before) e = e
formed_by (syms.Bit op operand bit) (acts.Tests flags.Carry turned) e = refl
formed_by (syms.Bit op operand bit) (acts.Tests flags.Zero turned) e = refl
formed_by s (acts.Tests flag turned) e = e

pub put_formed : (s new : Sym) (act : Act) → is_well_formed s ≡ true → Some new ≡ put_of s act → is_well_formed new ≡ true
put_formed s new act formed is = ap formed_if is ∙ formed_by s act formed

pub put_some : (row : Row) (s : Sym) (old new : List Sym) → Some s ≡ put_of row.sym row.act → new ≡ old ++ s ∷ [] → (rest : List certified.Row) → new ++ puts rest ≡ old ++ puts (row_in (row_of row) ∷ rest)
put_some row s old new is put rest =
    ap (λ (l : List Sym). l ++ puts rest) put ∙ append_assoc old (s ∷ []) (puts rest)
    ∙ ap (λ (o : Option Sym). old ++ certified.in_front o (puts rest)) (is ∙ sym (put_as row.sym row.act))

pub put_none : (row : Row) (old : List Sym) → None ≡ put_of row.sym row.act → (rest : List certified.Row) → old ++ puts rest ≡ old ++ puts (row_in (row_of row) ∷ rest)
put_none row old is rest = ap (λ (o : Option Sym). old ++ certified.in_front o (puts rest)) (is ∙ sym (put_as row.sym row.act))

-- ---- lists of rows
pub row_formed : (left rest : List Row) (row : Row) → left ≡ row ∷ rest → are_well_formed (olds (rows_in (rows_of left))) ≡ true → is_well_formed row.sym ≡ true
row_formed left rest row is formed = and_first (is_well_formed row.sym) (are_well_formed (olds (rows_in (rows_of rest)))) (subst (λ (l : List Row). are_well_formed (olds (rows_in (rows_of l))) ≡ true) is formed)

pub rows_formed : (left rest : List Row) (row : Row) → left ≡ row ∷ rest → are_well_formed (olds (rows_in (rows_of left))) ≡ true → are_well_formed (olds (rows_in (rows_of rest))) ≡ true
rows_formed left rest row is formed = and_last (is_well_formed row.sym) (are_well_formed (olds (rows_in (rows_of rest)))) (subst (λ (l : List Row). are_well_formed (olds (rows_in (rows_of l))) ≡ true) is formed)

pub puts_begin : (old : List Sym) (rows : List Row) → old ≡ [] → old ++ puts (rows_in (rows_of rows)) ≡ puts (rows_in (rows_of rows))
puts_begin old rows none = ap (λ (l : List Sym). l ++ puts (rows_in (rows_of rows))) none

pub puts_on : (old new whole : List Sym) (left rest : List Row) (row : Row) → left ≡ row ∷ rest → ((r : List certified.Row) → new ++ puts r ≡ old ++ puts (row_in (row_of row) ∷ r))
    → old ++ puts (rows_in (rows_of left)) ≡ whole → new ++ puts (rows_in (rows_of rest)) ≡ whole
puts_on old new whole left rest row is put before = put (rows_in (rows_of rest)) ∙ ap (λ (l : List Row). old ++ puts (rows_in (rows_of l))) (sym is) ∙ before

pub puts_end : (old whole : List Sym) (left : List Row) → left ≡ [] → old ++ puts (rows_in (rows_of left)) ≡ whole → old ≡ whole
puts_end old whole left is before = sym (append-nil old) ∙ ap (λ (l : List Row). old ++ puts (rows_in (rows_of l))) (sym is) ∙ before

olds_push : (rows : List Row) (row : Row) → olds (rows_in (rows_of (rows ++ row ∷ []))) ≡ olds (rows_in (rows_of rows)) ++ row.sym ∷ []
olds_push [] row = refl
olds_push (x ∷ rows) row = ap (λ (l : List Sym). x.sym ∷ l) (olds_push rows row)

pub olds_begin : (rows : List Row) (list : List Sym) → rows ≡ [] → olds (rows_in (rows_of rows)) ++ list ≡ list
olds_begin rows list none = ap (λ (l : List Row). olds (rows_in (rows_of l)) ++ list) none

pub olds_on : (old new : List Row) (row : Row) (s : Sym) (left rest whole : List Sym) → left ≡ s ∷ rest → new ≡ old ++ row ∷ [] → row.sym ≡ s → olds (rows_in (rows_of old)) ++ left ≡ whole → olds (rows_in (rows_of new)) ++ rest ≡ whole
olds_on old new row s left rest whole is put same before =
    ap (λ (l : List Row). olds (rows_in (rows_of l)) ++ rest) put
    ∙ ap (λ (l : List Sym). l ++ rest) (olds_push old row)
    ∙ append_assoc (olds (rows_in (rows_of old))) (row.sym ∷ []) rest
    ∙ ap (λ (x : Sym). olds (rows_in (rows_of old)) ++ (x ∷ rest)) same
    ∙ ap (λ (l : List Sym). olds (rows_in (rows_of old)) ++ l) (sym is) ∙ before

pub olds_end : (rows : List Row) (left whole : List Sym) → left ≡ [] → olds (rows_in (rows_of rows)) ++ left ≡ whole → olds (rows_in (rows_of rows)) ≡ whole
olds_end rows left whole is before = sym (append-nil (olds (rows_in (rows_of rows)))) ∙ ap (λ (l : List Sym). olds (rows_in (rows_of rows)) ++ l) (sym is) ∙ before

-- ---- a list as it is
pub first_formed : (left : List Sym) (s : Sym) (rest : List Sym) → left ≡ s ∷ rest → are_well_formed left ≡ true → is_well_formed s ≡ true
first_formed left s rest is formed = and_first (is_well_formed s) (are_well_formed rest) (subst (λ (l : List Sym). are_well_formed l ≡ true) is formed)

pub rest_formed : (left : List Sym) (s : Sym) (rest : List Sym) → left ≡ s ∷ rest → are_well_formed left ≡ true → are_well_formed rest ≡ true
rest_formed left s rest is formed = and_last (is_well_formed s) (are_well_formed rest) (subst (λ (l : List Sym). are_well_formed l ≡ true) is formed)

pub whole_on : (old new whole left : List Sym) (s : Sym) (rest : List Sym) → left ≡ s ∷ rest → new ≡ old ++ s ∷ [] → old ++ left ≡ whole → new ++ rest ≡ whole
whole_on old new whole left s rest is put before = ap (λ (l : List Sym). l ++ rest) put ∙ append_assoc old (s ∷ []) rest ∙ ap (λ (l : List Sym). old ++ l) (sym is) ∙ before

pub whole_end : (old whole left : List Sym) → left ≡ [] → old ++ left ≡ whole → old ≡ whole
whole_end old whole left is before = sym (append-nil old) ∙ ap (λ (l : List Sym). old ++ l) (sym is) ∙ before

-- ---- blocks
pub seen_none : (list : List SymBlock) (made : List LeanBlock) → made ≡ [] → AllZip IsSeen (take 0 list) made
seen_none list made none =
    let P : List LeanBlock → Type 0 = λ m. AllZip IsSeen (take 0 list) m in
    subst P (sym none) tt

seen_push : (xs : List SymBlock) (ys : List LeanBlock) (x : SymBlock) (y : LeanBlock) → AllZip IsSeen xs ys → IsSeen x y → AllZip IsSeen (xs ++ x ∷ []) (ys ++ y ∷ [])
seen_push [] [] x y all one = (one, tt)
seen_push [] (b ∷ ys) x y all one = absurd all
seen_push (a ∷ xs) [] x y all one = absurd all
seen_push (a ∷ xs) (b ∷ ys) x y all one = (all.0, seen_push xs ys x y all.1 one)

pub seen_more : (list : List SymBlock) (made new : List LeanBlock) (i : ℕ) (block : SymBlock) (x : LeanBlock) → i < length list → block ≡ get_or list i block → new ≡ made ++ x ∷ [] → IsSeen block x → AllZip IsSeen (take i list) made → AllZip IsSeen (take (i + 1) list) new
seen_more list made new i block x below is put one before =
    let next : take (i + 1) list ≡ take i list ++ block ∷ [] = take_more list i block below ∙ ap (λ (b : SymBlock). take i list ++ b ∷ []) (sym is) in
    let P : List SymBlock → Type 0 = λ l. AllZip IsSeen l new in
    let Q : List LeanBlock → Type 0 = λ l. AllZip IsSeen (take i list ++ block ∷ []) l in
    subst P (sym next) (subst Q (sym put) (seen_push (take i list) made block x before one))

pub seen_all : (list : List SymBlock) (made : List LeanBlock) (i : ℕ) → length list ≤ i → AllZip IsSeen (take i list) made → AllZip IsSeen list made
seen_all list made i past all =
    let P : List SymBlock → Type 0 = λ l. AllZip IsSeen l made in
    subst P (take_all i list past) all

module _ (R : SymBlock → SymBlock → Type 0) where
  any_none : (list made : List SymBlock) → made ≡ [] → AllZip R (take 0 list) made
  any_none list made none =
      let P : List SymBlock → Type 0 = λ m. AllZip R (take 0 list) m in
      subst P (sym none) tt

  any_more : (list made new : List SymBlock) (i : ℕ) (block x : SymBlock) → i < length list → block ≡ get_or list i block → new ≡ made ++ x ∷ [] → R block x → AllZip R (take i list) made → AllZip R (take (i + 1) list) new
  any_more list made new i block x below is put one before =
      let next : take (i + 1) list ≡ take i list ++ block ∷ [] = take_more list i block below ∙ ap (λ (b : SymBlock). take i list ++ b ∷ []) (sym is) in
      let P : List SymBlock → Type 0 = λ l. AllZip R l new in
      let Q : List SymBlock → Type 0 = λ l. AllZip R (take i list ++ block ∷ []) l in
      subst P (sym next) (subst Q (sym put) (AllZip-push R (take i list) made block x before one))

  any_all : (list made : List SymBlock) (i : ℕ) → length list ≤ i → AllZip R (take i list) made → AllZip R list made
  any_all list made i past all =
      let P : List SymBlock → Type 0 = λ l. AllZip R l made in
      subst P (take_all i list past) all

pub same_none : (list made : List SymBlock) → made ≡ [] → AllZip IsAsGiven (take 0 list) made
same_none = any_none IsAsGiven

pub same_more : (list made new : List SymBlock) (i : ℕ) (block x : SymBlock) → i < length list → block ≡ get_or list i block → new ≡ made ++ x ∷ [] → IsAsGiven block x → AllZip IsAsGiven (take i list) made → AllZip IsAsGiven (take (i + 1) list) new
same_more = any_more IsAsGiven

pub same_all : (list made : List SymBlock) (i : ℕ) → length list ≤ i → AllZip IsAsGiven (take i list) made → AllZip IsAsGiven list made
same_all = any_all IsAsGiven

pub zip_none : (k : listed.Sketch) (list made : List SymBlock) → made ≡ [] → AllZip (listed.IsBlockOf k) (take 0 list) made
zip_none k = any_none (listed.IsBlockOf k)

pub zip_more : (k : listed.Sketch) (list made new : List SymBlock) (i : ℕ) (block x : SymBlock) → i < length list → block ≡ get_or list i block → new ≡ made ++ x ∷ [] → listed.IsBlockOf k block x → AllZip (listed.IsBlockOf k) (take i list) made → AllZip (listed.IsBlockOf k) (take (i + 1) list) new
zip_more k = any_more (listed.IsBlockOf k)

pub zip_all : (k : listed.Sketch) (list made : List SymBlock) (i : ℕ) → length list ≤ i → AllZip (listed.IsBlockOf k) (take i list) made → AllZip (listed.IsBlockOf k) list made
zip_all k = any_all (listed.IsBlockOf k)

-- ---- what a certificate makes
pub list_formed : (blocks : List ListedBlock) (given : SymBlock) (found : LeanBlock) → block_of found ≡ listed.block_in blocks given.name → Serves blocks given → are_well_formed given.list.items ≡ true → are_well_formed (olds (rows_in (rows_of found.rows.items))) ≡ true
list_formed blocks given found is serves formed =
    ap (λ (b : ListedBlock). are_well_formed (olds (rows_in b.rows))) is ∙ ap are_well_formed (sym serves) ∙ formed

pub made_is : (l : DataLayout) (k : Sketch) (given made : SymBlock) (found : LeanBlock) → block_of found ≡ listed.block_in (blocks_of k.blocks.items) given.name → made.name ≡ given.name → Serves (blocks_of k.blocks.items) given
    → made.list.items ≡ puts (rows_in (rows_of found.rows.items)) → listed.IsBlockOf (sketch_of l k) given made
made_is l k given made found is name serves put = record { name = name; before = serves; after = put ∙ ap (λ (b : ListedBlock). puts (rows_in b.rows)) is }

pub serves_at : (blocks : List ListedBlock) (given : List SymBlock) (i : ℕ) (block : SymBlock) → i < length given → block ≡ get_or given i block → All (Serves blocks) given → Serves blocks block
serves_at blocks given i block below is all = subst (Serves blocks) (sym is) (all i block below)

same_number : (n : ℕ) → nat_eq n n ≡ true
same_number n = grind arith

same_self : (name : BlockName) → same_name name name ≡ true
same_self names.Start = refl
same_self (names.Copy c) = same_number c

other_name : (bs : List LeanBlock) (name : BlockName) → is_named bs name ≡ false → (i : ℕ) (b : LeanBlock) → slice_get bs i ≡ Some b → same_name name b.name ≡ false
other_name [] name none i b got = absurd (none-some b got)
other_name (x ∷ bs) name none zero b got = ap (λ (y : LeanBlock). same_name name y.name) (sym (same_block x b got)) ∙ or_first (same_name name x.name) (is_named bs name) none
other_name (x ∷ bs) name none (suc i) b got = other_name bs name (or_last (same_name name x.name) (is_named bs name) none) i b got

found_at : (bs : List LeanBlock) → are_distinct bs ≡ true → (i : ℕ) (b : LeanBlock) → slice_get bs i ≡ Some b → listed.block_in (blocks_of bs) b.name ≡ block_of b
found_at [] e i b got = absurd (none-some b got)
found_at (x ∷ bs) e zero b got =
    subst (λ (y : LeanBlock). listed.block_in (blocks_of (x ∷ bs)) y.name ≡ block_of y) (same_block x b got) (ap (λ (c : Bool). if c then block_of x else listed.block_in (blocks_of bs) x.name) (same_self x.name))
found_at (x ∷ bs) e (suc i) b got =
    ap (λ (c : Bool). if c then block_of x else listed.block_in (blocks_of bs) b.name) (other_name bs x.name (is_not (is_named bs x.name) (and_first (not (is_named bs x.name)) (are_distinct bs) e)) i b got)
    ∙ found_at bs (and_last (not (is_named bs x.name)) (are_distinct bs) e) i b got

-- the block at the same place
record Beside (blocks : List LeanBlock) (i : ℕ) (given : SymBlock) : Type 0 where
  block : LeanBlock
  got : slice_get blocks i ≡ Some block
  seen : IsSeen given block

beside : (given : List SymBlock) (blocks : List LeanBlock) → AllZip IsSeen given blocks → (i : ℕ) (d : SymBlock) → i < length given → Beside blocks i (slice_index_or given i d)
beside [] blocks all i d below = absurd (omega arith)
beside (g ∷ given) [] all i d below = absurd all
beside (g ∷ given) (b ∷ blocks) all zero d below = record { block = b; got = refl; seen = all.0 }
beside (g ∷ given) (b ∷ blocks) all (suc i) d below = let h = beside given blocks all.1 i d (omega arith) in record { block = h.block; got = h.got; seen = h.seen }

pub all_serve : (given : List SymBlock) (blocks : List LeanBlock) → AllZip IsSeen given blocks → are_distinct blocks ≡ true → All (Serves (blocks_of blocks)) given
all_serve given blocks all distinct i d below =
    let h = beside given blocks all i d below in
    sym h.seen.code ∙ ap (λ (b : ListedBlock). olds (rows_in b.rows)) (sym (found_at blocks distinct i h.block h.got) ∙ ap (listed.block_in (blocks_of blocks)) h.seen.name)

-- the block of a name in the given code, and in the code that is made
module _ (k : listed.Sketch) (whole : List LeanBlock) (same : k.blocks ≡ blocks_of whole) (name : BlockName) where
  abbrev rows_named : List LeanBlock → List certified.Row
  rows_named blocks = rows_in (listed.block_in (blocks_of blocks) name).rows

  given_named : (given : List SymBlock) (blocks : List LeanBlock) → AllZip IsSeen given blocks → block_in given name ≡ olds (rows_named blocks)
  given_named [] [] all = refl
  given_named [] (b ∷ blocks) all = absurd all
  given_named (g ∷ given) [] all = absurd all
  given_named (g ∷ given) (b ∷ blocks) all = by (same_name g.name name) (same_name b.name name) (ap (λ (n : BlockName). same_name n name) (sym all.0.name)) (given_named given blocks all.1)
    where
      by : (s t : Bool) → s ≡ t → block_in given name ≡ olds (rows_named blocks) → (if s then g.list.items else block_in given name) ≡ olds (rows_in (if t then block_of b else listed.block_in (blocks_of blocks) name).rows)
      by true true is later = sym all.0.code
      by false false is later = later
      by true false is later = absurd (true≢false is)
      by false true is later = never is

  -- each block of the certificate is the one that counts
  abbrev Count : List LeanBlock → Type 0
  Count blocks = (i : ℕ) (b : LeanBlock) → slice_get blocks i ≡ Some b → listed.block_in (blocks_of whole) b.name ≡ block_of b

  made_named : (given made : List SymBlock) (blocks : List LeanBlock) → AllZip IsSeen given blocks → AllZip (listed.IsBlockOf k) given made → Count blocks → block_in made name ≡ puts (rows_named blocks)
  made_named [] [] [] seen all counts = refl
  made_named [] [] (b ∷ blocks) seen all counts = absurd seen
  made_named [] (m ∷ made) blocks seen all counts = absurd all
  made_named (g ∷ given) [] blocks seen all counts = absurd all
  made_named (g ∷ given) (m ∷ made) [] seen all counts = absurd seen
  made_named (g ∷ given) (m ∷ made) (b ∷ blocks) seen all counts =
      by (same_name m.name name) (same_name b.name name) (ap (λ (n : BlockName). same_name n name) (all.0.name ∙ sym seen.0.name)) (made_named given made blocks seen.1 all.1 (λ i x got. counts (suc i) x got))
    where
      found : listed.block_in k.blocks g.name ≡ block_of b
      found = ap (λ (bs : List ListedBlock). listed.block_in bs g.name) same ∙ ap (listed.block_in (blocks_of whole)) (sym seen.0.name) ∙ counts 0 b refl

      by : (s t : Bool) → s ≡ t → block_in made name ≡ puts (rows_named blocks) → (if s then m.list.items else block_in made name) ≡ puts (rows_in (if t then block_of b else listed.block_in (blocks_of blocks) name).rows)
      by true true is later = all.0.after ∙ ap (λ (x : ListedBlock). puts (rows_in x.rows)) found
      by false false is later = later
      by true false is later = absurd (true≢false is)
      by false true is later = never is

by_rows : (l : DataLayout) (k : Sketch) (given made : List SymBlock) → AllZip IsSeen given k.blocks.items → are_distinct k.blocks.items ≡ true → AllZip (listed.IsBlockOf (sketch_of l k)) given made → AreByRows (sketch_of l k) given made
by_rows l k given made seen distinct all = record {
  given_is = λ name. given_named (sketch_of l k) k.blocks.items refl name given k.blocks.items seen;
  made_is = λ name. made_named (sketch_of l k) k.blocks.items refl name given made k.blocks.items seen all (found_at k.blocks.items distinct);
}

pub is_made : (l : DataLayout) (k : Sketch) (variables : ℕ → ℕ) (lent : Object → Bool) (given made : List SymBlock) → listed.is_lean (sketch_of l k) ≡ true → are_steady (blocks_of k.blocks.items) ≡ true → are_admissible variables (blocks_of k.blocks.items) ≡ true → IsClear (hidden_by k.hidden) l lent
    → AllZip IsSeen given k.blocks.items → are_distinct k.blocks.items ≡ true → AllZip (listed.IsBlockOf (sketch_of l k)) given made → IsLean l k.handler variables lent given made
is_made l k variables lent given made tested steady admissible clear seen distinct all =
    Made (sketch_of l k) refl refl (record { tested = tested; blocks = all }) steady (tested_is_admissible variables lent (sketch_of l k) admissible clear) (by_rows l k given made seen distinct all)

-- ---- names

pub kept_is : (l : DataLayout) (handler : Option ℕ) (variables : ℕ → ℕ) (lent : Object → Bool) (given made : List SymBlock) → AllZip IsAsGiven given made → IsLean l handler variables lent given made
kept_is l handler variables lent given made all = Kept all

kept_names : (given made : List SymBlock) → AllZip IsAsGiven given made → AllZip HasName given made
kept_names [] [] all = tt
kept_names [] (m ∷ made) all = absurd all
kept_names (g ∷ given) [] all = absurd all
kept_names (g ∷ given) (m ∷ made) all = (record { name = all.0.name }, kept_names given made all.1)

made_names : (k : listed.Sketch) (given made : List SymBlock) → AllZip (listed.IsBlockOf k) given made → AllZip HasName given made
made_names k [] [] all = tt
made_names k [] (m ∷ made) all = absurd all
made_names k (g ∷ given) [] all = absurd all
made_names k (g ∷ given) (m ∷ made) all = (record { name = all.0.name }, made_names k given made all.1)

pub names_stay : (l : DataLayout) (handler : Option ℕ) (variables : ℕ → ℕ) (lent : Object → Bool) (given made : List SymBlock) → IsLean l handler variables lent given made → AllZip HasName given made
names_stay l handler variables lent given made (Kept all) = kept_names given made all
names_stay l handler variables lent given made (Made k same handled by steady admissible rows) = made_names k given made by.blocks
