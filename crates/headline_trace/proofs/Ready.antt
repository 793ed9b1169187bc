-- What blocks are like before selects are put into them: as they were selected, and leaner.
use Rattle.std.proofs.Common.{◌≡◌, ℕ, ◌+◌, inl, inr, Bool, true, false, ◌&&◌, nat_lt, if◌then◌else◌, List, [], ◌∷◌, Option, Some, None, refl, sym, ap, ◌∙◌, subst}
use Rattle.std.specs.List.{AllZip}
use Rattle.c_typed.specs.Trees.{Program}
use Rattle.c_typed.specs.declared.calls.FnId.{FnId}
use Rattle.c_typed.specs.declared.calls.FnId.TheVariants as callees
use Rattle.call_graph.specs.Numbers.{handler_at}
use Rattle.call_graph.specs.declared.types.FnCopy.{FnCopy}
use Rattle.code_place.specs.Layouts.{layout_of}
use Rattle.core_code.specs.View.{trees_in}
use Rattle.core_code.specs.declared.code.Body.{Body}
use Rattle.core_code.specs.declared.code.CoreProgram.{CoreProgram}
use Rattle.isr_save.specs.Start.{start_code}
use Rattle.program_code.specs.Leaner.{IsLeaner}
use Rattle.program_code.proofs.LeanerBlocks.{blocks_are_leaner}
use Rattle.lean_code.specs.Admissible.{is_byte_act, puts_bytes, ends_by_word}
use Rattle.lean_code.specs.Rows.{Keeps, Drops, Puts, Narrows, narrowed, Clears, cleared, Reads, Tests, FlagName, tests_flag, reads_before, Row, At, olds, puts}
use Rattle.lower_stmt.specs.Programs.{core_of}
use Rattle.pic_map.specs.declared.Placed.{Placed}
use Rattle.pic_world.specs.declared.Root.{Root}
use Rattle.program_code.specs.Joined.{IsJoined}
use Rattle.program_code.specs.Passed.{AreBlocks}
use Rattle.select_wide.specs.Blocks.{body_at, code_by, ending_at}
use Rattle.select_wide.specs.Selection.{wide_code}
use Rattle.src_rules.proofs.Starts.{sound_runs}
use Rattle.sym_code.specs.Programs.{block_in, same_name}
use Rattle.sym_code.specs.declared.code.BlockName.{BlockName}
use Rattle.sym_code.specs.declared.code.BlockName.TheVariants.{Start}
use Rattle.sym_code.specs.declared.code.Sym.{Sym}
use Rattle.sym_code.specs.declared.code.Sym.TheVariants as syms
use Rattle.sym_code.specs.declared.code.SymBlock.{SymBlock}
use Rattle.bank_page.specs.Selected.{names_of}
use Rattle.headline_trace.specs.Passed.{code_of}
use Rattle.headline_trace.specs.Plain.{is_plain, all_plain}
use Rattle.headline_trace.proofs.Bare.{code_plain}
use Rattle.headline_trace.proofs.Blocks.{is_of}
use Rattle.headline_trace.proofs.Ended.{body_ends, empty_ends, helper_ends, start_ends}
use Rattle.headline_trace.proofs.Lowered.{EndsOrNone}
use Rattle.headline_trace.proofs.Members.{Has}
use Rattle.headline_trace.proofs.Narrower.{core_given, core_ends}
use Rattle.headline_trace.proofs.Rows.{Plain}

-- The start block is the first, those behind it are plain, and each ends by a word.
pub record IsReady (core : CoreProgram) (copies : List FnCopy) (given blocks : List SymBlock) : Type 0 where
  pub start : SymBlock
  pub order : List SymBlock
  pub whole : blocks ≡ start ∷ order
  pub name : start.name ≡ Start
  pub exact : start.list.items ≡ start_code (handler_at copies) core.statics.items
  pub plain : (b : SymBlock) → Has order b → Plain b.list.items
  pub ends : (b : SymBlock) → Has (start ∷ order) b → ends_by_word true b.list.items ≡ true
  pub names : names_of blocks ≡ names_of given

-- ---- as they were selected
module _ (p : Program) (copies : List FnCopy) (core : CoreProgram) (given lean made : List SymBlock) (placed : Placed) (blocks : AreBlocks p copies core given lean made placed) where
  abbrev joined : IsJoined core copies given
  joined = blocks.joined

  behind_plain : (b : SymBlock) → Has joined.order b → Plain b.list.items
  behind_plain b h =
      let o = is_of core copies given joined b h in
      ap (λ (v : BlockName × List Sym). all_plain v.1) o.is
      ∙ code_plain copies core.bodies.items (core_given p copies (sound_runs p blocks.sound blocks.roots blocks.numbers) blocks.lowered core blocks.bodies blocks.code) (0 + o.place) o.copy.root o.copy.function

  by_ends : (c : ℕ) (o : Option Body) → body_at core.bodies.items c ≡ o → ends_by_word true (code_by copies c o) ≡ true
  by_ends c None is = refl
  by_ends c (Some body) is = either (core_ends p copies (sound_runs p blocks.sound blocks.roots blocks.numbers) blocks.lowered core blocks.bodies blocks.code c body is) where
    either : EndsOrNone (trees_in body.code.items) → ends_by_word true (code_by copies c (Some body)) ≡ true
    either (inl e) = empty_ends (λ at before tree. wide_code copies body.root before tree) (ending_at (handler_at copies) c) (trees_in body.code.items) e
    either (inr (front, e)) = body_ends (λ at before tree. wide_code copies body.root before tree) (ending_at (handler_at copies) c) (trees_in body.code.items) front e

  code_ends : (c : ℕ) (root : Root) (f : FnId) → ends_by_word true (code_of core.bodies.items copies c root f) ≡ true
  code_ends c root (callees.User f) = by_ends c (body_at core.bodies.items c) refl
  code_ends c root (callees.Helper h) = helper_ends h root c

  given_ends : (b : SymBlock) → Has (joined.start ∷ joined.order) b → ends_by_word true b.list.items ≡ true
  given_ends b (inl same) = ap (λ (x : SymBlock). ends_by_word true x.list.items) (sym same) ∙ ap (ends_by_word true) joined.exact ∙ start_ends (handler_at copies) core.statics.items
  given_ends b (inr h) =
      let o = is_of core copies given joined b h in
      ap (λ (v : BlockName × List Sym). ends_by_word true v.1) o.is ∙ code_ends (0 + o.place) o.copy.root o.copy.function

  given_ready : IsReady core copies given given
  given_ready = record {
    start = joined.start;
    order = joined.order;
    whole = joined.whole;
    name = joined.name;
    exact = joined.exact;
    plain = behind_plain;
    ends = given_ends;
    names = refl;
  }

-- ---- leaner
narrowed_plain : (s : Sym) → is_plain s ≡ true → is_plain (narrowed s) ≡ true
narrowed_plain (syms.File op file into) e = refl
narrowed_plain (syms.Movwf file) e = e
narrowed_plain (syms.Clrf file) e = e
narrowed_plain (syms.Bit op file bit) e = e
narrowed_plain (syms.Literal op value) e = e
narrowed_plain (syms.Plain op) e = e
narrowed_plain (syms.Call target) e = e
narrowed_plain (syms.Goto target) e = e
narrowed_plain (syms.Label label) e = e
narrowed_plain (syms.SelectBank bit on) e = e
narrowed_plain (syms.SelectPage bit target) e = e
narrowed_plain (syms.Table table root) e = e

cleared_plain : (s : Sym) → is_plain s ≡ true → is_plain (cleared s) ≡ true
cleared_plain (syms.File op file into) e = e
cleared_plain (syms.Movwf file) e = e
cleared_plain (syms.Clrf file) e = e
cleared_plain (syms.Bit op file bit) e = e
cleared_plain (syms.Literal op value) e = e
cleared_plain (syms.Plain op) e = e
cleared_plain (syms.Call target) e = e
cleared_plain (syms.Goto target) e = e
cleared_plain (syms.Label label) e = e
cleared_plain (syms.SelectBank bit on) e = e
cleared_plain (syms.SelectPage bit target) e = e
cleared_plain (syms.Table table root) e = e

read_plain : (n : ℕ) (s : Sym) → is_plain s ≡ true → is_plain (reads_before n s) ≡ true
read_plain n (syms.File op file into) e = e
read_plain n (syms.Movwf file) e = e
read_plain n (syms.Clrf file) e = e
read_plain n (syms.Bit op file bit) e = e
read_plain n (syms.Literal op value) e = e
read_plain n (syms.Plain op) e = e
read_plain n (syms.Call target) e = e
read_plain n (syms.Goto target) e = e
read_plain n (syms.Label label) e = e
read_plain n (syms.SelectBank bit on) e = e
read_plain n (syms.SelectPage bit target) e = e
read_plain n (syms.Table table root) e = e

test_plain : (flag : FlagName) (turned : Bool) (s : Sym) → is_plain s ≡ true → is_plain (tests_flag flag turned s) ≡ true
test_plain flag turned (syms.File op file into) e = e
test_plain flag turned (syms.Movwf file) e = e
test_plain flag turned (syms.Clrf file) e = e
test_plain flag turned (syms.Bit op file bit) e = e
test_plain flag turned (syms.Literal op value) e = e
test_plain flag turned (syms.Plain op) e = e
test_plain flag turned (syms.Call target) e = e
test_plain flag turned (syms.Goto target) e = e
test_plain flag turned (syms.Label label) e = e
test_plain flag turned (syms.SelectBank bit on) e = e
test_plain flag turned (syms.SelectPage bit target) e = e
test_plain flag turned (syms.Table table root) e = e

front_of : (a b : Bool) → (a && b) ≡ true → a ≡ true
front_of true b e = refl
front_of false b e = e

rest_of : (a b : Bool) → (a && b) ≡ true → b ≡ true
rest_of true b e = e
rest_of false b e = absurd (cc)

both : (a b : Bool) → a ≡ true → b ≡ true → (a && b) ≡ true
both true b e f = f
both false b e f = e

-- an instruction that stays, and one in its place
stays : (s t : Sym) (xs ys : List Sym) → (is_plain s ≡ true → is_plain t ≡ true) → (Plain xs → Plain ys) → Plain (s ∷ xs) → Plain (t ∷ ys)
stays s t xs ys one more e = both (is_plain t) (all_plain ys) (one (front_of (is_plain s) (all_plain xs) e)) (more (rest_of (is_plain s) (all_plain xs) e))

rows_plain : (rows : List Row) → puts_bytes rows ≡ true → Plain (olds rows) → Plain (puts rows)
rows_plain [] small e = refl
rows_plain (At (syms.Label label) act said ∷ rows) small e = stays (syms.Label label) (syms.Label label) (olds rows) (puts rows) (λ h. h) (rows_plain rows (rest_of (is_byte_act act) (puts_bytes rows) small)) e
rows_plain (At s Keeps said ∷ rows) small e = stays s s (olds rows) (puts rows) (λ h. h) (rows_plain rows small) e
rows_plain (At s Drops said ∷ rows) small e = rows_plain rows small (rest_of (is_plain s) (all_plain (olds rows)) e)
rows_plain (At s (Puts op n) said ∷ rows) small e =
    both (nat_lt n 256 && (true && true)) (all_plain (puts rows)) (both (nat_lt n 256) (true && true) (front_of (nat_lt n 256) (puts_bytes rows) small) refl)
    (rows_plain rows (rest_of (nat_lt n 256) (puts_bytes rows) small) (rest_of (is_plain s) (all_plain (olds rows)) e))
rows_plain (At s Narrows said ∷ rows) small e = stays s (narrowed s) (olds rows) (puts rows) (narrowed_plain s) (rows_plain rows small) e
rows_plain (At s Clears said ∷ rows) small e = stays s (cleared s) (olds rows) (puts rows) (cleared_plain s) (rows_plain rows small) e
rows_plain (At s (Reads n) said ∷ rows) small e = stays s (reads_before n s) (olds rows) (puts rows) (read_plain n s) (rows_plain rows small) e
rows_plain (At s (Tests flag turned) said ∷ rows) small e = stays s (tests_flag flag turned s) (olds rows) (puts rows) (test_plain flag turned s) (rows_plain rows small) e

leaner_plain : (g b : SymBlock) → IsLeaner g b → Plain g.list.items → Plain b.list.items
leaner_plain g b is e = ap all_plain is.after ∙ rows_plain is.rows is.numbers (ap all_plain (sym is.before) ∙ e)

-- what a leaner block was made of
record IsOfGiven (given : List SymBlock) (b : SymBlock) : Type 0 where
  from : SymBlock
  among : Has given from
  is : IsLeaner from b

of_given : (given lean : List SymBlock) → AllZip IsLeaner given lean → (b : SymBlock) → Has lean b → IsOfGiven given b
of_given [] [] z b h = absurd h
of_given [] (x ∷ lean) z b h = absurd z
of_given (g ∷ given) [] z b h = absurd z
of_given (g ∷ given) (x ∷ lean) z b (inl same) = record { from = g; among = inl refl; is = subst (IsLeaner g) same z.0 }
of_given (g ∷ given) (x ∷ lean) z b (inr h) = let r = of_given given lean z.1 b h in record { from = r.from; among = inr r.among; is = r.is }

names_alike : (given lean : List SymBlock) → AllZip IsLeaner given lean → names_of lean ≡ names_of given
names_alike [] [] z = refl
names_alike [] (x ∷ lean) z = absurd z
names_alike (g ∷ given) [] z = absurd z
names_alike (g ∷ given) (x ∷ lean) z = ap (λ (n : BlockName). n ∷ names_of lean) z.0.name ∙ ap (λ (l : List BlockName). g.name ∷ l) (names_alike given lean z.1)

module _ (core : CoreProgram) (copies : List FnCopy) (given : List SymBlock) (ready : IsReady core copies given given) where
  of_zip : (lean : List SymBlock) → AllZip IsLeaner (ready.start ∷ ready.order) lean → IsReady core copies given lean
  of_zip [] z = absurd z
  of_zip (b ∷ lean) z = record {
    start = b;
    order = lean;
    whole = refl;
    name = z.0.name ∙ ready.name;
    exact = z.0.start ready.name ∙ ready.exact;
    plain = λ x h. let r = of_given ready.order lean z.1 x h in leaner_plain r.from x r.is (ready.plain r.from r.among);
    ends = λ x h. let r = of_given (ready.start ∷ ready.order) (b ∷ lean) z x h in r.is.ends (ready.ends r.from r.among);
    names = names_alike (ready.start ∷ ready.order) (b ∷ lean) z ∙ ap names_of (sym ready.whole);
  }

pub ready : (p : Program) (copies : List FnCopy) (core : CoreProgram) (given lean made : List SymBlock) (placed : Placed) → AreBlocks p copies core given lean made placed → IsReady core copies given lean
ready p copies core given lean made placed blocks =
    let first = given_ready p copies core given lean made placed blocks in
    of_zip core copies given first lean
    (subst (λ (l : List SymBlock). AllZip IsLeaner l lean) first.whole (blocks_are_leaner (layout_of placed) (handler_at copies) (core_of p copies).variable_bytes blocks.lent given lean blocks.leaner))

-- without selects the start block is what sets each object to its first bytes
pub start_is : (copies : List FnCopy) (core : CoreProgram) (given blocks : List SymBlock) (is : IsReady core copies given blocks) → block_in blocks Start ≡ start_code (handler_at copies) core.statics.items
start_is copies core given blocks is =
    ap (λ (bs : List SymBlock). block_in bs Start) is.whole ∙ ap (λ (n : BlockName). if same_name n Start then is.start.list.items else block_in is.order Start) is.name ∙ is.exact
