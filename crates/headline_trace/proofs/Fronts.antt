-- The start block with its selects: it is the first, the vector stands behind four words, and where main has ended it goes back to
-- where it is.
use Rattle.std.proofs.Common.{◌≡◌, ℕ, ◌+◌, Bool, true, false, not, ◌&&◌, nat_eq, if◌then◌else◌, List, [], ◌∷◌, ◌++◌, Option, Some, None, refl, sym, ap, ◌∙◌, subst, arith}
use Rattle.std.specs.Option.{option_or}
use Rattle.std.specs.Prelude.{slice_get}
use Rattle.std.specs.Global.{Global}
use Rattle.std.specs.List.{AllZip}
use Rattle.std.specs.declared.vec.Vec.{Vec}
use Rattle.std.proofs.lemmas.Bool.{eq-eqb}
use Rattle.std.proofs.lemmas.List.{append_assoc, append-nil}
use Rattle.call_graph.specs.Numbers.{handler_at}
use Rattle.call_graph.specs.declared.types.FnCopy.{FnCopy}
use Rattle.core_code.specs.declared.code.Byte.{Byte}
use Rattle.core_code.specs.declared.code.Byte.TheVariants as bytes
use Rattle.core_code.specs.declared.code.CoreProgram.{CoreProgram}
use Rattle.core_code.specs.declared.code.FirstByte.{FirstByte}
use Rattle.core_code.specs.declared.code.FirstByte.TheVariants as firsts
use Rattle.isr_save.specs.Start.{vector, byte_code, object_code, objects_code, start_code, reset, main, literal}
use Rattle.pic_map.specs.declared.Placed.{Placed}
use Rattle.sym_code.specs.Programs.{block_in, same_name, same_label, label_from}
use Rattle.sym_code.specs.Selects.{is_select}
use Rattle.sym_code.specs.declared.code.BlockName.{BlockName}
use Rattle.sym_code.specs.declared.code.BlockName.TheVariants.{Start, Copy}
use Rattle.sym_code.specs.declared.code.Label.TheVariants as labels
use Rattle.sym_code.specs.declared.code.Literal.TheVariants as values
use Rattle.sym_code.specs.declared.code.Operand.TheVariants as operands
use Rattle.sym_code.specs.declared.code.PageBit.TheVariants.{Low, High}
use Rattle.sym_code.specs.declared.code.Sym.{Sym}
use Rattle.sym_code.specs.declared.code.Sym.TheVariants as syms
use Rattle.sym_code.specs.declared.code.SymBlock.{SymBlock}
use Rattle.sym_code.specs.declared.code.Target.{Target}
use Rattle.sym_code.specs.declared.code.Target.TheVariants as targets
use Rattle.bank_page.specs.Kinds.{is_label, is_skip}
use Rattle.bank_page.specs.Known.{knows, learned, after}
use Rattle.bank_page.specs.Needs.{needs_in}
use Rattle.bank_page.specs.Selected.{front, IsExact}
use Rattle.bank_page.specs.Step.{bank_selects, page_selects, unknown, missing, behind_bank, missing_for, known_with, put_of, state_of, selected_from}
use Rattle.bank_page.specs.declared.known.Known.{Known}
use Rattle.bank_page.specs.declared.needs.Needs.{Needs}
use Rattle.bank_page.specs.declared.selecting.State.{State}
use Rattle.chip_trace.specs.Arriving.{HasVector, HasVectorFor, HasHalt}
use Rattle.code_place.specs.Places.{block_place, first_place, at_if}
use Rattle.headline_trace.proofs.Bare.{all_are, are_joined}
use Rattle.headline_trace.proofs.Ready.{IsReady}

-- ---- the first block
pub record IsStartBlock (placed : Placed) (code : List Sym) (made : List SymBlock) : Type 0 where
  pub block : SymBlock
  pub rest : List SymBlock
  pub whole : made ≡ block ∷ rest
  pub name : block.name ≡ Start
  pub exact : block.list.items ≡ selected_from placed Start front code

first_made : (placed : Placed) (start : SymBlock) (order made : List SymBlock) → AllZip (IsExact placed) (start ∷ order) made → start.name ≡ Start → IsStartBlock placed start.list.items made
first_made placed start order [] each name = absurd each
first_made placed start order (m ∷ made) each name =
    let is = each.0 in
    record { block = m; rest = made; whole = refl; name = is.name ∙ name; exact = is.code ∙ ap (λ (n : BlockName). selected_from placed n front start.list.items) name }

pub start_made : (placed : Placed) (core : CoreProgram) (copies : List FnCopy) (given lean made : List SymBlock) → IsReady core copies given lean → AllZip (IsExact placed) lean made
    → IsStartBlock placed (start_code (handler_at copies) core.statics.items) made
start_made placed core copies given lean made is each =
    subst (λ (code : List Sym). IsStartBlock placed code made) is.exact
    (first_made placed is.start is.order made (subst (λ (bs : List SymBlock). AllZip (IsExact placed) bs made) is.whole each) is.name)

or_first : (b : Bool) (start : ℕ) (o : Option ℕ) → b ≡ true → Some start ≡ Some 0 → option_or (if b then Some start else None) o ≡ Some 0
or_first true start o e first = first
or_first false start o e first = absurd (cc)

module _ (placed : Placed) (code : List Sym) (made : List SymBlock) (is : IsStartBlock placed code made) where
  pub start_first : (block : SymBlock) × (slice_get made 0 ≡ Some block) × (block.name ≡ Start)
  start_first = (is.block, ap (λ (bs : List SymBlock). slice_get bs 0) is.whole, is.name)

  pub start_code_is : block_in made Start ≡ selected_from placed Start front code
  start_code_is =
      ap (λ (bs : List SymBlock). block_in bs Start) is.whole ∙ ap (λ (n : BlockName). if same_name n Start then is.block.list.items else block_in is.rest Start) is.name ∙ is.exact

  at_front : (at : List ℕ) → slice_get at 0 ≡ Some 0 → block_place (is.block ∷ is.rest) at Start ≡ Some 0
  at_front [] first = absurd (cc)
  at_front (start ∷ at) first =
      or_first (same_name is.block.name Start) start (first_place (λ (b : SymBlock) here. at_if (same_name b.name Start) here) is.rest at) (ap (λ (n : BlockName). same_name n Start) is.name) first

  pub start_place : (at : List ℕ) → slice_get at 0 ≡ Some 0 → block_place made at Start ≡ Some 0
  start_place at first = ap (λ (bs : List SymBlock). block_place bs at Start) is.whole ∙ at_front at first

-- ---- the vector
pub vector_there : (placed : Placed) (handler : ℕ) (statics : List (Vec FirstByte Global)) → HasVector (selected_from placed Start front (start_code (Some handler) statics)) handler
vector_there placed handler statics =
    let page : Target = targets.Label (labels.Inner 0) in
    let target : Target = targets.Block (Copy handler) in
    record {
      before = syms.SelectPage High page ∷ syms.SelectPage Low page ∷ reset;
      four = refl;
      first = refl;
      selects = page_selects (Some target);
      few = omega arith;
      of_page = ap (λ b. b && (b && true)) (eq-eqb handler handler refl);
      both = refl;
      behind = selected_from placed Start front (syms.Label (labels.Inner 0) ∷ objects_code 0 statics ++ main);
      whole = refl;
    }

pub vector_for : (placed : Placed) (handler : Option ℕ) (statics : List (Vec FirstByte Global)) → HasVectorFor (selected_from placed Start front (start_code handler statics)) handler
vector_for placed None statics = tt
vector_for placed (Some handler) statics = vector_there placed handler statics

-- ---- the label where main has ended
abbrev isnt_halt : Sym → Bool
isnt_halt (syms.Label label) = not (same_label label labels.Halt)
isnt_halt _ = true

abbrev is_calm : Sym → Bool
is_calm s = not (is_skip s) && isnt_halt s

no_halt : (list : List Sym) (n : ℕ) → all_are isnt_halt list ≡ true → label_from list labels.Halt n ≡ None
no_halt [] n e = refl
no_halt (syms.Label label ∷ list) n e = by (same_label label labels.Halt) (no_halt list (n + 1)) e where
  by : (b : Bool) → (all_are isnt_halt list ≡ true → label_from list labels.Halt (n + 1) ≡ None) → (not b && all_are isnt_halt list) ≡ true → (if b then Some n else label_from list labels.Halt (n + 1)) ≡ None
  by true below h = absurd (cc)
  by false below h = below h
no_halt (syms.SelectBank bit on ∷ list) n e = no_halt list (n + 1) e
no_halt (syms.SelectPage bit target ∷ list) n e = no_halt list (n + 1) e
no_halt (syms.Table table root ∷ list) n e = no_halt list (n + 1) e
no_halt (syms.File op file into ∷ list) n e = no_halt list (n + 1) e
no_halt (syms.Movwf file ∷ list) n e = no_halt list (n + 1) e
no_halt (syms.Clrf file ∷ list) n e = no_halt list (n + 1) e
no_halt (syms.Bit op file bit ∷ list) n e = no_halt list (n + 1) e
no_halt (syms.Literal op value ∷ list) n e = no_halt list (n + 1) e
no_halt (syms.Plain op ∷ list) n e = no_halt list (n + 1) e
no_halt (syms.Call target ∷ list) n e = no_halt list (n + 1) e
no_halt (syms.Goto target ∷ list) n e = no_halt list (n + 1) e

missing_calm : (own : BlockName) (known : Known) (list : List Sym) → all_are isnt_halt list ≡ true → all_are isnt_halt (missing own known list) ≡ true
missing_calm own known [] e = refl
missing_calm own known (s ∷ list) e = by (isnt_halt s) refl e (missing_calm own (learned own known s) list) where
  one : (b : Bool) → isnt_halt s ≡ true → all_are isnt_halt (if b then [] else s ∷ []) ≡ true
  one true is = refl
  one false is = ap (λ c. c && true) is

  by : (b : Bool) → isnt_halt s ≡ b → (b && all_are isnt_halt list) ≡ true → (all_are isnt_halt list ≡ true → all_are isnt_halt (missing own (learned own known s) list) ≡ true)
      → all_are isnt_halt (unknown own known s ++ missing own (learned own known s) list) ≡ true
  by true is h below = are_joined isnt_halt (unknown own known s) (missing own (learned own known s) list) (one (knows own known s) is) (below h)
  by false is h below = absurd (cc)

bank_calm : (bank : Option ℕ) → all_are isnt_halt (bank_selects bank) ≡ true
bank_calm None = refl
bank_calm (Some bank) = refl

page_calm : (page : Option Target) → all_are isnt_halt (page_selects page) ≡ true
page_calm None = refl
page_calm (Some target) = refl

for_calm : (own : BlockName) (known : Known) (needs : Needs) → all_are isnt_halt (missing_for own known needs) ≡ true
for_calm own known needs =
    are_joined isnt_halt (missing own known (bank_selects needs.bank)) (missing own (behind_bank own known needs) (page_selects needs.page))
    (missing_calm own known (bank_selects needs.bank) (bank_calm needs.bank)) (missing_calm own (behind_bank own known needs) (page_selects needs.page) (page_calm needs.page))

put_calm : (select plain : Bool) (own : BlockName) (st : State) (s : Sym) (needs : Option Needs) → isnt_halt s ≡ true → all_are isnt_halt (put_of select plain own st s needs) ≡ true
put_calm true plain own st s needs e = refl
put_calm false true own st s needs e = ap (λ c. c && true) e
put_calm false false own st s None e = ap (λ c. c && true) e
put_calm false false own st s (Some needs) e = are_joined isnt_halt (missing_for own st.known needs) (s ∷ []) (for_calm own st.known needs) (ap (λ c. c && true) e)

abbrev at_rest : Known → State
at_rest known = record { known = known; behind = false }

record Rests (st : State) : Type 0 where
  known : Known
  is : st ≡ at_rest known

state_calm : (select plain : Bool) (own : BlockName) (known : Known) (s : Sym) (needs : Option Needs) → is_skip s ≡ false → Rests (state_of select plain own (at_rest known) s needs)
state_calm true plain own known s needs e = record { known = known; is = refl }
state_calm false true own known s needs e = record { known = after known s false; is = ap (λ (b : Bool). record { known = after known s false; behind = b }) e }
state_calm false false own known s None e = record { known = after known s false; is = ap (λ (b : Bool). record { known = after known s false; behind = b }) e }
state_calm false false own known s (Some needs) e = record { known = after (known_with own known needs) s false; is = ap (λ (b : Bool). record { known = after (known_with own known needs) s false; behind = b }) e }

-- what becomes of a list that ends by these instructions
record Splits (placed : Placed) (own : BlockName) (known : Known) (xs ys : List Sym) : Type 0 where
  before : List Sym
  left : Known
  is : selected_from placed own (at_rest known) (xs ++ ys) ≡ before ++ selected_from placed own (at_rest left) ys
  calm : all_are isnt_halt before ≡ true

split : (placed : Placed) (own : BlockName) (known : Known) (xs ys : List Sym) → all_are is_calm xs ≡ true → Splits placed own known xs ys
split placed own known [] ys e = record { before = []; left = known; is = refl; calm = refl }
split placed own known (s ∷ xs) ys e = by (is_skip s) (isnt_halt s) refl refl e (λ k h. split placed own k xs ys h) where
  needs : Option Needs
  needs = needs_in placed (s ∷ (xs ++ ys))

  put : List Sym
  put = put_of (is_select s) (is_label s) own (at_rest known) s needs

  by : (a b : Bool) → is_skip s ≡ a → isnt_halt s ≡ b → ((not a && b) && all_are is_calm xs) ≡ true → ((k : Known) → all_are is_calm xs ≡ true → Splits placed own k xs ys) → Splits placed own known (s ∷ xs) ys
  by true b skip halt h below = absurd (cc)
  by false false skip halt h below = absurd (cc)
  by false true skip halt h below =
      let next = state_calm (is_select s) (is_label s) own known s needs skip in
      let rest = below next.known h in
      record {
        before = put ++ rest.before;
        left = rest.left;
        is = ap (λ (st : State). put ++ selected_from placed own st (xs ++ ys)) next.is ∙ ap (λ l. put ++ l) rest.is ∙ sym (append_assoc put rest.before (selected_from placed own (at_rest rest.left) ys));
        calm = are_joined isnt_halt put rest.before (put_calm (is_select s) (is_label s) own (at_rest known) s needs halt) rest.calm;
      }

-- ---- the start block's code
byte_calm : (to : Byte) (first : FirstByte) → all_are is_calm (byte_code to first) ≡ true
byte_calm to (firsts.Number number) = by (nat_eq number 0) where
  by : (b : Bool) → all_are is_calm (if b then syms.Clrf (operands.Byte to) ∷ [] else literal to (values.Number number)) ≡ true
  by true = refl
  by false = refl
byte_calm to (firsts.Low object) = refl
byte_calm to (firsts.High object) = refl

object_calm : (object offset : ℕ) (list : List FirstByte) → all_are is_calm (object_code object offset list) ≡ true
object_calm object offset [] = refl
object_calm object offset (first ∷ rest) =
    are_joined is_calm (byte_code (bytes.Static object offset) first) (object_code object (offset + 1) rest) (byte_calm (bytes.Static object offset) first) (object_calm object (offset + 1) rest)

objects_calm : (object : ℕ) (list : List (Vec FirstByte Global)) → all_are is_calm (objects_code object list) ≡ true
objects_calm object [] = refl
objects_calm object (first ∷ rest) =
    are_joined is_calm (object_code object 0 first.items) (objects_code (object + 1) rest) (object_calm object 0 first.items) (objects_calm (object + 1) rest)

vector_calm : (handler : Option ℕ) → all_are is_calm (vector handler) ≡ true
vector_calm None = refl
vector_calm (Some handler) = refl

abbrev before_main : Option ℕ → List (Vec FirstByte Global) → List Sym
before_main handler statics = reset ++ vector handler ++ (syms.Label (labels.Inner 0) ∷ []) ++ objects_code 0 statics

start_calm : (handler : Option ℕ) (statics : List (Vec FirstByte Global)) → all_are is_calm (before_main handler statics) ≡ true
start_calm handler statics =
    are_joined is_calm (reset ++ vector handler ++ (syms.Label (labels.Inner 0) ∷ [])) (objects_code 0 statics)
    (are_joined is_calm (reset ++ vector handler) (syms.Label (labels.Inner 0) ∷ []) (are_joined is_calm reset (vector handler) refl (vector_calm handler)) refl)
    (objects_calm 0 statics)

grouped : (a b c d e : List Sym) → a ++ (b ++ (c ++ (d ++ e))) ≡ a ++ b ++ c ++ d ++ e ++ []
grouped a b c d e =
    sym (append_assoc a b (c ++ (d ++ e))) ∙ sym (append_assoc (a ++ b) c (d ++ e)) ∙ sym (append_assoc (a ++ b ++ c) d e) ∙ sym (append-nil (a ++ b ++ c ++ d ++ e))

pub halt_there : (placed : Placed) (handler : Option ℕ) (statics : List (Vec FirstByte Global)) → HasHalt (selected_from placed Start front (start_code handler statics))
halt_there placed handler statics =
    let s = split placed Start front.known (before_main handler statics) main (start_calm handler statics) in
    let to_main : Sym = syms.Goto (targets.Block (Copy 0)) in
    let put = put_of false false Start (at_rest s.left) to_main (needs_in placed main) in
    let halt : Target = targets.Label labels.Halt in
    record {
      before = s.before ++ put;
      first = no_halt (s.before ++ put) 0 (are_joined isnt_halt s.before put s.calm (put_calm false false Start (at_rest s.left) to_main (needs_in placed main) refl));
      selects = page_selects (Some halt);
      of_page = refl;
      behind = [];
      whole = s.is ∙ grouped s.before put (syms.Label labels.Halt ∷ []) (page_selects (Some halt)) (syms.Goto halt ∷ []);
    }
