-- A select is for the page of the block in which its target is.
use Rattle.std.proofs.Common.{◌≡◌, ℕ, zero, suc, ◌+◌, ◌/◌, ◌≤◌, inl, inr, Bool, true, false, ◌&&◌, List, [], ◌∷◌, Option, Some, None, refl, sym, ap, ◌∙◌, subst}
use Rattle.std.specs.Option.{option_or}
use Rattle.std.specs.Prelude.{slice_get, IsSome}
use Rattle.c_typed.specs.Trees.{Program}
use Rattle.call_graph.specs.declared.types.FnCopy.{FnCopy}
use Rattle.core_code.specs.declared.code.CoreProgram.{CoreProgram}
use Rattle.code_place.specs.Instructions.{known}
use Rattle.code_place.specs.Layouts.{page_of}
use Rattle.code_place.specs.Pages.{page_words}
use Rattle.code_place.specs.Places.{block_place, label_place, label_at, label_of, is_label, at_if, first_place, target_for, HasAddress, HaveAddresses}
use Rattle.code_place.specs.Sizes.{Stands}
use Rattle.pic_map.specs.declared.Placed.{Placed}
use Rattle.sym_code.specs.Programs.{block_of}
use Rattle.sym_code.specs.Selects.{bare}
use Rattle.sym_code.specs.Words.{words_of_one}
use Rattle.sym_code.specs.declared.code.BlockName.{BlockName}
use Rattle.sym_code.specs.declared.code.BlockName.TheVariants.{Start}
use Rattle.sym_code.specs.declared.code.Label.{Label}
use Rattle.sym_code.specs.declared.code.Label.TheVariants as labels
use Rattle.sym_code.specs.declared.code.PageBit.{PageBit}
use Rattle.sym_code.specs.declared.code.Sym.{Sym}
use Rattle.sym_code.specs.declared.code.Sym.TheVariants as syms
use Rattle.sym_code.specs.declared.code.SymBlock.{SymBlock}
use Rattle.sym_code.specs.declared.code.Target.{Target}
use Rattle.sym_code.specs.declared.code.Target.TheVariants as targets
use Rattle.bank_page.specs.Selected.{names_of, bare_lists}
use Rattle.program_code.specs.Passed.{IsPassed}
use Rattle.headline_trace.specs.Plain.{is_own}
use Rattle.headline_trace.proofs.Bare.{all_are, bare_itself}
use Rattle.headline_trace.proofs.Ended.{ends_bare, label_paged}
use Rattle.headline_trace.proofs.Members.{Has, has_map, map_has}
use Rattle.headline_trace.proofs.Named.{tally, named_once, own_place}
use Rattle.headline_trace.proofs.Outside.{plain_own, selected_own}
use Rattle.headline_trace.proofs.Ready.{IsReady, ready}
use Rattle.headline_trace.proofs.Statics.{some_is}
use Rattle.headline_trace.proofs.Thinned.{names_kept, lists_kept}
use Rattle.headline_trace.proofs.Selects.{block_words}
use Rattle.lean_code.specs.Admissible.{ends_by_word}

-- ---- lists
has_at : {A : Type 0} (xs : List A) (k : ℕ) (x : A) → slice_get xs k ≡ Some x → Has xs x
has_at [] k x is = absurd (cc)
has_at (y ∷ xs) zero x is = inl (some_is y x is)
has_at (y ∷ xs) (suc k) x is = inr (has_at xs k x is)

named_at : (placed : Placed) (target : Target → Option ℕ) (list : List Sym) (i : ℕ) (s : Sym) → HaveAddresses placed target list → slice_get list i ≡ Some s → HasAddress placed target s
named_at placed target [] i s have is = absurd (cc)
named_at placed target (x ∷ list) zero s have is = subst (λ (y : Sym). HasAddress placed target y) (some_is x s is) have.0
named_at placed target (x ∷ list) (suc i) s have is = named_at placed target list i s have.1 is

address_in : (o : Option ℕ) → IsSome o → (a : ℕ) × (o ≡ Some a)
address_in None e = absurd (cc)
address_in (Some a) e = (a, refl)

-- ---- labels that stand once
abbrev is_common : Label → Bool
is_common (labels.Inner n) = false
is_common labels.Halt = true
is_common labels.Restore = true

not_own : (label : Label) (s : Sym) → is_common label ≡ true → is_label label (label_of s) ≡ true → is_own s ≡ false
not_own labels.Halt (syms.Label labels.Halt) c e = refl
not_own labels.Halt (syms.Label labels.Restore) c e = refl
not_own labels.Halt (syms.Label (labels.Inner n)) c e = absurd (cc)
not_own labels.Restore (syms.Label labels.Halt) c e = refl
not_own labels.Restore (syms.Label labels.Restore) c e = refl
not_own labels.Restore (syms.Label (labels.Inner n)) c e = absurd (cc)
not_own (labels.Inner n) s c e = absurd (cc)
not_own label (syms.SelectBank bit on) c e = absurd (cc)
not_own label (syms.SelectPage bit target) c e = absurd (cc)
not_own label (syms.Table table root) c e = absurd (cc)
not_own label (syms.File op file into) c e = absurd (cc)
not_own label (syms.Movwf file) c e = absurd (cc)
not_own label (syms.Clrf file) c e = absurd (cc)
not_own label (syms.Bit op file bit) c e = absurd (cc)
not_own label (syms.Literal op value) c e = absurd (cc)
not_own label (syms.Plain op) c e = absurd (cc)
not_own label (syms.Call target) c e = absurd (cc)
not_own label (syms.Goto target) c e = absurd (cc)

none_at : (label : Label) (at : ℕ) (list : List Sym) → is_common label ≡ true → all_are is_own list ≡ true → label_at label at list ≡ None
none_at label at [] c e = refl
none_at label at (s ∷ list) c e = by (is_own s) (is_label label (label_of s)) refl refl e (none_at label (at + words_of_one s) list c) where
  by : (o l : Bool) → is_own s ≡ o → is_label label (label_of s) ≡ l → (o && all_are is_own list) ≡ true → (all_are is_own list ≡ true → label_at label (at + words_of_one s) list ≡ None)
      → option_or (at_if l at) (label_at label (at + words_of_one s) list) ≡ None
  by true true own here h below = let f = sym own ∙ not_own label s c here in absurd (cc)
  by true false own here h below = below h
  by false l own here h below = absurd (cc)

abbrev place_by : Label → SymBlock → ℕ → Option ℕ
place_by label block start = label_at label start block.list.items

none_in : (label : Label) (blocks : List SymBlock) (at : List ℕ) → is_common label ≡ true → ((b : SymBlock) → Has blocks b → all_are is_own b.list.items ≡ true) → first_place (place_by label) blocks at ≡ None
none_in label [] at c all = refl
none_in label (b ∷ blocks) [] c all = refl
none_in label (b ∷ blocks) (start ∷ at) c all =
    ap (λ (o : Option ℕ). option_or o (first_place (place_by label) blocks at)) (none_at label start b.list.items c (all b (inl refl))) ∙ none_in label blocks at c (λ x h. all x (inr h))

or_none : (o p : Option ℕ) → p ≡ None → option_or o p ≡ o
or_none None p e = e
or_none (Some a) p e = refl

-- ---- blocks with their selects, and those that they were made of
record IsMadeOf (given : List SymBlock) (block : SymBlock) : Type 0 where
  from : SymBlock
  among : Has given from
  code : bare from.list.items ≡ bare block.list.items

made_of : (given made : List SymBlock) → bare_lists made ≡ bare_lists given → (b : SymBlock) → Has made b → IsMadeOf given b
made_of given made same b has =
    let x = has_map (λ (g : SymBlock). bare g.list.items) given (bare b.list.items) (subst (λ (l : List (List Sym)). Has l (bare b.list.items)) same (map_has (λ (g : SymBlock). bare g.list.items) made b has)) in
    record { from = x.0; among = x.1; code = x.2 }

abbrev rest_of : {A : Type 0} → List A → List A
rest_of [] = []
rest_of (x ∷ xs) = xs

abbrev first_or : {A : Type 0} → A → List A → A
first_or d [] = d
first_or d (x ∷ xs) = x

module _ (p : Program) (copies : List FnCopy) (core : CoreProgram) (given made : List SymBlock) (placed : Placed) (at : List ℕ) (passed : IsPassed p copies core given made placed at) where
  abbrev lean : List SymBlock
  lean = passed.lean

  leaner : IsReady core copies given lean
  leaner = ready p copies core given lean passed.whole placed passed.blocks

  -- no select stands in a leaner block
  lean_bare : (b : SymBlock) → Has (leaner.start ∷ leaner.order) b → bare b.list.items ≡ b.list.items
  lean_bare b has = bare_itself b.list.items (block_words copies core given lean leaner b has)

  pub made_ends : (b : SymBlock) → Has made b → ends_by_word true b.list.items ≡ true
  made_ends b has =
      let from = made_of lean made (lists_kept p copies core given made placed at passed) b has in
      let among : Has (leaner.start ∷ leaner.order) from.from = subst (λ (bs : List SymBlock). Has bs from.from) leaner.whole from.among in
      ends_bare true b.list.items (ap (ends_by_word true) (sym from.code ∙ lean_bare from.from among) ∙ leaner.ends from.from among)

  -- the label is in the page of its block
  paged : (k : ℕ) (block : SymBlock) (start : ℕ) (label : Label) → slice_get made k ≡ Some block → slice_get at k ≡ Some start → IsSome (label_at label start block.list.items)
      → known (label_at label start block.list.items) / page_words ≡ start / page_words
  paged k block start label is there some =
      let a = address_in (label_at label start block.list.items) some in
      let room : Stands block (Some start) (slice_get at (k + 1)) = subst (λ (o : Option ℕ). Stands block o (slice_get at (k + 1))) there (passed.fit k block is) in
      ap (λ (o : Option ℕ). known o / page_words) a.1 ∙ label_paged label start block.list.items a.0 (made_ends block (has_at made k block is)) room.1 a.1

  own_at : (k : ℕ) (block : SymBlock) (start : ℕ) → slice_get made k ≡ Some block → slice_get at k ≡ Some start → block_place made at block.name ≡ Some start
  own_at k block start is there = own_place made at k block start is there (subst (λ (ns : List BlockName). tally block.name ns ≤ 1) (sym (names_kept p copies core given made placed at passed)) (named_once core copies given passed.blocks.joined block.name))

  own_page : (k : ℕ) (block : SymBlock) (start : ℕ) → slice_get made k ≡ Some block → slice_get at k ≡ Some start → page_of made at block.name ≡ start / page_words
  own_page k block start is there = ap (λ (o : Option ℕ). known o / page_words) (own_at k block start is there)

  -- ---- labels of the start block
  behind_own : (rest : List SymBlock) (first : SymBlock) → made ≡ first ∷ rest → (b : SymBlock) → Has rest b → all_are is_own b.list.items ≡ true
  behind_own rest first whole b has =
      let lists : bare_lists rest ≡ bare_lists leaner.order = ap rest_of (sym (ap bare_lists whole) ∙ (lists_kept p copies core given made placed at passed) ∙ ap bare_lists leaner.whole) in
      let from = made_of leaner.order rest lists b has in
      selected_own b.list.items (ap (all_are is_own) (sym from.code ∙ lean_bare from.from (inr from.among)) ∙ plain_own from.from.list.items (leaner.plain from.from from.among))

  record IsFront : Type 0 where
    first : SymBlock
    rest : List SymBlock
    whole : made ≡ first ∷ rest
    name : first.name ≡ Start
    start : ℕ
    addresses : List ℕ
    places : at ≡ start ∷ addresses

  front_of : (bs : List SymBlock) (addresses : List ℕ) → made ≡ bs → at ≡ addresses → names_of bs ≡ names_of given → IsFront
  front_of [] addresses whole places names = let e = names ∙ ap names_of passed.blocks.joined.whole in absurd (cc)
  front_of (b ∷ bs) [] whole places names =
      let here = passed.fit 0 b (ap (λ (l : List SymBlock). slice_get l 0) whole) in
      absurd (subst (λ (l : List ℕ). Stands b (slice_get l 0) (slice_get l (0 + 1))) places here)
  front_of (b ∷ bs) (a ∷ addresses) whole places names =
      record { first = b; rest = bs; whole = whole; name = ap (first_or b.name) (names ∙ ap names_of passed.blocks.joined.whole) ∙ passed.blocks.joined.name; start = a; addresses = addresses; places = places }

  front : IsFront
  front = front_of made at refl refl (names_kept p copies core given made placed at passed)

  common_paged : (label : Label) → is_common label ≡ true → IsSome (label_place made at label) → known (label_place made at label) / page_words ≡ page_of made at Start
  common_paged label common some =
      let f = front in
      let first : slice_get made 0 ≡ Some f.first = ap (λ (l : List SymBlock). slice_get l 0) f.whole in
      let there : slice_get at 0 ≡ Some f.start = ap (λ (l : List ℕ). slice_get l 0) f.places in
      let place : label_place made at label ≡ label_at label f.start f.first.list.items =
      ap (λ (l : List SymBlock). label_place l at label) f.whole ∙ ap (λ (l : List ℕ). label_place (f.first ∷ f.rest) l label) f.places
      ∙ or_none (label_at label f.start f.first.list.items) (first_place (place_by label) f.rest f.addresses) (none_in label f.rest f.addresses common (behind_own f.rest f.first f.whole)) in
      ap (λ (o : Option ℕ). known o / page_words) place
      ∙ paged 0 f.first f.start label first there (subst (λ (o : Option ℕ). IsSome o) place some)
      ∙ sym (own_page 0 f.first f.start first there) ∙ ap (page_of made at) f.name

  pub selects_paged : (k : ℕ) (block : SymBlock) (start i : ℕ) (bit : PageBit) (target : Target) → slice_get made k ≡ Some block → slice_get at k ≡ Some start
      → slice_get block.list.items i ≡ Some (syms.SelectPage bit target) → known (target_for made at block start target) / page_words ≡ page_of made at (block_of block.name target)
  selects_paged k block start i bit (targets.Block name) is there has = refl
  selects_paged k block start i bit (targets.Label (labels.Inner n)) is there has =
      let named = named_at placed (target_for made at block start) block.list.items i (syms.SelectPage bit (targets.Label (labels.Inner n))) (passed.named k block start is there) has in
      paged k block start (labels.Inner n) is there named ∙ sym (own_page k block start is there)
  selects_paged k block start i bit (targets.Label labels.Halt) is there has =
      common_paged labels.Halt refl (named_at placed (target_for made at block start) block.list.items i (syms.SelectPage bit (targets.Label labels.Halt)) (passed.named k block start is there) has)
  selects_paged k block start i bit (targets.Label labels.Restore) is there has =
      common_paged labels.Restore refl (named_at placed (target_for made at block start) block.list.items i (syms.SelectPage bit (targets.Label labels.Restore)) (passed.named k block start is there) has)
