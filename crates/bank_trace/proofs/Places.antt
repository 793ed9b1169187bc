-- Positions of code with its selects, the positions of the code without them that belong to these, and what is known there.
use Rattle.std.proofs.Common.{◌≡◌, ℕ, suc, ◌+◌, Bool, true, false, not, ◌&&◌, if◌then◌else◌, List, [], ◌∷◌, Option, Some, None, option_map, slice_get, refl, sym, ap, ◌∙◌, subst, add-one}
use Rattle.pic_world.specs.declared.Root.{Root}
use Rattle.sym_code.specs.Programs.{Program, Position, position, is_word, lands, stand, front, behind, onward, label_from, place_of, block_of}
use Rattle.sym_code.specs.Selects.{bare}
use Rattle.sym_code.specs.declared.code.BankBit.TheVariants.{Rp0, Rp1, Irp}
use Rattle.sym_code.specs.declared.code.BlockName.{BlockName}
use Rattle.sym_code.specs.declared.code.BlockName.TheVariants as names
use Rattle.sym_code.specs.declared.code.Label.{Label}
use Rattle.sym_code.specs.declared.code.Label.TheVariants.{Inner, Halt, Restore}
use Rattle.sym_code.specs.declared.code.Sym.{Sym}
use Rattle.sym_code.specs.declared.code.Sym.TheVariants as syms
use Rattle.sym_code.specs.declared.code.Target.{Target}
use Rattle.sym_code.specs.declared.code.Target.TheVariants as targets
use Rattle.bank_page.specs.Known.{nothing, ends, is_return, is_retlw, left}
use Rattle.bank_page.specs.Kinds.{is_skip}
use Rattle.bank_page.specs.Selected.{Free}
use Rattle.bank_page.specs.declared.known.Known.{Known}
use Rattle.flow_facts.specs.Facts.{Fact, gives, at_label, at_target}
use Rattle.flow_facts.specs.Walk.{called, fact_after, is_open}
use Rattle.flow_facts.proofs.Along.{skip_behind}
use Rattle.bank_trace.proofs.Lists.{is_plain, calm_at, never, settle, settle_zero, settle_is, settle_again, mark, mark_zero, mark_settle, mark_behind, mark_lands, label_mark, FoundSame, found_same}
use Rattle.bank_trace.proofs.Facts.{Spot, spot_front, spot_at, spot_zero, spot_next, spot_past, fact_settles, fact_at_label, behind_settles, skip_at, calm_behind}
use Rattle.bank_trace.proofs.Holding.{Bits, Holds, HoldsFact, holds_nothing, holds_left, holds_given, holds_first, holds_last, Live, live}
use Rattle.bank_trace.proofs.Sites.{Site, IsSound, without, with}

pub stand_is : (q : Program) (p : Position) → stand q p ≡ position p.block (settle (q.block p.block) p.index)
unfolding stand
stand_is q p = ap (position p.block) (settle_is (q.block p.block) p.index)

pub behind_is : (q : Program) (p : Position) → behind q p ≡ position p.block (settle (q.block p.block) (suc p.index))
behind_is q p = stand_is q (position p.block (p.index + 1)) ∙ ap (λ n. position p.block (settle (q.block p.block) n)) (add-one p.index)

-- an instruction behind which the code goes on, if it runs
abbrev pub goes_past : Sym → Bool
goes_past (syms.Call target) = false
goes_past (syms.Table table root) = false
goes_past s = is_plain s && not (ends s)

not_true : (c : Bool) → not c ≡ true → c ≡ false
not_true true e = never e
not_true false e = refl

past_calm : (s : Sym) → goes_past s ≡ true → is_plain s ≡ true
past_calm (syms.Label label) e = never e
past_calm (syms.SelectBank Rp0 on) e = never e
past_calm (syms.SelectBank Rp1 on) e = never e
past_calm (syms.SelectPage bit target) e = never e
past_calm (syms.Table table root) e = never e
past_calm s e = refl

module _ (x : Site) where
  -- the position without selects that belongs to one with them
  abbrev pub under : Position → Position
  under q = position q.block (mark (x.made q.block) q.index)

  -- what is known there
  abbrev pub spot : Position → Spot
  spot q = spot_at x.facts q.block (spot_front x.facts q.block) (x.made q.block) q.index

  abbrev pub fact_at : Position → Fact
  fact_at q = (spot q).fact

  -- no label stands there, and what is known holds of the bits
  pub record IsFine (q : Position) (b : Bits) : Type 0 where
    pub settled : settle (x.made q.block) q.index ≡ q.index
    pub holds : HoldsFact x.pages (fact_at q) b

  -- no label stands there, and what a block leaves holds there
  pub record IsBack (own : BlockName) (q : Position) : Type 0 where
    pub settled : settle (x.made q.block) q.index ≡ q.index
    pub holds : (b : Bits) → HoldsFact x.pages (x.facts.back own) b → HoldsFact x.pages (fact_at q) b

  -- where calls come back to, the innermost first, from a block
  abbrev pub AreBack : BlockName → List Position → Type 0
  AreBack own [] = Unit {0}
  AreBack own (q ∷ stack) = IsBack own q × AreBack q.block stack

  -- a block that leaves more comes back as well
  pub back_more : (own name : BlockName) (stack : List Position) → gives (x.facts.back name) (x.facts.back own) ≡ true → AreBack own stack → AreBack name stack
  back_more own name [] e h = tt
  back_more own name (q ∷ stack) e h = (record { settled = h.0.settled; holds = λ b l. h.0.holds b (holds_given x.pages (x.facts.back name) (x.facts.back own) b e l) }, h.1)

  -- ---- where the code goes on
  pub under_behind : (q : Position) → calm_at (slice_get (x.made q.block) q.index) ≡ true → behind (without x) (under q) ≡ under (behind (with x) q)
  under_behind q e =
      behind_is (without x) (under q)
      ∙ ap (position q.block) (mark_behind (x.made q.block) q.index e ∙ sym (mark_settle (x.made q.block) (suc q.index)))
      ∙ sym (ap under (behind_is (with x) q))

  pub under_front : (name : BlockName) → front (without x) name ≡ under (front (with x) name)
  under_front name =
      stand_is (without x) (position name 0)
      ∙ ap (position name) (settle_zero (bare (x.made name)) ∙ sym (mark_zero (x.made name)) ∙ sym (mark_settle (x.made name) 0))
      ∙ sym (ap under (stand_is (with x) (position name 0)))

  place_without : (name : BlockName) (o : Option ℕ) → option_map (λ k. stand (without x) (position name k)) o ≡ option_map (position name) (option_map (settle (bare (x.made name))) o)
  place_without name None = refl
  place_without name (Some k) = ap Some (stand_is (without x) (position name k))

  place_with : (name : BlockName) (o : Option ℕ) → option_map under (option_map (λ k. stand (with x) (position name k)) o) ≡ option_map (position name) (option_map (mark (x.made name)) o)
  place_with name None = refl
  place_with name (Some k) = ap Some (ap under (stand_is (with x) (position name k)) ∙ ap (position name) (mark_settle (x.made name) k))

  pub under_place : (q : Position) (target : Target) → place_of (without x) (under q) target ≡ option_map under (place_of (with x) q target)
  under_place q (targets.Block name) = ap Some (under_front name)
  under_place q (targets.Label Halt) = refl
  under_place q (targets.Label Restore) = refl
  under_place q (targets.Label (Inner n)) =
      place_without q.block (label_from (bare (x.made q.block)) (Inner n) 0)
      ∙ ap (option_map (position q.block)) (sym (label_mark (x.made q.block) (Inner n)))
      ∙ sym (place_with q.block (label_from (x.made q.block) (Inner n) 0))

  pub block_behind : (q : Position) → (behind (with x) q).block ≡ q.block
  block_behind q = ap (λ (p : Position). p.block) (behind_is (with x) q)

  -- ---- what is known there
  pub record Arrives (name : BlockName) (b : Bits) (p : Position) : Type 0 where
    pub fine : IsFine p b
    pub block : p.block ≡ name

  abbrev pub ArrivesAt : BlockName → Bits → Option Position → Type 0
  ArrivesAt name b None = Unit {0}
  ArrivesAt name b (Some p) = Arrives name b p

  -- behind an instruction, which may skip the next one
  pub record Onto (b : Bits) (q : Position) (skips : Bool) : Type 0 where
    pub same : onward (without x) (under q) skips ≡ under (onward (with x) q skips)
    pub fine : IsFine (onward (with x) q skips) b
    pub block : (onward (with x) q skips).block ≡ q.block

  module _ (sound : IsSound x) where
    -- behind the labels at an index
    fine_at : (name : BlockName) (j : ℕ) (b : Bits) → HoldsFact x.pages (spot_at x.facts name (spot_front x.facts name) (x.made name) j).fact b → IsFine (position name (settle (x.made name) j)) b
    fine_at name j b h = record { settled = settle_again (x.made name) j; holds = fact_settles x.facts name x.pages b (spot_front x.facts name) (x.made name) j (sound.lead name) h }

    pub fine_front : (name : BlockName) (b : Bits) → HoldsFact x.pages (x.facts.front name) b → Arrives name b (front (with x) name)
    fine_front name b h = record {
      fine = subst (λ (p : Position). IsFine p b) (sym (stand_is (with x) (position name 0))) (fine_at name 0 b (subst (λ (t : Spot). HoldsFact x.pages t.fact b) (sym (spot_zero x.facts name (spot_front x.facts name) (x.made name))) h));
      block = ap (λ (p : Position). p.block) (stand_is (with x) (position name 0));
    }

    -- at the front of main and of the handler anything may be selected
    pub open_front : (copy : ℕ) (b : Bits) → is_open x.facts copy ≡ true → Arrives (names.Copy copy) b (front (with x) (names.Copy copy))
    open_front copy b e = fine_front (names.Copy copy) b (holds_given x.pages (Some nothing) (x.facts.front (names.Copy copy)) b e (holds_nothing x.pages b))

    fine_label : (name : BlockName) (b : Bits) (label : Label) (o : Option ℕ) → FoundSame (x.made name) label o → HoldsFact x.pages (at_label x.facts name label) b → ArrivesAt name b (option_map (λ k. stand (with x) (position name k)) o)
    fine_label name b label None found h = tt
    fine_label name b label (Some k) found h = record {
      fine = subst (λ (p : Position). IsFine p b) (sym (stand_is (with x) (position name k))) (record {
        settled = settle_again (x.made name) k;
        holds = fact_at_label x.facts name x.pages b (spot_front x.facts name) (x.made name) k label (sound.lead name) found h;
      });
      block = ap (λ (p : Position). p.block) (stand_is (with x) (position name k));
    }

    -- where a jump or a call leads to
    pub fine_place : (q : Position) (target : Target) (b : Bits) → HoldsFact x.pages (at_target x.facts q.block target) b → ArrivesAt (block_of q.block target) b (place_of (with x) q target)
    fine_place q (targets.Block name) b h = fine_front name b h
    fine_place q (targets.Label Halt) b h = tt
    fine_place q (targets.Label Restore) b h = tt
    fine_place q (targets.Label (Inner n)) b h = fine_label q.block b (Inner n) (label_from (x.made q.block) (Inner n) 0) (found_same (x.made q.block) (Inner n)) h

    -- ---- behind a call
    holds_called : (back : Fact) (known : Known) (behind : Bool) (b : Bits) → HoldsFact x.pages back b → HoldsFact x.pages (called back known behind) b
    holds_called back known true b h = holds_last x.pages known back b h
    holds_called back known false b h = h

    call_after : (name : BlockName) (fact : Fact) (behind : Bool) (known : Known) (target : Target) (b : Bits) → fact ≡ Some known → HoldsFact x.pages (x.facts.back (block_of name target)) b → HoldsFact x.pages (fact_after x.facts name fact behind (syms.Call target)) b
    call_after name fact behind known target b is h =
        subst (λ (y : Fact). HoldsFact x.pages (fact_after x.facts name y behind (syms.Call target)) b) (sym is) (holds_called (x.facts.back (block_of name target)) known behind b h)

    pub back_behind : (q : Position) (target : Target) (known : Known) → slice_get (x.made q.block) q.index ≡ Some (syms.Call target) → fact_at q ≡ Some known → IsBack (block_of q.block target) (behind (with x) q)
    back_behind q target known e is =
        let next = spot_next x.facts q.block (spot_front x.facts q.block) (x.made q.block) q.index (syms.Call target) e in
        subst (λ (p : Position). IsBack (block_of q.block target) p) (sym (behind_is (with x) q)) (record {
          settled = settle_again (x.made q.block) (suc q.index);
          holds = λ b h. (fine_at q.block (suc q.index) b (subst (λ (t : Spot). HoldsFact x.pages t.fact b) (sym next) (call_after q.block (fact_at q) (spot q).behind known target b is h))).holds;
        })

    -- ---- behind an instruction, whether it ran or was skipped
    module _ (b : Bits) where
      passed_runs : (ended behind : Bool) (known : Known) → ended ≡ false → Holds x.pages known b → HoldsFact x.pages (if ended && not behind then None else Some known) b
      passed_runs false behind known e h = h
      passed_runs true behind known e h = never (sym e)

      passed_over : (ended : Bool) (known : Known) → Holds x.pages known b → HoldsFact x.pages (if ended && not true then None else Some known) b
      passed_over true known h = h
      passed_over false known h = h

      ran : (name : BlockName) (known : Known) (behind : Bool) (s : Sym) → goes_past s ≡ true → Holds x.pages known b → HoldsFact x.pages (fact_after x.facts name (Some known) behind s) b
      ran name known behind (syms.Label label) e h = never e
      ran name known behind (syms.Call target) e h = never e
      ran name known behind (syms.Goto target) e h = never e
      ran name known behind (syms.SelectBank Rp0 on) e h = never e
      ran name known behind (syms.SelectBank Rp1 on) e h = never e
      ran name known behind (syms.SelectBank Irp on) e h = holds_left x.pages known (syms.SelectBank Irp on) b h
      ran name known behind (syms.SelectPage bit target) e h = never e
      ran name known behind (syms.Table table root) e h = never e
      ran name known behind (syms.Plain op) e h = passed_runs (is_return op) behind (left known (syms.Plain op) false false) (not_true (is_return op) e) (holds_left x.pages known (syms.Plain op) b h)
      ran name known behind (syms.Literal op value) e h = passed_runs (is_retlw op) behind (left known (syms.Literal op value) false false) (not_true (is_retlw op) e) (holds_left x.pages known (syms.Literal op value) b h)
      ran name known behind (syms.File op file into) e h = holds_left x.pages known (syms.File op file into) b h
      ran name known behind (syms.Movwf file) e h = holds_left x.pages known (syms.Movwf file) b h
      ran name known behind (syms.Clrf file) e h = holds_left x.pages known (syms.Clrf file) b h
      ran name known behind (syms.Bit op file bit) e h = holds_left x.pages known (syms.Bit op file bit) b h

      skipped : (name : BlockName) (known : Known) (s : Sym) → is_plain s ≡ true → Holds x.pages known b → HoldsFact x.pages (fact_after x.facts name (Some known) true s) b
      skipped name known (syms.Label label) e h = never e
      skipped name known (syms.Call target) e h = holds_first x.pages known (x.facts.back (block_of name target)) b h
      skipped name known (syms.Goto target) e h = holds_left x.pages known (syms.Goto target) b h
      skipped name known (syms.SelectBank Rp0 on) e h = never e
      skipped name known (syms.SelectBank Rp1 on) e h = never e
      skipped name known (syms.SelectBank Irp on) e h = holds_left x.pages known (syms.SelectBank Irp on) b h
      skipped name known (syms.SelectPage bit target) e h = never e
      skipped name known (syms.Table table root) e h = holds_left x.pages known (syms.Table table root) b h
      skipped name known (syms.Plain op) e h = passed_over (is_return op) (left known (syms.Plain op) false false) (holds_left x.pages known (syms.Plain op) b h)
      skipped name known (syms.Literal op value) e h = passed_over (is_retlw op) (left known (syms.Literal op value) false false) (holds_left x.pages known (syms.Literal op value) b h)
      skipped name known (syms.File op file into) e h = holds_left x.pages known (syms.File op file into) b h
      skipped name known (syms.Movwf file) e h = holds_left x.pages known (syms.Movwf file) b h
      skipped name known (syms.Clrf file) e h = holds_left x.pages known (syms.Clrf file) b h
      skipped name known (syms.Bit op file bit) e h = holds_left x.pages known (syms.Bit op file bit) b h

      fine_behind : (q : Position) → HoldsFact x.pages (spot_at x.facts q.block (spot_front x.facts q.block) (x.made q.block) (suc q.index)).fact b → IsFine (behind (with x) q) b
      fine_behind q h = subst (λ (p : Position). IsFine p b) (sym (behind_is (with x) q)) (fine_at q.block (suc q.index) b h)

      -- an instruction that runs and goes on behind itself
      pub fine_ran : (q : Position) (s : Sym) (known : Known) → slice_get (x.made q.block) q.index ≡ Some s → goes_past s ≡ true → fact_at q ≡ Some known → Holds x.pages known b → IsFine (behind (with x) q) b
      fine_ran q s known fetch past is h =
          let next = spot_next x.facts q.block (spot_front x.facts q.block) (x.made q.block) q.index s fetch in
          fine_behind q (subst (λ (t : Spot). HoldsFact x.pages t.fact b) (sym next)
          (subst (λ (y : Fact). HoldsFact x.pages (fact_after x.facts q.block y (spot q).behind s) b) (sym is) (ran q.block known (spot q).behind s past h)))

      skipped_at : (q : Position) (o : Option Sym) → slice_get (x.made q.block) q.index ≡ o → calm_at o ≡ true → (spot q).behind ≡ true → (l : Live x.pages (fact_at q) b) → HoldsFact x.pages (spot_at x.facts q.block (spot_front x.facts q.block) (x.made q.block) (suc q.index)).fact b
      skipped_at q None fetch e after l =
          subst (λ (t : Spot). HoldsFact x.pages t.fact b) (sym (spot_past x.facts q.block (spot_front x.facts q.block) (x.made q.block) q.index fetch))
          (subst (λ (y : Fact). HoldsFact x.pages y b) (sym l.is) l.holds)
      skipped_at q (Some s) fetch e after l =
          let next = spot_next x.facts q.block (spot_front x.facts q.block) (x.made q.block) q.index s fetch in
          subst (λ (t : Spot). HoldsFact x.pages t.fact b) (sym next)
          (subst (λ (c : Bool). HoldsFact x.pages (fact_after x.facts q.block (fact_at q) c s) b) (sym after)
          (subst (λ (y : Fact). HoldsFact x.pages (fact_after x.facts q.block y true s) b) (sym l.is) (skipped q.block l.known s e l.holds)))

      -- one that is skipped
      fine_over : (q : Position) → calm_at (slice_get (x.made q.block) q.index) ≡ true → (spot q).behind ≡ true → IsFine q b → IsFine (behind (with x) q) b
      fine_over q e after here = fine_behind q (skipped_at q (slice_get (x.made q.block) q.index) refl e after (live x.pages (fact_at q) b here.holds))

      -- what stands behind a skip stands behind it behind labels too
      after_skip : (q : Position) (s : Sym) → slice_get (x.made q.block) q.index ≡ Some s → is_skip s ≡ true → (spot (behind (with x) q)).behind ≡ true
      after_skip q s fetch skip =
          let next = spot_next x.facts q.block (spot_front x.facts q.block) (x.made q.block) q.index s fetch in
          ap (λ (p : Position). (spot p).behind) (behind_is (with x) q)
          ∙ behind_settles x.facts q.block (spot_front x.facts q.block) (x.made q.block) (suc q.index) (ap (λ (t : Spot). t.behind) next ∙ skip_behind (spot q).behind s skip)

      pub onto : (q : Position) (s : Sym) (known : Known) (skips : Bool) → slice_get (x.made q.block) q.index ≡ Some s → goes_past s ≡ true → (skips ≡ true → is_skip s ≡ true) → fact_at q ≡ Some known → Holds x.pages known b → Onto b q skips
      onto q s known false fetch past skip is h = record {
        same = under_behind q (subst (λ (o : Option Sym). calm_at o ≡ true) (sym fetch) (past_calm s past));
        fine = fine_ran q s known fetch past is h;
        block = block_behind q;
      }
      onto q s known true fetch past skip is h =
          let r = behind (with x) q in
          let there : skip_at (slice_get (x.made q.block) q.index) ≡ true = subst (λ (o : Option Sym). skip_at o ≡ true) (sym fetch) (skip refl) in
          let calm : calm_at (slice_get (x.made r.block) r.index) ≡ true =
          subst (λ (p : Position). calm_at (slice_get (x.made p.block) p.index) ≡ true) (sym (behind_is (with x) q)) (calm_behind Free (x.made q.block) q.index (sound.apart q.block) there) in
          record {
            same = ap (behind (without x)) (under_behind q (subst (λ (o : Option Sym). calm_at o ≡ true) (sym fetch) (past_calm s past))) ∙ under_behind r calm;
            fine = fine_over r calm (after_skip q s fetch (skip refl)) (fine_ran q s known fetch past is h);
            block = block_behind r ∙ block_behind q;
          }

    -- behind a read of a table, which leaves any bits of the page
    pub fine_read : (q : Position) (table : ℕ) (root : Root) (known : Known) (b : Bits) (low high : ℕ) → slice_get (x.made q.block) q.index ≡ Some (syms.Table table root) → fact_at q ≡ Some known → Holds x.pages known b
        → IsFine (behind (with x) q) (record b { low = low; high = high })
    fine_read q table root known b low high fetch is h =
        let left : Bits = record b { low = low; high = high } in
        let next = spot_next x.facts q.block (spot_front x.facts q.block) (x.made q.block) q.index (syms.Table table root) fetch in
        let holds : Holds x.pages (record { rp0 = known.rp0; rp1 = known.rp1; low = None; high = None }) left = record { rp0 = h.rp0; rp1 = h.rp1; low = tt; high = tt } in
        fine_behind left q (subst (λ (t : Spot). HoldsFact x.pages t.fact left) (sym next)
        (subst (λ (y : Fact). HoldsFact x.pages (fact_after x.facts q.block y (spot q).behind (syms.Table table root)) left) (sym is) holds))

  -- ---- where something stands
  pub under_lands : (q : Position) → settle (x.made q.block) q.index ≡ q.index → lands (without x) (under q) ≡ true → lands (with x) q ≡ true
  under_lands q settled e = subst (λ n. is_word (slice_get (x.made q.block) n) ≡ true) settled (mark_lands (x.made q.block) q.index e)
