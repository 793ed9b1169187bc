-- A run whose symbolic code isn't stuck stays within its code, its map, and the registers that the code names.
use Rattle.std.proofs.Common.{◌≡◌, ℕ, zero, suc, ◌+◌, ◌<◌, ◌≤◌, ◌⊎◌, inl, inr, Bool, true, false, List, [], ◌∷◌, map, Option, Some, refl, sym, ap, ◌∙◌, subst, ⊎_elim, arith}
use Rattle.std.specs.Prelude.{not, ◌&&◌, ◌||◌, nat_eq, nat_le, nat_lt, if◌then◌else◌, slice_get, slice_index}
use Rattle.std.specs.List.{All}
use Rattle.std.proofs.lemmas.Bool.{cases_lt, le-leb, lt-ltb}
use Rattle.pic_isa.specs.Lookup.{row_of}
use Rattle.pic_chip.specs.Act.{perform}
use Rattle.pic_chip.specs.Interrupts.{raised, begun, control_of, enter}
use Rattle.pic_chip.specs.Run as chip
use Rattle.pic_chip.specs.Run.{IsStart, moment}
use Rattle.pic_chip.specs.State.{State}
use Rattle.pic_map.specs.MapContent.{MapContent, ObjectLine, FrameLine, range_of}
use Rattle.pic_map.specs.declared.Placed.{Placed}
use Rattle.pic_world.specs.Arrivals.{arriving}
use Rattle.pic_world.specs.Control.{is_due}
use Rattle.core_code.specs.Bytes.{Held}
use Rattle.live_frames.specs.Memory.{covers}
use Rattle.ram_place.specs.Placement.{objects_have, frames_have}
use Rattle.sym_code.specs.Effect.{Setting}
use Rattle.sym_code.specs.Layout.{near_ranges, near_frames, all_near}
use Rattle.sym_code.specs.Programs.{Program, fetched}
use Rattle.sym_code.specs.declared.code.Sym.{Sym}
use Rattle.sym_code.specs.declared.code.SymBlock.{SymBlock}
use Rattle.chip_trace.specs.Arriving.{EndsBy, IsAssembled, IsRunning, IsStarted}
use Rattle.chip_trace.specs.Entries.{begins, memory_at, handler_finds}
use Rattle.chip_trace.specs.Keeping.{IsNamed, device_of}
use Rattle.chip_trace.specs.Within.{KeepsWithin}
use Rattle.chip_trace.proofs.Blocks.{found, have_address}
use Rattle.chip_trace.proofs.Final.{keeping_within}
use Rattle.headline.specs.Headline.{Source}
use Rattle.headline.specs.Keeps.{IsNearMap, Touches, KeepsTo, StaysWithin}
use Rattle.headline.specs.OnChip.{IsClean}
use Rattle.headline_trace.specs.Carried.{frame_of}
use Rattle.headline_trace.proofs.Moments.{met_on}
use Rattle.headline_trace.proofs.Touching.{file_at, operand_small, place_is, touches_of}

-- ---- what flags and an interrupt leave
due_bank : (b : Bool) (s : State) → (if b then perform enter s else s).bank ≡ s.bank
due_bank true s = refl
due_bank false s = refl

begun_bank : (mask : ℕ) (s : State) → (begun mask s).bank ≡ s.bank
begun_bank mask s = due_bank (is_due (control_of (raised mask s))) (raised mask s)

-- ---- a run
module _ (source : Source) (content : MapContent) (made : List SymBlock) (at : List ℕ) (placed : Placed) (handler : Option ℕ) (g : Setting) (c : chip.Setting) (first : List (List Held))
    (assembled : IsAssembled made at placed handler c.image c.watch g) (is_start : IsStart c.start) (small : All (λ byte. byte < 256) c.inputs) (started : IsStarted g first c)
    (running : (n : ℕ) → IsClean source content c n → IsRunning g c (handler_finds g c started.at n) (begins c started.at) (memory_at c started.at) n)
    (objects : map range_of content.objects ≡ g.program.layout.objects) (frames : map frame_of content.frames ≡ g.program.layout.frames)
    (named : ℕ → Bool) (names : (k : ℕ) (block : SymBlock) → slice_get made k ≡ Some block → (i : ℕ) (s : Sym) → slice_get block.list.items i ≡ Some s → (a : ℕ) → device_of s ≡ Some a → named a ≡ true)
    (end : ℕ) (ends : EndsBy made at end) (main : c.watch.main < end) (near : IsNearMap content → all_near g.program.layout ≡ true) where
  has_named : (a : ℕ) → IsNamed g.program a → named a ≡ true
  has_named a is =
      let here = ap (λ (q : Program). fetched q is.at) (sym assembled.code) ∙ is.here in
      let f = found made at is.at.block is.at.index is.word (have_address made at assembled.fit) here in
      names f.number f.block f.in_blocks is.at.index is.word (ap (λ (list : List Sym). slice_get list is.at.index) f.list ∙ here) a is.named

  -- a moment at which main wasn't met yet is before the first at which it is
  before_met : (k : ℕ) → (moment c k).met ≡ false → k < started.at
  before_met k unmet = ⊎_elim (λ lt. lt) (λ ge. let met = met_on c started.at k ge started.met in absurd (cc)) (cases_lt k started.at)

  within : (k : ℕ) → IsClean source content c k ⊎ (k < started.at) → KeepsWithin g c end k
  within k holds =
      keeping_within made at placed handler first g c assembled is_start small started end ends k k (omega arith)
      (⊎_elim (λ clean. inr (running k clean)) (λ early. inl early) holds)

  keeps : (k : ℕ) → IsClean source content c k ⊎ (k < started.at) → KeepsTo content named end c.image (begun (arriving c.arrivals k) (moment c k).state)
  keeps k holds =
      let x = within k holds in
      let s = begun (arriving c.arrivals k) (moment c k).state in
      record {
        pc = x.begun_pc;
        near = λ low. let same = begun_bank (arriving c.arrivals k) (moment c k).state in let b = x.low (near low) in omega (arith, same, b);
        touches = λ i f row file.
            let t = x.touches f (file_at (row_of (slice_index c.image s.pc)) i f row file) in (
              operand_small (slice_index c.image s.pc) i f row file,
              subst (Touches content named (not (nat_eq f 0))) (place_is s f t.place t.leads)
                  (touches_of content g.program.layout objects frames g.program refl named has_named (not (nat_eq f 0)) t.place t.touched),
            );
      }

  abbrev Stands : ℕ → Type 0
  Stands k = ((moment c k).state.pc < end) × (IsNearMap content → (moment c k).state.bank < 2)

  -- at the moment at which main is met
  main_is : Stands started.at
  main_is = let pc = started.pc in (omega arith, λ low. started.low (near low))

  stands : (k : ℕ) → IsClean source content c k ⊎ ((j : ℕ) → j < k → (moment c j).met ≡ false) → Stands k
  stands k (inl clean) = let x = within k (inl clean) in (x.pc, λ low. x.low (near low))
  stands k (inr unmet) =
      ⊎_elim
      (λ lt. let x = within k (inr lt) in (x.pc, λ low. x.low (near low)))
      (λ ge.
      ⊎_elim (λ past. let none = unmet started.at past in let met = started.met in absurd (cc))
      (λ le. let same : started.at ≡ k = omega arith in subst Stands same main_is)
      (cases_lt started.at k))
      (cases_lt k started.at)

  pub stays : StaysWithin source content named end c
  stays = record {
    begins = λ k holds. keeps k (⊎_elim (λ clean. inl clean) (λ unmet. inr (before_met k unmet)) holds);
    stands = stands;
  }

-- ---- near maps
-- what has no bytes stands at 20h, and all that has an address is below 100h
line_near : (address size : ℕ) → (size ≡ 0 → address ≡ 0x20) → ((x : ℕ) → covers address size x ≡ true → x < 0x100) → address + size ≤ 0x100
line_near address size empty low = by size empty low where
  by : (n : ℕ) → (n ≡ 0 → address ≡ 0x20) → ((x : ℕ) → covers address n x ≡ true → x < 0x100) → address + n ≤ 0x100
  by zero e l = let a = e refl in omega arith
  by (suc n) e l =
      let last = l (address + n) (both (nat_le address (address + n)) (nat_lt (address + n) (address + suc n)) (le-leb address (address + n) (omega arith)) (lt-ltb (address + n) (address + suc n) (omega arith))) in
      omega arith where
        both : (a b : Bool) → a ≡ true → b ≡ true → (a && b) ≡ true
        both true true p q = refl
        both true false p q = q
        both false b p q = p

pub or_left : (a b : Bool) → a ≡ true → (a || b) ≡ true
or_left true b e = refl
or_left false b e = absurd (cc)

pub or_right : (a b : Bool) → b ≡ true → (a || b) ≡ true
or_right true b e = refl
or_right false b e = e

pub objects_near : (lines : List ObjectLine) → ((k : ℕ) (line : ObjectLine) → slice_get lines k ≡ Some line → line.size ≡ 0 → line.address ≡ 0x20) → ((x : ℕ) → objects_have lines x ≡ true → x < 0x100) → near_ranges (map range_of lines) ≡ true
objects_near [] empty low = refl
objects_near (line ∷ lines) empty low =
    let first = line_near line.address line.size (empty 0 line refl) (λ x e. low x (or_left (covers line.address line.size x) (objects_have lines x) e)) in
    let rest = objects_near lines (λ k y is. empty (suc k) y is) (λ x e. low x (or_right (covers line.address line.size x) (objects_have lines x) e)) in
    ap (λ b. b && near_ranges (map range_of lines)) (le-leb (line.address + line.size) 0x100 first) ∙ rest

pub frames_near : (lines : List FrameLine) → ((k : ℕ) (line : FrameLine) → slice_get lines k ≡ Some line → line.size ≡ 0 → line.address ≡ 0x20) → ((x : ℕ) → frames_have lines x ≡ true → x < 0x100) → near_frames (map frame_of lines) ≡ true
frames_near [] empty low = refl
frames_near (line ∷ lines) empty low =
    let first = line_near line.address line.size (empty 0 line refl) (λ x e. low x (or_left (covers line.address line.size x) (frames_have lines x) e)) in
    let rest = frames_near lines (λ k y is. empty (suc k) y is) (λ x e. low x (or_right (covers line.address line.size x) (frames_have lines x) e)) in
    ap (λ b. b && near_frames (map frame_of lines)) (le-leb (line.address + line.size) 0x100 first) ∙ rest
