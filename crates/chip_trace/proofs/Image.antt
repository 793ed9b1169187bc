-- What is known of an image, and one instruction of a moment.
use Rattle.std.proofs.Common.{◌≡◌, ◌≢◌, ℕ, ◌+◌, ◌%◌, ◌/◌, ◌<◌, ◌≤◌, Bool, true, false, List, [], ◌∷◌, ◌++◌, length, map, Option, Some, None, refl, ap, ◌∙◌, arith, length-append}
use Rattle.std.specs.Prelude.{not, ◌&&◌, if◌then◌else◌, nat_eq, slice_index, slice_set, slice_get}
use Rattle.std.proofs.lemmas.Bool.{eqb-true, eqb-false, eq-eqb}
use Rattle.std.proofs.lemmas.List.{length-map, get_or-set_same, get_or-set_other}
use Rattle.pic_isa.specs.declared.Ins.TheVariants as isa
use Rattle.pic_isa.specs.Lookup.{row_of}
use Rattle.pic_chip.specs.Act.{perform, accesses}
use Rattle.pic_chip.specs.Instructions.{execute, fetched, is_return_from_interrupt}
use Rattle.pic_chip.specs.Run.{Moment, Watch, Range, observed, events_of}
use Rattle.pic_chip.specs.State.{State}
use Rattle.pic_world.specs.World.{Happening, event_of}
use Rattle.pic_world.specs.declared.Event.{Event as Shown}
use Rattle.pic_world.specs.declared.Event.TheVariants as events
use Rattle.sym_code.specs.Effect.{Setting, Memory, Write, written}
use Rattle.sym_code.specs.Layout.{owner, Nobody, IsLaidOut}
use Rattle.sym_code.specs.Programs.{Position, lands}
use Rattle.sym_code.specs.declared.code.BlockName.TheVariants.{Copy}
use Rattle.sym_code.specs.declared.code.PageBit.{PageBit}
use Rattle.sym_code.specs.declared.code.Sym.{Sym}
use Rattle.chip_trace.specs.Arriving.{keeps_out}
use Rattle.chip_trace.proofs.Addresses.{somebodys_number}
use Rattle.chip_trace.proofs.Past.{IsApart}
use Rattle.chip_trace.proofs.Relations.{Ground, put_in, words, page_row, IsPlaced}
use Rattle.chip_trace.proofs.Sound.{is_copy}
use Rattle.chip_trace.proofs.Stands.{Vector, SameBytes}

pub record IsImage (g : Setting) (h : Ground) (image input : List ℕ) (hd : ℕ) : Type 0 where
  pub reaches : ℕ → ℕ → Bool
  pub laid : IsLaidOut reaches g.program.layout
  pub placed : IsPlaced g h image
  pub banked : g.banked ≡ true
  pub vector : g.program.handler ≡ Some hd → Vector g h image hd
  pub outside : (copy n : ℕ) (s : Sym) → slice_get (g.program.block (Copy copy)) n ≡ Some s → keeps_out s ≡ true
  pub main_depth : g.limit false ≤ 8
  pub depth : g.program.handler ≡ Some hd → g.limit false + 1 + g.limit true ≤ 8
  pub halts : (p : Position) → lands g.program p ≡ true → is_copy p.block ≡ true → h.place p ≢ h.halt
  -- where main has ended, so many selects of the page stand, and a jump to the first of them; main is at one of these words
  pub turns : ℕ
  pub bit : ℕ → PageBit
  pub selects : (k : ℕ) → k < turns → row_of (slice_index image (h.halt + k)) ≡ Some (page_row (bit k) (h.halt / 2048))
  pub stays : row_of (slice_index image (h.halt + turns)) ≡ Some (isa.Goto (h.halt % 2048))
  pub halt_small : h.halt + turns < 8192
  pub within : h.halt + turns < h.long
  pub turn : ℕ
  pub turn_small : turn ≤ turns
  pub rests : h.rests ≡ h.halt + turn
  pub small : (k : ℕ) → slice_index input k < 256

-- ---- one instruction of a moment
abbrev pub after : List ℕ → List ℕ → List Range → Moment → State → Bool → Moment
after image input ranges c s hand = record c {
  state = perform (execute image input) s;
  handling = hand && not (is_return_from_interrupt (fetched image s));
  trace = c.trace ++ events_of ranges (accesses (execute image input) s);
}

module _ (watch : Watch) where
  -- away from the halt address, and where main has ended already
  pub elsewhere : (d : Moment) → d.met ≡ true → nat_eq d.state.pc watch.halt ≡ false → observed watch d ≡ d
  elsewhere d m e =
      ap (λ b. if b then (if nat_eq d.state.pc watch.halt && not d.ended then record d { ended = true; trace = d.trace ++ events.End ∷ [] } else d) else record d { met = nat_eq d.state.pc watch.main }) m
      ∙ ap (λ b. if b && not d.ended then record d { ended = true; trace = d.trace ++ events.End ∷ [] } else d) e

  pub again : (d : Moment) → d.met ≡ true → d.ended ≡ true → observed watch d ≡ d
  again d m e =
      ap (λ b. if b then (if nat_eq d.state.pc watch.halt && not d.ended then record d { ended = true; trace = d.trace ++ events.End ∷ [] } else d) else record d { met = nat_eq d.state.pc watch.main }) m
      ∙ by (nat_eq d.state.pc watch.halt) where
        by : (b : Bool) → (if b && not d.ended then record d { ended = true; trace = d.trace ++ events.End ∷ [] } else d) ≡ d
        by true = ap (λ z. if not z then record d { ended = true; trace = d.trace ++ events.End ∷ [] } else d) e
        by false = refl

  pub ending : (d : Moment) → d.met ≡ true → d.ended ≡ false → d.state.pc ≡ watch.halt → observed watch d ≡ record d { ended = true; trace = d.trace ++ events.End ∷ [] }
  ending d m e p =
      ap (λ b. if b then (if nat_eq d.state.pc watch.halt && not d.ended then record d { ended = true; trace = d.trace ++ events.End ∷ [] } else d) else record d { met = nat_eq d.state.pc watch.main }) m
      ∙ ap (λ b. if b && not d.ended then record d { ended = true; trace = d.trace ++ events.End ∷ [] } else d) (eq-eqb d.state.pc watch.halt p)
      ∙ ap (λ z. if not z then record d { ended = true; trace = d.trace ++ events.End ∷ [] } else d) e

  -- the trace only grows there
  pub observed_long : (d : Moment) → length d.trace ≤ length (observed watch d).trace
  observed_long d = by d.met where
    inner : (b : Bool) → length d.trace ≤ length (if b then record d { ended = true; trace = d.trace ++ events.End ∷ [] } else d).trace
    inner true = let l = length-append d.trace (events.End ∷ []) in omega arith
    inner false = omega arith

    by : (b : Bool) → length d.trace ≤ length (if b then (if nat_eq d.state.pc watch.halt && not d.ended then record d { ended = true; trace = d.trace ++ events.End ∷ [] } else d) else record d { met = nat_eq d.state.pc watch.main }).trace
    by true = inner (nat_eq d.state.pc watch.halt && not d.ended)
    by false = omega arith

-- ---- memory
module _ (g : Setting) (h : Ground) (image input : List ℕ) (hd : ℕ) (x : IsImage g h image input hd) where
  abbrev pub Same : List ℕ → Memory → Type 0
  Same = SameBytes g h image hd x.vector

  -- the same write
  pub put_written : (w : Option Write) (ram : List ℕ) (m : Memory) → length ram ≡ 368 → Same ram m → Same (put_in w ram) (written w m)
  put_written None ram m n s k own = s k own
  put_written (Some y) ram m n s k own = by (nat_eq k y.number) refl where
    by : (b : Bool) → nat_eq k y.number ≡ b → slice_index (slice_set ram y.number y.byte) k ≡ (if b then y.byte else m k)
    by true e =
        let f = eqb-true k y.number e in
        let lt = somebodys_number x.reaches g.program.layout k x.laid own in
        ap (slice_index (slice_set ram y.number y.byte)) f ∙ get_or-set_same ram y.number y.byte 0 (omega arith)
    by false e = get_or-set_other ram y.number k y.byte 0 (eqb-false k y.number e) ∙ s k own

  -- a byte that is nobody's
  pub nobody_put : (j b : ℕ) (ram : List ℕ) (m : Memory) → owner g.program.layout j ≡ Nobody → Same ram m → Same (slice_set ram j b) m
  nobody_put j b ram m n s k own = get_or-set_other ram j k b 0 (λ e. own (ap (owner g.program.layout) e ∙ n)) ∙ s k own

  pub words_length : (s : List Position) (below : List ℕ) → length (words g h s below) ≡ length s + length below
  words_length [] below = omega arith
  words_length (p ∷ s) below = let e = words_length s below in omega arith

pub put_apart : (w : Option Write) (ram : List ℕ) (k : ℕ) → IsApart w k → slice_index (put_in w ram) k ≡ slice_index ram k
put_apart None ram k a = refl
put_apart (Some y) ram k a = get_or-set_other ram y.number k y.byte 0 (eqb-false k y.number a)

-- ---- traces
pub same_length : (c : List Shown) (w : List (Happening ℕ)) → c ≡ map event_of w → length c ≡ length w
same_length c w e = ap length e ∙ length-map w event_of
