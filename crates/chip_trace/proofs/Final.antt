-- The theorem of arrivals.
use Rattle.std.proofs.Common.{◌≡◌, ℕ, ◌<◌, ◌≤◌, ◌⊎◌, inl, inr, Bool, List, Option, Some, refl, sym, ap, subst, ⊎_elim, arith}
use Rattle.std.specs.List.{All}
use Rattle.std.specs.Prelude.{if◌then◌else◌}
use Rattle.std.proofs.lemmas.Bool.{cases_lt}
use Rattle.pic_chip.specs.Act.{perform}
use Rattle.pic_chip.specs.Interrupts.{raised, begun, enter}
use Rattle.pic_chip.specs.State.{State}
use Rattle.pic_world.specs.Arrivals as world
use Rattle.pic_chip.specs.Run as chip
use Rattle.pic_chip.specs.Run.{IsStart, moment}
use Rattle.pic_map.specs.declared.Placed.{Placed}
use Rattle.core_code.specs.Bytes.{Held}
use Rattle.sym_code.specs.Effect.{Setting, Memory}
use Rattle.sym_code.specs.Registers.{Registers}
use Rattle.sym_code.specs.Machine.{Entry}
use Rattle.sym_code.specs.Programs.{front}
use Rattle.sym_code.specs.declared.code.BlockName.TheVariants.{Copy}
use Rattle.sym_code.specs.declared.code.SymBlock.{SymBlock}
use Rattle.chip_trace.specs.Arriving.{EndsBy, IsAssembled, IsRunning, IsStarted, Arrives, Fitting, Throughout, Arriving}
use Rattle.chip_trace.specs.Entries.{begins, memory_at, handler_finds}
use Rattle.chip_trace.specs.Within.{KeepsWithin, KeepingWithin}
use Rattle.chip_trace.proofs.Given.{meets, depth, within, frames}
use Rattle.chip_trace.proofs.Image.{IsImage}
use Rattle.chip_trace.proofs.Moments.{inputs_small}
use Rattle.chip_trace.proofs.Placing.{G, H}
use Rattle.chip_trace.proofs.Quick.{pace}
use Rattle.chip_trace.proofs.Relations.{Ground}
use Rattle.chip_trace.proofs.Vectors.{hd, only, is_image, is_below, main_place}
use Rattle.chip_trace.proofs.Whole.{registers_fit, finds_fit}

module _ (blocks : List SymBlock) (at : List ℕ) (placed : Placed) (handler : Option ℕ) (first : List (List Held)) (c : chip.Setting) (start : IsStart c.start) (inputs : All (λ byte. byte < 256) c.inputs) (limit : Bool → ℕ) where
  abbrev pub g : Setting
  g = G blocks at placed handler c.image c.watch limit

  abbrev h : Ground
  h = H blocks at placed handler c.image c.watch limit

  -- a setting is made of what is known of it
  pub setting_is : (s : Setting) → IsAssembled blocks at placed handler c.image c.watch s → limit ≡ s.limit → g ≡ s
  setting_is s a l = λ i. record { program = sym a.code i; banked = sym a.banked i; page_of = sym a.pages i; limit = l i; leaves = sym a.leaves i }

  module _ (a : IsAssembled blocks at placed handler c.image c.watch g) (started : IsStarted g first c) (n : ℕ) where
    abbrev k : ℕ
    k = hd blocks at placed handler c.image c.watch limit a

    abbrev x : IsImage g h c.image c.inputs k
    x = is_image blocks at placed handler c.image c.watch limit a c.inputs (inputs_small c.inputs inputs)

    abbrev o : (m : ℕ) → g.program.handler ≡ Some m → g.program.handler ≡ Some k
    o = only blocks at placed handler c.image c.watch limit a

    abbrev m : h.place (front g.program (Copy 0)) ≡ c.watch.main
    m = main_place blocks at placed handler c.image c.watch limit a

    abbrev e : Entry
    e = handler_finds g c started.at n

    arrived : Arrives g c e (begins c started.at) (memory_at c started.at) n
    arrived = record {
      meets = λ running. meets g h c k x refl a.ranges start o m first started n running;
      pace = λ t i j running le met quiet comes rich. pace g h c k x refl a.ranges start o m first started n running t le met quiet i j comes rich;
      no_underflow = λ j running le. (depth g h c k x refl a.ranges start o m first started n running j le).0;
      no_overflow = λ j running le. (depth g h c k x refl a.ranges start o m first started n running j le).1;
      frames = λ j b running lt met kept. frames g h c k x refl a.ranges start o m first started n running j b lt met kept;
    }

    -- before main is met
    early_within : (end : ℕ) → EndsBy blocks at end → (j : ℕ) → j < started.at → KeepsWithin g c end j
    early_within end ends j lt =
        let y = started.starting j lt in
        let s = (is_below blocks at placed handler c.image c.watch limit a end ends).start in
        let p = y.pc in
        let b : begun (world.arriving c.arrivals j) (moment c j).state ≡ raised (world.arriving c.arrivals j) (moment c j).state =
        ap (λ z. if z then perform enter (raised (world.arriving c.arrivals j) (moment c j).state) else raised (world.arriving c.arrivals j) (moment c j).state) y.untaken in
        let q : (begun (world.arriving c.arrivals j) (moment c j).state).pc ≡ (moment c j).state.pc = ap (λ (z : State). z.pc) b in
        record { pc = omega arith; begun_pc = omega arith; low = y.low; touches = y.touches }

    kept_within : (end : ℕ) → EndsBy blocks at end → (j : ℕ) → j ≤ n → (j < started.at) ⊎ IsRunning g c e (begins c started.at) (memory_at c started.at) n → KeepsWithin g c end j
    kept_within end ends j le (inl lt) = early_within end ends j lt
    kept_within end ends j le (inr running) =
        ⊎_elim (early_within end ends j)
        (λ ge. within g h c k x refl a.ranges start o m first started n running end (is_below blocks at placed handler c.image c.watch limit a end ends) j ge le)
        (cases_lt j started.at)

pub fitting : Fitting
fitting g c at = (registers_fit (moment c at).state, λ n k. finds_fit g c at n k)

-- of any setting that is assembled so
pub throughout : (Holds : Setting → chip.Setting → Entry → Registers → Memory → ℕ → Type 0)
    → ((blocks : List SymBlock) (at : List ℕ) (placed : Placed) (handler : Option ℕ) (first : List (List Held)) (c : chip.Setting) → IsStart c.start → All (λ byte. byte < 256) c.inputs → (limit : Bool → ℕ)
    → IsAssembled blocks at placed handler c.image c.watch (G blocks at placed handler c.image c.watch limit) → (started : IsStarted (G blocks at placed handler c.image c.watch limit) first c) → (n : ℕ)
    → Holds (G blocks at placed handler c.image c.watch limit) c (handler_finds (G blocks at placed handler c.image c.watch limit) c started.at n) (begins c started.at) (memory_at c started.at) n)
    → Throughout Holds
throughout Holds holds blocks at placed handler first g c a start inputs started =
    let same = setting_is blocks at placed handler first c start inputs g.limit g a refl in
    subst (λ s. IsAssembled blocks at placed handler c.image c.watch s → (started : IsStarted s first c) → (n : ℕ) → Holds s c (handler_finds s c started.at n) (begins c started.at) (memory_at c started.at) n) same
    (holds blocks at placed handler first c start inputs g.limit) a started

pub arriving : Arriving
arriving = throughout Arrives arrived

pub keeping_within : KeepingWithin
keeping_within blocks at placed handler first g c a start inputs started end ends n k le =
    let same = setting_is blocks at placed handler first c start inputs g.limit g a refl in
    subst (λ s. IsAssembled blocks at placed handler c.image c.watch s → (started : IsStarted s first c)
    → (k < started.at) ⊎ IsRunning s c (handler_finds s c started.at n) (begins c started.at) (memory_at c started.at) n → KeepsWithin s c end k) same
    (λ a' started'. kept_within blocks at placed handler first c start inputs g.limit a' started' n end ends k le) a started
