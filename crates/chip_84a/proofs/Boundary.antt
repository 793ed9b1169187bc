-- What happens at a boundary of two instructions, by the calls of the first chip's processor.
use Rattle.std.proofs.Common.{◌≡◌, ℕ, ◌/◌, ◌%◌, List, [], ◌∷◌, refl, sym, ap, ◌∙◌, arith}
use lib.Bits.{or_zero_r}
use Rattle.std.specs.Prelude.{bit_or}
use Rattle.pic_chip.specs.Act.{Act, Do, Effect, Write, effect, perform, value_in}
use Rattle.pic_chip.specs.Address.{Place}
use Rattle.pic_chip.specs.Instructions.{contents, to}
use Rattle.pic_chip.specs.Interrupts as first
use Rattle.pic_chip.specs.Machine.{Feeds, feeds_each}
use Rattle.pic_chip.specs.Named.{device_in}
use Rattle.pic_chip.specs.SmallAddress.{small_operand}
use Rattle.pic_chip.specs.State.{State, AtIntcon}
use Rattle.chip_84a.specs.Machine.{raise}

-- flags of INTCON alone leave PIR1 as it is
pub flags_raised : (mask : ℕ) (s : State) → perform (first.raise (mask % 8)) s ≡ perform (raise mask) s
flags_raised mask s =
    let low : mask % 8 % 8 ≡ mask % 8 = omega arith in
    let none : mask % 8 / 8 % 256 ≡ 0 = omega arith in
    ap (λ x. record s { intcon = bit_or s.intcon x; pir1 = bit_or s.pir1 (mask % 8 / 8 % 256) }) low
    ∙ ap (λ x. record s { intcon = bit_or s.intcon (mask % 8); pir1 = x }) (ap (bit_or s.pir1) none ∙ or_zero_r s.pir1)

-- the first value that is written
abbrev written : State → List Write → ℕ
written s [] = 0
written s (x ∷ xs) = value_in s x.value

-- what the place of operand 0Bh holds is INTCON
pub intcon_held : (s : State) (p : Place) (byte : ℕ) → ((next : Place → Act) → effect (small_operand 0x0b next) s ≡ effect (next p) s)
    → ((inputs : List ℕ) → Feeds inputs s.taken 0 (device_in p) → byte ≡ value_in s (contents inputs s.pc p)) → byte ≡ s.intcon
intcon_held s p byte leads holds =
    holds [] (feeds_each [] s.taken 0 refl (device_in p))
    ∙ sym (ap (λ (e : Effect). written s e.writes) (leads (λ q. Do (record { writes = to AtIntcon (contents [] s.pc q) ∷ []; notes = [] }))))
