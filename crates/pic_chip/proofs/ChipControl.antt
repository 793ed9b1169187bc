-- What the chip's acts do to the registers by which interrupts come.
use Rattle.std.proofs.Common.{◌≡◌, ℕ, List, refl}
use Rattle.pic_isa.specs.declared.Ins.TheVariants.{Retfie}
use Rattle.pic_world.specs.Control.{raised_by, entered, left}
use Rattle.pic_chip.specs.State.{State}
use Rattle.pic_chip.specs.Act.{perform}
use Rattle.pic_chip.specs.Instructions.{row}
use Rattle.pic_chip.specs.Interrupts.{control_of, raised, enter}

pub control_raised : (mask : ℕ) (s : State) → control_of (raised mask s) ≡ raised_by mask (control_of s)
unfolding raised_by
control_raised mask s = refl

pub control_entered : (s : State) → control_of (perform enter s) ≡ entered (control_of s)
unfolding entered
control_entered s = refl

pub control_left : (inputs : List ℕ) (pc : ℕ) (s : State) → control_of (perform (row inputs pc Retfie) s) ≡ left (control_of s)
unfolding left
control_left inputs pc s = refl
