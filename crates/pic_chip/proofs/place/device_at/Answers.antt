use Rattle.std.proofs.Common.{◌≡◌, ap, ◌∙◌, sym, if◌then◌else◌, ◌*◌, ◌+◌, ◌%◌}
use Rattle.pic_chip.specs.Address.{Device, Nothing}
use Rattle.pic_chip.proofs.Devices.{device_place, device_fits}
use Rattle.pic_chip.proofs.place.device_at.Goals as goal

pub returns-then-is_device-clause-value : goal.returns-then-is_device-clause-value
returns-then-is_device-clause-value c =
    sym (device_place c.args.bank c.args.low c.requires.bank c.requires.low c.requires.other c.requires.peripheral ∙ ap (λ b. if b then Device (0x80 * (c.args.bank % 2) + c.args.low) else Nothing) (sym c.is_device.ensures ∙ c.if-is_device.true))

pub returns-else-is_device-clause-value : goal.returns-else-is_device-clause-value
returns-else-is_device-clause-value c =
    sym (device_place c.args.bank c.args.low c.requires.bank c.requires.low c.requires.other c.requires.peripheral ∙ ap (λ b. if b then Device (0x80 * (c.args.bank % 2) + c.args.low) else Nothing) (sym c.is_device.ensures ∙ c.if-is_device.false))

pub returns-then-is_device-clause-fits : goal.returns-then-is_device-clause-fits
returns-then-is_device-clause-fits c = device_fits c.args.bank c.args.low c.requires.bank c.requires.low (sym c.is_device.ensures ∙ c.if-is_device.true)
