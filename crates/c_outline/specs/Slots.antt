-- What an initializer initializes and has given so far, as the rules speak of it.
use Rattle.std.specs.Prelude.{map, Option, Some, None}
use Rattle.c_typed.specs.Views.{item_of}
use Rattle.type_rules.specs.Slots as rule
use Rattle.c_outline.specs.declared.slots.Sink.{Sink}
use Rattle.c_outline.specs.declared.slot.Slot.{Slot}

abbrev pub slot_of : Slot → rule.Slot
slot_of s = record { ty = s.ty; offset = s.offset }

abbrev pub any_slot : Option Slot → Option rule.Slot
any_slot None = None
any_slot (Some s) = Some (slot_of s)

abbrev pub begun_of : Sink → rule.Begun
begun_of s = record { static_object = s.fixed; initial = s.initial.items; items = map item_of s.items.items; count = s.length; line = s.line }
