use Rattle.std.proofs.Common.{◌≡◌, length, map}
use Rattle.type_rules.specs.Known.{Known}
use Rattle.type_rules.specs.Outlines as rule
use Rattle.c_tables.specs.Tables.{types_in}
use Rattle.c_outline.specs.Views.{made_of, outline_of}
use Rattle.c_outline.proofs.outline.outlined.Given as goal

abbrev pub invariant-loop-suffix : goal.invariant-loop-suffix
invariant-loop-suffix l = (known : Known) → rule.outlined (map made_of l.fn.made.items) (outline_of l.fn.base) (types_in l.fn.types known) ≡ rule.outlined (map made_of l.left.items) (outline_of l.outline) (types_in l.types known)

abbrev pub decreases-loop-suffix : goal.decreases-loop-suffix
decreases-loop-suffix l = length l.left.items
