-- The rule of each chip of this family.
use Rattle.pic_chip.specs.declared.profile.Profile.{Profile}
use Rattle.pic_chip.specs.declared.profile.Profile.TheVariants.{Pic16F877a, Pic16F84a}
use Rattle.pic_chip.specs.Instructions.{Rule, big}
use Rattle.pic_chip.specs.SmallAddress.{small}

abbrev pub rule_of : Profile → Rule
rule_of Pic16F877a = big
rule_of Pic16F84a = small
