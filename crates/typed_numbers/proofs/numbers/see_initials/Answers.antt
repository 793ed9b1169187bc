use Rattle.c_typed.specs.declared.program.InitialByte.TheVariants.{Number}
use Rattle.src_rules.specs.Numbers.{InitialsHaveNumbers}
use Rattle.typed_numbers.proofs.Gathered.{OneInitial, all_gathered, gathered_at, one_initial}
use Rattle.typed_numbers.proofs.numbers.see_initials.Goals as goal

pub loop-initial-preserved : goal.loop-initial-preserved
loop-initial-preserved c =
    gathered_at OneInitial InitialsHaveNumbers one_initial c.args.initials.now c.loop-initial.initial-index (record { offset = 0; byte = Number 0 }) c.loop-initial-test.true
    c.see_initial.ensures c.loop-initial.invariant

pub returns : goal.returns
returns c = all_gathered InitialsHaveNumbers tt _ _ c.loop-initial-test.false c.loop-initial.invariant
