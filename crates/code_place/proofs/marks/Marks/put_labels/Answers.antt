use Rattle.std.proofs.Common.{◌∙◌}
use Rattle.sym_code.specs.declared.code.Label.TheVariants.{Halt, Restore}
use Rattle.code_place.proofs.Places.{count_turn, later_turn}
use Rattle.code_place.proofs.marks.Marks.put_labels.Goals as goal

pub loop-sym-preserved : goal.loop-sym-preserved
loop-sym-preserved c = (
  count_turn _ _ _ _ _ _ _ c.deref-sym-items.ensures.value c.loop-sym-test.true c.loop-sym.invariant.0 c.words_of_one-pc.ensures.value,
  λ asked. c.put_label.ensures.names asked ∙ c.loop-sym.invariant.1 asked,
  later_turn Halt _ _ _ _ _ _ _ _ _ _ c.deref-sym-items.ensures.value c.loop-sym-test.true c.loop-sym.invariant.0 c.label_of.ensures c.loop-sym.invariant.2 c.put_label.ensures.halt,
  later_turn Restore _ _ _ _ _ _ _ _ _ _ c.deref-sym-items.ensures.value c.loop-sym-test.true c.loop-sym.invariant.0 c.label_of.ensures c.loop-sym.invariant.3 c.put_label.ensures.restore,
)
