use Rattle.sym_code.specs.declared.code.Label.TheVariants.{Inner}
use Rattle.code_place.proofs.Places.{count_turn, label_turn}
use Rattle.code_place.proofs.marks.inner_labels.Goals as goal

pub loop-sym-preserved : goal.loop-sym-preserved
loop-sym-preserved c = (
  count_turn _ _ _ _ _ _ _ c.deref-sym-items.ensures.value c.loop-sym-test.true c.loop-sym.invariant.0 c.words_of_one-pc.ensures.value,
  λ asked. label_turn (Inner asked) _ _ _ _ _ _ _ _ _ c.deref-sym-items.ensures.value c.loop-sym-test.true c.loop-sym.invariant.0 c.label_of.ensures (c.loop-sym.invariant.1 asked) (c.in_ok-put_inner.ensures asked),
)
