use Rattle.std.proofs.Common.{◌∙◌, refl, subst, sym, take}
use Rattle.std.specs.Prelude.{slice_index_or}
use Rattle.pic_chip.specs.Words.{AreWords}
use Rattle.hex_image.specs.HexFile.{Given}
use Rattle.hex_image.specs.Answers.{IsFilled}
use Rattle.hex_image.proofs.Filled.{given_on, passed_on, next_given}
use Rattle.hex_image.proofs.read.filled.Goals as goal
use Rattle.hex_image.proofs.read.filled.Goals.{then-address-lt-MEMORY_BYTES, else-address-lt-MEMORY_BYTES}

pub loop-address-preserved : goal.loop-address-preserved
loop-address-preserved c =
    let given = c.args.given.now in
    let i = c.loop-address.address-index in
    let next : Given = slice_index_or given i (0, 0) in
    let more = next_given given i (0, 0) next.0 next.1 c.loop-address-test.true refl in
    elim c.if-address-lt-MEMORY_BYTES.branch [
      | then-address-lt-MEMORY_BYTES w ↦
          given_on given i next.0 next.1 c.loop-address.image c.if-address-lt-MEMORY_BYTES.image c.loop-address.invariant c.requires.once more w.if-address-lt-MEMORY_BYTES.true
          (w.image-is ∙ w.put_byte.ensures.value) (subst AreWords (sym w.image-is) w.put_byte.ensures.words)
      | else-address-lt-MEMORY_BYTES w ↦
          passed_on given i next.0 next.1 c.if-address-lt-MEMORY_BYTES.image (subst (λ image. IsFilled (take i given) image) (sym w.image-is) c.loop-address.invariant) more w.if-address-lt-MEMORY_BYTES.false
    ]
