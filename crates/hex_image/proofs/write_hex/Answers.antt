use Rattle.std.proofs.Common.{◌≡◌, ◌++◌, ◌∙◌, ap, sym, subst, arith}
use Rattle.hex_image.specs.HexFile.{IsHexFile}
use Rattle.hex_image.specs.HexText.{blocks_text}
use Rattle.hex_image.proofs.Written.{first_text, end_text, no_blocks, whole}
use Rattle.hex_image.proofs.File.{hex_text-is_file}
use Rattle.hex_image.proofs.write_hex.Goals as goal

pub loop-k-init : goal.loop-k-init
loop-k-init c = record {
  text = c.in_ok-extend_from_slice.ensures.items ∙ ap (λ t. t ++ first_text) c.new-text.ensures.items ∙ no_blocks c.args.image.now;
  words = λ h. absurd (omega arith);
}

pub returns-clause-file : goal.returns-clause-file
returns-clause-file c =
    let image = c.args.image.now in
    let all : c.loop-k.k ≡ 1024 = omega arith in
    let text = c.in_ok-extend_from_slice-2.ensures.items ∙ ap (λ t. t ++ end_text) (c.loop-k.invariant.text ∙ ap (λ k. first_text ++ blocks_text image k) all) ∙ whole image in
    subst (λ t. IsHexFile t image) (sym text) (hex_text-is_file image (c.loop-k.invariant.words (omega arith)))
