use Rattle.std.proofs.Common.{◌&&◌, nat_le, ap, ◌∙◌}
use Rattle.c_check.proofs.objects.is_sized.Goals as goal

pub returns : goal.returns
returns c = λ known.
    c.both.ensures ∙ (ap (λ a. a && c.is_within-2.result) c.is_within.ensures
    ∙ ap (λ b. nat_le c.args.length 65535 && b) (c.is_within-2.ensures ∙ ap (λ n. nat_le n 65535) (c.bytes_of-bytes.ensures known)))
