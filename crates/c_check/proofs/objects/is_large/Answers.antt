use Rattle.std.proofs.Common.{nat_lt, ap}
use Rattle.c_check.proofs.objects.is_large.Goals as goal

pub returns : goal.returns
returns c = λ known. ap (λ n. nat_lt 65535 n) (c.bytes_of.ensures known)
