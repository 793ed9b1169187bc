use Rattle.std.proofs.Common.{◌≡◌, drop, map}
use Rattle.c_parse.specs.Marks.{with_names}
use Rattle.c_parse.proofs.marks.put_names.Given as goal

abbrev pub invariant-loop-tok : goal.invariant-loop-tok
invariant-loop-tok l = with_names l.text (drop l.tok-index l.toks) (map (λ name. name.items) l.names.keys) ≡ with_names l.text l.toks (map (λ name. name.items) l.fn.names.keys)
