use Rattle.std.proofs.Common.{◌+◌, ◌*◌, List, ap, ◌∙◌}
use Rattle.c_typed.specs.Nodes.{capped}
use Rattle.c_typed.specs.Trees.{StaticTree}
use Rattle.c_typed.specs.Views.{program_of}
use Rattle.c_typed.specs.Words.{statics_bytes}
use Rattle.ram_place.proofs.Remaining.{kept_none}
use Rattle.ram_place.proofs.frame.start_words.Goals as goal

pub returns : goal.returns
returns c =
    let p = program_of c.args.p.now in
    c.start_words_but.ensures ∙ ap (λ (list : List StaticTree). capped (100 + 4 * statics_bytes p.sizes list)) (kept_none 0 p.statics)
