use Rattle.c_nodes.specs.Lists.{suffixes_of}
use Rattle.c_nodes.specs.Views.{specs_of, suffix_of}
use Rattle.std.proofs.Common.{map}
use Rattle.parse_expr.proofs.Unary.{pointers_come, suffixes_come}
use Rattle.parse_expr.proofs.pointer.is_bare_void.Goals as goal

pub returns-in-len1-up-suffixes : goal.returns-in-len1-up-suffixes
returns-in-len1-up-suffixes c = suffixes_come (specs_of c.args.specs.now) c.args.pointers.now c.args.suffixes.now c.in-len1-up-suffixes.len_at_least

pub returns-in-len1-up : goal.returns-in-len1-up
returns-in-len1-up c = pointers_come (specs_of c.args.specs.now) c.args.pointers.now (suffixes_of (map suffix_of c.args.suffixes.now)) c.in-len1-up.len_at_least
