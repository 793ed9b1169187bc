use Rattle.c_nodes.specs.ProgramViews.{unit_of}
use Rattle.c_parse.proofs.Whole.{found, as_long, only, limit_only, no_tree}
use Rattle.c_parse.proofs.entry.parse.Goals as goal

pub returns : goal.returns
returns c =
    let text = c.args.text.now in
    let toks = c.args.toks.now in
    let r = c.read.result in
    let k = c.read.ensures in
    record {
      limit = k.limit;
      limit_only = limit_only unit_of text toks r k.limit k.within;
      found = found unit_of text toks r k.limit k.within;
      many = as_long unit_of text toks r (found unit_of text toks r k.limit k.within);
      only = only unit_of text toks r k.within;
      no_tree = no_tree unit_of text toks r k.limit k.within;
    }
