use Rattle.rom_tables.proofs.Making.{made_is, made_small, made_sound}
use Rattle.rom_tables.proofs.pass.typed_from.Goals as goal

pub invariant_of-result : goal.invariant_of-result
invariant_of-result c =
    let a = c.args in
    let r = c.requires in
    record {
      sound = made_sound a.p.now a.targets.items a.structures.items a.statics.items a.functions.items r.targets r.structures r.statics r.functions;
      small = made_small a.p.now a.targets.items a.structures.items a.statics.items a.functions.items r.targets r.structures r.statics r.functions r.small;
    }

pub returns : goal.returns
returns c =
    let a = c.args in
    let r = c.requires in
    made_is a.p.now a.targets.items a.structures.items a.statics.items a.functions.items r.targets r.structures r.statics r.functions
