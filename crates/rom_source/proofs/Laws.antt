-- The law of outlining.
use Rattle.rom_source.proofs.Making.{rows, fs, is_made}
use Rattle.rom_source.proofs.Runs.{followed}
use Rattle.rom_source.specs.Outlining.{OutlineKeeps}
use Rattle.rom_tables.specs.Outlined.{outlined}

pub outline_keeps_law : OutlineKeeps
unfolding outlined
outline_keeps_law p sound o bytes n defined =
    let f = followed p (rows p) (fs p) (is_made p sound) sound o bytes n defined in
    record { at = f.at; starts = f.starts; rises = f.rises; trace = f.trace; world = f.world; goes = f.goes; least = f.least; most = f.most; rests = f.rests }
