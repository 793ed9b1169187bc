use Rattle.c_typed.specs.Views.{program_of}
use Rattle.picc_core.specs.Compiled.{IsCompiledTo}
use Rattle.picc_core.proofs.Handed.{compiled_to}
use Rattle.picc_core.proofs.Named.{program_named}
use Rattle.picc_core.proofs.Seconds.{compiled_second, front_taken, translated_second}
use Rattle.picc_core.proofs.Translating.{checked, translated}
use Rattle.picc_core.proofs.for_second.compiled84.Goals as goal

pub built-requires : goal.built-requires
built-requires c = c.in_ok-front.ensures.known.founded

pub returns-clause-whole : goal.returns-clause-whole
returns-clause-whole c =
    let front = c.in_ok-front.ensures.known in
    let made = c.in_ok-made.ensures in
    let f = c.in_ok-front.front in
    let b = c.in_ok-made.made in
    let text = c.args.text.now in
    let is = checked f.typed f.copies.list.items f.placed f.at.items b made.objects made.frames front.founded made.code (program_named text (program_of f.typed) front.typed) in
    let all = translated f.typed f.copies.list.items f.placed f.at.items b made.objects made.frames front.founded made.code made.typed is in
    let first : IsCompiledTo text b =
    compiled_to text f b front.tree front.typed (front_taken text f front) front.roots front.recursion front.depth front.list front.exact front.apart front.clear front.objects front.ram front.blocks
    made.typed made.objects made.frames made.sizes is.range is.few all in
    compiled_second text f b front first made.typed made.objects made.frames made.sizes.1.0 all c.in_ok-second.second c.in_ok-second.ensures

pub returns-clause-translated : goal.returns-clause-translated
returns-clause-translated c =
    let front = c.in_ok-front.ensures.known in
    let made = c.in_ok-made.ensures in
    let f = c.in_ok-front.front in
    let b = c.in_ok-made.made in
    let is = checked f.typed f.copies.list.items f.placed f.at.items b made.objects made.frames front.founded made.code (program_named c.args.text.now (program_of f.typed) front.typed) in
    let all = translated f.typed f.copies.list.items f.placed f.at.items b made.objects made.frames front.founded made.code made.typed is in
    translated_second b c.in_ok-second.second all c.in_ok-second.ensures
