use Rattle.picc_core.proofs.Handed.{compiled_to}
use Rattle.picc_core.proofs.Keeping.{translations_kept}
use Rattle.picc_core.proofs.Named.{program_named}
use Rattle.picc_core.proofs.Translating.{checked, translated}
use Rattle.picc_core.proofs.compiling.compiled.Goals as goal
use Rattle.c_typed.specs.Views.{program_of}
use Rattle.pic_map.specs.MapView.{content_of}

pub built-requires : goal.built-requires
built-requires c = c.in_ok-front.ensures.founded

pub returns-clause-translated : goal.returns-clause-translated
returns-clause-translated c =
    let front = c.in_ok-front.ensures in
    let made = c.in_ok-made.ensures in
    let f = c.in_ok-front.front in
    let b = c.in_ok-made.made in
    let is = checked f.typed f.copies.list.items f.placed f.at.items b made.objects made.frames front.founded made.code (program_named c.args.text.now (program_of f.typed) front.typed) in
    translated f.typed f.copies.list.items f.placed f.at.items b made.objects made.frames front.founded made.code made.typed is

pub returns-clause-kept : goal.returns-clause-kept
returns-clause-kept c = let b = c.in_ok-made.made in translations_kept (program_of b.typed) b.image (content_of b.map) (returns-clause-translated c)

pub returns-clause-whole : goal.returns-clause-whole
returns-clause-whole c =
    let front = c.in_ok-front.ensures in
    let made = c.in_ok-made.ensures in
    let f = c.in_ok-front.front in
    let b = c.in_ok-made.made in
    let is = checked f.typed f.copies.list.items f.placed f.at.items b made.objects made.frames front.founded made.code (program_named c.args.text.now (program_of f.typed) front.typed) in
    compiled_to c.args.text.now f b front.tree front.typed front.taken front.roots front.recursion front.depth front.list front.exact front.apart front.clear front.objects
    front.ram front.blocks made.typed made.objects made.frames made.sizes is.range is.few
    (returns-clause-translated c)
