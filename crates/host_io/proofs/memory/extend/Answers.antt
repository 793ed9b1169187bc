use Rattle.std.proofs.Common.{◌≡◌, ◌∙◌, Option, Some, option_map, ap, sym, rules, Vec, ℕ, Global}
use Rattle.std.specs.Option.{option_copied_mut}
use Rattle.host_io.specs.Memory.{contents_of}
use Rattle.host_io.proofs.Maps.{contents_of-stored, extended}
use Rattle.host_io.proofs.memory.extend.Goals as goal

pub returns-in-Some-clause-extended : goal.returns-in-Some-clause-extended
returns-in-Some-clause-extended c =
    let w = c.extend_from_slice.new.self in
    let stored = contents_of-stored c.args.name.now c.args.files.now (c.get_mut.follows.lender w) w ((c.get_mut.follows.holds w).3 (search rules)) in
    let has : contents_of c.args.files.now c.args.name.now ≡ Some c.in-Some.content.now.items =
    ap (λ (found : Option (Vec ℕ Global)). option_map (λ bytes. bytes.items) found) (sym c.get_mut.ensures.value ∙ ap option_copied_mut c.in-Some.is) in
    (extended (contents_of c.args.files.now) (contents_of (c.get_mut.follows.lender w)) c.args.name.now c.in-Some.content.now.items c.args.bytes.now w.items c.extend_from_slice.result stored has c.extend_from_slice.ensures.items).0

pub returns-in-Some-clause-refused : goal.returns-in-Some-clause-refused
returns-in-Some-clause-refused c =
    let w = c.extend_from_slice.new.self in
    let stored = contents_of-stored c.args.name.now c.args.files.now (c.get_mut.follows.lender w) w ((c.get_mut.follows.holds w).3 (search rules)) in
    let has : contents_of c.args.files.now c.args.name.now ≡ Some c.in-Some.content.now.items =
    ap (λ (found : Option (Vec ℕ Global)). option_map (λ bytes. bytes.items) found) (sym c.get_mut.ensures.value ∙ ap option_copied_mut c.in-Some.is) in
    (extended (contents_of c.args.files.now) (contents_of (c.get_mut.follows.lender w)) c.args.name.now c.in-Some.content.now.items c.args.bytes.now w.items c.extend_from_slice.result stored has c.extend_from_slice.ensures.items).1
