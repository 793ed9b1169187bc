use Rattle.std.proofs.Common.{◌≡◌, ℕ, List, map, true, ap, ◌∙◌, subst}
use Rattle.c_typed.specs.Types.{type_bytes}
use Rattle.c_typed.specs.Views.{program_of, static_of, size_of}
use Rattle.c_typed.specs.declared.types.Structure.{Structure}
use Rattle.live_frames.specs.Memory.{is_taken}
use Rattle.ram_place.specs.Regions.{HasNoPlaceBelow}
use Rattle.ram_place.proofs.Standing.{object_told}
use Rattle.ram_place.proofs.placing.object_line.Goals as goal

pub returns-in-Some : goal.returns-in-Some
returns-in-Some c =
    let bytes = c.bytes_of.ensures ∙ ap (λ (list : List Structure). type_bytes (map size_of list) c.args.object.now.ty.ty) c.deref-2.ensures.value in
    object_told c.args.top (program_of c.args.p.now) (static_of c.args.object.now) (λ (x : ℕ). is_taken c.args.taken.now.marks x ≡ true) c.in_ok-name.name.items c.in-Some.span.address c.in-Some.span.size c.bytes_of.result (c.in_ok-name.ensures ∙ c.deref.ensures.value) bytes c.in-Some.ensures.0 c.in-Some.ensures.1

pub returns-in-None : goal.returns-in-None
returns-in-None c =
    let bytes = c.bytes_of.ensures ∙ ap (λ (list : List Structure). type_bytes (map size_of list) c.args.object.now.ty.ty) c.deref-2.ensures.value in
    let P : ℕ → Type 0 = λ (n : ℕ). HasNoPlaceBelow c.args.top (λ x. is_taken c.args.taken.now.marks x ≡ true) n in
    (c.in_ok-name.ensures ∙ c.deref.ensures.value, subst P bytes c.in-None.ensures)
