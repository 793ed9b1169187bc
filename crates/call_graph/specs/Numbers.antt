-- The numbers of copies, by their places in the list.
use Rattle.std.specs.Prelude.{ℕ, nat_eq, Bool, false, ◌&&◌, List, Option}
use Rattle.std.specs.List.{position}
use Rattle.pic_world.specs.Roots.{same_root}
use Rattle.pic_world.specs.declared.Root.{Root}
use Rattle.pic_world.specs.declared.Root.TheVariants.{Isr}
use Rattle.c_typed.specs.Chains.{helper_number}
use Rattle.c_typed.specs.declared.calls.FnId.{FnId}
use Rattle.c_typed.specs.declared.calls.FnId.TheVariants as callee
use Rattle.c_typed.specs.declared.calls.Helper.{Helper}
use Rattle.call_graph.specs.declared.types.FnCopy.{FnCopy}

-- the handler's copy is the first under its root
abbrev pub handler_at : List FnCopy → Option ℕ
handler_at list = position (λ copy. same_root copy.root Isr) list

abbrev pub is_helper : Helper → FnId → Bool
is_helper helper (callee.User f) = false
is_helper helper (callee.Helper other) = nat_eq (helper_number other) (helper_number helper)

abbrev pub is_copy_of : Root → Helper → FnCopy → Bool
is_copy_of root helper copy = same_root copy.root root && is_helper helper copy.function

-- the number of a helper's copy under a root
abbrev pub copy_of : List FnCopy → Root → Helper → Option ℕ
copy_of list root helper = position (is_copy_of root helper) list
