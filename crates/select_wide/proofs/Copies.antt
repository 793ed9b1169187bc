-- The number of a copy that is found.
use Rattle.std.proofs.Common.{◌≡◌, ℕ, ◌≤◌, List, length, Some, arith}
use Rattle.std.proofs.lemmas.List.Quantifiers.{position-Some}
use Rattle.c_typed.specs.declared.calls.FnId.TheVariants.{User}
use Rattle.c_typed.specs.declared.calls.Helper.{Helper}
use Rattle.call_graph.specs.Numbers.{is_copy_of, copy_of}
use Rattle.call_graph.specs.declared.types.FnCopy.{FnCopy}
use Rattle.pic_world.specs.declared.Root.{Root}

-- it is small, where there are few copies
pub small_number : (copies : List FnCopy) (root : Root) (helper : Helper) (number : ℕ) → copy_of copies root helper ≡ Some number → length copies ≤ 65536 → number ≤ 65535
small_number copies root helper number is few =
    let within = (position-Some (is_copy_of root helper) copies number (record { root = root; function = User 0; level = 0 }) is).0 in
    omega (arith, within, few)
