-- What waits in the code has at most as many elements as the stack of the definition has entries.
use Rattle.std.proofs.Common.{◌≡◌, ◌≤◌, ℕ, ◌+◌, Bool, true, false, List, [], ◌∷◌, length, reverse, refl, arith, length-append}
use Rattle.std.proofs.lemmas.List.{length-reverse}
use Rattle.std.specs.Vec.{vec_capacity}
use Rattle.c_typed.specs.Trees.{Expression}
use Rattle.c_typed.specs.Views.{expression_of}
use Rattle.src_machine.specs.Seen.{HasRoom, interrupted_in, stack_of}
use Rattle.src_machine.specs.declared.machine.Machine.{Machine}
use Rattle.src_rules.specs.Laws.{entries, values_in}
use Rattle.src_values.specs.Control as control
use Rattle.src_values.specs.Seen.{frames_behind, got_in, has_values, values_on, datum_of}
use Rattle.src_values.specs.declared.control.Got.{Got}
use Rattle.src_values.specs.declared.control.Got.TheVariants as gots
use Rattle.src_values.specs.declared.control.Pending.{Pending}
use Rattle.src_values.specs.declared.control.Pending.TheVariants as frames

-- the values on top that belong to a call above
abbrev on_top : Bool → List Pending → ℕ
on_top true k = length (values_on k)
on_top false k = 0

got_values : (e : Expression) (got : Got) (k : List Pending) → values_in (got_in e got (values_on k)) ≡ on_top (has_values got) k
got_values e gots.Nothing k = refl
got_values e gots.Chosen k = refl
got_values e (gots.One v) k = refl
got_values e (gots.At spot) k = refl
got_values e (gots.AtWith spot v) k = refl
got_values e (gots.Stores spot v) k = refl
got_values e gots.Copies k = refl
got_values e (gots.Args n) k = refl
got_values e gots.Passed k = refl
got_values e gots.Called k = refl

pub waits : (x : control.Focus) (b : Bool) (k : List Pending) → length k ≤ entries (frames_behind x b k) + on_top b k
waits x b [] = omega arith
waits x b (frames.In e got ∷ k) = let i = waits x (has_values got) k in let d = got_values (expression_of e.now) got k in omega arith
waits x true (frames.Value v ∷ k) = let i = waits x true k in let d = length-append (values_on k) (datum_of v ∷ []) in omega arith
waits x false (frames.Value v ∷ k) = let i = waits x false k in omega arith
waits x b (frames.To place ∷ k) = let i = waits x false k in omega arith
waits x b (frames.Doing code stage ∷ k) = let i = waits x false k in omega arith
waits x b (frames.Before ss at ∷ k) = let i = waits x false k in omega arith
waits x b (frames.Ended ∷ k) = let i = waits x false k in omega arith
waits x b (frames.Returns copy ∷ k) = let i = waits x false k in omega arith
waits x b (frames.Resumes copy ∷ k) = let i = waits x false k in omega arith

pub has_length : (m : Machine) → length (reverse m.stack.items) ≤ entries (stack_of m)
has_length m = let i = waits (interrupted_in m) false (reverse m.stack.items) in omega arith

pub has_room : (m : Machine) → entries (stack_of m) + 3 ≤ vec_capacity m.stack → HasRoom 3 m
has_room m h = let i = has_length m in let d = length-reverse m.stack.items in let o = m.stack.ok in omega arith
