-- The laws of switches that compare, put together.
use Rattle.std.proofs.Common.{ℕ, ◌+◌, ◌*◌, ◌<◌, Bool, true, false, if◌then◌else◌, List, [], ◌∷◌, Option, Some, None, refl, arith}
use Rattle.std.specs.List.{All}
use Rattle.c_typed.specs.Room.{room, switch_room, statement_room, statements_room}
use Rattle.c_typed.specs.Trees as tree
use Rattle.c_typed.specs.Trees.{Expression, Statement, Statements}
use Rattle.c_typed.specs.Types.{type_bytes, type_of, value_bytes}
use Rattle.c_typed.specs.declared.statement.TCase.{TCase}
use Rattle.pic_world.specs.World.{World, arrived}
use Rattle.src_rules.specs.Accesses.{goes}
use Rattle.src_rules.specs.Giving.{compares, jump, jump_if_any}
use Rattle.src_rules.specs.State.{Outcome, state}
use Rattle.src_rules.specs.Step.{act}
use Rattle.src_values.specs.Control.{Compares, Chooses, Pending, Doing}
use Rattle.src_values.specs.Data.{Datum}
use Rattle.src_values.specs.Memory as source
use Rattle.src_values.specs.Values.{is_case}
use Rattle.src_values.specs.declared.objects.Byte.{Byte}
use Rattle.src_values.specs.declared.objects.CopyOf.{CopyOf}
use Rattle.lower_trace.specs.Lowering.{IsLowerable}
use Rattle.lower_trace.proofs.CodeLeft.{Scene}
use Rattle.lower_trace.proofs.Known.{around, small}
use Rattle.lower_trace.proofs.Leads.{Law, IsSilent, on_led}
use Rattle.lower_trace.proofs.PriceTests.{compare_room}
use Rattle.lower_trace.proofs.Prices.{some_label}
use Rattle.lower_trace.proofs.Rooms.{two_parts}
use Rattle.lower_trace.proofs.Scenes.{frame_is, scene_laws}
use Rattle.lower_trace.proofs.SwitchCases.{compare_most, compares_stands}

-- a comparison makes no event
silent_either : (b : Bool) (x y : Outcome) → IsSilent x → IsSilent y → IsSilent (if b then x else y)
silent_either true x y p q = p
silent_either false x y p q = q

silent_default : (t : Statement) (default : Option ℕ) (ss : Statements) (k : List Pending) (cp : CopyOf) (l : source.Memory) (w : World Byte) → IsSilent (jump_if_any t default ss k cp l w)
silent_default t None ss k cp l w = refl
silent_default t (Some target) ss k cp l w = refl

silent_compares : (e : Expression) (cases : List TCase) (default : Option ℕ) (ss : Statements) (line : ℕ) (v : Datum) (labels : List TCase) (k : List Pending) (cp : CopyOf) (l : source.Memory) (w : World Byte) → IsSilent (compares v labels (Doing (tree.Switch e cases default ss line) Chooses ∷ k) cp l w)
silent_compares e cases default ss line v [] k cp l w = silent_default (tree.Switch e cases default ss line) default ss k cp l w
silent_compares e cases default ss line v (label ∷ labels) k cp l w =
    let t = tree.Switch e cases default ss line in
    silent_either (is_case v label) (jump t label.target ss k cp l w) (goes cp (Compares v labels) (Doing t Chooses ∷ k) l w) refl refl

module _ (z : Scene) (given : IsLowerable z.program z.copies) (input : All (λ byte. byte < 256) z.outside.input) where
  -- A switch compares its value with the next label.
  pub comparisons : (v : Datum) (labels : List TCase) (k : List Pending) → Law z (Compares v labels) k
  unfolding act statement_room
  comparisons v labels (Doing (tree.Switch e cases default ss line) Chooses ∷ k) cp l w c known due h =
      let t = tree.Switch e cases default ss line in
      let sizes = z.program.sizes in
      let s = known.stands in
      let f = frame_is z given cp s.reached in
      let less = small z given input cp s.reached in
      let own = (two_parts (room sizes e) (2 * value_bytes sizes e + 2)).1 in
      let whole = (two_parts (switch_room (room sizes e) (value_bytes sizes e)) (statements_room sizes ss)).0 in
      let fits = known.stack.0.0 in
      on_led z (compares v labels (Doing t Chooses ∷ k) cp l (arrived z.outside w)) (compare_most (type_bytes sizes (type_of e)) labels) (some_label labels) (Compares v labels) (Doing t Chooses ∷ k) cp l w c refl
      (silent_compares e cases default ss line v labels k cp l (arrived z.outside w)) refl due
      (compare_room (type_bytes sizes (type_of e)) labels (omega arith)) (omega arith)
      (compares_stands z (scene_laws z given) e cases default ss line k cp l v labels w c s.focus s.stack known.stack.0.1.0 (around z given input (state cp (Compares v labels) (Doing t Chooses ∷ k) l w) known) (omega arith) due h)
  comparisons v labels _ cp l w c known due h = absurd known.stands.focus.1
