-- Selection keeps the trace.
use Rattle.std.proofs.Common.{◌≡◌, Bool, true, false, refl}
use Rattle.core_code.specs.Operands.{number_left, is_helped}
use Rattle.select_wide.specs.Links.{Selects, SelectsOpen}
use Rattle.select_trace.proofs.Sites.{Site}
use Rattle.select_trace.proofs.Values.{ValuesGo}
use Rattle.select_trace.proofs.Runs.{selects_law, opens_law}
use Rattle.select_trace.proofs.RoutineCalls.{helped_binary}
use Rattle.select_trace.proofs.Exact.{cut_holds, unary_holds, widening_holds, plain_binary}

-- the code of each operator, with and without a routine
pub values_go : (s : Site) → ValuesGo s
values_go s = record {
  cut = cut_holds s;
  unary = unary_holds s;
  widening = widening_holds s;
  binary = λ wc f pr st ps cm m r ready before op ty to x y n a b v known h fit ox oy call helped ea eb e o. split (is_helped op (number_left before y))
      (λ yes'. let any = ready.any in helped_binary s any.0 wc f pr st any.1 ps cm m any.2 r ready.fits before op ty to x y n a b v yes' h fit ox oy call (helped yes') ea eb e o)
      (λ no'. plain_binary s wc f pr st ps cm m r ready before op ty to x y n a b v known h no' fit ox oy ea eb e o);
}
  where
    split : (t : Bool) {A : Type 0} → (t ≡ true → A) → (t ≡ false → A) → A
    split true f g = f refl
    split false f g = g refl

pub selection_law : Selects
selection_law = selects_law values_go

pub open_law : SelectsOpen
open_law = opens_law values_go
