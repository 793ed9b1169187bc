-- Which copies are active while an operator takes its operands.
use Rattle.std.proofs.Common.{◌≡◌, false, List, ◌∷◌, refl, sym, ap, ◌∙◌}
use Rattle.c_typed.specs.Views.{expression_of}
use Rattle.c_typed.specs.declared.expression.TExpr.TheVariants as TExpr
use Rattle.pic_world.specs.World.{World}
use Rattle.src_machine.proofs.Takes.{right_binary}
use Rattle.src_rules.specs.Giving.{take_in, answered}
use Rattle.src_values.specs.Control.{Focus, Eval, Find, Holds, Found, Run, Past, Fetch, Skim, Write, PutBit, CopyRead, CopyWrite, Spell, Blank, Calls, Leaves, Compares, Over, One, Pending, running, callers, active}
use Rattle.src_values.specs.Data.{Datum}
use Rattle.src_values.specs.Memory.{Setting, Memory}
use Rattle.src_values.specs.Seen.{is_over}
use Rattle.src_values.specs.Values.{binary_answer}
use Rattle.src_values.specs.declared.objects.Byte.{Byte}
use Rattle.src_values.specs.declared.objects.CopyOf.{CopyOf}

-- until main has ended the copy that runs is active, whatever the focus is
pub running_on : (c : CopyOf) (x : Focus) (more : List CopyOf) → is_over x ≡ false → running c x more ≡ c ∷ more
running_on c (Eval e) more h = refl
running_on c (Find place) more h = refl
running_on c (Holds v) more h = refl
running_on c (Found spot) more h = refl
running_on c (Run t) more h = refl
running_on c Past more h = refl
running_on c (Fetch spot read) more h = refl
running_on c (Skim spot left byte) more h = refl
running_on c (Write spot v at) more h = refl
running_on c (PutBit register number v old) more h = refl
running_on c (CopyRead to from left) more h = refl
running_on c (CopyWrite to from byte left) more h = refl
running_on c (Spell spot text left) more h = refl
running_on c (Blank at left) more h = refl
running_on c Calls more h = refl
running_on c (Leaves v) more h = refl
running_on c (Compares v labels) more h = refl
running_on c Over more h = absurd (cc)

pub active_on : (c : CopyOf) (x : Focus) (v : Datum) (k : List Pending) → is_over x ≡ false → active c x k ≡ active c (Holds v) k
unfolding active
active_on c x v k h = running_on c x (callers k) h

-- an operator on both operands, where what is alive goes by the focus at hand
pub both_given : (s : Setting) (op : _) (left : _) (right : _) (ty : _) (line : _) (u v : Datum) (x : Focus) (k : List Pending) (c : CopyOf) (m : Memory) (w : World Byte) → is_over x ≡ false
    → answered (binary_answer s.program (active c x k) op ty u v) line k c m w ≡ take_in s (expression_of (TExpr.Binary op left right ty line)) (One u) v k c m w
both_given s op left right ty line u v x k c m w h =
    ap (λ copies. answered (binary_answer s.program copies op ty u v) line k c m w) (active_on c x v k h) ∙ sym (right_binary s op left right ty line u v k c m w)
