-- What follows an access to a byte.
use Rattle.std.proofs.Common.{◌≡◌, ℕ, List, sym, ap, ◌∙◌}
use Rattle.std.specs.Prelude.{Ok, Err}
use Rattle.pic_world.specs.World.{Outside, World}
use Rattle.src_machine.specs.Seen.{stack_of, memory_of}
use Rattle.src_machine.specs.Telling.{Tells}
use Rattle.src_machine.specs.declared.machine.Machine.{Machine}
use Rattle.src_machine.specs.declared.machine.Outcome.TheVariants.{Went, Undefined}
use Rattle.src_memory.specs.Accessed.{TellsTaking, TellsPutting}
use Rattle.src_memory.specs.declared.accesses.Taken.{Taken}
use Rattle.src_memory.specs.declared.world.World.{World as Worlds}
use Rattle.src_rules.specs.Accesses.{after_taking, after_putting}
use Rattle.src_rules.specs.State.{state}
use Rattle.src_values.specs.Accesses.{Taking, Takes, Breaks, Putting, Puts, Refuses}
use Rattle.src_values.specs.Control.{Focus, Pending}
use Rattle.src_values.specs.Memory.{Memory}
use Rattle.src_values.specs.Seen.{focus_in}
use Rattle.src_values.specs.declared.objects.Byte.{Byte}
use Rattle.src_values.specs.declared.objects.CopyOf.{CopyOf}
use Rattle.src_values.specs.declared.objects.Object.{Object}
use Rattle.src_values.specs.declared.objects.Undef.{Undef}

same_state : {c d : CopyOf} {x y : Focus} {k l : List Pending} {m n : Memory} (w : World Byte) → c ≡ d → x ≡ y → k ≡ l → m ≡ n → state c x k m w ≡ state d y l n w
same_state {d = d} {x = x} {y = y} {k = k} {l = l} {m = m} {n = n} w a b e f =
    ap (λ c. state c x k m w) a ∙ ap (λ x. state d x k m w) b ∙ ap (λ k. state d y k m w) e ∙ ap (λ m. state d y l m w) f

-- a byte was taken
pub taken_goes : (o : Outside) (address : Object → ℕ) (given : Taking) (t : Taken) (next : Byte → Focus) (c : CopyOf) (k : List Pending) (m : Memory) (line : ℕ) (new : Machine)
    → TellsTaking o address (Ok t) new.world given → c ≡ new.copy → next t.byte ≡ focus_in new.focus → k ≡ stack_of new → m ≡ memory_of new
    → Tells o address (Went t.event) new (after_taking given next c k m line)
taken_goes o address (Takes byte w event) t next c k m line new h a b e f =
    (same_state w a (ap next (sym h.reads) ∙ b) e f, h.leaves, h.shows)
taken_goes o address (Breaks kind) t next c k m line new h a b e f = absurd h

pub taken_not : (o : Outside) (address : Object → ℕ) (given : Taking) (kind : Undef) (code : Worlds) (next : Byte → Focus) (c : CopyOf) (k : List Pending) (m : Memory) (line at : ℕ) (new : Machine)
    → TellsTaking o address (Err kind) code given → at ≡ line → Tells o address (Undefined kind at) new (after_taking given next c k m line)
taken_not o address (Takes byte w event) kind code next c k m line at new h e = absurd h
taken_not o address (Breaks other) kind code next c k m line at new h e = (h, e)

-- a byte was not put
pub put_not : (o : Outside) (address : Object → ℕ) (given : Putting) (kind : Undef) (left : Memory) (code : Worlds) (next : Focus) (c : CopyOf) (k : List Pending) (line at : ℕ) (new : Machine)
    → TellsPutting o address (Err kind) left code given → at ≡ line → Tells o address (Undefined kind at) new (after_putting given next c k line)
put_not o address (Puts m w event) kind left code next c k line at new h e = absurd h
put_not o address (Refuses other) kind left code next c k line at new h e = (h, e)
