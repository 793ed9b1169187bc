-- How the relation between source and byte code is built again, where a value was written to its place.
use Rattle.std.proofs.Common.{◌≡◌, ℕ, ◌<◌, ◌≤◌, ◌⊎◌, inl, inr, Bool, true, false, List, [], ◌∷◌, None, refl, sym, ap, ◌∙◌, subst, ⊎_elim, arith}
use Rattle.std.proofs.lemmas.Bool.{cases_lt}
use Rattle.core_code.specs.Bytes.{Held, Memory, with_bytes}
use Rattle.core_code.specs.Machine.{Machine}
use Rattle.core_code.specs.declared.code.Byte.TheVariants.{Frame, Result}
use Rattle.pic_world.specs.declared.Root.TheVariants.{Main}
use Rattle.pic_world.specs.World.{World, arrived, world_as}
use Rattle.src_rules.specs.Standing.{IsReached, IsThere}
use Rattle.src_rules.specs.State.{State, state}
use Rattle.src_values.specs.Control.{Focus, Holds as Value, Pending, In, To, Doing, Before, Returns, Resumes, active}
use Rattle.src_values.specs.Data.{Datum}
use Rattle.src_values.specs.Memory as source
use Rattle.src_values.specs.Objects.{object_bytes}
use Rattle.src_values.specs.Values.{byte_count, byte_of}
use Rattle.src_values.specs.declared.objects.Byte as value
use Rattle.src_values.specs.declared.objects.Byte.TheVariants as values
use Rattle.src_values.specs.declared.objects.CopyOf.{CopyOf}
use Rattle.src_values.specs.declared.objects.Object as object
use Rattle.src_values.specs.declared.objects.Object.TheVariants as objects
use Rattle.lower_trace.proofs.CodeLeft.{Scene, held, number, ground_in, core_in, wanted, base, code_after, code_at, stack_after, stack_at, copy_at}
use Rattle.lower_trace.proofs.Kept.{SceneLaws, Apart, Piled, MainsWait, own_copy, holds_near}
use Rattle.lower_trace.proofs.Mirrors.{core_byte, Agree, Agrees, HasIf, HasValue, Holds, Mirrors}
use Rattle.lower_trace.proofs.Placed.{Placed}
use Rattle.lower_trace.proofs.Written.{IsClear, bytes_clear, bytes_there}

-- ---- agreement
pub agree_moved : (z : Scene) (b : value.Byte) (h h' : Held) → h' ≡ h → Agree z b h → Agree z b h'
agree_moved z values.Unset h h' e a = tt
agree_moved z (values.Number n) h h' e a = e ∙ a
agree_moved z (values.Part object offset high) h h' e a = e ∙ a

pub agrees_same : (z : Scene) (live : List CopyOf) (l : source.Memory) (m m' : Memory) → ((object : object.Object) (at : ℕ) → IsThere z.program object → at < object_bytes z.program object → m' (core_byte z object at) ≡ m (core_byte z object at)) → Agrees z live l m → Agrees z live l m'
agrees_same z live l m m' s a object at there alive lt = agree_moved z (l object at) (m (core_byte z object at)) (m' (core_byte z object at)) (s object at there lt) (a object at there alive lt)

-- objects lie apart from the temporary bytes of a copy
pub object_clear : (z : Scene) (laws : SceneLaws z) (c : CopyOf) (b k : ℕ) (object : object.Object) (at : ℕ) → IsReached z.program c → (ground_in z c).base ≤ b → IsThere z.program object → at < object_bytes z.program object → IsClear (number z c) b k (core_byte z object at)
object_clear z laws c b k (objects.Fixed i) at r le there lt = tt
object_clear z laws c b k (objects.Variable d i) at r le there lt =
    ⊎_elim (λ l. inl (inl l))
    (λ ge.
    ⊎_elim (λ l. inl (inr l))
    (λ ge2.
    let same : d ≡ c = laws.apart d c there.0 r (omega arith) in
    let low = laws.below d i at there.0 there.1 lt in
    let q = ap (λ x. (ground_in z x).base) same in
    inr (inl (omega arith)))
    (cases_lt (number z c) (number z d)))
    (cases_lt (number z d) (number z c))

pub agrees_written : (z : Scene) (laws : SceneLaws z) (c : CopyOf) (live : List CopyOf) (l : source.Memory) (m : Memory) (b k : ℕ) (h : ℕ → Held) → IsReached z.program c → (ground_in z c).base ≤ b → Agrees z live l m → Agrees z live l (with_bytes m (Frame (number z c) b) k h)
agrees_written z laws c live l m b k h r le a =
    agrees_same z live l m (with_bytes m (Frame (number z c) b) k h) (λ object at there lt. bytes_clear m (number z c) b k h (core_byte z object at) (object_clear z laws c b k object at r le there lt)) a

-- ---- what is known of the stack of the source
pub record Around (z : Scene) (c : CopyOf) (k : List Pending) : Type 0 where
  pub reached : IsReached z.program c
  pub apart : Apart z (number z c) k
  pub mains : MainsWait k
  pub piled : Piled (ground_in z c) k

-- the value of the focus lies above the variables
base_high : (z : Scene) (c : CopyOf) (k : List Pending) → Piled (ground_in z c) k → (ground_in z c).base ≤ base (ground_in z c) k
base_high z c [] p = omega arith
base_high z c (In e got ∷ k) p = let q = base_high z c k p.2 in let r = p.1 in omega arith
base_high z c (To place ∷ k) p = base_high z c k p
base_high z c (Doing t stage ∷ k) p = omega arith
base_high z c (Before ss ∷ k) p = omega arith
base_high z c (Returns d ∷ k) p = omega arith
base_high z c (Resumes d x ∷ k) p = omega arith

pub value_high : (z : Scene) (c : CopyOf) (k : List Pending) → Around z c k → (ground_in z c).base ≤ base (ground_in z c) k
value_high z c k a = base_high z c k a.piled

apart_of : (i n : ℕ) → (i ≡ n → ⊥) → (i < n) ⊎ (n < i)
apart_of i n far = ⊎_elim (λ l. inl l) (λ ge. ⊎_elim (λ l. inr l) (λ ge2. absurd (far (omega arith))) (cases_lt n i)) (cases_lt i n)

pub holds_written : (z : Scene) (c : CopyOf) (k : List Pending) (m : Memory) (b cnt : ℕ) (h : ℕ → Held) → Around z c k → base (ground_in z c) k ≤ b → Holds z (ground_in z c) k m → Holds z (ground_in z c) k (with_bytes m (Frame (number z c) b) cnt h)
holds_written z c k m b cnt h a le d =
    let m' = with_bytes m (Frame (number z c) b) cnt h in
    holds_near z c k m m'
    (λ y lt. bytes_clear m (number z c) b cnt h (Frame (number z c) y) (inr (inl (omega arith))))
    (λ i far y. bytes_clear m (number z c) b cnt h (Frame i y) (inl (apart_of i (number z c) far)))
    (λ i. bytes_clear m (number z c) b cnt h (Result Main i) tt)
    a.apart a.mains a.piled d

-- ---- machines and states
pub placed_of : (z : Scene) (t : State) (c : Machine) → Mirrors z t c → Placed (core_in z) (number z (copy_at t.copy t.focus t.stack)) None (code_at z (ground_in z t.copy) t.focus t.stack) (stack_at z (ground_in z t.copy) t.focus t.stack) c.memory (world_as (held z) (arrived z.outside t.world)) c
placed_of z t c h = record { copy = h.copy; passing = h.passing; code = h.code; stack = h.stack; memory = refl; world = h.world }

pub mirrors : (z : Scene) (cp : CopyOf) (x : Focus) (k : List Pending) (l : source.Memory) (w : World value.Byte) (m : Memory) (d : Machine) → Placed (core_in z) (number z (copy_at cp x k)) None (code_at z (ground_in z cp) x k) (stack_at z (ground_in z cp) x k) m (world_as (held z) (arrived z.outside w)) d
    → Agrees z (active cp x k) l m → Holds z (ground_in z cp) k m → HasValue z (ground_in z cp) x k m → Mirrors z (state cp x k l w) d
mirrors z cp x k l w m d p a h v = record {
  copy = p.copy;
  passing = p.passing;
  code = p.code;
  stack = p.stack;
  agrees = subst (λ y. Agrees z (active cp x k) l y) (sym p.memory) a;
  holds = subst (λ y. Holds z (ground_in z cp) k y) (sym p.memory) h;
  value = subst (λ y. HasValue z (ground_in z cp) x k y) (sym p.memory) v;
  world = p.world;
}

-- a value was written to its place
value_if : (z : Scene) (want : Bool) (n b cnt : ℕ) (v : Datum) (m : Memory) (h : ℕ → Held) → byte_count v ≤ cnt → ((i : ℕ) → i < byte_count v → h i ≡ held z (byte_of v i)) → HasIf want z n b v (with_bytes m (Frame n b) cnt h)
value_if z true n b cnt v m h le s = λ i lt. bytes_there m n b cnt h i (omega arith) ∙ s i lt
value_if z false n b cnt v m h le s = tt

pub gives : (z : Scene) (laws : SceneLaws z) (cp : CopyOf) (k : List Pending) (l : source.Memory) (w : World value.Byte) (m : Memory) (cnt : ℕ) (h : ℕ → Held) (v : Datum) (d : Machine) → Around z cp k → byte_count v ≤ cnt → ((i : ℕ) → i < byte_count v → h i ≡ held z (byte_of v i))
    → Placed (core_in z) (number z cp) None (code_after (ground_in z cp) k) (stack_after z (ground_in z cp) k) (with_bytes m (Frame (number z cp) (base (ground_in z cp) k)) cnt h) (world_as (held z) (arrived z.outside w)) d
    → Agrees z (active cp (Value v) k) l m → Holds z (ground_in z cp) k m → Mirrors z (state cp (Value v) k l w) d
gives z laws cp k l w m cnt h v d around le same p a hold =
    let n = number z cp in
    let b = base (ground_in z cp) k in
    mirrors z cp (Value v) k l w (with_bytes m (Frame n b) cnt h) d p
    (agrees_written z laws cp (active cp (Value v) k) l m b cnt h around.reached (value_high z cp k around) a)
    (holds_written z cp k m b cnt h around (omega arith) hold)
    (subst (λ i. HasIf (wanted k) z i b v (with_bytes m (Frame n b) cnt h)) (sym (own_copy z cp)) (value_if z (wanted k) n b cnt v m h le same))
