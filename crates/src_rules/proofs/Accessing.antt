-- Reads, writes and copies of values keep what stands.
use Rattle.std.proofs.Common.{◌≡◌, ℕ, zero, suc, ◌+◌, ◌<◌, Bool, true, false, List, [], ◌∷◌, ◌++◌, length, Option, refl, sym, ap, ◌∙◌, subst, arith, append_assoc}
use Rattle.std.proofs.lemmas.Bool.{false≢true, ltb-true}
use Rattle.std.proofs.lemmas.List.{append-nil, length-append}
use Rattle.std.specs.List.{All}
use Rattle.std.specs.Prelude.{if◌then◌else◌, nat_lt}
use Rattle.c_typed.specs.Sameness.{is_int}
use Rattle.c_typed.specs.Trees as tree
use Rattle.c_typed.specs.Trees.{Expression, Place, Item, Statement, Program}
use Rattle.c_typed.specs.Types.{type_bytes, type_of, place_type}
use Rattle.c_typed.specs.declared.types.Ty.{Ty}
use Rattle.c_typed.specs.declared.types.Ty.TheVariants as types
use Rattle.pic_world.specs.World.{World}
use Rattle.src_rules.proofs.Answers.{read_stands}
use Rattle.src_rules.proofs.Keeping.{Keeps, Around, on}
use Rattle.src_rules.proofs.Places.{stepped_next, next_placed, in_memory}
use Rattle.src_rules.proofs.Rules.{read_rule, update_rule, step_rule}
use Rattle.src_rules.proofs.Touches.{ByteRead, NumbersFit, any_fits, take_stands, take_inside, taking_keeps, taking_keeps_at}
use Rattle.src_values.specs.declared.objects.Pointer.TheVariants.{Null, Into}
use Rattle.src_values.specs.Accesses.{take_byte}
use Rattle.src_rules.specs.Accesses.{after_taking, fetched, fetch, skim, is_any}
use Rattle.src_rules.specs.Parts.{IsPlaceOf}
use Rattle.src_rules.specs.Standing.{HasType, IsSpotOf, stepped, AreRead, Fetches, Skims, FetchStands, SkimStands, StackStands}
use Rattle.src_values.specs.Control.{Fetch, Skim, Got, At, AtWith, Pending, In, To, Doing, Before, Returns, Resumes, line_at, active, read_type}
use Rattle.src_values.specs.Data.{Datum, Missing}
use Rattle.src_values.specs.Memory.{Setting, Memory}
use Rattle.src_values.specs.Objects.{next_byte}
use Rattle.src_values.specs.Values.{value_from, fits_behind}
use Rattle.src_values.specs.declared.objects.Byte.{Byte}
use Rattle.src_values.specs.declared.objects.Byte.TheVariants as bytes
use Rattle.src_values.specs.declared.objects.CopyOf.{CopyOf}
use Rattle.src_values.specs.declared.objects.Pointer.{Pointer as Reference}
use Rattle.src_values.specs.declared.objects.Spot.{Spot}
use Rattle.src_values.specs.declared.objects.Spot.TheVariants as spots

-- ---- where a node reads
-- the place that a node reads, and where it was found
pub record IsReadAt (p : Program) (c : CopyOf) (ty : Ty) (start : Spot) : Type 0 where
  pub place : Place
  pub part : IsPlaceOf p c.function place
  pub at : IsSpotOf p c place start
  pub type : (place_type place).ty ≡ ty

fetches_in : (p : Program) (c : CopyOf) (e : Expression) (got : Got) (k : List Pending) (start : Spot) → Fetches (In e got ∷ k) start → StackStands p c (In e got ∷ k) → IsReadAt p c (type_of e) start
fetches_in p c (tree.Read place ty line) (At spot) k start n st = record { place = place; part = st.0.1; at = subst (IsSpotOf p c place) (sym n) st.2; type = (read_rule p place ty line st.0.0).0 }
fetches_in p c (tree.Update op place value operation size ty line) (AtWith spot u) k start n st = record { place = place; part = st.0.1; at = subst (IsSpotOf p c place) (sym n) st.2.0; type = (update_rule p op place value operation size ty line st.0.0).0 }
fetches_in p c (tree.Step op place operation size ty line) (At spot) k start n st = record { place = place; part = st.0.1; at = subst (IsSpotOf p c place) (sym n) st.2; type = (step_rule p op place operation size ty line st.0.0).0 }
fetches_in p c _ _ k start n st = absurd n

pub fetches_at : (p : Program) (c : CopyOf) (k : List Pending) (start : Spot) → Fetches k start → StackStands p c k → IsReadAt p c (read_type k) start
fetches_at p c [] start n st = absurd n
fetches_at p c (In e got ∷ k) start n st = fetches_in p c e got k start n st
fetches_at p c (To place ∷ k) start n st = absurd n
fetches_at p c (Doing t stage ∷ k) start n st = absurd n
fetches_at p c (Before ss ∷ k) start n st = absurd n
fetches_at p c (Returns d ∷ k) start n st = absurd n
fetches_at p c (Resumes d x ∷ k) start n st = absurd n

-- ---- which bytes follow
number_fits : (ty : Ty) (read : List Byte) (n : ℕ) → is_int ty ≡ true → fits_behind ty read (bytes.Number n) ≡ true
unfolding fits_behind
number_fits types.Void read n e = refl
number_fits (types.Int ty) read n e = refl
number_fits (types.Pointer row) read n e = absurd (false≢true e)
number_fits (types.Array a m x) read n e = refl
number_fits (types.Struct a) read n e = refl

all_fit : (spot : Spot) (fits : Byte → Bool) → ((n : ℕ) → fits (bytes.Number n) ≡ true) → NumbersFit spot fits
all_fit (spots.Device address) fits h = h
all_fit (spots.Bit register number) fits h = h
all_fit (spots.Memory x) fits h = tt

memory_fits : (n : ℕ) (x : Reference) (fits : Byte → Bool) → NumbersFit (stepped n (spots.Memory x)) fits
memory_fits n Null fits = tt
memory_fits n (Into object offset) fits = tt

fit_by : (p : Program) (c : CopyOf) (ty : Ty) (start : Spot) (n : ℕ) (read : List Byte) (b : Bool) → is_int ty ≡ b → IsReadAt p c ty start → NumbersFit (stepped n start) (fits_behind ty read)
fit_by p c ty start n read true e r = all_fit (stepped n start) (fits_behind ty read) (λ k. number_fits ty read k e)
fit_by p c ty start n read false e r =
    let x = in_memory p c.function c r.place start r.part (ap is_int r.type ∙ e) r.at in
    rw x.1 (memory_fits n x.0 (fits_behind ty read))

read_more : (p : Program) (ty : Ty) (before read : List Byte) (byte : Byte) → AreRead p ty before read → ByteRead p (fits_behind ty (before ++ read)) byte → AreRead p ty before (read ++ byte ∷ [])
read_more p ty before [] byte h b = (b.stands, b.set, subst (λ l. fits_behind ty l byte ≡ true) (append-nil before) b.fit, tt)
read_more p ty before (x ∷ read) byte h b = (h.0, h.1, h.2, read_more p ty (before ++ x ∷ []) read byte h.3 (subst (λ l. ByteRead p (fits_behind ty l) byte) (sym (append_assoc before (x ∷ []) read)) b))

-- ---- a value was read
fetched_in : (p : Program) (c : CopyOf) (e : Expression) (got : Got) (k : List Pending) (m : Memory) (w : World Byte) (start : Spot) (v : Datum) → Around p c m w → Fetches (In e got ∷ k) start → StackStands p c (In e got ∷ k) → HasType p (type_of e) v → Keeps p (fetched v (In e got ∷ k) c m w)
fetched_in p c (tree.Read place ty line) (At spot) k m w start v a n st h = on a (ty, st.1, h) st.3
fetched_in p c (tree.Update op place value operation size ty line) (AtWith spot u) k m w start v a n st h = on a (ty, refl, h) st
fetched_in p c (tree.Step op place operation size ty line) (At spot) k m w start v a n st h = on a (ty, refl, h) st
fetched_in p c _ _ k m w start v a n st h = absurd n

fetched_keeps : (p : Program) (c : CopyOf) (k : List Pending) (m : Memory) (w : World Byte) (start : Spot) (v : Datum) → Around p c m w → Fetches k start → StackStands p c k → HasType p (read_type k) v → Keeps p (fetched v k c m w)
fetched_keeps p c [] m w start v a n st h = absurd n
fetched_keeps p c (In e got ∷ k) m w start v a n st h = fetched_in p c e got k m w start v a n st h
fetched_keeps p c (To place ∷ k) m w start v a n st h = absurd n
fetched_keeps p c (Doing t stage ∷ k) m w start v a n st h = absurd n
fetched_keeps p c (Before ss ∷ k) m w start v a n st h = absurd n
fetched_keeps p c (Returns d ∷ k) m w start v a n st h = absurd n
fetched_keeps p c (Resumes d x ∷ k) m w start v a n st h = absurd n

skim_in : (e : Expression) (got : Got) (k : List Pending) (start : Spot) → Skims (In e got ∷ k) start → Fetches (In e got ∷ k) start
skim_in (tree.Read place ty line) (At spot) k start n = n
skim_in _ _ k start n = absurd n

pub skim_fetches : (k : List Pending) (start : Spot) → Skims k start → Fetches k start
skim_fetches [] start n = absurd n
skim_fetches (In e got ∷ k) start n = skim_in e got k start n
skim_fetches (To place ∷ k) start n = absurd n
skim_fetches (Doing t stage ∷ k) start n = absurd n
skim_fetches (Before ss ∷ k) start n = absurd n
skim_fetches (Returns d ∷ k) start n = absurd n
skim_fetches (Resumes d x ∷ k) start n = absurd n

module _ (s : Setting) (input : All (λ byte. byte < 256) s.outside.input) where
  next_fetch : (k : List Pending) (spot : Spot) (read : List Byte) (h : FetchStands s.program k spot read) (byte : Byte) → length read < type_bytes s.program.sizes (read_type k) → ByteRead s.program (fits_behind (read_type k) read) byte → FetchStands s.program k (next_byte spot) (read ++ byte ∷ [])
  next_fetch k spot read h byte l b =
      let e : length (read ++ byte ∷ []) ≡ length read + 1 = length-append read (byte ∷ []) in
      record {
        start = h.start;
        node = h.node;
        at = ap next_byte h.at ∙ (stepped_next (length read) h.start ∙ ap (λ n. stepped n h.start) (sym e));
        part = rw e (omega arith);
        few = h.few;
        bytes = read_more s.program (read_type k) [] read byte h.bytes b;
      }

  fetch_case : (b : Bool) (spot : Spot) (read : List Byte) (k : List Pending) (c : CopyOf) (m : Memory) (w : World Byte) → nat_lt (length read) (type_bytes s.program.sizes (read_type k)) ≡ b → Around s.program c m w → FetchStands s.program k spot read → StackStands s.program c k
      → Keeps s.program (if b then after_taking (take_byte s (active c (Fetch spot read) k) c.root (fits_behind (read_type k) read) spot m w) (λ byte. Fetch (next_byte spot) (read ++ byte ∷ [])) c k m (line_at k) else fetched (value_from (read_type k) read) k c m w)
  fetch_case true spot read k c m w e a h st =
      taking_keeps s.program (fits_behind (read_type k) read) _ _ c k m w (line_at k) a st
      (take_stands s (active c (Fetch spot read) k) c.root (fits_behind (read_type k) read) spot m w input a.memory a.control
      (rw h.at (fit_by s.program c (read_type k) h.start (length read) read (is_int (read_type k)) refl (fetches_at s.program c k h.start h.node st))))
      (λ byte b. next_fetch k spot read h byte (ltb-true _ _ e) b)
  fetch_case false spot read k c m w e a h st = fetched_keeps s.program c k m w h.start _ a h.node st (read_stands s.program (read_type k) read h.bytes)

  pub fetch_keeps : (spot : Spot) (read : List Byte) (k : List Pending) (c : CopyOf) (m : Memory) (w : World Byte) → Around s.program c m w → FetchStands s.program k spot read → StackStands s.program c k → Keeps s.program (fetch s spot read k c m w)
  fetch_keeps spot read k c m w a h st = fetch_case (nat_lt (length read) (type_bytes s.program.sizes (read_type k))) spot read k c m w refl a h st

  pub skim_keeps : (spot : Spot) (left : ℕ) (byte : Option Byte) (k : List Pending) (c : CopyOf) (m : Memory) (w : World Byte) → Around s.program c m w → SkimStands s.program k spot left → StackStands s.program c k → Keeps s.program (skim s spot left byte k c m w)
  skim_keeps spot zero byte k c m w a h st = fetched_keeps s.program c k m w h.start Missing a (skim_fetches k h.start h.node) st tt
  skim_keeps spot (suc left) byte k c m w a h st =
      let live = active c (Skim spot (suc left) byte) k in
      taking_keeps_at s.program is_any _ _ c k m w (line_at k) a st
      (take_stands s live c.root is_any spot m w input a.memory a.control (any_fits spot))
      (λ next u event is b. record {
        start = h.start;
        done = h.done + 1;
        node = h.node;
        at = ap next_byte h.at ∙ stepped_next h.done h.start;
        near = next_placed s.program spot h.near (take_inside s live c.root is_any spot m w next u event is);
        all = let e = h.all in omega arith;
      })
