-- A byte of the source's events is shown alike by the map and by the layout of the code.
use Rattle.std.proofs.Common.{◌≡◌, ℕ, ◌≤◌, Bool, true, false, not, List, [], ◌∷◌, map, length, Option, Some, None, refl, sym, ap, ◌∙◌, ⊎_elim, arith}
use Rattle.std.specs.Prelude.{slice_get, option_map, is_none}
use Rattle.std.proofs.lemmas.Option.{slice_get-map, get_or_from_slice_get, slice_get-get_or}
use Rattle.std.proofs.lemmas.Bool.{cases_lt}
use Rattle.std.proofs.lemmas.List.{get_or_past}
use Rattle.c_typed.specs.Trees.{Program}
use Rattle.call_graph.specs.declared.types.FnCopy.{FnCopy}
use Rattle.pic_chip.specs.Run.{Range}
use Rattle.pic_map.specs.MapContent.{MapContent, ObjectLine, range_of}
use Rattle.pic_world.specs.World.{Happening, ReadOf, WriteOf, Ended, Outside, event_as, event_of}
use Rattle.pic_world.specs.declared.Event.TheVariants as events
use Rattle.sym_code.specs.Layout as layouts
use Rattle.sym_code.specs.Layout.{DataLayout, FrameRange, object, frame, no_range}
use Rattle.src_memory.specs.Shown.{object_address, address_of, shown_byte, shown, address_byte}
use Rattle.src_rules.specs.Laws.{IsProper, IsOfBytes}
use Rattle.src_rules.specs.Runs.{moment, fault_of}
use Rattle.src_rules.specs.State.{Outcome, Went, Undefined, Idle, Lost}
use Rattle.src_rules.specs.Step.{step}
use Rattle.src_values.specs.declared.objects.Byte.{Byte}
use Rattle.src_values.specs.declared.objects.Byte.TheVariants as bytes
use Rattle.src_values.specs.declared.objects.Object.TheVariants.{Fixed, Variable}
use Rattle.lower_trace.specs.Lowering.{held_as, source_run}
use Rattle.headline.specs.SourceOf.{setting_of, run_of, is_undefined}
use Rattle.headline_trace.specs.Carried.{IsSeen}
use Rattle.headline_trace.specs.Linked.{IsNamed}
use Rattle.headline_trace.proofs.Sources.{IsKnown, IsKnownEvent, AllKnown, known_events}
use Rattle.headline_trace.proofs.Steady.{steady}

pub past : {A : Type 0} (xs : List A) (i : ℕ) (d : A) → slice_get xs i ≡ None → length xs ≤ i
past xs i d e = ⊎_elim (λ lt. let f = sym e ∙ slice_get-get_or xs i d lt in absurd (cc)) (λ ge. ge) (cases_lt i (length xs))

pub same_half : (high : Bool) (a : ℕ) → address_byte high a ≡ layouts.address_byte high a
same_half true a = refl
same_half false a = refl

module _ (content : MapContent) (l : DataLayout) (objects : map range_of content.objects ≡ l.objects) where
  pub fixed_is : (n : ℕ) → object_address (slice_get content.objects n) ≡ (object l n).address
  fixed_is n = by (slice_get content.objects n) refl where
    there : (o : Option ObjectLine) → slice_get content.objects n ≡ o → slice_get l.objects n ≡ option_map range_of o
    there o is = ap (λ zs. slice_get zs n) (sym objects) ∙ slice_get-map range_of content.objects n ∙ ap (option_map range_of) is

    by : (o : Option ObjectLine) → slice_get content.objects n ≡ o → object_address o ≡ (object l n).address
    by (Some line) is = sym (ap (λ (r : Range). r.address) (get_or_from_slice_get l.objects n (range_of line) no_range (there (Some line) is)))
    by None is = sym (ap (λ (r : Range). r.address) (get_or_past l.objects n no_range (past l.objects n no_range (there None is))))

module _ (p : Program) (copies : List FnCopy) (content : MapContent) (l : DataLayout) (objects : map range_of content.objects ≡ l.objects) (named : IsNamed p copies content l) where
  byte_is : (byte : Byte) → IsKnown p byte → shown_byte (address_of p content) byte ≡ layouts.shown l (held_as p copies byte)
  unfolding layouts.shown layouts.address_of address_of
  byte_is bytes.Unset known = refl
  byte_is (bytes.Number n) known = refl
  byte_is (bytes.Part (Fixed n) offset high) known = same_half high _ ∙ ap (λ a. layouts.address_byte high a) (let e = fixed_is content l objects n in omega arith)
  byte_is (bytes.Part (Variable c n) offset high) known = same_half high _ ∙ ap (λ a. layouts.address_byte high a) (let e = named.frames c known.0 in omega arith)

  abbrev pub show : Happening Byte → Happening ℕ
  show e = event_as (layouts.shown l) (event_as (held_as p copies) e)

  event_is : (e : Happening Byte) → IsKnownEvent p e → shown (address_of p content) e ≡ event_of (show e)
  unfolding shown
  event_is (ReadOf cell byte) known = ap (events.Read cell) (byte_is byte known)
  event_is (WriteOf cell byte) known = ap (events.Write cell) (byte_is byte known)
  event_is Ended known = refl

  trace_is : (es : List (Happening Byte)) → AllKnown p es → map (shown (address_of p content)) es ≡ map event_of (map show es)
  trace_is [] known = refl
  trace_is (e ∷ es) known = ap (λ x. x ∷ map (shown (address_of p content)) es) (event_is e known.0) ∙ ap (λ xs. event_of (show e) ∷ xs) (trace_is es known.1)

  goes_is : (x : Outcome) → not (is_undefined x) ≡ is_none (fault_of x)
  goes_is (Went t event) = refl
  goes_is (Undefined kind line) = refl
  goes_is Idle = refl
  goes_is Lost = refl

  pub seen : (o : Outside) → IsProper p → IsOfBytes o → IsSeen show (source_run (setting_of p o)) (run_of p content o)
  seen o proper bytes' = record {
    trace = λ i. trace_is (moment (setting_of p o) i).world.trace (known_events (setting_of p o) proper bytes' i);
    defined = λ i. goes_is (step (setting_of p o) (moment (setting_of p o) i));
    steady = steady (setting_of p o) proper bytes';
  }
