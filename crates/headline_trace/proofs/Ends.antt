-- The headline from the links: what the bytes of static objects hold, and that frames stay.
use Rattle.std.proofs.Common.{◌≡◌, ℕ, ◌+◌, ◌/◌, ◌%◌, ◌<◌, Bool, true, false, not, List, [], map, length, Option, Some, None, refl, sym, ap, ◌∙◌, arith}
use Rattle.std.specs.Prelude.{slice_index, slice_index_or, slice_get, option_map}
use Rattle.std.specs.List.{Contains}
use Rattle.std.proofs.lemmas.Option.{slice_get-map, slice_get_within, slice_get-get_or, get_or_from_slice_get}
use Rattle.pic_chip.specs.Address.{Place, Pcl, Status, Fsr, Pclath, Intcon, Pir1, Pie1, General, Device, Nothing, place, byte_in, byte_at}
use Rattle.pic_chip.specs.Run as chip
use Rattle.pic_chip.specs.Run.{Range, moment, is_handling}
use Rattle.pic_chip.specs.State.{State}
use Rattle.pic_map.specs.MapContent.{MapContent, ObjectLine, FrameLine, range_of}
use Rattle.pic_world.specs.Arrivals.{arriving}
use Rattle.pic_world.specs.World.{Outside, Happening, event_of}
use Rattle.pic_world.specs.declared.Cell.TheVariants as cells
use Rattle.pic_world.specs.declared.Root.{Root}
use Rattle.pic_world.specs.declared.Root.TheVariants.{Main, Isr}
use Rattle.run_links.specs.Runs.{Run}
use Rattle.core_code.specs.Machine.{Program, static_bytes}
use Rattle.core_code.specs.declared.code.Byte.TheVariants.{Static, Frame}
use Rattle.sym_code.specs.Correct.{AreEntries}
use Rattle.sym_code.specs.Effect.{Setting, Memory}
use Rattle.sym_code.specs.Layout.{DataLayout, FrameRange, IsLaidOut, IsOf, Watched, Of, owner, object, frame, no_range, no_frame, address_of, general_at, general_in}
use Rattle.sym_code.specs.Machine.{Entry, sym_start, sym_run}
use Rattle.sym_code.specs.Registers.{Registers, Fits}
use Rattle.sym_code.specs.Runs.{run_of}
use Rattle.sym_code.specs.declared.code.BlockName.TheVariants.{Copy}
use Rattle.sym_code.specs.declared.code.Sym.{Sym}
use Rattle.sym_code.specs.Cost.{times_in}
use Rattle.select_trace.proofs.Placed.{slot, stands_in, watched, frames_own}
use Rattle.chip_trace.specs.Arriving.{IsStarted, IsMet, Arrives, is_kept, keeps_out, outside_at}
use Rattle.headline.specs.Headline.{Source, last_written, is_guarded}
use Rattle.headline.specs.OnChip.{IsClean}
use Rattle.headline_trace.specs.Carried.{IsLed, IsSeen, IsTold, frame_of}
use Rattle.headline_trace.proofs.Joining.{met, running}
use Rattle.headline_trace.proofs.Watched.{watched_bytes}

-- ---- bytes by address
general_byte : (s : State) (p : Place) (k : ℕ) → general_in p ≡ Some k → byte_in s p ≡ slice_index s.ram k
general_byte s (General j) k is = ap (slice_index s.ram) (some_back j k is) where
  from : Option ℕ → ℕ
  from None = 0
  from (Some x) = x

  some_back : (a b : ℕ) → Some a ≡ Some b → a ≡ b
  some_back a b e = ap from e
general_byte s Pcl k is = absurd (cc)
general_byte s Status k is = absurd (cc)
general_byte s Fsr k is = absurd (cc)
general_byte s Pclath k is = absurd (cc)
general_byte s Intcon k is = absurd (cc)
general_byte s Pir1 k is = absurd (cc)
general_byte s Pie1 k is = absurd (cc)
general_byte s (Device a) k is = absurd (cc)
general_byte s Nothing k is = absurd (cc)

byte_of : (s : State) (address k : ℕ) → general_at address ≡ Some k → byte_at s address ≡ slice_index s.ram k
unfolding general_at
byte_of s address k is = general_byte s (place (address / 128) (address % 128)) k is

-- ---- places in lists
pub place_in : {A : Type 0} (xs : List A) (x : A) → Contains xs x → (i : ℕ) × (slice_get xs i ≡ Some x)
place_in xs x has = (has.0, slice_get-get_or xs has.0 x has.1 ∙ ap Some has.2)

at_map : {A B : Type 0} (f : A → B) (xs : List A) (ys : List B) (i : ℕ) (x : A) (d : B) → map f xs ≡ ys → slice_get xs i ≡ Some x → (i < length ys) × (slice_index_or ys i d ≡ f x)
at_map f xs ys i x d same is =
    let there : slice_get ys i ≡ Some (f x) = ap (λ zs. slice_get zs i) (sym same) ∙ slice_get-map f xs i ∙ ap (option_map f) is in
    (slice_get_within ys i (f x) there, get_or_from_slice_get ys i (f x) d there)

guarded_kept : (handling : Bool) (r : Root) → is_guarded handling r ≡ is_kept handling (Of r)
guarded_kept true Main = refl
guarded_kept true Isr = refl
guarded_kept false Main = refl
guarded_kept false Isr = refl

module _ {E : Type 0} (show : E → Happening ℕ) (above : Outside → Run E) (source : Source) (content : MapContent) (g : Setting) (c : chip.Setting) (q : Program) (copies : ℕ) (reaches : ℕ → ℕ → Bool)
    (of : IsOf q.first q.is_watched copies q.frame_bytes q.root g.program.layout) (laid : IsLaidOut reaches g.program.layout) (started : IsStarted g q.first c)
    (told : IsTold content c.watch g.program.layout q.first source.initial)
    (outside : (copy n : ℕ) (s : Sym) → slice_get (g.program.block (Copy copy)) n ≡ Some s → keeps_out s ≡ true)
    (begins : Registers) (fits : Fits begins) (arrives : (n : ℕ) → (entry : Entry) × AreEntries entry × Arrives g c entry begins (slice_index (moment c started.at).state.ram) n)
    (seen : (o : Outside) → o.input ≡ c.inputs → IsSeen show (above o) (source.run o))
    (led : (e : Entry) → AreEntries e → (o : Outside) → o.input ≡ c.inputs
    → IsLed show (above o) (source.run o).steps source.nodes (run_of g (times_in g.program.block) e o (sym_start g.program begins (slice_index (moment c started.at).state.ram))))
  where
    abbrev l : DataLayout
    l = g.program.layout

    abbrev m : Memory
    m = slice_index (moment c started.at).state.ram

    -- ---- static objects
    module _ (n i k : ℕ) (line : ObjectLine) (clean : IsClean source content c n) (is_met : (moment c n).met ≡ true) (at : slice_get content.objects i ≡ Some line) (free : line.constant ≡ false) (within : k < line.size) where
      object_is : (i < length l.objects) × (object l i ≡ range_of line)
      object_is = at_map range_of content.objects l.objects i line no_range told.objects at

      here : i < length q.first
      here = let a = object_is.0 in let b = of.objects in omega arith

      inside : k < static_bytes q i
      inside = let a = ap (λ (r : Range). r.size) object_is.1 in let b = of.sizes i here in omega arith

      is_watched : q.is_watched i ≡ true
      is_watched = by (q.is_watched i) (sym (of.constants i here) ∙ ap (λ (r : Range). r.constant) object_is.1 ∙ free) where
        by : (b : Bool) → not b ≡ false → b ≡ true
        by true e = refl
        by false e = absurd (cc)

      abbrev number : ℕ
      number = slot l (Static i k)

      owned : owner l number ≡ Watched (cells.Static i k)
      owned = watched q copies reaches l of laid i k inside is_watched

      stands_at : general_at (line.address + k) ≡ Some number
      unfolding address_of
      stands_at = ap (λ (r : Range). general_at (r.address + k)) (sym object_is.1) ∙ stands_in q copies reaches l of laid (Static i k) inside

      first_is : m number ≡ slice_index (slice_index_or source.initial i []) k
      first_is = (started.begun begins fits).static i k number inside (stands_in q copies reaches l of laid (Static i k) inside) ∙ sym (told.begins i k inside)

      abbrev x : IsMet g c (arrives n).0 begins m n 0
      x = met show above source content g c q.first started begins arrives seen led n clean

      pub end_state : byte_at (moment c n).state (line.address + k) ≡ last_written i k (slice_index (slice_index_or source.initial i []) k) (moment c n).trace
      end_state =
          byte_of (moment c n).state (line.address + k) number stands_at
          ∙ x.bytes number (cells.Static i k) is_met owned
          ∙ watched_bytes g m outside (arrives n).0 (outside_at g c n) begins x.at number i k owned
          ∙ ap (λ v. last_written i k v (map event_of (sym_run g (arrives n).0 (outside_at g c n) x.at (sym_start g.program begins m)).world.trace)) first_is
          ∙ ap (last_written i k (slice_index (slice_index_or source.initial i []) k)) (sym x.trace)

    -- ---- frames
    pub frames : (n k b : ℕ) (line : FrameLine) → IsClean source content c n → k < n → (moment c k).met ≡ true → Contains content.frames line → b < line.size
        → is_guarded (is_handling (arriving c.arrivals k) (moment c k)) line.root ≡ true
        → byte_at (moment c (k + 1)).state (line.address + b) ≡ byte_at (moment c k).state (line.address + b)
    unfolding address_of
    frames n k b line clean lt is_met has within guarded =
        let p = place_in content.frames line has in
        let f = at_map frame_of content.frames l.frames p.0 line no_frame told.frames p.1 in
        let size : (frame l p.0).size ≡ line.size = ap (λ (r : FrameRange). r.size) f.1 in
        let there : p.0 < copies = let a = f.0 in let z = of.frames in omega arith in
        let in_frame : b < (frame l p.0).size = omega arith in
        let number = slot l (Frame p.0 b) in
        let root : q.root p.0 ≡ line.root = sym (of.roots p.0 there) ∙ ap (λ (r : FrameRange). r.root) f.1 in
        let own : owner l number ≡ Of line.root = frames_own q copies reaches l of laid p.0 b there in_frame ∙ ap Of root in
        let at : general_at (line.address + b) ≡ Some number = ap (λ (r : FrameRange). general_at (r.address + b)) (sym f.1) ∙ stands_in q copies reaches l of laid (Frame p.0 b) (there, in_frame) in
        let kept = ap (is_kept (is_handling (arriving c.arrivals k) (moment c k))) own ∙ sym (guarded_kept (is_handling (arriving c.arrivals k) (moment c k)) line.root) ∙ guarded in
        byte_of (moment c (k + 1)).state (line.address + b) number at
        ∙ (arrives n).2.frames k number (running show above source content g c q.first started begins arrives seen led n clean) lt is_met kept
        ∙ sym (byte_of (moment c k).state (line.address + b) number at)
