-- The micro-step of a focus, where the state stands: what each transition needs is there.
use Rattle.std.proofs.Common.{◌≡◌, ℕ, ◌-◌, ◌<◌, ◌≤◌, ◌^◌, true, false, Option, refl, sym, ap, ◌∙◌, subst, arith, drop}
use Rattle.c_typed.specs.Types.{type_bytes}
use Rattle.c_typed.specs.Views.{program_of, expression_of, place_of}
use Rattle.pic_map.specs.MapContent.{MapContent}
use Rattle.pic_world.specs.World.{World, Outside}
use Rattle.src_machine.proofs.Bytes.{setting_at, silent_tells}
use Rattle.src_machine.proofs.Premises.{byte_known, met_known, value_known, no_value, call_fits, end_small}
use Rattle.src_machine.proofs.Tellings.{tells_silent}
use Rattle.src_machine.specs.Passing.{FitCall}
use Rattle.src_machine.specs.Seen.{waiting, interrupted_in, stack_of, memory_of, silent, setting_of, HasRoom, HasNoValue, IsGoing}
use Rattle.src_machine.specs.Stepping.{CanStep}
use Rattle.src_machine.specs.Telling.{Tells, is_quiet}
use Rattle.src_machine.specs.declared.machine.Machine.{Machine}
use Rattle.src_machine.specs.declared.machine.Outcome.{Outcome}
use Rattle.src_machine.specs.declared.machine.Outcome.TheVariants.{Idle}
use Rattle.src_memory.specs.Accessed.{byte_met}
use Rattle.src_memory.specs.Seen.{IsWorld, events_of}
use Rattle.src_memory.specs.Shape.{IsShaped, IsKnown}
use Rattle.src_memory.specs.Shown.{address_of}
use Rattle.src_rules.proofs.Nears.{near_next, fetch_next, write_next, spell_next, blanks_small, bit_small}
use Rattle.src_rules.specs.Accesses as rules
use Rattle.src_rules.specs.Expressions.{eval, find, found}
use Rattle.src_rules.specs.Giving.{give, compares}
use Rattle.src_rules.specs.Standing.{FocusStands}
use Rattle.src_rules.specs.State as state
use Rattle.src_rules.specs.Statements.{begin, leave, proceed}
use Rattle.src_rules.specs.Step.{act, call}
use Rattle.src_values.specs.Control.{read_type}
use Rattle.src_values.specs.Memory.{Setting}
use Rattle.src_values.specs.Seen.{focus_in, is_over, datum_of, read_of, statement_in, has_next}
use Rattle.src_values.specs.Values.{byte_of}
use Rattle.src_values.specs.declared.control.Focus.{Focus}
use Rattle.src_values.specs.declared.control.Focus.TheVariants as focuses
use Rattle.src_values.specs.declared.objects.Byte.{Byte}
use Rattle.src_values.specs.declared.objects.Object.{Object}

-- ---- of any focus
room_less : (n : ℕ) (m : Machine) → n ≤ 3 → HasRoom 3 m → HasRoom n m
room_less n m l h = omega arith

focus_at : (s : Setting) (map : MapContent) (m : Machine) (w : World Byte) (x : Focus) → CanStep s map m w → m.focus ≡ x → FocusStands s.program m.copy (focus_in x) (stack_of m)
focus_at s map m w x here is = subst (λ f. FocusStands s.program m.copy (focus_in f) (stack_of m)) is here.stands.focus

going_at : (m : Machine) (x : Focus) → m.focus ≡ x → is_over (focus_in x) ≡ false → IsGoing m
going_at m x is h = ap (λ f. is_over (focus_in f)) is ∙ h

by_rule : (s : Setting) (map : MapContent) (out : Outcome) (m new : Machine) (w : World Byte) (x : Focus) (r : state.Outcome) → m.focus ≡ x → act s (focus_in x) (stack_of m) m.copy (memory_of m) w ≡ r
    → Tells s.outside (address_of s.program map) out new r → Tells s.outside (address_of s.program map) out new (act s (focus_in m.focus) (stack_of m) m.copy (memory_of m) w)
by_rule s map out m new w x r is e h =
    subst (λ y. Tells s.outside (address_of s.program map) out new y) (sym (ap (λ f. act s (focus_in f) (stack_of m) m.copy (memory_of m) w) is ∙ e)) h

module _ (s : Setting) (map : MapContent) (m new : Machine) (out : Outcome) (w : World Byte) (here : CanStep s map m w) where
  -- ---- those that make no event
  quiet_at : (x : Focus) (r : state.Outcome) → m.focus ≡ x → act s (focus_in x) (stack_of m) m.copy (memory_of m) w ≡ r → new ≡ record m { stack = new.stack; focus = new.focus } → is_quiet out ≡ true → silent out new w ≡ r
      → Tells s.outside (address_of s.program map) out new (act s (focus_in m.focus) (stack_of m) m.copy (memory_of m) w)
  quiet_at x r is e others quiet h = by_rule s map out m new w x r is e (silent_tells s map (address_of s.program map) out m new w r here.at others quiet h)

  pub eval_told : (e : _) → m.focus ≡ focuses.Eval e → new ≡ record m { stack = new.stack; focus = new.focus } → is_quiet out ≡ true
      → (HasRoom 1 m → HasNoValue m → (w : World Byte) → silent out new w ≡ eval (expression_of e.now) (stack_of m) m.copy (memory_of m) w)
      → Tells s.outside (address_of s.program map) out new (act s (focus_in m.focus) (stack_of m) m.copy (memory_of m) w)
  unfolding act
  eval_told e is others quiet tells =
      quiet_at (focuses.Eval e) (eval (expression_of e.now) (stack_of m) m.copy (memory_of m) w) is refl others quiet
      (tells (room_less 1 m (omega arith) here.room) (no_value (interrupted_in m) (waiting m) _ (focus_at s map m w (focuses.Eval e) here is).1) w)

  pub find_told : (place : _) → m.focus ≡ focuses.Find place → new ≡ record m { stack = new.stack; focus = new.focus } → is_quiet out ≡ true
      → (HasRoom 1 m → (o : Outside) (w : World Byte) → silent out new w ≡ find (setting_of m o) (place_of place.now) (stack_of m) m.copy (memory_of m) w)
      → Tells s.outside (address_of s.program map) out new (act s (focus_in m.focus) (stack_of m) m.copy (memory_of m) w)
  unfolding act
  find_told place is others quiet tells =
      quiet_at (focuses.Find place) (find s (place_of place.now) (stack_of m) m.copy (memory_of m) w) is refl others quiet
      (tells (room_less 1 m (omega arith) here.room) s.outside w ∙ ap (λ s. find s (place_of place.now) (stack_of m) m.copy (memory_of m) w) (setting_at s map m w here.at))

  pub give_told : (v : _) → m.focus ≡ focuses.Holds v → new ≡ record m { stack = new.stack; focus = new.focus } → is_quiet out ≡ true
      → (HasRoom 1 m → IsGoing m → (o : Outside) (w : World Byte) → silent out new w ≡ give (setting_of m o) (datum_of v) (stack_of m) m.copy (memory_of m) w)
      → Tells s.outside (address_of s.program map) out new (act s (focus_in m.focus) (stack_of m) m.copy (memory_of m) w)
  unfolding act
  give_told v is others quiet tells =
      quiet_at (focuses.Holds v) (give s (datum_of v) (stack_of m) m.copy (memory_of m) w) is refl others quiet
      (tells (room_less 1 m (omega arith) here.room) (going_at m (focuses.Holds v) is refl) s.outside w ∙ ap (λ s. give s (datum_of v) (stack_of m) m.copy (memory_of m) w) (setting_at s map m w here.at))

  pub found_told : (spot : _) → m.focus ≡ focuses.Found spot → new ≡ record m { stack = new.stack; focus = new.focus } → is_quiet out ≡ true
      → ((o : Outside) (w : World Byte) → silent out new w ≡ found (setting_of m o) spot (stack_of m) m.copy (memory_of m) w)
      → Tells s.outside (address_of s.program map) out new (act s (focus_in m.focus) (stack_of m) m.copy (memory_of m) w)
  unfolding act
  found_told spot is others quiet tells =
      quiet_at (focuses.Found spot) (found s spot (stack_of m) m.copy (memory_of m) w) is refl others quiet
      (tells s.outside w ∙ ap (λ s. found s spot (stack_of m) m.copy (memory_of m) w) (setting_at s map m w here.at))

  pub compares_told : (v : _) (cases : _) (next : ℕ) → m.focus ≡ focuses.Compares v cases next → new ≡ record m { stack = new.stack; focus = new.focus } → is_quiet out ≡ true
      → (HasRoom 1 m → (w : World Byte) → silent out new w ≡ compares (datum_of v) (drop next cases.now.items) (stack_of m) m.copy (memory_of m) w)
      → Tells s.outside (address_of s.program map) out new (act s (focus_in m.focus) (stack_of m) m.copy (memory_of m) w)
  unfolding act
  compares_told v cases next is others quiet tells =
      quiet_at (focuses.Compares v cases next) (compares (datum_of v) (drop next cases.now.items) (stack_of m) m.copy (memory_of m) w) is refl others quiet
      (tells (room_less 1 m (omega arith) here.room) w)

  pub leave_told : (v : _) → m.focus ≡ focuses.Leaves v → new ≡ record m { stack = new.stack; focus = new.focus; copy = new.copy } → is_quiet out ≡ true
      → ((w : World Byte) → silent out new w ≡ leave (datum_of v) (stack_of m) (memory_of m) w)
      → Tells s.outside (address_of s.program map) out new (act s (focus_in m.focus) (stack_of m) m.copy (memory_of m) w)
  unfolding act
  leave_told v is others quiet tells =
      by_rule s map out m new w (focuses.Leaves v) (leave (datum_of v) (stack_of m) (memory_of m) w) is refl
      (tells_silent s.outside (address_of s.program map) out m new w _ (ap (λ m. m.world) others) here.at.world quiet (tells w))

  pub call_told : m.focus ≡ focuses.Calls → new ≡ record m { copy = new.copy; memory = new.memory; stack = new.stack; focus = new.focus } → is_quiet out ≡ true
      → (HasRoom 2 m → (map : MapContent) (w : World Byte) → IsShaped (program_of m.program.now) map m.memory → FitCall (program_of m.program.now) m.copy (stack_of m) → silent out new w ≡ call (program_of m.program.now) (stack_of m) m.copy (memory_of m) w)
      → Tells s.outside (address_of s.program map) out new (act s (focus_in m.focus) (stack_of m) m.copy (memory_of m) w)
  unfolding act
  call_told is others quiet tells =
      let same = here.at.program in
      by_rule s map out m new w focuses.Calls (call s.program (stack_of m) m.copy (memory_of m) w) is refl
      (tells_silent s.outside (address_of s.program map) out m new w _ (ap (λ m. m.world) others) here.at.world quiet
      (tells (room_less 2 m (omega arith) here.room) map w (subst (λ p. IsShaped p map m.memory) same here.at.shaped)
      (subst (λ p. FitCall p m.copy (stack_of m)) same (call_fits s.program m.copy (stack_of m) here.stands.stack (focus_at s map m w focuses.Calls here is)))
      ∙ ap (λ p. call p (stack_of m) m.copy (memory_of m) w) (sym same)))

  -- ---- statements
  pub begin_told : (code : _) → m.focus ≡ focuses.Run code
      → (HasRoom 1 m → (o : Outside) (a : Object → ℕ) (w : World Byte) → IsWorld o m.world w → events_of m.world < 2 ^ 60 → Tells o a out new (begin (setting_of m o) (statement_in code) (stack_of m) m.copy (memory_of m) w))
      → Tells s.outside (address_of s.program map) out new (act s (focus_in m.focus) (stack_of m) m.copy (memory_of m) w)
  unfolding act
  begin_told code is tells =
      by_rule s map out m new w (focuses.Run code) (begin s (statement_in code) (stack_of m) m.copy (memory_of m) w) is refl
      (subst (λ s. Tells s.outside (address_of s.program map) out new (begin s (statement_in code) (stack_of m) m.copy (memory_of m) w)) (setting_at s map m w here.at)
      (tells (room_less 1 m (omega arith) here.room) s.outside (address_of (program_of m.program.now) map) w here.at.world here.at.few))

  pub proceed_told : m.focus ≡ focuses.Past
      → (HasRoom 0 m → (o : Outside) (a : Object → ℕ) (w : World Byte) → IsWorld o m.world w → events_of m.world < 2 ^ 60 → Tells o a out new (proceed (stack_of m) m.copy (memory_of m) w))
      → Tells s.outside (address_of s.program map) out new (act s (focus_in m.focus) (stack_of m) m.copy (memory_of m) w)
  unfolding act
  proceed_told is tells =
      by_rule s map out m new w focuses.Past (proceed (stack_of m) m.copy (memory_of m) w) is refl
      (tells (room_less 0 m (omega arith) here.room) s.outside (address_of s.program map) w here.at.world here.at.few)

  -- ---- accesses
  pub fetch_told : (spot : _) (read : _) → m.focus ≡ focuses.Fetch spot read
      → (IsKnown s.program (byte_met spot (memory_of m)) → has_next spot → type_bytes s.program.sizes (read_type (stack_of m)) ≤ 4 → IsGoing m → Tells s.outside (address_of s.program map) out new (rules.fetch s spot (read_of read) (stack_of m) m.copy (memory_of m) w))
      → Tells s.outside (address_of s.program map) out new (act s (focus_in m.focus) (stack_of m) m.copy (memory_of m) w)
  unfolding act
  fetch_told spot read is tells =
      let f = focus_at s map m w (focuses.Fetch spot read) here is in
      by_rule s map out m new w (focuses.Fetch spot read) (rules.fetch s spot (read_of read) (stack_of m) m.copy (memory_of m) w) is refl
      (tells (met_known s.program (memory_of m) spot here.stands.memory) (fetch_next s.program here.proper m.copy (stack_of m) spot (read_of read) here.stands.reached here.stands.stack f) f.few (going_at m (focuses.Fetch spot read) is refl))

  pub skim_told : (spot : _) (left : ℕ) (last : Option Byte) → m.focus ≡ focuses.Skim spot left last
      → (IsKnown s.program (byte_met spot (memory_of m)) → has_next spot → IsGoing m → Tells s.outside (address_of s.program map) out new (rules.skim s spot left last (stack_of m) m.copy (memory_of m) w))
      → Tells s.outside (address_of s.program map) out new (act s (focus_in m.focus) (stack_of m) m.copy (memory_of m) w)
  unfolding act
  skim_told spot left last is tells =
      let f = focus_at s map m w (focuses.Skim spot left last) here is in
      by_rule s map out m new w (focuses.Skim spot left last) (rules.skim s spot left last (stack_of m) m.copy (memory_of m) w) is refl
      (tells (met_known s.program (memory_of m) spot here.stands.memory) (near_next s.program here.proper spot f.near) (going_at m (focuses.Skim spot left last) is refl))

  pub write_told : (spot : _) (v : _) (at : ℕ) → m.focus ≡ focuses.Write spot v at
      → (IsKnown s.program (byte_of (datum_of v) at) → has_next spot → IsGoing m → HasRoom 0 m → Tells s.outside (address_of s.program map) out new (rules.write s spot (datum_of v) at (stack_of m) m.copy (memory_of m) w))
      → Tells s.outside (address_of s.program map) out new (act s (focus_in m.focus) (stack_of m) m.copy (memory_of m) w)
  unfolding act
  write_told spot v at is tells =
      let f = focus_at s map m w (focuses.Write spot v at) here is in
      by_rule s map out m new w (focuses.Write spot v at) (rules.write s spot (datum_of v) at (stack_of m) m.copy (memory_of m) w) is refl
      (tells (value_known s.program f.type (datum_of v) at f.typed) (write_next s.program here.proper m.copy (stack_of m) spot (datum_of v) at here.stands.reached here.stands.stack f) (going_at m (focuses.Write spot v at) is refl) (room_less 0 m (omega arith) here.room))

  pub put_bit_told : (register bit : ℕ) (v : _) (old : ℕ) → m.focus ≡ focuses.PutBit register bit v old
      → (bit < 8 → IsGoing m → HasRoom 0 m → Tells s.outside (address_of s.program map) out new (rules.put_bit s register bit (datum_of v) old (stack_of m) m.copy (memory_of m) w))
      → Tells s.outside (address_of s.program map) out new (act s (focus_in m.focus) (stack_of m) m.copy (memory_of m) w)
  unfolding act
  put_bit_told register bit v old is tells =
      let f = focus_at s map m w (focuses.PutBit register bit v old) here is in
      by_rule s map out m new w (focuses.PutBit register bit v old) (rules.put_bit s register bit (datum_of v) old (stack_of m) m.copy (memory_of m) w) is refl
      (tells (bit_small s.program m.copy (stack_of m) register bit (datum_of v) 0 here.stands.stack f.0) (going_at m (focuses.PutBit register bit v old) is refl) (room_less 0 m (omega arith) here.room))

  pub copy_read_told : (to from : _) (left : ℕ) → m.focus ≡ focuses.CopyRead to from left
      → (IsKnown s.program (byte_met from (memory_of m)) → IsGoing m → HasRoom 0 m → Tells s.outside (address_of s.program map) out new (rules.copy_read s to from left (stack_of m) m.copy (memory_of m) w))
      → Tells s.outside (address_of s.program map) out new (act s (focus_in m.focus) (stack_of m) m.copy (memory_of m) w)
  unfolding act
  copy_read_told to from left is tells =
      by_rule s map out m new w (focuses.CopyRead to from left) (rules.copy_read s to from left (stack_of m) m.copy (memory_of m) w) is refl
      (tells (met_known s.program (memory_of m) from here.stands.memory) (going_at m (focuses.CopyRead to from left) is refl) (room_less 0 m (omega arith) here.room))

  pub copy_write_told : (to from : _) (byte : Byte) (left : ℕ) → m.focus ≡ focuses.CopyWrite to from byte left
      → (IsKnown s.program byte → has_next to → has_next from → IsGoing m → HasRoom 0 m → Tells s.outside (address_of s.program map) out new (rules.copy_write s to from byte left (stack_of m) m.copy (memory_of m) w))
      → Tells s.outside (address_of s.program map) out new (act s (focus_in m.focus) (stack_of m) m.copy (memory_of m) w)
  unfolding act
  copy_write_told to from byte left is tells =
      let f = focus_at s map m w (focuses.CopyWrite to from byte left) here is in
      by_rule s map out m new w (focuses.CopyWrite to from byte left) (rules.copy_write s to from byte left (stack_of m) m.copy (memory_of m) w) is refl
      (tells (byte_known s.program byte f.1) (near_next s.program here.proper to f.0.target) (near_next s.program here.proper from f.0.source) (going_at m (focuses.CopyWrite to from byte left) is refl) (room_less 0 m (omega arith) here.room))

  pub spell_told : (spot : _) (text : _) (left : ℕ) → m.focus ≡ focuses.Spell spot text left
      → (has_next spot → IsGoing m → HasRoom 0 m → Tells s.outside (address_of s.program map) out new (rules.spell s spot text.now left (stack_of m) m.copy (memory_of m) w))
      → Tells s.outside (address_of s.program map) out new (act s (focus_in m.focus) (stack_of m) m.copy (memory_of m) w)
  unfolding act
  spell_told spot text left is tells =
      let f = focus_at s map m w (focuses.Spell spot text left) here is in
      by_rule s map out m new w (focuses.Spell spot text left) (rules.spell s spot text.now left (stack_of m) m.copy (memory_of m) w) is refl
      (tells (spell_next s.program here.proper m.copy (stack_of m) spot text.now left here.stands.reached here.stands.stack f) (going_at m (focuses.Spell spot text left) is refl) (room_less 0 m (omega arith) here.room))

  pub blank_told : (at end : ℕ) → m.focus ≡ focuses.Blank at end
      → (end < 2 ^ 64 - 1 → IsGoing m → HasRoom 0 m → Tells s.outside (address_of s.program map) out new (rules.blank s at (end - at) (stack_of m) m.copy (memory_of m) w))
      → Tells s.outside (address_of s.program map) out new (act s (focus_in m.focus) (stack_of m) m.copy (memory_of m) w)
  unfolding act
  blank_told at end is tells =
      let f = focus_at s map m w (focuses.Blank at end) here is in
      by_rule s map out m new w (focuses.Blank at end) (rules.blank s at (end - at) (stack_of m) m.copy (memory_of m) w) is refl
      (tells (end_small at end f.0 f.2 (blanks_small s.program here.proper m.copy (stack_of m) f.0 f.1)) (going_at m (focuses.Blank at end) is refl) (room_less 0 m (omega arith) here.room))

-- ---- main has ended
pub over_told : (s : Setting) (map : MapContent) (m : Machine) (w : World Byte) → m.focus ≡ focuses.Over → Tells s.outside (address_of s.program map) Idle m (act s (focus_in m.focus) (stack_of m) m.copy (memory_of m) w)
unfolding act
over_told s map m w is = by_rule s map Idle m m w focuses.Over state.Idle is refl tt
