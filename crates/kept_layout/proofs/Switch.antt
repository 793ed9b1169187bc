-- The whole: moments, costs, and the link.
use Rattle.std.proofs.Common.{◌≡◌, ℕ, zero, suc, ◌+◌, ◌<◌, ◌≤◌, Bool, true, false, not, ◌||◌, nat_eq, if◌then◌else◌, List, [], ◌∷◌, map, Option, Some, None, refl, sym, ap, ◌∙◌, subst, arith}
use Rattle.pic_world.specs.Bits.{bit, set_bit, clear_bit}
use Rattle.pic_world.specs.World.{Outside, Schedule, Happening, is_due}
use Rattle.run_links.specs.Runs.{Run, Goes, Follows, IsSlow}
use Rattle.kept_trace.specs.Kept.{with_schedule}
use Rattle.select_wide.specs.Direct.{is_clear, is_indirect, clears, clears_next, next_of, is_open}
use Rattle.select_wide.specs.Links.{StaysOpen}
use Rattle.sym_code.specs.Cost.{Prices, most_prices, sure_prices, step_cost, cost_by}
use Rattle.sym_code.specs.Effect.{Setting, Thread, Memory, Rest, Access, Pointer, Event, Silent, Denied, Effect, Stuck, Quiet, Reads, Writes, Leaves, Ends, Rests, access_of, file_to_w, file_to_file, store, change, test, file_bit, effect_of, effect_if, effect_at, effect_rest, effect}
use Rattle.sym_code.specs.Layout.{IsLaidOut, general_at}
use Rattle.sym_code.specs.Machine as next
use Rattle.sym_code.specs.Machine.{Machine, Entry, Next, Stops, Still, Made, made, made_write, is_forbidden, checked, lands_at, running, moved, acted, act, at_front, with_entry, enter, settled, sym_step_at, sym_step, gone, sym_run, sym_start}
use Rattle.sym_code.specs.Programs.{Program, Position, fetched, stand}
use Rattle.sym_code.specs.Registers.{Registers, pointer}
use Rattle.sym_code.specs.Runs.{goes_on, is_still, sym_goes, sym_rests, weighed_of}
use Rattle.sym_code.specs.declared.code.BitOperation.{BitOperation}
use Rattle.sym_code.specs.declared.code.BitOperation.TheVariants.{Bcf, Bsf, Btfsc, Btfss}
use Rattle.sym_code.specs.declared.code.BlockName.{BlockName}
use Rattle.sym_code.specs.declared.code.FileOperation.{FileOperation}
use Rattle.sym_code.specs.declared.code.Into.TheVariants as into
use Rattle.sym_code.specs.declared.code.Operand.{Operand}
use Rattle.sym_code.specs.declared.code.Operand.TheVariants as operands
use Rattle.sym_code.specs.declared.code.Register.TheVariants.{Indf, Status, Fsr, Pclath}
use Rattle.sym_code.specs.declared.code.Sym.{Sym}
use Rattle.sym_code.specs.declared.code.Sym.TheVariants as syms
use Rattle.kept_layout.specs.KeptLayout.{kept_program, kept_setting, is_private_byte, seen}
use Rattle.kept_layout.specs.OpenCode.{IsOpenCode}
use Rattle.kept_layout.specs.Switching.{IsByKept, IsSwitched, Switches, SwitchedFollows, kept_run_of}
use Rattle.kept_layout.proofs.Owners.{never}
use Rattle.kept_layout.proofs.Steps.{seen_next}
use Rattle.kept_layout.proofs.Moments.{Holds, HoldsNext, Open, step_seen, step_holds, cost_seen}

-- ---- a step after which nothing is left to do
abbrev is_rests : Effect → Bool
is_rests Rests = true
is_rests _ = false

-- An instruction through FSR isn't one.
file_w_goes : (q : Program) (p : Position) (th : Thread) (m : Memory) (op : FileOperation) (a : Access) → is_rests (file_to_w q p th m op a) ≡ false
file_w_goes q p th m op Pointer = refl
file_w_goes q p th m op (Event b) = refl
file_w_goes q p th m op (Silent k) = refl
file_w_goes q p th m op Denied = refl

file_file_goes : (q : Program) (p : Position) (th : Thread) (m : Memory) (op : FileOperation) (a : Access) → is_rests (file_to_file q p th m op a) ≡ false
file_file_goes q p th m op Pointer = refl
file_file_goes q p th m op (Event b) = refl
file_file_goes q p th m op (Silent k) = refl
file_file_goes q p th m op Denied = refl

store_goes : (q : Program) (p : Position) (th : Thread) (r : Registers) (v : ℕ) (a : Access) → is_rests (store q p th r v a) ≡ false
store_goes q p th r v Pointer = refl
store_goes q p th r v (Event b) = refl
store_goes q p th r v (Silent k) = refl
store_goes q p th r v Denied = refl

change_goes : (q : Program) (p : Position) (th : Thread) (m : Memory) (f : ℕ → ℕ) (a : Access) → is_rests (change q p th m f a) ≡ false
change_goes q p th m f Pointer = refl
change_goes q p th m f (Event b) = refl
change_goes q p th m f (Silent k) = refl
change_goes q p th m f Denied = refl

test_goes : (q : Program) (p : Position) (th : Thread) (m : Memory) (f : ℕ → Bool) (a : Access) → is_rests (test q p th m f a) ≡ false
test_goes q p th m f Pointer = refl
test_goes q p th m f (Event b) = refl
test_goes q p th m f (Silent k) = refl
test_goes q p th m f Denied = refl

bit_goes : (g : Setting) (inside : Bool) (p : Position) (th : Thread) (m : Memory) (op : BitOperation) (b : ℕ) (operand : Operand) → is_rests (file_bit g inside p th m op b operand) ≡ false
bit_goes g inside p th m Bcf b operand = change_goes g.program p th m (clear_bit b) (access_of g inside true th.registers operand)
bit_goes g inside p th m Bsf b operand = change_goes g.program p th m (set_bit b) (access_of g inside true th.registers operand)
bit_goes g inside p th m Btfsc b operand = test_goes g.program p th m (λ x. nat_eq (bit x b) 0) (access_of g inside false th.registers operand)
bit_goes g inside p th m Btfss b operand = test_goes g.program p th m (λ x. nat_eq (bit x b) 1) (access_of g inside false th.registers operand)

module _ (g : Setting) (hidden : ℕ → Bool) (inside : Bool) (p : Position) (th : Thread) (m : Memory) where
  indirect_goes : (s : Sym) → is_indirect (Some s) ≡ true → is_rests (effect_of g inside p th m s) ≡ false
  unfolding effect_of
  indirect_goes (syms.File op operand into.W) e = file_w_goes g.program p th m op (access_of g inside false th.registers operand)
  indirect_goes (syms.File op operand into.File) e = file_file_goes g.program p th m op (access_of g inside true th.registers operand)
  indirect_goes (syms.Movwf operand) e = store_goes g.program p th th.registers th.registers.w (access_of g inside true th.registers operand)
  indirect_goes (syms.Clrf operand) e = store_goes g.program p th (record th.registers { z = 1 }) 0 (access_of g inside true th.registers operand)
  indirect_goes (syms.Bit op (operands.Register Indf) b) e = bit_goes g inside p th m op b (operands.Register Indf)
  indirect_goes (syms.Bit op (operands.Register Status) b) e = never (sym e)
  indirect_goes (syms.Bit op (operands.Register Fsr) b) e = never (sym e)
  indirect_goes (syms.Bit op (operands.Register Pclath) b) e = never (sym e)
  indirect_goes (syms.Bit op (operands.Byte byte) b) e = never (sym e)
  indirect_goes (syms.Bit op (operands.Saved cell) b) e = never (sym e)
  indirect_goes (syms.Literal op value) e = never (sym e)
  indirect_goes (syms.Plain op) e = never (sym e)
  indirect_goes (syms.Call target) e = never (sym e)
  indirect_goes (syms.Goto target) e = never (sym e)
  indirect_goes (syms.Label label) e = never (sym e)
  indirect_goes (syms.SelectBank which to) e = never (sym e)
  indirect_goes (syms.SelectPage which target) e = never (sym e)
  indirect_goes (syms.Table table root) e = never (sym e)

  if_open : (s : Option Sym) → is_rests (effect_if g inside p th m s) ≡ true → clears hidden th.registers s ≡ true
  if_open None e = refl
  if_open (Some s) e = by (is_indirect (Some s)) refl
    where
      by : (b : Bool) → is_indirect (Some s) ≡ b → clears hidden th.registers (Some s) ≡ true
      by true i = never (sym e ∙ indirect_goes s i)
      by false i = ap (λ (b : Bool). not b || is_clear hidden (general_at (pointer th.registers))) i

rests_at : (g : Setting) (hidden : ℕ → Bool) (inside : Bool) (th : Thread) (m : Memory) (at : Option Position) → is_rests (effect_at g inside th m at) ≡ true → clears hidden th.registers (next_of g.program at) ≡ true
rests_at g hidden inside th m None e = refl
rests_at g hidden true th m (Some p) e = if_open g hidden true p th m (fetched g.program p) e
rests_at g hidden false th m (Some p) e = if_open g hidden false p th m (fetched g.program p) e

rests_open : (g : Setting) (hidden : ℕ → Bool) (inside : Bool) (th : Thread) (m : Memory) → is_rests (effect g inside th m) ≡ true → is_open hidden g.program th ≡ true
unfolding effect
rests_open g hidden inside th m e = by th.rest e
  where
    by : (w : Option Rest) → is_rests (effect_rest g inside th m w) ≡ true → clears_next hidden g.program th w ≡ true
    by None f = rests_at g hidden inside th m th.at f
    by (Some x) f = refl

moved_goes : (t : Machine) (x : Option Made) → is_still (moved t x) ≡ false
moved_goes t None = refl
moved_goes t (Some x) = refl

acted_still : (g : Setting) (u : Outside) (t : Machine) (e : Effect) → is_still (acted g u t e) ≡ true → is_rests e ≡ true
unfolding acted
acted_still g u t Stuck f = never (sym f ∙ moved_goes t (checked g.program (made u t.memory t.world Stuck)))
acted_still g u t (Quiet th x) f = never (sym f ∙ moved_goes t (checked g.program (made u t.memory t.world (Quiet th x))))
acted_still g u t (Reads b next) f = never (sym f ∙ moved_goes t (checked g.program (made u t.memory t.world (Reads b next))))
acted_still g u t (Writes b v th) f = never (sym f ∙ moved_goes t (checked g.program (made u t.memory t.world (Writes b v th))))
acted_still g u t Leaves f = never (sym f)
acted_still g u t (Ends th) f = never (sym f)
acted_still g u t Rests f = refl

still_open : (g : Setting) (hidden : ℕ → Bool) (e : Entry) (u : Outside) (t : Machine) → is_still (sym_step g e u t) ≡ true → is_due (settled u t).world ≡ false → is_open hidden g.program (running (settled u t)) ≡ true
unfolding sym_step
still_open g hidden e u t f due =
    let s = settled u t in
    rests_open g hidden s.world.inside (running s) s.memory (acted_still g u s (effect g s.world.inside (running s) s.memory) (sym (ap (λ (b : Bool). is_still (if b then enter g e g.program.handler s else act g u s)) due) ∙ f))

-- ---- runs
module _ (kept : List Bool) (reaches : ℕ → ℕ → Bool) (g : Setting) (laid : IsLaidOut reaches g.program.layout) (handlers : BlockName → Bool)
    (code : IsOpenCode handlers (is_private_byte kept g.program.layout) g.program) (e : Entry) (o : Outside) (schedule : Schedule) (t : Machine) (begins : Holds kept reaches g laid handlers code t) where
  abbrev h : Setting
  h = kept_setting kept g

  abbrev u : Outside
  u = with_schedule o schedule

  abbrev at : ℕ → Machine
  at i = sym_run g e u i t

  gone_seen : (t : Machine) (k : Next) → gone (seen kept t) (seen_next kept k) ≡ seen kept (gone t k)
  gone_seen t (next.Goes v) = refl
  gone_seen t Stops = refl
  gone_seen t Still = refl

  goes_seen : (k : Next) → goes_on (seen_next kept k) ≡ goes_on k
  goes_seen (next.Goes v) = refl
  goes_seen Stops = refl
  goes_seen Still = refl

  still_seen : (k : Next) → is_still (seen_next kept k) ≡ is_still k
  still_seen (next.Goes v) = refl
  still_seen Stops = refl
  still_seen Still = refl

  gone_holds : (t : Machine) → Holds kept reaches g laid handlers code t → (k : Next) → HoldsNext kept reaches g laid handlers code k → Holds kept reaches g laid handlers code (gone t k)
  gone_holds t b (next.Goes v) f = f
  gone_holds t b Stops f = b
  gone_holds t b Still f = b

  module _ (n : ℕ) (by_kept : IsByKept kept g e o schedule t n) (stays : StaysOpen (is_private_byte kept g.program.layout) g e u t n) where
    record Both (i : ℕ) : Type 0 where
      same : sym_run h e o i (seen kept t) ≡ seen kept (at i)
      holds : Holds kept reaches g laid handlers code (at i)

    both : (i : ℕ) → i ≤ n → Both i
    unfolding sym_run
    both zero l = record { same = refl; holds = begins }
    both (suc i) l =
        let b = both i (omega arith) in
        record {
          same =
              ap (λ (t : Machine). gone t (sym_step h e o t)) b.same
              ∙ ap (gone (seen kept (at i))) (step_seen kept reaches g laid handlers code e o schedule (at i) b.holds (by_kept i (omega arith)) (stays i (omega arith)))
              ∙ gone_seen (at i) (sym_step g e u (at i));
          holds = gone_holds (at i) b.holds (sym_step g e u (at i)) (step_holds kept reaches g laid handlers code e o schedule (at i) b.holds (by_kept i (omega arith)) (stays i (omega arith)));
        }

    next_seen : (i : ℕ) → i ≤ n → Open kept reaches g laid handlers code e o schedule (settled u (at i)) → sym_step h e o (sym_run h e o i (seen kept t)) ≡ seen_next kept (sym_step g e u (at i))
    next_seen i l open_there =
        let b = both i l in
        ap (sym_step h e o) b.same ∙ step_seen kept reaches g laid handlers code e o schedule (at i) b.holds (by_kept i l) open_there

    goes_same : (i : ℕ) → i < n → sym_goes h e o (seen kept t) i ≡ sym_goes g e u t i
    goes_same i l = ap goes_on (next_seen i (omega arith) (stays i l)) ∙ goes_seen (sym_step g e u (at i))

    rests_same : sym_rests g e u t n ≡ true → sym_rests h e o (seen kept t) n ≡ true
    rests_same r = ap is_still (next_seen n (omega arith) (still_open g (is_private_byte kept g.program.layout) e u (at n) r)) ∙ still_seen (sym_step g e u (at n)) ∙ r

    costs_same : (c : Prices) (i : ℕ) → i ≤ n → cost_by h c e o i (seen kept t) ≡ cost_by g c e u i t
    unfolding cost_by
    costs_same c zero l = refl
    costs_same c (suc i) l =
        let b = both i (omega arith) in
        ap (λ (k : ℕ). k + step_cost h c o (sym_run h e o i (seen kept t))) (costs_same c i (omega arith))
        ∙ ap (λ (k : ℕ). cost_by g c e u i t + k) (ap (step_cost h c o) b.same ∙ cost_seen kept reaches g laid handlers code e o schedule c (at i) b.holds (by_kept i (omega arith)) (stays i (omega arith)))

    switched : IsSwitched kept g e o schedule t n
    switched = record { moments = λ i l. (both i l).same; goes = goes_same; rests = rests_same; costs = costs_same }

module _ (kept : List Bool) (handlers : BlockName → Bool) (reaches : ℕ → ℕ → Bool) (g : Setting) (laid : IsLaidOut reaches g.program.layout)
    (code : IsOpenCode handlers (is_private_byte kept g.program.layout) g.program) (r : Registers) (m : Memory) where
  start_holds : Holds kept reaches g laid handlers code (sym_start g.program r m)
  start_holds = record { main = record { rest = refl; at = refl; stack = refl }; isr = record { rest = refl; at = refl; stack = refl } }

  start_same : sym_start (kept_program kept g.program) r m ≡ seen kept (sym_start g.program r m)
  unfolding stand
  start_same = refl

pub switches : Switches
switches kept handlers reaches g laid code e o schedule r m n by_kept stays =
    switched kept reaches g laid handlers code e o schedule (sym_start g.program r m) (start_holds kept handlers reaches g laid code r m) n by_kept stays

module _ (kept : List Bool) (g : Setting) (price sure : BlockName → ℕ → ℕ) (e : Entry) (o : Outside) (schedule : Schedule) (t : Machine) (n : ℕ) (s : IsSwitched kept g e o schedule t n) where
  abbrev old : Run (Happening ℕ)
  old = kept_run_of kept (weighed_of g price sure e (with_schedule o schedule) t)

  abbrev new : Run (Happening ℕ)
  new = weighed_of (kept_setting kept g) price sure e o (seen kept t)

  map_id : (es : List (Happening ℕ)) → es ≡ map (λ event. event) es
  map_id [] = refl
  map_id (x ∷ es) = ap (λ (xs : List (Happening ℕ)). x ∷ xs) (map_id es)

  most_same : (i : ℕ) → i ≤ n → new.most i ≡ old.most i
  most_same i l = s.costs (most_prices price) i l

  least_same : (i : ℕ) → i ≤ n → new.least i ≡ old.least i
  least_same i l = s.costs (sure_prices sure) i l

  abbrev link_of : Goes (weighed_of g price sure e (with_schedule o schedule) t) n → Follows (λ event. event) old new n
  link_of going = record {
    at = λ i. i;
    starts = refl;
    rises = λ i j l m. l;
    goes = λ k l. s.goes k l ∙ going k l;
    same = λ i l. ap (λ (t : Machine). t.world.trace) (s.moments i l) ∙ map_id (old.trace i);
    fast = λ i j l m. let a = most_same i (omega arith) in let b = most_same j m in omega (arith, a, b);
    rests = s.rests;
  }

  slow_of : (going : Goes (weighed_of g price sure e (with_schedule o schedule) t) n) → IsSlow (λ event. event) old new n (link_of going)
  slow_of going i j l m = let a = least_same i (omega arith) in let b = least_same j m in omega (arith, a, b)

pub switched_follows : SwitchedFollows
switched_follows kept handlers reaches g laid code price sure e o schedule r m n by_kept stays going =
    let s = switches kept handlers reaches g laid code e o schedule r m n by_kept stays in
    subst (λ (v : Machine). (link : Follows (λ event. event) (kept_run_of kept (weighed_of g price sure e (with_schedule o schedule) (sym_start g.program r m))) (weighed_of (kept_setting kept g) price sure e o v) n)
    × IsSlow (λ event. event) (kept_run_of kept (weighed_of g price sure e (with_schedule o schedule) (sym_start g.program r m))) (weighed_of (kept_setting kept g) price sure e o v) n link)
    (sym (start_same kept handlers reaches g laid code r m))
    (link_of kept g price sure e o schedule (sym_start g.program r m) n s going, slow_of kept g price sure e o schedule (sym_start g.program r m) n s going)
