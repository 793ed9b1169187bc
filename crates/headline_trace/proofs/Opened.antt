-- Selected code accesses through FSR only what a pointer of byte code may lead to.
use Rattle.std.proofs.Common.{◌≡◌, ℕ, ◌+◌, ◌<◌, Bool, true, false, not, ◌||◌, List, Option, Some, None, refl, sym, ap, ◌∙◌, subst}
use Rattle.core_code.specs.Bytes.{Object, Fixed, FrameOf}
use Rattle.core_code.specs.Machine.{Task, core_moment}
use Rattle.narrow_code.specs.Links.{reaches_lent}
use Rattle.sym_code.specs.Effect.{Thread, Rest}
use Rattle.sym_code.specs.Layout.{DataLayout, object, frame, address_of, general_at}
use Rattle.sym_code.specs.Machine.{running, settled, sym_run, sym_start}
use Rattle.sym_code.specs.Programs.{Program, Position, fetched}
use Rattle.sym_code.specs.Registers.{Registers, pointer}
use Rattle.sym_code.specs.Touching.{touches}
use Rattle.sym_code.specs.declared.code.Operand.{Operand}
use Rattle.sym_code.specs.declared.code.Operand.TheVariants as operands
use Rattle.sym_code.specs.declared.code.Register.TheVariants.{Indf}
use Rattle.sym_code.specs.declared.code.Sym.{Sym}
use Rattle.select_wide.specs.Direct as wide
use Rattle.select_wide.specs.Links.{AreShown, ReachesLent}
use Rattle.lean_code.specs.Links as lean
use Rattle.select_trace.proofs.Whole.{open_law}
use Rattle.headline_trace.specs.Opened.{SelectionOpens}

-- ---- pointers in byte code
reaches_as : (lent : Object → Bool) (code : List Task) → reaches_lent lent code ≡ true → ReachesLent lent code
reaches_as lent code h = record {
  loads = λ to object offset n rest e. subst (λ (l : List Task). reaches_lent lent l ≡ true) e h;
  stores = λ object offset from n rest e. subst (λ (l : List Task). reaches_lent lent l ≡ true) e h;
}

-- ---- accesses through FSR
-- bytes that aren't hidden, told by addresses
shown_of : (l : DataLayout) (lent : Object → Bool) (hidden : ℕ → Bool) → ((n : ℕ) → lent (Fixed n) ≡ true → (offset : ℕ) → offset < (object l n).size → lean.is_clear hidden (general_at ((object l n).address + offset)) ≡ true)
    → ((c : ℕ) → lent (FrameOf c) ≡ true → (offset : ℕ) → offset < (frame l c).size → lean.is_clear hidden (general_at ((frame l c).address + offset)) ≡ true) → AreShown l lent hidden
unfolding address_of
shown_of l lent hidden objects frames = record {
  objects = λ n offset k is_lent there in_size e. not_hidden (hidden k) (sym (ap (lean.is_clear hidden) e) ∙ objects n is_lent offset in_size);
  frames = λ c offset k is_lent in_size e. not_hidden (hidden k) (sym (ap (lean.is_clear hidden) e) ∙ frames c is_lent offset in_size);
}
  where
    not_hidden : (b : Bool) → not b ≡ true → b ≡ false
    not_hidden true h = absurd (cc)
    not_hidden false h = refl

clear_same : (hidden : ℕ → Bool) (k : Option ℕ) → wide.is_clear hidden k ≡ lean.is_clear hidden k
clear_same hidden None = refl
clear_same hidden (Some k) = refl

module _ (hidden : ℕ → Bool) (r : Registers) where
  touched_open : (t : Option (Operand × Bool)) → (not (wide.touches_indf t) || wide.is_clear hidden (general_at (pointer r))) ≡ true → lean.clears hidden r t ≡ true
  touched_open None h = refl
  touched_open (Some (operands.Register Indf, writes)) h = sym (clear_same hidden (general_at (pointer r))) ∙ h
  touched_open (Some (operand, writes)) h = refl

  instruction_open : (s : Option Sym) → wide.clears hidden r s ≡ true → lean.clears_if hidden r s ≡ true
  instruction_open None h = refl
  instruction_open (Some s) h = touched_open (touches s) h

  place_open : (q : Program) (at : Option Position) → wide.clears hidden r (wide.next_of q at) ≡ true → lean.clears_at hidden q r at ≡ true
  place_open q None h = refl
  place_open q (Some p) h = instruction_open (fetched q p) h

thread_open : (hidden : ℕ → Bool) (q : Program) (th : Thread) (rest : Option Rest) → wide.clears_next hidden q th rest ≡ true → lean.clears_next hidden q th.registers th.at rest ≡ true
thread_open hidden q th None h = place_open hidden th.registers q th.at h
thread_open hidden q th (Some rest) h = refl

pub selection_opens : SelectionOpens
selection_opens q copies bodies reaches g price sure selected hidden lent clear o small e r m entries begun n goes leads =
    let h =
    open_law q copies bodies reaches g price sure selected lent hidden (shown_of g.program.layout lent hidden clear.objects clear.frames) o small e r m entries begun n goes
    (λ i l. reaches_as lent (core_moment (record { program = q; outside = o }) i).code (leads i l)) in
    (h.0, h.1, λ i l due. let th = running (settled o (sym_run g e o i (sym_start g.program r m))) in thread_open hidden g.program th th.rest (h.2 i l due))
