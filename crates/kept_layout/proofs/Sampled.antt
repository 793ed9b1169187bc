-- The sample meets what the switch asks.
use Rattle.std.proofs.Common.{◌≡◌, ◌≢◌, ℕ, zero, suc, ◌<◌, Bool, true, false, not, ◌||◌, Option, Some, None, refl, ap, arith}
use Rattle.std.specs.List.{list_all}
use Rattle.std.proofs.lemmas.Option.{none-some}
use Rattle.select_wide.specs.Direct.{is_clear, is_indirect, clears, clears_next, next_of, is_open}
use Rattle.sym_code.specs.Effect.{Thread, Rest}
use Rattle.sym_code.specs.Layout.{IsLaidOut, object, frame, is_whole, are_apart, general_at}
use Rattle.sym_code.specs.Programs.{Program, Position, fetched}
use Rattle.sym_code.specs.Registers.{pointer}
use Rattle.sym_code.specs.declared.code.BlockName.{BlockName}
use Rattle.sym_code.specs.declared.code.BlockName.TheVariants.{Start, Copy}
use Rattle.sym_code.specs.declared.code.Sym.{Sym}
use Rattle.kept_layout.specs.Sampled.{sample_entry, sample_start, SampleMeets}
use Rattle.kept_trace.specs.Kept.{with_schedule}
use Rattle.sym_code.specs.Machine.{running, settled, sym_run}
use Rattle.kept_layout.specs.KeptLayout.{is_private_byte}
use Rattle.kept_layout.specs.NamedCode.{operand_named, IsNamedCode}
use Rattle.kept_layout.specs.OpenCode.{sym_by}
use Rattle.kept_layout.specs.Sample.{sample_kept, sample_layout, sample_setting, sample_block, sample_outside}
use Rattle.kept_layout.proofs.Moments.{all_at}

-- code without an access through FSR
module _ (hidden : ℕ → Bool) (q : Program) (direct : (name : BlockName) → list_all (λ (s : Sym). not (is_indirect (Some s))) (q.block name) ≡ true) (th : Thread) where
  clear_if : (p : Position) (o : Option Sym) → fetched q p ≡ o → clears hidden th.registers o ≡ true
  clear_if p None e = refl
  clear_if p (Some s) e = ap (λ (b : Bool). b || is_clear hidden (general_at (pointer th.registers))) (all_at (λ (s : Sym). not (is_indirect (Some s))) (q.block p.block) p.index s e (direct p.block))

  clear_at : (at : Option Position) → clears hidden th.registers (next_of q at) ≡ true
  clear_at None = refl
  clear_at (Some p) = clear_if p (fetched q p) refl

  open_by : (w : Option Rest) → clears_next hidden q th w ≡ true
  open_by None = clear_at th.at
  open_by (Some x) = refl

  direct_open : is_open hidden q th ≡ true
  direct_open = open_by th.rest

is_direct : (name : BlockName) → list_all (λ (s : Sym). not (is_indirect (Some s))) (sample_block name) ≡ true
is_direct Start = refl
is_direct (Copy copy) = refl

whole_object : (n : ℕ) → n < 1 → is_whole (object sample_layout n).address (object sample_layout n).size ≡ true
whole_object zero l = refl
whole_object (suc n) l = absurd (omega (arith, l))

whole_frame : (n : ℕ) → n < 1 → is_whole (frame sample_layout n).address (frame sample_layout n).size ≡ true
whole_frame zero l = refl
whole_frame (suc n) l = absurd (omega (arith, l))

clear_frame : (n c : ℕ) → n < 1 → c < 1 → are_apart (object sample_layout n).address (object sample_layout n).size (frame sample_layout c).address (frame sample_layout c).size ≡ true
clear_frame zero zero l m = refl
clear_frame zero (suc c) l m = absurd (omega (arith, m))
clear_frame (suc n) c l m = absurd (omega (arith, l))

only_one : {A : Type 0} (n m : ℕ) → n < 1 → m < 1 → n ≢ m → A
only_one n m l k ne = absurd (ne (omega (arith, l, k)))

laid : IsLaidOut (λ c d. false) sample_layout
laid = record {
  objects = whole_object;
  frames = whole_frame;
  objects_apart = λ n m l k ne. only_one n m l k ne;
  frames_clear = clear_frame;
  frames_apart = λ c d l k ne meet. only_one c d l k ne;
}

blocks_named : (name : BlockName) → list_all (sym_by (operand_named sample_kept sample_layout) (λ name. false) sample_layout name) (sample_block name) ≡ true
unfolding sym_by
blocks_named Start = refl
blocks_named (Copy copy) = refl

named : IsNamedCode (λ name. false) sample_kept sample_setting.program
named = record { handler = λ h e. absurd (none-some h e); blocks = blocks_named }

pub sample_meets : SampleMeets
sample_meets = (laid, named, λ n. (λ i l. refl, λ i l due. direct_open (is_private_byte sample_kept sample_layout) sample_setting.program is_direct (running (settled (with_schedule sample_outside (λ n. 0)) (sym_run sample_setting sample_entry (with_schedule sample_outside (λ n. 0)) i sample_start)))))
