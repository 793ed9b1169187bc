-- Code that jumps nowhere passes.
use Rattle.std.proofs.Common.{◌≡◌, ℕ, zero, suc, ◌+◌, ◌<◌, Bool, true, List, [], ◌∷◌, ◌++◌, Some, refl, ap, sym, ◌∙◌, arith, drop, length}
use Rattle.core_code.specs.declared.code.Byte.{Byte}
use Rattle.math_helpers.specs.Shape.{sum_from}
use Rattle.sym_code.specs.Effect.{Setting, Memory}
use Rattle.sym_code.specs.Programs.{Position, position, stand, labels_in_front}
use Rattle.sym_code.specs.Quiet.{Scene}
use Rattle.sym_code.specs.Registers.{Registers, Fits}
use Rattle.sym_code.specs.declared.code.BlockName.{BlockName}
use Rattle.sym_code.specs.declared.code.Sym as code
use Rattle.select_wide.specs.Direct.{direct_run}
use Rattle.select_trace.specs.Links.{AreBytes}
use Rattle.select_trace.specs.Operators.{StraightRuns}
use Rattle.select_trace.specs.Run as run
use Rattle.select_trace.specs.Run.{Sym, Mode, Going, Skipping, Seeking, Returned, Machine, going, execute, step_in, step}
use Rattle.select_trace.specs.Silent.{number_at, AreQuiet, AreStraight, plain_code, Begins, Passes}
use Rattle.select_trace.proofs.Effects.{scene}
use Rattle.select_trace.proofs.Kept.{AreWithin}
use Rattle.select_trace.proofs.Ranges.{IsWithin, Keeps, keeps, keeps_then, still, within_of}
use Rattle.select_trace.proofs.Straight.{Comes, walk, front_of}

step_keeps : (k : Mode) (x : Sym) (r : Registers) (m : Memory) → IsWithin x → Fits r → AreBytes m → Keeps r (step_in k x r m).registers (step_in k x r m).memory
step_keeps Going x r m h f ok = keeps x r m h f ok
step_keeps Skipping x r m h f ok = still r m f ok
step_keeps (Seeking l) x r m h f ok = still r m f ok
step_keeps Returned x r m h f ok = still r m f ok

pub run_keeps : (xs : List Sym) (t : Machine) → AreWithin xs → Fits t.registers → AreBytes t.memory → Keeps t.registers (run.run xs t).registers (run.run xs t).memory
run_keeps [] t all f ok = still t.registers t.memory f ok
run_keeps (x ∷ xs) t all f ok =
    let one : Keeps t.registers (step x t).registers (step x t).memory = step_keeps t.mode x t.registers t.memory all.0 f ok in
    keeps_then t.registers (step x t).registers (run.run xs (step x t)).registers (step x t).memory (run.run xs (step x t)).memory one (run_keeps xs (step x t) all.1 one.fits one.bytes)

pub straight_within : (P : Byte → Type 0) (at : Byte → ℕ) (xs : List code.Sym) → AreStraight P xs → AreWithin (plain_code at xs)
straight_within P at [] all = tt
straight_within P at (x ∷ xs) all = (within_of P at x all.0, straight_within P at xs all.1)

-- the same with what it leaves
pub record Along (g : Setting) (price : BlockName → ℕ → ℕ) (inside : Bool) (block : BlockName) (i : ℕ) (list : List code.Sym) (s : Scene) (u : Machine) : Type 0 where
  pub passes : Passes g price inside block i list s
  pub registers : passes.end.thread.registers ≡ u.registers
  pub memory : passes.end.memory ≡ u.memory

pub along : (g : Setting) (price : BlockName → ℕ → ℕ) (inside : Bool) (P : Byte → Type 0) (block : BlockName) (i : ℕ) (list : List code.Sym) (s : Scene) →
    AreQuiet g inside P → AreStraight P list → Begins g block i list s → (run.run (plain_code (number_at g.program.layout) list) (going s.thread.registers s.memory)).mode ≡ Going →
    Along g price inside block i list s (run.run (plain_code (number_at g.program.layout) list) (going s.thread.registers s.memory))
unfolding direct_run stand
along g price inside P block i list s quiet all b goes =
    let u : Machine = run.run (plain_code (number_at g.program.layout) list) (going s.thread.registers s.memory) in
    let c : Comes g price inside block s (i + length list) u (length list) (sum_from (price block) i list) = walk g inside P quiet price block b.behind list i Going s b.there all tt b.rest b.at goes b.lands in
    let k : Keeps s.thread.registers u.registers u.memory = run_keeps (plain_code (number_at g.program.layout) list) (going s.thread.registers s.memory) (straight_within P (number_at g.program.layout) list all) b.registers b.bytes in
    record {
      passes = record {
        count = c.count;
        end = scene s.thread (stand g.program (position block (i + length list))) u;
        run = c.run;
        at = refl;
        stack = refl;
        rest = b.rest;
        fits = k.fits;
        registers = k.same;
        bytes = k.bytes;
        some = λ lt. some list c.count all b.there lt u c.run;
        few = c.few;
        cost = c.cost;
      };
      registers = refl;
      memory = refl;
    }
  where
    inside_some : {x y : Scene} → Some x ≡ Some y → x ≡ y
    inside_some e = cc

    same_at : {x y : Position} → Some x ≡ Some y → x ≡ y
    same_at e = cc

    some : (xs : List code.Sym) (n : ℕ) → AreStraight P xs → drop i (g.program.block block) ≡ xs ++ b.behind → 0 < length xs → (u : Machine) → direct_run g inside n s ≡ Some (scene s.thread (stand g.program (position block (i + length xs))) u) → 0 < n
    some [] n all there lt u e = absurd (omega arith)
    some (x ∷ xs) (suc n) all there lt u e = omega arith
    some (x ∷ xs) zero all there lt u e =
        let none : labels_in_front (drop i (g.program.block block)) ≡ 0 = ap labels_in_front there ∙ front_of P x (xs ++ b.behind) all.0 in
        let a : Some (stand g.program (position block i)) ≡ Some (stand g.program (position block (i + suc (length xs)))) = sym b.at ∙ ap (λ (y : Scene). y.thread.at) (inside_some e) in
        let c : i + labels_in_front (drop i (g.program.block block)) ≡ i + suc (length xs) + labels_in_front (drop (i + suc (length xs)) (g.program.block block)) = ap (λ (p : Position). p.index) (same_at a) in
        omega (arith, none, c)

pub straight_runs : StraightRuns
straight_runs g price inside among block i list s quiet all b goes =
    let h = along g price inside (λ byte. among byte ≡ true) block i list s quiet all b goes in
    record { passes = h.passes; registers = h.registers; memory = h.memory }
