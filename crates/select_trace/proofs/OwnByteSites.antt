-- Code on own bytes, where it stands: what it does over bytes by number is what it does by names.
use Rattle.std.proofs.Common.{◌≡◌, ℕ, ◌+◌, ◌<◌, ◌≤◌, Bool, true, false, List, refl, ap, sym, ◌∙◌, subst, arith, min}
use Rattle.std.specs.Prelude.{not, ◌&&◌, ◌||◌, nat_eq, nat_le}
use Rattle.std.proofs.lemmas.Bool.{eqb-true}
use Rattle.std.proofs.lemmas.Bool.Decides.{nat_tests}
use Rattle.core_code.specs.Bytes.{behind, same_byte, misses, is_same_or_misses}
use Rattle.core_code.specs.declared.code.Byte.{Byte}
use Rattle.core_code.specs.declared.code.Byte.TheVariants.{Static, Frame, Result, Device}
use Rattle.math_helpers.specs.Wanted.{byte_at}
use Rattle.pic_world.specs.Roots.{same_root}
use Rattle.pic_world.specs.declared.Root.{Root}
use Rattle.pic_world.specs.declared.Root.TheVariants.{Main, Isr}
use Rattle.select_code.specs.Pieces.{byte_behind, is_clearable}
use Rattle.sym_code.specs.Effect.{Setting, Memory, root_of}
use Rattle.sym_code.specs.Layout.{frame, is_whole}
use Rattle.sym_code.specs.Quiet.{Scene}
use Rattle.sym_code.specs.declared.code.BlockName.{BlockName}
use Rattle.sym_code.specs.declared.code.Sym as code
use Rattle.select_trace.specs.Links.{Fine, Apart}
use Rattle.select_trace.specs.Operators.{Computes}
use Rattle.select_trace.specs.Ripples.{AreDistinct}
use Rattle.select_trace.specs.Run as run
use Rattle.select_trace.specs.Run.{Sym, Going, Machine, going}
use Rattle.select_trace.specs.Silent.{number_at, OwnsBytes, IsIn, Begins}
use Rattle.select_trace.specs.Values.{val}
use Rattle.select_trace.proofs.Means.{Means, Lies}
use Rattle.select_trace.proofs.Names.{IsOwnOne, own_quiet, same_name}
use Rattle.select_trace.proofs.Numbers.{byte_back}
use Rattle.select_trace.proofs.Passed.{Along, along}

-- ---- names
whole_small : (a n : ℕ) → is_whole a n ≡ true → n < 256
whole_small a n e = grind (arith, nat_tests)

min_small : (x m : ℕ) → x ≤ m → min x m ≡ x
min_small x m le = grind arith

pub behind_is : (g : Setting) (inside : Bool) (copy size : ℕ) → OwnsBytes g inside copy size → (byte : Byte) (n k : ℕ) → IsIn (root_of inside) copy size byte n → k < n → byte_behind byte k ≡ behind byte k
behind_is g inside copy size own (Frame c offset) n k h lt = ap (λ (x : ℕ). Frame c x) (min_small (offset + k) 65535 (let a : size < 256 = whole_small (frame g.program.layout copy).address size own.whole in let b : offset + n ≤ size = h.1 in omega arith))
behind_is g inside copy size own (Result root offset) n k h lt = ap (λ (x : ℕ). Result root x) (min_small (offset + k) 255 (let b : offset + n ≤ 4 = h.1 in omega arith))
behind_is g inside copy size own (Static object offset) n k h lt = absurd h
behind_is g inside copy size own (Device address) n k h lt = absurd h

pub one_of : (root : Root) (copy size : ℕ) (byte : Byte) (n k : ℕ) → IsIn root copy size byte n → k < n → IsIn root copy size (behind byte k) 1
one_of root copy size (Frame c offset) n k h lt = (h.0, let b : offset + n ≤ size = h.1 in omega arith)
one_of root copy size (Result r offset) n k h lt = (h.0, let b : offset + n ≤ 4 = h.1 in omega arith)
one_of root copy size (Static object offset) n k h lt = absurd h
one_of root copy size (Device address) n k h lt = absurd h

behind_zero : (root : Root) (copy size : ℕ) (byte : Byte) (n : ℕ) → IsIn root copy size byte n → byte ≡ behind byte 0
behind_zero root copy size (Frame c offset) n h = ap (λ (x : ℕ). Frame c x) (let e : offset ≡ offset + 0 = omega arith in e)
behind_zero root copy size (Result r offset) n h = ap (λ (x : ℕ). Result r x) (let e : offset ≡ offset + 0 = omega arith in e)
behind_zero root copy size (Static object offset) n h = absurd h
behind_zero root copy size (Device address) n h = absurd h

clears : (root : Root) (copy size : ℕ) (byte : Byte) (n k : ℕ) → IsIn root copy size byte n → is_clearable (byte_behind byte k) ≡ true
clears root copy size (Frame c offset) n k h = refl
clears root copy size (Result r offset) n k h = refl
clears root copy size (Static object offset) n k h = absurd h
clears root copy size (Device address) n k h = absurd h

pub fewer : (root : Root) (copy size : ℕ) (byte : Byte) (n m : ℕ) → IsIn root copy size byte n → m ≤ n → IsIn root copy size byte m
fewer root copy size (Frame c offset) n m h le = (h.0, let b : offset + n ≤ size = h.1 in omega arith)
fewer root copy size (Result r offset) n m h le = (h.0, let b : offset + n ≤ 4 = h.1 in omega arith)
fewer root copy size (Static object offset) n m h le = absurd h
fewer root copy size (Device address) n m h le = absurd h

in_frame : {c d x y : ℕ} → Frame c x ≡ Frame d y → (c ≡ d) × (x ≡ y)
in_frame e = (cc, cc)

in_result : {c d : Root} {x y : ℕ} → Result c x ≡ Result d y → (c ≡ d) × (x ≡ y)
in_result e = (cc, cc)

roots : (r : Root) → same_root r r ≡ true
roots Main = refl
roots Isr = refl

-- bytes of one run are different ones
self_name : (root : Root) (copy size : ℕ) (byte : Byte) (n j k : ℕ) → IsIn root copy size byte n → behind byte j ≡ behind byte k → j ≡ k
self_name root copy size (Frame c offset) n j k h e = let f : offset + j ≡ offset + k = (in_frame e).1 in omega arith
self_name root copy size (Result r offset) n j k h e = let f : offset + j ≡ offset + k = (in_result e).1 in omega arith
self_name root copy size (Static object offset) n j k h e = absurd h
self_name root copy size (Device address) n j k h e = absurd h

apart_frames : (c d x y n m j k : ℕ) → (not (nat_eq c d) || (nat_le (x + n) y || nat_le (y + m) x)) ≡ true → j < n → k < m → c ≡ d → x + j ≡ y + k → ⊥
apart_frames c d x y n m j k e lj lk f h = grind (arith, nat_tests)

apart_results : (b : Bool) (x y n m j k : ℕ) → (not b || (nat_le (x + n) y || nat_le (y + m) x)) ≡ true → j < n → k < m → b ≡ true → x + j ≡ y + k → ⊥
apart_results true x y n m j k e lj lk f h = grind (arith, nat_tests)
apart_results false x y n m j k e lj lk f h = cc

-- runs that miss one another have no byte in common
other_name : (root : Root) (copy size : ℕ) (a b : Byte) (n m j k : ℕ) → IsIn root copy size a n → IsIn root copy size b m → misses a n b m ≡ true → j < n → k < m → behind a j ≡ behind b k → ⊥
other_name root copy size (Frame c x) (Frame d y) n m j k h i e lj lk f = apart_frames c d x y n m j k e lj lk (in_frame f).0 (in_frame f).1
other_name root copy size (Frame c x) (Result r y) n m j k h i e lj lk f = cc
other_name root copy size (Result r y) (Frame c x) n m j k h i e lj lk f = cc
other_name root copy size (Result r x) (Result q y) n m j k h i e lj lk f = apart_results (same_root r q) x y n m j k e lj lk (ap (same_root r) (sym (in_result f).0) ∙ roots r) (in_result f).1
other_name root copy size (Static object offset) b n m j k h i e lj lk f = absurd h
other_name root copy size (Device address) b n m j k h i e lj lk f = absurd h
other_name root copy size a (Static object offset) n m j k h i e lj lk f = absurd i
other_name root copy size a (Device address) n m j k h i e lj lk f = absurd i

both : (a b : Bool) → (a && b) ≡ true → (a ≡ true) × (b ≡ true)
both true b e = (refl, e)
both false b e = absurd (cc)

root_same : (r q : Root) → same_root r q ≡ true → r ≡ q
root_same Main Main e = refl
root_same Main Isr e = absurd (cc)
root_same Isr Main e = absurd (cc)
root_same Isr Isr e = refl

pub same_is : (root : Root) (copy size : ℕ) (a b : Byte) (n m : ℕ) → IsIn root copy size a n → IsIn root copy size b m → same_byte a b ≡ true → a ≡ b
same_is root copy size (Frame c x) (Frame d y) n m h i e =
    let k = both (nat_eq c d) (nat_eq x y) e in ap (λ (z : ℕ). Frame z x) (eqb-true c d k.0) ∙ ap (λ (z : ℕ). Frame d z) (eqb-true x y k.1)
same_is root copy size (Frame c x) (Result r y) n m h i e = absurd (cc)
same_is root copy size (Result r y) (Frame c x) n m h i e = absurd (cc)
same_is root copy size (Result r x) (Result q y) n m h i e =
    let k = both (same_root r q) (nat_eq x y) e in ap (λ (z : Root). Result z x) (root_same r q k.0) ∙ ap (λ (z : ℕ). Result q z) (eqb-true x y k.1)
same_is root copy size (Static object offset) b n m h i e = absurd h
same_is root copy size (Device address) b n m h i e = absurd h
same_is root copy size a (Static object offset) n m h i e = absurd i
same_is root copy size a (Device address) n m h i e = absurd i

-- bytes k of two runs are one byte where the first ones are
pub same_further : (root : Root) (copy size : ℕ) (a b : Byte) (n k : ℕ) → IsIn root copy size a n → IsIn root copy size b n → same_byte (behind a k) (behind b k) ≡ same_byte a b
same_further root copy size (Frame c x) (Frame d y) n k h i = ap (λ e. nat_eq c d && e) (shift x y k)
  where
    shift : (x y k : ℕ) → nat_eq (x + k) (y + k) ≡ nat_eq x y
    shift x y k = grind (arith, nat_tests)
same_further root copy size (Frame c x) (Result r y) n k h i = refl
same_further root copy size (Result r y) (Frame c x) n k h i = refl
same_further root copy size (Result r x) (Result q y) n k h i = ap (λ e. same_root r q && e) (shift x y k)
  where
    shift : (x y k : ℕ) → nat_eq (x + k) (y + k) ≡ nat_eq x y
    shift x y k = grind (arith, nat_tests)
same_further root copy size (Static object offset) b n k h i = absurd h
same_further root copy size (Device address) b n k h i = absurd h
same_further root copy size a (Static object offset) n k h i = absurd i
same_further root copy size a (Device address) n k h i = absurd i

-- ---- where code stands
module _ (g : Setting) (inside : Bool) (copy size : ℕ) (own : OwnsBytes g inside copy size) where
  abbrev pub Own : Byte → Type 0
  Own = IsOwnOne inside copy size

  abbrev pub at : Byte → ℕ
  at = number_at g.program.layout

  abbrev pub In : Byte → ℕ → Type 0
  In byte n = IsIn (root_of inside) copy size byte n

  abbrev pub spot : Byte → ℕ → ℕ
  spot byte k = number_at g.program.layout (behind byte k)

  pub lies : (byte : Byte) (n : ℕ) → 0 < n → In byte n → Lies Own at byte n
  lies byte n lt h = record {
    front = fewer (root_of inside) copy size byte n 1 h (omega arith);
    there = λ k l. subst (λ (b : Byte). Own b) (sym (behind_is g inside copy size own byte n k h l)) (one_of (root_of inside) copy size byte n k h l);
    zero = ap at (behind_zero (root_of inside) copy size byte n h);
    more = λ k l. ap at (behind_is g inside copy size own byte n k h l);
    clear = λ k l. clears (root_of inside) copy size byte n k h;
  }

  named : (a b : Byte) (n m j k : ℕ) → In a n → In b m → j < n → k < m → spot a j ≡ spot b k → behind a j ≡ behind b k
  named a b n m j k h i lj lk e = same_name g inside copy size own (behind a j) (behind b k) (one_of (root_of inside) copy size a n j h lj) (one_of (root_of inside) copy size b m k i lk) e

  pub distinct : (byte : Byte) (n : ℕ) → In byte n → AreDistinct n (spot byte)
  distinct byte n h j k lt lk e = let f : j ≡ k = self_name (root_of inside) copy size byte n j k h (named byte byte n n j k h h (omega arith) lk e) in omega arith

  pub missed : (a b : Byte) (n m : ℕ) → In a n → In b m → misses a n b m ≡ true → (j k : ℕ) → j < n → k < m → spot a j ≡ spot b k → ⊥
  missed a b n m h i e j k lj lk f = other_name (root_of inside) copy size a b n m j k h i e lj lk (named a b n m j k h i lj lk f)

  -- a write of one run spoils no later byte of the other
  pub either_apart : (a b : Byte) (n : ℕ) → In a n → In b n → is_same_or_misses n a b ≡ true → Apart n (spot a) (spot b)
  either_apart a b n h i e = by (same_byte a b) refl e
    where
      by : (c : Bool) → same_byte a b ≡ c → (c || misses a n b n) ≡ true → Apart n (spot a) (spot b)
      by true s f = λ j k lt lk x. distinct b n i j k lt lk (ap (λ (y : Byte). spot y j) (sym (same_is (root_of inside) copy size a b n n h i s)) ∙ x)
      by false s f = λ j k lt lk x. missed a b n n h i f j k (omega arith) lk x

  module _ (price : BlockName → ℕ → ℕ) (block : BlockName) (i : ℕ) (s : Scene) where
    abbrev pub begin : Machine
    begin = going s.thread.registers s.memory

    pub fine : (list : List code.Sym) → Begins g block i list s → Fine begin
    fine list b = record { going = refl; carry = b.registers.flags.2; zero = b.registers.flags.0; bytes = b.bytes }

    -- from what the code does over bytes by number
    pub runs : (list : List code.Sym) (ys : List Sym) → Begins g block i list s → Means Own at list ys → (run.run ys begin).mode ≡ Going → Along g price inside block i list s (run.run ys begin)
    runs list ys b m goes =
        subst (λ (zs : List Sym). Along g price inside block i list s (run.run zs begin)) m.same
        (along g price inside Own block i list s (own_quiet g inside copy size own) m.straight b (subst (λ (zs : List Sym). (run.run zs begin).mode ≡ Going) (sym m.same) goes))

    pub computes : (list : List code.Sym) (ys : List Sym) (to : Byte) (w answer : ℕ) → Begins g block i list s → Means Own at list ys → Fine (run.run ys begin) →
        val (λ j. (run.run ys begin).memory (spot to j)) w ≡ answer → ((a : ℕ) → ((j : ℕ) → j < w → a ≡ spot to j → ⊥) → (run.run ys begin).memory a ≡ s.memory a) → Computes g price inside block i list to w answer s
    computes list ys to w answer b m ok is others =
        let h : Along g price inside block i list s (run.run ys begin) = runs list ys b m ok.going in
        record {
          passes = h.passes;
          bytes = λ k lt. ap (λ (y : Memory). y (spot to k)) h.memory ∙ sym (byte_back (λ j. (run.run ys begin).memory (spot to j)) w k lt (λ j l. ok.bytes (spot to j))) ∙ ap (λ n. byte_at n k) is;
          others = λ n no. ap (λ (y : Memory). y n) h.memory ∙ others n no;
        }

-- byte k behind another one behind one
pub twice : (g : Setting) (inside : Bool) (copy size : ℕ) → OwnsBytes g inside copy size → (byte : Byte) (n a k : ℕ) → IsIn (root_of inside) copy size byte n → a + k < n → byte_behind (byte_behind byte a) k ≡ behind byte (a + k)
twice g inside copy size own (Frame c offset) n a k h lt =
    let s : size < 256 = whole_small (frame g.program.layout copy).address size own.whole in
    let b : offset + n ≤ size = h.1 in
    ap (λ (x : ℕ). Frame c (min (x + k) 65535)) (min_small (offset + a) 65535 (omega arith)) ∙ ap (λ (x : ℕ). Frame c x) (min_small (offset + a + k) 65535 (omega arith) ∙ omega arith)
twice g inside copy size own (Result root offset) n a k h lt =
    let b : offset + n ≤ 4 = h.1 in
    ap (λ (x : ℕ). Result root (min (x + k) 255)) (min_small (offset + a) 255 (omega arith)) ∙ ap (λ (x : ℕ). Result root x) (min_small (offset + a + k) 255 (omega arith) ∙ omega arith)
twice g inside copy size own (Static object offset) n a k h lt = absurd h
twice g inside copy size own (Device address) n a k h lt = absurd h

clears_twice : (root : Root) (copy size : ℕ) (byte : Byte) (n a k : ℕ) → IsIn root copy size byte n → is_clearable (byte_behind (byte_behind byte a) k) ≡ true
clears_twice root copy size (Frame c offset) n a k h = refl
clears_twice root copy size (Result r offset) n a k h = refl
clears_twice root copy size (Static object offset) n a k h = absurd h
clears_twice root copy size (Device address) n a k h = absurd h

-- the bytes from one on that stands behind another one
pub record Behind (P : Byte → Type 0) (at : Byte → ℕ) (byte : Byte) (a : ℕ) (spot : ℕ → ℕ) (k : ℕ) : Type 0 where
  pub own : P (byte_behind (byte_behind byte a) k)
  pub is : at (byte_behind (byte_behind byte a) k) ≡ spot (a + k)
  pub clear : is_clearable (byte_behind (byte_behind byte a) k) ≡ true

pub from_behind : (g : Setting) (inside : Bool) (copy size : ℕ) → OwnsBytes g inside copy size → (byte : Byte) (n a k : ℕ) → IsIn (root_of inside) copy size byte n → a + k < n →
    Behind (IsOwnOne inside copy size) (number_at g.program.layout) byte a (λ j. number_at g.program.layout (behind byte j)) k
from_behind g inside copy size own byte n a k h lt = record {
  own = subst (λ (b : Byte). IsOwnOne inside copy size b) (sym (twice g inside copy size own byte n a k h lt)) (one_of (root_of inside) copy size byte n (a + k) h lt);
  is = ap (number_at g.program.layout) (twice g inside copy size own byte n a k h lt);
  clear = clears_twice (root_of inside) copy size byte n a k h;
}
