-- The test of a condition, instruction by instruction.
use Rattle.std.proofs.Common.{◌≡◌, ◌≢◌, ◌⊎◌, inl, inr, ℕ, zero, suc, ◌+◌, ◌<◌, ◌≤◌, Bool, true, false, not, nat_eq, List, [], ◌∷◌, ◌++◌, length, Option, Some, None, option_map, refl, sym, ap, ◌∙◌, subst, arith}
use Rattle.std.specs.Prelude.{bit_or}
use Rattle.std.proofs.lemmas.Nat.{or_lt}
use Rattle.pic_world.specs.Bits.{truth}
use Rattle.pic_world.specs.World.{World}
use Rattle.core_code.specs.Bytes as bytes
use Rattle.core_code.specs.Bytes.{Held, Part, Place, behind}
use Rattle.core_code.specs.Machine as core
use Rattle.core_code.specs.Machine.{is_own}
use Rattle.core_code.specs.Values.{number_in, pointer_in, pointer_if, truth_of, truth_in}
use Rattle.core_code.specs.declared.code.Byte.{Byte}
use Rattle.core_code.specs.declared.code.Byte.TheVariants.{Static, Frame, Result, Device}
use Rattle.pic_world.specs.Roots.{same_root}
use Rattle.sym_code.specs.Effect.{Memory, Quiet, effect_of, file_to_w, access_of, Silent, root_of}
use Rattle.sym_code.specs.Layout.{shown}
use Rattle.sym_code.specs.Machine.{Machine}
use Rattle.sym_code.specs.Programs.{Position, position}
use Rattle.sym_code.specs.Registers.{Registers, Fits, result_with, flags_with, skips_with}
use Rattle.sym_code.specs.declared.code.BlockName.TheVariants as names
use Rattle.sym_code.specs.declared.code.FileOperation.TheVariants.{Movf, Iorwf}
use Rattle.sym_code.specs.declared.code.Into.TheVariants as into
use Rattle.sym_code.specs.declared.code.Operand.{Operand}
use Rattle.sym_code.specs.declared.code.Operand.TheVariants as operands
use Rattle.sym_code.specs.declared.code.PlainOperation.TheVariants.{Clrw}
use Rattle.sym_code.specs.declared.code.Sym.{Sym}
use Rattle.sym_code.specs.declared.code.Sym.TheVariants as syms
use Rattle.select_code.specs.Pieces.{byte_behind, file_code, test_code, ors_code}
use Rattle.select_trace.proofs.Truths.{and_left, and_right, both, le_of, of_le, same_nat, nat_same, nat_other}
use Rattle.select_trace.proofs.Standing.{Has, has_front, has_back}
use Rattle.select_trace.proofs.Labels.{len_append}
use Rattle.select_trace.proofs.Placed.{slot}
use Rattle.select_trace.proofs.Sites.{Site, layout}
use Rattle.select_trace.proofs.Machines.{at, Calm}
use Rattle.select_trace.proofs.Live.{IsUser, is_live, below}
use Rattle.select_trace.proofs.Memory.{Shown, Agree, agrees_shown}
use Rattle.select_trace.proofs.Blocks.{block}
use Rattle.select_trace.proofs.Relation.{Went}
use Rattle.select_trace.proofs.Steps.{thread, total, word}
use Rattle.select_trace.proofs.Access.{Own, own_valid, own_access, loaded, loaded_fits, movf_silent, clrw_is}
use Rattle.select_trace.proofs.Tests.{pointer_parts, behind_none, own_part, own_behind, union, union_none, union_all, number_zero, pointer_address}

pub total_append : (s : Site) (f n : ℕ) (x y : List Sym) → total s f n (x ++ y) ≡ total s f n x + total s f (n + length x) y
total_append s f n [] y = let e : total s f n y ≡ total s f (n + 0) y = ap (λ k. total s f k y) (let q : n ≡ n + 0 = omega arith in q) in omega (arith, e)
total_append s f n (a ∷ x) y =
    let h = total_append s f (suc n) x y in
    let e : total s f (suc n + length x) y ≡ total s f (n + suc (length x)) y = ap (λ k. total s f k y) (let q : suc n + length x ≡ n + suc (length x) = omega arith in q) in
    omega (arith, h, e)

-- W and Z behind a byte that is joined to W
abbrev pub ored : Registers → ℕ → Registers
ored r x = record r { w = bit_or r.w x; z = truth (nat_eq (bit_or r.w x) 0) }

truth_small : (b : Bool) → truth b < 2
truth_small true = omega arith
truth_small false = omega arith

pub ored_fits : (r : Registers) (x : ℕ) → Fits r → x < 256 → Fits (ored r x)
ored_fits r x h lt = record { w = or_lt 8 r.w x h.w lt; flags = (truth_small (nat_eq (bit_or r.w x) 0), h.flags.1, h.flags.2); pointer = h.pointer; banks = h.banks; pages = h.pages }

cleared_fits : (r : Registers) → Fits r → Fits (record r { w = 0; z = 1 })
cleared_fits r h = record { w = omega arith; flags = (omega arith, h.flags.1, h.flags.2); pointer = h.pointer; banks = h.banks; pages = h.pages }

iorwf_silent : (s : Site) (i : Bool) (f n : ℕ) (ps : List Position) (r : Registers) (m : Memory) (x : Operand) (k : ℕ) → access_of s.g i false r x ≡ Silent k
    → effect_of s.g i (position (names.Copy f) n) (thread s f n ps r) m (syms.File Iorwf x into.W) ≡ Quiet (thread s f (n + 1) ps (ored r (m k))) None
unfolding effect_of result_with flags_with skips_with
iorwf_silent s i f n ps r m x k e = ap (file_to_w s.g.program (position (names.Copy f) n) (thread s f n ps r) m Iorwf) e

some_bool : (a b : Bool) → Some a ≡ Some b → a ≡ b
some_bool a b e = cc

no_bool : (b : Bool) → ◌≡◌ {A = Option Bool} None (Some b) → ⊥
no_bool b e = absurd (cc)

own_shorter : (s : Site) (f n : ℕ) (b : Byte) → is_own s.q f b (suc n) ≡ true → is_own s.q f b n ≡ true
unfolding is_own
own_shorter s f n (Frame c k) o = let l = le_of (k + suc n) (s.q.frame_bytes c) (and_right (nat_eq c f) _ o) in both _ _ (and_left _ _ o) (of_le (k + n) (s.q.frame_bytes c) (omega arith))
own_shorter s f n (Result r k) o = let l = le_of (k + suc n) 4 (and_right (same_root r (s.q.root f)) _ o) in both _ _ (and_left _ _ o) (of_le (k + n) 4 (omega arith))
own_shorter s f n (Static c k) o = absurd (cc)
own_shorter s f n (Device a) o = absurd (cc)

-- Z says whether the number or the pointer is null.
number_test : (o : Option ℕ) (holds : Bool) → option_map (λ n. not (nat_eq n 0)) o ≡ Some holds → (n : ℕ) × (o ≡ Some n) × (holds ≡ not (nat_eq n 0))
number_test None holds e = absurd (no_bool holds e)
number_test (Some n) holds e = (n, refl, sym (some_bool (not (nat_eq n 0)) holds e))

not_not : (b : Bool) → not (not b) ≡ b
not_not true = refl
not_not false = refl

pointer_is : (two : Bool) (cm : bytes.Memory) (test : Byte) (x : Place) → pointer_if two cm test ≡ Some x → (two ≡ true) × (pointer_in cm test ≡ Some x)
pointer_is true cm test x e = (refl, e)
pointer_is false cm test x e = absurd (none_place x e)
  where
    none_place : (x : Place) → ◌≡◌ {A = Option Place} None (Some x) → ⊥
    none_place x e = absurd (cc)

-- what the union of some bytes says of the value that they hold
tested : (s : Site) (cm : bytes.Memory) (test : Byte) (k : ℕ) (v : ℕ → ℕ) (holds : Bool) → ((j : ℕ) → j < suc k → Shown s (cm (behind test j)) (v j)) → truth_in cm test (suc k) ≡ Some holds → nat_eq (union v (v 0) k) 0 ≡ not holds
unfolding truth_in pointer_in shown
tested s cm test k v holds sh e = by_pointer (pointer_if (nat_eq (suc k) 2) cm test) refl e
  where
    numbers : (n : ℕ) → number_in cm test (suc k) ≡ Some n → nat_eq (union v (v 0) k) 0 ≡ nat_eq n 0
    numbers n q = by (number_zero s cm test (suc k) n v sh q)
      where
        by : ((n ≡ 0) × ((j : ℕ) → j < suc k → v j ≡ 0)) ⊎ ((n ≢ 0) × ((((j : ℕ) → j < suc k → v j ≡ 0)) → ⊥)) → nat_eq (union v (v 0) k) 0 ≡ nat_eq n 0
        by (inl h) = nat_same _ 0 (union_all v (v 0) k (h.1 0 (omega arith)) (λ j a b. h.1 j (omega arith))) ∙ sym (nat_same n 0 h.0)
        by (inr h) = nat_other _ 0 (λ z. let g = union_none v (v 0) k z in h.1 (λ j lt. each j lt g.0 g.1)) ∙ sym (nat_other n 0 h.0)
          where
            each : (j : ℕ) → j < suc k → v 0 ≡ 0 → ((i : ℕ) → 0 < i → i ≤ k → v i ≡ 0) → v j ≡ 0
            each zero lt a g = a
            each (suc j) lt a g = g (suc j) (omega arith) (omega arith)

    by_pointer : (o : Option Place) → pointer_if (nat_eq (suc k) 2) cm test ≡ o → truth_of o (number_in cm test (suc k)) ≡ Some holds → nat_eq (union v (v 0) k) 0 ≡ not holds
    by_pointer None q e =
        let n = number_test (number_in cm test (suc k)) holds e in
        numbers n.0 n.1 ∙ sym (not_not (nat_eq n.0 0)) ∙ ap not (sym n.2)
    by_pointer (Some x) q e =
        let p = pointer_is (nat_eq (suc k) 2) cm test x q in
        let k1 : suc k ≡ 2 = same_nat (suc k) 2 p.0 in
        let parts = pointer_parts (cm test) (cm (behind test 1)) x p.1 in
        let s0 : Shown s (Part x.object x.offset false) (v 0) = subst (λ h. Shown s h (v 0)) (ap cm (behind_none test) ∙ parts.0) (sh 0 (omega arith)) in
        let s1 : Shown s (Part x.object x.offset true) (v 1) = subst (λ h. Shown s h (v 1)) parts.1 (sh 1 (omega arith)) in
        let a = pointer_address s x.object x.offset false s0.1 in
        let a0 = a.0 in
        let a1 = a.1 in
        let e0 = s0.0 in
        let e1 = s1.0 in
        nat_other _ 0 (λ z. let g = union_none v (v 0) k z in let g0 = g.0 in let g1 : v 1 ≡ 0 = g.1 1 (omega arith) (omega arith) in
        omega (arith, a0, a1, e0, e1, g0, g1)) ∙ ap not (some_bool true holds e)

no_bytes : (cm : bytes.Memory) (test : Byte) (holds : Bool) → truth_in cm test 0 ≡ Some holds → false ≡ holds
unfolding truth_in
no_bytes cm test holds e = some_bool false holds e

module _ (s : Site) (t : Machine) (wc : World Held) (calm : Calm s wc) (f : ℕ) (u : IsUser s f) (ps : List Position) (root : s.q.root f ≡ root_of wc.inside) (m : Memory) (bytes_ok : (k : ℕ) → m k < 256) (d : core.Machine) where
  -- the byte so many places behind
  abbrev pub value : Byte → ℕ → ℕ
  value b j = m (slot (layout s) (behind b j))

  pub ors_goes : (test : Byte) (k n : ℕ) (r : Registers) (lo hi : ℕ) → Fits r → is_own s.q f test (suc k) ≡ true → Has (block s f) n (ors_code test k) → r.z ≡ truth (nat_eq r.w 0)
      → ((r' : Registers) → Fits r' → r'.w ≡ union (value test) r.w k → r'.z ≡ truth (nat_eq r'.w 0) → Went s (at s t (thread s f (n + length (ors_code test k)) ps r') m wc) d lo hi)
      → Went s (at s t (thread s f n ps r) m wc) d lo (total s f n (ors_code test k) + hi)
  ors_goes test zero n r lo hi fits own h z go =
      subst (λ k. Went s (at s t (thread s f k ps r) m wc) d lo (0 + hi)) (let e : n + 0 ≡ n = omega arith in e)
      (subst (λ k. Went s (at s t (thread s f (n + 0) ps r) m wc) d lo k) (let e : hi ≡ 0 + hi = omega arith in e) (go r fits refl z))
  ors_goes test (suc k) n r lo hi fits own h z go =
      let x = ors_code test k in
      let b = byte_behind test (suc k) in
      let y = file_code Iorwf b into.W in
      let o = own_part s f (suc (suc k)) (suc k) test own (omega arith) in
      let ob : b ≡ behind test (suc k) = own_behind s f u test (suc k) o in
      let a = access_at b (behind test (suc k)) ob o in
      let n' = n + length x in
      let hy = has_back (block s f) n x y h in
      let len : n + length (x ++ y) ≡ suc n' = (let q = len_append x y in omega (arith, q)) in
      let tot : total s f n (x ++ y) ≡ total s f n x + (s.price (names.Copy f) n' + 0) = total_append s f n x y in
      subst (λ v. Went s (at s t (thread s f n ps r) m wc) d lo v) (let e : total s f n x + (s.price (names.Copy f) n' + hi) ≡ total s f n (x ++ y) + hi = omega (arith, tot) in e)
      (ors_goes test k n r lo (s.price (names.Copy f) n' + hi) fits (own_shorter s f (suc k) test own) (has_front (block s f) n x y h) z (λ r' fr w zz.
      word s t wc calm f ps u n' r' m (syms.File Iorwf (operands.Byte b) into.W) (ored r' (value test (suc k))) None d lo hi hy.0 refl refl refl
      (iorwf_silent s wc.inside f n' ps r' m (operands.Byte b) (slot (layout s) (behind test (suc k))) (a r'))
      (subst (λ j. Went s (at s t (thread s f j ps (ored r' (value test (suc k)))) m wc) d lo hi) len
      (go (ored r' (value test (suc k))) (ored_fits r' (value test (suc k)) fr (bytes_ok (slot (layout s) (behind test (suc k))))) (ap (λ v. bit_or v (value test (suc k))) w) refl))))
    where
      access_at : (b c : Byte) → b ≡ c → Own s f c → (r' : Registers) → access_of s.g wc.inside false r' (operands.Byte b) ≡ Silent (slot (layout s) c)
      access_at b c e o r' = ap (λ z. access_of s.g wc.inside false r' (operands.Byte z)) e ∙ own_access s wc.inside false r' f u root c o

  pub test_goes : (cm : bytes.Memory) (l : ℕ → Bool) (pr : Option ℕ) (below : ℕ → Bool) → Agree s (is_live f pr below) cm m → (test : Byte) (size n : ℕ) (r : Registers) (lo hi : ℕ) (holds : Bool) → Fits r → is_own s.q f test size ≡ true
      → truth_in cm test size ≡ Some holds → Has (block s f) n (test_code test size)
      → ((r' : Registers) → Fits r' → r'.z ≡ truth (not holds) → Went s (at s t (thread s f (n + length (test_code test size)) ps r') m wc) d lo hi)
      → Went s (at s t (thread s f n ps r) m wc) d lo (total s f n (test_code test size) + hi)
  test_goes cm l pr below agree test zero n r lo hi holds fits own e h go =
      subst (λ k. Went s (at s t (thread s f n ps r) m wc) d lo k) (let q : s.price (names.Copy f) n + hi ≡ s.price (names.Copy f) n + 0 + hi = omega arith in q)
      (word s t wc calm f ps u n r m (syms.Plain Clrw) (record r { w = 0; z = 1 }) None d lo hi h.0 refl refl refl (clrw_is s wc.inside f n ps r m)
      (subst (λ k. Went s (at s t (thread s f k ps (record r { w = 0; z = 1 })) m wc) d lo hi) (let q : n + 1 ≡ suc n = omega arith in q)
      (go (record r { w = 0; z = 1 }) (cleared_fits r fits) (ap (λ b. truth (not b)) (no_bytes cm test holds e)))))
  test_goes cm l pr below agree test (suc k) n r lo hi holds fits own e h go =
      let v0 = value test 0 in
      let o = own_part s f (suc k) 0 test own (omega arith) in
      let a : access_of s.g wc.inside false r (operands.Byte test) ≡ Silent (slot (layout s) (behind test 0)) =
      ap (λ z. access_of s.g wc.inside false r (operands.Byte z)) (sym (behind_none test)) ∙ own_access s wc.inside false r f u root (behind test 0) o in
      let r1 = loaded s r v0 in
      let f1 = loaded_fits s r v0 fits (bytes_ok (slot (layout s) (behind test 0))) in
      let x = ors_code test k in
      let shows : (j : ℕ) → j < suc k → Shown s (cm (behind test j)) (value test j) = (λ j lt. agrees_shown s (behind test j) (cm (behind test j)) (value test j)
      (agree (behind test j) (own_valid s f pr below (behind test j) (own_part s f (suc k) j test own lt)))) in
      let z = tested s cm test k (value test) holds shows e in
      subst (λ w. Went s (at s t (thread s f n ps r) m wc) d lo w) (let q : s.price (names.Copy f) n + (total s f (suc n) x + hi) ≡ s.price (names.Copy f) n + total s f (suc n) x + hi = omega arith in q)
      (word s t wc calm f ps u n r m (syms.File Movf (operands.Byte test) into.W) r1 None d lo (total s f (suc n) x + hi) h.0 refl refl refl (movf_silent s wc.inside f n ps r m (operands.Byte test) (slot (layout s) (behind test 0)) a)
      (ors_goes test k (suc n) r1 lo hi f1 own h.1 refl (λ r' fr w zz.
      subst (λ j. Went s (at s t (thread s f j ps r') m wc) d lo hi) (let q : n + suc (length x) ≡ suc n + length x = omega arith in q)
      (go r' fr (zz ∙ ap (λ y. truth (nat_eq y 0)) w ∙ ap truth z)))))
