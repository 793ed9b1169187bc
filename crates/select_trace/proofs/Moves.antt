-- Copies and conversions, where their code stands.
use Rattle.std.proofs.Common.{◌≡◌, ℕ, zero, suc, ◌+◌, ◌-◌, ◌*◌, ◌/◌, ◌%◌, ◌^◌, ◌<◌, ◌≤◌, inl, inr, Bool, true, false, List, ◌++◌, refl, ap, sym, ◌∙◌, subst, arith, pos, ◌+ℤ◌}
use Rattle.std.specs.Prelude.{if◌then◌else◌}
use Rattle.std.proofs.Math.Nat.{pow-suc}
use Rattle.std.proofs.lemmas.Nat.{mod-mul-add}
use Rattle.std.proofs.lemmas.Bool.{cases_lt}
use Rattle.c_ints.specs.Range.{bytes_of, span, cut, pattern}
use Rattle.c_ints.specs.declared.types.IntTy.{IntTy}
use Rattle.core_code.specs.declared.code.Byte.{Byte}
use Rattle.select_code.specs.Pieces.{byte_behind}
use Rattle.select_wide.specs.Moves.{copies_code, stores_code, clears_code}
use Rattle.select_wide.specs.Pieces as wide
use Rattle.select_wide.specs.Single.{is_signed, widening_code}
use Rattle.sym_code.specs.Effect.{Setting, Memory}
use Rattle.sym_code.specs.Quiet.{Scene}
use Rattle.sym_code.specs.declared.code.BlockName.{BlockName}
use Rattle.sym_code.specs.declared.code.Sym as code
use Rattle.select_trace.specs.Code as model
use Rattle.select_trace.specs.Copies.{Copied}
use Rattle.select_trace.specs.Links.{Fine}
use Rattle.select_trace.specs.Operators.{number_from, Computes, CopiesRun, ConvertRuns}
use Rattle.select_trace.specs.Run as run
use Rattle.select_trace.specs.Run.{Sym, Machine, Going, going}
use Rattle.select_trace.specs.Silent.{number_at, OwnsBytes, Begins}
use Rattle.select_trace.specs.Values.{val}
use Rattle.select_trace.proofs.Copies.{copied}
use Rattle.select_trace.proofs.Fills.{val_split}
use Rattle.select_trace.proofs.Ints.{pattern_cut, pattern_of}
use Rattle.select_trace.proofs.Means as means
use Rattle.select_trace.proofs.Means.{Means, Lies}
use Rattle.select_trace.proofs.Operators.{bound}
use Rattle.select_trace.proofs.Passed.{Along, along}
use Rattle.select_trace.proofs.OwnByteSites as sites
use Rattle.select_trace.proofs.OwnByteSites.{Behind, from_behind}
use Rattle.select_trace.proofs.OperatorValues.{offset}
use Rattle.select_trace.proofs.Vals.{val_same, val_below}
use Rattle.select_trace.proofs.Widening.{Widened, widens_unsigned, widens_signed, widening_unsigned_value, widening_signed_value}

pub copies_run : CopiesRun
copies_run g price inside among block i s to from w quiet all apart b =
    let t : ℕ → ℕ = λ k. number_at g.program.layout (byte_behind to k) in
    let f : ℕ → ℕ = λ k. number_at g.program.layout (byte_behind from k) in
    let ok : Fine (going s.thread.registers s.memory) = record { going = refl; carry = b.registers.flags.2; zero = b.registers.flags.0; bytes = b.bytes } in
    let c : Copied s.memory (run.run (model.copies_code t f w) (going s.thread.registers s.memory)) t f w =
    copied t f w (λ j k lt lk e. (apart j k lt lk).0 e) (λ j k lt lk e. (apart j k lt lk).1 e) (going s.thread.registers s.memory) ok w (omega arith) in
    let m : Means (λ byte. among byte ≡ true) (number_at g.program.layout) (copies_code to from w) (model.copies_code t f w) =
    means.copies (λ byte. among byte ≡ true) (number_at g.program.layout) to from w t f (λ k lt. ((all k lt).0, refl, (all k lt).1, refl)) in
    let a : Along g price inside block i (copies_code to from w) s (run.run (model.copies_code t f w) (going s.thread.registers s.memory)) =
    subst (λ (zs : List Sym). Along g price inside block i (copies_code to from w) s (run.run zs (going s.thread.registers s.memory))) m.same
    (along g price inside (λ byte. among byte ≡ true) block i (copies_code to from w) s quiet m.straight b
    (subst (λ (zs : List Sym). (run.run zs (going s.thread.registers s.memory)).mode ≡ Going) (sym m.same) c.fine.going)) in
    record {
      passes = a.passes;
      bytes = λ k lt. ap (λ (x : Memory). x (t k)) a.memory ∙ c.copies k lt;
      others = λ n no. ap (λ (x : Memory). x n) a.memory ∙ c.others n no;
    }

-- ---- conversions
wide_bytes : (ty : IntTy) → 0 < bytes_of ty
wide_bytes ty = grind arith

-- more bytes hold more
powers : (a n : ℕ) → (q : ℕ) × (256 ^ (a + n) ≡ q * 256 ^ a) × (0 < q)
powers a zero = (1, ap (λ k. 256 ^ k) (let e : a + 0 ≡ a = omega arith in e) ∙ (omega arith), omega arith)
powers a (suc n) =
    let h = powers a n in
    let e : 256 ^ (a + suc n) ≡ 256 ^ (a + n) * 256 = ap (λ k. 256 ^ k) (let f : a + suc n ≡ suc (a + n) = omega arith in f) ∙ pow-suc 256 (a + n) in
    (h.0 * 256, e ∙ ap (λ x. x * 256) h.1 ∙ turned h.0 (256 ^ a), let p : 0 < h.0 = h.2 in omega arith)
  where
    turned : (q p : ℕ) → q * p * 256 ≡ q * 256 * p
    turned q p = omega arith

spans : (small large : IntTy) → bytes_of small ≤ bytes_of large → (q : ℕ) × (span large ≡ q * span small) × (0 < q)
spans small large le =
    let h = powers (bytes_of small) (bytes_of large - bytes_of small) in
    (h.0, sym (bound large (bytes_of large) refl) ∙ ap (λ k. 256 ^ k) (let e : bytes_of large ≡ bytes_of small + (bytes_of large - bytes_of small) = omega arith in e) ∙ h.1 ∙ ap (λ x. h.0 * x) (bound small (bytes_of small) refl), h.2)

span_le : (small large : IntTy) → bytes_of small ≤ bytes_of large → span small ≤ span large
span_le small large le = let h = spans small large le in put h.0 (span small) (span large) h.1 h.2
  where
    put : (q a b : ℕ) → b ≡ q * a → 0 < q → a ≤ b
    put q a b e lt = grind (arith, e)

-- the low bytes of a number are those of the narrower type
pub narrowed : (from to : IntTy) (f : ℕ → ℕ) → ((j : ℕ) → f j < 256) → bytes_of to ≤ bytes_of from → val f (bytes_of to) ≡ pattern to (cut to (cut from (pos (val f (bytes_of from)))))
narrowed from to f ok le =
    let n : ℕ = val f (bytes_of from) in
    let lt : val f (bytes_of from) < span from = subst (λ x. val f (bytes_of from) < x) (bound from (bytes_of from) refl) (val_below f (bytes_of from) (λ j l. ok j)) in
    let o = offset from (val f (bytes_of from)) lt in
    let q = spans to from le in
    let e : o.0 * span from ≡ o.0 * q.0 * span to = ap (λ x. o.0 * x) q.1 ∙ turned o.0 q.0 (span to) in
    let z : cut from (pos (val f (bytes_of from))) +ℤ pos (o.0 * q.0 * span to) ≡ pos (val f (bytes_of from)) = ap (λ x. cut from (pos (val f (bytes_of from))) +ℤ pos x) (sym e) ∙ o.1 in
    let p : pattern to (cut from (pos (val f (bytes_of from)))) ≡ val f (bytes_of from) % span to = pattern_of to (cut from (pos (val f (bytes_of from)))) (o.0 * q.0) (val f (bytes_of from)) z in
    let s : val f (bytes_of from) ≡ val f (bytes_of to) + 256 ^ bytes_of to * val (λ j. f (bytes_of to + j)) (bytes_of from - bytes_of to) =
    ap (val f) (let x : bytes_of from ≡ bytes_of to + (bytes_of from - bytes_of to) = omega arith in x) ∙ val_split f (bytes_of to) (bytes_of from - bytes_of to) in
    let m : val f (bytes_of from) % 256 ^ bytes_of to ≡ val f (bytes_of to) =
    ap (λ x. x % 256 ^ bytes_of to) (s ∙ swapped (val f (bytes_of to)) (256 ^ bytes_of to) (val (λ j. f (bytes_of to + j)) (bytes_of from - bytes_of to))) ∙ mod-mul-add (val (λ j. f (bytes_of to + j)) (bytes_of from - bytes_of to)) (256 ^ bytes_of to) (val f (bytes_of to)) (val_below f (bytes_of to) (λ j l. ok j)) in
    sym (pattern_cut to (cut from (pos (val f (bytes_of from)))) ∙ p ∙ ap (λ x. val f (bytes_of from) % x) (sym (bound to (bytes_of to) refl)) ∙ m)
  where
    turned : (a q s : ℕ) → a * (q * s) ≡ a * q * s
    turned a q s = omega arith

    swapped : (v p r : ℕ) → v + p * r ≡ r * p + v
    swapped v p r = omega arith

module _ (g : Setting) (price : BlockName → ℕ → ℕ) (inside : Bool) (copy size : ℕ) (own : OwnsBytes g inside copy size) (block : BlockName) (i : ℕ) (s : Scene) where
  abbrev P : Byte → Type 0
  P = sites.Own g inside copy size own

  abbrev at : Byte → ℕ
  at = sites.at g inside copy size own

  abbrev In : Byte → ℕ → Type 0
  In = sites.In g inside copy size own

  abbrev spot : Byte → ℕ → ℕ
  spot = sites.spot g inside copy size own

  abbrev begin : Machine
  begin = sites.begin g inside copy size own price block i s

  -- the code over bytes by number
  abbrev pub widened_code : Bool → Byte → ℕ → ℕ → List Sym
  widened_code signed byte from more = if signed then model.sign_code (spot byte (from - 1)) ++ model.stores_code (model.behind (spot byte) from) more else model.clears_code true (model.behind (spot byte) from) more

  abbrev pub real_code : Bool → Byte → ℕ → ℕ → List code.Sym
  real_code signed byte from more = if signed then wide.sign_code (byte_behind byte (from - 1)) ++ stores_code (byte_behind byte from) more else clears_code (byte_behind byte from) more

  pub means_widened : (signed : Bool) (byte : Byte) (from more : ℕ) → 0 < from → In byte (from + more) → Means P at (real_code signed byte from more) (widened_code signed byte from more)
  means_widened signed byte from more lt h =
      means.either P at signed _ _ _ _
      (means.joined P at _ _ _ _
      (means.sign P at (byte_behind byte (from - 1)) (spot byte (from - 1)) (l.there (from - 1) (omega arith)) (l.more (from - 1) (omega arith)))
      (means.stores P at (byte_behind byte from) more (model.behind (spot byte) from) (λ k lk. let x = b k lk in (x.own, x.is))))
      (means.clears P at (byte_behind byte from) more (model.behind (spot byte) from) (λ k lk. let x = b k lk in (x.own, x.is, x.clear)))
    where
      l : Lies P at byte (from + more)
      l = sites.lies g inside copy size own byte (from + more) (omega arith) h

      b : (k : ℕ) → k < more → Behind P at byte from (spot byte) k
      b k lk = from_behind g inside copy size own byte (from + more) from k h (omega arith)

  -- what it does
  pub record Widens (signed : Bool) (byte : Byte) (from more : ℕ) : Type 0 where
    pub sign : ℕ
    pub plain : signed ≡ false → sign ≡ 0
    pub top : signed ≡ true → sign ≡ s.memory (spot byte (from - 1)) / 128
    pub widened : Widened begin (run.run (widened_code signed byte from more) begin) (spot byte) from more sign

  widens : (signed : Bool) (byte : Byte) (from more : ℕ) → In byte (from + more) → Fine begin → Widens signed byte from more
  widens true byte from more h ok = record { sign = s.memory (spot byte (from - 1)) / 128; plain = λ e. absurd (cc); top = λ e. refl; widened = widens_signed (spot byte) from more (sites.distinct g inside copy size own byte (from + more) h) begin ok }
  widens false byte from more h ok = record { sign = 0; plain = λ e. refl; top = λ e. absurd (cc); widened = widens_unsigned true (spot byte) from more (sites.distinct g inside copy size own byte (from + more) h) begin ok }

  abbrev Converts : IntTy → IntTy → Byte → Type 0
  Converts from to byte = Computes g price inside block i (widening_code from to byte) byte (bytes_of to) (pattern to (cut to (cut from (pos (number_from g.program.layout s.memory byte (bytes_of from)))))) s

  wider : (from to : IntTy) (byte : Byte) → bytes_of from ≤ bytes_of to → In byte (bytes_of to) → Begins g block i (widening_code from to byte) s → Converts from to byte
  wider from to byte le h b =
      let more : ℕ = bytes_of to - bytes_of from in
      let e : bytes_of from + (bytes_of to - bytes_of from) ≡ bytes_of to = omega arith in
      let h2 : In byte (bytes_of from + (bytes_of to - bytes_of from)) = subst (λ n. In byte n) (sym e) h in
      let ok : Fine begin = sites.fine g inside copy size own price block i s (widening_code from to byte) b in
      let k : Widens (is_signed from) byte (bytes_of from) (bytes_of to - bytes_of from) = widens (is_signed from) byte (bytes_of from) (bytes_of to - bytes_of from) h2 ok in
      let u : Machine = run.run (widened_code (is_signed from) byte (bytes_of from) (bytes_of to - bytes_of from)) begin in
      sites.computes g inside copy size own price block i s (widening_code from to byte) (widened_code (is_signed from) byte (bytes_of from) (bytes_of to - bytes_of from)) byte (bytes_of to) _ b
      (means_widened (is_signed from) byte (bytes_of from) (bytes_of to - bytes_of from) (wide_bytes from) h2) k.widened.fine
      (ap (val (λ j. u.memory (spot byte j))) (sym e) ∙ by (is_signed from) refl k ok e ∙ sym (pattern_cut to (cut from (pos (number_from g.program.layout s.memory byte (bytes_of from))))))
      (λ a no. k.widened.others a (λ j lj. no (bytes_of from + j) (omega arith)))
    where
      by : (c : Bool) → is_signed from ≡ c → (k : Widens (is_signed from) byte (bytes_of from) (bytes_of to - bytes_of from)) → Fine begin → bytes_of from + (bytes_of to - bytes_of from) ≡ bytes_of to →
          val (λ j. (run.run (widened_code (is_signed from) byte (bytes_of from) (bytes_of to - bytes_of from)) begin).memory (spot byte j)) (bytes_of from + (bytes_of to - bytes_of from)) ≡ pattern to (cut from (pos (number_from g.program.layout s.memory byte (bytes_of from))))
      by false e k ok f = widening_unsigned_value from to begin _ (spot byte) (bytes_of from) (bytes_of to - bytes_of from) e refl f (span_le from to le) ok (subst (λ (x : ℕ). Widened begin _ (spot byte) (bytes_of from) (bytes_of to - bytes_of from) x) (k.plain e) k.widened)
      by true e k ok f = widening_signed_value from to begin _ (spot byte) (bytes_of from) (bytes_of to - bytes_of from) e (wide_bytes from) refl f (span_le from to le) ok (subst (λ (x : ℕ). Widened begin _ (spot byte) (bytes_of from) (bytes_of to - bytes_of from) x) (k.top e) k.widened)

  narrower : (from to : IntTy) (byte : Byte) → bytes_of to ≤ bytes_of from → In byte (bytes_of from) → Begins g block i (widening_code from to byte) s → Converts from to byte
  narrower from to byte le h b =
      let z : bytes_of to - bytes_of from ≡ 0 = omega arith in
      let h2 : In byte (bytes_of from + (bytes_of to - bytes_of from)) = subst (λ n. In byte n) (let e : bytes_of from ≡ bytes_of from + (bytes_of to - bytes_of from) = omega arith in e) h in
      let ok : Fine begin = sites.fine g inside copy size own price block i s (widening_code from to byte) b in
      let k : Widens (is_signed from) byte (bytes_of from) (bytes_of to - bytes_of from) = widens (is_signed from) byte (bytes_of from) (bytes_of to - bytes_of from) h2 ok in
      let u : Machine = run.run (widened_code (is_signed from) byte (bytes_of from) (bytes_of to - bytes_of from)) begin in
      let same : (a : ℕ) → u.memory a ≡ s.memory a = λ a. k.widened.others a (λ j lj e. let f : j < 0 = subst (λ n. j < n) z lj in omega arith) in
      sites.computes g inside copy size own price block i s (widening_code from to byte) (widened_code (is_signed from) byte (bytes_of from) (bytes_of to - bytes_of from)) byte (bytes_of to) _ b
      (means_widened (is_signed from) byte (bytes_of from) (bytes_of to - bytes_of from) (wide_bytes from) h2) k.widened.fine
      (val_same (λ j. u.memory (spot byte j)) (λ j. s.memory (spot byte j)) (bytes_of to) (λ j l. same (spot byte j)) ∙ narrowed from to (λ j. s.memory (spot byte j)) (λ j. b.bytes (spot byte j)) le)
      (λ a no. same a)

pub convert_runs : ConvertRuns
convert_runs g price inside copy size block i s from to byte own h k b = elim (cases_lt (bytes_of from) (bytes_of to)) [
  | inl lt ↦ wider g price inside copy size own block i s from to byte (omega arith) k b
  | inr ge ↦ narrower g price inside copy size own block i s from to byte ge h b
]
