-- Sums, differences, bit operations and comparisons, where their code stands.
use Rattle.std.proofs.Common.{◌≡◌, ℕ, ◌+◌, ◌-◌, ◌%◌, ◌^◌, ◌<◌, Bool, true, false, List, refl, ap, sym, ◌∙◌, subst, arith}
use Rattle.std.specs.Prelude.{◌&&◌, ◌||◌, if◌then◌else◌}
use Rattle.c_ints.specs.Range.{bytes_of, span}
use Rattle.c_ints.specs.declared.operators.BinOp.{BinOp}
use Rattle.c_ints.specs.declared.operators.BinOp.TheVariants as ops
use Rattle.c_ints.specs.declared.types.IntTy.{IntTy}
use Rattle.core_code.specs.Bytes.{behind, same_byte, misses, is_same_or_misses}
use Rattle.core_code.specs.declared.code.Byte.{Byte}
use Rattle.select_code.specs.Pieces.{byte_behind}
use Rattle.select_wide.specs.Sums as sums
use Rattle.select_wide.specs.declared.operands.Chain.{Chain}
use Rattle.select_wide.specs.declared.operands.Chain.TheVariants.{Sum, Difference}
use Rattle.sym_code.specs.Effect.{Setting, Memory, root_of}
use Rattle.sym_code.specs.Quiet.{Scene}
use Rattle.sym_code.specs.declared.code.BlockName.{BlockName}
use Rattle.sym_code.specs.declared.code.Into.TheVariants.{File}
use Rattle.sym_code.specs.declared.code.Sym as code
use Rattle.select_trace.specs.Code as model
use Rattle.select_trace.specs.Ints.{IsValue}
use Rattle.select_trace.specs.Links.{Fine, Apart, AreBytes, Chained}
use Rattle.select_trace.specs.Operators.{number_from, Computes}
use Rattle.select_trace.specs.Run as run
use Rattle.select_trace.specs.Run.{Sym, Machine}
use Rattle.select_trace.specs.Silent.{OwnsBytes, Begins}
use Rattle.select_trace.specs.Values.{val}
use Rattle.select_trace.proofs.Bitwise.{Bitwise, made_by, row_of, Made, made}
use Rattle.select_trace.proofs.Means as means
use Rattle.select_trace.proofs.Means.{Means, Lies}
use Rattle.select_trace.proofs.Meanings as meanings
use Rattle.select_trace.proofs.Meanings.{chain_of}
use Rattle.select_trace.proofs.Operators.{Fits, bound, sum_is, difference_is, in_place_chained, apart_chained}
use Rattle.select_trace.proofs.OwnByteSites as sites
use Rattle.select_trace.proofs.OperatorValues.{add_value, sub_value}
use Rattle.select_trace.proofs.Vals.{val_below}

wide : (ty : IntTy) (w : ℕ) → Fits ty w → 0 < w
wide ty w e = subst (λ (x : ℕ). 0 < x) (sym e) (at ty)
  where
    at : (ty : IntTy) → 0 < bytes_of ty
    at ty = grind arith

by_or : (a b : Bool) → a ≡ false → (a || b) ≡ true → b ≡ true
by_or true b e f = absurd (cc)
by_or false b e f = f

module _ (g : Setting) (inside : Bool) (copy size : ℕ) (own : OwnsBytes g inside copy size) (price : BlockName → ℕ → ℕ) (block : BlockName) (i : ℕ) (s : Scene) where
  abbrev P : Byte → Type 0
  P = sites.Own g inside copy size own

  abbrev at : Byte → ℕ
  at = sites.at g inside copy size own

  abbrev pub In : Byte → ℕ → Type 0
  In = sites.In g inside copy size own

  abbrev spot : Byte → ℕ → ℕ
  spot = sites.spot g inside copy size own

  abbrev begin : Machine
  begin = sites.begin g inside copy size own price block i s

  abbrev pub num : Byte → ℕ → ℕ
  num byte w = number_from g.program.layout s.memory byte w

  -- the code gives a value of the operator
  pub record Valued (list : List code.Sym) (to : Byte) (w : ℕ) (op : BinOp) (ty : IntTy) (l r : ℕ) : Type 0 where
    pub answer : ℕ
    pub computes : Computes g price inside block i list to w answer s
    pub value : IsValue op ty l r answer

  small : (ty : IntTy) (w : ℕ) → Fits ty w → (m : Memory) → AreBytes m → (byte : Byte) → val (λ j. m (spot byte j)) w < span ty
  small ty w e m ok byte = subst (λ (x : ℕ). val (λ j. m (spot byte j)) w < x) (bound ty w e) (val_below (λ j. m (spot byte j)) w (λ j l. ok (spot byte j)))

  -- what no byte of a run is, no byte of the same run by another name is
  renamed : (a b : Byte) (w n : ℕ) → a ≡ b → ((j : ℕ) → j < w → n ≡ spot a j → ⊥) → (j : ℕ) → j < w → n ≡ spot b j → ⊥
  renamed a b w n e = subst (λ (x : Byte). (j : ℕ) → j < w → n ≡ spot x j → ⊥) e

  -- ---- chains
  pub chain_in : (chain : Chain) (to left right : Byte) (w : ℕ) → 0 < w → In left w → In right w → same_byte to left ≡ true → Means P at (sums.chain_code chain to left right w) (model.rising (model.link_code (chain_of chain) (spot left) (spot right) File) w)
  chain_in chain to left right w lt hl hr e =
      means.each P at (sums.chain_byte_code chain to left right) (model.link_code (chain_of chain) (spot left) (spot right) File) w
      (λ k l. subst (λ (b : Bool). Means P at (if b then sums.link_code chain left right File k else sums.apart_code chain to left right k) (model.link_code (chain_of chain) (spot left) (spot right) File k)) (sym e)
      (meanings.link P at chain left right File w (sites.lies g inside copy size own left w lt hl) (sites.lies g inside copy size own right w lt hr) k l))

  pub chain_out : (chain : Chain) (to left right : Byte) (w : ℕ) → 0 < w → In to w → In left w → In right w → same_byte to left ≡ false → Means P at (sums.chain_code chain to left right w) (model.rising (model.apart_code (chain_of chain) (spot to) (spot left) (spot right)) w)
  chain_out chain to left right w lt ht hl hr e =
      means.each P at (sums.chain_byte_code chain to left right) (model.apart_code (chain_of chain) (spot to) (spot left) (spot right)) w
      (λ k l. subst (λ (b : Bool). Means P at (if b then sums.link_code chain left right File k else sums.apart_code chain to left right k) (model.apart_code (chain_of chain) (spot to) (spot left) (spot right) k)) (sym e)
      (meanings.apart P at chain to left right w (sites.lies g inside copy size own to w lt ht) (sites.lies g inside copy size own left w lt hl) (sites.lies g inside copy size own right w lt hr) k l))

  -- what a chain comes to
  pub record Chains (chain : Chain) (to left right : Byte) (w : ℕ) : Type 0 where
    pub end : Machine
    pub chained : Chained (chain_of chain) s.memory end (spot to) (spot left) (spot right) w
    pub computes : Computes g price inside block i (sums.chain_code chain to left right w) to w (val (λ j. end.memory (spot to j)) w) s

  -- The operand on the right isn't where the value goes, or the one on the left is there too.
  chain_runs : (chain : Chain) (to left right : Byte) (w : ℕ) → 0 < w → In to w → In left w → In right w → is_same_or_misses w to left ≡ true →
      (same_byte to left ≡ true → Apart w (spot left) (spot right)) → (same_byte to left ≡ false → misses to w right w ≡ true) →
      Begins g block i (sums.chain_code chain to left right w) s → Chains chain to left right w
  chain_runs chain to left right w lt ht hl hr fits here there b = by (same_byte to left) refl
    where
      ok : Fine begin
      ok = sites.fine g inside copy size own price block i s (sums.chain_code chain to left right w) b

      by : (c : Bool) → same_byte to left ≡ c → Chains chain to left right w
      by true e =
          let ys : List Sym = model.rising (model.link_code (chain_of chain) (spot left) (spot right) File) w in
          let same : to ≡ left = sites.same_is (root_of inside) copy size to left w w ht hl e in
          let u : Machine = run.run ys begin in
          let h : Chained (chain_of chain) s.memory u (spot left) (spot left) (spot right) w = in_place_chained (chain_of chain) (spot left) (spot right) w (sites.distinct g inside copy size own left w hl) (here e) begin ok in
          let k : Chained (chain_of chain) s.memory u (spot to) (spot left) (spot right) w = subst (λ (x : Byte). Chained (chain_of chain) s.memory u (spot x) (spot left) (spot right) w) (sym same) h in
          record {
            end = u;
            chained = k;
            computes = sites.computes g inside copy size own price block i s (sums.chain_code chain to left right w) ys to w _ b (chain_in chain to left right w lt hl hr e) k.fine refl k.others;
          }
      by false e =
          let ys : List Sym = model.rising (model.apart_code (chain_of chain) (spot to) (spot left) (spot right)) w in
          let u : Machine = run.run ys begin in
          let misses_left : misses to w left w ≡ true = by_or (same_byte to left) (misses to w left w) e fits in
          let k : Chained (chain_of chain) s.memory u (spot to) (spot left) (spot right) w =
          apart_chained (chain_of chain) (spot to) (spot left) (spot right) w (sites.distinct g inside copy size own to w ht)
          (λ j n lj ln x. sites.missed g inside copy size own to left w w ht hl misses_left j n (omega arith) ln x)
          (λ j n lj ln x. sites.missed g inside copy size own to right w w ht hr (there e) j n (omega arith) ln x)
          (λ n ln ps x. sites.missed g inside copy size own to right w w ht hr (there e) n n ln ln x) begin ok in
          record {
            end = u;
            chained = k;
            computes = sites.computes g inside copy size own price block i s (sums.chain_code chain to left right w) ys to w _ b (chain_out chain to left right w lt ht hl hr e) k.fine refl k.others;
          }

  both : (a b : Bool) → (a && b) ≡ true → (a ≡ true) × (b ≡ true)
  both true b e = (refl, e)
  both false b e = absurd (cc)

  -- the code by another name
  told_again : (list other : List code.Sym) (to : Byte) (w : ℕ) (op : BinOp) (ty : IntTy) (l r : ℕ) → list ≡ other → Valued list to w op ty l r → Valued other to w op ty l r
  told_again list other to w op ty l r e h = subst (λ (x : List code.Sym). Valued x to w op ty l r) e h

  add_sides : (ty : IntTy) (l r a : ℕ) → l < span ty → r < span ty → a ≡ (r + l) % span ty → IsValue ops.Add ty l r a
  add_sides ty l r a ll rl e = add_value ty l r a ll rl (e ∙ ap (λ x. x % span ty) (turned r l))
    where
      turned : (r l : ℕ) → r + l ≡ l + r
      turned r l = omega arith

  pub sum : (ty : IntTy) (to left right : Byte) (w : ℕ) → Fits ty w → In to w → In left w → In right w → (is_same_or_misses w to left && is_same_or_misses w to right) ≡ true →
      Begins g block i (sums.sum_code to left right w) s → Valued (sums.sum_code to left right w) to w ops.Add ty (num left w) (num right w)
  sum ty to left right w e ht hl hr fits b = by (same_byte to right) refl
    where
      lt : 0 < w
      lt = wide ty w e

      f : (is_same_or_misses w to left ≡ true) × (is_same_or_misses w to right ≡ true)
      f = both (is_same_or_misses w to left) (is_same_or_misses w to right) fits

      power : 256 ^ w ≡ span ty
      power = bound ty w e

      by : (c : Bool) → same_byte to right ≡ c → Valued (sums.sum_code to left right w) to w ops.Add ty (num left w) (num right w)
      by true x =
          let is : sums.sum_code to left right w ≡ sums.chain_code Sum to right left w = ap (λ c. if c then sums.chain_code Sum to right left w else sums.chain_code Sum to left right w) x in
          let same : to ≡ right = sites.same_is (root_of inside) copy size to right w w ht hr x in
          let h : Chains Sum to right left w = chain_runs Sum to right left w lt ht hr hl f.1
          (λ y. subst (λ (z : Byte). Apart w (spot z) (spot left)) same (sites.either_apart g inside copy size own to left w ht hl f.0))
          (λ y. absurd (let z : true ≡ false = sym x ∙ y in cc)) (subst (λ (z : List code.Sym). Begins g block i z s) is b) in
          told_again (sums.chain_code Sum to right left w) (sums.sum_code to left right w) to w ops.Add ty (num left w) (num right w) (sym is) (record {
            answer = val (λ j. h.end.memory (spot to j)) w;
            computes = h.computes;
            value = add_sides ty (num left w) (num right w) _ (small ty w e s.memory b.bytes left) (small ty w e s.memory b.bytes right)
                ((sum_is s.memory h.end (spot to) (spot right) (spot left) w lt h.chained).0 ∙ ap (λ y. (num right w + num left w) % y) power);
          })
      by false x =
          let is : sums.sum_code to left right w ≡ sums.chain_code Sum to left right w = ap (λ c. if c then sums.chain_code Sum to right left w else sums.chain_code Sum to left right w) x in
          let h : Chains Sum to left right w = chain_runs Sum to left right w lt ht hl hr f.0
          (λ y. subst (λ (z : Byte). Apart w (spot z) (spot right)) (sites.same_is (root_of inside) copy size to left w w ht hl y) (sites.either_apart g inside copy size own to right w ht hr f.1))
          (λ y. by_or (same_byte to right) (misses to w right w) x f.1) (subst (λ (z : List code.Sym). Begins g block i z s) is b) in
          told_again (sums.chain_code Sum to left right w) (sums.sum_code to left right w) to w ops.Add ty (num left w) (num right w) (sym is) (record {
            answer = val (λ j. h.end.memory (spot to j)) w;
            computes = h.computes;
            value = add_value ty (num left w) (num right w) _ (small ty w e s.memory b.bytes left) (small ty w e s.memory b.bytes right)
                ((sum_is s.memory h.end (spot to) (spot left) (spot right) w lt h.chained).0 ∙ ap (λ y. (num left w + num right w) % y) power);
          })

  pub difference : (ty : IntTy) (to left right : Byte) (w : ℕ) → Fits ty w → In to w → In left w → In right w →
      (is_same_or_misses w to left && (misses to w right w || (same_byte to left && same_byte to right))) ≡ true →
      Begins g block i (sums.chain_code Difference to left right w) s → Valued (sums.chain_code Difference to left right w) to w ops.Sub ty (num left w) (num right w)
  difference ty to left right w e ht hl hr fits b =
      let f = both (is_same_or_misses w to left) (misses to w right w || (same_byte to left && same_byte to right)) fits in
      let h : Chains Difference to left right w = chain_runs Difference to left right w (wide ty w e) ht hl hr f.0 (in_place f.1) (out_of_place f.1) b in
      record {
        answer = val (λ j. h.end.memory (spot to j)) w;
        computes = h.computes;
        value = sub_value ty (num left w) (num right w) _ (small ty w e s.memory b.bytes left) (small ty w e s.memory b.bytes right)
            ((difference_is s.memory h.end (spot to) (spot left) (spot right) w (wide ty w e) b.bytes h.chained).0 ∙ ap (λ y. (num left w + y - num right w) % y) (bound ty w e));
      }
    where
      in_place : (misses to w right w || (same_byte to left && same_byte to right)) ≡ true → same_byte to left ≡ true → Apart w (spot left) (spot right)
      in_place f y = by (misses to w right w) refl f
        where
          same : to ≡ left
          same = sites.same_is (root_of inside) copy size to left w w ht hl y

          by : (c : Bool) → misses to w right w ≡ c → (c || (same_byte to left && same_byte to right)) ≡ true → Apart w (spot left) (spot right)
          by true m f = subst (λ (z : Byte). Apart w (spot z) (spot right)) same (λ j n lj ln x. sites.missed g inside copy size own to right w w ht hr m j n (omega arith) ln x)
          by false m f =
              let z = both (same_byte to left) (same_byte to right) f in
              let r : left ≡ right = sym same ∙ sites.same_is (root_of inside) copy size to right w w ht hr z.1 in
              subst (λ (z : Byte). Apart w (spot left) (spot z)) r (sites.distinct g inside copy size own left w hl)

      out_of_place : (misses to w right w || (same_byte to left && same_byte to right)) ≡ true → same_byte to left ≡ false → misses to w right w ≡ true
      out_of_place f y = by (misses to w right w) f
        where
          by : (c : Bool) → (c || (same_byte to left && same_byte to right)) ≡ true → c ≡ true
          by true f = refl
          by false f = let z : (false && same_byte to right) ≡ true = ap (λ c. c && same_byte to right) (sym y) ∙ f in absurd (cc)

  -- ---- bit operations
  pub record Bits (op : Bitwise) (to left right : Byte) (w : ℕ) : Type 0 where
    pub answer : ℕ
    pub computes : Computes g price inside block i (sums.bits_code (row_of op) to left right w) to w answer s
    pub is : answer ≡ made_by op (num left w) (num right w)

  pub bits : (op : Bitwise) (to left right : Byte) (w : ℕ) → 0 < w → In to w → In left w → In right w → (is_same_or_misses w to left && is_same_or_misses w to right) ≡ true →
      Begins g block i (sums.bits_code (row_of op) to left right w) s → Bits op to left right w
  bits op to left right w lt ht hl hr fits b =
      let f = both (is_same_or_misses w to left) (is_same_or_misses w to right) fits in
      let ys : List Sym = model.bits_code (row_of op) (same_byte to left) (spot to) (spot left) (spot right) w in
      let h : Made op s.memory (run.run ys begin) (spot to) (spot left) (spot right) w =
      made op (same_byte to left) (spot to) (spot left) (spot right) w
      (λ k y. ap (λ (z : Byte). spot z k) (sites.same_is (root_of inside) copy size to left w w ht hl y))
      (sites.distinct g inside copy size own to w ht) (sites.either_apart g inside copy size own to left w ht hl f.0) (sites.either_apart g inside copy size own to right w ht hr f.1)
      begin (sites.fine g inside copy size own price block i s (sums.bits_code (row_of op) to left right w) b) w (omega arith) in
      let m : Means P at (sums.bits_code (row_of op) to left right w) ys =
      meanings.bits P at (row_of op) (same_byte to left) to left right w
      (λ k l. ap (λ (z : Byte). same_byte z (byte_behind left k)) (sites.behind_is g inside copy size own to w k ht l) ∙ ap (λ (z : Byte). same_byte (behind to k) z) (sites.behind_is g inside copy size own left w k hl l) ∙ sites.same_further (root_of inside) copy size to left w k ht hl)
      (sites.lies g inside copy size own to w lt ht) (sites.lies g inside copy size own left w lt hl) (sites.lies g inside copy size own right w lt hr) in
      record { answer = _; computes = sites.computes g inside copy size own price block i s (sums.bits_code (row_of op) to left right w) ys to w _ b m h.fine refl h.others; is = h.is }
