-- What the stores of the start block leave in the general bytes: each static object holds its first bytes.
use Rattle.std.proofs.Common.{◌≡◌, ◌≢◌, ℕ, zero, suc, ◌+◌, ◌<◌, ◌≤◌, Bool, true, false, List, [], ◌∷◌, ◌++◌, length, map, refl, sym, ap, ◌∙◌, subst, append_assoc, arith}
use Rattle.std.specs.Prelude.{not, if◌then◌else◌, nat_eq, slice_index, slice_index_or, slice_set, unwrap_or}
use Rattle.std.specs.Global.{Global}
use Rattle.std.specs.declared.vec.Vec.{Vec}
use Rattle.std.proofs.lemmas.Bool.{eqb-true}
use Rattle.std.proofs.lemmas.List.{get_or-set_same, get_or-set_other}
use Rattle.core_code.specs.Bytes.{Held, Unset}
use Rattle.core_code.specs.FirstBytes.{first_held}
use Rattle.core_code.specs.declared.code.Byte.{Byte}
use Rattle.core_code.specs.declared.code.Byte.TheVariants.{Static}
use Rattle.core_code.specs.declared.code.FirstByte.{FirstByte}
use Rattle.core_code.specs.declared.code.FirstByte.TheVariants as firsts
use Rattle.sym_code.specs.Effect.{literal_value}
use Rattle.sym_code.specs.Layout.{DataLayout, object, address_of, general_at, shown}
use Rattle.sym_code.specs.Selects.{is_select, bare}
use Rattle.sym_code.specs.declared.code.Operand.TheVariants as operands
use Rattle.sym_code.specs.declared.code.Sym.{Sym}
use Rattle.sym_code.specs.declared.code.Sym.TheVariants as syms
use Rattle.isr_save.specs.Start.{byte_code, object_code, objects_code}
use Rattle.chip_trace.specs.Starting.{held_in}

set_length : (xs : List ℕ) (k v : ℕ) → length (slice_set xs k v) ≡ length xs
set_length [] k v = refl
set_length (x ∷ xs) zero v = refl
set_length (x ∷ xs) (suc k) v = ap suc (set_length xs k v)

module _ (l : DataLayout) where
  -- ---- what one instruction makes of W and of the general bytes
  abbrev pub number_of : Byte → ℕ
  number_of b = unwrap_or (general_at (address_of l b)) 0

  abbrev pub w_after : Sym → ℕ → ℕ
  w_after (syms.Literal op v) w = literal_value l v
  w_after _ w = w

  abbrev pub ram_after : Sym → ℕ → List ℕ → List ℕ
  ram_after (syms.Movwf (operands.Byte b)) w ram = slice_set ram (number_of b) w
  ram_after (syms.Clrf (operands.Byte b)) w ram = slice_set ram (number_of b) 0
  ram_after _ w ram = ram

  abbrev pub ram_behind : List Sym → ℕ → List ℕ → List ℕ
  ram_behind [] w ram = ram
  ram_behind (x ∷ xs) w ram = ram_behind xs (w_after x w) (ram_after x w ram)

  -- ---- selects change neither
  select_same : (x : Sym) (w : ℕ) (ram : List ℕ) → is_select x ≡ true → (w_after x w ≡ w) × (ram_after x w ram ≡ ram)
  select_same (syms.SelectBank a b) w ram e = (refl, refl)
  select_same (syms.SelectPage a b) w ram e = (refl, refl)
  select_same (syms.Label a) w ram e = absurd (cc)
  select_same (syms.File a b c) w ram e = absurd (cc)
  select_same (syms.Movwf a) w ram e = absurd (cc)
  select_same (syms.Clrf a) w ram e = absurd (cc)
  select_same (syms.Bit a b c) w ram e = absurd (cc)
  select_same (syms.Literal a b) w ram e = absurd (cc)
  select_same (syms.Plain a) w ram e = absurd (cc)
  select_same (syms.Call a) w ram e = absurd (cc)
  select_same (syms.Goto a) w ram e = absurd (cc)
  select_same (syms.Table table root) w ram e = absurd (cc)

  bare_on : (x : Sym) (xs : List Sym) (w : ℕ) (ram : List ℕ) → ((w' : ℕ) (ram' : List ℕ) → ram_behind xs w' ram' ≡ ram_behind (bare xs) w' ram') → (b : Bool) → is_select x ≡ b
      → ram_behind (x ∷ xs) w ram ≡ ram_behind (bare (x ∷ xs)) w ram
  bare_on x xs w ram rest true e =
      let q = select_same x w ram e in
      ap (λ v. ram_behind xs v (ram_after x w ram)) q.0 ∙ ap (ram_behind xs w) q.1 ∙ rest w ram ∙ sym (ap (λ b. ram_behind (if not b then x ∷ bare xs else bare xs) w ram) e)
  bare_on x xs w ram rest false e = rest (w_after x w) (ram_after x w ram) ∙ sym (ap (λ b. ram_behind (if not b then x ∷ bare xs else bare xs) w ram) e)

  pub bare_ram : (xs : List Sym) (w : ℕ) (ram : List ℕ) → ram_behind xs w ram ≡ ram_behind (bare xs) w ram
  bare_ram [] w ram = refl
  bare_ram (x ∷ xs) w ram = bare_on x xs w ram (λ w' ram'. bare_ram xs w' ram') (is_select x) refl

  -- ---- one byte
  abbrev Puts : ℕ → ℕ → FirstByte → List Sym → ℕ → List ℕ → Type 0
  Puts n o f rest w ram = (w' : ℕ) × (ram_behind (byte_code (Static n o) f ++ rest) w ram ≡ ram_behind rest w' (slice_set ram (number_of (Static n o)) (shown l (first_held f))))

  puts_number : (n o v : ℕ) (rest : List Sym) (w : ℕ) (ram : List ℕ) (b : Bool) → nat_eq v 0 ≡ b → Puts n o (firsts.Number v) rest w ram
  unfolding shown
  puts_number n o v rest w ram true e =
      let z : 0 ≡ v = sym (eqb-true v 0 e) in
      let k = number_of (Static n o) in
      (w, rw e (ap (λ y. ram_behind rest w (slice_set ram k y)) z))
  puts_number n o v rest w ram false e = (v, rw e refl)

  puts : (n o : ℕ) (f : FirstByte) (rest : List Sym) (w : ℕ) (ram : List ℕ) → Puts n o f rest w ram
  unfolding shown
  puts n o (firsts.Number v) rest w ram = puts_number n o v rest w ram (nat_eq v 0) refl
  puts n o (firsts.Low a) rest w ram = (_, refl)
  puts n o (firsts.High a) rest w ram = (_, refl)

  -- ---- the bytes of an object, and of all
  module _ (small : (n o : ℕ) → o < (object l n).size → number_of (Static n o) < 368)
      (once : (n o m p : ℕ) → o < (object l n).size → p < (object l m).size → number_of (Static n o) ≡ number_of (Static m p) → (n ≡ m) × (o ≡ p)) where
    pub record Stored (n o : ℕ) (held : List Held) (code rest : List Sym) (w : ℕ) (ram : List ℕ) : Type 0 where
      pub w' : ℕ
      pub ram' : List ℕ
      pub same : ram_behind (code ++ rest) w ram ≡ ram_behind rest w' ram'
      pub count : length ram' ≡ 368
      pub holds : (j : ℕ) → j < length held → slice_index ram' (number_of (Static n (o + j))) ≡ shown l (slice_index_or held j Unset)
      pub keeps : (k : ℕ) → ((j : ℕ) → j < (object l n).size → o ≤ j → k ≢ number_of (Static n j)) → slice_index ram' k ≡ slice_index ram k

    stored_more : (n o : ℕ) (f : FirstByte) (fs : List FirstByte) (rest : List Sym) (w : ℕ) (ram : List ℕ) → length ram ≡ 368 → o + suc (length (map first_held fs)) ≤ (object l n).size
        → ((w1 : ℕ) (ram1 : List ℕ) → length ram1 ≡ 368 → Stored n (o + 1) (map first_held fs) (object_code n (o + 1) fs) rest w1 ram1)
        → Stored n o (map first_held (f ∷ fs)) (object_code n o (f ∷ fs)) rest w ram
    stored_more n o f fs rest w ram count le more =
        let p = puts n o f (object_code n (o + 1) fs ++ rest) w ram in
        let k0 = number_of (Static n o) in
        let ram1 = slice_set ram k0 (shown l (first_held f)) in
        let s = more p.0 ram1 (set_length ram k0 (shown l (first_held f)) ∙ count) in
        let lt = small n o (omega arith) in
        record {
          w' = s.w';
          ram' = s.ram';
          same = ap (λ xs. ram_behind xs w ram) (append_assoc (byte_code (Static n o) f) (object_code n (o + 1) fs) rest) ∙ p.1 ∙ s.same;
          count = s.count;
          holds = λ j. holds_at s lt j;
          keeps = λ k none.
              s.keeps k (λ j lj le'. none j lj (omega arith))
              ∙ get_or-set_other ram k0 k (shown l (first_held f)) 0 (none o (omega arith) (omega arith));
        } where
          holds_at : (s : Stored n (o + 1) (map first_held fs) (object_code n (o + 1) fs) rest (puts n o f (object_code n (o + 1) fs ++ rest) w ram).0 (slice_set ram (number_of (Static n o)) (shown l (first_held f))))
              → number_of (Static n o) < 368 → (j : ℕ) → j < length (map first_held (f ∷ fs)) → slice_index s.ram' (number_of (Static n (o + j))) ≡ shown l (slice_index_or (map first_held (f ∷ fs)) j Unset)
          holds_at s lt zero h =
              let z : o + 0 ≡ o = omega arith in
              ap (λ a. slice_index s.ram' (number_of (Static n a))) z
              ∙ s.keeps (number_of (Static n o)) (λ j lj le'. λ e. let q = (once n o n j (omega arith) lj e).1 in omega arith)
              ∙ get_or-set_same ram (number_of (Static n o)) (shown l (first_held f)) 0 (omega arith)
          holds_at s lt (suc j) h =
              let z : o + suc j ≡ o + 1 + j = omega arith in
              ap (λ a. slice_index s.ram' (number_of (Static n a))) z ∙ s.holds j (omega arith)

    pub stored : (n o : ℕ) (fs : List FirstByte) (rest : List Sym) (w : ℕ) (ram : List ℕ) → length ram ≡ 368 → o + length (map first_held fs) ≤ (object l n).size → Stored n o (map first_held fs) (object_code n o fs) rest w ram
    stored n o [] rest w ram count le = record { w' = w; ram' = ram; same = refl; count = count; holds = λ j lt. absurd (omega arith); keeps = λ k none. refl }
    stored n o (f ∷ fs) rest w ram count le = stored_more n o f fs rest w ram count (omega arith) (λ w1 ram1 c1. stored n (o + 1) fs rest w1 ram1 c1 (omega arith))

    pub record AllStored (n : ℕ) (held : List (List Held)) (code rest : List Sym) (w : ℕ) (ram : List ℕ) : Type 0 where
      pub w' : ℕ
      pub ram' : List ℕ
      pub same : ram_behind (code ++ rest) w ram ≡ ram_behind rest w' ram'
      pub holds : (m j : ℕ) → j < length (slice_index_or held m []) → slice_index ram' (number_of (Static (n + m) j)) ≡ shown l (slice_index_or (slice_index_or held m []) j Unset)
      pub keeps : (k : ℕ) → ((m j : ℕ) → j < (object l m).size → n ≤ m → k ≢ number_of (Static m j)) → slice_index ram' k ≡ slice_index ram k

    all_more : (n : ℕ) (x : Vec FirstByte Global) (xs : List (Vec FirstByte Global)) (rest : List Sym) (w : ℕ) (ram : List ℕ) → length ram ≡ 368 → length (map first_held x.items) ≤ (object l n).size
        → ((w1 : ℕ) (ram1 : List ℕ) → length ram1 ≡ 368 → AllStored (n + 1) (held_in xs) (objects_code (n + 1) xs) rest w1 ram1)
        → AllStored n (held_in (x ∷ xs)) (objects_code n (x ∷ xs)) rest w ram
    all_more n x xs rest w ram count le more =
        let p = stored n 0 x.items (objects_code (n + 1) xs ++ rest) w ram count (omega arith) in
        let s = more p.w' p.ram' p.count in
        record {
          w' = s.w';
          ram' = s.ram';
          same = ap (λ ys. ram_behind ys w ram) (append_assoc (object_code n 0 x.items) (objects_code (n + 1) xs) rest) ∙ p.same ∙ s.same;
          holds = λ m. holds_at p s m;
          keeps = λ k none. s.keeps k (λ m j lj le'. none m j lj (omega arith)) ∙ p.keeps k (λ j lj le'. none n j lj (omega arith));
        } where
          holds_at : (p : Stored n 0 (map first_held x.items) (object_code n 0 x.items) (objects_code (n + 1) xs ++ rest) w ram)
              (s : AllStored (n + 1) (held_in xs) (objects_code (n + 1) xs) rest p.w' p.ram')
              (m j : ℕ) → j < length (slice_index_or (held_in (x ∷ xs)) m []) → slice_index s.ram' (number_of (Static (n + m) j)) ≡ shown l (slice_index_or (slice_index_or (held_in (x ∷ xs)) m []) j Unset)
          holds_at p s zero j h =
              let z : n + 0 ≡ n = omega arith in
              ap (λ a. slice_index s.ram' (number_of (Static a j))) z
              ∙ s.keeps (number_of (Static n j)) (λ m i li le'. λ e. let q = (once n j m i (omega arith) li e).0 in omega arith)
              ∙ (let y : j ≡ 0 + j = omega arith in ap (λ a. slice_index p.ram' (number_of (Static n a))) y) ∙ p.holds j h
          holds_at p s (suc m) j h =
              let z : n + suc m ≡ n + 1 + m = omega arith in
              ap (λ a. slice_index s.ram' (number_of (Static a j))) z ∙ s.holds m j h

    pub all_stored : (n : ℕ) (xs : List (Vec FirstByte Global)) (rest : List Sym) (w : ℕ) (ram : List ℕ) → length ram ≡ 368 → ((m : ℕ) → m < length xs → length (slice_index_or (held_in xs) m []) ≤ (object l (n + m)).size)
        → AllStored n (held_in xs) (objects_code n xs) rest w ram
    all_stored n [] rest w ram count le = record { w' = w; ram' = ram; same = refl; holds = λ m j lt. absurd (none_below m j lt); keeps = λ k none. refl } where
      none_below : (m j : ℕ) → j < length (slice_index_or (held_in []) m []) → ⊥
      none_below zero j lt = omega arith
      none_below (suc m) j lt = omega arith
    all_stored n (x ∷ xs) rest w ram count le =
        let z : n + 0 ≡ n = omega arith in
        let first = subst (λ a. length (map first_held x.items) ≤ (object l a).size) z (le 0 (omega arith)) in
        all_more n x xs rest w ram count first (λ w1 ram1 c1. all_stored (n + 1) xs rest w1 ram1 c1 (λ m lt.
        let y : n + suc m ≡ n + 1 + m = omega arith in subst (λ a. length (slice_index_or (held_in xs) m []) ≤ (object l a).size) y (le (suc m) (omega arith))))
