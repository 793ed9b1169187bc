-- A run along the list is a path of the machine by positions.
use Rattle.std.proofs.Common.{◌≡◌, ℕ, zero, suc, ◌+◌, ◌<◌, ◌≤◌, List, [], ◌∷◌, ◌++◌, refl, ap, sym, ◌∙◌, subst, arith, inl, inr, Bool, true, false, drop, length, take, get_or, Some, option_map, slice_get, add-one}
use Rattle.std.specs.Prelude.{nat_eq, if◌then◌else◌}
use Rattle.std.proofs.lemmas.Option.{slice_get-get_or}
use Rattle.std.proofs.lemmas.List.{take-append-drop, length-take-le}
use Rattle.std.proofs.Math.Seq.{drop-cons}
use Rattle.std.proofs.Math.ListN.{drop_of_length-le}
use Rattle.std.proofs.lemmas.Bool.{cases_lt, eq-eqb, eqb-true}
use Rattle.sym_code.specs.Registers.{Registers}
use Rattle.pic_world.specs.Bits.{bit}
use Rattle.select_trace.specs.Rows.{skips_with, status_bit}
use Rattle.select_trace.specs.Run.{Sym, Row, Movwf, Clrf, Test, Flag, Movlw, Addlw, Xorlw, Clrw, Return, Goto, Label, Mode, Going, Skipping, Seeking, Returned, Machine, execute, step, step_in, sought, skipped, run}
use Rattle.sym_code.specs.declared.code.Into.TheVariants.{W, File}
use Rattle.sym_code.specs.declared.code.BitOperation.TheVariants.{Bcf, Bsf, Btfsc, Btfss}
use Rattle.sym_code.specs.Effect.{Memory}
use Rattle.select_trace.specs.Positions.{GoesAlong, Place, Goes, due, dues, owed, past_word, label_from, place, goes_if, leads, acts, step_at, Path, times, AllLead, AtPlace, Stands}

-- ---- lists
pub head_is : (code : List Sym) (i : ℕ) (x : Sym) (rest : List Sym) → drop i code ≡ x ∷ rest → (slice_get code i ≡ Some x) × (drop (i + 1) code ≡ rest)
head_is code i x rest e = elim (cases_lt i (length code)) [
  | inl lt ↦
      let d : drop i code ≡ get_or code i x ∷ drop (suc i) code = drop-cons code i x lt in
      let both : get_or code i x ∷ drop (suc i) code ≡ x ∷ rest = sym d ∙ e in
      (slice_get-get_or code i x lt ∙ ap (λ (y : Sym). Some y) (heads both), ap (λ k. drop k code) (add-one i) ∙ tails both)
  | inr ge ↦ let d : drop i code ≡ [] = drop_of_length-le code ge in let c : [] ≡ x ∷ rest = sym d ∙ e in absurd (cc)
]
  where
    heads : {a b : Sym} {xs ys : List Sym} → a ∷ xs ≡ b ∷ ys → a ≡ b
    heads e = cc

    tails : {a b : Sym} {xs ys : List Sym} → a ∷ xs ≡ b ∷ ys → xs ≡ ys
    tails e = cc

pub times_append : (l : ℕ) (xs ys : List Sym) → times l (xs ++ ys) ≡ times l xs + times l ys
times_append l [] ys = omega arith
times_append l (Label n ∷ xs) ys = by (nat_eq n l) (times l (xs ++ ys)) (times l xs) (times l ys) (times_append l xs ys)
  where
    by : (b : Bool) (x y z : ℕ) → x ≡ y + z → (if b then suc x else x) ≡ (if b then suc y else y) + z
    by true x y z e = omega arith
    by false x y z e = e
times_append l (Row op a into ∷ xs) ys = times_append l xs ys
times_append l (Movwf a ∷ xs) ys = times_append l xs ys
times_append l (Clrf a ∷ xs) ys = times_append l xs ys
times_append l (Test op a b ∷ xs) ys = times_append l xs ys
times_append l (Flag op b ∷ xs) ys = times_append l xs ys
times_append l (Movlw n ∷ xs) ys = times_append l xs ys
times_append l (Addlw n ∷ xs) ys = times_append l xs ys
times_append l (Xorlw n ∷ xs) ys = times_append l xs ys
times_append l (Clrw ∷ xs) ys = times_append l xs ys
times_append l (Return ∷ xs) ys = times_append l xs ys
times_append l (Goto n ∷ xs) ys = times_append l xs ys

-- a label that stands in no place before is found from there on
label_behind : (l : ℕ) (xs ys : List Sym) (n : ℕ) → times l xs ≡ 0 → label_from (xs ++ ys) l n ≡ label_from ys l (n + length xs)
label_behind l [] ys n e = ap (label_from ys l) (omega arith)
label_behind l (Label k ∷ xs) ys n e = by (nat_eq k l) e (label_behind l xs ys (n + 1))
  where
    by : (b : Bool) → (if b then suc (times l xs) else times l xs) ≡ 0 → (times l xs ≡ 0 → label_from (xs ++ ys) l (n + 1) ≡ label_from ys l (n + 1 + length xs)) → (if b then Some n else label_from (xs ++ ys) l (n + 1)) ≡ label_from ys l (n + suc (length xs))
    by true f h = absurd (omega arith)
    by false f h = h f ∙ ap (label_from ys l) (omega arith)
label_behind l (Row op a into ∷ xs) ys n e = label_behind l xs ys (n + 1) e ∙ ap (label_from ys l) (omega arith)
label_behind l (Movwf a ∷ xs) ys n e = label_behind l xs ys (n + 1) e ∙ ap (label_from ys l) (omega arith)
label_behind l (Clrf a ∷ xs) ys n e = label_behind l xs ys (n + 1) e ∙ ap (label_from ys l) (omega arith)
label_behind l (Test op a b ∷ xs) ys n e = label_behind l xs ys (n + 1) e ∙ ap (label_from ys l) (omega arith)
label_behind l (Flag op b ∷ xs) ys n e = label_behind l xs ys (n + 1) e ∙ ap (label_from ys l) (omega arith)
label_behind l (Movlw v ∷ xs) ys n e = label_behind l xs ys (n + 1) e ∙ ap (label_from ys l) (omega arith)
label_behind l (Addlw v ∷ xs) ys n e = label_behind l xs ys (n + 1) e ∙ ap (label_from ys l) (omega arith)
label_behind l (Xorlw v ∷ xs) ys n e = label_behind l xs ys (n + 1) e ∙ ap (label_from ys l) (omega arith)
label_behind l (Clrw ∷ xs) ys n e = label_behind l xs ys (n + 1) e ∙ ap (label_from ys l) (omega arith)
label_behind l (Return ∷ xs) ys n e = label_behind l xs ys (n + 1) e ∙ ap (label_from ys l) (omega arith)
label_behind l (Goto k ∷ xs) ys n e = label_behind l xs ys (n + 1) e ∙ ap (label_from ys l) (omega arith)

split : (code : List Sym) (i : ℕ) (rest : List Sym) → i ≤ length code → drop i code ≡ rest → (front : List Sym) × (code ≡ front ++ rest) × (length front ≡ i)
split code i rest le e = (take i code, sym (take-append-drop i code) ∙ ap (λ r. take i code ++ r) e, length-take-le i code le)

-- the label at place i is the first one of its number, if it stands once
pub label_here : (code : List Sym) (i l : ℕ) (rest : List Sym) → ((n : ℕ) → times n code ≤ 1) → drop i code ≡ Label l ∷ rest → label_from code l 0 ≡ Some i
label_here code i l rest once e =
    let lt : i < length code = within code i (Label l) rest e in
    let s = split code i (Label l ∷ rest) (omega arith) e in
    let all : times l code ≡ times l s.0 + times l (Label l ∷ rest) = ap (times l) s.1 ∙ times_append l s.0 (Label l ∷ rest) in
    let one : times l (Label l ∷ rest) ≡ suc (times l rest) = ap (λ b. if b then suc (times l rest) else times l rest) (eq-eqb l l refl) in
    let none : times l s.0 ≡ 0 = omega (arith, once l) in
    ap (λ c. label_from c l 0) s.1 ∙ label_behind l s.0 (Label l ∷ rest) 0 none ∙ ap (λ b. if b then Some (0 + length s.0) else label_from rest l (0 + length s.0 + 1)) (eq-eqb l l refl) ∙ ap (λ (n : ℕ). Some n) (let k : length s.0 ≡ i = s.2 in omega arith)
  where
    within : (code : List Sym) (i : ℕ) (x : Sym) (rest : List Sym) → drop i code ≡ x ∷ rest → i < length code
    within code i x rest e = elim (cases_lt i (length code)) [ inl lt ↦ lt | inr ge ↦ let d : drop i code ≡ [] = drop_of_length-le code ge in let c : [] ≡ x ∷ rest = sym d ∙ e in absurd (cc) ]

-- ---- one instruction
pub past_some : (xs post : List Sym) → (n : ℕ) × (past_word post ≡ Some n) → (n : ℕ) × (past_word (xs ++ post) ≡ Some n)
past_some [] post h = h
past_some (Label l ∷ xs) post h = let k = past_some xs post h in (k.0 + 1, ap (option_map (λ n. n + 1)) k.1)
past_some (Row op a into ∷ xs) post h = (1, refl)
past_some (Movwf a ∷ xs) post h = (1, refl)
past_some (Clrf a ∷ xs) post h = (1, refl)
past_some (Test op a b ∷ xs) post h = (1, refl)
past_some (Flag op b ∷ xs) post h = (1, refl)
past_some (Movlw v ∷ xs) post h = (1, refl)
past_some (Addlw v ∷ xs) post h = (1, refl)
past_some (Xorlw v ∷ xs) post h = (1, refl)
past_some (Clrw ∷ xs) post h = (1, refl)
past_some (Return ∷ xs) post h = (1, refl)
past_some (Goto k ∷ xs) post h = (1, refl)

-- an instruction seeks a label only by a jump
lead_of : (code : List Sym) (x : Sym) (rest : List Sym) → AllLead code (x ∷ rest) → (r : Registers) (m : Memory) (l : ℕ) → (execute x r m).mode ≡ Seeking l → (k : ℕ) × (label_from code l 0 ≡ Some k)
lead_of code x rest h r m l e = at x h e
  where
    never : (b : Bool) → (if b then Skipping else Going) ≡ Seeking l → ⊥
    never true e = cc
    never false e = cc

    at : (x : Sym) → AllLead code (x ∷ rest) → (execute x r m).mode ≡ Seeking l → (k : ℕ) × (label_from code l 0 ≡ Some k)
    at (Goto n) h e = let same : n ≡ l = inside e in (h.0, ap (λ k. label_from code k 0) (sym same) ∙ h.1)
      where
        inside : {a b : ℕ} → Seeking a ≡ Seeking b → a ≡ b
        inside e = cc
    at (Row op a W) h e = absurd (never (skips_with r op (m a)) e)
    at (Row op a File) h e = absurd (never (skips_with r op (m a)) e)
    at (Movwf a) h e = absurd (cc)
    at (Clrf a) h e = absurd (cc)
    at (Test Btfsc a b) h e = absurd (never (nat_eq (bit (m a) b) 0) e)
    at (Test Btfss a b) h e = absurd (never (nat_eq (bit (m a) b) 1) e)
    at (Test Bcf a b) h e = absurd (never (nat_eq (bit (m a) b) 1) e)
    at (Test Bsf a b) h e = absurd (never (nat_eq (bit (m a) b) 1) e)
    at (Flag Bcf b) h e = absurd (cc)
    at (Flag Bsf b) h e = absurd (cc)
    at (Flag Btfsc b) h e = absurd (never (nat_eq (status_bit r b) 0) e)
    at (Flag Btfss b) h e = absurd (never (nat_eq (status_bit r b) 1) e)
    at (Movlw n) h e = absurd (cc)
    at (Addlw n) h e = absurd (cc)
    at (Xorlw n) h e = absurd (cc)
    at Clrw h e = absurd (cc)
    at Return h e = absurd (cc)
    at (Label n) h e = absurd (cc)

-- only a return returns, and it changes nothing
returned_is : (x : Sym) (r : Registers) (m : Memory) → (execute x r m).mode ≡ Returned → x ≡ Return
returned_is x r m e = at x e
  where
    never : (b : Bool) → (if b then Skipping else Going) ≡ Returned → ⊥
    never true e = cc
    never false e = cc

    at : (x : Sym) → (execute x r m).mode ≡ Returned → x ≡ Return
    at Return e = refl
    at (Row op a W) e = absurd (never (skips_with r op (m a)) e)
    at (Row op a File) e = absurd (never (skips_with r op (m a)) e)
    at (Movwf a) e = absurd (cc)
    at (Clrf a) e = absurd (cc)
    at (Test Btfsc a b) e = absurd (never (nat_eq (bit (m a) b) 0) e)
    at (Test Btfss a b) e = absurd (never (nat_eq (bit (m a) b) 1) e)
    at (Test Bcf a b) e = absurd (never (nat_eq (bit (m a) b) 1) e)
    at (Test Bsf a b) e = absurd (never (nat_eq (bit (m a) b) 1) e)
    at (Flag Bcf b) e = absurd (cc)
    at (Flag Bsf b) e = absurd (cc)
    at (Flag Btfsc b) e = absurd (never (nat_eq (status_bit r b) 0) e)
    at (Flag Btfss b) e = absurd (never (nat_eq (status_bit r b) 1) e)
    at (Movlw n) e = absurd (cc)
    at (Addlw n) e = absurd (cc)
    at (Xorlw n) e = absurd (cc)
    at Clrw e = absurd (cc)
    at (Goto n) e = absurd (cc)
    at (Label n) e = absurd (cc)

pub place_is : (p : Place) (i : ℕ) (r : Registers) (m : Memory) → p.at ≡ i → p.registers ≡ r → p.memory ≡ m → p ≡ record { at = i; registers = r; memory = m }
place_is p i r m e f g = ap (λ (n : ℕ). record { at = n; registers = p.registers; memory = p.memory }) e ∙ ap (λ (x : Registers). record { at = i; registers = x; memory = p.memory }) f ∙ ap (λ (x : Memory). record { at = i; registers = r; memory = x }) g

-- one instruction, at which the run goes
going_one : (price : ℕ → ℕ) (code : List Sym) (i : ℕ) (x : Sym) (rest : List Sym) → drop i code ≡ x ∷ rest → AllLead code (x ∷ rest) → (n : ℕ) × (past_word rest ≡ Some n) → (r : Registers) (m : Memory) → GoesAlong price code (record { at = i; registers = r; memory = m }) (due price i (Some x)) (i + 1) rest (execute x r m)
going_one price code i x rest e leads_on word r m = by (execute x r m).mode refl
  where
    p : Place
    p = record { at = i; registers = r; memory = m }

    u : Machine
    u = execute x r m

    h : (slice_get code i ≡ Some x) × (drop (i + 1) code ≡ rest)
    h = head_is code i x rest e

    now : step_at code p ≡ leads code i u.mode u
    now = ap (acts code p) h.0

    paid : due price i (Some x) + 0 ≡ due price i (slice_get code i) + 0
    paid = ap (λ o. due price i o + 0) (sym h.0)

    put : (n : ℕ) → owed price n u.mode ≡ 0 → step_at code p ≡ Goes (place n u) → AtPlace code u.mode (i + 1) rest (place n u) → GoesAlong price code p (due price i (Some x)) (i + 1) rest u
    put n none s at = record {
      steps = 1;
      cost = due price i (Some x) + 0;
      out = place n u;
      few = omega (arith, none);
      path = (place n u, 0, s, paid, (refl, refl));
      stands = record { registers = refl; memory = refl; at = at };
    }

    by : (k : Mode) → k ≡ u.mode → GoesAlong price code p (due price i (Some x)) (i + 1) rest u
    by Going k = put (i + 1) (ap (owed price (i + 1)) (sym k)) (now ∙ ap (λ y. leads code i y u) (sym k)) (subst (λ (y : Mode). AtPlace code y (i + 1) rest (place (i + 1) u)) k refl)
    by Skipping k =
        let w : past_word (drop (i + 1) code) ≡ Some word.0 = ap past_word h.1 ∙ word.1 in
        put (i + 1 + word.0) (ap (owed price (i + 1 + word.0)) (sym k)) (now ∙ ap (λ y. leads code i y u) (sym k) ∙ ap (λ o. goes_if (option_map (λ n. i + 1 + n) o) u) w) (subst (λ (y : Mode). AtPlace code y (i + 1) rest (place (i + 1 + word.0) u)) k (word.0, word.1, refl))
    by (Seeking l) k =
        let f = lead_of code x rest leads_on r m l (sym k) in
        put f.0 (ap (owed price f.0) (sym k)) (now ∙ ap (λ y. leads code i y u) (sym k) ∙ ap (λ o. goes_if o u) f.1) (subst (λ (y : Mode). AtPlace code y (i + 1) rest (place f.0 u)) k f.1)
    by Returned k =
        let is : x ≡ Return = returned_is x r m (sym k) in
        record {
          steps = 0;
          cost = 0;
          out = p;
          few = let a : owed price i u.mode ≡ price i = ap (owed price i) (sym k) in let b : due price i (Some x) ≡ price i = ap (λ (y : Sym). due price i (Some y)) is in omega arith;
          path = (refl, refl);
          stands = record {
            registers = ap (λ y. (execute y r m).registers) (sym is);
            memory = ap (λ y. (execute y r m).memory) (sym is);
            at = subst (λ (y : Mode). AtPlace code y (i + 1) rest p) k (h.0 ∙ ap (λ (y : Sym). Some y) is);
          };
        }

-- one instruction, in any mode
one_in : (price : ℕ → ℕ) (code : List Sym) (i : ℕ) (x : Sym) (rest : List Sym) → ((n : ℕ) → times n code ≤ 1) → drop i code ≡ x ∷ rest → AllLead code (x ∷ rest) → (n : ℕ) × (past_word rest ≡ Some n) →
    (k : Mode) (r : Registers) (m : Memory) (p : Place) → p.registers ≡ r → p.memory ≡ m → AtPlace code k i (x ∷ rest) p → GoesAlong price code p (owed price p.at k + due price i (Some x)) (i + 1) rest (step_in k x r m)
one_in price code i x rest once e leads_on word Going r m p pr pm at =
    more (subst (λ (q : Place). GoesAlong price code q (due price i (Some x)) (i + 1) rest (execute x r m)) (sym (place_is p i r m at pr pm)) (going_one price code i x rest e leads_on word r m))
  where
    more : GoesAlong price code p (due price i (Some x)) (i + 1) rest (execute x r m) → GoesAlong price code p (0 + due price i (Some x)) (i + 1) rest (execute x r m)
    more h = record { steps = h.steps; cost = h.cost; out = h.out; few = let f : h.cost + owed price h.out.at (execute x r m).mode ≤ due price i (Some x) = h.few in omega arith; path = h.path; stands = h.stands }
one_in price code i x rest once e leads_on word Skipping r m p pr pm at = stay (place_at x at)
  where
    none : (x : Sym) → owed price p.at (skipped x) ≡ 0
    none (Label l) = refl
    none (Row op a into) = refl
    none (Movwf a) = refl
    none (Clrf a) = refl
    none (Test op a b) = refl
    none (Flag op b) = refl
    none (Movlw v) = refl
    none (Addlw v) = refl
    none (Xorlw v) = refl
    none Clrw = refl
    none Return = refl
    none (Goto k) = refl

    stay : AtPlace code (skipped x) (i + 1) rest p → GoesAlong price code p (0 + due price i (Some x)) (i + 1) rest (record { mode = skipped x; registers = r; memory = m })
    stay h = record { steps = 0; cost = 0; out = p; few = let f : owed price p.at (skipped x) ≡ 0 = none x in omega arith; path = (refl, refl); stands = record { registers = pr; memory = pm; at = h } }

    same_some : {a b : ℕ} → Some a ≡ Some b → a ≡ b
    same_some e = cc

    next : (n : ℕ) → Some 1 ≡ Some n → p.at ≡ i + n → p.at ≡ i + 1
    next n f g = let h : 1 ≡ n = same_some f in omega arith

    place_at : (x : Sym) → AtPlace code Skipping i (x ∷ rest) p → AtPlace code (skipped x) (i + 1) rest p
    place_at (Label l) h = let f : word.0 + 1 ≡ h.0 = same_some (ap (option_map (λ n. n + 1)) (sym word.1) ∙ h.1) in (word.0, word.1, let g : p.at ≡ i + h.0 = h.2 in omega arith)
    place_at (Row op a into) h = next h.0 h.1 h.2
    place_at (Movwf a) h = next h.0 h.1 h.2
    place_at (Clrf a) h = next h.0 h.1 h.2
    place_at (Test op a b) h = next h.0 h.1 h.2
    place_at (Flag op b) h = next h.0 h.1 h.2
    place_at (Movlw v) h = next h.0 h.1 h.2
    place_at (Addlw v) h = next h.0 h.1 h.2
    place_at (Xorlw v) h = next h.0 h.1 h.2
    place_at Clrw h = next h.0 h.1 h.2
    place_at Return h = next h.0 h.1 h.2
    place_at (Goto k) h = next h.0 h.1 h.2
one_in price code i x rest once e leads_on word (Seeking l) r m p pr pm at = seek x e
  where
    stay : (y : Mode) → y ≡ Seeking l → GoesAlong price code p (0 + due price i (Some x)) (i + 1) rest (record { mode = y; registers = r; memory = m })
    stay y f = subst (λ (z : Mode). GoesAlong price code p (0 + due price i (Some x)) (i + 1) rest (record { mode = z; registers = r; memory = m })) (sym f) (record { steps = 0; cost = 0; out = p; few = omega arith; path = (refl, refl); stands = record { registers = pr; memory = pm; at = at } })

    same_some : {a b : ℕ} → Some a ≡ Some b → a ≡ b
    same_some e = cc

    found : (n : ℕ) → drop i code ≡ Label n ∷ rest → n ≡ l → GoesAlong price code p (0 + due price i (Some x)) (i + 1) rest (record { mode = Going; registers = r; memory = m })
    found n f same =
        let first : label_from code l 0 ≡ Some i = label_here code i l rest once (f ∙ ap (λ (k : ℕ). Label k ∷ rest) same) in
        let here : p.at ≡ i = same_some (sym at ∙ first) in
        let s : step_at code (record { at = i; registers = r; memory = m }) ≡ Goes (record { at = i + 1; registers = r; memory = m }) = ap (acts code (record { at = i; registers = r; memory = m })) (head_is code i (Label n) rest f).0 in
        let free : 0 ≡ due price i (slice_get code i) + 0 = ap (λ o. due price i o + 0) (sym (head_is code i (Label n) rest f).0) in
        subst (λ (q : Place). GoesAlong price code q (0 + due price i (Some x)) (i + 1) rest (record { mode = Going; registers = r; memory = m })) (sym (place_is p i r m here pr pm))
        (record { steps = 1; cost = 0; out = record { at = i + 1; registers = r; memory = m }; few = omega arith; path = (record { at = i + 1; registers = r; memory = m }, 0, s, free, (refl, refl)); stands = record { registers = refl; memory = refl; at = refl } })

    label : (n : ℕ) (b : Bool) → nat_eq n l ≡ b → drop i code ≡ Label n ∷ rest → GoesAlong price code p (0 + due price i (Some x)) (i + 1) rest (record { mode = (if nat_eq n l then Going else Seeking l); registers = r; memory = m })
    label n true b f = subst (λ (y : Bool). GoesAlong price code p (0 + due price i (Some x)) (i + 1) rest (record { mode = (if y then Going else Seeking l); registers = r; memory = m })) (sym b) (found n f (eqb-true n l b))
    label n false b f = stay (if nat_eq n l then Going else Seeking l) (ap (λ y. if y then Going else Seeking l) b)

    seek : (y : Sym) → drop i code ≡ y ∷ rest → GoesAlong price code p (0 + due price i (Some x)) (i + 1) rest (record { mode = sought l y; registers = r; memory = m })
    seek (Label n) f = label n (nat_eq n l) refl f
    seek (Row op a into) f = stay (Seeking l) refl
    seek (Movwf a) f = stay (Seeking l) refl
    seek (Clrf a) f = stay (Seeking l) refl
    seek (Test op a b) f = stay (Seeking l) refl
    seek (Flag op b) f = stay (Seeking l) refl
    seek (Movlw v) f = stay (Seeking l) refl
    seek (Addlw v) f = stay (Seeking l) refl
    seek (Xorlw v) f = stay (Seeking l) refl
    seek Clrw f = stay (Seeking l) refl
    seek Return f = stay (Seeking l) refl
    seek (Goto k) f = stay (Seeking l) refl
one_in price code i x rest once e leads_on word Returned r m p pr pm at = record { steps = 0; cost = 0; out = p; few = omega arith; path = (refl, refl); stands = record { registers = pr; memory = pm; at = at } }

pub path_then : (price : ℕ → ℕ) (code : List Sym) (n m a b : ℕ) (p q s : Place) → Path price code n a p q → Path price code m b q s → Path price code (n + m) (a + b) p s
path_then price code zero m a b p q s h k =
    subst (λ (x : ℕ). Path price code x (a + b) p s) (let e : m ≡ 0 + m = omega arith in e)
    (subst (λ (x : ℕ). Path price code m x p s) (let e : a ≡ 0 = h.0 in let f : b ≡ a + b = omega arith in f) (subst (λ (x : Place). Path price code m b x s) (sym h.1) k))
path_then price code (suc n) m a b p q s h k =
    subst (λ (x : ℕ). Path price code x (a + b) p s) (let e : suc (n + m) ≡ suc n + m = omega arith in e)
    (h.0, h.1 + b, h.2, (let e : a ≡ due price p.at (slice_get code p.at) + h.1 = h.3 in put _ _ _ _ e), path_then price code n m h.1 b h.0 q s h.4 k)
  where
    put : (a d m b : ℕ) → a ≡ d + m → a + b ≡ d + (m + b)
    put a d m b e = omega arith

pub all_lead_tail : (code : List Sym) (x : Sym) (rest : List Sym) → AllLead code (x ∷ rest) → AllLead code rest
all_lead_tail code (Goto l) rest h = h.2
all_lead_tail code (Label l) rest h = h
all_lead_tail code (Row op a into) rest h = h
all_lead_tail code (Movwf a) rest h = h
all_lead_tail code (Clrf a) rest h = h
all_lead_tail code (Test op a b) rest h = h
all_lead_tail code (Flag op b) rest h = h
all_lead_tail code (Movlw v) rest h = h
all_lead_tail code (Addlw v) rest h = h
all_lead_tail code (Xorlw v) rest h = h
all_lead_tail code Clrw rest h = h
all_lead_tail code Return rest h = h

-- A run along part of the code is a path, each instruction of which is paid once at most.
pub along : (price : ℕ → ℕ) (code post : List Sym) → ((n : ℕ) → times n code ≤ 1) → (n : ℕ) × (past_word post ≡ Some n) → (xs : List Sym) (i : ℕ) (t : Machine) (p : Place) → drop i code ≡ xs ++ post → AllLead code (xs ++ post) → Stands code i (xs ++ post) t p →
    GoesAlong price code p (owed price p.at t.mode + dues price i xs) (i + length xs) post (run xs t)
along price code post once word [] i t p e leads_on h = record { steps = 0; cost = 0; out = p; few = omega arith; path = (refl, refl); stands = subst (λ (n : ℕ). Stands code n post t p) (let f : i ≡ i + 0 = omega arith in f) h }
along price code post once word (x ∷ xs) i t p e leads_on h =
    let one : GoesAlong price code p (owed price p.at t.mode + due price i (Some x)) (i + 1) (xs ++ post) (step x t) = one_in price code i x (xs ++ post) once e leads_on (past_some xs post word) t.mode t.registers t.memory p h.registers h.memory h.at in
    let rest : GoesAlong price code one.out (owed price one.out.at (step x t).mode + dues price (i + 1) xs) (i + 1 + length xs) post (run xs (step x t)) = along price code post once word xs (i + 1) (step x t) one.out (head_is code i x (xs ++ post) e).1 (all_lead_tail code x (xs ++ post) leads_on) one.stands in
    record {
      steps = one.steps + rest.steps;
      cost = one.cost + rest.cost;
      out = rest.out;
      few = put _ _ _ _ _ _ _ one.few rest.few;
      path = path_then price code one.steps rest.steps one.cost rest.cost p one.out rest.out one.path rest.path;
      stands = subst (λ (n : ℕ). Stands code n post (run xs (step x t)) rest.out) (let f : i + 1 + length xs ≡ i + suc (length xs) = omega arith in f) rest.stands;
    }
  where
    put : (c o b d e f g : ℕ) → c + o ≤ b + d → e + f ≤ o + g → c + e + f ≤ b + (d + g)
    put c o b d e f g h k = omega arith

pub leads_behind : (code xs ys : List Sym) → AllLead code (xs ++ ys) → AllLead code ys
leads_behind code [] ys h = h
leads_behind code (x ∷ xs) ys h = leads_behind code xs ys (all_lead_tail code x (xs ++ ys) h)

pub drop_more : (code : List Sym) (i : ℕ) (xs ys : List Sym) → drop i code ≡ xs ++ ys → drop (i + length xs) code ≡ ys
drop_more code i [] ys e = ap (λ k. drop k code) (let f : i + 0 ≡ i = omega arith in f) ∙ e
drop_more code i (x ∷ xs) ys e = ap (λ k. drop k code) (let f : i + suc (length xs) ≡ i + 1 + length xs = omega arith in f) ∙ drop_more code (i + 1) xs ys (head_is code i x (xs ++ ys) e).1
