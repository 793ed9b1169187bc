-- A byte that code doesn't write stays as it is, on any path.
use Rattle.std.proofs.Common.{◌≡◌, ℕ, zero, suc, ◌+◌, ◌-◌, ◌<◌, ◌≤◌, List, [], ◌∷◌, ◌++◌, refl, ap, sym, ◌∙◌, arith, Bool, true, false, drop, take, length, get_or, Option, Some, None, option_map, slice_get}
use Rattle.std.specs.Prelude.{nat_eq, if◌then◌else◌}
use Rattle.std.proofs.lemmas.Option.{slice_get_within, slice_get-get_or}
use Rattle.std.proofs.lemmas.List.{take-append-drop}
use Rattle.std.proofs.Math.Seq.{drop-cons}
use Rattle.std.proofs.lemmas.Bool.Decides.{nat_tests}
use Rattle.sym_code.specs.Registers.{Registers}
use Rattle.select_trace.specs.Run.{Sym, Row, Movwf, Clrf, Test, Flag, Movlw, Addlw, Xorlw, Clrw, Return, Goto, Label, Mode, Going, Skipping, Seeking, Returned, Machine, execute}
use Rattle.sym_code.specs.declared.code.Into.TheVariants.{W, File}
use Rattle.sym_code.specs.declared.code.BitOperation.TheVariants.{Bcf, Bsf, Btfsc, Btfss}
use Rattle.sym_code.specs.Effect.{Memory}
use Rattle.select_trace.specs.Positions.{Place, Goes, past_word, label_from, place, goes_if, leads, acts, step_at, Path}
use Rattle.select_trace.specs.Helpers.{Layout, Value, Left, Right, Remainder, Spare, Answer, Step, Clear, Answers, ShiftLeft, ShiftRight, Add, Compare, Subtract, Invert, Increment, step_code, each_byte, negate_if_code, magnitudes_code, sign_code, part_value, Part, Quotient, Rest, Leftward, Rightward, SignedRightward}
use Rattle.select_trace.specs.Wanted.{Task, Product, Division, SignedDivision, Shift, task_code}
use Rattle.select_trace.specs.Routines.{divide_code}
use Rattle.select_trace.specs.Writes.{writes}
use Rattle.select_trace.proofs.Links.{nonzero}

forms : (a : ℕ) (x : Sym) (xs : List Sym) → writes a (x ∷ xs) ≡ writes a (x ∷ []) + writes a xs
forms a (Row op b File) xs = by (nat_eq a b) (writes a xs)
  where
    by : (c : Bool) (n : ℕ) → (if c then suc n else n) ≡ (if c then 1 else 0) + n
    by true n = omega arith
    by false n = omega arith
forms a (Movwf b) xs = by (nat_eq a b) (writes a xs)
  where
    by : (c : Bool) (n : ℕ) → (if c then suc n else n) ≡ (if c then 1 else 0) + n
    by true n = omega arith
    by false n = omega arith
forms a (Clrf b) xs = by (nat_eq a b) (writes a xs)
  where
    by : (c : Bool) (n : ℕ) → (if c then suc n else n) ≡ (if c then 1 else 0) + n
    by true n = omega arith
    by false n = omega arith
forms a (Row op b W) xs = omega arith
forms a (Test op b c) xs = omega arith
forms a (Flag op b) xs = omega arith
forms a (Movlw n) xs = omega arith
forms a (Addlw n) xs = omega arith
forms a (Xorlw n) xs = omega arith
forms a Clrw xs = omega arith
forms a Return xs = omega arith
forms a (Goto n) xs = omega arith
forms a (Label n) xs = omega arith

pub writes_append : (a : ℕ) (xs ys : List Sym) → writes a (xs ++ ys) ≡ writes a xs + writes a ys
writes_append a [] ys = omega arith
writes_append a (x ∷ xs) ys = let h : writes a (xs ++ ys) ≡ writes a xs + writes a ys = writes_append a xs ys in forms a x (xs ++ ys) ∙ put _ _ _ _ h ∙ ap (λ n. n + writes a ys) (sym (forms a x xs))
  where
    put : (f n b c : ℕ) → n ≡ b + c → f + n ≡ f + b + c
    put f n b c e = omega arith

-- one instruction
unwritten : (a : ℕ) (x : Sym) (r : Registers) (m : Memory) → writes a (x ∷ []) ≡ 0 → (execute x r m).memory a ≡ m a
unwritten a (Row op b W) r m e = refl
unwritten a (Row op b File) r m e = by (nat_eq a b) _ e
  where
    by : (c : Bool) (v : ℕ) → ◌≡◌ {A = ℕ} (if c then 1 else 0) 0 → (if c then v else m a) ≡ m a
    by true v e = absurd (omega arith)
    by false v e = refl
unwritten a (Movwf b) r m e = by (nat_eq a b) _ e
  where
    by : (c : Bool) (v : ℕ) → ◌≡◌ {A = ℕ} (if c then 1 else 0) 0 → (if c then v else m a) ≡ m a
    by true v e = absurd (omega arith)
    by false v e = refl
unwritten a (Clrf b) r m e = by (nat_eq a b) _ e
  where
    by : (c : Bool) (v : ℕ) → ◌≡◌ {A = ℕ} (if c then 1 else 0) 0 → (if c then v else m a) ≡ m a
    by true v e = absurd (omega arith)
    by false v e = refl
unwritten a (Test Btfsc b c) r m e = refl
unwritten a (Test Btfss b c) r m e = refl
unwritten a (Test Bcf b c) r m e = refl
unwritten a (Test Bsf b c) r m e = refl
unwritten a (Flag Bcf b) r m e = refl
unwritten a (Flag Bsf b) r m e = refl
unwritten a (Flag Btfsc b) r m e = refl
unwritten a (Flag Btfss b) r m e = refl
unwritten a (Movlw n) r m e = refl
unwritten a (Addlw n) r m e = refl
unwritten a (Xorlw n) r m e = refl
unwritten a Clrw r m e = refl
unwritten a Return r m e = refl
unwritten a (Goto n) r m e = refl
unwritten a (Label n) r m e = refl

among : (a i : ℕ) (code : List Sym) (x : Sym) → slice_get code i ≡ Some x → writes a code ≡ 0 → writes a (x ∷ []) ≡ 0
among a i code x e none =
    let lt : i < length code = slice_get_within code i x e in
    let is : get_or code i x ≡ x = inside (sym (slice_get-get_or code i x lt) ∙ e) in
    let d : drop i code ≡ x ∷ drop (suc i) code = drop-cons code i x lt ∙ ap (λ y. y ∷ drop (suc i) code) is in
    let all : writes a code ≡ writes a (take i code) + writes a (x ∷ drop (suc i) code) = ap (writes a) (sym (take-append-drop i code)) ∙ writes_append a (take i code) (drop i code) ∙ ap (λ y. writes a (take i code) + writes a y) d in
    let one : writes a (x ∷ drop (suc i) code) ≡ writes a (x ∷ []) + writes a (drop (suc i) code) = forms a x (drop (suc i) code) in
    omega arith
  where
    inside : {y z : Sym} → Some y ≡ Some z → y ≡ z
    inside e = cc

step_keeps : (a : ℕ) (code : List Sym) (p s : Place) → writes a code ≡ 0 → step_at code p ≡ Goes s → s.memory a ≡ p.memory a
step_keeps a code p s none e = by (slice_get code p.at) refl e
  where
    inside : {y z : Place} → Goes y ≡ Goes z → y ≡ z
    inside e = cc

    lead_to : (k : Mode) (t : Machine) → leads code p.at k t ≡ Goes s → s.memory ≡ t.memory
    lead_to Going t e = ap (λ (q : Place). q.memory) (sym (inside e))
    lead_to Skipping t e = if_some (option_map (λ n. p.at + 1 + n) (past_word (drop (p.at + 1) code))) e
      where
        if_some : (o : Option ℕ) → goes_if o t ≡ Goes s → s.memory ≡ t.memory
        if_some None e = absurd (cc)
        if_some (Some n) e = let f : place n t ≡ s = cc in ap (λ (q : Place). q.memory) (sym f)
    lead_to (Seeking l) t e = if_some (label_from code l 0) e
      where
        if_some : (o : Option ℕ) → goes_if o t ≡ Goes s → s.memory ≡ t.memory
        if_some None e = absurd (cc)
        if_some (Some n) e = let f : place n t ≡ s = cc in ap (λ (q : Place). q.memory) (sym f)
    lead_to Returned t e = absurd (cc)

    by : (o : Option Sym) → o ≡ slice_get code p.at → acts code p o ≡ Goes s → s.memory a ≡ p.memory a
    by None f e = absurd (cc)
    by (Some x) f e = ap (λ (m : Memory). m a) (lead_to (execute x p.registers p.memory).mode (execute x p.registers p.memory) e) ∙ unwritten a x p.registers p.memory (among a p.at code x (sym f) none)

pub path_keeps : (price : ℕ → ℕ) (a : ℕ) (code : List Sym) (n cost : ℕ) (p q : Place) → writes a code ≡ 0 → Path price code n cost p q → q.memory a ≡ p.memory a
path_keeps price a code zero cost p q none h = ap (λ (x : Place). x.memory a) (sym h.1)
path_keeps price a code (suc n) cost p q none h = path_keeps price a code n h.1 h.0 q none h.4 ∙ step_keeps a code p h.0 none h.2

-- ---- the routines
-- a byte that is none of the layout's
abbrev pub Foreign : Layout → ℕ → Type 0
Foreign l a = (v : Value) (j : ℕ) → j < l.width → a ≡ l.at v j → ⊥

apart : (a b : ℕ) → (a ≡ b → ⊥) → nat_eq a b ≡ false
apart a b h = grind (arith, nat_tests)

step_writes : (l : Layout) (a : ℕ) → Foreign l a → (step : Step) (k : ℕ) → k < l.width → writes a (step_code l step k) ≡ 0
step_writes l a f (Clear v) k lt = ap (λ b. if b then 1 else 0) (apart a (l.at v k) (f v k lt))
step_writes l a f (Answers v) k lt = ap (λ b. if b then 1 else 0) (apart a (l.at Answer k) (f Answer k lt))
step_writes l a f (ShiftLeft v) k lt = ap (λ b. if b then 1 else 0) (apart a (l.at v k) (f v k lt))
step_writes l a f ShiftRight k lt = ap (λ b. if b then 1 else 0) (apart a (l.at Answer (l.width - 1 - k)) (f Answer (l.width - 1 - k) (omega arith)))
step_writes l a f Add zero lt = ap (λ b. if b then 1 else 0) (apart a (l.at Answer 0) (f Answer 0 lt))
step_writes l a f Add (suc k) lt = rw (nonzero k) (ap (λ b. if b then 1 else 0) (apart a (l.at Answer (suc k)) (f Answer (suc k) lt)))
step_writes l a f Compare zero lt = refl
step_writes l a f Compare (suc k) lt = rw (nonzero k) refl
step_writes l a f Subtract zero lt = ap (λ b. if b then 1 else 0) (apart a (l.at Remainder 0) (f Remainder 0 lt))
step_writes l a f Subtract (suc k) lt = rw (nonzero k) (ap (λ b. if b then 1 else 0) (apart a (l.at Remainder (suc k)) (f Remainder (suc k) lt)))
step_writes l a f (Invert v) k lt = ap (λ b. if b then 1 else 0) (apart a (l.at v k) (f v k lt))
step_writes l a f (Increment v) zero lt = ap (λ b. if b then 1 else 0) (apart a (l.at v 0) (f v 0 lt))
step_writes l a f (Increment v) (suc k) lt = rw (nonzero k) (ap (λ b. if b then 1 else 0) (apart a (l.at v (suc k)) (f v (suc k) lt)))

each_writes : (l : Layout) (a : ℕ) → Foreign l a → (step : Step) (k : ℕ) → k ≤ l.width → writes a (each_byte l step k) ≡ 0
each_writes l a f step zero le = refl
each_writes l a f step (suc k) le = writes_append a (each_byte l step k) (step_code l step k) ∙ let x : writes a (each_byte l step k) ≡ 0 = each_writes l a f step k (omega arith) in let y : writes a (step_code l step k) ≡ 0 = step_writes l a f step k le in omega arith

pub task_writes : (task : Task) (l : Layout) (a : ℕ) → 1 < l.width → Foreign l a → writes a (task_code l task) ≡ 0
task_writes task l a wide f = by task
  where
    e : (step : Step) → writes a (each_byte l step l.width) ≡ 0
    e step = each_writes l a f step l.width (omega arith)

    s0 : nat_eq a (l.at Spare 0) ≡ false
    s0 = apart a (l.at Spare 0) (f Spare 0 (omega arith))

    s1 : nat_eq a (l.at Spare 1) ≡ false
    s1 = apart a (l.at Spare 1) (f Spare 1 wide)

    r0 : nat_eq a (l.at Right 0) ≡ false
    r0 = apart a (l.at Right 0) (f Right 0 (omega arith))

    six : (s m d n r z : List Sym) → writes a s ≡ 0 → writes a m ≡ 0 → writes a d ≡ 0 → writes a n ≡ 0 → writes a r ≡ 0 → writes a z ≡ 0 → writes a (s ++ m ++ d ++ n ++ r ++ z) ≡ 0
    six s m d n r z p q t u v w = simp (writes_append, p, q, t, u, v, w)

    divides : writes a (divide_code l) ≡ 0
    divides = simp (writes_append, e, s0)

    negates : (sign n : ℕ) (v : Value) → writes a (negate_if_code l sign v n) ≡ 0
    negates sign n v = simp (writes_append, e)

    both : writes a (magnitudes_code l) ≡ 0
    both = writes_append a (negate_if_code l (l.at Left (l.width - 1)) Left 3) (negate_if_code l (l.at Right (l.width - 1)) Right 4) ∙ zero_sum _ _ (negates (l.at Left (l.width - 1)) 3 Left) (negates (l.at Right (l.width - 1)) 4 Right)
      where
        zero_sum : (x y : ℕ) → x ≡ 0 → y ≡ 0 → x + y ≡ 0
        zero_sum x y p q = omega arith

    sign : (part : Part) → writes a (sign_code l part) ≡ 0
    sign Quotient = ap (λ b. if b then 1 else 0) s1
    sign Rest = ap (λ b. if b then 1 else 0) s1

    by : (task : Task) → writes a (task_code l task) ≡ 0
    by Product = simp (writes_append, e, s0)
    by (Division Quotient) = simp (writes_append, e, s0)
    by (Division Rest) = simp (writes_append, e, s0)
    by (SignedDivision part) = six (sign_code l part) (magnitudes_code l) (divide_code l) (negate_if_code l (l.at Spare 1) (part_value part) 5) (each_byte l (Answers (part_value part)) l.width) (Return ∷ []) (sign part) both divides (negates (l.at Spare 1) 5 (part_value part)) (e (Answers (part_value part))) refl
    by (Shift Leftward) = simp (writes_append, e, r0)
    by (Shift Rightward) = simp (writes_append, e, r0)
    by (Shift SignedRightward) = simp (writes_append, e, r0)

-- A routine leaves each byte that isn't its own as it was.
pub own_bytes : (price : ℕ → ℕ) (task : Task) (l : Layout) → 1 < l.width → (n cost : ℕ) (p q : Place) → Path price (task_code l task) n cost p q → (a : ℕ) → Foreign l a → q.memory a ≡ p.memory a
own_bytes price task l wide n cost p q h a f = path_keeps price a (task_code l task) n cost p q (task_writes task l a wide f) h
