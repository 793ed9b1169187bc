-- The helpers' routines on the machine by positions.
use Rattle.std.proofs.Common.{◌≡◌, ℕ, zero, suc, ◌+◌, ◌*◌, ◌≤◌, List, [], ◌∷◌, ◌++◌, refl, ap, sym, ◌∙◌, subst, arith, Bool, true, false, drop, length, Some, slice_get}
use Rattle.std.specs.Prelude.{nat_eq, if◌then◌else◌}
use Rattle.std.proofs.Math.Seq.{drop-append_seam}
use Rattle.std.proofs.lemmas.Bool.{eq-eqb}
use Rattle.select_trace.specs.Run.{Sym, Row, Movwf, Clrf, Test, Flag, Movlw, Addlw, Xorlw, Clrw, Return, Goto, Label, Mode, Going, Machine, run}
use Rattle.select_trace.specs.Loops.{again, Loops}
use Rattle.select_trace.specs.Helpers.{Layout, Step, Clear, Answers, ShiftLeft, ShiftRight, Add, Compare, Subtract, Invert, Increment, step_code, each_byte}
use Rattle.select_trace.specs.Positions.{Place, Goes, Back, due, dues, owed, past_word, label_from, place, acts, step_at, Path, times, AllLead, AtPlace, Stands, GoesAlong, Walks, IsSound, Returns, jumps}
use Rattle.select_trace.proofs.Links.{nonzero}
use Rattle.select_trace.proofs.Positions.{along, head_is, label_here, path_then, place_is, times_append, past_some, leads_behind, drop_more}

-- ---- walks
pub walks_then : (price : ℕ → ℕ) (code : List Sym) (p q s : Place) (m n : ℕ) → Walks price code p m q → Walks price code q n s → Walks price code p (m + n) s
walks_then price code p q s m n h k = record {
  steps = h.steps + k.steps;
  cost = h.cost + k.cost;
  few = let a : h.cost ≤ m = h.few in let b : k.cost ≤ n = k.few in omega arith;
  path = path_then price code h.steps k.steps h.cost k.cost p q s h.path k.path;
}

pub dues_append : (price : ℕ → ℕ) (i : ℕ) (xs ys : List Sym) → dues price i (xs ++ ys) ≡ dues price i xs + dues price (i + length xs) ys
dues_append price i [] ys = ap (λ k. dues price k ys) (let f : i ≡ i + 0 = omega arith in f) ∙ (omega arith)
dues_append price i (x ∷ xs) ys =
    let h : dues price (i + 1) (xs ++ ys) ≡ dues price (i + 1) xs + dues price (i + 1 + length xs) ys = dues_append price (i + 1) xs ys in
    let f : dues price (i + 1 + length xs) ys ≡ dues price (i + suc (length xs)) ys = ap (λ k. dues price k ys) (let f : i + 1 + length xs ≡ i + suc (length xs) = omega arith in f) in
    put _ _ _ _ _ h f
  where
    put : (d a b c e : ℕ) → a ≡ b + c → c ≡ e → d + a ≡ d + b + e
    put d a b c e p q = omega arith

-- part of the code, at whose end the run goes
pub walks_along : (price : ℕ → ℕ) (code post : List Sym) → ((n : ℕ) → times n code ≤ 1) → (n : ℕ) × (past_word post ≡ Some n) → (xs : List Sym) (i : ℕ) (t u : Machine) → drop i code ≡ xs ++ post → AllLead code (xs ++ post) → t.mode ≡ Going → run xs t ≡ u → u.mode ≡ Going →
    Walks price code (place i t) (dues price i xs) (place (i + length xs) u)
walks_along price code post once word xs i t u e leads_on tg is ug =
    let start : Stands code i (xs ++ post) t (place i t) = record { registers = refl; memory = refl; at = subst (λ (m : Mode). AtPlace code m i (xs ++ post) (place i t)) (sym tg) refl } in
    let h : GoesAlong price code (place i t) (owed price i t.mode + dues price i xs) (i + length xs) post (run xs t) = along price code post once word xs i t (place i t) e leads_on start in
    let s : Stands code (i + length xs) post u h.out = subst (λ (v : Machine). Stands code (i + length xs) post v h.out) is h.stands in
    let at : h.out.at ≡ i + length xs = subst (λ (m : Mode). AtPlace code m (i + length xs) post h.out) ug s.at in
    let few : h.cost + owed price h.out.at (run xs t).mode ≤ owed price i t.mode + dues price i xs = h.few in
    let none : owed price i t.mode ≡ 0 = ap (owed price i) tg in
    record { steps = h.steps; cost = h.cost; few = omega arith; path = subst (λ (q : Place). Path price code h.steps h.cost (place i t) q) (place_is h.out (i + length xs) u.registers u.memory at s.registers s.memory) h.path }

same_some : {a b : ℕ} → Some a ≡ Some b → a ≡ b
same_some e = cc

-- a loop, from behind its label
pub walks_round : (price : ℕ → ℕ) (code post : List Sym) → ((n : ℕ) → times n code ≤ 1) → (n : ℕ) × (past_word post ≡ Some n) → (label i : ℕ) (body : List Sym) → drop i code ≡ Label label ∷ (body ++ post) → AllLead code (body ++ post) →
    (n : ℕ) (t u : Machine) → t.mode ≡ Going → Loops label body n t u → Walks price code (place (i + 1) t) (suc n * dues price (i + 1) body) (place (i + 1 + length body) u)
walks_round price code post once word label i body e leads_on zero t u tg h =
    let w : Walks price code (place (i + 1) t) (dues price (i + 1) body) (place (i + 1 + length body) u) = walks_along price code post once word body (i + 1) t u (head_is code i (Label label) (body ++ post) e).1 leads_on tg h.1 h.0 in
    record { steps = w.steps; cost = w.cost; few = let a : w.cost ≤ dues price (i + 1) body = w.few in omega arith; path = w.path }
walks_round price code post once word label i body e leads_on (suc n) t u tg h =
    let v : Machine = run body t in
    let start : Stands code (i + 1) (body ++ post) t (place (i + 1) t) = record { registers = refl; memory = refl; at = subst (λ (m : Mode). AtPlace code m (i + 1) (body ++ post) (place (i + 1) t)) (sym tg) refl } in
    let g : GoesAlong price code (place (i + 1) t) (owed price (i + 1) t.mode + dues price (i + 1) body) (i + 1 + length body) post v = along price code post once word body (i + 1) t (place (i + 1) t) (head_is code i (Label label) (body ++ post) e).1 leads_on start in
    let at : label_from code label 0 ≡ Some g.out.at = subst (λ (m : Mode). AtPlace code m (i + 1 + length body) post g.out) h.0 g.stands.at in
    let first : label_from code label 0 ≡ Some i = label_here code i label (body ++ post) once e in
    let here : g.out.at ≡ i = same_some (sym at ∙ first) in
    let out : g.out ≡ place i v = place_is g.out i v.registers v.memory here g.stands.registers g.stands.memory in
    let s : step_at code (place i v) ≡ Goes (place (i + 1) v) = ap (acts code (place i v)) (head_is code i (Label label) (body ++ post) e).0 in
    let free : 0 ≡ due price i (slice_get code i) + 0 = ap (λ o. due price i o + 0) (sym (head_is code i (Label label) (body ++ post) e).0) in
    let few : g.cost + owed price g.out.at v.mode ≤ owed price (i + 1) t.mode + dues price (i + 1) body = g.few in
    let none : owed price (i + 1) t.mode ≡ 0 = ap (owed price (i + 1)) tg in
    let w1 : Walks price code (place (i + 1) t) (dues price (i + 1) body) (place i v) = record { steps = g.steps; cost = g.cost; few = omega arith; path = subst (λ (q : Place). Path price code g.steps g.cost (place (i + 1) t) q) out g.path } in
    let w2 : Walks price code (place i v) 0 (place (i + 1) (again v)) = record { steps = 1; cost = 0; few = omega arith; path = (place (i + 1) v, 0, s, free, (refl, refl)) } in
    let w3 : Walks price code (place (i + 1) (again v)) (suc n * dues price (i + 1) body) (place (i + 1 + length body) u) = walks_round price code post once word label i body e leads_on n (again v) u refl h.1 in
    let all = walks_then price code _ _ _ _ _ (walks_then price code _ _ _ _ _ w1 w2) w3 in
    record { steps = all.steps; cost = all.cost; few = few_is (dues price (i + 1) body) n all.cost all.few; path = all.path }
  where
    few_is : (b n s : ℕ) → s ≤ b + 0 + suc n * b → s ≤ suc (suc n) * b
    few_is b n s h = omega (arith, h)

-- ---- what stands in the code
step_times : (n : ℕ) (l : Layout) (step : Step) (k : ℕ) → times n (step_code l step k) ≡ 0
step_times n l (Clear v) k = refl
step_times n l (Answers v) k = refl
step_times n l (ShiftLeft v) k = refl
step_times n l ShiftRight k = refl
step_times n l Add zero = refl
step_times n l Add (suc k) = rw (nonzero k) refl
step_times n l Compare zero = refl
step_times n l Compare (suc k) = rw (nonzero k) refl
step_times n l Subtract zero = refl
step_times n l Subtract (suc k) = rw (nonzero k) refl
step_times n l (Invert v) k = refl
step_times n l (Increment v) zero = refl
step_times n l (Increment v) (suc k) = rw (nonzero k) refl

pub each_times : (n : ℕ) (l : Layout) (step : Step) (k : ℕ) → times n (each_byte l step k) ≡ 0
each_times n l step zero = refl
each_times n l step (suc k) = times_append n (each_byte l step k) (step_code l step k) ∙ let a : times n (each_byte l step k) ≡ 0 = each_times n l step k in let b : times n (step_code l step k) ≡ 0 = step_times n l step k in omega arith

pub jumps_append : (l : ℕ) (xs ys : List Sym) → jumps l (xs ++ ys) ≡ jumps l xs + jumps l ys
jumps_append l [] ys = omega arith
jumps_append l (Goto n ∷ xs) ys = by (nat_eq n l) (jumps l (xs ++ ys)) (jumps l xs) (jumps l ys) (jumps_append l xs ys)
  where
    by : (b : Bool) (x y z : ℕ) → x ≡ y + z → (if b then suc x else x) ≡ (if b then suc y else y) + z
    by true x y z e = omega arith
    by false x y z e = e
jumps_append l (Label n ∷ xs) ys = jumps_append l xs ys
jumps_append l (Row op a into ∷ xs) ys = jumps_append l xs ys
jumps_append l (Movwf a ∷ xs) ys = jumps_append l xs ys
jumps_append l (Clrf a ∷ xs) ys = jumps_append l xs ys
jumps_append l (Test op a b ∷ xs) ys = jumps_append l xs ys
jumps_append l (Flag op b ∷ xs) ys = jumps_append l xs ys
jumps_append l (Movlw v ∷ xs) ys = jumps_append l xs ys
jumps_append l (Addlw v ∷ xs) ys = jumps_append l xs ys
jumps_append l (Xorlw v ∷ xs) ys = jumps_append l xs ys
jumps_append l (Clrw ∷ xs) ys = jumps_append l xs ys
jumps_append l (Return ∷ xs) ys = jumps_append l xs ys

step_jumps : (n : ℕ) (l : Layout) (step : Step) (k : ℕ) → jumps n (step_code l step k) ≡ 0
step_jumps n l (Clear v) k = refl
step_jumps n l (Answers v) k = refl
step_jumps n l (ShiftLeft v) k = refl
step_jumps n l ShiftRight k = refl
step_jumps n l Add zero = refl
step_jumps n l Add (suc k) = rw (nonzero k) refl
step_jumps n l Compare zero = refl
step_jumps n l Compare (suc k) = rw (nonzero k) refl
step_jumps n l Subtract zero = refl
step_jumps n l Subtract (suc k) = rw (nonzero k) refl
step_jumps n l (Invert v) k = refl
step_jumps n l (Increment v) zero = refl
step_jumps n l (Increment v) (suc k) = rw (nonzero k) refl

pub each_jumps : (n : ℕ) (l : Layout) (step : Step) (k : ℕ) → jumps n (each_byte l step k) ≡ 0
each_jumps n l step zero = refl
each_jumps n l step (suc k) = jumps_append n (each_byte l step k) (step_code l step k) ∙ let a : jumps n (each_byte l step k) ≡ 0 = each_jumps n l step k in let b : jumps n (step_code l step k) ≡ 0 = step_jumps n l step k in omega arith

-- a label that stands there is found
pub lead : (l n : ℕ) (code : List Sym) → 1 ≤ times l code → (k : ℕ) × (label_from code l n ≡ Some k)
lead l n [] h = absurd (omega arith)
lead l n (Label m ∷ xs) h = by (nat_eq m l) h (lead l (n + 1) xs)
  where
    by : (b : Bool) → 1 ≤ (if b then suc (times l xs) else times l xs) → (1 ≤ times l xs → (k : ℕ) × (label_from xs l (n + 1) ≡ Some k)) → (k : ℕ) × ((if b then Some n else label_from xs l (n + 1)) ≡ Some k)
    by true h f = (n, refl)
    by false h f = f h
lead l n (Row op a into ∷ xs) h = lead l (n + 1) xs h
lead l n (Movwf a ∷ xs) h = lead l (n + 1) xs h
lead l n (Clrf a ∷ xs) h = lead l (n + 1) xs h
lead l n (Test op a b ∷ xs) h = lead l (n + 1) xs h
lead l n (Flag op b ∷ xs) h = lead l (n + 1) xs h
lead l n (Movlw v ∷ xs) h = lead l (n + 1) xs h
lead l n (Addlw v ∷ xs) h = lead l (n + 1) xs h
lead l n (Xorlw v ∷ xs) h = lead l (n + 1) xs h
lead l n (Clrw ∷ xs) h = lead l (n + 1) xs h
lead l n (Return ∷ xs) h = lead l (n + 1) xs h
lead l n (Goto m ∷ xs) h = lead l (n + 1) xs h

-- where each jump's label stands, once
pub all_lead : (code xs : List Sym) → ((n : ℕ) → 1 ≤ jumps n xs → 1 ≤ times n code) → AllLead code xs
all_lead code [] h = tt
all_lead code (Goto l ∷ xs) h =
    let found = lead l 0 code (h l (ap_le (nat_eq l l) (jumps l xs) (eq-eqb l l refl))) in
    (found.0, found.1, all_lead code xs (λ n le. h n (more (nat_eq l n) (jumps n xs) le)))
  where
    ap_le : (b : Bool) (x : ℕ) → b ≡ true → 1 ≤ (if b then suc x else x)
    ap_le true x e = omega arith
    ap_le false x e = absurd (cc)

    more : (b : Bool) (x : ℕ) → 1 ≤ x → 1 ≤ (if b then suc x else x)
    more true x le = omega arith
    more false x le = le
all_lead code (Label n ∷ xs) h = all_lead code xs h
all_lead code (Row op a into ∷ xs) h = all_lead code xs h
all_lead code (Movwf a ∷ xs) h = all_lead code xs h
all_lead code (Clrf a ∷ xs) h = all_lead code xs h
all_lead code (Test op a b ∷ xs) h = all_lead code xs h
all_lead code (Flag op b ∷ xs) h = all_lead code xs h
all_lead code (Movlw v ∷ xs) h = all_lead code xs h
all_lead code (Addlw v ∷ xs) h = all_lead code xs h
all_lead code (Xorlw v ∷ xs) h = all_lead code xs h
all_lead code (Clrw ∷ xs) h = all_lead code xs h
all_lead code (Return ∷ xs) h = all_lead code xs h

pub sound_from : (code : List Sym) → ((n : ℕ) → times n code ≤ 1) → ((n : ℕ) → 1 ≤ jumps n code → 1 ≤ times n code) → IsSound code
sound_from code once h = record { once = once; leads = all_lead code code h }

-- ---- a routine of a start, one loop and an end
abbrev pub whole_most : (ℕ → ℕ) → List Sym → List Sym → List Sym → ℕ → ℕ
whole_most price start body end rounds = dues price 0 start + rounds * dues price (length start + 1) body + dues price (length start + 1 + length body) (end ++ (Return ∷ []))

pub walks_whole : (price : ℕ → ℕ) (start body end : List Sym) (label : ℕ) → IsSound (start ++ (Label label ∷ (body ++ (end ++ (Return ∷ []))))) → (n : ℕ) (t s u v : Machine) → t.mode ≡ Going → run start t ≡ s → s.mode ≡ Going → Loops label body n s u → u.mode ≡ Going → run end u ≡ v → v.mode ≡ Going →
    Returns price (start ++ (Label label ∷ (body ++ (end ++ (Return ∷ []))))) (place 0 t) (whole_most price start body end (suc n)) (place (length start + 1 + length body + length end) v)
walks_whole price start body end label sound n t s u v tg st sg loops ug vt vg = record { steps = w.steps; cost = w.cost; few = few; path = w.path; back = back }
  where
    code : List Sym
    code = start ++ (Label label ∷ (body ++ (end ++ (Return ∷ []))))

    d1 : drop (length start) code ≡ Label label ∷ (body ++ (end ++ (Return ∷ [])))
    d1 = drop-append_seam start (Label label ∷ (body ++ (end ++ (Return ∷ []))))

    front : (xs ys : List Sym) → AllLead code (xs ++ ys) → AllLead code ys
    front xs ys h = leads_behind code xs ys h

    l1 : AllLead code (Label label ∷ (body ++ (end ++ (Return ∷ []))))
    l1 = front start (Label label ∷ (body ++ (end ++ (Return ∷ [])))) sound.leads

    l2 : AllLead code (end ++ (Return ∷ []))
    l2 = front body (end ++ (Return ∷ [])) l1

    word : (xs : List Sym) → (n : ℕ) × (past_word (xs ++ (Return ∷ [])) ≡ Some n)
    word xs = past_some xs (Return ∷ []) (1, refl)

    word1 : (n : ℕ) × (past_word (Label label ∷ (body ++ (end ++ (Return ∷ [])))) ≡ Some n)
    word1 = past_some (Label label ∷ []) (body ++ (end ++ (Return ∷ []))) (past_some body (end ++ (Return ∷ [])) (word end))

    w1 : Walks price code (place 0 t) (dues price 0 start) (place (length start) s)
    w1 = subst (λ (k : ℕ). Walks price code (place 0 t) (dues price 0 start) (place k s)) (let e : 0 + length start ≡ length start = omega arith in e)
        (walks_along price code (Label label ∷ (body ++ (end ++ (Return ∷ [])))) sound.once word1 start 0 t s refl sound.leads tg st sg)

    w2 : Walks price code (place (length start) s) 0 (place (length start + 1) s)
    w2 =
        let h : slice_get code (length start) ≡ Some (Label label) = (head_is code (length start) (Label label) (body ++ (end ++ (Return ∷ []))) d1).0 in
        record { steps = 1; cost = 0; few = omega arith; path = (place (length start + 1) s, 0, ap (acts code (place (length start) s)) h, ap (λ o. due price (length start) o + 0) (sym h), (refl, refl)) }

    w3 : Walks price code (place (length start + 1) s) (suc n * dues price (length start + 1) body) (place (length start + 1 + length body) u)
    w3 = walks_round price code (end ++ (Return ∷ [])) sound.once (word end) label (length start) body d1 l1 n s u sg loops

    d2 : drop (length start + 1 + length body) code ≡ end ++ (Return ∷ [])
    d2 = drop_more code (length start + 1) body (end ++ (Return ∷ [])) (head_is code (length start) (Label label) (body ++ (end ++ (Return ∷ []))) d1).1

    w4 : Walks price code (place (length start + 1 + length body) u) (dues price (length start + 1 + length body) end) (place (length start + 1 + length body + length end) v)
    w4 = walks_along price code (Return ∷ []) sound.once (1, refl) end (length start + 1 + length body) u v d2 l2 ug vt vg

    d3 : drop (length start + 1 + length body + length end) code ≡ Return ∷ []
    d3 = drop_more code (length start + 1 + length body) end (Return ∷ []) d2

    w : Walks price code (place 0 t) (dues price 0 start + 0 + suc n * dues price (length start + 1) body + dues price (length start + 1 + length body) end) (place (length start + 1 + length body + length end) v)
    w = walks_then price code _ _ _ _ _ (walks_then price code _ _ _ _ _ (walks_then price code _ _ _ _ _ w1 w2) w3) w4

    few : w.cost + price (length start + 1 + length body + length end) ≤ whole_most price start body end (suc n)
    few = put (dues price 0 start) (suc n * dues price (length start + 1) body) _ _ _ _ w.few (dues_append price (length start + 1 + length body) end (Return ∷ []))
      where
        put : (a b c d p x : ℕ) → x ≤ a + 0 + b + c → d ≡ c + (p + 0) → x + p ≤ a + b + d
        put a b c d p x h e = omega arith

    back : step_at code (place (length start + 1 + length body + length end) v) ≡ Back
    back = ap (acts code (place (length start + 1 + length body + length end) v)) (head_is code (length start + 1 + length body + length end) Return [] d3).0
